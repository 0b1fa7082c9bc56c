-- What asking for a thread gives.
pub mod ThreadCalls
