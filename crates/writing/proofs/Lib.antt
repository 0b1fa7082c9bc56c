-- Laws of the layout, and how each function writes its words.
pub mod Layouts
pub mod Buffers
pub mod Listing
pub mod Widths
pub mod Solved
pub mod Starts
pub mod Hops
pub mod Stepping
pub mod Filling
pub mod Bundling
pub mod Reporting
pub mod Walks
