-- Laws of the words of bytes, and what the proofs of the functions cite. Laws is the module to read first.
pub mod Words
pub mod Laws
