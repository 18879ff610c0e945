pub mod GivenBytes
