pub mod Bodies
pub mod Fields
pub mod Texts
pub mod Numbers
pub mod Lists
pub mod Printing
