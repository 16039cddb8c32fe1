pub mod Numbers
pub mod Bytes
pub mod Words
pub mod Cursor
pub mod Texts
pub mod Sums
pub mod Loops
pub mod Laws
