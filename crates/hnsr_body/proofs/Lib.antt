pub mod Utf8Table
