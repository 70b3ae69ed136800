pub mod Bytes
pub mod Lexing
pub mod Numbered
pub mod Quotes
pub mod Runs
pub mod Symbols
