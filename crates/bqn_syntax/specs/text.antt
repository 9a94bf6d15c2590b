-- A source as text, and its tokens.
pub mod Text
pub mod Table
pub mod Cut
pub mod Words
pub mod Tokens
pub mod Fitting
pub mod Laws
