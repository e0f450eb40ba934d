-- Lemmas that each crate uses: on tests, numbers, lists, and the classes of characters.
pub mod Booleans
pub mod Characters
pub mod Lists
pub mod Numbers
