-- What all that is shown of the scanner's steps goes by.
pub mod Choice
