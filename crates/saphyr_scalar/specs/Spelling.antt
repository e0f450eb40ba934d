-- How quoted scalars, names, tags and directives are spelled, in the standard's words.
pub mod LineBreaks
pub mod ClosingQuote
pub mod LaterLines
pub mod OneLine
pub mod Quoted
pub mod QuotedMarkers
pub mod IndentedQuotes
pub mod Tag
pub mod Directive
