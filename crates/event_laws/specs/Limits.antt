-- What a parser allows a text.
pub use Rattle.saphyr_scanner.specs.Limits.{most_characters}
