-- The words of the promises that crates below define, for a crate that lists `saphyr_parser` alone.
pub use Rattle.saphyr_input.specs.Listed
pub use Rattle.saphyr_scalar.specs.declared.scalar.position.Marker
pub use Rattle.saphyr_scalar.specs.declared.scalar.position.Span
pub use Rattle.saphyr_scanner.specs.Grammar.Forest
pub use Rattle.saphyr_scanner.specs.Grammar.Tokens
pub use Rattle.saphyr_scanner.specs.Grammar.TokenGrammar
pub use Rattle.saphyr_scanner.specs.Limits.{most_open}
pub use Rattle.saphyr_scanner.specs.Steps.Remaining
pub use Rattle.saphyr_scanner.specs.TokensTaken
pub use Rattle.yaml_laws.specs.Grammar.Json
pub use Rattle.yaml_laws.specs.Grammar.Yaml
pub use Rattle.yaml_laws.specs.Grammar.ClosedTexts
