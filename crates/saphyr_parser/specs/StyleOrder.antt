-- The order of the styles of scalars (YAML 1.2.2, 7.3 and 8.1): that in which they are declared.
use Rattle.std.specs.Prelude.{ℕ}
use Rattle.saphyr_scanner.specs.Grammar.Forest.{Style, Plain, SingleQuoted, DoubleQuoted, Literal, Folded}

-- how many styles come before this one
abbrev pub style_rank : Style → ℕ
style_rank Plain = 0
style_rank SingleQuoted = 1
style_rank DoubleQuoted = 2
style_rank Literal = 3
style_rank Folded = 4
