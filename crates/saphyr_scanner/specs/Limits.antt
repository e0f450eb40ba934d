-- What a scanner and its callers allow a text.
use Rattle.std.specs.Prelude.{ℕ}

-- how many flow collections may be open at once
abbrev pub most_open : ℕ
most_open = 255

-- how many characters a text may have, where its caller sets no other limit
abbrev pub most_characters : ℕ
most_characters = 4294967295
