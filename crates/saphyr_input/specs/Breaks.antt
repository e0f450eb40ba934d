-- Line breaks inside scalars (YAML 1.2.2, 5.4).
use Rattle.std.specs.Prelude.{ℕ, ◌==◌, if◌then◌else◌, List, [], ◌∷◌, ◌++◌, slice_index}
use Rattle.saphyr_input.specs.Classes.{line_feed, carriage_return}

-- What a character before others becomes: a CR before an LF goes, another is an LF, and all else stays.
abbrev pub normal_break : ℕ → List ℕ → List ℕ
normal_break c others =
    if c == carriage_return then (if slice_index others 0 == line_feed then [] else line_feed ∷ []) else c ∷ []

-- the text with each CR LF and each other CR made LF
abbrev pub normalized : List ℕ → List ℕ
normalized [] = []
normalized (c ∷ cs) = normal_break c cs ++ normalized cs
