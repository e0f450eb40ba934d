-- What contracts see of the texts of the tokens in a queue.
use Rattle.std.specs.Prelude.{take, drop, length, [], ◌∷◌, ◌++◌, ◌≤◌, ◌≡◌, List, ℕ, IsUtf8}
use Rattle.saphyr_scanner.specs.declared.queue.texts.Extent.{Extent}

-- the bytes of the texts one after another, and the extents of the tokens whose places have no room for them
pub record Texts : Type 0 where
  pub bytes : List ℕ
  pub extents : List Extent

abbrev pub nothing : Texts
nothing = record { bytes = []; extents = [] }

abbrev pub with_last_text : List ℕ → Texts → Texts
with_last_text text s = record { bytes = s.bytes ++ text; extents = s.extents }

abbrev pub with_last_extent : Extent → Texts → Texts
with_last_extent e s = record { bytes = s.bytes; extents = s.extents ++ e ∷ [] }

abbrev pub behind_text : ℕ → Texts → Texts
behind_text n s = record { bytes = drop n s.bytes; extents = s.extents }

-- the bytes that came behind those that were there
abbrev pub added : Texts → Texts → List ℕ
added old new = drop (length old.bytes) new.bytes

-- It is a text of so many bytes.
abbrev pub IsTextOf : ℕ → List ℕ → Type 0
IsTextOf n text = (n ≡ length text) × ∥ IsUtf8 text ∥₁

-- The first so many bytes are a text.
abbrev pub BeginsWithText : ℕ → Texts → Type 0
BeginsWithText n s = (n ≤ length s.bytes) × ∥ IsUtf8 (take n s.bytes) ∥₁

-- So do those behind them.
abbrev pub BeginsWithTexts : ℕ → ℕ → Texts → Type 0
BeginsWithTexts n m s = BeginsWithText n s × BeginsWithText m (behind_text n s)

-- the first of them, or one at the start of a text
abbrev pub first_extent : List Extent → Extent
first_extent [] = record {
  span = record { start = record { index = 0; line = 0; col = 0 }; end = record { index = 0; line = 0; col = 0 } };
  handle = 0;
  text = 0;
  major = 0;
  minor = 0;
}
first_extent (e ∷ es) = e

-- the texts after those of the first extent's token
abbrev pub behind_extent : Texts → Texts
behind_extent s =
    let e = first_extent s.extents in
    behind_text e.text (behind_text e.handle (record { bytes = s.bytes; extents = drop 1 s.extents }))

-- The texts of the first extent's token are there.
abbrev pub HasExtent : Texts → Type 0
HasExtent s =
    (1 ≤ length s.extents) × BeginsWithTexts (first_extent s.extents).handle (first_extent s.extents).text s
