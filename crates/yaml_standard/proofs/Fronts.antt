-- The bytes of a piece at the front of a text.
use Rattle.std.proofs.Common.{◌≡◌, ℕ, ◌-◌, ◌≤◌, List, ◌++◌, length, take, drop, IsUtf8, rules, refl, sym, ap, ◌∙◌, encode_utf8_all}
use Rattle.std.specs.Prelude.{slice_range}
use Rattle.std.specs.Str.{chars, IsCharBoundary}
use Rattle.std.proofs.lemmas.List.{take_at, drop_at}
use Rattle.saphyr_input.proofs.Texts.{front_of}

pub from_start : (bs : List ℕ) (n : ℕ) → slice_range bs 0 n ≡ take n bs
from_start bs n = search rules

pub record PieceFront (bs rs piece : List ℕ) : Type 0 where
  pub fits : length rs ≤ length bs
  pub boundary : IsCharBoundary bs (length bs - length rs)
  pub front : take (length bs - length rs) bs ≡ encode_utf8_all piece

pub piece_front : (bs rs piece : List ℕ) → IsUtf8 bs → IsUtf8 rs → chars bs ≡ piece ++ chars rs → PieceFront bs rs piece
piece_front bs rs piece u v e =
    let n = length piece in
    let h = front_of bs rs n u v (sym (ap (drop n) e ∙ drop_at piece (chars rs) n refl)) in
    record {
      fits = h.fits;
      boundary = h.boundary;
      front = h.front ∙ ap encode_utf8_all (ap (take n) e ∙ take_at piece (chars rs) n refl);
    }
