-- A turn of the reader of a URI's characters: those that begin no escape, and the escape after them or the end.
use Rattle.saphyr_scalar.proofs.Common.{◌≡◌, ℕ, ◌<◌, true, List, ◌++◌, length, slice_index, Result, Ok, Err, sym, ap, ◌∙◌, arith, encode_utf8, percent_sign, Marker, Refusal, UriSet, Cursor}
use Rattle.saphyr_scalar.specs.Steps.Quoted.{with_front, mid_line}
use Rattle.saphyr_scalar.specs.Steps.Tag.{is_in_set, percent_escape, uri_character, decoded_at}
use Rattle.saphyr_scalar.proofs.Properties.BareCharacters.{BareTurn, escape_in_set, escape_is_character}
use Rattle.saphyr_scalar.proofs.Properties.PercentEscapes.{has_left, character_on, character_refused, character_shorter, characters_end}

module _ (set : UriSet) (start : Marker) (text grown : List ℕ) (s t : Cursor) (c : ℕ) where
  escape_next : BareTurn set start text grown s t c → c ≡ percent_sign → slice_index t.rest 0 ≡ percent_sign
  escape_next turn is = sym turn.read ∙ is

  in_set : BareTurn set start text grown s t c → c ≡ percent_sign → is_in_set set (slice_index t.rest 0) ≡ true
  in_set turn is = escape_in_set set (slice_index t.rest 0) (escape_next turn is)

  as_character : (r : Result (ℕ × Cursor) Refusal) → BareTurn set start text grown s t c → c ≡ percent_sign
      → percent_escape start t ≡ r → uri_character start t ≡ r
  as_character r turn is e = escape_is_character start t (escape_next turn is) ∙ e

  pub escape_refused : (r : Refusal) → BareTurn set start text grown s t c → c ≡ percent_sign
      → percent_escape start t ≡ Err r → with_front text (decoded_at set start s) ≡ Err r
  escape_refused r turn is e =
      sym turn.reached ∙ character_refused set start grown t r (in_set turn is) (as_character (Err r) turn is e)

  pub escape_on : (e : ℕ) (u : Cursor) (pushed : List ℕ) → BareTurn set start text grown s t c → c ≡ percent_sign
      → percent_escape start t ≡ Ok (e, u) → pushed ≡ grown ++ encode_utf8 e
      → with_front pushed (decoded_at set start u) ≡ with_front text (decoded_at set start s)
  escape_on e u pushed turn is read put = ap (λ b. with_front b (decoded_at set start u)) put
      ∙ character_on set start grown t u e (in_set turn is) (as_character (Ok (e, u)) turn is read) ∙ turn.reached

  pub escape_shorter : (e : ℕ) (u : Cursor) → BareTurn set start text grown s t c → c ≡ percent_sign
      → percent_escape start t ≡ Ok (e, u) → length u.rest < length s.rest
  escape_shorter e u turn is read = grind (arith, character_shorter, has_left, in_set, as_character)

  -- no escape comes next
  pub bare_ends : BareTurn set start text grown s t c → (c ≡ percent_sign → ⊥)
      → with_front text (decoded_at set start s) ≡ Ok (grown, mid_line t.mark t.rest)
  bare_ends turn other = sym turn.reached ∙ characters_end set start grown t (turn.stops other)
