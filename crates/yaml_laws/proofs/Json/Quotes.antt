-- The strings of JSON are double quoted scalars of YAML's grammar, on one line.
use Rattle.yaml_laws.proofs.Common.{List, [], ap, append_assoc, arith, codes, false, inl, inr, refl, true, ℕ, ◌++◌, ◌∷◌, ◌≡◌, ◌==◌, nat_tests, IsHex, AreIn, Double, raw_item, both_in, IsQuoted, stands_for_itself, IsText, closed, itself, escaped, numbered, Item, folded, is_before_break, IsUnescaped, IsJsonEscape, IsJsonSpelling, AreSpellings, IsString}
use Rattle.saphyr_scalar.specs.declared.values.Item.TheVariants.{Blank, Raw, Escaped, Break, EscapedBreak}
use Rattle.scalar_laws.proofs.Quoted.Reads.{AreOnLine, line_fits}
use Rattle.yaml_laws.proofs.Json.Escapes.{short_fits, code_fits}
use Rattle.yaml_laws.proofs.Json.Calm.{IsCalm, is_no_break, calm_line}

unescaped_stands : (c : ℕ) → IsUnescaped c → stands_for_itself Double c ≡ true
unescaped_stands c h = grind (arith, nat_tests)

-- ## The items of a string

-- Items on one line, which stand for these characters.
record Spells (t value : List ℕ) : Type 0 where
  items : List Item
  text : IsText Double (t ++ codes "\"") items []
  line : AreOnLine items
  value_is : folded items ≡ value

before_no_break : (items : List Item) → AreOnLine items → is_before_break items ≡ false
before_no_break [] h = refl
before_no_break (Blank c ∷ items) h = before_no_break items h
before_no_break (Raw c ∷ items) h = refl
before_no_break (Escaped c ∷ items) h = refl
before_no_break (Break ∷ items) h = absurd h
before_no_break (EscapedBreak ∷ items) h = refl

-- an item of a character that stands for itself
raw_line : (c : ℕ) (items : List Item) → (c == 10) ≡ false → AreOnLine items → AreOnLine (raw_item c ∷ items)
raw_line c items h on = grind arith

raw_folded : (c : ℕ) (items : List Item) → (c == 10) ≡ false → AreOnLine items
    → folded (raw_item c ∷ items) ≡ c ∷ folded items
raw_folded c items h on = grind (arith, before_no_break)

-- By how JSON spells the character: as itself, by a short escape, or by four digits. Each is an item of a double-quoted
-- text in YAML, with the same value.
one_spells : (c : ℕ) (spelling more value : List ℕ) → IsJsonSpelling c spelling → Spells more value
    → Spells (spelling ++ more) (c ∷ value)
one_spells c spelling more value (inl h) r =
    let n : (c == 10) ≡ false = no_feed c h.0 in
    rw h.1 (record {
      items = raw_item c ∷ r.items;
      text = itself Double c (more ++ codes "\"") r.items [] (unescaped_stands c h.0) r.text;
      line = raw_line c r.items n r.line;
      value_is = cc (raw_folded c r.items n r.line);
    })
  where
    no_feed : (c : ℕ) → IsUnescaped c → (c == 10) ≡ false
    no_feed c h = grind (arith, nat_tests)
one_spells c spelling more value (inr (inl h)) r = rw h.2 (record {
  items = Escaped c ∷ r.items;
  text = escaped h.0 c (more ++ codes "\"") r.items [] (short_fits h.0 c h.1) r.text;
  line = r.line;
  value_is = ap (λ (y : List ℕ). c ∷ y) r.value_is;
})
one_spells c spelling more value (inr (inr h)) r = rw h.3 (record {
  items = Escaped c ∷ r.items;
  text = rw (append_assoc h.0 more (codes "\""))
      (numbered 117 c h.0 (more ++ codes "\"") r.items [] (code_fits c h.0 h.1 h.2) r.text);
  line = r.line;
  value_is = ap (λ (y : List ℕ). c ∷ y) r.value_is;
})

spells : (value t : List ℕ) → AreSpellings value t → Spells t value
spells [] t h = rw h (record { items = []; text = closed Double [] refl; line = tt; value_is = refl })
spells (c ∷ others) t h = rw h.4 (one_spells c h.0 h.1 others h.2 (spells others h.1 h.3))

-- A string of JSON is a double quoted scalar, of the same characters.
pub string_quoted : (indent : ℕ) (value t : List ℕ) → IsString value t → IsQuoted Double indent value t
string_quoted indent value t h = grind (arith, spells, line_fits)

-- ## No break and no marker is in it

hex_no_break : (d : ℕ) → IsHex d → is_no_break d ≡ true
hex_no_break d h = grind (arith, nat_tests)

letter_no_break : (letter c : ℕ) → IsJsonEscape letter c → is_no_break letter ≡ true
letter_no_break letter c h = grind arith

one_no_break : (c : ℕ) (t : List ℕ) → IsJsonSpelling c t → AreIn is_no_break t
one_no_break c t (inl h) = grind arith
one_no_break c t (inr (inl h)) = rw h.2 (refl, (letter_no_break h.0 c h.1, tt))
one_no_break c t (inr (inr (code, (d3, d2, d1, d0, h3, h2, h1, h0, is, spelled), other, e))) =
    grind (arith, hex_no_break)

inside_no_break : (value t : List ℕ) → AreSpellings value t → AreIn is_no_break t
inside_no_break [] t h = rw h tt
inside_no_break (c ∷ others) t h =
    rw h.4 (both_in is_no_break h.0 h.1 (one_no_break c h.0 h.2) (inside_no_break others h.1 h.3))

pub string_no_break : (value t : List ℕ) → IsString value t → AreIn is_no_break t
string_no_break value t h = grind (arith, both_in, inside_no_break)

pub string_calm : (value t : List ℕ) → IsString value t → IsCalm t
string_calm value t h = rw h.2 (calm_line 34 (h.0 ++ codes "\"") (rw h.2 at (string_no_break value t h)) (λ rest. refl))
