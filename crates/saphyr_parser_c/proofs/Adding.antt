-- What a parser is after bytes were added to the text that comes in pieces, and what it is with its event.
use Rattle.std.proofs.Common.{◌≡◌, ◌∙◌, ◌<◌, ◌≤◌, ℕ, List, [], ◌∷◌, ◌++◌, length, ap, append-nil, append_assoc, arith, refl, subst, sym}
use Rattle.std.specs.Prelude.{IsUtf8}
use Rattle.std.specs.Str.{chars}
use Rattle.std.specs.declared.boxed.Box.{Box}
use Rattle.std.specs.declared.vec.Vec.{Vec}
use Rattle.std.specs.Global.{Global}
use Rattle.saphyr_pieces.specs.Pieces.{at}
use Rattle.saphyr_parser_c.specs.declared.coming.Coming.{Coming}
use Rattle.saphyr_parser_c.specs.declared.coming.Extent.{Extent}
use Rattle.saphyr_parser_c.specs.declared.coming.Extent.TheVariants as extent
use Rattle.saphyr_parser_c.specs.declared.inner.Inner.{Inner}
use Rattle.saphyr_parser_c.specs.declared.source.Source.{Source}
use Rattle.saphyr_parser_c.specs.declared.source.Source.TheVariants as source
use Rattle.saphyr_parser_c.specs.declared.status.Status.{Status}
use Rattle.saphyr_parser_c.specs.declared.status.Status.TheVariants as status
use Rattle.saphyr_parser_c.specs.Coming.{Adds, AddsBytes, AddsSome, TakesWhole, TakesIn}
use Rattle.saphyr_parser_c.specs.Encoding.{IsCutCharacter, IsUtf8SoFar}
use Rattle.saphyr_parser_c.specs.Inner.{AddsBytesFrom, AddsToC}
use Rattle.saphyr_parser_c.proofs.Bytes.{rest_waits, text_is_utf8_so_far}

-- the text that comes in pieces has the bytes
pub adds_to_pieces : (bytes : List ℕ) (before after : Inner) (old new : Box Coming Global) (s : Status)
    → before.source ≡ source.Pieces old → after.source ≡ source.Pieces new → Adds bytes old.value s new.value
    → after ≡ record before { source = after.source } → AddsToC bytes before s after
adds_to_pieces bytes before after old new s is_old is_new adds stays =
    subst (λ (from : Source). AddsBytesFrom from bytes before s after) (sym is_old) (new, is_new, adds, stays)

-- characters that are added are taken in with the bytes that wait behind them
pub front_taken : (front bytes : List ℕ) (waiting : Vec ℕ Global) (old new : Coming) (s : Status)
    → front ++ waiting.items ≡ bytes → IsUtf8 front → IsUtf8SoFar bytes
    → (length waiting.items ≤ 3) × IsCutCharacter waiting.items → TakesWhole front waiting old s new
    → TakesIn bytes old s new
front_taken front bytes waiting old new status.Done all utf8 so_far cut (added, waits, goes_on) = (
  λ later. subst
      (λ (w : Vec ℕ Global). at new.parser (chars (w.items ++ later)) ≡ at old.parser (chars (bytes ++ later)))
      (sym waits) (rest_waits (at old.parser) (at new.parser) front waiting.items bytes all utf8 added later),
  so_far,
  subst (λ (w : Vec ℕ Global). (length w.items ≤ 3) × IsCutCharacter w.items) (sym waits) cut,
  goes_on,
)
front_taken front bytes waiting old new status.NoMemory all utf8 so_far cut lost = lost
front_taken front bytes waiting old new _ all utf8 so_far cut taken = absurd taken

-- a text is taken in where no bytes wait behind it
pub text_taken : (text : List ℕ) (none : Vec ℕ Global) (old new : Coming) (s : Status) → none.items ≡ [] → IsUtf8 text
    → IsCutCharacter [] → TakesWhole text none old s new → TakesIn text old s new
text_taken text none old new s is utf8 cut taken =
    front_taken text text none old new s (ap (λ (bs : List ℕ). text ++ bs) is ∙ append-nil text) utf8
    (text_is_utf8_so_far text utf8)
    (subst (λ (bs : List ℕ). (length bs ≤ 3) × IsCutCharacter bs) (sym is) (omega arith, cut)) taken

-- bytes that are taken in behind those that wait are added
taken_are_added : (bytes : List ℕ) (old new : Coming) (s : Status) → TakesIn (old.waiting.items ++ bytes) old s new
    → AddsSome bytes old s new
taken_are_added bytes old new status.Done (places, so_far, waits, goes_on) = (
  λ later. places later ∙ ap (λ (bs : List ℕ). at old.parser (chars bs)) (append_assoc old.waiting.items bytes later),
  so_far,
  waits,
  goes_on,
)
taken_are_added bytes old new _ taken = taken

not_all : (e : Extent) (bytes : List ℕ) (old new : Coming) (s : Status) → (e ≡ extent.All → ⊥) → 0 < length bytes
    → AddsSome bytes old s new → AddsBytes e bytes old s new
not_all e [] old new s goes_on some added = absurd (omega arith)
not_all extent.Nothing (b ∷ bs) old new s goes_on some added = added
not_all extent.Part (b ∷ bs) old new s goes_on some added = added
not_all extent.All (b ∷ bs) old new s goes_on some added = absurd (goes_on refl)

-- where none wait, the bytes are taken in alone
pub first_are_added : (bytes : List ℕ) (old new : Coming) (s : Status) → (old.extent ≡ extent.All → ⊥)
    → 0 < length bytes → old.waiting.items ≡ [] → TakesIn bytes old s new → Adds bytes old s new
first_are_added bytes old new s goes_on some none taken =
    not_all old.extent bytes old new s goes_on some
    (taken_are_added bytes old new s (subst (λ (bs : List ℕ). TakesIn (bs ++ bytes) old s new) (sym none) taken))
