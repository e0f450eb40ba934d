-- Each reader of plain and quoted scalars takes something off the text. `Block/Placed` has the reader of block scalars.
use Rattle.saphyr_scalar.proofs.Common.{◌≡◌, ℕ, ◌<◌, Bool, List, length, length-append, drop, slice_index, Ok, Option, ap, arith, Item, Quote, Single, Double, Marker, Cursor}
use Rattle.saphyr_scalar.specs.Values.Flow as flow
use Rattle.saphyr_scalar.specs.Spelling.Quoted as quotes
use Rattle.saphyr_scalar.specs.Steps.Quoted.{break_len, quoted}
use Rattle.saphyr_scalar.specs.Steps.Plain.{plain}
use Rattle.saphyr_scalar.proofs.Passings.{drop_less}
use Rattle.saphyr_scalar.proofs.Plain.Sound.{plain_reads}
use Rattle.saphyr_scalar.proofs.Quoted.SpelledLines.{quoted_spelled}

pub plain_takes : (in_flow : Bool) (indent : ℕ) (s t : Cursor) (text : List ℕ) (end : Marker) (comment : Option Marker)
    → plain in_flow indent s ≡ Ok (text, end, comment, t) → length t.rest < length s.rest
plain_takes in_flow indent s t text end comment e = grind (arith, plain_reads, length-append)

-- a text up to its closing quote has characters
text_takes : (q : Quote) (t : List ℕ) (items : List Item) (x : List ℕ) → quotes.IsText q t items x
    → length x < length t
text_takes _ _ _ _ (quotes.closed q x h) = omega arith
text_takes _ _ _ _ (quotes.itself q c t items x h r) = omega (arith, text_takes q t items x r)
text_takes _ _ _ _ (quotes.broken q t items x h r) =
    omega (arith, drop_less t h, text_takes q (drop (break_len t) t) items x r)
text_takes _ _ _ _ (quotes.two_quotes t items x r) = omega (arith, text_takes Single t items x r)
text_takes _ _ _ _ (quotes.escaped e c t items x h r) = omega (arith, text_takes Double t items x r)
text_takes _ _ _ _ (quotes.numbered e c ds t items x h r) =
    omega (arith, length-append ds t, text_takes Double t items x r)
text_takes _ _ _ _ (quotes.escaped_break t items x h r) =
    omega (arith, drop_less t h, text_takes Double (drop (break_len t) t) items x r)

pub quoted_takes : (quote : Quote) (indent : ℕ) (s t : Cursor) (text : List ℕ) → slice_index s.rest 0 ≡ flow.mark quote
    → quoted quote indent s ≡ Ok (text, t) → length t.rest < length s.rest
quoted_takes quote indent s t text opening read =
    let (items, (inside, cut, is), bytes, passed) = quoted_spelled quote indent s text t opening read in
    omega (arith, ap (λ (l : List ℕ). length l) cut, text_takes quote inside items t.rest is)
