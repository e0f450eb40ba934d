use Rattle.std.proofs.Common.{◌≡◌, ap, ◌∙◌, sym, subst, List, ℕ, ◌++◌, Bool, true, append_assoc}
use Rattle.std.specs.Str.{chars}
use Rattle.std.proofs.lemmas.Str.{IsUtf8-string_bytes, chars-append}
use Rattle.saphyr_pieces.specs.Pieces.{AddsFrom, AddsText, Pieces, waiting, wants_more}
use Rattle.saphyr_pieces.specs.Views.{pieces_of}
use Rattle.saphyr_pieces.proofs.Places.{added}
use Rattle.saphyr_pieces.proofs.pieces.PieceReader.add.Goals as goal

-- what came waits behind what waits
put_behind : (old new : Pieces) (more : List ℕ) → wants_more old ≡ true → new ≡ record old { more = old.more ++ more }
    → AddsText more old new
put_behind old new more wants is =
    subst (λ (b : Bool). AddsFrom b more old new) (sym wants) (
      ap waiting is ∙ sym (append_assoc old.scanner.state.core.cursor.rest old.more more),
      ap wants_more is ∙ wants,
    )

pub returns-in-Ok-clause-at : goal.returns-in-Ok-clause-at
returns-in-Ok-clause-at c later =
    let old = pieces_of c.args.self.now in
    added old (chars c.args.more.now) later _ (sym c.wants_more.ensures ∙ c.if-not-wants_more.false)
    (ap (λ (more : List ℕ). record old { more = more })
    (ap chars c.in-Ok.ensures.bytes ∙ chars-append _ _ (IsUtf8-string_bytes c.args.self.now.more)))

pub returns-in-Ok-clause-waits : goal.returns-in-Ok-clause-waits
returns-in-Ok-clause-waits c =
    let old = pieces_of c.args.self.now in
    put_behind old _ (chars c.args.more.now) (sym c.wants_more.ensures ∙ c.if-not-wants_more.false)
    (ap (λ (more : List ℕ). record old { more = more })
    (ap chars c.in-Ok.ensures.bytes ∙ chars-append _ _ (IsUtf8-string_bytes c.args.self.now.more)))
