-- The events of tokens are a beginning of those of each forest whose tokens begin with them.
use Rattle.event_laws.proofs.Common.{◌≡◌, Bool, List, [], ◌∷◌, ◌++◌, None, refl, ap, ◌∙◌, append-nil, arith, map-append, Refusal, Piece, Remaining, Answer, at_start, keeping_tags, to_come, Kind, Happening, ending_refusal, Continue, BeginsEachForest, unplaced_tokens, GivesExactly, kinds, BeginsAs}
use Rattle.event_laws.proofs.Promises.CommonBeginnings.{begins_as}
use Rattle.event_laws.proofs.Promises.Forests.{each_parsed}
use Rattle.event_laws.proofs.Turned.Turning.{kinds_append}

-- events that begin as the answer does go on with it
continues : (e : Refusal) (a b : Answer) (emitted : List Happening) → BeginsAs e a b → GivesExactly emitted b
    → Continue emitted a
continues e a b emitted u0 g = grind (arith, append-nil, map-append)

unplaced_kinds : (ks : List Kind) → kinds (unplaced_tokens ks) ≡ ks
unplaced_kinds [] = refl
unplaced_kinds (k ∷ ks) = ap (λ l. k ∷ l) (unplaced_kinds ks)

pub begins_each : (tokens : Remaining) (keep : Bool)
    → BeginsEachForest keep tokens.pieces (to_come (keeping_tags keep (at_start tokens)))
begins_each tokens keep forest others emitted y l e =
    let more : List Piece = unplaced_tokens others in
    let all : Remaining = record { pieces = tokens.pieces ++ more; refusal = None } in
    let same : kinds all.pieces ≡ kinds tokens.pieces ++ others =
    kinds_append tokens.pieces more ∙ ap (λ l. kinds tokens.pieces ++ l) (unplaced_kinds others) in
    continues (ending_refusal tokens.refusal) (to_come (keeping_tags keep (at_start tokens)))
    (to_come (keeping_tags keep (at_start all))) emitted
    (begins_as (keeping_tags keep (at_start tokens)).machine more None)
    (each_parsed forest keep all emitted (rw same y) refl l e)
