-- A text within the limit is read as a whole, though no more items than a bound are taken.
use Rattle.event_laws.proofs.Common.{◌≡◌, ℕ, ◌≤◌, List, take, subst, arith, take_all, EventCursor, Grammar, ReadsEach, ReadsClosedYaml}

pub reads_whole : (G : Grammar) (limit bound : ℕ) (text : List ℕ) (parser : EventCursor) → limit ≤ bound
    → ReadsEach G limit (take bound text) parser → ReadsEach G limit text parser
reads_whole G limit bound text parser within reads forest keep emitted promised =
    let whole : take bound text ≡ text = take_all bound text (omega (arith, promised.within)) in
    subst (λ (cs : List ℕ). ReadsEach G limit cs parser) whole reads forest keep emitted promised

-- the same of a closed beginning
pub reads_whole_closed : (limit bound : ℕ) (text : List ℕ) (parser : EventCursor) → limit ≤ bound
    → ReadsClosedYaml limit (take bound text) parser → ReadsClosedYaml limit text parser
reads_whole_closed limit bound text parser within reads keep first closed = grind (arith, take, take_all)
