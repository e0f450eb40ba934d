-- A text that a parser reads has one meaning: the parser's one list is the events of each of its forests.
use Rattle.event_laws.proofs.Common.{◌≤◌, ℕ, List, length, sym, ◌∙◌, EventCursor, Grammar, MeanTheSame, ReadsEach}

pub mean_the_same : (G H : Grammar) (limit : ℕ) (text : List ℕ) (parser : EventCursor) → length text ≤ limit
    → ReadsEach G limit text parser → ReadsEach H limit text parser → MeanTheSame G H text
mean_the_same G H limit text parser short reads reads_too keep one other first second g h e f =
    let given = reads one keep first (record { stands_for = g; within = short; has_events = e }) in
    let given_too = reads_too other keep second (record { stands_for = h; within = short; has_events = f }) in
    sym given.1 ∙ given_too.1
