-- What an answer tells: its events without their spans.
use Rattle.event_laws.proofs.Common.{List, map, Span, Answer, Happening}

abbrev pub happenings_of : Answer → List Happening
happenings_of a = map (λ (e : Happening × Span). e.0) a.events
