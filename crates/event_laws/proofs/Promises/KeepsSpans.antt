-- The promise on spans: those of all events are at places of the text, if those of the tokens are, in order.
use Rattle.event_laws.proofs.Common.{◌≡◌, ℕ, suc, ◌≤◌, Bool, List, [], ◌∷◌, length, Option, Some, None, inl, refl, sym, ap, ◌∙◌, subst, arith, if◌then◌else◌, Marker, Span, Piece, Remaining, AreAtPlaces, IsPlaceOf, Happening, Machine, emit, event_step, EventCursor, Kept, at_start, answer_behind, with_event_ahead, AdvancesFrom, FailsFrom, LooksFrom, ReadsAhead, KeepsSpans, Walk, HoldsBetween, between, Resumes, step, runs, goes_on}
use Rattle.std.proofs.lemmas.List.Elements.{All-cons}
use Rattle.saphyr_scanner.specs.SpansInOrder.{AreInOrder}
use Rattle.saphyr_machine.specs.declared.fault.Fault.{Fault}
use Rattle.saphyr_machine.specs.Steps.Machine.{text_start}
use Rattle.event_laws.proofs.Refusing.{starts_text}
use Rattle.saphyr_machine.specs.Answer.{Answer, empty_answer, fault_alone, remaining_answer, machine_size}
use Rattle.event_laws.specs.SpansWithin.{IsIn, HasSpansIn, IsLater, itself, advanced, failed, looked, set}

lower_pieces : (n low high : ℕ) (ps : List Piece) → low ≤ high → AreInOrder n high ps → AreInOrder n low ps
lower_pieces n low high [] l h = omega (arith, l, h)
lower_pieces n low high (p ∷ ps) l h = (let first = h.0 in omega (arith, l, first), h.1, h.2)

-- the tokens are in order at places of the text
abbrev ordered : List ℕ → Walk
ordered text = record {
  Spans = λ a b. IsIn text (record { start = a; end = b });
  Ahead = λ low d r ts. IsPlaceOf text low × AreInOrder (length text) low.index ts × AreAtPlaces text ts;
  Rests = λ s d r ts. AreInOrder (length text) 0 ts × AreAtPlaces text ts;
  Fails = λ f. Unit {0};
  joined = λ a b c s t. (let x = s.0 in let y = t.0 in omega (arith, x, y), s.1, t.2);
  start = (omega arith, starts_text text, starts_text text);
  first = λ a b s. (omega arith, s.1, s.1);
  last = λ a b s. (omega arith, s.2, s.2);
  fails = λ text a s. tt;
  nothing = λ low d r a. tt;
  own = λ low d r t ts a. ((a.1.0, a.0, a.2.0.0), (a.1.1, a.2.0.0, a.2.0.1));
  from_start = λ low d r t ts a. (a.2.0.0, (omega arith, a.1.1, a.1.2), a.2);
  behind = λ low d r t ts e a. (a.2.0.1, a.1.2, a.2.1);
  less = λ low c d r ts l a. a;
  rests = λ low s d r ts a. (lower_pieces (length text) 0 low.index ts (omega arith) a.1, a.2);
  over = λ low d c r t ts e l a. (lower_pieces (length text) 0 t.span.end.index ts (omega arith) a.1.2, a.2.1);
}

resumes : (text : List ℕ) → Resumes (ordered text)
resumes text s c d r ts n h = (text_start, (starts_text text, h.0, h.1))

-- ## Whatever is called

-- An event that was read ahead has its span in the text, and so have all that the machine still gives.
record Stands (text : List ℕ) (c : EventCursor) : Type 0 where
  ahead : (e : Happening × Span) → c.current ≡ Some e → IsIn text e.1
  between : c.kept ≡ None → HoldsBetween (ordered text) c.machine

-- what a step gives
stepped : (text : List ℕ) (m n : Machine) (e : Happening × Span) → event_step m ≡ emit e.0 e.1 n
    → HoldsBetween (ordered text) m → IsIn text e.1 × HoldsBetween (ordered text) n
stepped text m n e is h = rw is at (step (ordered text) (resumes text) m (goes_on m _ is) h)

advances : (text : List ℕ) (e : Happening × Span) (a : Option (Happening × Span)) (k : Option Kept) (c d : EventCursor)
    → c.current ≡ a → c.kept ≡ k → AdvancesFrom a k e c d → Stands text c → Stands text d
advances text e (Some next) k c d is kept moved h = grind arith
advances text e None (Some k) c d is kept moved h = absurd moved
advances text e None None c d is kept moved h = record {
  ahead = λ x shown. absurd (let same = ap (λ (c : EventCursor). c.current) moved.1 in cc);
  between = λ _. (stepped text c.machine d.machine e moved.0 (h.between kept)).1;
}

fails : (text : List ℕ) (f : Fault) (a : Option (Happening × Span)) (k : Option Kept) (c d : EventCursor)
    → c.current ≡ a → c.kept ≡ k → FailsFrom a k f c d → Stands text c → Stands text d
fails text f u0 k c d is kept none h = grind arith

reads : (text : List ℕ) (a : Option (Happening × Span)) (k : Option Kept) (c d : EventCursor)
    → c.kept ≡ None → ReadsAhead a k c d → Stands text c → Stands text d
reads text (Some e) (Some k) c d kept read h = absurd read
reads text (Some e) None c d kept read h =
    let given = stepped text c.machine d.machine e read.0 (h.between kept) in record {
      ahead = λ x shown.
          let same = sym (ap (λ (c : EventCursor). c.current) read.1) ∙ shown in
          let this : e ≡ x = cc in
          subst (λ (y : Happening × Span). IsIn text y.1) this given.0;
      between = λ _. given.1;
    }
reads text None (Some k) c d kept read h = grind arith
reads text None None c d kept read h = grind arith

looks : (text : List ℕ) (a : Option (Happening × Span)) (k : Option Kept) (c d : EventCursor)
    → c.kept ≡ k → LooksFrom a k c d → Stands text c → Stands text d
looks text u0 k c d kept same h = grind (arith, reads)

later_stands : (text : List ℕ) (start c : EventCursor) → IsLater start c → Stands text start → Stands text c
later_stands text start c itself h = h
later_stands text start _ (advanced e c d l moved) h =
    advances text e c.current c.kept c d refl refl moved (later_stands text start c l h)
later_stands text start _ (failed f c d l moved) h =
    fails text f c.current c.kept c d refl refl moved (later_stands text start c l h)
later_stands text start _ (looked c d l moved) h =
    looks text c.current c.kept c d refl moved (later_stands text start c l h)
later_stands text start _ (set keep c l) h =
    let s = later_stands text start c l h in
    record {
      ahead = s.ahead;
      between = λ k. (let b = s.between k in
          between (ordered text) _ b.rest.pair_ends b.rest.tokens.0);
    }

-- ## What comes

no_spans : (text : List ℕ) (k : Kept) (m : Machine) → HasSpansIn text (answer_behind (Some k) m)
no_spans text k m = by k.given
  where
    by : (given : Bool) → HasSpansIn text (if given then empty_answer else fault_alone k.fault)
    by given = grind arith

behind_spans : (text : List ℕ) (k : Option Kept) (m : Machine)
    → (k ≡ None → HoldsBetween (ordered text) m) → HasSpansIn text (answer_behind k m)
unfolding remaining_answer
behind_spans text (Some k) m h = no_spans text k m
behind_spans text None m h = (runs (ordered text) (resumes text) (suc (machine_size m)) m (h refl)).spans

ahead_spans : (text : List ℕ) (a : Option (Happening × Span)) (rest : Answer)
    → ((e : Happening × Span) → a ≡ Some e → IsIn text e.1) → HasSpansIn text rest
    → HasSpansIn text (with_event_ahead a rest)
ahead_spans text None rest h spans = spans
ahead_spans text (Some e) rest h spans =
    All-cons (λ (x : Happening × Span). IsIn text x.1) e rest.events (h e refl) spans

-- the tokens of a parser at its start give events with spans in the text
pub keeps_spans : (text : List ℕ) (tokens : Remaining) → AreInOrder (length text) 0 tokens.pieces
    → AreAtPlaces text tokens.pieces → KeepsSpans text (at_start tokens)
keeps_spans text tokens h a later is =
    let start : Stands text (at_start tokens) =
    record { ahead = λ e g. absurd (cc); between = λ g. between (ordered text) _ tt (h, a) } in
    let stands = later_stands text (at_start tokens) later is start in
    ahead_spans text later.current (answer_behind later.kept later.machine) stands.ahead
    (behind_spans text later.kept later.machine stands.between)

-- a parser that is at the start of such tokens
pub parser_keeps_spans : (text : List ℕ) (tokens : Remaining) (c : EventCursor) → c ≡ at_start tokens
    → AreInOrder (length text) 0 tokens.pieces → AreAtPlaces text tokens.pieces → KeepsSpans text c
parser_keeps_spans text tokens c is h a = rw is (keeps_spans text tokens h a)
