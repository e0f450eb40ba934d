-- The scanner comes to each document marker that begins a line of a text.
use Rattle.yaml_laws.proofs.Common.{Bool, IsTrue, List, [], ap, append_assoc, false, inl, inr, sym, true, ℕ, ◌++◌, ◌∙◌, ◌∷◌, ◌≡◌, ◌==◌, line_feed, full_stop, is_document_indicator, IsEol, IsFiller, Document, Kind, most_open, State, AtStart, BehindMarker, IsBlockNode}
use Rattle.yaml_laws.specs.Grammar.Yaml as yaml
use Rattle.yaml_laws.proofs.Flow.States.{marks_line, ReaderPromises}
use Rattle.yaml_laws.proofs.Documents.Lines.{passes_filler}
use Rattle.yaml_laws.proofs.Documents.Stands.{StandsLined, lined_so}
use Rattle.yaml_laws.proofs.InBlock.Skips.{filler_skipped}
use Rattle.yaml_laws.proofs.InBlock.LineStarts.{HasLine, opens_line, behind_piece, skipped_unmarked, mark_unmarked, end_unmarked}
use Rattle.yaml_laws.proofs.InBlock.Statements.{ReadsLeaves}
use Rattle.yaml_laws.proofs.InBlock.Texts.{node_ends}
use Rattle.yaml_laws.proofs.InBlock.Documents.{reads_front, text_of_document}
use Rattle.yaml_laws.proofs.InBlock.Documents.DirectiveLines.{directives_unmarked}
use Rattle.yaml_laws.proofs.InBlock.Documents.Nodes.{node_marks}

-- The scanner comes before y, at a line's start.
pub record Comes (limit : ℕ) (start : State) (y : List ℕ) : Type 0 where
  pub free : Bool
  pub opened : Bool
  pub tokens : List Kind
  pub stands : StandsLined limit start free opened y tokens

-- before each document marker that begins a line of a text
abbrev pub ComesIn : ℕ → State → List ℕ → Type 0
ComesIn limit start t = (y : List ℕ) → IsTrue (is_document_indicator y) → HasLine t y → Comes limit start y

pub comes_so : {limit : ℕ} {start : State} {t u : List ℕ} → t ≡ u → ComesIn limit start u → ComesIn limit start t
comes_so e go y marker l = go y marker (record { front = l.front; is = sym e ∙ l.is; line = l.line })

-- a piece before it has none
comes_beyond : {limit : ℕ} {start : State} (a b : List ℕ) → marks_line true a b ≡ false → ComesIn limit start b
    → ComesIn limit start (a ++ b)
comes_beyond a b unmarked go y marker l = go y marker (behind_piece true a b l.front y l.is unmarked l.line marker)

pub comes_behind_filler : {limit : ℕ} {start : State} (filler t : List ℕ) → IsFiller filler → ComesIn limit start t
    → ComesIn limit start (filler ++ t)
comes_behind_filler filler t is go = search (comes_beyond, skipped_unmarked, filler_skipped)

-- after filler and a byte order mark
pub comes_behind_mark : {limit : ℕ} {start : State} (filler t : List ℕ) → IsFiller filler → ComesIn limit start t
    → ComesIn limit start (filler ++ (65279 ∷ t))
comes_behind_mark filler t is go = comes_so (sym (append_assoc filler (65279 ∷ []) t))
    (comes_beyond (filler ++ (65279 ∷ [])) t (mark_unmarked filler is true t) go)

-- at a marker, and after it
at_marker : {limit : ℕ} {start : State} {free opened : Bool} {ts : List Kind} (c : ℕ) (w t : List ℕ)
    → StandsLined limit start free opened (c ∷ (w ++ t)) ts → marks_line (c == line_feed) w t ≡ false
    → ComesIn limit start t → ComesIn limit start (c ∷ (w ++ t))
at_marker {limit} {start} {free} {opened} {ts} c w t v unmarked go y marker l = by_front l.front l.is l.line
  where
    by_front : (front : List ℕ) → c ∷ (w ++ t) ≡ front ++ y → opens_line true front ≡ true → Comes limit start y
    by_front [] e line = record { free = free; opened = opened; tokens = ts; stands = lined_so e v }
    by_front (d ∷ ds) e line =
        let others : w ++ t ≡ ds ++ y = cc in
        let opens : opens_line (c == 10) ds ≡ true = cc in
        go y marker (behind_piece (c == 10) w t ds y others unmarked opens marker)

-- at a `...` line, and after it
pub comes_behind_end : {limit : ℕ} {start : State} {free opened : Bool} {ts : List Kind} (filler end t : List ℕ)
    → IsFiller filler → IsEol end t
    → StandsLined limit start free opened (filler ++ (full_stop ∷ full_stop ∷ full_stop ∷ (end ++ t))) ts
    → ComesIn limit start t → ComesIn limit start (filler ++ (full_stop ∷ full_stop ∷ full_stop ∷ (end ++ t)))
comes_behind_end filler end t filler_is end_is v go =
    comes_behind_filler filler (46 ∷ 46 ∷ 46 ∷ (end ++ t)) filler_is
    (at_marker 46 (46 ∷ 46 ∷ end) t (passes_filler filler (46 ∷ 46 ∷ 46 ∷ (end ++ t)) filler_is v)
    (end_unmarked end t end_is false t) go)

-- at a document's own marker, and after the document
pub document_comes : {limit : ℕ} {start : State} → ReaderPromises → ReadsLeaves limit
    → (d : Document) (free : Bool) (t others : List ℕ) (ts : List Kind)
    → yaml.IsDocument (IsBlockNode most_open) d free t others → StandsLined limit start free free (t ++ others) ts
    → ComesIn limit start others → ComesIn limit start (t ++ others)
document_comes readers leaves d free t others ts (inl (is_free, (same, unmarked, is))) v go =
    comes_beyond t others (node_marks true t others (node_ends leaves d.node AtStart t others is) ∙ unmarked) go
document_comes readers leaves d free t others ts
    (inr (may, (directives, node, explicit, compatible, are, unmarked, is, e))) v go =
    let text = ap (λ (x : List ℕ). x ++ others) e ∙ text_of_document directives node others in
    let f = reads_front readers d free directives (node ++ others) ts may are (lined_so text v) in
    comes_so text (comes_beyond directives (45 ∷ 45 ∷ 45 ∷ (node ++ others))
    (directives_unmarked d.directives directives are true (45 ∷ 45 ∷ 45 ∷ (node ++ others)))
    (at_marker 45 (45 ∷ 45 ∷ node) others f.stands
    (node_marks false node others (node_ends leaves d.node BehindMarker node others is) ∙ unmarked) go))
