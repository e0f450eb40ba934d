-- What comes before a block collection is passed: its properties, or nothing, and the way to its first entry.
use Rattle.yaml_laws.proofs.Common.{List, [], ap, append-nil, append_assoc, arith, inl, inr, refl, subst, sym, true, ℕ, ◌++◌, ◌∙◌, ◌∷◌, ◌≡◌, ◌≤◌, ◌||◌, Marker, spaces, IsFiller, IsLineEnd, State, Kind, Properties, no_properties, or-true, Position, indent_at, sequence_indent_at, IsLead}
use Rattle.yaml_laws.proofs.Flow.Places.{moved_append}
use Rattle.yaml_laws.proofs.InBlock.Lines.{FitsOnLines, fits_so}
use Rattle.yaml_laws.proofs.Flow.ContentStarts.{StartsContent}
use Rattle.yaml_laws.proofs.InBlock.States.{Frame, crosses, is_compact, IsPlaced, Before, compact_spaced, moved, past, FreeAt}
use Rattle.yaml_laws.proofs.InBlock.Skips.{IsSkipped, skipped_append, filler_skipped, spaces_skipped, line_end_skipped, line_end_crosses}
use Rattle.yaml_laws.proofs.InBlock.Statements.{ReadsLeaves, IsNextLineText, PropertiesRead}
use Rattle.yaml_laws.proofs.InBlock.Texts.{reaches, spaces_moved, indentation_col}

-- where there are no properties, and what comes before is skipped
plain_lead : {limit : ℕ} {start : State} {ts : List Kind} (p : Properties) (place : Position) (f : Frame) (m : Marker)
    (w y : List ℕ) → p ≡ no_properties → IsSkipped w → StartsContent y
    → (is_compact place || crosses (w ++ y)) ≡ true → Before limit start place f m (w ++ y) ts
    → PropertiesRead limit start p f (moved m w) y ts
plain_lead {limit} {start} {ts} p place f m w y none h b opens v =
    let there : past 0 m (w ++ y) ≡ (moved m w, y) = cc (reaches m w b.first b.others h b.content) in
    let p_at = subst (λ (q : Marker × List ℕ). FreeAt limit start f q.0 q.1 ts) there
    (record { at = v.at; none = v.none; allowed = v.allows opens }) in
    record {
      tokens = [];
      are = rw none refl;
      at = subst (FreeAt limit start f (moved m w) y)
          (sym (append-nil ts)) p_at;
    }

-- Up to the first token of a collection, given its lead: properties or none, and then what is skipped up to the
-- collection's column. A key may begin there, since a break was passed, or since the place is compact.
pub reads_lead : {limit : ℕ} → ReadsLeaves limit → (p : Properties) (place : Position) (least column : ℕ) (f : Frame)
    → f.indent ≡ indent_at place → (m : Marker) (lead y : List ℕ) → IsLead p place least column lead → StartsContent y
    → FitsOnLines limit m lead y → (start : State) (ts : List Kind) → Before limit start place f m (lead ++ y) ts
    → PropertiesRead limit start p f (moved m lead) y ts
reads_lead {limit} leaves p place least column f same m lead y
    (inl (front, end, filler, low, inl none, end_is, filler_is, e)) b fits start ts v =
    let w = end ++ (filler ++ spaces column) in
    let is : lead ≡ w = e ∙ ap (λ (x : List ℕ). x ++ w) none.1 in
    let skipped = skipped_append end (filler ++ spaces column) (line_end_skipped end end_is)
    (skipped_append filler (spaces column) (filler_skipped filler filler_is) (spaces_skipped column)) in
    let over : crosses (w ++ y) ≡ true = ap crosses (append_assoc end (filler ++ spaces column) y)
    ∙ line_end_crosses end ((filler ++ spaces column) ++ y) end_is in
    rw is (plain_lead p place f m w y none.0 skipped b (rw over (or-true (is_compact place))) (rw is at v))
reads_lead {limit} leaves p place least column f same m lead y
    (inl (front, end, filler, low, inr (white, t, spaced, properties, front_is), end_is, filler_is, e)) b fits start ts
    v =
    let w = end ++ (filler ++ spaces column) in
    let is : lead ≡ white ++ (t ++ w) = cc (append_assoc white t w) in
    let text : lead ++ y ≡ white ++ (t ++ (w ++ y)) = cc (append_assoc white (t ++ w) y, append_assoc t w y) in
    let next : IsNextLineText w = (end, filler, column, end_is, filler_is, refl) in
    let r = leaves.properties p place f same m white t w y (spaced, properties, next) b
    (fits_so m lead (white ++ (t ++ w)) y is fits) start ts (rw text at v) in
    rw is r
reads_lead {limit} leaves p place least column f same m lead y (inr (none, h)) b fits start ts v =
    grind (arith, plain_lead, spaces_skipped)

-- ## Columns

next_col : (m : Marker) (front end filler : List ℕ) (column : ℕ) → IsLineEnd end → IsFiller filler
    → (moved m (front ++ (end ++ (filler ++ spaces column)))).col ≡ column
next_col m front end filler column end_is filler_is =
    let text = moved_append m front (end ++ (filler ++ spaces column))
    ∙ moved_append (moved m front) end (filler ++ spaces column) in
    let line : (moved (moved m front) end).col ≡ 0 = at_line (moved m front) end end_is in
    cc (indentation_col (moved (moved m front) end) column (filler ++ spaces column) (filler, filler_is, refl) line)
  where
    at_line : (m : Marker) (end : List ℕ) → IsLineEnd end → (moved m end).col ≡ 0
    at_line m end (rest, h, is) = simp (is, moved_append m rest (10 ∷ []))

-- the first token of a collection is at its column
pub lead_col : (p : Properties) (place : Position) (least column : ℕ) (m : Marker) (lead : List ℕ) → IsPlaced place m
    → IsLead p place least column lead → (moved m lead).col ≡ column
lead_col p place least column m lead at h = grind (arith, next_col, spaces_moved)

-- a mapping is to the right of what encloses it
pub mapping_least : (p : Properties) (place : Position) (column : ℕ) (lead : List ℕ)
    → IsLead p place (indent_at place) column lead → indent_at place ≤ column
mapping_least p place column lead (inl h) = h.3
mapping_least p place column lead (inr (none, h)) = (compact_spaced place column lead h).low

pub sequence_least : (p : Properties) (place : Position) (column : ℕ) (lead : List ℕ)
    → IsLead p place (sequence_indent_at place) column lead → sequence_indent_at place ≤ column
sequence_least p place column lead (inl h) = h.3
sequence_least p place column lead (inr (none, h)) = (compact_spaced place column lead h).sequence_low
