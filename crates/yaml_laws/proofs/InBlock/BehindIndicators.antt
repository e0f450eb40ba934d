-- What comes after the indicator of a node at block level.
use Rattle.yaml_laws.proofs.Common.{Bool, IsFalse, List, ap, append_assoc, arith, false, inl, inr, refl, slice_index, subst, suc, sym, true, ℕ, ◌++◌, ◌∙◌, ◌∷◌, ◌≡◌, Option, ◌&&◌, ◌==◌, is_alpha, is_blank_or_breakz, tab, hyphen, spaces, IsNextLine, Alias, Map, MoreNodes, MorePairs, NoNode, NoPair, Node, Nodes, Pairs, Properties, Scalar, Seq, Style, Tag, most_open, AreProperties, IsFlowNode, IsKeyText, IsProperties, and_false, clash, list_all, list_any, Position, is_start, is_behind_colon, indent_at, sequence_indent_at, IsGapAt, IsCollectionFront, IsStyled, IsScalarFront, IsLead, IsFlowInBlock, IsBlockPair, IsBlockNode, AreEntries, ArePairs}
use Rattle.yaml_laws.proofs.InBlock.States.{compact_spaced, IsContentStart}
use Rattle.yaml_laws.proofs.Flow.ContentStarts.{StartsContent, content_front, dash_content, question_content, colon_content}
use Rattle.yaml_laws.proofs.InBlock.Skips.{IsSkipped, IsClean, skipped_clean, lines_clean, skipped_append, spaces_skipped, filler_skipped}
use Rattle.yaml_laws.proofs.InBlock.Entries.{IsBehindIndicator}
use Rattle.yaml_laws.proofs.InBlock.Statements.{ReadsLeaves}
use Rattle.yaml_laws.proofs.InBlock.Texts.{content_clean}
use Rattle.yaml_laws.proofs.InBlock.IndicatorLines.{blanks_behind, token_behind, eol_behind, line_end_behind}

-- ## After the indicator of a node

next_line_behind : {colon : Bool} (indent : ℕ) (t : List ℕ) (c : ℕ) (cs : List ℕ) → IsNextLine indent t
    → IsContentStart c → IsBehindIndicator colon indent (t ++ (c ∷ cs))
next_line_behind {colon} indent t c cs (end, filler, front, end_is, filler_is, prefix, is) content =
    let text : t ++ (c ∷ cs) ≡ end ++ ((filler ++ front) ++ (c ∷ cs)) = cc (append_assoc end (filler ++ front)
    (c ∷ cs)) in
    rw text (line_end_behind end ((filler ++ front) ++ (c ∷ cs)) end_is
    (lines_clean indent filler front (c ∷ cs) filler_is prefix (content_clean c cs content)))

-- a gap and a token, which is no `-` of a compact sequence
gap_behind : {colon : Bool} (place : Position) (gap : List ℕ) (c : ℕ) (cs : List ℕ) → IsFalse (is_start place)
    → IsGapAt place gap → IsContentStart c → ((c == hyphen) && is_blank_or_breakz (slice_index cs 0)) ≡ false
    → (colon ≡ true → (list_all (λ b. b == tab) gap && is_alpha c) ≡ false)
    → IsBehindIndicator colon (indent_at place) (gap ++ (c ∷ cs))
gap_behind place gap c cs out (inl (some, are)) content dash word =
    blanks_behind gap c cs are some content (rw dash (and_false (list_any (λ b. b == 9) gap))) word
gap_behind place gap c cs out (inr (inl h)) content dash word = next_line_behind (indent_at place) gap c cs h content
gap_behind place gap c cs out (inr (inr h)) content dash word = absurd (clash (is_start place) h.0 out)

content_so : {colon : Bool} {indent : ℕ} (w t : List ℕ) → StartsContent t
    → ((c : ℕ) (cs : List ℕ) → IsContentStart c → IsBehindIndicator colon indent (w ++ (c ∷ cs)))
    → IsBehindIndicator colon indent (w ++ t)
content_so {colon} {indent} w t b h = rw b.is (h b.first b.others b.content)

pub further_content : (t o : List ℕ) → StartsContent t → StartsContent (t ++ o)
further_content t o b = content_front t (t ++ o) o refl b

-- a text that begins with no word and no `-`
pub record BeginsApart (t : List ℕ) : Type 0 where
  pub first : ℕ
  pub others : List ℕ
  pub is : t ≡ first ∷ others
  pub content : IsContentStart first
  pub no_dash : (first == hyphen) ≡ false
  pub no_word : is_alpha first ≡ false

apart_so : {colon : Bool} (place : Position) (gap t : List ℕ) → IsFalse (is_start place) → IsGapAt place gap
    → BeginsApart t → IsBehindIndicator colon (indent_at place) (gap ++ t)
apart_so {colon} place gap t out gap_is b =
    rw b.is (gap_behind place gap b.first b.others out gap_is b.content (rw b.no_dash refl)
    (λ _. rw b.no_word (and_false (list_all (λ c. c == 9) gap))))

further_apart : (t o : List ℕ) → BeginsApart t → BeginsApart (t ++ o)
further_apart t o b = grind arith

pub entries_content : (nodes : Nodes) (m : ℕ) (t o : List ℕ) → AreEntries most_open nodes m t o → StartsContent t
entries_content NoNode m t o h = absurd h
entries_content (MoreNodes node nodes) m t o (entry, others, h, k, e) =
    record { first = 45; others = entry ++ others; is = e; content = dash_content }

key_text_content : {limit : ℕ} → ReadsLeaves limit → (key : Node) (m : ℕ) (t between : List ℕ)
    → IsKeyText (IsFlowNode most_open key false (suc m)) key false (suc m) t between → StartsContent t
key_text_content leaves key m t between (inl h) = leaves.flow_content key most_open (suc m) false t h
key_text_content leaves key m t between (inr (h, none)) = leaves.key_content key (suc m) t h

pub pair_content : {limit : ℕ} → ReadsLeaves limit → (key value : Node) (m : ℕ) (t o : List ℕ)
    → IsBlockPair most_open key value (IsBlockNode most_open key) (IsBlockNode most_open value) m t o → StartsContent t
pair_content leaves key value m t o (inl (inl (node, between, v, node_is, line, spaced, before, short, h, e))) =
    let b = further_content node (between ++ (58 ∷ v)) (key_text_content leaves key m node between node_is) in
    record { first = b.first; others = b.others; is = e ∙ b.is; content = b.content }
pair_content leaves key value m t o (inl (inr (v, out, h, e))) =
    record { first = 58; others = v; is = e; content = colon_content }
pair_content leaves key value m t o (inr (inl (node, out, some, h, unvalued, e))) =
    record { first = 63; others = node; is = e; content = question_content }
pair_content leaves key value m t o (inr (inr (node, colon, v, some, h, mark, k, e))) =
    record { first = 63; others = node ++ (colon ++ v); is = e; content = question_content }

pub pairs_content : {limit : ℕ} → ReadsLeaves limit → (pairs : Pairs) (m : ℕ) (t o : List ℕ)
    → ArePairs most_open pairs m t o → StartsContent t
pairs_content leaves NoPair m t o h = absurd h
pairs_content leaves (MorePairs key value pairs) m t o (pair, others, h, k, e) = grind arith

are_apart : (anchor : Option (List ℕ)) (tag : Option Tag) (indent : ℕ) (t : List ℕ) → AreProperties anchor tag indent t
    → BeginsApart t
are_apart anchor tag indent t h = grind (arith, further_apart)

properties_apart : (p : Properties) (indent : ℕ) (t : List ℕ) → IsProperties p indent t → BeginsApart t
properties_apart p indent t h = are_apart p.anchor p.tag indent t h

lead_behind : {colon : Bool} (p : Properties) (place : Position) (least m : ℕ) (lead : List ℕ) (t : List ℕ)
    → IsFalse (is_start place) → IsLead p place least m lead → StartsContent t
    → IsBehindIndicator colon (indent_at place) (lead ++ t)
lead_behind {colon} p place least m lead t out (inl (front, end, filler, low, front_is, end_is, filler_is, e)) b =
    let k = skipped_append filler (spaces m) (filler_skipped filler filler_is) (spaces_skipped m) in
    let text : lead ++ t ≡ front ++ (end ++ ((filler ++ spaces m) ++ t)) =
    cc (append_assoc front (end ++ (filler ++ spaces m)) t, append_assoc end (filler ++ spaces m) t) in
    rw text (by_front front_is k)
  where
    after : IsSkipped (filler ++ spaces m)
        → IsBehindIndicator colon (indent_at place) (end ++ ((filler ++ spaces m) ++ t))
    after k = rw b.is (line_end_behind end ((filler ++ spaces m) ++ (b.first ∷ b.others)) end_is
        (λ least low. skipped_clean (filler ++ spaces m) (b.first ∷ b.others) k
        (content_clean b.first b.others b.content) least))

    by_front : IsCollectionFront p place front → IsSkipped (filler ++ spaces m)
        → IsBehindIndicator colon (indent_at place) (front ++ (end ++ ((filler ++ spaces m) ++ t)))
    by_front (inl h) k =
        subst (λ (x : List ℕ). IsBehindIndicator colon (indent_at place) (x ++ (end ++ ((filler ++ spaces m) ++ t))))
        (sym h.1) (after k)
    by_front (inr (gap, properties, gap_is, h, is)) k =
        let rest = end ++ ((filler ++ spaces m) ++ t) in
        rw (is, append_assoc gap properties rest) (apart_so place gap (properties ++ rest) out gap_is
        (further_apart properties rest (properties_apart p (indent_at place) properties h)))
lead_behind {colon} p place least m lead t out (inr (none, h)) b =
    let s = compact_spaced place m lead h in
    rw s.is (content_so (spaces s.count) t b (λ c cs content. token_behind s.count c cs (s.some out) content))

flow_behind : {limit : ℕ} → ReadsLeaves limit → (node : Node) (place : Position) (t o : List ℕ)
    → IsFalse (is_start place)
    → IsFlowInBlock most_open node place t o → IsBehindIndicator (is_behind_colon place) (indent_at place) (t ++ o)
flow_behind leaves node place t o out (gap, text, end, gap_is, is, apart, end_is, e) =
    let whole : t ++ o ≡ gap ++ ((text ++ end) ++ o) = cc (append_assoc gap (text ++ end) o) in
    let b = leaves.flow_content node most_open (indent_at place) false text is in
    let behind = (b.others ++ end) ++ o in
    let begins : (text ++ end) ++ o ≡ b.first ∷ behind = ap (λ (x : List ℕ). (x ++ end) ++ o) b.is in
    let dash : ((b.first == 45) && is_blank_or_breakz (slice_index behind 0)) ≡ false =
    subst (λ (x : List ℕ). ((slice_index x 0 == 45) && is_blank_or_breakz (slice_index x 1)) ≡ false)
    (sym (append_assoc text end o) ∙ begins) (leaves.flow_dash node most_open (indent_at place) false text
    (end ++ o) is) in
    let first : slice_index text 0 ≡ b.first = ap (λ (x : List ℕ). slice_index x 0) b.is in
    rw (whole, begins) (gap_behind place gap b.first behind out gap_is b.content dash (λ e. cc))

-- a block scalar's header, with its properties or without them
scalar_apart : (p : Properties) (style : Style) (value : List ℕ) (indent : ℕ) (front t o : List ℕ)
    → IsScalarFront p indent front → IsStyled style value indent t o → BeginsApart (front ++ t)
scalar_apart p style value indent front t o (inr (properties, gap, h, gap_is, e)) is =
    rw e (further_apart (properties ++ gap) t (further_apart properties gap (properties_apart p indent properties h)))
scalar_apart p style value indent front t o (inl (none, e)) is = grind arith

-- what comes after the indicator of a node that isn't at a document's start
pub node_behind : {limit : ℕ} → ReadsLeaves limit → (node : Node) (place : Position) (t o : List ℕ)
    → IsFalse (is_start place) → IsBlockNode most_open node place t o → IsClean o
    → IsBehindIndicator (is_behind_colon place) (indent_at place) (t ++ o)
node_behind leaves (Alias name) place t o out h clean = flow_behind leaves (Alias name) place t o out h
node_behind leaves (Scalar p style value) place t o out (inl h) clean = eol_behind t o h.2 (λ least low. clean least)
node_behind leaves (Scalar p style value) place t o out (inr (inl h)) clean =
    flow_behind leaves (Scalar p style value) place t o out h
node_behind leaves (Scalar p style value) place t o out (inr (inr (gap, front, scalar, gap_is, front_is, h, e))) clean =
    let whole : t ++ o ≡ gap ++ ((front ++ scalar) ++ o) = cc (append_assoc gap (front ++ scalar) o) in
    rw whole (apart_so place gap ((front ++ scalar) ++ o) out gap_is (further_apart (front ++ scalar) o
    (scalar_apart p style value (indent_at place) front scalar o front_is h)))
node_behind leaves (Seq p nodes) place t o out (inl h) clean = flow_behind leaves (Seq p nodes) place t o out h
node_behind leaves (Seq p nodes) place t o out (inr (m, lead, entries, lead_is, h, e)) clean =
    rw (e, append_assoc lead entries o)
    (lead_behind p place (sequence_indent_at place) m lead (entries ++ o) out lead_is
    (further_content entries o (entries_content nodes m entries o h)))
node_behind leaves (Map p pairs) place t o out (inl h) clean = flow_behind leaves (Map p pairs) place t o out h
node_behind leaves (Map p pairs) place t o out (inr (m, lead, entries, lead_is, h, e)) clean =
    rw (e, append_assoc lead entries o) (lead_behind p place (indent_at place) m lead (entries ++ o) out lead_is
    (further_content entries o (pairs_content leaves pairs m entries o h)))
