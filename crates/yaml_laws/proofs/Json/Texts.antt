-- A text of JSON is a text of YAML's grammar: its value is the node of a bare document, in flow style.
use Rattle.yaml_laws.proofs.Common.{List, [], ap, append-nil, append_assoc, false, inl, inr, refl, sym, true, ℕ, ◌++◌, ◌∙◌, ◌∷◌, ◌≡◌, ◌≤◌, normalized, AreIn, Alias, Forest, Map, Node, Scalar, Seq, bare, open_collections, open_in_forest, AtStart, IsBlockNode, IsFlowInBlock, IsFlowNode, IsYaml, IsYamlText, has_marker, no_prefix, IsJsonText, IsJson}
use Rattle.yaml_laws.proofs.Json.White.{is_white, white_gap, white_ends}
use Rattle.yaml_laws.proofs.Json.Calm.{IsCalm, calm_both, white_calm}
use Rattle.yaml_laws.proofs.Json.Becomes.{Becomes, Both, become_both, white_both, white_becomes}
use Rattle.yaml_laws.proofs.Json.Parts.{IsPadded, mark_regrouped}
use Rattle.yaml_laws.proofs.Json.Nodes.{first_least, value_becomes}

-- a node in flow style is one at block level
flow_node : (room : ℕ) (node : Node) (t behind : List ℕ) → IsFlowInBlock room node AtStart t behind
    → IsBlockNode room node AtStart t behind
flow_node room (Alias name) t behind h = h
flow_node room (Scalar p style value) t behind h = inr (inl h)
flow_node room (Seq p nodes) t behind h = inl h
flow_node room (Map p pairs) t behind h = inl h

-- white space round a node in flow style, which is that of a bare document
node_yaml : (room : ℕ) (node : Node) (gap core w : List ℕ) → AreIn is_white gap → IsFlowNode room node false 0 core
    → IsCalm core → AreIn is_white w → IsYaml room (bare node ∷ []) (gap ++ (core ++ w))
node_yaml room node gap core w gap_white flow calm white =
    let e = white_ends w white in
    let document = gap ++ (core ++ e.end) in
    let no_marker = calm_both gap (core ++ e.end) (white_calm gap gap_white)
    (calm_both core e.end calm (white_calm e.end e.white)) [] refl in
    let unmarked : has_marker true document ≡ false = rw (append-nil document) at no_marker in
    let is : gap ++ (core ++ w) ≡ document ++ e.others = cc (mark_regrouped gap core e.end e.others) in
    let stands = flow_node room node document e.others
    (gap, core, e.end, white_gap gap gap_white, flow, refl, e.ends, refl) in (
      [],
      gap ++ (core ++ w),
      no_prefix (gap ++ (core ++ w)),
      (
        [],
        document,
        e.others,
        ([], tt, refl),
        inl (refl, (refl, unmarked, stands)),
        ([], e.others, ([], tt, refl), inl e.more, refl),
        is,
      ),
      refl,
    )

abbrev IsRoot : ℕ → Node → List ℕ → Type 0
IsRoot room node t = Both (AreIn is_white) (Both (IsPadded room node false) (AreIn is_white)) t

joined : (w b c a v : List ℕ) → w ++ ((b ++ (c ++ a)) ++ v) ≡ (w ++ b) ++ (c ++ (a ++ v))
joined w b c a v = simp append_assoc

root_yaml : (room : ℕ) (node : Node) (n : List ℕ) → IsRoot room node n → IsYaml room (bare node ∷ []) n
root_yaml room node n (w, rest, wh, (t, v, p, vh, e1), e0) =
    let is : n ≡ (w ++ p.before) ++ (p.core ++ (p.after ++ v)) = cc (joined w p.before p.core p.after v) in
    rw is
    (node_yaml room node (w ++ p.before) p.core (p.after ++ v) (white_both w p.before wh p.white_before) p.flow p.calm
    (white_both p.after v p.white_after vh))

text_yaml : (room : ℕ) (node : Node) (text : List ℕ) → IsJsonText node text → open_collections node ≤ room
    → IsYamlText room (bare node ∷ []) text
text_yaml room node text (before, value, after, bh, h, ah, is) fits =
    let r : Becomes (IsRoot room node) (before ++ (value ++ after)) [] =
    become_both before (value ++ after) [] (white_becomes before ((value ++ after) ++ []) bh)
    (become_both value after [] (value_becomes room node false value (after ++ []) h fits) (white_becomes after []
    ah)) in
    let same : normalized text ≡ r.text =
    ap normalized (is ∙ sym (append-nil (before ++ (value ++ after)))) ∙ r.normal ∙ append-nil r.text in
    rw same (root_yaml room node r.text r.holds)

-- Each text of JSON is a text of YAML's grammar, of the same forest.
pub json_is_yaml : (room : ℕ) (forest : Forest) (text : List ℕ) → IsJson forest text → open_in_forest forest ≤ room
    → IsYamlText room forest text
json_is_yaml room (document ∷ []) text h fits =
    rw h.0 (text_yaml room document.node text h.1 (first_least (open_collections document.node) 0 room fits))
json_is_yaml room [] text h fits = elim h [ ]
json_is_yaml room (document ∷ (_ ∷ _)) text h fits = elim h [ ]
