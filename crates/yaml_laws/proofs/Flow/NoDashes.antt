-- No node in flow style begins with a `-` before white space.
use Rattle.std.proofs.Common.{◌≡◌, ℕ, Bool, false, List, ◌++◌, slice_index, refl, append_assoc, inl, inr, arith}
use Rattle.yaml_laws.proofs.Common.{◌&&◌, ◌==◌, Option, Some, None, is_blank_or_breakz, hyphen, Style, Plain, SingleQuoted, DoubleQuoted, Literal, Folded, Tag, Properties, Node, Alias, Scalar, Seq, Map, IsFlowScalar, IsTag, IsAnchor, AreProperties, IsBeforeContent, IsFlowNode}
use Rattle.yaml_laws.proofs.Flow.Plains.{word_begins, lone_test}

abbrev pub NoDash : List ℕ → Type 0
NoDash y = ((slice_index y 0 == hyphen) && is_blank_or_breakz (slice_index y 1)) ≡ false

no_dash_front : (a b t : List ℕ) → t ≡ a ++ b → ((o : List ℕ) → NoDash (a ++ o)) → (o : List ℕ) → NoDash (t ++ o)
no_dash_front a b t e h o = rw (e, append_assoc a b o) (h (b ++ o))

-- ## Properties

anchor_no_dash : (name t : List ℕ) → IsAnchor name t → (o : List ℕ) → NoDash (t ++ o)
anchor_no_dash name t h o = rw h.1 refl

tag_no_dash : (tag : Tag) (t : List ℕ) → IsTag tag t → (o : List ℕ) → NoDash (t ++ o)
tag_no_dash tag t h o = grind arith

properties_no_dash : (indent : ℕ) (anchor : Option (List ℕ)) (tag : Option Tag) (t : List ℕ)
    → AreProperties anchor tag indent t → (o : List ℕ) → NoDash (t ++ o)
properties_no_dash indent None None t h o = absurd h
properties_no_dash indent (Some name) None t h o = anchor_no_dash name t h o
properties_no_dash indent None (Some tag) t h o = tag_no_dash tag t h o
properties_no_dash indent (Some name) (Some tag) t (a, gap, w, h, k, gapped, inl e) o =
    no_dash_front a (gap ++ w) t e (anchor_no_dash name a h) o
properties_no_dash indent (Some name) (Some tag) t (a, gap, w, h, k, gapped, inr e) o =
    no_dash_front w (gap ++ a) t e (tag_no_dash tag w k) o

before_no_dash : (p : Properties) (indent : ℕ) (front b t : List ℕ) → IsBeforeContent p indent front → t ≡ front ++ b
    → ((o : List ℕ) → NoDash (b ++ o)) → (o : List ℕ) → NoDash (t ++ o)
before_no_dash p indent front b t (inl (none, empty)) e h o = rw (e, empty) (h o)
before_no_dash p indent front b t (inr (properties, separation, g, some, parts, is)) e h o = no_dash_front front b t e
    (no_dash_front properties separation front is (properties_no_dash indent p.anchor p.tag properties g)) o

-- ## Nodes

scalar_no_dash : (indent : ℕ) (style : Style) (value : List ℕ) (in_flow : Bool) (t : List ℕ)
    → IsFlowScalar style value in_flow indent t → (o : List ℕ) → NoDash (t ++ o)
scalar_no_dash indent Plain value in_flow t h o =
    let w = word_begins in_flow indent t o h.0 in
    rw w.is (lone_test in_flow w.first 45 (slice_index (w.others ++ o) 0) (λ e. w.further (inl e)))
scalar_no_dash indent SingleQuoted value in_flow t h o = rw h.5 refl
scalar_no_dash indent DoubleQuoted value in_flow t h o = rw h.5 refl
scalar_no_dash indent Literal value in_flow t h o = absurd h
scalar_no_dash indent Folded value in_flow t h o = absurd h

pub node_no_dash : (indent room : ℕ) (node : Node) (in_flow : Bool) (t o : List ℕ)
    → IsFlowNode room node in_flow indent t → NoDash (t ++ o)
node_no_dash indent room (Alias name) in_flow t o h = rw h.1 refl
node_no_dash indent room (Scalar p style value) in_flow t o (inl h) = properties_no_dash indent p.anchor p.tag t h.2 o
node_no_dash indent room (Scalar p style value) in_flow t o (inr (front, content, f, s, e)) =
    before_no_dash p indent front content t f e (scalar_no_dash indent style value in_flow content s) o
node_no_dash indent room (Seq p nodes) in_flow t o
    (left, opening, inside, r, (front, separation, f, parts, e), items, is) = search (no_dash_front, before_no_dash)
node_no_dash indent room (Map p pairs) in_flow t o
    (left, opening, inside, r, (front, separation, f, parts, e), items, is) = search (no_dash_front, before_no_dash)
