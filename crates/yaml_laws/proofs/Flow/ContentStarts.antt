-- The first characters of the nodes of a text in flow style.
use Rattle.std.proofs.Common.{◌≡◌, ◌≢◌, ℕ, Bool, true, false, List, [], ◌∷◌, ◌++◌, refl, arith, IsTrue, inl, inr, codes, ◌≤◌}
use Rattle.yaml_laws.proofs.Common.{◌==◌, ◌&&◌, not, slice_index, nat_tests, comma, number_sign, percent_sign, is_blank, is_break, is_bom, is_z, byte_order_mark, is_plain_safe, Style, Plain, SingleQuoted, DoubleQuoted, Literal, Folded, Tag, Properties, Node, Alias, Scalar, Seq, Map, IsTag, begins_plain, IsFirstWord, IsPlainKey, IsFlowScalar, IsAnchor, IsProperties, IsBeforeContent, IsPlainKeyNode, IsKeyText, IsFlowNode, can_be_plain, other_than, Marker}
use Rattle.yaml_laws.proofs.Flow.States.{IsContentStart, moved, past}
use Rattle.yaml_laws.proofs.Flow.Places.{moved_index}
use Rattle.yaml_laws.proofs.Flow.GapSteps.{past_low}

-- a text begins with a character that begins a token
pub record StartsContent (t : List ℕ) : Type 0 where
  pub first : ℕ
  pub others : List ℕ
  pub is : t ≡ first ∷ others
  pub content : IsContentStart first

pub dash_content : IsContentStart 45
dash_content = record { blank = refl; break = refl; comment = refl; byte_order_mark = refl }

pub colon_content : IsContentStart 58
colon_content = record { blank = refl; break = refl; comment = refl; byte_order_mark = refl }

pub question_content : IsContentStart 63
question_content = record { blank = refl; break = refl; comment = refl; byte_order_mark = refl }

pub begins_with : (c : ℕ) (cs t : List ℕ) → t ≡ c ∷ cs → IsContentStart c → StartsContent t
begins_with c cs t e h = record { first = c; others = cs; is = e; content = h }

-- whatever comes after
pub content_front : (a t o : List ℕ) → t ≡ a ++ o → StartsContent a → StartsContent t
content_front a t o e b = grind arith

-- a piece whose first character begins a token, which is neither the end, a directive nor a comma
pub record Begins (p : List ℕ) : Type 0 where
  pub first : ℕ
  pub others : List ℕ
  pub is : p ≡ first ∷ others
  pub content : IsContentStart first
  pub nul : is_z first ≡ false
  pub directive : (first == percent_sign) ≡ false
  pub comma : (first == comma) ≡ false

-- whether a character is such a one
abbrev pub is_start : ℕ → Bool
is_start c = not (is_blank c) && not (is_break c) && not (c == number_sign) && not (is_bom c) && not (is_z c)
    && not (c == percent_sign) && not (c == comma)

pub start_content : (c : ℕ) → is_start c ≡ true → IsContentStart c
start_content c h = grind arith

pub start_nul : (c : ℕ) → is_start c ≡ true → is_z c ≡ false
start_nul c h = grind (arith, nat_tests)

pub start_directive : (c : ℕ) → is_start c ≡ true → (c == percent_sign) ≡ false
start_directive c h = grind (arith, nat_tests)

pub starts : (c : ℕ) (cs t : List ℕ) → t ≡ c ∷ cs → is_start c ≡ true → Begins t
starts c cs t e h = grind (arith, start_content, start_nul, start_directive, nat_tests)

-- whatever comes after
pub begins_front : (a t o : List ℕ) → t ≡ a ++ o → Begins a → Begins t
begins_front a t o e b = grind (arith)

pub begins_content : (t : List ℕ) → Begins t → StartsContent t
begins_content t b = record { first = b.first; others = b.others; is = b.is; content = b.content }

-- ## A byte order mark

pub bom_is : (c : ℕ) → is_bom c ≡ true → c ≡ byte_order_mark
bom_is c e = grind (arith, nat_tests)

-- it begins no plain scalar
pub mark_no_plain : (y : List ℕ) → IsTrue (is_bom (slice_index y 0)) → can_be_plain false y ≡ false
mark_no_plain y h = rw (bom_is (slice_index y 0) h) refl

-- ## First characters

pub anchor_begins : (name t : List ℕ) → IsAnchor name t → Begins t
anchor_begins name t h = starts 38 name t h.1 refl

pub tag_begins : (tag : Tag) (t : List ℕ) → IsTag tag t → Begins t
tag_begins tag t h = grind (arith, starts, codes, begins_front)

pub properties_begin : (p : Properties) (indent : ℕ) (t : List ℕ) → IsProperties p indent t → Begins t
properties_begin p indent t h = grind (arith, anchor_begins, tag_begins, begins_front)

pub properties_content : (p : Properties) (indent : ℕ) (t : List ℕ) → IsProperties p indent t → StartsContent t
properties_content p indent t h = begins_content t (properties_begin p indent t h)

-- properties and what comes after them, or that alone
front_begins : (indent : ℕ) (p : Properties) (front t o : List ℕ) → IsBeforeContent p indent front → t ≡ front ++ o
    → Begins o → Begins t
front_begins indent p front t o (inl (none, e)) is b = rw (is, e) b
front_begins indent p front t o (inr (properties, separation, h, some, parts, e)) is b =
    search (begins_front, properties_begin)

-- ## Scalars

word_starts : (in_flow : Bool) (c : ℕ) (cs : List ℕ) → IsTrue (is_plain_safe in_flow c) → c ≢ number_sign
    → IsTrue (begins_plain c) → Begins (c ∷ cs)
word_starts in_flow c cs h n b = grind (arith, other_than)

words_begin : (in_flow : Bool) (w : List ℕ) → IsFirstWord in_flow w → Begins w
words_begin in_flow [] h = absurd (h.0.some refl)
words_begin in_flow (c ∷ cs) h = word_starts in_flow c cs h.0.safe.0 h.0.no_comment h.1

pub scalar_begins : (indent : ℕ) (style : Style) (value : List ℕ) (in_flow : Bool) (t : List ℕ)
    → IsFlowScalar style value in_flow indent t → Begins t
scalar_begins indent Plain value in_flow t h = let p = h.0 in begins_front p.0 t p.1 p.4 (words_begin in_flow p.0 p.2)
scalar_begins indent SingleQuoted value in_flow t h = starts 39 h.0 t h.5 refl
scalar_begins indent DoubleQuoted value in_flow t h = starts 34 h.0 t h.5 refl
scalar_begins indent Literal value in_flow t h = absurd h
scalar_begins indent Folded value in_flow t h = absurd h

pub plain_key_begins : (in_flow : Bool) (indent : ℕ) (t : List ℕ) → IsPlainKey in_flow indent t → Begins t
plain_key_begins in_flow indent [] (inl ((some, safe, no_comment), begins)) = absurd (some refl)
plain_key_begins in_flow indent (c ∷ cs) (inl ((some, safe, no_comment), begins)) =
    word_starts in_flow c cs safe.0 no_comment begins
plain_key_begins in_flow indent t (inr (plain, dashes, gap, word, h, lone, gapped, last, e)) =
    begins_front plain t (dashes ++ (gap ++ word)) e (begins_front h.0 plain h.1 h.4 (words_begin in_flow h.0 h.2))

-- ## Nodes

pub node_begins : (indent room : ℕ) (node : Node) (in_flow : Bool) (t : List ℕ)
    → IsFlowNode room node in_flow indent t → Begins t
node_begins indent room (Alias name) in_flow t h = starts 42 name t h.1 refl
node_begins indent room (Scalar p style value) in_flow t (inl h) = properties_begin p indent t h.2
node_begins indent room (Scalar p style value) in_flow t (inr (front, content, f, s, e)) =
    front_begins indent p front t content f e (scalar_begins indent style value in_flow content s)
node_begins indent room (Seq p nodes) in_flow t (left, opening, inside, r, (front, w, f, parts, e), items, is) =
    begins_front opening t (inside ++ codes "]") is
    (front_begins indent p front opening (91 ∷ w) f e (starts 91 w (91 ∷ w) refl refl))
node_begins indent room (Map p pairs) in_flow t (left, opening, inside, r, (front, w, f, parts, e), items, is) =
    begins_front opening t (inside ++ codes "}") is
    (front_begins indent p front opening (123 ∷ w) f e (starts 123 w (123 ∷ w) refl refl))

pub node_content : (indent room : ℕ) (node : Node) (in_flow : Bool) (t : List ℕ) → IsFlowNode room node in_flow indent t
    → StartsContent t
node_content indent room node in_flow t h = begins_content t (node_begins indent room node in_flow t h)

-- ## Keys

pub plain_key_node_begins : (in_flow : Bool) (indent : ℕ) (node : Node) (t : List ℕ)
    → IsPlainKeyNode node in_flow indent t → Begins t
plain_key_node_begins in_flow indent (Alias name) t h = absurd h
plain_key_node_begins in_flow indent (Seq p nodes) t h = absurd h
plain_key_node_begins in_flow indent (Map p pairs) t h = absurd h
plain_key_node_begins in_flow indent (Scalar p style value) t (front, content, plain, before, g, is, e) =
    front_begins indent p front t content before e (plain_key_begins in_flow indent content g)

pub plain_key_node_content : (in_flow : Bool) (indent : ℕ) (node : Node) (t : List ℕ)
    → IsPlainKeyNode node in_flow indent t → StartsContent t
plain_key_node_content in_flow indent node t h = begins_content t (plain_key_node_begins in_flow indent node t h)

pub key_text_begins : (in_flow : Bool) (indent room : ℕ) (key : Node) (t separation : List ℕ)
    → IsKeyText (IsFlowNode room key in_flow indent) key in_flow indent t separation → Begins t
key_text_begins in_flow indent room key t separation (inl h) = node_begins indent room key in_flow t h
key_text_begins in_flow indent room key t separation (inr (h, none)) = plain_key_node_begins in_flow indent key t h

pub behind_low : (column ad : ℕ) (m : Marker) (p o : List ℕ) → ad ≤ m.index → ad ≤ (past column (moved m p) o).0.index
behind_low column ad m p o low = grind (arith, moved_index, past_low, moved)
