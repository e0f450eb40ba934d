-- Each value of JSON becomes a node in flow style, with white space round it: by one recursion on the tree.
use Rattle.yaml_laws.proofs.Common.{Bool, IsTrue, List, [], append-nil, append_assoc, arith, codes, inl, inr, refl, suc, sym, true, ℕ, ◌++◌, ◌+◌, ◌∷◌, ◌≡◌, ◌≤◌, max, zero, AreIn, Alias, DoubleQuoted, Folded, Literal, Map, MoreNodes, MorePairs, NoNode, NoPair, Node, Nodes, Pairs, Plain, Properties, Scalar, Seq, SingleQuoted, no_properties, open_collections, open_in_nodes, open_in_pairs, AreFlowPairs, AreItems, AreOtherFlowPairs, AreOtherItems, IsFlowNode, IsWhiteSpace, IsStructural, IsMemberName, IsValue, AreElements, AreOtherElements, AreMembers, AreOtherMembers, IsString, IsWord}
use Rattle.yaml_laws.proofs.Json.WordCharacters.{word_safe}
use Rattle.yaml_laws.proofs.Json.White.{is_white}
use Rattle.yaml_laws.proofs.Json.Calm.{IsCalm, is_no_break}
use Rattle.yaml_laws.proofs.Json.Becomes.{Becomes, Both, become_both, becomes_so, stays, white_becomes}
use Rattle.yaml_laws.proofs.Json.Words.{word_plain, word_no_break, word_calm}
use Rattle.yaml_laws.proofs.Json.Quotes.{string_quoted, string_no_break, string_calm}
use Rattle.yaml_laws.proofs.InBlock.Parts.{part_text}
use Rattle.yaml_laws.proofs.Json.Parts.{IsPadded, IsName, IsTail, AreItemAndOthers, item_and_others, first_items, other_items, ArePairAndOthers, pair_and_others, first_pairs, other_pairs, sequence_padded, mapping_padded}

-- ## Room

left_of : (n room : ℕ) → n + 1 ≤ room → (left : ℕ) × (room ≡ suc left) × (n ≤ left)
left_of n zero h = absurd (omega (arith, h))
left_of n (suc left) h = (left, refl, omega (arith, h))

pub first_least : (a b room : ℕ) → max a b ≤ room → a ≤ room
first_least a b room h = omega (arith, h)

second_least : (a b room : ℕ) → max a b ≤ room → b ≤ room
second_least a b room h = omega (arith, h)

-- ## Scalars

abbrev AsNode : ℕ → Node → Bool → List ℕ → List ℕ → Type 0
AsNode room node in_flow t x = Becomes (IsPadded room node in_flow) t x

alone : (room : ℕ) (node : Node) (in_flow : Bool) (t : List ℕ) → IsFlowNode room node in_flow 0 t → IsCalm t
    → IsPadded room node in_flow t
alone room node in_flow t flow calm = record {
  before = [];
  core = t;
  after = [];
  is = sym (append-nil t);
  white_before = tt;
  white_after = tt;
  flow = flow;
  calm = calm;
}

word_becomes : (room : ℕ) (p : Properties) (in_flow : Bool) (value t x : List ℕ) → p ≡ no_properties → IsWord value
    → t ≡ value → AsNode room (Scalar p Plain value) in_flow t x
word_becomes room p in_flow value t x none h is =
    rw is (stays value x (word_no_break value (word_safe value h)) (alone room (Scalar p Plain value) in_flow value
    (inr ([], value, inl (none, refl), word_plain in_flow 0 value h, refl)) (word_calm value h)))

string_becomes : (room : ℕ) (p : Properties) (in_flow : Bool) (value t x : List ℕ) → p ≡ no_properties
    → IsString value t → AsNode room (Scalar p DoubleQuoted value) in_flow t x
string_becomes room p in_flow value t x none h =
    stays t x (string_no_break value t h)
    (alone room (Scalar p DoubleQuoted value) in_flow t
    (inr ([], t, inl (none, refl), string_quoted 0 value t h, refl)) (string_calm value t h))

name_becomes : (room : ℕ) (node : Node) (t x : List ℕ) → IsMemberName node t → Becomes (IsName room node) t x
name_becomes room (Scalar p DoubleQuoted value) t x h =
    stays t x (string_no_break value t h.1) (record {
      flow = inr ([], t, inl (h.0, refl), string_quoted 0 value t h.1, refl);
      adjacent = λ separation. refl;
      apart = refl;
      calm = string_calm value t h.1;
    })
name_becomes room (Scalar p Plain value) t x h = elim h [ ]
name_becomes room (Scalar p SingleQuoted value) t x h = elim h [ ]
name_becomes room (Scalar p Literal value) t x h = elim h [ ]
name_becomes room (Scalar p Folded value) t x h = elim h [ ]
name_becomes room (Alias name) t x h = elim h [ ]
name_becomes room (Seq p nodes) t x h = elim h [ ]
name_becomes room (Map p pairs) t x h = elim h [ ]

-- ## Marks

-- a mark with white space round it, and what comes after
abbrev Marked : List ℕ → (List ℕ → Type 0) → List ℕ → Type 0
Marked mark P t = (w v core : List ℕ) × AreIn is_white w × AreIn is_white v × P core × (t ≡ w ++ (mark ++ (v ++ core)))

marked_so : (mark : List ℕ) (P : List ℕ → Type 0) (n : List ℕ)
    → Both (AreIn is_white) (Both (λ m. m ≡ mark) (Both (AreIn is_white) P)) n → Marked mark P n
marked_so mark P n (w, r, wh, (m, s, m_is, (v, core, vh, holds, e), f), g) = grind arith

-- the mark is a character
mark_becomes : {P : List ℕ → Type 0} (c : ℕ) (structural t x : List ℕ) → IsTrue (is_no_break c)
    → IsStructural (c ∷ []) structural → Becomes P t x → Becomes (Marked (c ∷ []) P) (structural ++ t) x
mark_becomes {P} c structural t x no_break (w, v, wh, vh, is) p =
    let whole : structural ++ t ≡ w ++ ((c ∷ []) ++ (v ++ t)) = cc (part_text w (c ∷ []) v t) in
    rw whole (becomes_so (marked_so (c ∷ []) P)
    (become_both w ((c ∷ []) ++ (v ++ t)) x (white_becomes w (((c ∷ []) ++ (v ++ t)) ++ x) wh)
    (become_both (c ∷ []) (v ++ t) x (stays (c ∷ []) ((v ++ t) ++ x) (no_break, tt) refl)
    (become_both v t x (white_becomes v (t ++ x) vh) p))))

-- ## Collections

-- a collection's text: its marks with white space round them, and its entries, the white space before its closing mark
-- among them
abbrev Enclosed : List ℕ → List ℕ → (List ℕ → Type 0) → List ℕ → Type 0
Enclosed left right Q t =
    (b a u d : List ℕ) × AreIn is_white b × AreIn is_white a × Q u × AreIn is_white d
    × (t ≡ b ++ (left ++ (a ++ (u ++ (right ++ d)))))

enclosed : (b o a i c k d : List ℕ)
    → (b ++ (o ++ a)) ++ (i ++ (c ++ (k ++ d))) ≡ b ++ (o ++ (a ++ ((i ++ c) ++ (k ++ d))))
enclosed b o a i c k d = simp append_assoc

enclosed_so : (left right : List ℕ) (Q : List ℕ → Type 0) (n : List ℕ)
    → Both (AreIn is_white) (Both (λ m. m ≡ left) (Both (AreIn is_white)
    (Both Q (Both (λ m. m ≡ right) (AreIn is_white))))) n
    → Enclosed left right Q n
enclosed_so left right Q n (b, r, bh, (o, s, o_is, (a, v, ah, (u, w, uh, (k, d, k_is, dh, e4), e3), e2), e1), e0) =
    grind arith

-- the entries, with white space after them, become so before any text
abbrev BecomeInside : (List ℕ → Type 0) → List ℕ → Type 0
BecomeInside Q t = (c y : List ℕ) → IsWhiteSpace c → Becomes Q (t ++ c) y

enclosed_becomes : {Q : List ℕ → Type 0} (o k : ℕ) (opening inside closing t x : List ℕ) → IsTrue (is_no_break o)
    → IsTrue (is_no_break k) → IsStructural (o ∷ []) opening → IsStructural (k ∷ []) closing
    → t ≡ opening ++ (inside ++ closing) → BecomeInside Q inside → Becomes (Enclosed (o ∷ []) (k ∷ []) Q) t x
enclosed_becomes {Q} o k opening inside closing t x o_stays k_stays (b, a, bh, ah, opening_is)
    (c, d, ch, dh, closing_is)
    is entries =
    let last = (k ∷ []) ++ d in
    let whole : t ≡ b ++ ((o ∷ []) ++ (a ++ ((inside ++ c) ++ last))) =
    cc (enclosed b (o ∷ []) a inside c (k ∷ []) d) in
    let more = (inside ++ c) ++ last in
    rw whole (becomes_so (enclosed_so (o ∷ []) (k ∷ []) Q)
    (become_both b ((o ∷ []) ++ (a ++ more)) x (white_becomes b (((o ∷ []) ++ (a ++ more)) ++ x) bh)
    (become_both (o ∷ []) (a ++ more) x (stays (o ∷ []) ((a ++ more) ++ x) (o_stays, tt) refl)
    (become_both a more x (white_becomes a (more ++ x) ah)
    (become_both (inside ++ c) last x (entries c (last ++ x) ch)
    (become_both (k ∷ []) d x (stays (k ∷ []) (d ++ x) (k_stays, tt) refl) (white_becomes d x dh)))))))

-- no further entries
none_become : {P : List ℕ → Type 0} (t : List ℕ) → t ≡ [] → P [] → BecomeInside (IsTail P) t
none_become {P} t none h c y white = rw none (becomes_so (λ n w. record {
  before = n;
  core = [];
  is = sym (append-nil n);
  white = w;
  holds = h;
  calm = λ rest k. k;
}) (white_becomes c y white))

items_joined : (room : ℕ) (node : Node) (nodes : Nodes) (n : List ℕ)
    → Both (IsPadded room node true) (IsTail (AreOtherItems room nodes 0)) n
    → IsTail (AreItemAndOthers room node nodes) n
items_joined room node nodes n (t, u, p, o, e) = rw e (item_and_others room node nodes t u p o)

-- an element and the others
element_becomes : (room : ℕ) (node : Node) (nodes : Nodes) (element others : List ℕ)
    → ((x : List ℕ) → AsNode room node true element x) → BecomeInside (IsTail (AreOtherItems room nodes 0)) others
    → (c y : List ℕ) → IsWhiteSpace c → Becomes (IsTail (AreItemAndOthers room node nodes)) (element ++ (others ++ c)) y
element_becomes room node nodes element others first more c y white =
    becomes_so (items_joined room node nodes)
    (become_both element (others ++ c) y (first ((others ++ c) ++ y)) (more c y white))

further_items : (room : ℕ) (node : Node) (nodes : Nodes) (n : List ℕ)
    → Marked (codes ",") (IsTail (AreItemAndOthers room node nodes)) n
    → IsTail (AreOtherItems room (MoreNodes node nodes) 0) n
further_items room node nodes n (w, v, core, wh, vh, h, e) = rw e (other_items room node nodes w v core wh vh h)

abbrev IsPairRun : ℕ → Node → Node → Pairs → List ℕ → Type 0
IsPairRun room key value pairs t =
    Both (IsName room key) (Marked (codes ":") (Both (IsPadded room value true)
    (IsTail (AreOtherFlowPairs room pairs 0)))) t

pairs_joined : (room : ℕ) (key value : Node) (pairs : Pairs) (n : List ℕ) → IsPairRun room key value pairs n
    → ArePairAndOthers room key value pairs n
pairs_joined room key value pairs n (name, rest, named, (w, v, core, wh, vh, (t, u, p, o, e2), e1), e0) =
    grind (arith, pair_and_others)

-- a member and the others
member_becomes : (room : ℕ) (key value : Node) (pairs : Pairs) (name colon text others : List ℕ)
    → IsMemberName key name → IsStructural (codes ":") colon → ((x : List ℕ) → AsNode room value true text x)
    → BecomeInside (IsTail (AreOtherFlowPairs room pairs 0)) others → (c y : List ℕ) → IsWhiteSpace c
    → Becomes (ArePairAndOthers room key value pairs) (name ++ (colon ++ (text ++ (others ++ c)))) y
member_becomes room key value pairs name colon text others named colon_is first more c y white =
    let rest = text ++ (others ++ c) in
    becomes_so (pairs_joined room key value pairs)
    (become_both name (colon ++ rest) y (name_becomes room key name ((colon ++ rest) ++ y) named)
    (mark_becomes 58 colon rest y refl colon_is
    (become_both text (others ++ c) y (first ((others ++ c) ++ y)) (more c y white))))

further_pairs : (room : ℕ) (key value : Node) (pairs : Pairs) (n : List ℕ)
    → Marked (codes ",") (ArePairAndOthers room key value pairs) n
    → IsTail (AreOtherFlowPairs room (MorePairs key value pairs) 0) n
further_pairs room key value pairs n (w, v, core, wh, vh, h, e) = grind (arith, other_pairs)

-- a sequence and a mapping
sequence_becomes : (room left : ℕ) (p : Properties) (nodes : Nodes) (in_flow : Bool) (t x : List ℕ) → room ≡ suc left
    → IsValue (Seq p nodes) t
    → ((inside : List ℕ) → AreElements nodes inside → BecomeInside (IsTail (AreItems left nodes 0)) inside)
    → AsNode room (Seq p nodes) in_flow t x
sequence_becomes room left p nodes in_flow t x some (opening, inside, closing, none, o, els, k, is) entries =
    becomes_so (λ n (b, a, u, d, bh, ah, uh, dh, e). rw e
    (sequence_padded room left p nodes in_flow b a u d some none bh ah uh dh))
    (enclosed_becomes 91 93 opening inside closing t x refl refl o k is (entries inside els))

mapping_becomes : (room left : ℕ) (p : Properties) (pairs : Pairs) (in_flow : Bool) (t x : List ℕ) → room ≡ suc left
    → IsValue (Map p pairs) t
    → ((inside : List ℕ) → AreMembers pairs inside → BecomeInside (IsTail (AreFlowPairs left pairs 0)) inside)
    → AsNode room (Map p pairs) in_flow t x
mapping_becomes room left p pairs in_flow t x some (opening, inside, closing, none, o, els, k, is) entries =
    becomes_so (λ n (b, a, u, d, bh, ah, uh, dh, e). rw e
    (mapping_padded room left p pairs in_flow b a u d some none bh ah uh dh))
    (enclosed_becomes 123 125 opening inside closing t x refl refl o k is (entries inside els))

-- ## All values

behind_two : (a b c : List ℕ) (t : List ℕ) → t ≡ a ++ b → t ++ c ≡ a ++ (b ++ c)
behind_two a b c t e = cc (append_assoc a b c)

behind_three : (a b c d t : List ℕ) → t ≡ a ++ (b ++ c) → t ++ d ≡ a ++ (b ++ (c ++ d))
behind_three a b c d t e = cc (part_text a b c d)

behind_four : (a b c d f t : List ℕ) → t ≡ a ++ (b ++ (c ++ d)) → t ++ f ≡ a ++ (b ++ (c ++ (d ++ f)))
behind_four a b c d f t e = grind (arith, append_assoc)

behind_five : (a b c d f g t : List ℕ) → t ≡ a ++ (b ++ (c ++ (d ++ f))) → t ++ g ≡ a ++ (b ++ (c ++ (d ++ (f ++ g))))
behind_five a b c d f g t e = grind (arith, append_assoc)

mutual
  pub value_becomes : (room : ℕ) (node : Node) (in_flow : Bool) (t x : List ℕ) → IsValue node t
      → open_collections node ≤ room → AsNode room node in_flow t x
  value_becomes room (Scalar p Plain value) in_flow t x h fits = word_becomes room p in_flow value t x h.0 h.1 h.2
  value_becomes room (Scalar p DoubleQuoted value) in_flow t x h fits = string_becomes room p in_flow value t x h.0 h.1
  value_becomes room (Scalar p SingleQuoted value) in_flow t x h fits = elim h [ ]
  value_becomes room (Scalar p Literal value) in_flow t x h fits = elim h [ ]
  value_becomes room (Scalar p Folded value) in_flow t x h fits = elim h [ ]
  value_becomes room (Alias name) in_flow t x h fits = elim h [ ]
  value_becomes room (Seq p nodes) in_flow t x h fits =
      let r = left_of (open_in_nodes nodes) room fits in
      sequence_becomes room r.0 p nodes in_flow t x r.1 h
      (λ inside els. elements_become r.0 nodes inside els r.2)
  value_becomes room (Map p pairs) in_flow t x h fits =
      let r = left_of (open_in_pairs pairs) room fits in
      mapping_becomes room r.0 p pairs in_flow t x r.1 h
      (λ inside els. members_become r.0 pairs inside els r.2)

  elements_become : (room : ℕ) (nodes : Nodes) (t : List ℕ) → AreElements nodes t → open_in_nodes nodes ≤ room
      → BecomeInside (IsTail (AreItems room nodes 0)) t
  elements_become room NoNode t h fits c y white = none_become t h refl c y white
  elements_become room (MoreNodes node nodes) t (element, others, first, more, is) fits c y white =
      rw (behind_two element others c t is) (becomes_so (first_items room node nodes)
      (element_becomes room node nodes element others
      (λ x. value_becomes room node true element x first (first_least (open_collections node) (open_in_nodes nodes) room
      fits))
      (other_elements_become room nodes others more (second_least (open_collections node) (open_in_nodes nodes) room
      fits))
      c y white))

  other_elements_become : (room : ℕ) (nodes : Nodes) (t : List ℕ) → AreOtherElements nodes t
      → open_in_nodes nodes ≤ room → BecomeInside (IsTail (AreOtherItems room nodes 0)) t
  other_elements_become room NoNode t h fits c y white = none_become t h (inl refl) c y white
  other_elements_become room (MoreNodes node nodes) t (comma, element, others, mark, first, more, is) fits c y white =
      rw (behind_three comma element others c t is) (becomes_so (further_items room node nodes)
      (mark_becomes 44 comma (element ++ (others ++ c)) y refl mark
      (element_becomes room node nodes element others
      (λ x. value_becomes room node true element x first (first_least (open_collections node) (open_in_nodes nodes) room
      fits))
      (other_elements_become room nodes others more (second_least (open_collections node) (open_in_nodes nodes) room
      fits))
      c y white)))

  members_become : (room : ℕ) (pairs : Pairs) (t : List ℕ) → AreMembers pairs t → open_in_pairs pairs ≤ room
      → BecomeInside (IsTail (AreFlowPairs room pairs 0)) t
  members_become room NoPair t h fits c y white = none_become t h refl c y white
  members_become room (MorePairs key node pairs) t (name, colon, value, others, named, mark, first, more, is) fits c y
      white =
      let later = second_least (open_collections key) (max (open_collections node) (open_in_pairs pairs)) room fits in
      rw (behind_four name colon value others c t is) (becomes_so (first_pairs room key node pairs)
      (member_becomes room key node pairs name colon value others named mark
      (λ x. value_becomes room node true value x first
      (first_least (open_collections node) (open_in_pairs pairs) room later))
      (other_members_become room pairs others more
      (second_least (open_collections node) (open_in_pairs pairs) room later))
      c y white))

  other_members_become : (room : ℕ) (pairs : Pairs) (t : List ℕ) → AreOtherMembers pairs t → open_in_pairs pairs ≤ room
      → BecomeInside (IsTail (AreOtherFlowPairs room pairs 0)) t
  other_members_become room NoPair t h fits c y white = none_become t h (inl refl) c y white
  other_members_become room (MorePairs key node pairs) t
      (comma, name, colon, value, others, first_mark, named, mark, first, more, is) fits c y white =
      let later = second_least (open_collections key) (max (open_collections node) (open_in_pairs pairs)) room fits in
      rw (behind_five comma name colon value others c t is) (becomes_so (further_pairs room key node pairs)
      (mark_becomes 44 comma (name ++ (colon ++ (value ++ (others ++ c)))) y refl first_mark
      (member_becomes room key node pairs name colon value others named mark
      (λ x. value_becomes room node true value x first
      (first_least (open_collections node) (open_in_pairs pairs) room later))
      (other_members_become room pairs others more
      (second_least (open_collections node) (open_in_pairs pairs) room later))
      c y white)))
