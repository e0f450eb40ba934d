-- A number is of one node, and a node has one list of parts: events show where a node ends.
use Rattle.std.proofs.Common.{arith, ◌≡◌, ◌∙◌, refl, sym, ap, subst, ℕ, ◌+◌, ◌<◌, List, [], ◌∷◌, ◌++◌, append_assoc, inl, inr}
use Rattle.yaml_tree.specs.Tables.{AreNodes, Event, IsEnd, IsLeafEvent, IsMadeOf, IsNode, IsNodeAt, IsStart, all_of, beginning, nodes_begun, leaf, none, one_more, whole}
use Rattle.yaml_tree.proofs.Roots.{leaf_event, start_event}

same_head : (x y : Event) (xs ys : List Event) → x ∷ xs ≡ y ∷ ys → x ≡ y
same_head x y xs ys e = cc

same_tail : (x y : Event) (xs ys : List Event) → x ∷ xs ≡ y ∷ ys → xs ≡ ys
same_tail x y xs ys e = cc

-- ## A node's first event

pub record Begins (own : List Event) : Type 0 where
  pub first : Event
  pub others : List Event
  pub split : own ≡ first ∷ others
  pub one : beginning first.0 ≡ 1

pub begins : (own : List Event) → IsNode own → Begins own
begins _ (leaf e l) = record { first = e; others = []; split = refl; one = (leaf_event e.0 l).0 }
begins _ (whole first parts last s nodes end) =
    record { first = first; others = all_of parts ++ last ∷ []; split = refl; one = (start_event first.0 s).0 }

no_node : IsNode [] → ⊥
no_node n = elim n [ ]

pub no_nodes_yet : (doc : List Event) (parts : List (List Event)) → AreNodes parts → [] ≡ doc ++ all_of parts
    → parts ≡ []
no_nodes_yet doc [] nodes e = refl
no_nodes_yet (x ∷ doc) (own ∷ others) nodes e = absurd (cc)
no_nodes_yet [] ([] ∷ others) (one_more _ _ n m) e = absurd (no_node n)
no_nodes_yet [] ((x ∷ own) ∷ others) nodes e = absurd (cc)

-- ## Where a node ends

around : (x y : Event) (xs ys : List Event) → (x ∷ (xs ++ y ∷ [])) ++ ys ≡ x ∷ (xs ++ (y ∷ ys))
around x y xs ys = ap (λ (l : List Event). x ∷ l) (append_assoc xs (y ∷ []) ys)

no_end_begins : (own xs ys : List Event) (y : Event) → IsNode own → IsEnd y.0 → own ++ xs ≡ y ∷ ys → ⊥
no_end_begins _ xs ys y (leaf e l) end same =
    (leaf_event y.0 (subst (λ (x : Event). IsLeafEvent x.0) (same_head e y xs ys same) l)).3 end
no_end_begins _ xs ys y (whole first parts last s nodes ends) end same =
    (start_event y.0 (subst (λ (x : Event). IsStart x.0) (same_head first y _ ys same) s)).2 end

mutual
  pub node_once : (a b xs ys : List Event) → IsNode a → IsNode b → a ++ xs ≡ b ++ ys → (a ≡ b) × (xs ≡ ys)
  node_once _ _ xs ys (leaf e l) (leaf f m) same =
      (ap (λ (x : Event). x ∷ []) (same_head e f xs ys same), same_tail e f xs ys same)
  node_once _ _ xs ys (leaf e l) (whole first parts last s nodes end) same =
      absurd ((leaf_event first.0 (subst (λ (x : Event). IsLeafEvent x.0) (same_head e first xs _ same) l)).2 s)
  node_once _ _ xs ys (whole first parts last s nodes end) (leaf f m) same =
      absurd ((leaf_event first.0 (subst (λ (x : Event). IsLeafEvent x.0) (sym (same_head first f _ ys same)) m)).2 s)
  node_once _ _ xs ys (whole first parts last s nodes end) (whole f qs z t others ends) same =
      let whole_same : first ∷ (all_of parts ++ (last ∷ xs)) ≡ f ∷ (all_of qs ++ (z ∷ ys)) =
      sym (around first last (all_of parts) xs) ∙ same ∙ around f z (all_of qs) ys in
      let inner = nodes_once parts qs (last ∷ xs) (z ∷ ys) last z xs ys nodes others end ends refl refl
      (same_tail first f _ _ whole_same) in (
        ap (λ (x : Event). x ∷ (all_of parts ++ last ∷ [])) (same_head first f _ _ whole_same)
            ∙ ap (λ (ps : List (List Event)). f ∷ (all_of ps ++ last ∷ [])) inner.0
            ∙ ap (λ (x : Event). f ∷ (all_of qs ++ x ∷ [])) (same_head last z xs ys inner.1),
        same_tail last z xs ys inner.1,
      )

  pub nodes_once : (ps qs : List (List Event)) (xs ys : List Event) (x y : Event) (us vs : List Event) → AreNodes ps
      → AreNodes qs → IsEnd x.0 → IsEnd y.0 → xs ≡ x ∷ us → ys ≡ y ∷ vs → all_of ps ++ xs ≡ all_of qs ++ ys
      → (ps ≡ qs) × (xs ≡ ys)
  nodes_once _ _ xs ys x y us vs none none e f is js same = (refl, same)
  nodes_once _ _ xs ys x y us vs none (one_more own others n m) e f is js same =
      absurd (no_end_begins own (all_of others ++ ys) us x n e
      (sym (sym is ∙ same ∙ append_assoc own (all_of others) ys)))
  nodes_once _ _ xs ys x y us vs (one_more own others n m) none e f is js same =
      absurd (no_end_begins own (all_of others ++ xs) vs y n f
      (sym (append_assoc own (all_of others) xs) ∙ same ∙ js))
  nodes_once _ _ xs ys x y us vs (one_more own others n m) (one_more own2 others2 n2 m2) e f is js same =
      let first = node_once own own2 (all_of others ++ xs) (all_of others2 ++ ys) n n2
      (sym (append_assoc own (all_of others) xs) ∙ same ∙ append_assoc own2 (all_of others2) ys) in
      let rest = nodes_once others others2 xs ys x y us vs m m2 e f is js first.1 in (
        ap (λ (l : List Event). l ∷ others) first.0 ∙ ap (λ (ls : List (List Event)). own2 ∷ ls) rest.0,
        rest.1,
      )

-- a node is made of these parts alone
pub made_once : (own : List Event) (first f : Event) (parts qs : List (List Event)) (last z : Event)
    → IsMadeOf own first parts last → IsMadeOf own f qs z → (first ≡ f) × (parts ≡ qs) × (last ≡ z)
made_once own first f parts qs last z (inl m) (inl n) =
    let same = same_head first f [] [] (sym m.1 ∙ n.1) in (same, m.2 ∙ sym n.2, m.3 ∙ same ∙ sym n.3)
made_once own first f parts qs last z (inl m) (inr n) =
    let same = same_head first f [] _ (sym m.1 ∙ n.1) in
    absurd ((leaf_event f.0 (subst (λ (x : Event). IsLeafEvent x.0) same m.0)).2 n.0)
made_once own first f parts qs last z (inr m) (inl n) =
    let same = same_head first f _ [] (sym m.1 ∙ n.1) in
    absurd ((leaf_event first.0 (subst (λ (x : Event). IsLeafEvent x.0) (sym same) n.0)).2 m.0)
made_once own first f parts qs last z (inr m) (inr n) =
    let same = sym m.1 ∙ n.1 in
    let inner = nodes_once parts qs (last ∷ []) (z ∷ []) last z [] [] m.2 n.2 m.3 n.3 refl refl
    (same_tail first f _ _ same) in
    (same_head first f _ _ same, inner.0, same_head last z [] [] inner.1)

-- ## A place

pub begun-append : (xs ys : List Event) → nodes_begun (xs ++ ys) ≡ nodes_begun xs + nodes_begun ys
begun-append [] ys = omega arith
begun-append (x ∷ xs) ys = let e = begun-append xs ys in omega (arith, e)

pub fronts_once : (f g xs ys : List Event) (x y : Event) → beginning x.0 ≡ 1 → beginning y.0 ≡ 1
    → nodes_begun f ≡ nodes_begun g → f ++ (x ∷ xs) ≡ g ++ (y ∷ ys) → x ∷ xs ≡ y ∷ ys
fronts_once [] [] xs ys x y one other count same = same
fronts_once [] (e ∷ g) xs ys x y one other count same =
    let is = ap (λ (h : Event). beginning h.0) (same_head x e xs (g ++ (y ∷ ys)) same) in
    absurd (omega (arith, one, is, count))
fronts_once (e ∷ f) [] xs ys x y one other count same =
    let is = ap (λ (h : Event). beginning h.0) (same_head e y (f ++ (x ∷ xs)) ys same) in
    absurd (omega (arith, other, is, count))
fronts_once (e ∷ f) (h ∷ g) xs ys x y one other count same =
    let is = ap (λ (h : Event). beginning h.0) (same_head e h (f ++ (x ∷ xs)) (g ++ (y ∷ ys)) same) in
    fronts_once f g xs ys x y one other (omega (arith, is, count)) (same_tail e h (f ++ (x ∷ xs)) (g ++ (y ∷ ys)) same)

-- there is one node with a number
pub place_once : (es : List Event) (number : ℕ) (a b : List Event) → IsNodeAt es number a → IsNodeAt es number b → a ≡ b
place_once es number a b p q =
    let one = begins a p.node in
    let other = begins b q.node in
    let long : (o : Begins a) → p.front ++ (o.first ∷ (o.others ++ p.behind)) ≡ es =
    λ o. sym (p.split ∙ ap (λ (l : List Event). p.front ++ (l ++ p.behind)) o.split) in
    let long2 : (o : Begins b) → q.front ++ (o.first ∷ (o.others ++ q.behind)) ≡ es =
    λ o. sym (q.split ∙ ap (λ (l : List Event). q.front ++ (l ++ q.behind)) o.split) in
    let same = fronts_once p.front q.front (one.others ++ p.behind) (other.others ++ q.behind) one.first other.first
    one.one other.one (p.first ∙ sym q.first) (long one ∙ sym (long2 other)) in
    (node_once a b p.behind q.behind p.node q.node
    (ap (λ (l : List Event). l ++ p.behind) one.split ∙ same
    ∙ ap (λ (l : List Event). l ++ q.behind) (sym other.split))).0

pub within : (es : List Event) (number : ℕ) (own : List Event) → IsNodeAt es number own → number < nodes_begun es
within es number own at =
    let one = begins own at.node in
    let all = ap nodes_begun at.split ∙ begun-append at.front (own ++ at.behind) in
    let inner = begun-append own at.behind in
    let begin = ap nodes_begun one.split in
    let first = at.first in
    let is = one.one in
    omega (arith, all, inner, begin, first, is)
