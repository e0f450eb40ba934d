-- A forest has no more anchors than tokens.
use Rattle.event_laws.proofs.Common.{◌≡◌, ℕ, ◌+◌, ◌≤◌, List, [], ◌∷◌, ◌++◌, length, Option, option_map, encode_utf8_all, arith, length-append, Tag, Properties, Forest, Kind, anchor_token, tag_token, AreBoth, Yields, anchor_of, one_more_anchor, anchors, Part, parts}
use Rattle.event_laws.proofs.AddsUp.{Collection, opening, closing, opening_part, closing_part, of_forest}

one_more_sum : (o : Option (List ℕ)) (a b : ℕ) → one_more_anchor o (a + b) ≡ one_more_anchor o a + b
one_more_sum o a b = grind arith

sum : (ps qs : List Part) → anchors (ps ++ qs) ≡ anchors ps + anchors qs
sum [] qs = omega arith
sum (p ∷ ps) qs = cc (sum ps qs, one_more_sum (anchor_of p) (anchors ps) (anchors qs))

property_count : (a : Option (List ℕ)) (g : Option Tag) (t : List Kind)
    → AreBoth (option_map anchor_token a) (option_map tag_token g) t
    → one_more_anchor (option_map encode_utf8_all a) 0 ≤ length t
property_count a g t h = grind arith

-- a collection has its properties' anchor, and those inside
around : (c : Collection) (p : Properties) (ps : List Part) → anchors (opening_part c p ∷ (ps ++ closing_part c ∷ []))
    ≡ one_more_anchor (option_map encode_utf8_all p.anchor) 0 + anchors ps
around c p ps = grind (arith, sum, opening_part, closing_part)

pub forest_count : (f : Forest) (t : List Kind) → Yields f t → anchors (parts f) ≤ length t
forest_count = of_forest (λ t ps. anchors ps ≤ length t) (record {
  nothing = omega arith;
  both = λ s t ps qs x y. let l = length-append s t in let c = sum ps qs in omega (arith, l, c, x, y);
  single = λ k i. omega arith;
  part = λ part p t e y x. rw e (property_count p.anchor p.tag t y);
  collection = λ c p front inside ps y f x.
      let own = property_count p.anchor p.tag front y in
      let l = length-append front (opening c ∷ (inside ++ closing c ∷ [])) in
      let m = length-append inside (closing c ∷ []) in omega (arith, own, around c p ps, l, m, x);
})
