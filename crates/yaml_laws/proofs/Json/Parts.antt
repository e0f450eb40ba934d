-- The parts of a text of JSON, joined to items and pairs of YAML's grammar: white space of both sides of a mark comes
-- together, and that after a value belongs to the value's item.
use Rattle.yaml_laws.proofs.Common.{Bool, IsTrue, List, [], ap, append_assoc, arith, codes, inl, inr, not, refl, suc, true, ℕ, ◌++◌, ◌∙◌, ◌≡◌, AreIn, Map, MoreNodes, MorePairs, Node, Nodes, Pairs, Properties, Seq, no_properties, IsSeparation, AreFlowPairs, AreItems, AreOtherFlowPairs, AreOtherItems, IsBeforeSeparation, IsComma, IsFlowNode, IsPair, allows_adjacent, needs_separation}
use Rattle.yaml_laws.proofs.Json.White.{is_white, white_separates}
use Rattle.yaml_laws.proofs.Json.Calm.{IsCalm, calm_both, calm_character, white_calm}
use Rattle.yaml_laws.proofs.Json.Becomes.{white_both}

-- a node with white space round it
pub record IsPadded (room : ℕ) (node : Node) (in_flow : Bool) (t : List ℕ) : Type 0 where
  pub before : List ℕ
  pub core : List ℕ
  pub after : List ℕ
  pub is : t ≡ before ++ (core ++ after)
  pub white_before : AreIn is_white before
  pub white_after : AreIn is_white after
  pub flow : IsFlowNode room node in_flow 0 core
  pub calm : IsCalm core

-- a key
pub record IsName (room : ℕ) (node : Node) (t : List ℕ) : Type 0 where
  pub flow : IsFlowNode room node true 0 t
  pub adjacent : (separation : List ℕ) → IsTrue (allows_adjacent node separation)
  pub apart : IsTrue (not (needs_separation node))
  pub calm : IsCalm t

-- white space, and what comes after it
pub record IsTail (P : List ℕ → Type 0) (t : List ℕ) : Type 0 where
  pub before : List ℕ
  pub core : List ℕ
  pub is : t ≡ before ++ core
  pub white : AreIn is_white before
  pub holds : P core
  pub calm : IsCalm core

-- ## Items

-- an item, with the white space after it, and the other items
pub record AreItemAndOthers (room : ℕ) (node : Node) (nodes : Nodes) (t : List ℕ) : Type 0 where
  pub item : List ℕ
  pub others : List ℕ
  pub is : t ≡ item ++ others
  pub one : IsBeforeSeparation (IsFlowNode room node true 0) 0 item
  pub more : AreOtherItems room nodes 0 others
  pub calm : IsCalm t

item_regrouped : (b c a w o : List ℕ) → (b ++ (c ++ a)) ++ (w ++ o) ≡ b ++ ((c ++ (a ++ w)) ++ o)
item_regrouped b c a w o = simp append_assoc

pub item_and_others : (room : ℕ) (node : Node) (nodes : Nodes) (t u : List ℕ) → IsPadded room node true t
    → IsTail (AreOtherItems room nodes 0) u → IsTail (AreItemAndOthers room node nodes) (t ++ u)
item_and_others room node nodes t u p o =
    let white = white_both p.after o.before p.white_after o.white in
    let gap = p.after ++ o.before in
    record {
      before = p.before;
      core = (p.core ++ gap) ++ o.core;
      is = cc (item_regrouped p.before p.core p.after o.before o.core);
      white = p.white_before;
      holds = record {
        item = p.core ++ gap;
        others = o.core;
        is = refl;
        one = (p.core, gap, p.flow, white_separates gap white, refl);
        more = o.holds;
        calm = calm_both (p.core ++ gap) o.core (calm_both p.core gap p.calm (white_calm gap white)) o.calm;
      };
      calm = calm_both (p.core ++ gap) o.core (calm_both p.core gap p.calm (white_calm gap white)) o.calm;
    }

pub first_items : (room : ℕ) (node : Node) (nodes : Nodes) (t : List ℕ) → IsTail (AreItemAndOthers room node nodes) t
    → IsTail (AreItems room (MoreNodes node nodes) 0) t
first_items room node nodes t h = grind arith

comma : (w : List ℕ) → AreIn is_white w → IsComma 0 (codes "," ++ w)
comma w h = (w, white_separates w h, refl)

comma_calm : (w : List ℕ) → AreIn is_white w → IsCalm (codes "," ++ w)
comma_calm w h = calm_both (codes ",") w (calm_character 44 refl refl) (white_calm w h)

pub mark_regrouped : (k w b c : List ℕ) → k ++ (w ++ (b ++ c)) ≡ (k ++ (w ++ b)) ++ c
mark_regrouped k w b c = simp append_assoc

pub other_items : (room : ℕ) (node : Node) (nodes : Nodes) (w v t : List ℕ) → AreIn is_white w → AreIn is_white v
    → IsTail (AreItemAndOthers room node nodes) t
    → IsTail (AreOtherItems room (MoreNodes node nodes) 0) (w ++ (codes "," ++ (v ++ t)))
other_items room node nodes w v t wh vh h =
    let white = white_both v h.before vh h.white in
    let gap = v ++ h.before in
    record {
      before = w;
      core = (codes "," ++ gap) ++ h.core;
      is = cc (mark_regrouped (codes ",") v h.before h.core);
      white = wh;
      holds = (
        codes "," ++ gap,
        h.holds.item,
        h.holds.others,
        comma gap white,
        inl h.holds.one,
        h.holds.more,
        cc,
      );
      calm = calm_both (codes "," ++ gap) h.core (comma_calm gap white) h.calm;
    }

-- ## Pairs

-- a pair, with the white space after it, and the other pairs
pub record ArePairAndOthers (room : ℕ) (key value : Node) (pairs : Pairs) (t : List ℕ) : Type 0 where
  pub pair : List ℕ
  pub others : List ℕ
  pub is : t ≡ pair ++ others
  pub one : IsPair key value (IsFlowNode room key true 0) (IsFlowNode room value true 0) 0 pair
  pub more : AreOtherFlowPairs room pairs 0 others
  pub calm : IsCalm t

pair_regrouped : (n w k v b c a x o : List ℕ) → n ++ (w ++ (k ++ (v ++ ((b ++ (c ++ a)) ++ (x ++ o)))))
    ≡ ((n ++ (w ++ (k ++ ((v ++ b) ++ c)))) ++ (a ++ x)) ++ o
pair_regrouped n w k v b c a x o = simp append_assoc

calm_colon : (k g c : List ℕ) → IsCalm (k ++ g) → IsCalm c → IsCalm (k ++ (g ++ c))
calm_colon k g c p q = rw (append_assoc k g c) at (calm_both (k ++ g) c p q)

-- The white space around the parts moves: what is before the value goes to the separation behind the colon, and what is
-- after it, with what is before the other pairs, behind the pair. `pair_regrouped` says so of the text.
pub pair_and_others : (room : ℕ) (key value : Node) (pairs : Pairs) (n w v t u : List ℕ) → IsName room key n
    → AreIn is_white w → AreIn is_white v → IsPadded room value true t → IsTail (AreOtherFlowPairs room pairs 0) u
    → ArePairAndOthers room key value pairs (n ++ (w ++ (codes ":" ++ (v ++ (t ++ u)))))
pair_and_others room key value pairs n w v t u name wh vh p o =
    let behind = v ++ p.before in
    let behind_white = white_both v p.before vh p.white_before in
    let gap = p.after ++ o.before in
    let gap_white = white_both p.after o.before p.white_after o.white in
    let colon = codes ":" ++ (behind ++ p.core) in
    let whole = n ++ (w ++ colon) in
    let is = ap (λ (x : List ℕ). n ++ (w ++ (codes ":" ++ (v ++ (x ++ u))))) p.is
    ∙ ap (λ (x : List ℕ). n ++ (w ++ (codes ":" ++ (v ++ ((p.before ++ (p.core ++ p.after)) ++ x))))) o.is
    ∙ pair_regrouped n w (codes ":") v p.before p.core p.after o.before o.core in
    let whole_calm = calm_both n (w ++ colon) name.calm (calm_both w colon (white_calm w wh)
    (calm_colon (codes ":") behind p.core (calm_both (codes ":") behind (calm_character 58 refl refl) (white_calm behind
    behind_white)) p.calm)) in
    record {
      pair = whole ++ gap;
      others = o.core;
      is = is;
      one = inr (
        whole,
        gap,
        inr (inl (
          n,
          w,
          colon,
          inl name.flow,
          white_separates w wh,
          inr name.apart,
          inr (behind, p.core, white_separates behind behind_white, inr (name.adjacent w), p.flow, refl),
          refl,
        )),
        white_separates gap gap_white,
        refl,
      );
      more = o.holds;
      calm = rw is (calm_both (whole ++ gap) o.core (calm_both whole gap whole_calm (white_calm gap gap_white)) o.calm);
    }

pub first_pairs : (room : ℕ) (key value : Node) (pairs : Pairs) (t : List ℕ) → ArePairAndOthers room key value pairs t
    → IsTail (AreFlowPairs room (MorePairs key value pairs) 0) t
first_pairs room key value pairs t h = grind arith

pub other_pairs : (room : ℕ) (key value : Node) (pairs : Pairs) (w v t : List ℕ) → AreIn is_white w → AreIn is_white v
    → ArePairAndOthers room key value pairs t
    → IsTail (AreOtherFlowPairs room (MorePairs key value pairs) 0) (w ++ (codes "," ++ (v ++ t)))
other_pairs room key value pairs w v t wh vh h = record {
  before = w;
  core = codes "," ++ (v ++ t);
  is = refl;
  white = wh;
  holds = (
    codes "," ++ v,
    h.pair,
    h.others,
    comma v vh,
    h.one,
    h.more,
    cc,
  );
  calm = calm_colon (codes ",") v t (comma_calm v vh) h.calm;
}

-- ## Collections

collection_regrouped : (b o a w c k d : List ℕ)
    → b ++ (o ++ (a ++ ((w ++ c) ++ (k ++ d)))) ≡ b ++ (((o ++ (a ++ w)) ++ (c ++ k)) ++ d)
collection_regrouped b o a w c k d = simp append_assoc

bracket_calm : (o g c k : List ℕ) → IsCalm o → AreIn is_white g → IsCalm c → IsCalm k → IsCalm ((o ++ g) ++ (c ++ k))
bracket_calm o g c k p white q r = search (calm_both, white_calm)

collection_padded : (room : ℕ) (node : Node) (in_flow : Bool) (Text : List ℕ → Type 0) (o k b a t d : List ℕ)
    → IsCalm o → IsCalm k → AreIn is_white b → AreIn is_white a → IsTail Text t → AreIn is_white d
    → ((gap core : List ℕ) → IsSeparation 0 gap → Text core
    → IsFlowNode room node in_flow 0 ((o ++ gap) ++ (core ++ k)))
    → IsPadded room node in_flow (b ++ (o ++ (a ++ (t ++ (k ++ d)))))
collection_padded room node in_flow Text o k b a t d oc kc bh ah h dh flow =
    let gap = a ++ h.before in
    let white = white_both a h.before ah h.white in
    record {
      before = b;
      core = (o ++ gap) ++ (h.core ++ k);
      after = d;
      is = cc (collection_regrouped b o a h.before h.core k d);
      white_before = bh;
      white_after = dh;
      flow = flow gap h.core (white_separates gap white) h.holds;
      calm = bracket_calm o gap h.core k oc white h.calm kc;
    }

pub sequence_padded : (room left : ℕ) (p : Properties) (nodes : Nodes) (in_flow : Bool) (b a t d : List ℕ)
    → room ≡ suc left → p ≡ no_properties → AreIn is_white b → AreIn is_white a → IsTail (AreItems left nodes 0) t
    → AreIn is_white d → IsPadded room (Seq p nodes) in_flow (b ++ (codes "[" ++ (a ++ (t ++ (codes "]" ++ d)))))
sequence_padded room left p nodes in_flow b a t d some none bh ah h dh =
    collection_padded room (Seq p nodes) in_flow (AreItems left nodes 0) (codes "[") (codes "]") b a t d
    (calm_character 91 refl refl) (calm_character 93 refl refl) bh ah h dh
    (λ gap core parts items. (
      left,
      codes "[" ++ gap,
      core,
      some,
      ([], gap, inl (none, refl), parts, refl),
      items,
      refl,
    ))

pub mapping_padded : (room left : ℕ) (p : Properties) (pairs : Pairs) (in_flow : Bool) (b a t d : List ℕ)
    → room ≡ suc left → p ≡ no_properties → AreIn is_white b → AreIn is_white a → IsTail (AreFlowPairs left pairs 0) t
    → AreIn is_white d → IsPadded room (Map p pairs) in_flow (b ++ (codes "{" ++ (a ++ (t ++ (codes "}" ++ d)))))
mapping_padded room left p pairs in_flow b a t d some none bh ah h dh =
    collection_padded room (Map p pairs) in_flow (AreFlowPairs left pairs 0) (codes "{") (codes "}") b a t d
    (calm_character 123 refl refl) (calm_character 125 refl refl) bh ah h dh
    (λ gap core parts pairs. (
      left,
      codes "{" ++ gap,
      core,
      some,
      ([], gap, inl (none, refl), parts, refl),
      pairs,
      refl,
    ))
