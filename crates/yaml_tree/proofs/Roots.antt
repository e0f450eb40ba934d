-- What an event begins and ends, and the roots of documents behind more events.
use Rattle.std.proofs.Common.{arith, ◌≡◌, ◌∙◌, refl, ap, subst, ℕ, suc, ◌+◌, List, [], ◌∷◌, ◌++◌, length, append_assoc}
use Rattle.saphyr_parser.specs.Events.{Happening, Alias, Scalar, SequenceStart, SequenceEnd, MappingStart, MappingEnd}
use Rattle.yaml_tree.specs.declared.table.Root.{Root}
use Rattle.yaml_tree.specs.CounterSeen.{Count, begun as counts_begun, counted, left}
use Rattle.yaml_tree.specs.Tables.{AreRootsFrom, Event, IsEnd, IsLeafEvent, IsRootAt, IsStart, beginning, id_of_anchor, documents_ended, documents_ended_by}

-- ## What an event does

pub ended-append : (xs ys : List Event) → documents_ended (xs ++ ys) ≡ documents_ended xs + documents_ended ys
ended-append [] ys = omega arith
ended-append (x ∷ xs) ys = let e = ended-append xs ys in omega (arith, e)

-- a whole node: one node begins, no collection begins or ends, and no document ends
pub leaf_event : (h : Happening) → IsLeafEvent h
    → (beginning h ≡ 1) × (documents_ended_by h ≡ 0) × (IsStart h → ⊥) × (IsEnd h → ⊥)
leaf_event (Alias id) l = (refl, refl, λ s. s, λ e. e)
leaf_event (Scalar text style id tag) l = (refl, refl, λ s. s, λ e. e)
leaf_event _ l = absurd l

-- a collection begins: one node, and no collection or document ends
pub start_event : (h : Happening) → IsStart h → (beginning h ≡ 1) × (documents_ended_by h ≡ 0) × (IsEnd h → ⊥)
    × ((c : Count) → counted h c ≡ counts_begun (id_of_anchor h) c)
start_event (SequenceStart id tag) s = (refl, refl, λ e. e, λ c. refl)
start_event (MappingStart id tag) s = (refl, refl, λ e. e, λ c. refl)
start_event _ s = absurd s

-- a collection ends: no node begins, and no document ends
pub end_event : (h : Happening) → IsEnd h
    → (beginning h ≡ 0) × (documents_ended_by h ≡ 0) × ((c : Count) → counted h c ≡ left c)
end_event SequenceEnd e = (refl, refl, λ c. refl)
end_event MappingEnd e = (refl, refl, λ c. refl)
end_event _ e = absurd e

-- ## Roots

root_more : (es fs : List Event) (index : ℕ) (r : Root) → IsRootAt es index r → IsRootAt (es ++ fs) index r
root_more es fs index r p = record {
  front = p.front;
  own = p.own;
  last = p.last;
  behind = p.behind ++ fs;
  split = ap (λ (ds : List Event). ds ++ fs) p.split ∙ append_assoc p.front (p.own ++ (p.last ∷ p.behind)) fs
      ∙ ap (λ (ds : List Event). p.front ++ ds) (append_assoc p.own (p.last ∷ p.behind) fs);
  documents = p.documents;
  number = p.number;
  node = p.node;
  ends = p.ends;
  expanded = p.expanded;
}

pub roots_more : (es fs : List Event) (index : ℕ) (rs : List Root) → AreRootsFrom es index rs
    → AreRootsFrom (es ++ fs) index rs
roots_more es fs index [] h = tt
roots_more es fs index (r ∷ rs) h = (root_more es fs index r h.0, roots_more es fs (suc index) rs h.1)

pub roots-snoc : (es : List Event) (index : ℕ) (rs : List Root) (r : Root) → AreRootsFrom es index rs
    → IsRootAt es (index + length rs) r → AreRootsFrom es index (rs ++ r ∷ [])
roots-snoc es index [] r h is =
    let same : index + 0 ≡ index = omega arith in (subst (λ (i : ℕ). IsRootAt es i r) same is, tt)
roots-snoc es index (q ∷ rs) r h is =
    let same : index + suc (length rs) ≡ suc index + length rs = omega arith in
    (h.0, roots-snoc es (suc index) rs r h.1 (subst (λ (i : ℕ). IsRootAt es i r) same is))
