-- How many documents end: each document ends once.
use Rattle.std.proofs.Common.{◌≡◌, ℕ, ◌+◌, ◌≤◌, List, [], ◌∷◌, ◌++◌, refl, arith}
use Rattle.std.specs.List.{flat_map}
use Rattle.saphyr_parser.specs.Events.{Happening, DocumentEnd}
use Rattle.yaml_tree.specs.declared.document.Document.{Document}
use Rattle.yaml_tree.specs.Unloading.{node_events, document_events}
use Rattle.yaml_tree.specs.Loading.{EndNoDocument}

abbrev end : Happening → ℕ
end DocumentEnd = 1
end _ = 0

abbrev pub ends : List Happening → ℕ
ends [] = 0
ends (h ∷ hs) = end h + ends hs

pub ends-append : (xs ys : List Happening) → ends (xs ++ ys) ≡ ends xs + ends ys
ends-append [] ys = omega arith
ends-append (x ∷ xs) ys = omega (arith, ends-append xs ys)

no_end : (h : Happening) → (h ≡ DocumentEnd → ⊥) → end h ≡ 0
no_end DocumentEnd n = absurd (n refl)
no_end _ n = refl

pub ends_none : (hs : List Happening) → EndNoDocument hs → ends hs ≡ 0
ends_none [] n = refl
ends_none (h ∷ hs) n = omega (arith, no_end h n.0, ends_none hs n.1)

pub none_more : (hs : List Happening) (h : Happening) → EndNoDocument hs → (h ≡ DocumentEnd → ⊥)
    → EndNoDocument (hs ++ h ∷ [])
none_more [] h n k = (k, tt)
none_more (x ∷ xs) h n k = (n.0, none_more xs h n.1 k)

pub document_ends : (d : Document) → 1 ≤ ends (document_events d)
document_ends d = omega (arith, ends-append (node_events d.root) (DocumentEnd ∷ []))

-- where nothing ends there is no document
pub no_document : (ds : List Document) → ends (flat_map document_events ds) ≡ 0 → ds ≡ []
no_document [] e = refl
no_document (d ∷ ds) e = absurd
    (omega (arith, ends-append (document_events d) (flat_map document_events ds), document_ends d))
