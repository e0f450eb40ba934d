-- The step by step search for an anchor finds the latest one.
use Rattle.std.proofs.Common.{◌≡◌, ◌≢◌, ℕ, suc, Bool, true, false, List, [], ◌∷◌, ◌++◌, Option, Some, None, if◌then◌else◌, refl, sym, ap, arith}
use Rattle.event_laws.proofs.Common.{bytes_eq-Decides, Part, opens_document, anchor_of, anchors, is_named, latest_id, AreWithout, IsLatest}

-- a part that opens a document has no anchor
opens_none : (p : Part) (name : List ℕ) → anchor_of p ≡ Some name → opens_document p ≡ false
opens_none u0 name h = grind arith

pub named : (name : List ℕ) → is_named name (Some name) ≡ true
named name = (bytes_eq-Decides name name).1 refl

pub named_only : (name : List ℕ) (other : Option (List ℕ)) → is_named name other ≡ true → other ≡ Some name
named_only name u0 h = grind (arith, bytes_eq-Decides)

-- no anchor of the name is none that is found
pub not_named : (name : List ℕ) (other : Option (List ℕ)) → other ≢ Some name → is_named name other ≡ false
not_named name other h = grind (arith, named_only)

pub each : (name : List ℕ) (later : List Part) (part : Part) (earlier : List Part) → AreWithout name later
    → anchor_of part ≡ Some name → latest_id name (later ++ part ∷ earlier) ≡ Some (suc (anchors earlier))
each name [] part earlier h e =
    let here : Option ℕ = Some (suc (anchors earlier)) in cc (opens_none part name e, named name)
each name (p ∷ ps) part earlier h e =
    let here : Option ℕ = Some (suc (anchors (ps ++ part ∷ earlier))) in
    cc (not_named name (anchor_of p) h.1, each name ps part earlier h.2 e)

pub all : (name : List ℕ) (front : List Part) (id : ℕ) → IsLatest name front id → latest_id name front ≡ Some id
all name front id h = cc (each name h.0 h.1 h.2 h.3 h.4)

-- where a part opens no document and has no anchor of the name, the latest one comes before it
latest_stays : (name : List ℕ) (p : Part) (ps : List Part) (id : ℕ) → opens_document p ≡ false
    → is_named name (anchor_of p) ≡ false → IsLatest name ps id → IsLatest name (p ∷ ps) id
latest_stays name p ps id e f h =
    let other : anchor_of p ≢ Some name = λ g. let k : true ≡ false = cc (named name) in cc in
    (p ∷ h.0, h.1, h.2, (e, other, h.3), h.4, h.5, ap (λ t. p ∷ t) h.6)

-- the answer at a part, by the two tests on it
latest_at_part : (name : List ℕ) (p : Part) (ps : List Part) (id : ℕ)
    → (latest_id name ps ≡ Some id → IsLatest name ps id)
    → (b d : Bool) → opens_document p ≡ b → is_named name (anchor_of p) ≡ d
    → (if b then None else (if d then Some (suc (anchors ps)) else latest_id name ps)) ≡ Some id
    → IsLatest name (p ∷ ps) id
latest_at_part name p ps id others true d e f h = cc
latest_at_part name p ps id others false true e f h =
    ([], p, ps, tt, named_only name (anchor_of p) f, (let k : suc (anchors ps) ≡ id = cc in sym k), refl)
latest_at_part name p ps id others false false e f h = latest_stays name p ps id e f (others h)

pub found : (name : List ℕ) (front : List Part) (id : ℕ) → latest_id name front ≡ Some id → IsLatest name front id
found name [] id h = cc
found name (p ∷ ps) id h =
    latest_at_part name p ps id (found name ps id) (opens_document p) (is_named name (anchor_of p)) refl refl h
