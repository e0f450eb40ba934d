-- The ids of anchors (YAML 1.2.2, 3.2.2.2, 6.9.2 and 7.1): 1, 2, 3 and so on in the order of the parts, over all
-- documents. Each definition looks back at the parts that come before, the latest first.
use Rattle.std.specs.Prelude.{◌≡◌, ◌≢◌, ◌++◌, ℕ, suc, Bool, false, if◌then◌else◌, List, [], ◌∷◌, Option, Some, None, option_map, encode_utf8_all}
use Rattle.std.specs.Str.{bytes_eq}
use Rattle.event_laws.specs.Preorder.{Part, opens_document, Leaf, OpenSequence, OpenMapping}

-- the anchor's name that a part has, in UTF-8
abbrev pub anchor_of : Part → Option (List ℕ)
anchor_of (Leaf p _ _) = option_map encode_utf8_all p.anchor
anchor_of (OpenSequence p) = option_map encode_utf8_all p.anchor
anchor_of (OpenMapping p) = option_map encode_utf8_all p.anchor
anchor_of _ = None

abbrev pub one_more_anchor : Option (List ℕ) → ℕ → ℕ
one_more_anchor None n = n
one_more_anchor (Some _) n = suc n

-- how many anchors come before
abbrev pub anchors : List Part → ℕ
anchors [] = 0
anchors (part ∷ front) = one_more_anchor (anchor_of part) (anchors front)

-- the id of a part's own anchor, 0 where it has none
abbrev pub own_id : List Part → Option (List ℕ) → ℕ
own_id front None = 0
own_id front (Some _) = suc (anchors front)

abbrev pub is_named : List ℕ → Option (List ℕ) → Bool
is_named name None = false
is_named name (Some other) = bytes_eq name other

-- The id that an alias has: that of the latest anchor of its name before it in its document. A collection that is open
-- comes before its entries, so its own anchor counts.
abbrev pub latest_id : List ℕ → List Part → Option ℕ
latest_id name [] = None
latest_id name (part ∷ front) =
    if opens_document part then None else
    (if is_named name (anchor_of part) then Some (suc (anchors front)) else latest_id name front)

-- ## The same at once, in place of step by step

-- parts of one document, none of which has an anchor of the name
abbrev pub AreWithout : List ℕ → List Part → Type 0
AreWithout name [] = Unit {0}
AreWithout name (part ∷ others) = (opens_document part ≡ false) × (anchor_of part ≢ Some name) × AreWithout name others

-- the latest anchor of the name: parts without one come after it, and its id is one more than the anchors before it
abbrev pub IsLatest : List ℕ → List Part → ℕ → Type 0
IsLatest name front id =
    (later : List Part) × (part : Part) × (earlier : List Part) × AreWithout name later × (anchor_of part ≡ Some name)
    × (id ≡ suc (anchors earlier)) × (front ≡ later ++ part ∷ earlier)
