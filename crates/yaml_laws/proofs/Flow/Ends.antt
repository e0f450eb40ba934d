-- What comes first after a piece of a text in flow style.
use Rattle.std.proofs.Common.{◌≡◌, ◌≢◌, ℕ, Bool, true, false, List, [], ◌∷◌, ◌++◌, slice_index, refl, sym, arith, subst, append_assoc, IsTrue, ◌⊎◌, inl, inr}
use Rattle.yaml_laws.proofs.Common.{clash, colon, ◌||◌, ◌&&◌, not, nat_tests, is_blank, is_blank_or_breakz, is_flow, is_anchor_char, line_feed, Marker, AreIn, EndsTag, joined_pieces, AreEach, IsCommentBehind, IsSeparationLine, IsSeparation, Node, needs_separation, IsBeforeColon, Context, is_block, or_left}
use Rattle.yaml_laws.proofs.InFlow.States.{Around}
use Rattle.yaml_laws.proofs.Flow.States.{EndsNode, IsBehindNode, IsBehindRoot, Follows, follows_inside, follows_outside, follows_key}

-- ## White space first

-- nothing, or a blank or a line feed first
abbrev pub BeginsWhite : List ℕ → Type 0
BeginsWhite [] = Unit {0}
BeginsWhite (c ∷ cs) = IsTrue (is_blank c) ⊎ (c ≡ line_feed)

blanks_white : (w : List ℕ) → AreIn is_blank w → BeginsWhite w
blanks_white [] h = tt
blanks_white (c ∷ cs) h = inl h.0

-- a comment comes after white space alone
behind_white : (w comment more : List ℕ) → BeginsWhite w → IsCommentBehind w comment → BeginsWhite more
    → BeginsWhite (w ++ (comment ++ more))
behind_white w comment more h k e = grind (arith)

two_white : (a b : List ℕ) → BeginsWhite a → BeginsWhite b → BeginsWhite (a ++ b)
two_white [] b h k = k
two_white (c ∷ cs) b h k = h

separation_line_white : (indent : ℕ) (w : List ℕ) → IsSeparationLine indent w → BeginsWhite w
separation_line_white indent w h = grind (arith, behind_white, blanks_white)

pub separation_white : (indent : ℕ) (w : List ℕ) → IsSeparation indent w → BeginsWhite w
separation_white indent w h = rw h.4 (two_white h.0 h.1 (rw h.2.2 (pieces h.2.0 h.2.1)) (blanks_white h.1 h.3))
  where
    pieces : (ws : List (List ℕ)) → AreEach (IsSeparationLine indent) ws → BeginsWhite (joined_pieces ws)
    pieces [] k = tt
    pieces (v ∷ vs) k = two_white v (joined_pieces vs) (separation_line_white indent v k.0) (pieces vs k.1)

-- ## The first character after a node

white_breakz : (c : ℕ) → IsTrue (is_blank c) ⊎ (c ≡ line_feed) → IsTrue (is_blank_or_breakz c)
white_breakz c h = grind (arith, nat_tests)

-- after a document's node: a blank, a break or the end
pub root_first : (around : Around) (m : Marker) (o : List ℕ) → IsBehindRoot around m o
    → IsTrue (is_blank_or_breakz (slice_index o 0))
root_first around m o h = grind (arith, append_assoc, behind_white, blanks_white)

-- after separation that is not empty
pub ends_behind_separation : (indent : ℕ) (w y : List ℕ) → IsSeparation indent w → w ≢ []
    → IsTrue (is_blank_or_breakz (slice_index (w ++ y) 0))
ends_behind_separation indent w y h some = by_first w some (separation_white indent w h)
  where
    by_first : (w : List ℕ) → w ≢ [] → BeginsWhite w → IsTrue (is_blank_or_breakz (slice_index (w ++ y) 0))
    by_first w some k = grind arith

-- the character right after a node inside flow
abbrev pub EndsHere : Node → ℕ → Type 0
EndsHere node c = IsTrue (is_blank_or_breakz c)
    ⊎ ((c ≡ 44) ⊎ ((c ≡ 93) ⊎ ((c ≡ 125) ⊎ ((c ≡ 58) × IsTrue (not (needs_separation node))))))

pub behind_node_first : (indent : ℕ) (node : Node) (o : List ℕ) → IsBehindNode indent node o → EndsHere node
    (slice_index o 0)
behind_node_first indent node o h = by_separation h.separation h.is h.parts h.ends
  where
    colon : IsBeforeColon node [] → IsTrue (not (needs_separation node))
    colon h = grind arith

    ends : EndsNode node [] h.first h.others → EndsHere node h.first
    ends (inl e) = inr (inl e)
    ends (inr (inl e)) = inr (inr (inl e))
    ends (inr (inr (inl e))) = inr (inr (inr (inl e)))
    ends (inr (inr (inr e))) = inr (inr (inr (inr (e.0, colon e.1))))

    by_separation : (w : List ℕ) → o ≡ w ++ (h.first ∷ h.others) → IsSeparation indent w
        → EndsNode node w h.first h.others → EndsHere node (slice_index o 0)
    by_separation [] is parts k = subst (λ (y : List ℕ). EndsHere node (slice_index y 0)) (sym is) (ends k)
    by_separation (c ∷ cs) is parts k = rw is (inl (white_breakz c (separation_white indent (c ∷ cs) parts)))

-- ## What it ends

-- what ends a tag ends a name
pub tag_ends_name : (in_flow : Bool) (o : List ℕ) → EndsTag in_flow o → is_anchor_char (slice_index o 0) ≡ false
tag_ends_name in_flow o h = grind (arith, nat_tests)

pub white_ends_tag : (in_flow : Bool) (o : List ℕ) → IsTrue (is_blank_or_breakz (slice_index o 0)) → EndsTag in_flow o
white_ends_tag in_flow o h = or_left (is_blank_or_breakz (slice_index o 0)) (in_flow && is_flow (slice_index o 0)) h

-- after a node that needs separation before a colon
pub node_ends_tag : (indent : ℕ) (node : Node) (o : List ℕ) → IsTrue (needs_separation node)
    → IsBehindNode indent node o → EndsTag true o
node_ends_tag indent node o needs h = by_first (slice_index o 0) (behind_node_first indent node o h)
  where
    never : (b : Bool) → b ≡ true → IsTrue (not b) → ⊥
    never b e k = grind arith

    by_first : (c : ℕ) → EndsHere node c → IsTrue (is_blank_or_breakz c || (true && is_flow c))
    by_first c h = grind arith

-- ## After a node, wherever it is

key_blank : (node : Node) (w r : List ℕ) → needs_separation node ≡ true → AreIn is_blank w → IsBeforeColon node w
    → IsTrue (is_blank_or_breakz (slice_index (w ++ (colon ∷ r)) 0))
key_blank node w r apart are (inr k) = absurd (clash (needs_separation node) apart (not_true (needs_separation node) k))
  where
    not_true : (b : Bool) → IsTrue (not b) → b ≡ false
    not_true b h = grind arith
key_blank node [] r apart are (inl some) = absurd (some refl)
key_blank node (c ∷ cs) r apart are (inl some) = white_breakz c (inl are.0)

-- where a colon needs separation before it, a tag ends
pub follows_tag : (around : Around) (x : Context) (node : Node) (m : Marker) (o : List ℕ) → needs_separation node ≡ true
    → Follows around x node m o → EndsTag (not (is_block x)) o
follows_tag around x node m o apart (follows_inside flow behind) =
    rw flow (node_ends_tag around.indent node o apart behind)
follows_tag around x node m o apart (follows_outside is behind) =
    white_ends_tag (not (is_block x)) o (root_first around m o behind)
follows_tag around x node m o apart (follows_key k held block w r is are before white) =
    rw is (white_ends_tag (not (is_block x)) (w ++ (colon ∷ r)) (key_blank node w r apart are before))
