-- The tokens that a step uses: its event's own, and others, which are passed.
use Rattle.event_laws.proofs.Common.{◌≡◌, List, [], ◌∷◌, ◌++◌, None, refl, sym, append_assoc, append-nil, ◌⊎◌, arith, Marker, Span, Plain, Kind, BlockEntry, Piece, Happening, Scalar, NodeProperties, BelongsToNone, IsAnchorKind, IsTagKind, ArePropertyTokens, SpansAll, AreContentTokens, BeginsEntries, IsOf, HaveTokens}
use Rattle.event_laws.specs.EventsTaken as taking

abbrev pub ArePassed : List Piece → Type 0
ArePassed [] = Unit {0}
ArePassed (t ∷ ts) = BelongsToNone t.kind × ArePassed ts

-- `next` comes after the tokens that are used
pub record HasOwn (used : List Piece) (what : Happening) (span : Span) (next : List Piece) : Type 0 where
  pub front : List Piece
  pub own : List Piece
  pub back : List Piece
  pub are : used ≡ front ++ (own ++ back)
  pub passed : ArePassed front
  pub passed_behind : ArePassed back
  pub is_of : IsOf what span own (back ++ next)

pub whole : {next : List Piece} (used : List Piece) (what : Happening) (span : Span) → IsOf what span used next
    → HasOwn used what span next
whole used what span h = record {
  front = [];
  own = used;
  back = [];
  are = sym (append-nil used);
  passed = tt;
  passed_behind = tt;
  is_of = h;
}

-- before the tokens that are passed
pub ahead_of : {next : List Piece} (used : List Piece) (what : Happening) (span : Span) → ArePassed used
    → IsOf what span [] (used ++ next) → HasOwn used what span next
ahead_of used what span p h =
    record { front = []; own = []; back = used; are = refl; passed = tt; passed_behind = p; is_of = h }

-- one token that is passed
pub passed_one : {next : List Piece} (t : Piece) (what : Happening) (span : Span) → BelongsToNone t.kind
    → IsOf what span [] next → HasOwn (t ∷ []) what span next
passed_one t what span b h = record {
  front = t ∷ [];
  own = [];
  back = [];
  are = refl;
  passed = (b, tt);
  passed_behind = tt;
  is_of = h;
}

pub behind_own : {next : List Piece} (t : Piece) (used : List Piece) (what : Happening) (span : Span)
    → BelongsToNone t.kind → HasOwn used what span next → HasOwn (t ∷ used) what span next
behind_own t used what span b h = record {
  front = t ∷ h.front;
  own = h.own;
  back = h.back;
  are = cc;
  passed = (b, h.passed);
  passed_behind = h.passed_behind;
  is_of = h.is_of;
}

-- tokens that are passed before events
passed_before : (front ts unread : List Piece) (es : List (Happening × Span)) → ArePassed front
    → HaveTokens unread es ts → HaveTokens unread es (front ++ ts)
passed_before [] ts unread es p h = h
passed_before (t ∷ front) ts unread es p h =
    taking.passed es t (front ++ ts) p.0 (passed_before front ts unread es p.1 h)

pub own_more : (used ts unread : List Piece) (what : Happening) (span : Span) (es : List (Happening × Span))
    → HasOwn used what span (ts ++ unread) → HaveTokens unread es ts
    → HaveTokens unread ((what, span) ∷ es) (used ++ ts)
own_more used ts unread what span es o h =
    let all : used ++ ts ≡ o.front ++ (o.own ++ (o.back ++ ts)) =
    cc (o.are, append_assoc o.front (o.own ++ o.back) ts, append_assoc o.own o.back ts) in
    let i : IsOf what span o.own ((o.back ++ ts) ++ unread) = rw (append_assoc o.back ts unread) o.is_of in
    rw all (passed_before o.front (o.own ++ (o.back ++ ts)) unread ((what, span) ∷ es) o.passed
    (taking.event what span es o.own (o.back ++ ts) i
    (passed_before o.back ts unread es o.passed_behind h)))

-- ## Properties

-- the tokens of properties, and their places
abbrev pub Shape : List Piece → NodeProperties → Type 0
Shape [] q = (q.anchor ≡ 0) × (q.tag ≡ None)
Shape (p ∷ []) q = (IsAnchorKind p.kind ⊎ IsTagKind p.kind) × (q.start ≡ p.span.start) × (q.behind ≡ p.span.end)
Shape (p ∷ r ∷ []) q = ArePropertyTokens (p ∷ r ∷ []) × (q.start ≡ p.span.start) × (q.behind ≡ r.span.end)
Shape _ q = ⊥

-- content without properties begins with its own token
abbrev pub StartsAt : List Piece → Marker → NodeProperties → Type 0
StartsAt [] m q = q.start ≡ m
StartsAt _ m q = Unit {0}

pub content_spans : (front : List Piece) (q : NodeProperties) (t : Piece) → Shape front q → StartsAt front t.span.start
    q → SpansAll (front ++ t ∷ []) (record { start = q.start; end = t.span.end })
content_spans k q t h s = grind arith

properties_are : (front : List Piece) (q : NodeProperties) → Shape front q → (front ≡ []) ⊎ ArePropertyTokens front
properties_are k q h = grind arith

pub content_is : (kind : Kind) (front : List Piece) (q : NodeProperties) (t : Piece) → t.kind ≡ kind → Shape front q
    → AreContentTokens kind (front ++ t ∷ [])
content_is kind front q t k h = (front, t, properties_are front q h, k, refl)

-- properties alone
pub alone_is : (front : List Piece) (q : NodeProperties) → Shape front q
    → IsOf (Scalar [] Plain q.anchor q.tag) (record { start = q.start; end = q.behind }) (front ++ []) []
alone_is k q h = grind arith

-- a collection without a start of its own, before its first entry
pub no_opening : (front : List Piece) (q : NodeProperties) (t : Piece) (others : List Piece) → t.kind ≡ BlockEntry
    → Shape front q → StartsAt front t.span.start q
    → BeginsEntries front (record { start = q.start; end = t.span.end }) (t ∷ others)
no_opening front q t others k h s = (k, properties_are front q h, content_spans front q t h s)
