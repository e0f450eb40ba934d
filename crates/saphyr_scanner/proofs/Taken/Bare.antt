-- No single pair has properties: inside `[` a key may begin with an entry, and where properties begin the entry they
-- are the key's, or what comes is no colon.
use Rattle.saphyr_scanner.proofs.Common.{◌≡◌, ℕ, zero, suc, ◌<◌, ◌⊎◌, Bool, true, false, List, [], ◌∷◌, ◌++◌, None, refl, sym, ap, ◌∙◌, arith, subst, inl, inr, IsTrue, IsFalse, slice_index, codes, Span, Cursor, Context, Opening, Piece}
use Rattle.saphyr_input.specs.Classes.{is_one_of}
use Rattle.saphyr_scanner.specs.declared.queue.Opening.TheVariants as opening
use Rattle.saphyr_scanner.specs.Grammar.Tokens as tokens
use Rattle.saphyr_scanner.specs.Grammar.Tokens.{Kind}
use Rattle.saphyr_scanner.specs.Steps.Core.{Core}
use Rattle.saphyr_scanner.specs.Steps.Level.{Level, is_block, begins_pair, behind_question, behind_colon}
use Rattle.saphyr_scanner.specs.TokensTaken as taken
use Rattle.saphyr_scanner.specs.TokensTaken.{AreApart, begins_text}
use Rattle.saphyr_scanner.specs.TokensInPlace as place
use Rattle.saphyr_scanner.specs.TokensInPlace.{Begun, Enclosures, enclosures_behind, is_of_flow_node, has_text, EntryFront, EmptyFront, PropertyFront, OtherFront, front_behind, begins_bare, AreBare}
use Rattle.saphyr_scanner.proofs.Leads.{place_pieces}
use Rattle.saphyr_scanner.proofs.Taken.InPlace.{all_behind, AreInside, deeper, inside_rest, inside_first, begun_by, begun_behind}
use Rattle.saphyr_scanner.proofs.Taken.KeysInPlace.{IsPast}
use Rattle.saphyr_scanner.proofs.Taken.Later.{text_stays}
use Rattle.saphyr_scanner.proofs.Taken.Separated.{apart_apart}

-- ## One part after the other

abbrev pub fronts : List Piece → EntryFront → EntryFront
fronts [] front = front
fronts (p ∷ ps) front = fronts ps (front_behind p.kind front)

pub fronts_append : (ps qs : List Piece) (front : EntryFront) → fronts (ps ++ qs) front ≡ fronts qs (fronts ps front)
fronts_append [] qs front = refl
fronts_append (p ∷ ps) qs front = fronts_append ps qs (front_behind p.kind front)

pub bare_append : (ps qs : List Piece) (front : EntryFront) → AreBare front ps → AreBare (fronts ps front) qs
    → AreBare front (ps ++ qs)
bare_append [] qs front h k = k
bare_append (p ∷ ps) qs front h k = (h.0, bare_append ps qs (front_behind p.kind front) h.1 k)

pub bare_parts : (ps qs : List Piece) (front : EntryFront) → AreBare front (ps ++ qs)
    → AreBare front ps × AreBare (fronts ps front) qs
bare_parts [] qs front h = (tt, h)
bare_parts (p ∷ ps) qs front h = let r = bare_parts ps qs (front_behind p.kind front) h.1 in ((h.0, r.0), r.1)

-- ## Where more of an entry came

abbrev pub IsOr : EntryFront → EntryFront → Type 0
IsOr front other = (other ≡ front) ⊎ (other ≡ OtherFront)

or_behind : (kind : Kind) (front other : EntryFront) → IsOr front other
    → IsOr (front_behind kind front) (front_behind kind other)
or_behind kind front other (inl e) = inl (ap (front_behind kind) e)
or_behind tokens.FlowSequenceStart front other (inr e) = inl refl
or_behind tokens.FlowEntry front other (inr e) = inl refl
or_behind (tokens.Anchor name) front other (inr e) = inr (ap (front_behind (tokens.Anchor name)) e)
or_behind (tokens.Tag handle suffix) front other (inr e) = inr (ap (front_behind (tokens.Tag handle suffix)) e)
or_behind _ front other (inr e) = inr refl

or_bare : (kind : Kind) (span : Span) (front other : EntryFront) → IsOr front other
    → IsTrue (begins_bare front kind span) → IsTrue (begins_bare other kind span)
or_bare kind span front other (inl e) h = rw e h
or_bare kind span front other (inr e) h = rw e refl

pub bare_or : (ps : List Piece) (front other : EntryFront) → IsOr front other → AreBare front ps → AreBare other ps
bare_or [] front other o h = tt
bare_or (p ∷ ps) front other o h = (
  or_bare p.kind p.span front other o h.0,
  bare_or ps (front_behind p.kind front) (front_behind p.kind other) (or_behind p.kind front other o) h.1,
)

-- only inside brackets less came
abbrev pub IsInsideFront : EntryFront → ℕ → Type 0
IsInsideFront OtherFront d = Unit {0}
IsInsideFront _ d = 0 < d

inside_front : (kind : Kind) (span : Span) (front : EntryFront) (d : ℕ)
    → (d ≡ 0 → IsTrue (is_of_flow_node kind span)) → IsInsideFront front d
    → IsInsideFront (front_behind kind front) (deeper kind span d)
inside_front tokens.FlowSequenceStart span front d f h = omega arith
inside_front tokens.FlowEntry span front zero f h = absurd (let no : false ≡ true = f refl in cc)
inside_front tokens.FlowEntry span front (suc d) f h = omega arith
inside_front (tokens.Anchor name) span EmptyFront d f h = h
inside_front (tokens.Anchor name) span PropertyFront d f h = h
inside_front (tokens.Anchor name) span OtherFront d f h = tt
inside_front (tokens.Tag handle suffix) span EmptyFront d f h = h
inside_front (tokens.Tag handle suffix) span PropertyFront d f h = h
inside_front (tokens.Tag handle suffix) span OtherFront d f h = tt
inside_front _ span front d f h = tt

pub inside_fronts : (ps : List Piece) (front : EntryFront) (d e : ℕ) → AreInside d ps e → IsInsideFront front d
    → IsInsideFront (fronts ps front) e
inside_fronts [] front d e h k = subst (IsInsideFront front) h k
inside_fronts (p ∷ ps) front d e h k =
    inside_fronts ps (front_behind p.kind front) (deeper p.kind p.span d) e (inside_rest d p ps e h)
    (inside_front p.kind p.span front d (inside_first d p ps e h) k)

pub outside_front : (front : EntryFront) → IsInsideFront front 0 → front ≡ OtherFront
outside_front EmptyFront h = absurd (omega (arith, h))
outside_front PropertyFront h = absurd (omega (arith, h))
outside_front OtherFront h = refl

-- ## Properties come right before

abbrev IsOwned : Begun → Type 0
IsOwned (place.Property line) = Unit {0}
IsOwned _ = ⊥

abbrev pub Agrees : EntryFront → Begun → Type 0
Agrees PropertyFront g = IsOwned g
Agrees _ g = Unit {0}

agrees_by : (kind : Kind) (span : Span) (front : EntryFront) → Agrees (front_behind kind front) (begun_by kind span)
agrees_by (tokens.Anchor name) span EmptyFront = tt
agrees_by (tokens.Anchor name) span PropertyFront = tt
agrees_by (tokens.Anchor name) span OtherFront = tt
agrees_by (tokens.Tag handle suffix) span EmptyFront = tt
agrees_by (tokens.Tag handle suffix) span PropertyFront = tt
agrees_by (tokens.Tag handle suffix) span OtherFront = tt
agrees_by _ span front = tt

pub agrees_all : (ps : List Piece) (front : EntryFront) (all : Enclosures) → Agrees front all.begun
    → Agrees (fronts ps front) (all_behind ps all).begun
agrees_all [] front all h = h
agrees_all (p ∷ ps) front all h =
    agrees_all ps (front_behind p.kind front) (enclosures_behind p.kind p.span all)
    (subst (Agrees (front_behind p.kind front)) (sym (begun_behind p.kind p.span all))
    (agrees_by p.kind p.span front))

-- a single pair begins with its key, and no properties come right before
pub past_bare : (front : EntryFront) (g : Begun) (n : ℕ) (kind : Kind) (span : Span) → Agrees front g
    → IsPast g false n → IsTrue (begins_bare front kind span)
past_bare EmptyFront g n kind span a p = refl
past_bare OtherFront g n kind span a p = refl
past_bare PropertyFront (place.Property line) n kind span a p = absurd p
past_bare PropertyFront _ n kind span a p = absurd a

-- ## A candidate turns out to be a key

key_bare : (front : EntryFront) (span : Span) → IsTrue (begins_bare front tokens.Key span)
key_bare front span = grind arith

start_bare : (front : EntryFront) (span : Span) → IsTrue (begins_bare front tokens.BlockMappingStart span)
start_bare front span = grind arith

-- the tokens of a candidate, with what comes before
pub record BareOpened (o : Opening) (t : Piece) (back : List Piece) (front : EntryFront) : Type 0 where
  pub bare : AreBare front (place_pieces o t ++ back)
  pub ends : fronts (place_pieces o t ++ back) front ≡ OtherFront

pub bare_opened : (o : Opening) (t : Piece) (back : List Piece) (front : EntryFront) (g : Begun) (n : ℕ)
    → (o ≡ opening.Nothing → ⊥) → (o ≡ opening.FlowMappingAndKey → IsPast g false n) → Agrees front g
    → AreInside 0 (t ∷ back) 0 → AreBare front (t ∷ back) → BareOpened o t back front
bare_opened opening.Nothing t back front g n some past a h k = absurd (some refl)
bare_opened opening.Key t back front g n some past a h k = record {
  bare = (key_bare front _, bare_or (t ∷ back) front OtherFront (inr refl) k);
  ends = outside_front _ (inside_fronts (t ∷ back) OtherFront 0 0 h tt);
}
bare_opened opening.BlockMappingAndKey t back front g n some past a h k = record {
  bare = (start_bare front _, (refl, bare_or (t ∷ back) front OtherFront (inr refl) k));
  ends = outside_front _ (inside_fronts (t ∷ back) OtherFront 0 0 h tt);
}
bare_opened opening.FlowMappingAndKey t back front g n some past a h k = record {
  bare = (
    past_bare front g n tokens.FlowMappingStart _ a (past refl),
    (refl, bare_or (t ∷ back) front OtherFront (inr refl) k),
  );
  ends = outside_front _ (inside_fronts (t ∷ back) OtherFront 0 0 h tt);
}

-- ## What a scanner knows

-- in an entry of `[` that no `?` began, where no token may yet turn out to be a key
abbrev pub HasFreeEntry : Core → Type 0
HasFreeEntry c = (begins_pair c.level.context ≡ true) × (c.level.key ≡ None)

-- neither a colon nor a property comes
abbrev pub BeginsOther : Cursor → Type 0
BeginsOther s = (t : Cursor) → AreApart s t → IsFalse (is_one_of (codes ":&!") (slice_index t.rest 0))

abbrev pub IsEntry : EntryFront → Core → Type 0
IsEntry EmptyFront c = HasFreeEntry c → (c.key_allowed ≡ true) ⊎ BeginsOther c.cursor
IsEntry PropertyFront c = HasFreeEntry c → BeginsOther c.cursor
IsEntry OtherFront c = Unit {0}

abbrev pub KeepsEntry : Core → Core → Type 0
KeepsEntry c d = (front : EntryFront) → IsEntry front c → IsEntry front d

other_further : (s t : Cursor) → AreApart s t → BeginsOther s → BeginsOther t
other_further s t a o u b = o u (apart_apart s.mark s.rest t.mark t.rest u.mark u.rest a b)

pub other_begins : (x : ℕ) (s : Cursor) → slice_index s.rest 0 ≡ x → IsTrue (begins_text x)
    → IsFalse (is_one_of (codes ":&!") x) → BeginsOther s
other_begins x s e b other t a =
    let r = text_stays s.mark s.rest t.mark t.rest a (ap begins_text e ∙ b) in
    ap (λ l. is_one_of (codes ":&!") (slice_index l 0)) r.1 ∙ ap (is_one_of (codes ":&!")) e ∙ other

-- where the text goes on, maybe in another context
pub entry_turned : (c d : Core) → (begins_pair d.level.context ≡ true → begins_pair c.level.context ≡ true)
    → d.level.key ≡ c.level.key → (c.key_allowed ≡ true → d.key_allowed ≡ true) → AreApart c.cursor d.cursor
    → KeepsEntry c d
entry_turned c d f k allows a EmptyFront h = λ g. elim (h (f g.0, sym k ∙ g.1)) [
  | inl allowed ↦ inl (allows allowed)
  | inr other ↦ inr (other_further c.cursor d.cursor a other)
]
entry_turned c d f k allows a PropertyFront h = λ g. other_further c.cursor d.cursor a (h (f g.0, sym k ∙ g.1))
entry_turned c d f k allows a OtherFront h = tt

pub entry_same : (c d : Core) → d.level ≡ c.level → (c.key_allowed ≡ true → d.key_allowed ≡ true)
    → AreApart c.cursor d.cursor → KeepsEntry c d
entry_same c d e allows a = entry_turned c d (λ b. ap (λ (l : Level). begins_pair l.context) (sym e) ∙ b)
    (ap (λ (l : Level). l.key) e) allows a

-- where no entry without a mark may begin a pair
pub entry_closed : (c d : Core) → begins_pair d.level.context ≡ false → KeepsEntry c d
entry_closed c d e EmptyFront h = λ g. absurd (let b = g.0 in cc)
entry_closed c d e PropertyFront h = λ g. absurd (let b = g.0 in cc)
entry_closed c d e OtherFront h = tt

pub entry_other : (c d : Core) → BeginsOther d.cursor → KeepsEntry c d
entry_other c d o EmptyFront h = λ g. inr o
entry_other c d o PropertyFront h = λ g. o
entry_other c d o OtherFront h = tt

-- ## A token is put

abbrev pub KeepsFronts : Piece → Core → Core → Type 0
KeepsFronts t c d = (front : EntryFront) → IsEntry front c
    → IsTrue (begins_bare front t.kind t.span) × IsEntry (front_behind t.kind front) d

-- a token that begins no entry and no mapping, and is no property
abbrev pub is_plain : Kind → Bool
is_plain tokens.FlowSequenceStart = false
is_plain tokens.FlowEntry = false
is_plain tokens.FlowMappingStart = false
is_plain (tokens.Anchor name) = false
is_plain (tokens.Tag handle suffix) = false
is_plain _ = true

pub plain_fronts : (t : Piece) (c d : Core) → is_plain t.kind ≡ true → KeepsFronts t c d
plain_fronts t c d e front h = by t.kind e front
  where
    by : (kind : Kind) → is_plain kind ≡ true → (front : EntryFront)
        → IsTrue (begins_bare front kind t.span) × IsEntry (front_behind kind front) d
    by kind e front = grind arith

pub entry_fronts : (kind : Kind) (span : Span) (c d : Core) → front_behind kind OtherFront ≡ EmptyFront
    → d.key_allowed ≡ true → KeepsFronts (record { span = span; kind = kind }) c d
entry_fronts tokens.FlowSequenceStart span c d e allowed EmptyFront h = (refl, λ _. inl allowed)
entry_fronts tokens.FlowSequenceStart span c d e allowed PropertyFront h = (refl, λ _. inl allowed)
entry_fronts tokens.FlowSequenceStart span c d e allowed OtherFront h = (refl, λ _. inl allowed)
entry_fronts tokens.FlowEntry span c d e allowed EmptyFront h = (refl, λ _. inl allowed)
entry_fronts tokens.FlowEntry span c d e allowed PropertyFront h = (refl, λ _. inl allowed)
entry_fronts tokens.FlowEntry span c d e allowed OtherFront h = (refl, λ _. inl allowed)
entry_fronts _ span c d e allowed front h = absurd (cc)

pub brace_fronts : (span : Span) (c d : Core) → has_text span ≡ true
    → KeepsFronts (record { span = span; kind = tokens.FlowMappingStart }) c d
brace_fronts span c d e EmptyFront h = (refl, tt)
brace_fronts span c d e PropertyFront h = (e, tt)
brace_fronts span c d e OtherFront h = (refl, tt)

-- the start of a single pair without a key, before a colon
pub pair_fronts : (span : Span) (c d : Core) → HasFreeEntry c → slice_index c.cursor.rest 0 ≡ 58
    → KeepsFronts (record { span = span; kind = tokens.FlowMappingStart }) c d
pair_fronts span c d g colon EmptyFront h = (refl, tt)
pair_fronts span c d g colon PropertyFront h =
    absurd (let no = h g c.cursor (taken.nothing c.cursor.mark c.cursor.rest) in
    let yes = ap (is_one_of (codes ":&!")) colon in cc)
pair_fronts span c d g colon OtherFront h = (refl, tt)

-- a property, which may turn out to be a key, or another token before
pub property_fronts : (kind : Kind) (span : Span) (c d : Core) → front_behind kind EmptyFront ≡ PropertyFront
    → (HasFreeEntry d → HasFreeEntry c × (c.key_allowed ≡ false))
    → is_one_of (codes ":&!") (slice_index c.cursor.rest 0) ≡ true
    → KeepsFronts (record { span = span; kind = kind }) c d
property_fronts kind span c d e free first = by kind e
  where
    never : BeginsOther c.cursor → ⊥
    never o = let no = o c.cursor (taken.nothing c.cursor.mark c.cursor.rest) in cc

    empty : IsEntry EmptyFront c → HasFreeEntry d → BeginsOther d.cursor
    empty h g =
        let r = free g in
        elim (h r.0) [ inl allowed ↦ absurd (let no = r.1 in cc) | inr other ↦ absurd (never other) ]

    by : (kind : Kind) → front_behind kind EmptyFront ≡ PropertyFront
        → KeepsFronts (record { span = span; kind = kind }) c d
    by (tokens.Anchor name) e EmptyFront h = (refl, empty h)
    by (tokens.Anchor name) e PropertyFront h = (refl, λ g. absurd (never (h (free g).0)))
    by (tokens.Anchor name) e OtherFront h = (refl, tt)
    by (tokens.Tag handle suffix) e EmptyFront h = (refl, empty h)
    by (tokens.Tag handle suffix) e PropertyFront h = (refl, λ g. absurd (never (h (free g).0)))
    by (tokens.Tag handle suffix) e OtherFront h = (refl, tt)
    by tokens.FlowSequenceStart e front h = absurd (cc)
    by tokens.FlowEntry e front h = absurd (cc)
    by _ e front h = absurd (cc)

-- ## Contexts

pub question_no_pair : (x : Context) → begins_pair (behind_question x) ≡ false
question_no_pair x = grind arith

pub colon_pair : (x : Context) → begins_pair (behind_colon x) ≡ begins_pair x
colon_pair x = grind arith

pub block_no_pair : (x : Context) → is_block x ≡ true → begins_pair x ≡ false
block_no_pair x e = grind arith
