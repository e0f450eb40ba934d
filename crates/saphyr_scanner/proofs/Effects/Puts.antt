-- The moves that put a token, save a key, or turn a candidate into a key.
use Rattle.saphyr_scanner.proofs.Common.{◌<◌, ◌≡◌, ℕ, ◌+◌, ◌≤◌, Bool, true, false, List, [], ◌∷◌, length, Option, Some, None, arith, refl, sym, ap, ◌∙◌, subst, inl, inr, IsTrue, is_break, Span, Cursor, pass, Context, Opening, Piece, by_test}
use Rattle.std.specs.Prelude.{◌-◌, ◌==◌, slice_index, not, suc}
use Rattle.saphyr_scanner.specs.declared.queue.Opening.TheVariants as opening
use Rattle.saphyr_scanner.specs.Grammar.Tokens as tokens
use Rattle.saphyr_scanner.specs.Grammar.Tokens.{Kind}
use Rattle.saphyr_scanner.specs.Steps.Queue.{Queue, is_empty_list, next, with_piece, with_opening, empty_piece}
use Rattle.saphyr_scanner.specs.Steps.Core.{Core, Put, Open, at_mark, in_block, save_key, forget_key, with_key, enter_block}
use Rattle.saphyr_scanner.specs.Steps.Level.{Candidate, Level, is_block, begins_pair}
use Rattle.saphyr_scanner.specs.Steps.Flow as flow
use Rattle.saphyr_scanner.specs.Steps.Passing.{with_cursor}
use Rattle.saphyr_scanner.specs.TokensTaken as taken
use Rattle.saphyr_scanner.specs.TokensTaken.{Collections, Surroundings, AreApart, IsToken, TakesCharacter, IsBlockStart, begins_text, open_behind, collections_behind, ends_json_behind}
use Rattle.saphyr_scanner.proofs.Added.Queue.{IsNoEnd, at_most_one, one_at_most, open_blocks}
use Rattle.saphyr_scanner.proofs.Effects.Readers.{Readers, ReaderEnds, ReadsSpan, TextLaws}
use Rattle.saphyr_scanner.proofs.Effects.Moves.{Around, DoesWithin, Does, encloses, IsBeforePlace, IsNextPlace, Left, NoComment, around}
use Rattle.saphyr_scalar.proofs.Plain.Behind.{IsNoted}
use Rattle.saphyr_scanner.proofs.Taken.Bare.{HasFreeEntry, KeepsFronts, is_plain, plain_fronts}
use Rattle.saphyr_scanner.proofs.Taken.Candidates.{KeyAbove, LevelsAbove, Above}
use Rattle.saphyr_scanner.proofs.Taken.Cores.{HoldsWithin, surroundings, IsTokenThere, holds_put, next_put, quiet_opens, quiet_put, loud_put, QuietToken, TakesToken, indicator_is_passed}
use Rattle.saphyr_scanner.proofs.Taken.SavedKeys.{IsSaved, Saved, saved_indented, saved_keys, open_quiet, open_loud}
use Rattle.saphyr_scanner.proofs.Taken.Indented.{BeginsNoNode, HasNoColon, IsRight, IsPastLine, root_inner, no_node_fits, indented_then, waits_then}
use Rattle.saphyr_scanner.proofs.Taken.Neutral.{Neutral}
use Rattle.saphyr_scanner.proofs.Taken.Held.{enclosure_of, outside_of, enclosures_of, began_at, Setting, FitsWithin, Adjoins, begins_block, closes_keys, ClosesKeys, IsParted, is_unbound, open_keys, unbound_parted, same_calm, unbound_calm, node_parted}
use Rattle.saphyr_scanner.proofs.Taken.Keys.{IsArrival, keeps_depth, leads_in, leads_out, lower, keys_put, keys_weaken}
use Rattle.saphyr_scanner.proofs.Taken.OpenedKeys.{below_key}
use Rattle.saphyr_scanner.proofs.Taken.InPlace.{deeper}
use Rattle.saphyr_scanner.proofs.Taken.KeysInPlace.{in_key, awaited, MayOpen, Outside, free, calmed, calm}
use Rattle.saphyr_scanner.specs.TokensInPlace as place
use Rattle.saphyr_scanner.specs.TokensInPlace.{Enclosure, Begun, Enclosures, with_begun, begun_at, enclosures_behind, may_begin_key, is_of_flow_node, fits}
use Rattle.saphyr_scanner.proofs.Taken.Later.{top, apart_later}
use Rattle.saphyr_scanner.proofs.Taken.Parts.{is_quiet, Begins, opens_block, with_column, EndsOnLine}
use Rattle.saphyr_scanner.proofs.Taken.Places.{Reaches, character_reached}

-- ## A token is put

-- a token from the place of c to u, where k characters at least are taken off
pub record Reading (k : ℕ) (c : Core) (t : Piece) (u : Cursor) : Type 0 where
  pub less : Readers → length u.rest + k ≤ length c.cursor.rest
  pub span : ReaderEnds → ReadsSpan c.cursor t.span u
  pub token : TextLaws → TakesToken c t u

-- a token without characters
pub empty_reading : (c : Core) (kind : Kind)
    → ((b : Bool)
    → IsToken (surroundings b c) kind (record { start = c.cursor.mark; end = c.cursor.mark }) c.cursor c.cursor)
    → Reading 0 c (empty_piece c.cursor.mark kind) c.cursor
empty_reading c kind is = record {
  less = λ _. omega arith;
  span = λ _. record {
    ahead = record { later = omega arith; counted = refl };
    begins = omega arith;
    inside = omega arith;
    ends = omega arith;
  };
  token = λ _. (c.cursor, (λ b _. is b), taken.nothing c.cursor.mark c.cursor.rest);
}

-- an indicator is here
pub record IndicatorStands (x : ℕ) (s : Cursor) : Type 0 where
  pub some : (x == 0) ≡ false
  pub unbroken : is_break x ≡ false
  pub is : slice_index s.rest 0 ≡ x

pub passes : (x : ℕ) (s : Cursor) → IndicatorStands x s → Reaches s (pass 1 s)
passes x s h = character_reached x s (pass 1 s) h.unbroken (indicator_is_passed x s h.some h.is)

-- its token, with separation after it
pub indicated : (x : ℕ) (c : Core) (u : Cursor) (t : Piece) → IndicatorStands x c.cursor → AreApart (pass 1 c.cursor) u
    → c.cursor.mark.index ≤ t.span.start.index → t.span.start.index ≤ t.span.end.index → t.span.end.index ≤ u.mark.index
    → (TakesCharacter x c.cursor (pass 1 c.cursor) → IsTokenThere c t (pass 1 c.cursor)) → Reading 1 c t u
indicated x c u t stands apart begins inside ends is =
    let takes = indicator_is_passed x c.cursor stands.some stands.is in
    let l : length c.cursor.rest ≡ length (x ∷ (pass 1 c.cursor).rest) = ap length takes.0 in
    let later = apart_later (pass 1 c.cursor).mark (pass 1 c.cursor).rest u.mark u.rest apart in
    record {
      less = λ _. omega (arith, l, later.index, later.counted);
      span = λ _. record {
        ahead = record { later = omega (arith, later.index); counted = omega (arith, l, later.counted) };
        begins = begins;
        inside = inside;
        ends = ends;
      };
      token = λ _. (pass 1 c.cursor, is takes, apart);
    }

putting : {A : Type 0} (within behind : Enclosures) (n : Option ℕ) (k v : ℕ) (c d : Core) (t : Piece)
    → Reading k c t d.cursor → IsNoEnd t.kind
    → d.started ≡ c.started → d.ended ≡ c.ended → (c.comment ≡ None → IsNoted d.comment d.cursor)
    → open_blocks d ≤ open_blocks c + v
    → ((h : ℕ) → IsBeforePlace h n → Above h c → Above h d)
    → (A → TextLaws → (opened : Setting) (from : Cursor) (q : Queue) → IsNextPlace n c q
    → HoldsWithin within opened from c q → HoldsWithin behind opened from d (with_piece t q))
    → DoesWithin A within behind n k (1 + v) c d (Put t ∷ [])
putting within behind n k v c d t r e s f m few above holds = grind arith

-- a key may begin here, where no properties are last
abbrev pub freed : Core → Core
freed c = record c { key_allowed = true }

-- one that doesn't change which block collections and brackets are open
pub quiet_within : {A : Type 0} (within : Enclosures) (k : ℕ) (c : Core) (t : Piece) (u : Cursor)
    → (l : Level) (allowed : Bool) → is_block l.context ≡ in_block c → l.key ≡ None → QuietToken t
    → c.level.key ≡ None → (A → FitsWithin within t) → IsNoEnd t.kind → is_unbound t.kind t.span ≡ true
    → KeepsFronts t c (record c { cursor = u; level = l; key_allowed = allowed })
    → (A → IsRight (record c { cursor = u; level = l; key_allowed = allowed })) → Reading k c t u
    → DoesWithin A within (enclosures_behind t.kind t.span within) None k 1 c
    (record c { cursor = u; level = l; key_allowed = allowed }) (Put t ∷ [])
quiet_within within k c t u l allowed block free q none fit e unbound fronts right r =
    let d : Core = record c { cursor = u; level = l; key_allowed = allowed } in
    encloses (sym (unbound_calm t.kind t.span within unbound))
    (putting within (calm (enclosures_behind t.kind t.span within)) None k 0 c d t r e refl refl (λ m. inl m)
    (omega arith) (λ h _ a. (let P : Option Candidate → Type 0 = λ y. KeyAbove h y in subst P (sym free) tt, a.1))
    (λ premise laws opened from p _ h. quiet_put c d t q none (r.token laws) (fit premise)
    (unbound_parted t c d unbound fronts) (right premise) (record {
      block = block;
      key = free ∙ sym none;
      outer = refl;
      indent = refl;
      outer_indents = refl;
      adjacent = refl;
      required = refl;
    }) h))

-- one that changes nothing
pub quiet : {A : Type 0} (k : ℕ) (c : Core) (t : Piece) (u : Cursor) (allowed : Bool) → is_quiet t.kind ≡ true
    → Neutral t → is_of_flow_node t.kind t.span ≡ false → c.level.key ≡ None → IsNoEnd t.kind
    → is_unbound t.kind t.span ≡ true → is_plain t.kind ≡ true
    → (A → IsRight (record c { cursor = u; key_allowed = allowed })) → Reading k c t u
    → Does A None k 1 c (record c { cursor = u; key_allowed = allowed }) (Put t ∷ [])
quiet k c t u allowed q b other none e unbound plain right r =
    encloses (sym (b.encloses (enclosure_of c.level.context) (outside_of c))
    ∙ unbound_calm t.kind t.span (enclosures_of c) unbound)
    (quiet_within (enclosures_of c) k c t u c.level allowed refl none
    (record { quiet = q; brackets = b.brackets; depth = b.depth; no_node = other }) none
    (λ _. b.fits (enclosure_of c.level.context) (outside_of c).columns) e unbound (plain_fronts t c _ plain) right r)

-- what the start of a block collection changes
pub record StartsBlock (kind : Kind) (g : Begun) : Type 0 where
  pub no_end : IsNoEnd kind
  pub no_key : (span : Span) → closes_keys kind span ≡ false
  pub plain : is_plain kind ≡ true
  pub calm : calmed g ≡ g
  pub no_node : (span : Span) → is_of_flow_node kind span ≡ false
  pub is : (i : Surroundings) (span : Span) (s t : Cursor) → IsBlockStart i.indent span s t → IsToken i kind span s t
  pub opens : (span : Span) (opened : Collections)
      → collections_behind kind span opened ≡ with_column span.start.col opened
  pub encloses : (span : Span) (all : Enclosures) → enclosures_behind kind span all ≡ begun_at g span.start.col all
  pub fits : (e : Enclosure) (span : Span) (columns : List ℕ) → IsTrue (fits e columns kind span)

pub sequence_starts : StartsBlock tokens.BlockSequenceStart place.BlockSequence
sequence_starts = grind arith

pub mapping_starts : StartsBlock tokens.BlockMappingStart place.BlockMapping
mapping_starts = grind arith

-- a block collection begins, where no token may be a key any more, nor has to be
pub block_begins : {A : Type 0} (e : Enclosure) (c : Core) (r : Bool) (kind : Kind) (g : Begun) → StartsBlock kind g
    → c.key_allowed ≡ true → (A → c.cursor.mark.line < top) → (c.required ≡ true → c.level.key ≡ None)
    → (r ≡ true → c.required ≡ true) → in_block c ≡ true → c.indent ≤ c.cursor.mark.col
    → IsTrue (begins_text (slice_index c.cursor.rest 0))
    → DoesWithin A (free e (outside_of c))
    (with_begun g (free e (outside_of (enter_block c.cursor.mark.col c)))) None 0 3 c
    (record (with_key None (enter_block c.cursor.mark.col c)) { required = r }) (at_mark c.cursor.mark kind ∷ [])
block_begins e c r kind g starts allowed small unasked required b right first =
    let d : Core = record (with_key None (enter_block c.cursor.mark.col c)) { required = r } in
    let within = free e (outside_of c) in
    let none : AreApart c.cursor c.cursor = taken.nothing c.cursor.mark c.cursor.rest in
    let t = empty_piece c.cursor.mark kind in
    let token : (b : Bool) → IsToken (surroundings b c) kind (record { start = c.cursor.mark; end = c.cursor.mark })
    c.cursor c.cursor = λ b. starts.is (surroundings b c) (record { start = c.cursor.mark; end = c.cursor.mark })
    c.cursor c.cursor (refl, refl, refl, first, right) in
    encloses (ap (λ x. with_begun x (free e (outside_of d))) (sym starts.calm)
    ∙ ap calm (sym (began_at g e c.cursor.mark.col c) ∙ sym (starts.encloses t.span within)))
    (putting within (calm (enclosures_behind kind t.span within)) None 0 2 c d t (empty_reading c kind token)
    starts.no_end refl refl
    (λ m. inl m)
    (let y = one_at_most (c.cursor.mark.col + 1) in omega (arith, y)) (λ h _ a. (tt, a.1))
    (λ premise _ opened from q _ h.
    loud_put c d t (c.cursor, (λ i _. token i), none)
    (λ x k. rw (starts.opens (record { start = c.cursor.mark; end = c.cursor.mark }) x) ((refl, k.0), k.1)) refl
    (starts.fits e t.span within.columns)
    ((λ _. (allowed, refl, small premise)), open_keys t d (starts.no_key t.span), plain_fronts t c d starts.plain)
    (λ _ f. absurd (let a = allowed in cc)) (starts.no_node t.span) b unasked required refl refl b h))

-- outside flow a token that changes nothing that is open, where no token may be a key
pub loud : {A : Type 0} (within : Enclosures) (k : ℕ) (c : Core) (t : Piece) (u : Cursor)
    → ((opened : Collections) → collections_behind t.kind t.span opened ≡ opened) → FitsWithin within t → IsNoEnd t.kind
    → closes_keys t.kind t.span ≡ false → is_of_flow_node t.kind t.span ≡ false
    → (A → IsParted t c (freed (with_cursor u c))) → in_block c ≡ true → c.level.key ≡ None → Reading k c t u
    → DoesWithin A within (enclosures_behind t.kind t.span within) None k 1 c (freed (with_cursor u c)) (Put t ∷ [])
loud within k c t u same fit e other node parted b none r =
    let d : Core = freed (with_cursor u c) in
    encloses (sym (same_calm t.kind t.span within other))
    (putting within (calm (enclosures_behind t.kind t.span within)) None k 0 c d t r e refl refl (λ m. inl m)
    (omega arith) (λ h _ a. a) (λ premise laws opened from q _ h.
    loud_put c d t (r.token laws) (λ x k. rw (same x) k) refl fit (parted premise) (λ _ f. absurd (cc)) node b
    (λ _. none) (λ e. e) none refl b h))

-- ## A key is saved

pub saving : (n : ℕ) (c : Core) (P : Core → Type 0)
    → ((l : Level) (r : Bool) → IsSaved n c l r → P (record c { level = l; required = r })) → P (save_key n c)
saving n c P f = by_test c.key_allowed _ _ P (λ e. f _ _ (inr (refl, e, refl)))
    (λ e. f c.level c.required (inl (refl, e, refl)))

-- the level is as much inside flow
pub same_block : (n : ℕ) (c : Core) (l : Level) (r : Bool) → IsSaved n c l r → is_block l.context ≡ in_block c
same_block n c l r (inl e) = ap (λ (x : Level). is_block x.context) e.0
same_block n c l r (inr e) = ap (λ (x : Level). is_block x.context) e.0

-- where none was saved another is a candidate, or none may be
pub saved_free : (n : ℕ) (c : Core) (l : Level) (r : Bool) → IsSaved n c l r
    → (begins_pair l.context ≡ true) × (l.key ≡ None) → HasFreeEntry c × (c.key_allowed ≡ false)
saved_free n c l r (inl e) g =
    ((ap (λ (x : Level). begins_pair x.context) (sym e.0) ∙ g.0, ap (λ (x : Level). x.key) (sym e.0) ∙ g.1), e.1)
saved_free n c l r (inr e) g = absurd (let some = ap (λ (x : Level). x.key) e.0 in let none = g.1 in cc)

pub same_flow : (n : ℕ) (c : Core) (l : Level) (r : Bool) → IsSaved n c l r
    → not (is_block l.context) ≡ not (in_block c)
same_flow n c l r s = ap not (same_block n c l r s)

pub saved_above : (h n : ℕ) (c : Core) (l : Level) (r : Bool) → IsSaved n c l r → h ≤ n → KeyAbove h c.level.key
    → KeyAbove h l.key
saved_above h n c l r (inl e) i a = let P : Level → Type 0 = λ x. KeyAbove h x.key in subst P (sym e.0) a
saved_above h n c l r (inr e) i a = let P : Level → Type 0 = λ x. KeyAbove h x.key in subst P (sym e.0) i

-- what is around stays, but for the place that is kept for a colon
abbrev pub Stays : Core → Core → Type 0
Stays c d = around (record d { adjacent = c.adjacent }) ≡ around c

pub saved_around : (n : ℕ) (c d : Core) → IsSaved n c d.level d.required → Stays c d → enclosures_of d ≡ enclosures_of c
saved_around n c d s a = grind arith

-- the token that may be a key
pub saved : (n : ℕ) (c d : Core) (t : Piece) → IsSaved n c d.level d.required → Stays c d → Adjoins t c d
    → (c.comment ≡ None → IsNoted d.comment d.cursor) → is_quiet t.kind ≡ true → Neutral t
    → IsTrue (is_of_flow_node t.kind t.span) → IsNoEnd t.kind → KeepsFronts t c d → Begins t
    → t.span.start ≡ c.cursor.mark → HasNoColon c.cursor.rest
    → (IsArrival c → TextLaws → ClosesKeys t d × IsRight d × IsPastLine c.cursor.mark.line d)
    → Reading 1 c t d.cursor → Does (IsArrival c) (Some n) 1 5 c d (Put t ∷ [])
saved n c d t s a j m q b node e fronts begins start some behind h =
    let outer = ap (λ (x : Around). x.outer) a in
    let indent = ap (λ (x : Around). x.indent) a in
    let indents = ap (λ (x : Around). x.outer_indents) a in
    let blocks : open_blocks d ≡ open_blocks c = ap (λ (x : Around). at_most_one x.indent + length x.outer_indents) a in
    let within = enclosures_of c in
    encloses (saved_around n c d s a ∙ sym (b.encloses (enclosure_of c.level.context) (outside_of c)))
    (putting within (calm (enclosures_behind t.kind t.span within)) (Some n) 1 4 c d t h e
    (ap (λ (x : Around). x.started) a) (ap (λ (x : Around). x.ended) a) m (omega (arith, blocks))
    (λ i l x. let P : List Level → Type 0 = λ ls. LevelsAbove i ls in
    (saved_above i n c d.level d.required s l x.0, subst P (sym outer) x.1)) (λ arrival laws opened from p i k.
    let after = behind arrival laws in
    let Q : ℕ → Type 0 = λ j. IsSaved j c d.level d.required in
    let key : Saved (next p) c (with_cursor c.cursor d) =
    record { level = subst Q i.0 s; cursor = refl; outer = outer; indent = indent; outer_indents = indents } in
    record {
      taken = holds_put c d t (h.token laws)
          (quiet_opens t c d q indent indents (λ x z. b.brackets x ∙ z ∙ sym (ap length outer))) j
          (b.fits (enclosure_of c.level.context) within.columns) (node_parted t c d node after.0 fronts) after.1
          (saved_indented opened from c (with_cursor c.cursor d) d p t key refl refl arrival (λ _. (start, some))
          after.2 k) k;
      keys = saved_keys opened.enclosures 0 c p t (with_cursor c.cursor d) q node (b.depth 0)
          (keeps_depth t c.level c.outer (inr node) b.depth) begins start i.1 key
          (λ allowed. k.taken.past allowed arrival.2) k.keys;
    }))

-- ## A bracket

-- what encloses the tokens after one that opens
pub record Enters (kind : Kind) (x : Context) (span : Span) : Type 0 where
  pub begins : Begins (record { span = span; kind = kind })
  pub brackets : (opened : Collections) → (open_behind kind span opened).brackets ≡ opened.brackets + 1
  pub encloses : (all : Enclosures) → enclosures_behind kind span all ≡ place.entered (enclosure_of x) all
  pub depth : (d : ℕ) → deeper kind span d ≡ suc d
  pub of_node : IsTrue (is_of_flow_node kind span)
  pub unbound : is_unbound kind span ≡ true
  pub fits : (e : Enclosure) (columns : List ℕ) → IsTrue (fits e columns kind span)
  pub fronts : (c d : Core) → d.key_allowed ≡ true → KeepsFronts (record { span = span; kind = kind }) c d

-- the token that opens a flow collection, and may be a key
pub entered : (n : ℕ) (x : Context) (c d : Core) (t : Piece) → is_block x ≡ false → IsSaved n c d.level d.required
    → around d ≡ around c → NoComment c d → is_quiet t.kind ≡ true → IsNoEnd t.kind → Enters t.kind x t.span
    → t.span.start ≡ c.cursor.mark → HasNoColon c.cursor.rest → Reading 1 c t d.cursor
    → Does (IsArrival c) (Some n) 1 5 c (flow.enter x d) (Put t ∷ [])
entered n x c d t flows s a m q e into start some h =
    let r : Core = flow.enter x d in
    let outer = ap (λ (x : Around). x.outer) a in
    let indent = ap (λ (x : Around). x.indent) a in
    let indents = ap (λ (x : Around). x.outer_indents) a in
    let blocks : open_blocks r ≡ open_blocks c = ap (λ (x : Around). at_most_one x.indent + length x.outer_indents) a in
    let within = enclosures_of c in
    let stays : Stays c d = ap (λ (y : Around). record y { adjacent = c.adjacent }) a in
    encloses (ap (place.entered (enclosure_of x)) (saved_around n c d s stays) ∙ sym (into.encloses within)
    ∙ sym (unbound_calm t.kind t.span within into.unbound))
    (putting within (calm (enclosures_behind t.kind t.span within)) (Some n) 1 4 c r t h e
    (ap (λ (x : Around). x.started) a) (ap (λ (x : Around). x.ended) a)
    (λ f. inl (m f)) (omega (arith, blocks))
    (λ i l y. let P : List Level → Type 0 = λ ls. LevelsAbove i ls in
    (tt, (saved_above i n c d.level d.required s l y.0, subst P (sym outer) y.1)))
    (λ arrival laws opened from p i k.
    let Q : ℕ → Type 0 = λ j. IsSaved j c d.level d.required in
    let key : Saved (next p) c (with_cursor c.cursor d) =
    record { level = subst Q i.0 s; cursor = refl; outer = outer; indent = indent; outer_indents = indents } in
    record {
      taken = holds_put c r t (h.token laws)
          (quiet_opens t c r q indent indents (λ y z. into.brackets y ∙ (let l = ap length outer in
          omega (arith, z, l)))) (inl (ap (λ (x : Around). x.adjacent) a))
          (into.fits (enclosure_of c.level.context) within.columns)
          (unbound_parted t c r into.unbound (into.fronts c r refl)) (λ no. absurd (cc))
          (saved_indented opened from c (with_cursor c.cursor d) r p t key refl refl arrival (λ _. (start, some))
          (λ no. absurd (cc)) k) k;
      keys = (
        flows,
        tt,
        saved_keys opened.enclosures 1 c p t (with_cursor c.cursor d) q into.of_node (into.depth 0)
            (leads_in t (c.level ∷ c.outer) 0 into.of_node into.depth) into.begins start i.1 key
            (λ allowed. k.taken.past allowed arrival.2) k.keys,
      );
    }))

-- what encloses the tokens after one that closes
pub record Leaves (kind : Kind) (span : Span) : Type 0 where
  pub brackets : (opened : Collections) → (open_behind kind span opened).brackets ≡ opened.brackets - 1
  pub encloses : (all : Enclosures)
      → calm (enclosures_behind kind span all) ≡ place.left_for all.outer all.columns
  pub depth : (d : ℕ) → deeper kind span (suc d) ≡ d
  pub ends_json : (b : Bool) → ends_json_behind kind span b ≡ true
  pub no_node : is_of_flow_node kind span ≡ false
  pub plain : is_plain kind ≡ true

-- the token that closes a flow collection, which is left for the level around it
pub left : {A : Type 0} (within : Enclosures) (c : Core) (l : Level) (ls : List Level) (t : Piece) (u : Cursor) (n : ℕ)
    → Adjoins t c (record c { cursor = u; level = l; outer = ls; key_allowed = false; adjacent = n })
    → Left c l ls → is_quiet t.kind ≡ true → IsNoEnd t.kind → begins_block t.kind ≡ false → Leaves t.kind t.span
    → FitsWithin within t → in_block c ≡ false → (A → c.indent ≤ u.mark.col) → Reading 1 c t u
    → DoesWithin A within (calm (enclosures_behind t.kind t.span within)) None 1 1 c
    (record c { cursor = u; level = l; outer = ls; key_allowed = false; adjacent = n }) (Put t ∷ [])
left within c l ls t u n j z q e other out fit flows right h =
    let d : Core = record c { cursor = u; level = l; outer = ls; key_allowed = false; adjacent = n } in
    putting within (calm (enclosures_behind t.kind t.span within)) None 1 0 c d t h e refl refl (λ m. inl m)
    (omega arith) (λ i _ a. z.above i a.1) (λ premise laws opened from p _ k.
    let r = with_piece t p in
    let all = opened.enclosures in
    let some : is_empty_list c.outer ≡ false = sym k.keys.0 ∙ flows in
    let fits = no_node_fits all p t out.no_node in
    let outers = keys_weaken opened.enclosures 1 (lower (next p) c.level.key) (next r) p c.indent c.outer
    (let low = below_key opened.enclosures 0 (next p) p (is_block c.level.context) c.indent c.level.key k.keys.1 in
    omega (arith, next_put t p, low)) k.keys.2 in
    record {
      taken = holds_put c d t (h.token laws)
          (quiet_opens t c d q refl refl (λ y v. out.brackets y ∙ ap (λ i. i - 1) v ∙ sym z.fewer)) j fit
          ((λ yes. absurd (cc)), (λ no. absurd (cc)), plain_fronts t c d out.plain) (λ _ _ _. inl (right premise))
          (λ line y. record {
            free = λ no. indented_then all p t fits (y.free no);
            waits = λ yes. waits_then all c d p t (z.root some ∙ sym (root_inner c.level c.outer some)) line
                (y.waits yes) (λ _ allowed. absurd (cc));
          }) k;
      keys = z.keys opened.enclosures (next r) r
          (keys_put opened.enclosures 1 0 (next r) p c.indent c.outer t q (leads_out t c.outer 0 out.depth) outers);
    })

-- ## A candidate turns out to be a key

opens : {A : Type 0} (within behind : Enclosures) (v : ℕ) (c d : Core) (k : Candidate) (o : Opening)
    → d.cursor ≡ c.cursor → c.level.key ≡ Some k
    → d.level.key ≡ None → d.outer ≡ c.outer → d.started ≡ c.started → d.ended ≡ c.ended → NoComment c d
    → open_blocks d ≤ open_blocks c + v
    → (A → (opened : Setting) (from : Cursor) (q : Queue) → HoldsWithin within opened from c q
    → HoldsWithin behind opened from d (with_opening k.place o q))
    → DoesWithin A within behind None 0 (2 + v) c d (Open k.place o ∷ [])
opens within behind v c d k o e key none outer s f m few holds =
    let l = ap (λ (u : Cursor). length u.rest) e in
    let i = ap (λ (u : Cursor). u.mark.index) e in
    record {
      less = λ _. omega (arith, l);
      ahead = λ _. record { later = omega (arith, i); counted = omega (arith, i, l) };
      puts = λ _. omega (arith, i);
      started = s;
      ended = f;
      goes_on = tt;
      few = omega (arith, few);
      keeps = λ h _ x.
          let P : Option Candidate → Type 0 = λ y. KeyAbove h y in
          let Q : List Level → Type 0 = λ ls. LevelsAbove h ls in
          ((subst P (sym none) tt, subst Q (sym outer) x.1), (subst P key x.0, tt));
      holds = λ premise _ opened from q _ h. holds premise opened from q h;
      noted = λ g. inl (m g);
    }

-- a key alone, or in flow with its mapping
pub key_opens : {A : Type 0} (e : Enclosure) (outside : Outside) (c : Core) (k : Candidate) (o : Opening)
    → opens_block o ≡ false → (o ≡ opening.FlowMappingAndKey → in_block c ≡ false) → MayOpen o e
    → (in_block c ≡ true → k.mark.col < c.indent) → c.level.key ≡ Some k
    → DoesWithin A (free e outside) (awaited o k.mark (free e outside)) None 0 2 c (forget_key c) (Open k.place o ∷ [])
key_opens e outside c k o n flows m left is =
    opens (free e outside) (awaited o k.mark (free e outside)) 0 c (forget_key c) k o refl is refl refl refl refl
    (λ i. i) (omega arith) (λ _ opened from q h. open_quiet e outside opened from c q k o n flows m left is h)

-- a block mapping and a key
pub mapping_opens : {A : Type 0} (e : Enclosure) (c : Core) (k : Candidate) → in_block c ≡ true
    → IsTrue (may_begin_key e) → (A → EndsOnLine k.mark c.cursor) → c.indent ≤ k.mark.col
    → BeginsNoNode c.cursor.rest → c.level.key ≡ Some k
    → DoesWithin A (free e (outside_of c)) (in_key k.mark (free e (outside_of (enter_block k.mark.col c))))
    None 0 4 c (forget_key (enter_block k.mark.col c)) (Open k.place opening.BlockMappingAndKey ∷ [])
mapping_opens e c k b may near right other is =
    encloses (ap (in_key k.mark) (sym (began_at place.BlockMapping e k.mark.col c)))
    (opens (free e (outside_of c)) (awaited opening.BlockMappingAndKey k.mark (free e (outside_of c))) 2 c
    (forget_key (enter_block k.mark.col c)) k opening.BlockMappingAndKey refl is refl refl refl refl (λ n. n)
    (let y = one_at_most (k.mark.col + 1) in omega (arith, y))
    (λ premise opened from q h. open_loud e (outside_of c) opened from c q k b may (near premise) right other is h))
