-- What each step of flow collections does.
use Rattle.saphyr_scanner.proofs.Common.{◌≡◌, ℕ, ◌+◌, ◌-◌, ◌≤◌, ◌<◌, Bool, true, false, List, [], ◌∷◌, length, ◌∙◌, Some, None, refl, sym, ap, arith, subst, inl, inr, IsTrue, ◌&&◌, ◌==◌, slice_index, nat_le, codes, if◌then◌else◌, colon, comma, is_break, Marker, Span, Cursor, ◌>>=◌, pass, Context, Piece, by_test, lt-ltb}
use Rattle.saphyr_input.specs.Classes.{is_one_of}
use Rattle.saphyr_scanner.specs.declared.engine.level.Context.TheVariants as context
use Rattle.saphyr_scanner.specs.Grammar.Tokens as tokens
use Rattle.saphyr_scanner.specs.Grammar.Tokens.{Kind}
use Rattle.saphyr_scanner.specs.Steps.Queue.{empty_piece}
use Rattle.saphyr_scanner.specs.Steps.Core.{Core, Put, in_block, forget_key, remove_key, go_deeper, at_mark, up_to_here, with_context, with_key, completed_step}
use Rattle.saphyr_scanner.specs.Steps.Level.{Level, is_block, ends_pair, behind_entry}
use Rattle.saphyr_scanner.specs.Steps.Passing.{separate, pass_on, with_cursor}
use Rattle.saphyr_scanner.specs.Steps.Flow as flow
use Rattle.saphyr_scanner.specs.TokensTaken as taken
use Rattle.saphyr_scanner.specs.TokensTaken.{Collections, Surroundings, IsToken, IsFlowIndicator, begins_text}
use Rattle.saphyr_scanner.specs.TokensInPlace as place
use Rattle.saphyr_scanner.specs.TokensInPlace.{Enclosures, has_text, enclosures_behind, may_end_pair, fits}
use Rattle.saphyr_scanner.specs.Limits.{most_open}
use Rattle.saphyr_scanner.proofs.Added.Queue.{IsNoEnd}
use Rattle.saphyr_scanner.proofs.Effects.Moves.{DoesWithin, Does, encloses, NoComment, and_then, Same, same, lesser, further, still_within, allows_right, same_right, leaving}
use Rattle.saphyr_scanner.proofs.Effects.Puts.{freed, Reading, empty_reading, IndicatorStands, passes, indicated, quiet_within, saving, entered, left, Enters, Leaves}
use Rattle.saphyr_scanner.proofs.Effects.Walked.{Premises, Walked, walked_then, at_most, Doing, separate_walked}
use Rattle.saphyr_scanner.proofs.LineTails.{OnLine}
use Rattle.saphyr_scanner.proofs.Taken.Cores.{by_bool, surroundings, forget_requires}
use Rattle.saphyr_scanner.proofs.Taken.SavedKeys.{apart_same}
use Rattle.saphyr_scanner.proofs.Taken.Bare.{BeginsOther, other_begins, entry_same, entry_other, plain_fronts, entry_fronts, brace_fronts}
use Rattle.saphyr_scanner.proofs.Taken.Indented.{other_than_colon}
use Rattle.saphyr_scanner.proofs.Taken.Keys.{IsArrival}
use Rattle.saphyr_scanner.proofs.Taken.Held.{begins_block, enclosure_of, outside_of, enclosures_of, Adjoins, FitsWithin}
use Rattle.saphyr_scanner.proofs.Taken.KeysInPlace.{no_text, Outside, free, calm}
use Rattle.saphyr_scanner.proofs.Taken.Later.{apart_later}
use Rattle.saphyr_scanner.proofs.Taken.Parts.{is_quiet, Begins, pair_ends}
use Rattle.saphyr_scanner.proofs.Taken.Places.{Reaches, at_here}

-- a bracket or a comma
pub record Bracket (x : ℕ) (kind : Kind) : Type 0 where
  pub some : (x == 0) ≡ false
  pub other : (x == colon) ≡ false
  pub apart : is_one_of (codes ":&!") x ≡ false
  pub begins : begins_text x ≡ true
  pub unbroken : is_break x ≡ false
  pub quiet : is_quiet kind ≡ true
  pub no_end : IsNoEnd kind
  pub other_kind : begins_block kind ≡ false
  pub is : (i : Surroundings) (span : Span) (s t : Cursor) → IsFlowIndicator x span s t → IsToken i kind span s t

pub has_some : (span : Span) → span.start.index < span.end.index → has_text span ≡ true
has_some span l = lt-ltb span.start.index span.end.index l

brace_begins : (span : Span) → span.start.index < span.end.index
    → Begins (record { span = span; kind = tokens.FlowMappingStart })
brace_begins span l i s u h = grind arith

abbrev pub EntersAll : Kind → Context → Type 0
EntersAll kind x = (span : Span) → span.start.index < span.end.index → Enters kind x span

pub sequence_enters : EntersAll tokens.FlowSequenceStart context.FlowSequence
sequence_enters span l = record {
  begins = λ i s u h. (h.1, ap (λ t. begins_text (slice_index t 0)) h.0.0);
  brackets = λ opened. refl;
  encloses = λ all. refl;
  depth = λ d. refl;
  of_node = refl;
  unbound = refl;
  fits = λ e columns. refl;
  fronts = λ c d allowed. entry_fronts tokens.FlowSequenceStart span c d refl allowed;
}

pub mapping_enters : EntersAll tokens.FlowMappingStart context.FlowMapping
mapping_enters span l = let some = has_some span l in record {
  begins = brace_begins span l;
  brackets = λ opened. rw some refl;
  encloses = λ all. rw some refl;
  depth = λ d. rw some refl;
  of_node = some;
  unbound = refl;
  fits = λ e columns. rw some refl;
  fronts = λ c d _. brace_fronts span c d some;
}

abbrev pub LeavesAll : Kind → Type 0
LeavesAll kind = (span : Span) → span.start.index < span.end.index → Leaves kind span

left_calm : (line : ℕ) (es : List place.Enclosed) (columns : List ℕ)
    → calm (place.with_begun (place.Content line) (place.left_for es columns)) ≡ place.left_for es columns
left_calm line es columns = grind arith

pub sequence_leaves : LeavesAll tokens.FlowSequenceEnd
sequence_leaves span l = record {
  brackets = λ opened. refl;
  encloses = λ all. left_calm span.end.line all.outer all.columns;
  depth = λ d. omega arith;
  ends_json = λ b. refl;
  no_node = refl;
  plain = refl;
}

pub mapping_leaves : LeavesAll tokens.FlowMappingEnd
mapping_leaves span l =
    let some = has_some span l in record {
      brackets = λ opened. rw some refl;
      encloses = λ all. rw some (left_calm span.end.line all.outer all.columns);
      depth = λ d. rw some (omega arith);
      ends_json = λ b. rw some refl;
      no_node = refl;
      plain = refl;
    }

-- a single pair may have ended before
abbrev pub ended : Bool → Enclosures → Enclosures
ended true all = place.turned_to place.Sequence all
ended false all = all

left_ended : (ends : Bool) (all : Enclosures)
    → place.left_for (ended ends all).outer (ended ends all).columns ≡ place.left_for all.outer all.columns
left_ended ends all = grind arith

-- a bracket that closes may come after the pair's end
abbrev pub EndsPair : Bool → Context → Type 0
EndsPair ends x = ends ≡ true → IsTrue (may_end_pair (enclosure_of x))

abbrev pub MayClose : Kind → Bool → Context → Type 0
MayClose kind ends x = (span : Span) → span.start.index < span.end.index → (outside : Outside)
    → is_block x ≡ false → FitsWithin (ended ends (free (enclosure_of x) outside)) (record { span = span; kind = kind })

pub pair_may_end : (x : Context) → EndsPair (ends_pair x) x
pair_may_end u0 e = grind arith

pub sequence_may_close : (x : Context) → MayClose tokens.FlowSequenceEnd (ends_pair x) x
sequence_may_close context.Block span l outside e = absurd (cc)
sequence_may_close _ span l outside e = refl

pub mapping_may_close : (x : Context) → MayClose tokens.FlowMappingEnd false x
mapping_may_close context.Block span l outside e = absurd (cc)
mapping_may_close _ span l outside e = let some = has_some span l in rw some refl

bracket : {x : ℕ} {kind : Kind} → (x == 0) ≡ false → (x == colon) ≡ false → is_one_of (codes ":&!") x ≡ false
    → begins_text x ≡ true → is_break x ≡ false → is_quiet kind ≡ true → IsNoEnd kind → begins_block kind ≡ false
    → ((i : Surroundings) (span : Span) (s t : Cursor) → IsFlowIndicator x span s t → IsToken i kind span s t)
    → Bracket x kind
bracket a b h i c d e f g = record {
  some = a;
  other = b;
  apart = h;
  begins = i;
  unbroken = c;
  quiet = d;
  no_end = e;
  other_kind = f;
  is = g;
}

pub open_sequence : Bracket 91 tokens.FlowSequenceStart
open_sequence = bracket refl refl refl refl refl refl (λ i. absurd (cc)) refl (λ i span s t h. h)

pub open_mapping : Bracket 123 tokens.FlowMappingStart
open_mapping = bracket refl refl refl refl refl refl (λ i. absurd (cc)) refl (λ i span s t h. inl h)

pub close_sequence : Bracket 93 tokens.FlowSequenceEnd
close_sequence = bracket refl refl refl refl refl refl (λ i. absurd (cc)) refl (λ i span s t h. h)

pub close_mapping : Bracket 125 tokens.FlowMappingEnd
close_mapping = bracket refl refl refl refl refl refl (λ i. absurd (cc)) refl (λ i span s t h. inl h)

comma_is_bracket : Bracket 44 tokens.FlowEntry
comma_is_bracket = bracket refl refl refl refl refl refl (λ i. absurd (cc)) refl (λ i span s t h. h)

stands : (x : ℕ) (kind : Kind) (s : Cursor) → Bracket x kind → slice_index s.rest 0 ≡ x → IndicatorStands x s
stands x kind s b f = record { some = b.some; unbroken = b.unbroken; is = f }

abbrev bracket_piece : Kind → Core → Cursor → Piece
bracket_piece kind c u = record { span = record { start = c.cursor.mark; end = u.mark }; kind = kind }

bracket_read : (x : ℕ) (kind : Kind) (c : Core) (u : Cursor) → Bracket x kind → slice_index c.cursor.rest 0 ≡ x
    → OnLine (pass 1 c.cursor) u → Reading 1 c (bracket_piece kind c u) u
bracket_read x kind c u b f o =
    let later = apart_later (pass 1 c.cursor).mark (pass 1 c.cursor).rest u.mark u.rest o.apart in
    indicated x c u (bracket_piece kind c u) (stands x kind c.cursor b f) o.apart (omega arith)
    (omega (arith, later.index)) (omega arith)
    (λ t e _. b.is (surroundings e c) (record { start = c.cursor.mark; end = u.mark }) c.cursor (pass 1 c.cursor)
    (t, refl, o.on_line))

-- ## `[` and `{`

-- What `[` and `{` do. A candidate is saved first (`saving`), then one level is entered, unless too many are open,
-- and last the separation behind the bracket is passed. The two steps of the claim follow that: the token is put
-- (`entered`), and the rest only moves the place (`further`).
pub start_does : (i : ℕ) (kind : Kind) (x : Context) → Bracket i kind → EntersAll kind x → is_block x ≡ false
    → (n : ℕ) (c : Core) → slice_index c.cursor.rest 0 ≡ i
    → Walked (Premises c) (Doing (Some n) c) c.cursor (flow.opening_steps x kind n c)
unfolding flow.opening_steps flow.open_collection
start_does i kind x b enters flows n c f =
    let P = Walked (Premises c) (Doing (Some n) c) c.cursor in
    saving n c (λ d. P (flow.open_collection x kind (go_deeper d))) (λ l r s.
    let d : Core = go_deeper (record c { level = l; required = r }) in
    by_test (nat_le most_open (length d.outer)) _ _ P (λ _ _. at_here c.cursor)
    (λ _. walked_then (Premises c) _ (Doing (Some n) c) c.cursor (separate (pass_on 1 (flow.enter x d))) _
    (separate_walked c c.cursor (pass_on 1 (flow.enter x d)) (λ _. passes i c.cursor (stands i kind c.cursor b f)))
    (λ e g.
    let u : Cursor = e.1.cursor in
    let later = apart_later (pass 1 c.cursor).mark (pass 1 c.cursor).rest u.mark u.rest g.1.apart in
    let behind : Core = record c { cursor = u; level = l; required = r } in
    let span : Span = record { start = c.cursor.mark; end = u.mark } in
    let some : c.cursor.mark.index < u.mark.index = omega (arith, later.index) in
    and_then (λ n. n) (entered n x c behind (bracket_piece kind c u) flows s refl (λ n. n) b.quiet b.no_end
    (enters span some) refl (other_than_colon i c.cursor.rest b.other f) (bracket_read i kind c u b f g.1))
    (further (flow.enter x behind) e.1 g.0 (taken.nothing u.mark u.rest)
    (λ _. allows_right (flow.enter x behind) e.1 (λ _. refl)
    (λ no. absurd (let same = ap (λ (l : Level). is_block l.context) g.0.0 in cc))
    (entry_same (flow.enter x behind) e.1 g.0.0 (λ a. g.2 ∙ a) (taken.nothing u.mark u.rest)))))))

-- ## The end of a collection or an entry

-- what is put into two that are the same leaves them the same, at the same place
record Respected (x y v w : Core) : Type 0 where
  same : Same v w
  before : v.cursor ≡ x.cursor
  behind : w.cursor ≡ y.cursor
  silent : NoComment x v
  allows : v.key_allowed ≡ x.key_allowed
  allows_behind : w.key_allowed ≡ y.key_allowed

adjacent_respected : (x y : Core) → Same x y → y.cursor ≡ x.cursor
    → Respected x y (flow.allow_adjacent x) (flow.allow_adjacent y)
adjacent_respected x y s e = grind arith

-- after a bracket or a comma, which leaves d after c, and before it the end of a pair
bracket_walked : (x : ℕ) (kind : Kind) → Bracket x kind → (c d : Core) (ends : Bool) → slice_index c.cursor.rest 0 ≡ x
    → (in_block c && c.required) ≡ false → d.cursor ≡ c.cursor → NoComment c d → EndsPair ends c.level.context
    → (f : Core → Core) → ((x y : Core) → Same x y → y.cursor ≡ x.cursor → Respected x y (f x) (f y))
    → ((u : Cursor) → c.cursor.mark.index < u.mark.index → c.cursor.mark.col < u.mark.col
    → Reading 1 (with_key None c) (bracket_piece kind c u) u
    → DoesWithin (IsArrival c) (ended ends (enclosures_of c)) (enclosures_of (f (with_cursor u d))) None 1 1
    (with_key None c) (f (with_cursor u d)) (Put (bracket_piece kind c u) ∷ []))
    → Walked (Premises c) (Doing None c) c.cursor
    (separate (pass_on 1 d) >>= λ e. completed_step
    (flow.behind_pair ends c.cursor.mark (up_to_here c.cursor.mark kind e.1))
    (f e.1))
bracket_walked x kind bracket c d ends first free there silent may f alike put =
    let other = other_begins x c.cursor first bracket.begins bracket.apart in
    let on : (pass_on 1 d).cursor ≡ pass 1 c.cursor = ap (pass 1) there in
    let R : Cursor → Type 0 = λ v. Reaches c.cursor v in
    let b : Core = with_key None c in
    walked_then (Premises c) _ (Doing None c) c.cursor (separate (pass_on 1 d)) _
    (separate_walked c c.cursor (pass_on 1 d)
    (λ _. subst R (sym on) (passes x c.cursor (stands x kind c.cursor bracket first)))) (λ e g.
    let u : Cursor = e.1.cursor in
    let r : Core = with_cursor u d in
    let k = alike r e.1 g.0 refl in
    let o : OnLine (pass 1 c.cursor) u = rw on at g.1 in
    let later = apart_later (pass 1 c.cursor).mark (pass 1 c.cursor).rest u.mark u.rest o.apart in
    let token = and_then (λ n. k.silent (silent n))
    (put u (omega (arith, later.index)) (let col = ap (λ (m : Marker). m.col) o.on_line.4 in omega (arith, col))
    (bracket_read x kind b u bracket first o))
    (further (f r) (f e.1) k.same (apart_same (f r).cursor (f e.1).cursor (k.behind ∙ sym k.before))
    (λ _. let allowed = k.allows_behind ∙ g.2 ∙ sym k.allows in (
      (λ a. inl (sym allowed ∙ a)),
      same_right (f r) (f e.1) k.same (k.behind ∙ sym k.before) allowed,
      entry_same (f r) (f e.1) k.same.0 (λ a. allowed ∙ a)
          (apart_same (f r).cursor (f e.1).cursor (k.behind ∙ sym k.before)),
    ))) in
    let forgets : Does (IsArrival c) None 0 0 c b [] =
    lesser (enclosures_of c) c b (record { block = refl; key = inr refl }) refl (λ n. n)
    (taken.nothing c.cursor.mark c.cursor.rest) (λ _. ((λ a. inl a), (λ h. h), entry_other c b other))
    (record { required = refl; key = λ e r. absurd (cc) }) in
    by_bool ends
    (λ b2. EndsPair b2 c.level.context → DoesWithin (IsArrival c) (ended b2 (enclosures_of c)) (enclosures_of (f e.1))
    None 1 1 b (f e.1) (up_to_here c.cursor.mark kind e.1 ∷ []) → Does (IsArrival c) None 1 5 c (f e.1)
    (flow.behind_pair b2 c.cursor.mark (up_to_here c.cursor.mark kind e.1)))
    (λ _ pair last. at_most (omega arith)
    (and_then (λ n. n) forgets (and_then (λ n. n) (pair_end c (pair refl) other) last)))
    (λ _ _ last. at_most (omega arith) (and_then (λ n. n) forgets last)) may token)
  where
    pair_flows : (x : Context) → IsTrue (may_end_pair (enclosure_of x)) → is_block x ≡ false
    pair_flows x e = grind arith

    pair_end : (c : Core) → IsTrue (may_end_pair (enclosure_of c.level.context)) → BeginsOther c.cursor
        → DoesWithin (IsArrival c) (enclosures_of c) (place.turned_to place.Sequence (enclosures_of c)) None 0 1
        (with_key None c) (with_key None c) (at_mark c.cursor.mark tokens.FlowMappingEnd ∷ [])
    pair_end c may other =
        let b : Core = with_key None c in
        let t = empty_piece c.cursor.mark tokens.FlowMappingEnd in
        let no = no_text c.cursor.mark.index in
        and_then (λ n. n) (encloses (rw no refl) (quiet_within (enclosures_of c) 0 b t c.cursor b.level true refl
        refl (record {
          quiet = refl;
          brackets = λ y. ap (λ (z : Collections). z.brackets) (pair_ends c.cursor.mark y);
          depth = λ d. rw no refl;
          no_node = refl;
        }) refl (λ _. rw no may) (λ i. absurd (cc)) (rw no refl) (plain_fronts t b (freed b) refl)
        (λ _ _ f. absurd (cc)) (empty_reading b tokens.FlowMappingEnd (λ _. inr (refl, inl refl, refl)))))
        (still_within (place.turned_to place.Sequence (enclosures_of c)) (freed b) b (same b) refl
        (λ _. allows_right (freed b) b (λ _. refl) (λ e. absurd (let no = pair_flows c.level.context may in cc))
        (entry_other (freed b) b other)))

least_reached : (deeper : Bool) (i m : ℕ) → (if deeper then i else i - 1) ≤ m → i ≤ m + 1
least_reached true i m l = omega (arith, l)
least_reached false i m l = omega (arith, l)

-- A closing bracket ends its collection: the level outside becomes the innermost again, with its candidate key
-- (`leaving`). A pair without braces that is open in the collection ends first (`ends`). Inside flow a value may be
-- adjacent to the bracket, so its place is noted.
pub end_does : (i : ℕ) (kind : Kind) → Bracket i kind → LeavesAll kind → (ends : Bool) (c : Core)
    → EndsPair ends c.level.context → MayClose kind ends c.level.context → slice_index c.cursor.rest 0 ≡ i
    → Walked (Premises c) (Doing None c) c.cursor (flow.closing_steps ends kind c)
unfolding flow.closing_steps flow.close_collection
end_does i kind b leaves ends c may close first =
    by_test (in_block c) _ _ (Walked (Premises c) (Doing None c) c.cursor) (λ _ _. at_here c.cursor)
    (λ inside. leaving c
    (λ d. Walked (Premises c) (Doing None c) c.cursor (separate (pass_on 1 d) >>= λ e. completed_step
    (flow.behind_pair ends c.cursor.mark (up_to_here c.cursor.mark kind e.1)) (flow.allow_adjacent e.1)))
    (λ l ls m.
    bracket_walked i kind b c (record c { level = l; outer = ls; key_allowed = false }) ends first (rw inside refl) refl
    (λ n. n) may flow.allow_adjacent adjacent_respected (λ u some right r.
    let span : Span = record { start = c.cursor.mark; end = u.mark } in
    let out = leaves span some in
    let within = ended ends (enclosures_of c) in
    let t = bracket_piece kind c u in
    let d : ℕ → Core = λ n. record c { cursor = u; level = l; outer = ls; key_allowed = false; adjacent = n } in
    let Closes : Core → Type 0 =
    λ e. DoesWithin (IsArrival c) within (enclosures_of e) None 1 1 (with_key None c) e (Put t ∷ []) in
    let closes : (n : ℕ) → Adjoins t c (d n) → Closes (d n) = λ n j.
    encloses (m.encloses (outside_of c).columns ∙ sym (left_ended ends (enclosures_of c)) ∙ sym (out.encloses within))
    (left within (with_key None c) l ls t u n j
    (record { above = m.above; keys = m.keys; root = m.root; fewer = m.fewer; encloses = m.encloses }) b.quiet
    b.no_end b.other_kind out (close span some (outside_of c) inside) inside
    (λ a. let i = least_reached c.deeper c.indent c.cursor.mark.col a.3 in omega (arith, i, right)) r) in
    by_test (is_block l.context) _ _ Closes (λ _. closes c.adjacent (inl refl))
    (λ _. closes u.mark.index (inr (refl, out.ends_json))))))

entry_block : (x : Context) → is_block (behind_entry x) ≡ is_block x
entry_block x = grind arith

-- after a comma
entry_encloses : (x : Context) (outside : Outside) (span : Span)
    → free (enclosure_of (behind_entry x)) outside
    ≡ enclosures_behind tokens.FlowEntry span (ended (ends_pair x) (free (enclosure_of x) outside))
entry_encloses x outside span = grind arith

entry_fits : (x : Context) (outside : Outside) (span : Span)
    → FitsWithin (ended (ends_pair x) (free (enclosure_of x) outside)) (record { span = span; kind = tokens.FlowEntry })
entry_fits context.Block outside span = refl
entry_fits _ outside span = refl

-- A comma ends an entry, and a pair without braces in it (`ended`). The candidate key before it is forgotten; one that
-- had to be a key is refused.
pub entry_does : (c : Core) → slice_index c.cursor.rest 0 ≡ comma
    → Walked (Premises c) (Doing None c) c.cursor (flow.flow_entry_steps c)
unfolding flow.flow_entry_steps flow.next_flow_entry remove_key
entry_does c first =
    let x = c.level.context in
    let d : Core = with_context (behind_entry x) (record (forget_key c) { key_allowed = true }) in
    let b : Core = with_key None c in
    let within = ended (ends_pair x) (enclosures_of c) in
    let turned : Cursor → Core = λ u.
    record b { cursor = u; level = record { context = behind_entry x; key = None }; key_allowed = true } in
    by_test (in_block c && c.required) _ _
    (λ r. Walked (Premises c) (Doing None c) c.cursor (r >>= flow.next_flow_entry)) (λ _ _. at_here c.cursor)
    (λ free. bracket_walked 44 tokens.FlowEntry comma_is_bracket c d (ends_pair x) first free refl (λ n. n)
    (pair_may_end x) (λ e. e) (λ v w s e. record {
      same = s;
      before = refl;
      behind = refl;
      silent = λ n. n;
      allows = refl;
      allows_behind = refl;
    })
    (λ u some _ r. encloses (entry_encloses x (outside_of c) (bracket_piece tokens.FlowEntry c u).span)
    (and_then (λ n. n) (quiet_within within 1 b (bracket_piece tokens.FlowEntry c u) u
    (record { context = behind_entry x; key = None }) true (entry_block x) refl
    (record { quiet = refl; brackets = λ y. refl; depth = λ e. refl; no_node = refl }) refl
    (λ _. entry_fits x (outside_of c) (bracket_piece tokens.FlowEntry c u).span) (λ i. absurd (cc)) refl
    (entry_fronts tokens.FlowEntry (bracket_piece tokens.FlowEntry c u).span b (turned u) refl refl)
    (λ _ _ f. absurd (cc)) r)
    (lesser (enclosures_behind tokens.FlowEntry (bracket_piece tokens.FlowEntry c u).span within)
    (turned u) (with_cursor u d) (record { block = refl; key = inr refl }) refl
    (λ n. n) (taken.nothing u.mark u.rest) (λ _. (
      (λ _. inl refl),
      (λ _ _ f. absurd (cc)),
      entry_same (turned u) (with_cursor u d) refl (λ _. refl) (taken.nothing u.mark u.rest),
    ))
    (record { required = (forget_requires c free).required; key = λ _ _. refl })))))
