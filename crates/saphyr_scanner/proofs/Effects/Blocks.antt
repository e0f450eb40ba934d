-- What each step of block collections does.
use Rattle.saphyr_scanner.proofs.Common.{◌≡◌, ℕ, ◌+◌, ◌≤◌, ◌<◌, Bool, true, false, [], ◌∷◌, None, refl, sym, ap, ◌∙◌, arith, inl, inr, IsTrue, ◌&&◌, ◌||◌, ◌==◌, slice_index, not, if◌then◌else◌, nat_le, is_break, is_flow, is_blank_or_breakz, found_tabs, Marker, Span, Cursor, ◌>>=◌, pass, Context, Piece, by_test, second_is, not-false, hyphen, question_mark}
use Rattle.saphyr_scanner.specs.Grammar.Tokens as tokens
use Rattle.saphyr_scanner.specs.Steps.Gap.{spaces_at}
use Rattle.saphyr_scanner.specs.Steps.Queue.{empty_piece}
use Rattle.saphyr_scanner.specs.Steps.Core.{Core, at_mark, up_to_here, in_block, forget_key, remove_key, is_further, enter_block, with_context, completed_step}
use Rattle.saphyr_scanner.specs.Steps.Level.{Level, is_block, begins_pair, behind_question}
use Rattle.saphyr_scanner.specs.Steps.Passing.{separate, pass_on, with_cursor}
use Rattle.saphyr_scanner.specs.Steps.Block as block
use Rattle.saphyr_scanner.specs.TokensTaken as taken
use Rattle.saphyr_scanner.specs.TokensTaken.{AreApart, IsAtColumn}
use Rattle.saphyr_scanner.specs.TokensInPlace as place
use Rattle.saphyr_scanner.specs.TokensInPlace.{Begun, with_begun, turned_to, awaiting_colon, has_text, enclosures_behind, may_follow}
use Rattle.saphyr_scanner.proofs.Effects.Moves.{DoesWithin, encloses, and_then, Same, lesser, further, allows_right}
use Rattle.saphyr_scanner.proofs.Effects.Puts.{passes, indicated, freed, quiet_within, block_begins, loud, sequence_starts, mapping_starts}
use Rattle.saphyr_scanner.proofs.Effects.Walked.{Premises, Walked, walked_then, at_most, Doing, at_reach, separate_walked}
use Rattle.saphyr_scanner.proofs.LineTails.{OnLine}
use Rattle.saphyr_scanner.proofs.Reached.{apart_reached}
use Rattle.saphyr_scanner.proofs.Taken.Bare.{plain_fronts, entry_closed, question_no_pair, block_no_pair}
use Rattle.saphyr_scanner.proofs.Taken.Keys.{IsDeep}
use Rattle.saphyr_scanner.proofs.Taken.Cores.{by_bool, forget_requires}
use Rattle.saphyr_scanner.proofs.Taken.SavedKeys.{further_block, further_right}
use Rattle.saphyr_scanner.proofs.Taken.Held.{enclosure_of, outside_of, enclosures_of}
use Rattle.saphyr_scanner.proofs.Taken.KeysInPlace.{Outside, free}
use Rattle.saphyr_scanner.proofs.Effects.Flow.{has_some}
use Rattle.saphyr_scanner.proofs.Taken.Later.{top, apart_later}
use Rattle.saphyr_scanner.proofs.Taken.Places.{Reaches, reaches_reaches, at_here}
use Rattle.saphyr_scanner.proofs.Taken.Separated.{spaces_apart}

reaches_on : (s t u : Cursor) → Reaches s t → AreApart t u → Reaches s u
reaches_on s t u a p = reaches_reaches s t u a (apart_reached t.mark t.rest u.mark u.rest p)

-- ## `-`

-- after what follows a `-` on its line, where no key is left
abbrev Behind : Core → Core → Type 0
Behind c d = Same (forget_key c) d × OnLine c.cursor d.cursor × ((in_block c && c.required) ≡ false)

dash_walked : (b : Core) (s : Cursor) (c : Core) → Reaches s c.cursor
    → Walked (Premises b) (Behind c) s (block.pass_dash c >>= remove_key)
unfolding block.pass_dash remove_key
dash_walked b s c a =
    let P : Core → Type 0 = λ d. Same c d × OnLine c.cursor d.cursor in
    let there : (d : Core) → OnLine c.cursor d.cursor → Reaches s d.cursor =
    λ d o. reaches_on s c.cursor d.cursor a o.apart in
    walked_then (Premises b) P (Behind c) s (block.pass_dash c) remove_key
    (walked_then (Premises b) _ P s (separate c) block.refuse_tab (separate_walked b s c (λ _. a))
    (λ x g. by_test (found_tabs x.0 && block.is_dash_next x.1) _ _ (Walked (Premises b) P s)
    (λ _ _. at_reach s x.1.cursor (there x.1 g.1))
    (λ _. by_test (is_break (slice_index x.1.cursor.rest 0) || is_flow (slice_index x.1.cursor.rest 0)) _ _ P
    (λ _. (g.0, g.1)) (λ _. (g.0, g.1)))))
    (λ d g. by_test (in_block d && d.required) _ _ (Walked (Premises b) (Behind c) s)
    (λ _ _. at_reach s d.cursor (there d g.1))
    (λ e. (
      (
        ap (λ (l : Level). record { context = l.context; key = None }) g.0.0,
        g.0.1,
        g.0.2,
        cc (ap (λ (l : Level). is_block l.context) g.0.0, g.0.3),
      ),
      g.1,
      cc (ap (λ (l : Level). is_block l.context) g.0.0, g.0.3),
    )))

-- from c, which comes before the `-`, at the column of its collection, which may have begun
dash : {A : Type 0} (g : Begun) (c d : Core) → (A → c.cursor.mark.line < top) → slice_index c.cursor.rest 0 ≡ hyphen
    → is_blank_or_breakz (slice_index c.cursor.rest 1) ≡ true → in_block c ≡ true → c.key_allowed ≡ true
    → IsAtColumn c.indent c.cursor.mark
    → Same (forget_key c) d → d.key_allowed ≡ true → OnLine (pass 1 c.cursor) d.cursor
    → ((p : Span) → IsTrue (may_follow g tokens.BlockEntry p))
    → DoesWithin A (with_begun g (enclosures_of c)) (enclosures_of d) None 1 1 (forget_key c) d
    (at_mark d.cursor.mark tokens.BlockEntry ∷ [])
dash g c d small first second b allowed column s free o follows =
    let r : Core = forget_key c in
    let u = d.cursor in
    let later = apart_later (pass 1 c.cursor).mark (pass 1 c.cursor).rest u.mark u.rest o.apart in
    and_then (λ n. n) (loud (with_begun g (enclosures_of c)) 1 r (empty_piece u.mark tokens.BlockEntry) u (λ x. refl)
    (rw (follows (empty_piece u.mark tokens.BlockEntry).span) refl) (λ i. absurd (cc)) refl refl (λ a. (
      (λ _. (allowed, ap (λ (m : Marker). m.line) o.on_line.4, small a)),
      (λ _ _. tt),
      plain_fronts (empty_piece u.mark tokens.BlockEntry) r (freed (with_cursor u r)) refl,
    )) b refl
    (indicated 45 r u (empty_piece u.mark tokens.BlockEntry) (record { some = refl; unbroken = refl; is = first })
    o.apart (omega (arith, later.index)) (omega arith) (omega arith)
    (λ t _ _. (t, ap is_blank_or_breakz (second_is c.cursor.rest) ∙ second, o.on_line, refl, column))))
    (further (freed (with_cursor u r)) d s (taken.nothing u.mark u.rest)
    (λ _. allows_right (freed (with_cursor u r)) d (λ _. refl) (λ _. free)
    (entry_closed (freed (with_cursor u r)) d
    (block_no_pair d.level.context (ap (λ (l : Level). is_block l.context) s.0 ∙ b)))))

-- where no block collection begins the innermost is at this column
at_column : (i column : ℕ) (b : Bool) → b ≡ true → (b && nat_le i column) ≡ false → i ≤ column + 1 → i ≡ column + 1
at_column i column b e f deep = grind arith

-- A dash puts the token of an entry. If it is right of the indentation, a sequence begins at its column, whose start
-- is put first (`block_begins`). Otherwise the innermost block collection is at its column (`at_column`). In both
-- cases a candidate key is forgotten on the way.
next_entry_does : (c : Core) → in_block c ≡ true → c.key_allowed ≡ true → IsDeep c
    → slice_index c.cursor.rest 0 ≡ hyphen → is_blank_or_breakz (slice_index c.cursor.rest 1) ≡ true
    → Walked (Premises c) (Doing None c) c.cursor (block.next_entry c)
unfolding block.next_entry
next_entry_does c e allowed deep first second =
    let s = c.cursor in
    let a = passes 45 s (record { some = refl; unbroken = refl; is = first }) in
    by_bool (is_further s.mark.col c)
    (λ b. Walked (Premises c) (Doing None c) s
    ((block.pass_dash (if b then enter_block s.mark.col (pass_on 1 c) else pass_on 1 c) >>= remove_key) >>= λ d.
    completed_step (block.behind_start b s.mark tokens.BlockSequenceStart (at_mark d.cursor.mark tokens.BlockEntry))
    (record d { key_allowed = true })))
    (λ f. let r : Core = enter_block s.mark.col (pass_on 1 c) in
    walked_then (Premises c) (Behind r) (Doing None c) s (block.pass_dash r >>= remove_key) _ (dash_walked c s r a)
    (λ d g. at_most (omega arith) (and_then (λ n. n)
    (block_begins (enclosure_of c.level.context) c _ tokens.BlockSequenceStart place.BlockSequence sequence_starts
    allowed (λ a. a.2) (λ f. absurd (let no = g.2 in cc)) (λ f. absurd (cc)) e
    (further_right s.mark.col c f) (ap taken.begins_text first))
    (dash place.BlockSequence (enter_block s.mark.col c) (record d { key_allowed = true }) (λ a. a.2) first second e
    allowed refl g.0 refl g.1 (λ p. refl)))))
    (λ f. walked_then (Premises c) (Behind (pass_on 1 c)) (Doing None c) s
    (block.pass_dash (pass_on 1 c) >>= remove_key) _ (dash_walked c s (pass_on 1 c) a)
    (λ d g. at_most (omega arith) (and_then (λ n. n)
    (lesser (enclosures_of c) c (forget_key c) (record { block = refl; key = inr refl }) refl (λ n. n)
    (taken.nothing s.mark s.rest)
    (λ _. ((λ a. inl a), (λ r. r), entry_closed c (forget_key c) (block_no_pair c.level.context e)))
    (forget_requires c g.2))
    (dash place.Nothing c (record d { key_allowed = true }) (λ a. a.2) first second e allowed
    (at_column c.indent s.mark.col (in_block c) e f (deep e)) g.0 refl g.1 (λ p. refl)))))

-- a key may begin outside flow
pub allowed_in : (block allowed : Bool) → (block && not allowed) ≡ false → block ≡ true → allowed ≡ true
allowed_in block allowed e b = grind arith

pub block_entry_does : (c : Core) → IsDeep c → slice_index c.cursor.rest 0 ≡ hyphen
    → is_blank_or_breakz (slice_index c.cursor.rest 1) ≡ true
    → Walked (Premises c) (Doing None c) c.cursor (block.block_entry_steps c)
unfolding block.block_entry_steps
block_entry_does c deep first second = grind (arith, by_test, at_here, next_entry_does, not-false)

-- ## `?`

-- after what follows a `?`, where no key is left
abbrev Asked : Core → Core → Type 0
Asked c d = Same (forget_key c) d × AreApart (pass 1 c.cursor) d.cursor × (d.key_allowed ≡ in_block d)
    × ((in_block c && c.required) ≡ false)

question_walked : (A : Type 0) (c : Core) → Reaches c.cursor (pass 1 c.cursor)
    → Walked A (Asked c) c.cursor (remove_key c >>= λ d. block.pass_question (record d { key_allowed = in_block d }))
unfolding remove_key block.behind_mark
question_walked A c a =
    let t = spaces_at false (pass 1 c.cursor) in
    let p = spaces_apart false (pass 1 c.cursor) in
    let there = at_reach c.cursor t.cursor (reaches_on c.cursor (pass 1 c.cursor) t.cursor a p) in
    let P = Walked A (Asked c) c.cursor in
    by_test (in_block c && c.required) _ _
    (λ r. P (r >>= λ d. block.pass_question (record d { key_allowed = in_block d }))) (λ _ _. at_here c.cursor)
    (λ free. by_test (not t.space) _ _ P (λ _ _. there)
    (λ _. by_test (slice_index t.cursor.rest 0 == 9) _ _ P (λ _ _. there)
    (λ _. ((refl, refl, (λ n. n), refl), p, refl, free))))

-- what encloses the tokens after a `?`
question_encloses : (x : Context) (outside : Outside)
    → free (enclosure_of (behind_question x)) outside ≡ free (place.enclosure_behind_question (enclosure_of x)) outside
question_encloses x outside = grind arith

-- From c, which comes before the `?`, outside flow at the column of its mapping, which may have begun. The context
-- before was x.
question : {A : Type 0} (g : Begun) (x : Context) (c d : Core) → c.level.context ≡ behind_question x
    → c.level.key ≡ None → slice_index c.cursor.rest 0 ≡ question_mark
    → is_blank_or_breakz (slice_index c.cursor.rest 1) ≡ true
    → (in_block c ≡ true → IsAtColumn c.indent c.cursor.mark) → Same c d → AreApart (pass 1 c.cursor) d.cursor
    → d.key_allowed ≡ in_block d → ((p : Span) → IsTrue (may_follow g tokens.Key p))
    → DoesWithin A (with_begun g (free (enclosure_of x) (outside_of c))) (enclosures_of d) None 1 1 c d
    (up_to_here c.cursor.mark tokens.Key d ∷ [])
question g x c d turned none first second column s a allowed follows =
    let u = d.cursor in
    let within = with_begun g (free (enclosure_of x) (outside_of c)) in
    let later = apart_later (pass 1 c.cursor).mark (pass 1 c.cursor).rest u.mark u.rest a in
    let t : Piece = record { span = record { start = c.cursor.mark; end = u.mark }; kind = tokens.Key } in
    let some = has_some t.span (omega (arith, later.index)) in
    let behind : enclosures_of c ≡ enclosures_behind tokens.Key t.span within =
    cc (question_encloses x (outside_of c), marked (has_text t.span) some) in
    and_then (λ n. n) (encloses behind (quiet_within within 1 c t u c.level true refl none
    (record { quiet = refl; brackets = λ y. refl; depth = λ y. refl; no_node = refl }) none
    (λ _. rw (follows t.span, some) refl) (λ i. absurd (cc)) refl
    (plain_fronts t c (freed (with_cursor u c)) refl) (λ _ _ f. absurd (cc))
    (indicated 63 c u t (record { some = refl; unbroken = refl; is = first }) a (omega arith)
    (omega (arith, later.index)) (omega arith)
    (λ k _ _. inl (
      k,
      ap is_blank_or_breakz (second_is c.cursor.rest) ∙ second,
      refl,
      (u.rest, a),
      λ f. column (not-false (in_block c) f),
    )))))
    (further (freed (with_cursor u c)) d s (taken.nothing u.mark u.rest)
    (λ _. allows_right (freed (with_cursor u c)) d (λ _. refl) (λ e. allowed ∙ e)
    (entry_closed (freed (with_cursor u c)) d (ap begins_pair (ap (λ (l : Level). l.context) s.0 ∙ turned)
    ∙ question_no_pair x))))
  where
    marked : (b : Bool) → b ≡ true → (if b then turned_to (place.enclosure_behind_question (enclosure_of x))
        (free (enclosure_of x) (outside_of c)) else awaiting_colon c.cursor.mark
        (free (enclosure_of x) (outside_of c)))
        ≡ free (place.enclosure_behind_question (enclosure_of x)) (outside_of c)
    marked b e = grind arith

question_block : (x : Context) → is_block (behind_question x) ≡ is_block x
question_block x = grind arith

-- A question mark puts the token of a key, in the same two cases: a block mapping begins at its column, or none does,
-- outside flow because one is open there. In front of the token there may be nothing but a candidate that is forgotten
-- (`lesser`). Where no key may begin the mark is refused.
pub key_does : (c : Core) → IsDeep c → slice_index c.cursor.rest 0 ≡ question_mark
    → is_blank_or_breakz (slice_index c.cursor.rest 1) ≡ true
    → Walked (Premises c) (Doing None c) c.cursor (block.key_steps c)
unfolding block.key_steps block.begin_key
key_does c deep first second =
    let s = c.cursor in
    let x = behind_question c.level.context in
    let a = passes 63 s (record { some = refl; unbroken = refl; is = first }) in
    by_test (in_block c && not c.key_allowed) _ _ (Walked (Premises c) (Doing None c) s) (λ _ _. at_here s)
    (λ w. by_bool (is_further s.mark.col c)
    (λ b. Walked (Premises c) (Doing None c) s
    ((remove_key (with_context x (if b then enter_block s.mark.col c else c)) >>= λ d. block.pass_question
    (record d { key_allowed = in_block d })) >>= λ d. completed_step
    (block.behind_start b s.mark tokens.BlockMappingStart (up_to_here s.mark tokens.Key d)) d))
    (λ f. let r : Core = with_context x (enter_block s.mark.col c) in
    walked_then (Premises c) (Asked r) (Doing None c) s _ _ (question_walked (Premises c) r a)
    (λ d g. at_most (omega arith) (and_then (λ n. n)
    (block_begins (enclosure_of c.level.context) c _ tokens.BlockMappingStart place.BlockMapping mapping_starts
    (allowed_in (in_block c) c.key_allowed w (further_block s.mark.col c f)) (λ a. a.2)
    (λ yes. absurd (let no = same_free (in_block c) (in_block r) c.required (question_block c.level.context) g.3 in
    let b = further_block s.mark.col c f in cc)) (λ yes. absurd (let b = further_block s.mark.col c f in cc))
    (further_block s.mark.col c f) (further_right s.mark.col c f) (ap taken.begins_text first)) (and_then (λ n. n)
    (lesser (with_begun place.BlockMapping (enclosures_of (enter_block s.mark.col c)))
    (forget_key (enter_block s.mark.col c)) (forget_key r)
    (record { block = question_block c.level.context; key = inr refl }) refl (λ n. n) (taken.nothing s.mark s.rest)
    (λ _. (
      (λ a. inl a),
      (λ h b. h (sym (question_block c.level.context) ∙ b)),
      entry_closed _ (forget_key r) (question_no_pair c.level.context),
    ))
    (record { required = rw (question_block c.level.context) refl; key = λ _ _. refl }))
    (question place.BlockMapping c.level.context (forget_key r) d refl refl first second (λ _. refl) g.0 g.1 g.2
    (λ p. refl))))))
    (λ f. let r : Core = with_context x c in
    walked_then (Premises c) (Asked r) (Doing None c) s _ _ (question_walked (Premises c) r a)
    (λ d g. at_most (omega arith) (and_then (λ n. n)
    (lesser (enclosures_of c) c (forget_key r) (record { block = question_block c.level.context; key = inr refl }) refl
    (λ n. n) (taken.nothing s.mark s.rest)
    (λ _. (
      (λ a. inl a),
      (λ h b. h (sym (question_block c.level.context) ∙ b)),
      entry_closed c (forget_key r) (question_no_pair c.level.context),
    ))
    (record {
      required = (forget_requires r g.3).required;
      key = λ b. (forget_requires r g.3).key (question_block c.level.context ∙ b);
    }))
    (question place.Nothing c.level.context (forget_key r) d refl refl first second
    (λ e. let b = sym (question_block c.level.context) ∙ e in
    at_column c.indent s.mark.col (in_block c) b f (deep b)) g.0 g.1 g.2 (λ p. refl))))))
  where
    same_free : (b x r : Bool) → x ≡ b → (x && r) ≡ false → (b && r) ≡ false
    same_free b x r e f = rw e at f
