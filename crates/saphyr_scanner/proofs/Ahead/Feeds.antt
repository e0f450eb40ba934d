-- Behind a line feed and spaces, and behind spaces, the way to the next token goes on.
use Rattle.std.proofs.Common.{◌≡◌, ℕ, Bool, true, false, List, [], ◌∷◌, slice_index, Ok, Err, None, refl, sym, ap, ◌∙◌, arith}
use Rattle.std.specs.Prelude.{◌||◌, ◌&&◌, ◌==◌, ◌-◌, ◌^◌, not, if◌then◌else◌}
use Rattle.saphyr_input.specs.Classes.{is_blank, is_bom, is_break, is_yaml_non_break, is_z}
use Rattle.saphyr_input.specs.Indicators.{number_sign}
use Rattle.saphyr_scalar.specs.declared.scalar.position.Marker.{Marker}
use Rattle.saphyr_scalar.specs.declared.scalar.fault.Refusal.{Refusal}
use Rattle.saphyr_scalar.specs.Views.Cursor.{Cursor, ◌>>=◌, along, next_line, pass_break, pass_spaces}
use Rattle.saphyr_scanner.specs.Steps.Core.{Core, drop_far_key, in_block, is_too_far, least_column, with_key}
use Rattle.saphyr_scanner.specs.Steps.Fetch.{arrive}
use Rattle.saphyr_scanner.specs.Steps.Gap.{Gap, GapEnd, stop, end_of_gap, end_of_gap_in_comment, gap_at, is_tab_indentation}
use Rattle.saphyr_scanner.specs.Steps.Passing.{behind_gap, check_comment, pass_gap, with_cursor}
use Rattle.saphyr_scanner.specs.Steps.State.{State, with_core}
use Rattle.saphyr_scanner.specs.Views.Ahead.{behind_feed, fetched, may_begin}
use Rattle.saphyr_scanner.proofs.Gaps.{break_passed, spaces_passed}
use Rattle.saphyr_scanner.proofs.Ahead.RightHere.{no_gap}

-- a break was met
abbrev with_break : Gap → Gap
with_break g = record g { met = true }

either_way : (a : Bool) (x y u v : Gap) → x ≡ with_break u → y ≡ with_break v
    → (if a then x else y) ≡ with_break (if a then u else v)
either_way true x y u v d e = d
either_way false x y u v d e = e

mutual
  -- it is known from then on
  pub kept : (l : ℕ) (m : Marker) (blank broke tabbed : Bool) (t : List ℕ)
      → end_of_gap true l m blank true tabbed t ≡ with_break (end_of_gap true l m blank broke tabbed t)
  kept l m blank broke tabbed [] = refl
  kept l m blank broke tabbed (c ∷ cs) =
      either_way (is_blank c || ((c == 13) && (slice_index cs 0 == 10))) _ _ _ _
      (kept l (along m 1) blank broke (is_tab_indentation l m blank c || tabbed) cs)
      (either_way (is_break c) _ _ _ _ (kept l (next_line m 1) true true false cs)
      (either_way (c == number_sign) _ _ _ _ (kept_in_comment l (along m 1) blank broke tabbed cs) refl))

  kept_in_comment : (l : ℕ) (m : Marker) (blank broke tabbed : Bool) (t : List ℕ)
      → end_of_gap_in_comment true l m blank true tabbed t
      ≡ with_break (end_of_gap_in_comment true l m blank broke tabbed t)
  kept_in_comment l m blank broke tabbed [] = refl
  kept_in_comment l m blank broke tabbed (c ∷ cs) =
      either_way (is_yaml_non_break c) _ _ _ _ (kept_in_comment l (along m 1) blank broke tabbed cs)
      (either_way ((c == 13) && (slice_index cs 0 == 10)) _ _ _ _ (kept l (along m 1) blank broke tabbed cs)
      (either_way (is_break c) _ _ _ _ (kept l (next_line m 1) true true false cs) refl))

absorbed : (a b k : Bool) → ((true && b) || k) ≡ ((a && b) || (b || k))
absorbed true true k = refl
absorbed true false k = refl
absorbed false b k = refl

pub behind_break : (c : Core) (g : Gap)
    → (stop (with_break g) >>= λ p. check_comment (behind_gap c p))
    ≡ (stop g >>= λ p. check_comment (behind_gap (behind_feed c) p))
unfolding stop
behind_break c g = either (g.tabbed && is_bom (slice_index g.cursor.rest 0))
    (g.tabbed && not (is_z (slice_index g.cursor.rest 0))) _ _
  where
    either : (a b : Bool) (x y : Refusal)
        → ((if a then Err x else if b then Err y else Ok (let p : GapEnd = record { cursor = g.cursor; broke = true } in
        p)) >>= λ p. check_comment (behind_gap c p))
        ≡ ((if a then Err x else if b then Err y else Ok (let p : GapEnd = record { cursor = g.cursor; broke = g.met }
        in p)) >>= λ p. check_comment (behind_gap (behind_feed c) p))
    either true b x y = refl
    either false true x y = refl
    either false false x y =
        ap (λ (b : Bool). check_comment (record c { cursor = g.cursor; key_allowed = b }))
        (absorbed g.met (in_block c) c.key_allowed)

gap_fed : (c : Core) → slice_index c.cursor.rest 0 ≡ 10 → pass_gap c ≡ pass_gap (behind_feed c)
unfolding pass_gap
gap_fed c e =
    let l = least_column c in let s = c.cursor in let u : Cursor = pass_break s in
    let t : Cursor = (behind_feed c).cursor in
    let broken = break_passed true l false false s s u (gap_at true l false false s) (slice_index s.rest 0) refl refl
    refl (ap is_break e) refl in
    let passed = spaces_passed l _ true false u u t (gap_at true l false false s) refl refl broken in
    ap (λ (g : Gap). stop g >>= λ p. check_comment (behind_gap c p))
    (sym passed ∙ kept l t.mark t.blank_so_far false false t.rest)
    ∙ behind_break c (gap_at true l false false t)

pub fed_ahead : (s : State) → slice_index s.core.cursor.rest 0 ≡ 10
    → fetched (with_core (behind_feed s.core) s) ≡ fetched s
unfolding arrive
fed_ahead s e = rw (gap_fed s.core e) refl

gap_spaced : (c : Core) → pass_gap (with_cursor (pass_spaces (2 ^ 64 - 1) c.cursor) c) ≡ pass_gap c
unfolding pass_gap
gap_spaced c =
    let l = least_column c in let s = c.cursor in
    ap (λ (g : Gap). stop g >>= λ p. check_comment (behind_gap c p))
    (spaces_passed l _ false false s s (pass_spaces (2 ^ 64 - 1) s) (gap_at true l false false s) refl refl refl)

pub spaced_ahead : (s : State)
    → fetched (with_core (with_cursor (pass_spaces (2 ^ 64 - 1) s.core.cursor) s.core) s) ≡ fetched s
unfolding arrive
spaced_ahead s = rw (gap_spaced s.core) refl

-- a candidate that is too far is dropped where a token begins
pub dropped_ahead : (s : State) → may_begin (slice_index s.core.cursor.rest 0) ≡ true → s.core.comment ≡ None
    → (in_block s.core && is_too_far s.core.level.key s.core.cursor.mark) ≡ true → s.core.required ≡ false
    → fetched (with_core (with_key None s.core) s) ≡ fetched s
unfolding arrive drop_far_key
dropped_ahead s begins none far free = grind (arith, no_gap)
