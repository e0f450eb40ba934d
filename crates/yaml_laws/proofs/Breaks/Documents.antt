-- Document markers, directives, byte order marks and the end of the stream leave both scanners alike.
use Rattle.yaml_laws.proofs.Common.{Bool, Err, List, None, Ok, Result, [], ap, arith, false, length, refl, sym, true, ℕ, ◌+◌, ◌∷◌, ◌≡◌, nat_lt, not, slice_index, ◌&&◌, ◌==◌, ◌||◌, normalized, carriage_return, is_breakz, is_document_end, is_document_start, SkipTabs, Marker, Refusal, Cursor, along, pass, pass_byte_order_mark, ◌>>=◌, Kind, Core, in_block, separate, State, on_core_with, no_return, cursor_at, and_parts, eqb-true, along_more, Both, both_of, gives, refused, choose, choose_same, choose_first}
use Rattle.saphyr_scanner.specs.Grammar.Tokens as tokens
use Rattle.saphyr_scanner.specs.Steps.Document as document
use Rattle.yaml_laws.proofs.Breaks.Cores.{near_core, Anywhere, Laws, BeginsUnbroken, Unbroken, here, of_cores, remove_same, Separated, separate_same, and_read, twin_reads, twin_alike, twin_stands, twin_moves, going_to}
use Rattle.yaml_laws.proofs.Breaks.Normal.{normal_none}
use Rattle.yaml_laws.proofs.Breaks.Places.{reindexed, near, Ahead, ahead_ahead, ahead_stands, Stand, one_less, character_ahead}
use Rattle.yaml_laws.proofs.Breaks.Scalars.{Begins, begins_near, no_break_here}
use Rattle.yaml_laws.proofs.Breaks.States.{put_same, States, holding, AlikeStates, of_states, and_state, unroll_same, on_core_same, after_step_same}

-- ## The content of a document ends

content_same : {text : List ℕ} {P : Cursor → Type 0} → AlikeStates text P (States text P) document.end_content
unfolding document.end_content
content_same {text} {P} c x q r t e p =
    of_states (λ a b. Both (States text P) (document.remove_key_of a) (document.remove_key_of b))
    (unroll_same None c.cursor.mark (reindexed x.at c.cursor.mark) c x q r t e p)
    (λ d y u v w f h. on_core_same (remove_same d y w h) f)

-- ## The end of the stream

pub stream_same : {text : List ℕ} → AlikeStates text Anywhere (States text Anywhere) document.state_behind_end
unfolding document.state_behind_end document.end_at
stream_same {text} c x q r t e _ = choose_same (length c.cursor.rest == 0) (length (normalized c.cursor.rest) == 0)
    (sym (normal_none c.cursor.rest)) (λ _. choose c.required (λ _. refused) (λ _.
    let m = document.end_mark c.cursor.mark in
    let k = document.end_mark (reindexed x.at c.cursor.mark) in
    gives (of_states (λ s z. States text Anywhere (document.finish m s) (document.finish k z))
    (unroll_same {P = Anywhere} None m k c x q r t e tt)
    (λ d y u v w f _. (here (document.core_at_end d) y w tt, put_same _ _ refl f)))))
    (λ _. refused)

-- ## Document markers

-- three characters that are no CR
abbrev Three : List ℕ → Type 0
Three (a ∷ b ∷ c ∷ t) = ((a == 13) ≡ false) × ((b == 13) ≡ false) × ((c == 13) ≡ false)
Three _ = ⊥

three_marks : (x : ℕ) → (x == carriage_return) ≡ false → (0 == x) ≡ false → (t : List ℕ) (b : Bool)
    → ((slice_index t 0 == x) && (slice_index t 1 == x) && (slice_index t 2 == x) && b) ≡ true → Three t
three_marks x k z t b e = grind (arith, and_parts, eqb-true)

three_near : (i : ℕ) (t : List ℕ) (m : Marker) (b : Bool) → Three t
    → pass 3 (near i (cursor_at t m b)) ≡ near (i + 3) (pass 3 (cursor_at t m b))
three_near i t m b k = grind arith

three_ahead : (text : List ℕ) (i : ℕ) (t : List ℕ) (m : Marker) (b : Bool) → Three t → Stand text (cursor_at t m b) i
    → Ahead text (cursor_at t m b) i (pass 3 (cursor_at t m b)) (i + 3)
three_ahead text i [] m b k h = absurd k
three_ahead text i (c ∷ []) m b k h = absurd k
three_ahead text i (c ∷ d ∷ []) m b k h = absurd k
three_ahead text i (c ∷ d ∷ f ∷ t) m b k h =
    let s = cursor_at (c ∷ d ∷ f ∷ t) m b in
    let one = character_ahead text c (d ∷ f ∷ t) m i b b k.0 h in
    let two = character_ahead text d (f ∷ t) (along m 1) (i + 1) b b k.1 (ahead_stands text _ _ _ _ one) in
    let three = character_ahead text f t (along (along m 1) 1) (i + 1 + 1) b false k.2
    (ahead_stands text _ _ _ _ two) in
    let all = ahead_ahead text _ _ _ _ _ _ one (ahead_ahead text _ _ _ _ _ _ two three) in
    let p : along (along (along m 1) 1) 1 ≡ along m 3 = cc (
      along_more m 1 1 2 (omega arith),
      along_more m 2 1 3 (omega arith),
    ) in
    let q : i + 1 + 1 + 1 ≡ i + 3 = omega arith in rw (p, q) at all

abbrev AtThree : Cursor → Type 0
AtThree s = Three s.rest

marker_same : {text : List ℕ} (kind : Kind)
    → AlikeStates text AtThree (States text Anywhere) (document.state_behind_marker kind)
unfolding document.state_behind_marker
marker_same {text} kind c x q r t e three = and_state {P = AtThree} _ _ (content_same c x q r t e three)
    (λ d y u v w f k. let s = d.cursor in gives (
      record {
        at = going_to (y.at + 3) y;
        is = cc (three_near y.at s.rest s.mark s.blank_so_far k);
        twin = twin_moves d y (pass 3 s) (y.at + 3) w
            (three_ahead text y.at s.rest s.mark s.blank_so_far k (twin_stands d y w));
        here = tt;
      },
      put_same _ _ refl f,
    ))

pub start_marker_same : {text : List ℕ} → AlikeStates text (λ s. is_document_start s.rest ≡ true)
    (States text Anywhere) (document.state_behind_marker tokens.DocumentStart)
start_marker_same c x q r t e k = search (marker_same, three_marks)

behind_marker_same : {text : List ℕ} → Laws text → AlikeStates text Anywhere (States text Anywhere)
    (λ s. on_core_with (separate s.core) s >>= document.end_line)
unfolding document.end_line
behind_marker_same {text} laws c x q r t e _ =
    by (separate c) (separate (near_core x c)) (separate_same laws c x t tt)
  where
    by : (a b : Result (SkipTabs × Core) Refusal) → Both (Separated text) a b
        → Both (States text Anywhere) (on_core_with a (holding c q) >>= document.end_line)
        (on_core_with b (holding (near_core x c) r) >>= document.end_line)
    by (Ok a) (Ok b) h = of_cores (λ d k. Both (States text Anywhere) (document.end_line (a.0, holding d q))
        (document.end_line (b.0, holding k r))) h.are.1
        (λ d y u _. choose_first is_breakz refl (twin_alike d y u) (λ _. gives (here d y u tt, e)) (λ _. refused))
    by (Ok a) (Err f) h = absurd h.are
    by (Err d) (Ok b) h = absurd h.are
    by (Err d) (Err f) h = both_of h.are

pub end_marker_same : {text : List ℕ} → Laws text → AlikeStates text (λ s. is_document_end s.rest ≡ true)
    (States text Anywhere) document.state_behind_document_end
unfolding document.state_behind_document_end
end_marker_same laws c x q r t e k =
    let behind = λ (s : State). on_core_with (separate s.core) s >>= document.end_line in
    and_state {P = Anywhere} behind behind
    (marker_same tokens.DocumentEnd c x q r t e (three_marks 46 refl refl c.cursor.rest _ k)) (behind_marker_same laws)

-- ## Byte order marks

bom_near : (i : ℕ) (t : List ℕ) (m : Marker) (b : Bool) → BeginsUnbroken t
    → pass_byte_order_mark (near i (cursor_at t m b)) ≡ near (i + 1) (pass_byte_order_mark (cursor_at t m b))
bom_near i t m b k = grind arith

bom_ahead : (text : List ℕ) (i : ℕ) (t : List ℕ) (m : Marker) (b : Bool) → BeginsUnbroken t
    → Stand text (cursor_at t m b) i → Ahead text (cursor_at t m b) i (pass_byte_order_mark (cursor_at t m b)) (i + 1)
bom_ahead text i t m b h k = grind (arith, no_return, one_less)

pub byte_order_mark_same : {text : List ℕ}
    → AlikeStates text Unbroken (States text Anywhere) document.state_behind_byte_order_mark
unfolding document.state_behind_byte_order_mark
byte_order_mark_same {text} c x q r t e unbroken =
    choose (nat_lt 0 c.cursor.mark.col || not (in_block c)) (λ _. refused)
    (λ _. and_state {P = Unbroken} _ _ (content_same c x q r t e unbroken) (λ d y u v w f i. let s = d.cursor in gives (
      record {
        at = going_to (y.at + 1) y;
        is = cc (bom_near y.at s.rest s.mark s.blank_so_far i);
        twin = twin_moves d y (pass_byte_order_mark s) (y.at + 1) w
            (bom_ahead text y.at s.rest s.mark s.blank_so_far i (twin_stands d y w));
        here = tt;
      },
      put_same _ _ refl f,
    )))

-- ## Directives

pub directive_same : {text : List ℕ} → Laws text → AlikeStates text (Begins 37) (States text Anywhere)
    document.state_behind_directive
unfolding document.state_behind_directive document.read_directive
directive_same {text} laws c x q r t e begins = and_state {P = Begins 37} _ _ (content_same c x q r t e begins)
    (λ d y u v w f b. let s = d.cursor in after_step_same (and_read (λ a. a.2) _ _ laws d y w
    (both_of ((twin_reads d y laws w).directive (no_break_here 37 s refl b)))
    (λ a k. laws.forward.directive s a b k)
    (λ a k. laws.forward.directive (near y.at s) a (begins_near 37 y.at s refl b) k) (λ a o z. z.2)
    (λ a o z h. gives (
      grind (arith, of_cores, here),
      (ap document.directive_kind z.0, tt),
    ))) f)
