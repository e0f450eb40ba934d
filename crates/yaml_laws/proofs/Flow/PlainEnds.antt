-- What comes after a node in flow style ends a plain scalar.
use Rattle.std.proofs.Common.{◌≡◌, ◌≢◌, ℕ, ◌<◌, ◌≤◌, Bool, true, false, List, [], ◌∷◌, ◌++◌, slice_index, refl, sym, ap, ◌∙◌, arith, subst, IsTrue, ◌⊎◌, inl, inr}
use Rattle.yaml_laws.proofs.Common.{AreIn, Cursor, ◌||◌, ◌&&◌, ◌==◌, if◌then◌else◌, false≢true, nat_tests, colon, number_sign, is_blank, is_break, is_blank_or_breakz, is_flow, carriage_return, is_bom, is_blank_or_break, Marker, along, next_line, past_white, StopsPlain, EndsPlain, Node, allows_adjacent}
use Rattle.saphyr_scalar.specs.Steps.Plain.{is_in_word, ends_line}
use Rattle.yaml_laws.proofs.Flow.States.{past, moved, IsContentStart, EndsDocument, IsLeft, ends_colon, EndsNode, IsBehindNode, IsBehindRoot}
use Rattle.yaml_laws.proofs.Flow.GapSteps.{past_content, no_left}
use Rattle.yaml_laws.proofs.InFlow.States.{Around}
use Rattle.yaml_laws.proofs.InFlow.Tabs.{lands_on_content, tabs_behind_low, broke_or_right}
use Rattle.yaml_laws.proofs.Flow.Fillers.{white_past, separation_past}
use Rattle.yaml_laws.proofs.Flow.Ends.{EndsHere, behind_node_first, root_first}
use Rattle.yaml_laws.proofs.Flow.Quotes.{ends_node_content}
use Rattle.yaml_laws.proofs.Flow.KeyPieces.{blanks_lands}
use Rattle.yaml_laws.proofs.Flow.Plains.{white_blanks}
use Rattle.yaml_laws.proofs.Flow.ContentStarts.{bom_is, colon_content}

-- ## After the blanks and breaks

abbrev StopsWhite : List ℕ → Type 0
StopsWhite [] = Unit {0}
StopsWhite (c ∷ cs) = is_blank_or_break c ≡ false

white_stops : (m : Marker) (b : Bool) (t : List ℕ) → StopsWhite (past_white m b t).rest
white_stops m b [] = tt
white_stops m b (c ∷ cs) =
    grind (arith, white_stops (if ends_line c cs then next_line m 1 else along m 1) (b || is_break c) cs)

-- the end, a comment, or the next token
abbrev Reaches : ℕ → Marker → List ℕ → Marker → List ℕ → Type 0
Reaches column m o n r = (r ≡ []) ⊎ ((slice_index r 0 ≡ 35) ⊎ ((n ≡ (past column m o).0) × (r ≡ (past column m o).1)))

reaches : (column : ℕ) (m : Marker) (o : List ℕ) → is_blank (slice_index (past column m o).1 0) ≡ false
    → Reaches column m o (past_white m false o).mark (past_white m false o).rest
reaches column m o past_blanks = by_rest (past_white m false o).mark (past_white m false o).rest (white_stops m false o)
    (white_past column m false o past_blanks)
  where
    no_blank : (c : ℕ) → is_blank_or_break c ≡ false → is_blank c ≡ false
    no_blank c h = grind (arith, nat_tests)

    no_break : (c : ℕ) → is_blank_or_break c ≡ false → is_break c ≡ false
    no_break c h = grind (arith, nat_tests)

    no_return : (c : ℕ) → is_blank_or_break c ≡ false → (c == carriage_return) ≡ false
    no_return c h = grind (arith, nat_tests)

    sign : (c : ℕ) → (c == number_sign) ≡ true → c ≡ number_sign
    sign c e = grind (arith, nat_tests)

    by_sign : (n : Marker) (c : ℕ) (cs : List ℕ) (is : Bool) → (c == number_sign) ≡ is → is_blank_or_break c ≡ false
        → past column n (c ∷ cs) ≡ past column m o → Reaches column m o n (c ∷ cs)
    by_sign n c cs true e h k = inr (inl (sign c e))
    by_sign n c cs false e h k =
        let still : past column n (c ∷ cs) ≡ (n, c ∷ cs) =
        rw (no_left column n c (no_blank c h), no_blank c h, no_break c h, e, no_return c h) refl in
        let same : ◌≡◌ {A = Marker × List ℕ} (n, c ∷ cs) (past column m o) = sym still ∙ k in
        inr (inr (ap (λ (p : Marker × List ℕ). p.0) same, ap (λ (p : Marker × List ℕ). p.1) same))

    by_rest : (n : Marker) (r : List ℕ) → StopsWhite r → past column n r ≡ past column m o → Reaches column m o n r
    by_rest n [] h e = inl refl
    by_rest n (c ∷ cs) h e = by_sign n c cs (c == 35) refl h e

-- ## Where no word goes on

no_word : (f : Bool) (t : List ℕ) → t ≡ [] → is_in_word f t ≡ false
unfolding is_in_word
no_word f t e = rw e refl

mark_no_word : (t : List ℕ) → IsTrue (is_bom (slice_index t 0)) → is_in_word false t ≡ false
unfolding is_in_word
mark_no_word t h = rw (bom_is (slice_index t 0) h) refl

colon_ends : (c : ℕ) → IsTrue (ends_colon c) → (is_blank_or_breakz c || (true && is_flow c)) ≡ true
colon_ends c h = grind (arith, nat_tests)

colon_stops : (others : List ℕ) → IsTrue (ends_colon (slice_index others 0)) → is_in_word true (colon ∷ others) ≡ false
unfolding is_in_word
colon_stops others h = rw (colon_ends (slice_index others 0) h) refl

-- a node that lets no value come right after its colon
abbrev pub ParsColon : Node → Type 0
ParsColon node = (w : List ℕ) → allows_adjacent node w ≡ false

word_stops : (node : Node) (w : List ℕ) (c : ℕ) (others : List ℕ) → ParsColon node → EndsNode node w c others
    → is_in_word true (c ∷ others) ≡ false
unfolding is_in_word
word_stops node w c others h k = grind (arith, colon_stops)

-- ## Ends

ends_no_sign : (node : Node) (c : ℕ) → EndsHere node c → c ≢ number_sign
ends_no_sign node c h e = grind arith

pub ends_in_flow : (around : Around) (node : Node) (m : Marker) (o : List ℕ) → ParsColon node
    → IsBehindNode around.indent node o → around.indent ≤ m.col → EndsPlain true around.column m o
ends_in_flow around node m o apart h right =
    record {
      stops = stops (reaches around.indent m o past_blanks);
      apart = ends_no_sign node (slice_index o 0) (behind_node_first around.indent node o h);
      tabs = tabs_behind_low around.column around.indent around.low m m false o past_blanks;
    }
  where
    content : IsContentStart h.first
    content = (ends_node_content node h.separation h.others h.first h.ends).0

    lands : past around.indent m o ≡ (moved m h.separation, h.first ∷ h.others)
    lands =
        cc (
          separation_past around.indent m h.separation (h.first ∷ h.others) h.parts right,
          past_content around.indent (moved m h.separation) h.first h.others content,
        )

    past_blanks : is_blank (slice_index (past around.indent m o).1 0) ≡ false
    past_blanks = simp (lands, content.blank)

    stops : Reaches around.indent m o (past_white m false o).mark (past_white m false o).rest
        → StopsPlain true around.column (past_white m false o)
    stops (inl e) = inl (no_word true (past_white m false o).rest e)
    stops (inr (inl e)) = inr (inl e)
    stops (inr (inr e)) = inl (rw (e.1, lands) (word_stops node h.separation h.first h.others apart h.ends))

blanks_apart : (w r : List ℕ) → AreIn is_blank w → slice_index (w ++ (colon ∷ r)) 0 ≢ number_sign
blanks_apart [] r are e = absurd (omega (arith, e))
blanks_apart (c ∷ cs) r are e = grind arith

-- before the colon of a key
pub ends_at_colon : (around : Around) (m : Marker) (o w r : List ℕ) → o ≡ w ++ (colon ∷ r) → AreIn is_blank w
    → is_blank_or_breakz (slice_index r 0) ≡ true → around.indent ≤ m.col → EndsPlain false around.column m o
unfolding is_in_word
ends_at_colon around m o w r is are white right =
    record {
      stops = inl (ap (λ (u : Cursor). is_in_word false u.rest) (ap (past_white m false) is
          ∙ white_blanks m w 58 r are colon_content) ∙ (rw white refl));
      apart = rw is (blanks_apart w r are);
      tabs = tabs_behind_low around.column around.indent around.low m m false o
          (ap (λ (z : Marker × List ℕ). is_blank (slice_index z.1 0)) (blanks_lands around.indent m o w 58 r is are
          colon_content right));
    }

-- outside flow
pub ends_at_root : (around : Around) (m : Marker) (o : List ℕ) → IsBehindRoot around m o → around.indent ≤ m.col
    → EndsPlain false around.column m o
ends_at_root around m o h right =
    record {
      stops = stops (reaches around.indent m o past_blanks) (h.lands right);
      apart = (λ e. absurd (false≢true (rw e at (root_first around m o h))));
      tabs = tabs_behind_low around.column around.indent around.low m m false o past_blanks;
    }
  where
    past_blanks : is_blank (slice_index (past around.indent m o).1 0) ≡ false
    past_blanks = lands_on_content around.column (past around.indent m o).0 (past around.indent m o).1 (h.lands right)

    low : (a b c : ℕ) → a ≤ b → b < c → c ≤ a → ⊥
    low a b c h k g = absurd (omega (arith, h, k, g))

    broke : (n : Marker) → n ≡ (past around.indent m o).0 → (past around.indent m o).0.col < around.column
        → ((past_white m false o).blank_so_far ≡ true) ⊎ (m.col ≤ n.col) → IsTrue (past_white m false o).blank_so_far
    broke n e left h = grind arith

    stops : Reaches around.indent m o (past_white m false o).mark (past_white m false o).rest
        → EndsDocument (past around.indent m o).0 (past around.indent m o).1
        ⊎ IsLeft around.column (past around.indent m o).0 (past around.indent m o).1
        → StopsPlain false around.column (past_white m false o)
    stops (inl e) k = inl (no_word false (past_white m false o).rest e)
    stops (inr (inl e)) k = inr (inl e)
    stops (inr (inr e)) (inl (inl k)) = inl (no_word false (past_white m false o).rest (e.1 ∙ k))
    stops (inr (inr e)) (inl (inr (col, inl k))) = inr (inr (inl (cc, rw e.1 k)))
    stops (inr (inr e)) (inl (inr (col, inr k))) = inl (rw e.1 (mark_no_word (past around.indent m o).1 k))
    stops (inr (inr e)) (inr k) =
        inr (inr (inr (
          refl,
          broke (past_white m false o).mark e.0 k.left (broke_or_right m o),
          subst
              (λ (z : Marker). z.col < around.column) (sym e.0) k.left,
        )))
