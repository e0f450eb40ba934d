-- The quoted scalars of a text in flow style are passed.
use Rattle.std.proofs.Common.{◌≡◌, ℕ, ◌≤◌, Bool, true, false, List, [], ◌∷◌, ◌++◌, length, slice_index, Ok, refl, sym, ap, ◌∙◌, subst, encode_utf8_all, ◌⊎◌, inl, inr, arith}
use Rattle.yaml_laws.proofs.Common.{colon, eq-eqb, ◌||◌, ◌==◌, Option, None, is_blank, is_break, is_breakz, SkipTabs, Yes, Marker, Quote, Single, Double, Cursor, separation, mark, mid_line, Context, scalar_token, Style, Node, from_to, completed_step, AreIn, Candidate, State, is_block, IsQuoted, or_left, apostrophe, cursor_at, clash}
use Rattle.saphyr_scanner.specs.declared.engine.level.Context.TheVariants as context
use Rattle.saphyr_scanner.specs.Grammar.Tokens as tokens
use Rattle.saphyr_scanner.specs.Steps.Scalar as scalar
use Rattle.saphyr_scanner.specs.Steps.Scalar.{quote_style, behind_quotes, goes_on_behind_quotes}
use Rattle.saphyr_scanner.specs.Steps.Fetch.{step}
use Rattle.yaml_laws.proofs.InFlow.States.{Around, at_cursor, core_at, reach, reach_low, Placed, saves_key, FlowMoment, Ready, right_at}
use Rattle.yaml_laws.proofs.InFlow.Tabs.{lands_on_content}
use Rattle.yaml_laws.proofs.Flow.States.{moved, past, crosses, IsClear, IsContentStart, EndsNode, Fits, IsBehindNode, IsBehindRoot, ReaderPromises}
use Rattle.yaml_laws.proofs.Flow.KeyPieces.{blanks_lands, fits_clear, fits_reach}
use Rattle.yaml_laws.proofs.Flow.GapSteps.{past_again, past_content}
use Rattle.yaml_laws.proofs.InBlock.Skips.{blanks_cross}
use Rattle.yaml_laws.proofs.Flow.Fillers.{EndsLine, blanks_past, rest_past, separation_past}
use Rattle.yaml_laws.proofs.Flow.Tokens.{PassesGap, passes_gap, adjacent_at, passed, token_passes, PassesToken}
use Rattle.yaml_laws.proofs.Flow.Separates.{blanks_moved, blanks_separated, separates, separates_rest}
use Rattle.yaml_laws.proofs.InFlow.OnLine.{separation_of_blanks}
use Rattle.yaml_laws.proofs.Flow.Quoted.{quoted_read, quoted_right}
use Rattle.yaml_laws.proofs.InBlock.Crossings.{line_rest_crosses}
use Rattle.yaml_laws.proofs.Flow.ContentStarts.{Begins, colon_content, starts}

-- ## After the closing quote

-- what the scanner looks for after a scalar that began at `start` is there
pub record EndsQuotes (around : Around) (start : Marker) (s : Cursor) (x : Context) : Type 0 where
  pub found : SkipTabs
  pub there : Cursor
  pub is : separation Yes s ≡ Ok (found, there)
  pub lands : past around.indent there.mark there.rest ≡ past around.indent s.mark s.rest
  pub past_blanks : is_blank (slice_index (past around.indent s.mark s.rest).1 0) ≡ false
  pub stays : is_block x ≡ true → crosses s.rest ≡ true → crosses there.rest ≡ true
  pub goes : (d : Bool) (now : FlowMoment) → now.context ≡ x
      → goes_on_behind_quotes start (core_at around d (at_cursor there now)) ≡ true

abbrev ends_entry : ℕ → Bool
ends_entry c = is_breakz c || (c == 58) || (c == 44) || (c == 93) || (c == 125)

break_entry : (c : ℕ) → is_break c ≡ true → ends_entry c ≡ true
break_entry c e = rw e refl

goes_in_flow : (around : Around) (d : Bool) (start : Marker) (now : FlowMoment) → is_block now.context ≡ false
    → ends_entry (slice_index now.cursor.rest 0) ≡ true → goes_on_behind_quotes start (core_at around d now) ≡ true
unfolding goes_on_behind_quotes
goes_in_flow around d start now flow e = rw (flow, e) refl

pub ends_node_content : (node : Node) (w others : List ℕ) (c : ℕ) → EndsNode node w c others → IsContentStart c
    × (ends_entry c ≡ true)
ends_node_content node w others c (inl e) =
    rw e (record { blank = refl; break = refl; comment = refl; byte_order_mark = refl }, refl)
ends_node_content node w others c (inr (inl e)) =
    rw e (record { blank = refl; break = refl; comment = refl; byte_order_mark = refl }, refl)
ends_node_content node w others c (inr (inr (inl e))) =
    rw e (record { blank = refl; break = refl; comment = refl; byte_order_mark = refl }, refl)
ends_node_content node w others c (inr (inr (inr h))) =
    rw h.0 (record { blank = refl; break = refl; comment = refl; byte_order_mark = refl }, refl)

pub content_uncrossed : (c : ℕ) (cs : List ℕ) → IsContentStart c → crosses (c ∷ cs) ≡ false
content_uncrossed c cs h = grind arith

pub flow_ends_quotes : (around : Around) (node : Node) (start m : Marker) (o : List ℕ) (x : Context)
    → is_block x ≡ false → IsBehindNode around.indent node o → around.indent ≤ m.col
    → EndsQuotes around start (mid_line m o) x
flow_ends_quotes around node start m o x flow h right =
    let content = ends_node_content node h.separation h.others h.first h.ends in
    let p = separates around.indent (mid_line m o) h.separation h.first h.others h.is h.parts right content.0 in
    let reached = ap (past around.indent m) h.is
    ∙ separation_past around.indent m h.separation (h.first ∷ h.others) h.parts right
    ∙ past_content around.indent (moved m h.separation) h.first h.others content.0 in
    record {
      found = p.found;
      there = p.there;
      is = p.is;
      lands = p.lands;
      past_blanks = simp (reached, content.0.blank);
      stays = λ b _. absurd (clash (is_block x) b flow);
      goes = λ d now same. goes_in_flow around d start (at_cursor p.there now) (ap is_block same ∙ flow)
          (first p.there.rest content.1 p.ends);
    }
  where
    first : (rest : List ℕ) → ends_entry h.first ≡ true
        → (is_break (slice_index rest 0) ≡ true) ⊎ (rest ≡ h.first ∷ h.others) → ends_entry (slice_index rest 0) ≡ true
    first rest e (inl k) = break_entry (slice_index rest 0) k
    first rest e (inr k) = rw k e

pub root_ends_quotes : (around : Around) (start m : Marker) (o : List ℕ) → IsBehindRoot around m o
    → around.indent ≤ m.col → EndsQuotes around start (mid_line m o) context.Block
unfolding goes_on_behind_quotes
root_ends_quotes around start m o h right =
    let p = separates_rest (mid_line m o) h.rest h.more h.is h.line h.break in
    let there : Cursor = record { rest = h.more; mark = moved m h.rest; blank_so_far = false } in
    record {
      found = p.0;
      there = there;
      is = p.1;
      lands = sym (cc (rest_past around.indent m h.rest h.more h.line h.break right));
      past_blanks = lands_on_content around.column (past around.indent m o).0 (past around.indent m o).1
          (h.lands right);
      stays = λ _ e. line_rest_crosses h.rest h.more h.line h.break (ap crosses (sym h.is) ∙ e);
      goes = λ d now same. (rw same (or_left (is_breakz (slice_index (at_cursor there now).cursor.rest 0)) _ (first
          h.more h.break)));
    }
  where
    first : (more : List ℕ) → EndsLine more → is_breakz (slice_index more 0) ≡ true
    first more (inl e) = rw e refl
    first more (inr e) = rw e refl

pub key_ends_quotes : (around : Around) (start m : Marker) (o w r : List ℕ) → o ≡ w ++ (colon ∷ r) → AreIn is_blank w
    → around.indent ≤ m.col → start.line ≡ m.line → EndsQuotes around start (mid_line m o) context.Block
unfolding goes_on_behind_quotes
key_ends_quotes around start m o w r is are right line =
    let p = separates around.indent (mid_line m o) w 58 r is (separation_of_blanks around.indent w are) right
    colon_content in
    let near = p.near are in
    let lands = blanks_lands around.indent m o w 58 r is are colon_content right in
    record {
      found = p.found;
      there = p.there;
      is = p.is;
      lands = p.lands;
      past_blanks = ap (λ (z : Marker × List ℕ). is_blank (slice_index z.1 0)) lands;
      stays = λ _ e. absurd (clash (crosses o) e (ap crosses is ∙ blanks_cross w (58 ∷ r) are));
      goes = λ d now same. (rw (
        same,
        near.0,
        eq-eqb start.line (at_cursor p.there now).cursor.mark.line (line ∙ sym (ap
            (λ (n : Marker). n.line) (near.1 ∙ blanks_moved m w are))),
      ) refl);
    }

pub behind_step : (around : Around) (d : Bool) (start : Marker) (style : Style) (text : List ℕ) (now : FlowMoment)
    (m : Marker) (y : List ℕ) (p : EndsQuotes around start now.cursor now.context)
    (g : PassesGap around (at_cursor p.there now) m y)
    → behind_quotes start style text (core_at around d now)
    ≡ completed_step (from_to start p.there.mark (tokens.Scalar style text) ∷ [])
    (core_at around d (record now { cursor = cursor_at y m g.blank; allowed = g.allowed; adjacent = m.index }))
unfolding behind_quotes
behind_step around d start style text now m y p g = grind arith

-- ## The scalar

pub quoted_step : ReaderPromises → (around : Around) (d : Bool) (quote : Quote) (m : Marker) (b : Bool)
    (value t o : List ℕ) → IsQuoted quote around.indent value t → IsClear m t o
    → (slice_index o 0 == apostrophe) ≡ false → (now : FlowMoment) (k : Option Candidate) (a : Bool) (c : ℕ)
    → c ≡ mark quote → Placed around now.context a m → let here = right_at now (t ++ o) m b k a in
    step c (slice_index (t ++ o) 1) (length now.places) (core_at around d here)
    ≡ behind_quotes m (quote_style quote) (encode_utf8_all value)
    (core_at around d (passed here (mid_line (moved m t) o) false now.adjacent))
unfolding step scalar.quoted_steps
quoted_step reads around d Single m b value t o h clear ends now k a c first placed =
    let here = right_at now (t ++ o) m b k a in
    simp (
      first,
      saves_key (length now.places) around d here placed,
      quoted_read reads (reach around d) around.indent (reach_low around d) Single here.cursor value t o refl h clear
          ends,
    )
quoted_step reads around d Double m b value t o h clear ends now k a c first placed =
    let here = right_at now (t ++ o) m b k a in
    simp (
      first,
      saves_key (length now.places) around d here placed,
      quoted_read reads (reach around d) around.indent (reach_low around d) Double here.cursor value t o refl h clear
          ends,
    )

pub quote_first : (quote : Quote) (inside : List ℕ) → Begins (mark quote ∷ inside)
quote_first Single inside = starts 39 inside (39 ∷ inside) refl refl
quote_first Double inside = starts 34 inside (34 ∷ inside) refl refl

-- The scalar is one token (`token_passes`). Behind it the step reads what separates it from what is next on its line
-- (`p`), and goes on over the gap up to the next token (`g`): so a colon there is at the place where one may come at
-- once, and a break in the gap lets a key begin.
pub quoted_passes : ReaderPromises → (around : Around) (quote : Quote) (value t o : List ℕ) (m : Marker)
    → IsQuoted quote around.indent value t → (now : FlowMoment) → Fits around now.context m t o
    → (slice_index o 0 == apostrophe) ≡ false → EndsQuotes around m (mid_line (moved m t) o) now.context
    → (from : Bool → State) → Ready around from now m (t ++ o)
    → PassesToken around (adjacent_at (past around.indent (moved m t) o).0.index) from now m t o
    (scalar_token (quote_style quote) value)
quoted_passes reads around quote value t o m h now fits apart p from ready =
    let first = subst Begins (sym h.5) (quote_first quote h.0) in
    let at_first : slice_index (t ++ o) 0 ≡ mark quote = simp h.5 in
    let behind = past around.indent (moved m t) o in
    let clear = fits_clear fits in
    let right = fits_reach m t o first (quoted_right around.indent quote m value t o h clear) fits in
    token_passes around None (adjacent_at behind.0.index) (scalar_token (quote_style quote) value) t o m now fits right
    from ready (λ b j e placed. let read = passed (right_at now (t ++ o) m b j e) (mid_line (moved m t) o) false
    now.adjacent in
    let g = passes_gap around (at_cursor p.there read) behind.0 behind.1 p.lands p.past_blanks in
    record {
      there = cursor_at behind.1 behind.0 g.blank;
      end = p.there.mark;
      allowed = g.allowed;
      adjacent = behind.0.index;
      to = λ d. d;
      is = λ d. quoted_step reads around d quote m b value t o h clear apart now j e (slice_index (t ++ o) 0) at_first
          placed ∙ behind_step around d m (quote_style quote) (encode_utf8_all value) read behind.0 behind.1 p g;
      fits = past_again around.indent (moved m t) o;
      fresh = λ b e. or_left g.allowed (crosses behind.1) (g.fresh b (p.stays b e));
      line = λ block white c cs is are content right.
          let lands = blanks_lands around.indent (moved m t) o white c cs is are content right in
          let near = blanks_separated around.indent (mid_line (moved m t) o) p.found p.there p.is white c cs is are
          right content in (
            g.still (ap crosses near.0 ∙ content_uncrossed c cs content),
            record {
              white = [];
              are = tt;
              rest = ap (λ (z : Marker × List ℕ). z.1) lands;
              mark = ap (λ (z : Marker × List ℕ). z.0) lands;
              right = rw lands (blanks_past around.indent white are (moved m t) right).right;
            },
          );
      holds = refl;
    })
