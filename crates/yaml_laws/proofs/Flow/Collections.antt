-- Collections in brackets and braces, given the run over what is inside them.
pub mod Runs
use Rattle.yaml_laws.proofs.Common.{AreIn, clash, colon, ◌≡◌, ℕ, ◌<◌, ◌≤◌, Bool, true, false, List, [], ◌∷◌, ◌++◌, length, Ok, refl, sym, ap, ◌∙◌, subst, append_assoc, arith, Option, None, list_all, is_blank, SkipTabs, Yes, Marker, Cursor, along, separation, cursor_at, IsSeparation, Context, Kind, Piece, Place, bare_place, Core, Candidate, Level, is_block, behind_entry, ends_pair, close_collection, State, most_open, le_next, true≢false, begins_sequence, begins_mapping, level_of, Some, ◌&&◌}
use Rattle.saphyr_scanner.specs.declared.engine.level.Context.TheVariants as context
use Rattle.saphyr_scanner.specs.Grammar.Tokens as tokens
use Rattle.saphyr_scanner.specs.Steps.Flow as flow
use Rattle.saphyr_scanner.specs.Steps.Fetch.{step}
use Rattle.yaml_laws.proofs.InFlow.States.{Around, core_at, state_at, Calm, FlowMoment, moment_in, Ready, arrived, close_collection_gives, closed, moment_with}
use Rattle.yaml_laws.proofs.Flow.States.{crosses, Fits, IsFresh, keeping, moved, past, IsParted, IsBehindRoot, Known, PassesPiece, ended, StandsBefore, after, IsAfterNode, after_node, TextPasses}
use Rattle.yaml_laws.proofs.Flow.Places.{moved_append, right_one}
use Rattle.yaml_laws.proofs.Flow.GapSteps.{past_content, less_on, past_low}
use Rattle.yaml_laws.proofs.Flow.Fillers.{rest_past, blanks_past}
use Rattle.yaml_laws.proofs.Flow.Separates.{separates, separates_rest, blanks_separated}
use Rattle.yaml_laws.proofs.Flow.Joins.{join, separation_joins, step_passes}
use Rattle.yaml_laws.proofs.Flow.Brackets.{IsTokenMark, open_passes, pending, token_mark, closed_collection, mark_begins, mark_kinds, mark_moved, mark_places, mark_puts, one_on}
use Rattle.yaml_laws.proofs.InBlock.Crossings.{fresh_in_flow, line_rest_crosses}
use Rattle.yaml_laws.proofs.Flow.Pieces.{EndsEntry, parted_by}
use Rattle.yaml_laws.proofs.Flow.KeyPieces.{cut_front, cut_back, fits_reach, fits_below, fits_clear, held_behind}
use Rattle.yaml_laws.proofs.InFlow.OnLine.{separation_of_blanks}
use Rattle.yaml_laws.proofs.InBlock.Skips.{blanks_cross}
use Rattle.yaml_laws.proofs.Flow.ContentStarts.{StartsContent, colon_content, is_start, starts}
use Rattle.std.proofs.Common.{IsTrue, cond, slice_index}
use Rattle.yaml_laws.proofs.Flow.Tokens.{arrives, step_comes, within_index}
use Rattle.saphyr_scanner.specs.Steps.Flow.{behind_pair}
use Rattle.saphyr_scanner.specs.Steps.Core.{from_to}

-- ## After the closing bracket

-- what blanks and a comment after a bracket at m give
pub record EndsAt (indent : ℕ) (x : Context) (m : Marker) (o : List ℕ) : Type 0 where
  pub found : SkipTabs
  pub there : Cursor
  pub is : separation Yes (cursor_at o (along m 1) false) ≡ Ok (found, there)
  pub lands : past indent there.mark there.rest ≡ past indent (along m 1) o
  pub fresh : IsFresh x o false there

pub ends_inside : (indent : ℕ) (x : Context) (m : Marker) (o : List ℕ) → is_block x ≡ false → IsParted indent o
    → indent ≤ m.col → EndsAt indent x m o
ends_inside indent x m o flow h right =
    let p = separates indent (cursor_at o (along m 1) false) h.separation h.first h.others h.is h.parts
    (le_next indent m.col right) h.ends in
    record {
      found = p.found;
      there = p.there;
      is = p.is;
      lands = p.lands;
      fresh = fresh_in_flow x o false p.there flow;
    }

pub ends_root : (around : Around) (m e : Marker) (o : List ℕ) → IsBehindRoot around e o → around.indent ≤ m.col
    → EndsAt around.indent context.Block m o
ends_root around m e o h right =
    let p = separates_rest (cursor_at o (along m 1) false) h.rest h.more h.is h.line h.break in
    record {
      found = p.0;
      there = record { rest = h.more; mark = moved (along m 1) h.rest; blank_so_far = false };
      is = p.1;
      lands = grind (arith, rest_past, le_next);
      fresh = λ _ e. line_rest_crosses h.rest h.more h.line h.break (ap crosses (sym h.is) ∙ e);
    }

-- before the colon of a key
pub ends_key : (indent : ℕ) (m : Marker) (o w r : List ℕ) → o ≡ w ++ (colon ∷ r) → AreIn is_blank w → indent ≤ m.col
    → EndsAt indent context.Block m o
ends_key indent m o w r is are right =
    let p = separates indent (cursor_at o (along m 1) false) w 58 r is (separation_of_blanks indent w are)
    (le_next indent m.col right) colon_content in
    record {
      found = p.found;
      there = p.there;
      is = p.is;
      lands = p.lands;
      fresh = λ _ e. absurd (clash (crosses o) e (ap crosses is ∙ blanks_cross w (58 ∷ r) are));
    }

-- ## The brackets and what is inside

-- The run over something inside brackets of the context inner. A pair that has no bracket of its own is open after it,
-- and ends with what comes after.
pub record InsidePasses (around : Around) (start : Bool → State) (inner : Context) (Is : List Kind → Type 0)
    (ls : List Level) (ps : List Place) (m : Marker) (o : List ℕ) : Type 0 where
  pub inside : Context
  pub flows : is_block inside ≡ false
  pub back : behind_entry inside ≡ inner
  pub tokens : List Kind
  pub are : Is (tokens ++ pending (ends_pair inside))
  pub passes : PassesPiece around start (ended around.indent m o) inside ls ps m o tokens

-- a kind of collection: its brackets and their tokens
pub record Brackets : Type 0 where
  pub context : Context
  pub opening : ℕ
  pub closing : ℕ
  pub opens : Kind
  pub closes : Kind

pub record AreBrackets (b : Brackets) : Type 0 where
  pub flows : is_block b.context ≡ false
  pub back : behind_entry b.context ≡ b.context
  pub none : ends_pair b.context ≡ false
  pub ends : EndsEntry b.closing
  pub start : is_start b.opening ≡ true
  pub closing_mark : IsTokenMark b.closing
  pub begins : (second i : ℕ) (c : Core) → step b.opening second i c ≡ flow.opening_steps b.context b.opens i c
  pub shuts : (around : Around) (z : Context) → is_block z ≡ false → behind_entry z ≡ b.context → (second i : ℕ)
      (d : Bool) (now : FlowMoment) → step b.closing second i (core_at around d (moment_in z now))
      ≡ close_collection (ends_pair z) b.closes (core_at around d (moment_in z now))

abbrev pub square : Brackets
square = record {
  context = context.FlowSequence;
  opening = 91;
  closing = 93;
  opens = tokens.FlowSequenceStart;
  closes = tokens.FlowSequenceEnd;
}

abbrev pub curly : Brackets
curly = record {
  context = context.FlowMapping;
  opening = 123;
  closing = 125;
  opens = tokens.FlowMappingStart;
  closes = tokens.FlowMappingEnd;
}

shuts_square : (around : Around) (z : Context) → is_block z ≡ false → behind_entry z ≡ context.FlowSequence
    → (second i : ℕ) (d : Bool) (now : FlowMoment) → step 93 second i (core_at around d (moment_in z now))
    ≡ close_collection (ends_pair z) tokens.FlowSequenceEnd (core_at around d (moment_in z now))
unfolding step flow.closing_steps
shuts_square around context.Block e back second i d now = absurd (true≢false e)
shuts_square around context.FlowSequence e back second i d now = refl
shuts_square around context.FlowMapping e back second i d now = refl
shuts_square around context.FlowPair e back second i d now = refl
shuts_square around context.ExplicitFlowPair e back second i d now = refl
shuts_square around context.MarkedFlowPair e back second i d now = refl

shuts_curly : (around : Around) (z : Context) → is_block z ≡ false → behind_entry z ≡ context.FlowMapping
    → (second i : ℕ) (d : Bool) (now : FlowMoment) → step 125 second i (core_at around d (moment_in z now))
    ≡ close_collection (ends_pair z) tokens.FlowMappingEnd (core_at around d (moment_in z now))
unfolding step flow.closing_steps
shuts_curly around context.Block e back second i d now = absurd (true≢false e)
shuts_curly around context.FlowSequence e back second i d now = absurd (cc)
shuts_curly around context.FlowMapping e back second i d now = refl
shuts_curly around context.FlowPair e back second i d now = absurd (cc)
shuts_curly around context.ExplicitFlowPair e back second i d now = absurd (cc)
shuts_curly around context.MarkedFlowPair e back second i d now = absurd (cc)

pub are_square : AreBrackets square
are_square = grind (arith, begins_sequence, shuts_square)

pub are_curly : AreBrackets curly
are_curly = grind (arith, begins_mapping, shuts_curly)

-- ## The closing bracket

all_blank : (w : List ℕ) → IsTrue (list_all is_blank w) → AreIn is_blank w
all_blank [] h = tt
all_blank (c ∷ cs) h = by_first (is_blank c) (list_all is_blank cs) refl h (λ k. all_blank cs k)
  where
    by_first : (p q : Bool) → is_blank c ≡ p → IsTrue (p && q) → (IsTrue q → AreIn is_blank cs)
        → AreIn is_blank (c ∷ cs)
    by_first p q e h f = grind arith

-- what blanks after a token give is one place
one_place : (indent : ℕ) (s : Cursor) (found : SkipTabs) (there : Cursor) → separation Yes s ≡ Ok (found, there)
    → (w more : List ℕ) → s.rest ≡ w ++ (58 ∷ more) → indent ≤ s.mark.col → IsTrue (list_all is_blank w)
    → there.mark ≡ moved s.mark w
one_place indent s found there is w more text right blank =
    (blanks_separated indent s found there is w 58 more text (all_blank w blank) right colon_content).1

either : (b : Bool) (n k bound : ℕ) → n ≤ bound → k ≤ bound → cond b n k ≤ bound
either b n k bound h g = grind arith

one_behind : (indent : ℕ) (m : Marker) (c : ℕ) (o : List ℕ) (ad : ℕ) → ad ≤ m.index
    → ad ≤ (past indent (moved m (c ∷ [])) o).0.index
one_behind indent m c o ad low = grind (arith, one_on, past_low, moved)

-- A closing bracket is read at level `level_of x j`, and the scanner is back in x, with the key j of that level. So
-- what was known of the key before the collection is known again. A key that is held outside flow stays so, since
-- blanks alone are behind the bracket on the key's line (`held_behind`). They also tell the place where a colon may
-- come at once.
close_passes : (around : Around) (b : Brackets) → AreBrackets b → (y : Context) → is_block y ≡ false
    → behind_entry y ≡ b.context → (m : Marker) (o : List ℕ) (x : Context) → Fits around x m (b.closing ∷ []) o
    → around.indent ≤ m.col → EndsAt around.indent x m o → (j : Option Candidate) (ls : List Level) (now : FlowMoment)
    → ((k : Candidate) → around.held ≡ Some k → is_block x ≡ true → j ≡ Some k) → Calm around x
    → now.adjacent ≤ m.index → StandsBefore around now m (b.closing ∷ o)
    → PassesPiece around (state_at around (record now { context = y; outer = level_of x j ∷ ls }))
    (closed_collection around.indent x j (moved m (b.closing ∷ [])) o) x ls now.places (moved m (b.closing ∷ [])) o
    (pending (ends_pair y) ++ b.closes ∷ [])
close_passes around b are y flows back m o x fits right ended j ls now held_key calm before text =
    let ends = ends_pair y in
    let kind = b.closes in
    let ch = b.closing in
    let mark = are.closing_mark in
    let there = ended.there in
    let inside : FlowMoment = record now { context = y; outer = level_of x j ∷ ls } in
    let v = arrives around inside m (ch ∷ o) (text ∙ past_content around.indent m ch o
    mark.content) mark.content.blank (mark_begins m ch o mark (fits_clear fits)) flows right in
    let stepped = λ (d : Bool). are.shuts around y flows back (slice_index o 0) (length now.places) d (arrived v)
    ∙ close_collection_gives ends kind ch o m v.blank around d (arrived v) x j ls ended.found there ended.is flows
    calm in
    let below = fits_below fits in
    let new = mark_places ends m there.mark kind in
    let next = closed x j ls there now in
    let end = right_one around.indent m ch mark.feed right in
    let on = le_next around.indent m.col right in
    let keeps = held_behind m (ch ∷ []) o fits end j there false held_key (λ _ w c cs o_is are content _.
    let near = blanks_separated around.indent (cursor_at o (along m 1) false) ended.found there ended.is w c cs
    o_is are on content in (
      refl,
      record {
        white = [];
        are = tt;
        rest = near.0;
        mark = near.1 ∙ ap (λ (n : Marker). moved n w) (mark_moved m ch mark);
        right = rw near.1 (blanks_past around.indent w are (along m 1) on).right;
      },
    )) in
    let came = step_comes around (state_at around inside) inside m (ch ∷ o) v None (moment_with new next)
    (behind_pair ends m (from_to m there.mark kind)) (λ d. d) stepped (mark_puts ends now.places m there.mark kind)
    (within_index around.indent around.limit there (along m 1) o ended.lands (omega (arith, below))) keeps.0 in
    step_passes next new (moved m (ch ∷ [])) o (pending ends ++ kind ∷ [])
    (closed_collection around.indent x j (moved m (ch ∷ [])) o) came
    end (cc ended.lands) ended.fresh (keeps.1 came.key came.stays)
    (mark_kinds ends m there.mark kind) (record {
      keeps = came.same;
      kept = came.kept;
      near = λ e w more text parts blank.
          rw e (cc (one_place around.indent (cursor_at o (along m 1) false) ended.found there ended.is w more
          text on blank));
      low = grind (arith, either, past, moved, one_behind, mark_moved, past_low);
    })

-- ## All

-- the text from the opening bracket to the closing one
abbrev pub bracket_text : Brackets → List ℕ → List ℕ → List ℕ
bracket_text b w inside = (b.opening ∷ w) ++ (inside ++ (b.closing ∷ []))

-- the run over what is inside, wherever the opening bracket leads
abbrev pub RunsInside : Around → (List Kind → Type 0) → Brackets → Context → List Level → Marker → List ℕ → List ℕ
    → Type 0
RunsInside around Is b x ls m inside o =
    (j : Option Candidate) (now : FlowMoment) → now.key ≡ None → now.allowed ≡ true → now.adjacent < m.index
    → around.indent ≤ m.col → StandsBefore around now m (inside ++ (b.closing ∷ o))
    → InsidePasses around (state_at around (record now { context = b.context; outer = level_of x j ∷ ls })) b.context Is
    (level_of x j ∷ ls) now.places (moved m inside) (b.closing ∷ o)

-- the tokens of a collection, without its properties
abbrev pub AreBracketed : Brackets → (List Kind → Type 0) → List Kind → Type 0
AreBracketed b Is ts = (inside : List Kind) × Is inside × (ts ≡ b.opens ∷ (inside ++ b.closes ∷ []))

-- a token of its own is the first, and no colon may come at once from n on
abbrev starts_with : Piece → ℕ → Known
starts_with piece n key allowed adjacent new = ((others : List Place) × (new ≡ bare_place piece ∷ others))
    × (adjacent ≤ n)

all_kinds : (opens closes : Kind) (ts ends : List Kind)
    → ((opens ∷ []) ++ ts) ++ (ends ++ closes ∷ []) ≡ opens ∷ ((ts ++ ends) ++ closes ∷ [])
all_kinds opens closes ts ends = cc (append_assoc ts ends (closes ∷ []))

-- Three runs are joined: over the opening bracket with separation behind it, over what is inside (`run`), and over the
-- closing bracket. The second begins where a key may and none is kept. The third closes a pair that what is inside left
-- open, so its token is among those inside. The first gives the piece that a key would begin with, and the key; the
-- third gives the place where a colon may come at once.
pub brackets_pass : (around : Around) (Is : List Kind → Type 0) (b : Brackets) → AreBrackets b
    → (m : Marker) (w inside o : List ℕ) (now : FlowMoment) → Fits around now.context m (bracket_text b w inside) o
    → ((z : List ℕ) → StartsContent (inside ++ (b.closing ∷ z))) → IsSeparation around.indent w
    → length now.outer < most_open
    → Calm around now.context → now.adjacent ≤ m.index → (start : Bool → State)
    → Ready around start now m (bracket_text b w inside ++ o)
    → (around.indent ≤ (moved (moved m (b.opening ∷ w)) inside).col
    → EndsAt around.indent now.context (moved (moved m (b.opening ∷ w)) inside) o)
    → RunsInside around Is b now.context now.outer (moved m (b.opening ∷ w)) inside o
    → TextPasses around start now (AreBracketed b Is) (list_all is_blank) m (bracket_text b w inside) o
brackets_pass around Is b are m w inside o now fits content parts low calm before start ready ends run =
    let close = b.closing ∷ [] in
    let follow : (inside ++ close) ++ o ≡ inside ++ (b.closing ∷ o) = append_assoc inside close o in
    let first : Fits around now.context m (b.opening ∷ []) (w ++ (inside ++ (b.closing ∷ o))) =
    rw follow at (cut_front m (b.opening ∷ []) w (inside ++ close) o (content []) parts fits) in
    let mark = token_mark b.opening are.start in
    let right = fits_reach m (b.opening ∷ []) (w ++ (inside ++ (b.closing ∷ o)))
    (starts b.opening [] (b.opening ∷ []) refl are.start) (right_one around.indent m b.opening mark.feed) first in
    let here = moved m (b.opening ∷ w) in
    let texts = append_assoc (b.opening ∷ w) (inside ++ close) o ∙ ap (λ (t : List ℕ). b.opening ∷ (w ++ t)) follow in
    let opened = open_passes around b.context are.flows b.opens b.opening mark are.begins m
    (w ++ (inside ++ (b.closing ∷ o))) now first right
    (parted_by around.indent w (inside ++ (b.closing ∷ o)) parts (content o)) low calm before start
    (rw texts at ready) in
    let j = opened.0 in
    let p = separation_joins (moved m (b.opening ∷ [])) w (inside ++ (b.closing ∷ o)) parts opened.2 in
    let r = run j (after p) p.knows.0.0 p.knows.0.1
    (less_on p.adjacent (moved m (b.opening ∷ [])) w p.knows.0.2) p.right p.fits in
    let closing_fits = cut_back here inside close o r.passes.right
    (cut_back m (b.opening ∷ w) (inside ++ close) o p.right fits) in
    let piece = p.knows.1.0 in
    let at_end = moved here inside in
    let first_ended : r.passes.adjacent ≤ at_end.index = grind (arith, past_content) in
    let q = join p r.passes (starts_with piece at_end.index)
    ((r.passes.new, ap (λ (z : List Place). z ++ r.passes.new) p.knows.1.1), first_ended) in
    let c = close_passes around b are r.inside r.flows r.back at_end o now.context closing_fits r.passes.right
    (ends r.passes.right) j now.outer (after q) opened.4 calm q.knows.1 q.fits in
    let end = moved at_end close in
    let kept = keeping now m (bracket_text b w inside) in
    let known : IsAfterNode around.indent now.context kept (list_all is_blank) end o c.key c.adjacent (q.new ++ c.new) =
    record {
      piece = piece;
      others = q.knows.0.0 ++ c.new;
      is = ap (λ (z : List Place). z ++ c.new) q.knows.0.1;
      keeps = λ e. c.knows.keeps e ∙ opened.1 e;
      since = opened.3 (bracket_text b w inside) c.key c.knows.kept;
      near = c.knows.near;
      low = c.knows.low;
    } in
    let all = join q c (after_node around.indent now.context kept (list_all is_blank) end o) known in
    let place = sym (moved_append m (b.opening ∷ w) (inside ++ close) ∙ moved_append here inside close) in
    let inner = r.tokens ++ pending (ends_pair r.inside) in
    record {
      tokens = b.opens ∷ (inner ++ b.closes ∷ []);
      are = (inner, r.are, refl);
      comment = None;
      none = λ _. refl;
      passes = subst (λ (e : Marker). PassesPiece around start
          (after_node around.indent now.context kept (list_all is_blank) e o) now.context
          now.outer now.places e o (b.opens ∷ (inner ++ b.closes ∷ []))) place
          (subst (λ (ts : List Kind). PassesPiece around start
          (after_node around.indent now.context kept (list_all is_blank) end o)
          now.context now.outer now.places end o ts)
          (all_kinds b.opens b.closes r.tokens (pending (ends_pair r.inside))) all);
    }
