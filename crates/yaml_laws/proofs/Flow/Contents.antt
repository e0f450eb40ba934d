-- The content of a scalar in flow style is passed, after its properties or without any.
use Rattle.std.proofs.Common.{◌≡◌, ℕ, ◌≤◌, false, List, [], ◌∷◌, ◌++◌, slice_index, refl, sym, ap, subst, ◌∙◌, ◌⊎◌, inl, inr, Bool, true, arith, IsTrue}
use Rattle.yaml_laws.proofs.Common.{◌==◌, not, None, Some, AreIn, Candidate, Cursor, State, is_blank, is_tabbed, past_white, nat_tests, is_blank_or_breakz, apostrophe, colon, Marker, Quote, Single, Double, IsSeparation, scalar_token, is_block, Style, Plain, SingleQuoted, DoubleQuoted, Literal, Folded, Properties, Node, Scalar, plain_value, IsPlainKey, IsQuoted, IsFlowScalar, EndsPlain, Context, allows_adjacent, quote_style, mid_line}
use Rattle.yaml_laws.proofs.InFlow.States.{Around, FlowMoment, Ready}
use Rattle.yaml_laws.proofs.Flow.States.{moved, past, Fits, fits_free, fits_key, IsClear, ReaderPromises, after_node, keeping, Follows, follows_inside, follows_outside, follows_key, IsLow, TextPasses}
use Rattle.yaml_laws.proofs.Flow.KeyPieces.{fits_clear, fits_reach, key_line, unheld_so}
use Rattle.yaml_laws.proofs.Flow.ContentStarts.{Begins, plain_key_begins, scalar_begins}
use Rattle.yaml_laws.proofs.Flow.Fillers.{separation_past}
use Rattle.yaml_laws.proofs.Flow.Joins.{knowing, token_node}
use Rattle.yaml_laws.proofs.Flow.Ends.{EndsHere, behind_node_first, root_first}
use Rattle.yaml_laws.proofs.Flow.Quotes.{EndsQuotes, key_ends_quotes, quote_first, flow_ends_quotes, root_ends_quotes, quoted_passes}
use Rattle.yaml_laws.proofs.Flow.PlainEnds.{ParsColon, ends_at_colon, ends_in_flow, ends_at_root}
use Rattle.yaml_laws.proofs.Flow.Plains.{PassesPlain, plain_comment, content_comment, no_comment, white_blanks, plain_passes, plain_key_passes}
use Rattle.yaml_laws.proofs.Flow.Words.{plain_right, key_right}
use Rattle.yaml_laws.proofs.Flow.Quoted.{quoted_right}

-- ## Quotes

white_apart : (c : ℕ) → IsTrue (is_blank_or_breakz c) → (c == apostrophe) ≡ false
white_apart c h = grind (arith, nat_tests)

node_apart : (node : Node) (c : ℕ) → EndsHere node c → (c == apostrophe) ≡ false
node_apart node c h = grind arith

-- the place of the next token, where that is a colon
colon_place : (indent : ℕ) (m : Marker) (o separation more : List ℕ) → o ≡ separation ++ (colon ∷ more)
    → IsSeparation indent separation → indent ≤ m.col → (past indent m o).0.index ≡ (moved m separation).index
colon_place indent m o separation more is parts right = grind (arith, separation_past)

same_low : (a b : ℕ) → a ≡ b → a ≤ b
same_low a b e = omega (arith, e)

-- ## What comes after

blanks_no_quote : (w r : List ℕ) → AreIn is_blank w → (slice_index (w ++ (colon ∷ r)) 0 == apostrophe) ≡ false
blanks_no_quote [] r are = refl
blanks_no_quote (c ∷ cs) r are = grind arith

follows_apart : (around : Around) (x : Context) (node : Node) (m : Marker) (o : List ℕ) → Follows around x node m o
    → (slice_index o 0 == apostrophe) ≡ false
follows_apart around x node m o (follows_inside flow behind) =
    node_apart node (slice_index o 0) (behind_node_first around.indent node o behind)
follows_apart around x node m o (follows_outside is behind) =
    white_apart (slice_index o 0) (root_first around m o behind)
follows_apart around x node m o (follows_key k held block w r is are before white) = rw is (blanks_no_quote w r are)

follows_quotes : (around : Around) (start : Marker) (x : Context) (node : Node) (m : Marker) (o : List ℕ)
    → Follows around x node m o → around.indent ≤ m.col
    → (is_block x ≡ true → (k : Candidate) → around.held ≡ Some k → start.line ≡ m.line)
    → EndsQuotes around start (mid_line m o) x
follows_quotes around start x node m o (follows_inside flow behind) right line =
    flow_ends_quotes around node start m o x flow behind right
follows_quotes around start x node m o (follows_outside is behind) right line =
    rw is (root_ends_quotes around start m o behind right)
follows_quotes around start x node m o (follows_key k held block w r is are before white) right line =
    rw block (key_ends_quotes around start m o w r is are right (line (ap is_block block) k held))

follows_plain : (around : Around) (x : Context) (node : Node) (m : Marker) (o : List ℕ) → ParsColon node
    → Follows around x node m o → around.indent ≤ m.col → EndsPlain (not (is_block x)) around.column m o
follows_plain around x node m o apart (follows_inside flow behind) right =
    rw flow (ends_in_flow around node m o apart behind right)
follows_plain around x node m o apart (follows_outside is behind) right = rw is (ends_at_root around m o behind right)
follows_plain around x node m o apart (follows_key k held block w r is are before white) right =
    rw block (ends_at_colon around m o w r is are white right)

-- ## Scalars

-- what is shown of the content of a scalar, wherever it is
abbrev pub PassesContent : Around → Node → Style → List ℕ → List ℕ → List ℕ → Marker → FlowMoment → Type 0
PassesContent around node style value t o m now =
    Fits around now.context m t o → Follows around now.context node (moved m t) o → IsLow now.context now.adjacent m
    → (start : Bool → State) → Ready around start now m (t ++ o)
    → TextPasses around start now (λ ts. ts ≡ scalar_token style value ∷ []) (allows_adjacent node) m t o

quotes_pass : ReaderPromises → (around : Around) (node : Node) (quote : Quote) (value t o : List ℕ) (m : Marker)
    (now : FlowMoment) → IsQuoted quote around.indent value t
    → PassesContent around node (quote_style quote) value t o m now
quotes_pass reads around node quote value t o m now h fits follows low start ready =
    let end = moved m t in
    let right = fits_reach m t o (subst Begins (sym h.5) (quote_first quote h.0))
    (quoted_right around.indent quote m value t o h (fits_clear fits)) fits in
    let q = quoted_passes reads around quote value t o m h now fits
    (follows_apart around now.context node end o follows)
    (follows_quotes around m now.context node end o follows right (key_line m t o fits)) start ready in
    record {
      tokens = scalar_token (quote_style quote) value ∷ [];
      are = refl;
      comment = None;
      none = λ _. refl;
      passes = grind (arith, knowing, after_node, keeping, colon_place, same_low, past);
    }

-- no comment ends a plain scalar inside flow, or one that is a key
plain_alone : {around : Around} (now : FlowMoment) (m : Marker) (t o : List ℕ) → Fits around now.context m t o
    → (is_block now.context ≡ false) ⊎ ((k : Candidate) × (around.held ≡ Some k))
    → plain_comment around now m t o ≡ None
plain_alone {around} now m t o (fits_free (inl flow) f) h =
    no_comment (not (is_block now.context)) (is_tabbed around.column o) (past_white (moved m t) false o) (ap not flow)
plain_alone {around} now m t o (fits_free (inr none) f) (inl flow) =
    no_comment (not (is_block now.context)) (is_tabbed around.column o) (past_white (moved m t) false o) (ap not flow)
plain_alone now m t o (fits_free (inr none) f) (inr (k, held)) = absurd (unheld_so k none.1 held)
plain_alone {around} now m t o (fits_key block k held f) h =
    content_comment (not (is_block now.context)) (is_tabbed around.column o) (past_white (moved m t) false o) f.first
    f.others (ap (λ (u : Cursor). u.rest) (ap (past_white (moved m t) false) f.is
    ∙ white_blanks (moved m t) f.white f.first f.others f.are_white f.content)) f.content

-- a plain scalar, or a key before its colon
plains_pass : {around : Around} {p : Properties} {value t o : List ℕ} {m : Marker} {now : FlowMoment}
    → value ≡ plain_value t → PassesPlain around now m t o → Begins t
    → (IsClear m t o → around.indent ≤ m.col → around.indent ≤ (moved m t).col)
    → PassesContent around (Scalar p Plain value) Plain value t o m now
plains_pass {around} {p} {value} {t} {o} {m} {now} stands passes begins reaches fits follows low start ready =
    let node = Scalar p Plain value in
    let end = moved m t in
    let right = fits_reach m t o begins (reaches (fits_clear fits)) fits in
    let q = passes fits (follows_plain around now.context node end o (λ w. refl) follows right)
    (follows_quotes around m now.context node end o follows right (key_line m t o fits)).past_blanks low.1 start ready
    in
    record {
      tokens = scalar_token Plain (plain_value t) ∷ [];
      are = cc;
      comment = plain_comment around now m t o;
      none = plain_alone now m t o fits;
      passes = token_node now (allows_adjacent node) (λ w. refl) low.0 q q.knows.holds;
    }

pub key_content_passes : ReaderPromises → (around : Around) (p : Properties) (value t r : List ℕ) (m : Marker)
    (now : FlowMoment) → value ≡ plain_value t → IsPlainKey (not (is_block now.context)) around.indent t
    → PassesContent around (Scalar p Plain value) Plain value t (colon ∷ r) m now
key_content_passes reads around p value t r m now stands h =
    plains_pass stands (plain_key_passes reads around t r m now h)
    (plain_key_begins (not (is_block now.context)) around.indent t h)
    (key_right (not (is_block now.context)) around.indent m t r h)

pub content_passes : ReaderPromises → (around : Around) (p : Properties) (style : Style) (value t o : List ℕ)
    (m : Marker) (now : FlowMoment) → IsFlowScalar style value (not (is_block now.context)) around.indent t
    → PassesContent around (Scalar p style value) style value t o m now
content_passes reads around p Plain value t o m now h = plains_pass h.1 (plain_passes reads around t o m now h.0)
    (scalar_begins around.indent Plain value (not (is_block now.context)) t h)
    (plain_right (not (is_block now.context)) around.indent m t o h.0)
content_passes reads around p SingleQuoted value t o m now h =
    quotes_pass reads around (Scalar p SingleQuoted value) Single value t o m now h
content_passes reads around p DoubleQuoted value t o m now h =
    quotes_pass reads around (Scalar p DoubleQuoted value) Double value t o m now h
content_passes reads around p Literal value t o m now h = absurd h
content_passes reads around p Folded value t o m now h = absurd h
