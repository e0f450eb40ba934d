-- A text and its normalized text (YAML 1.2.2, 5.4), read side by side: whether they are at places that are alike, and
-- whether a reader gives the same of both.
use Rattle.std.specs.Prelude.{◌≡◌, ℕ, Bool, false, List, drop, slice_index, Option, Some, None, Result, Ok, Err}
use Rattle.saphyr_input.specs.Breaks.{normalized}
use Rattle.saphyr_input.specs.Classes.{is_break}
use Rattle.saphyr_input.specs.declared.input.SkipTabs.{SkipTabs}
use Rattle.saphyr_scalar.specs.declared.scalar.position.Marker.{Marker}
use Rattle.saphyr_scalar.specs.declared.scalar.position.Span.{Span}
use Rattle.saphyr_scalar.specs.declared.scalar.fault.Refusal.{Refusal}
use Rattle.saphyr_scalar.specs.declared.values.Quote.{Quote}
use Rattle.saphyr_scalar.specs.declared.values.BlockStyle.{BlockStyle}
use Rattle.saphyr_scalar.specs.Views.Cursor.{Cursor, separation, pass_break, pass_comment, pass_byte_order_mark}
use Rattle.saphyr_scalar.specs.Steps.Quoted.{quoted}
use Rattle.saphyr_scalar.specs.Steps.Plain.{plain}
use Rattle.saphyr_scalar.specs.Steps.Block.{block_scalar}
use Rattle.saphyr_scalar.specs.Steps.Tag.{tag}
use Rattle.saphyr_scalar.specs.Steps.Anchor.{anchor}
use Rattle.saphyr_scalar.specs.Steps.Directive.{directive}
use Rattle.saphyr_scalar.specs.Spelling.Directive.{ReadDirective}

-- A place of the text and one of the normalized text: on the same line, in the same column, and what comes after the
-- first is, normalized, what comes after the second.
pub record AreMarksAlike (text : List ℕ) (m n : Marker) : Type 0 where
  pub line : m.line ≡ n.line
  pub col : m.col ≡ n.col
  pub rest : normalized (drop m.index text) ≡ drop n.index (normalized text)

-- a reader of the text and one of the normalized text that are at such places
pub record AreAlike (text : List ℕ) (s t : Cursor) : Type 0 where
  pub line : s.mark.line ≡ t.mark.line
  pub col : s.mark.col ≡ t.mark.col
  pub rest : normalized s.rest ≡ t.rest
  pub blank : s.blank_so_far ≡ t.blank_so_far
  pub here : drop s.mark.index text ≡ s.rest
  pub there : drop t.mark.index (normalized text) ≡ t.rest

-- Both give something, and what they give is in a relation, or both refuse for the same reason.
abbrev pub GiveAlike : {X : Type 0} → (X → X → Type 0) → Result X Refusal → Result X Refusal → Type 0
GiveAlike R (Ok x) (Ok y) = R x y
GiveAlike R (Err e) (Err f) = e.text ≡ f.text
GiveAlike R (Ok x) (Err f) = ⊥
GiveAlike R (Err e) (Ok y) = ⊥

-- the same thing, before places that are alike
abbrev pub AreSame : {X : Type 0} → List ℕ → X × Cursor → X × Cursor → Type 0
AreSame text x y = (x.0 ≡ y.0) × AreAlike text x.1 y.1

-- both places are told, or neither
abbrev pub AreNoted : List ℕ → Option Marker → Option Marker → Type 0
AreNoted text (Some m) (Some n) = AreMarksAlike text m n
AreNoted text None None = Unit {0}
AreNoted text (Some m) None = ⊥
AreNoted text None (Some n) = ⊥

-- plain scalars: the text, the place after the last word, a comment, and what comes after
abbrev pub ArePlainAlike : List ℕ → List ℕ × Marker × Option Marker × Cursor → List ℕ × Marker × Option Marker × Cursor
    → Type 0
ArePlainAlike text x y = (x.0 ≡ y.0) × AreMarksAlike text x.1 y.1 × AreNoted text x.2 y.2 × AreAlike text x.3 y.3

-- block scalars: the text, the span, and what comes after
abbrev pub AreBlocksAlike : List ℕ → List ℕ × Span × Cursor → List ℕ × Span × Cursor → Type 0
AreBlocksAlike text x y = (x.0 ≡ y.0) × AreMarksAlike text x.1.start y.1.start × AreMarksAlike text x.1.end y.1.end
    × AreAlike text x.2 y.2

-- tags: the handle, the suffix, and what comes after
abbrev pub AreTagsAlike : List ℕ → List ℕ × List ℕ × Cursor → List ℕ × List ℕ × Cursor → Type 0
AreTagsAlike text x y = (x.0 ≡ y.0) × (x.1 ≡ y.1) × AreAlike text x.2 y.2

-- directives: what one says, the place after it, and what comes after its line
abbrev pub AreDirectivesAlike : List ℕ → ReadDirective × Marker × Cursor → ReadDirective × Marker × Cursor → Type 0
AreDirectivesAlike text x y = (x.0 ≡ y.0) × AreMarksAlike text x.1 y.1 × AreAlike text x.2 y.2

-- What is at any place is read alike, and so is what begins with a character that is no break.
pub record ReadsAlike (text : List ℕ) (s t : Cursor) : Type 0 where
  pub separation : (tabs : SkipTabs) → GiveAlike (AreSame text) (separation tabs s) (separation tabs t)
  pub line_break : AreAlike text (pass_break s) (pass_break t)
  pub comment : AreAlike text (pass_comment s) (pass_comment t)
  pub plain : (in_flow : Bool) (indent : ℕ)
      → GiveAlike (ArePlainAlike text) (plain in_flow indent s) (plain in_flow indent t)
  pub byte_order_mark : is_break (slice_index s.rest 0) ≡ false
      → AreAlike text (pass_byte_order_mark s) (pass_byte_order_mark t)
  pub quoted : (quote : Quote) (indent : ℕ) → is_break (slice_index s.rest 0) ≡ false
      → GiveAlike (AreSame text) (quoted quote indent s) (quoted quote indent t)
  pub block_scalar : (style : BlockStyle) (indent : ℕ) → is_break (slice_index s.rest 0) ≡ false
      → GiveAlike (AreBlocksAlike text) (block_scalar style indent s) (block_scalar style indent t)
  pub tag : (in_flow : Bool) → is_break (slice_index s.rest 0) ≡ false
      → GiveAlike (AreTagsAlike text) (tag in_flow s) (tag in_flow t)
  pub anchor : is_break (slice_index s.rest 0) ≡ false → GiveAlike (AreSame text) (anchor s) (anchor t)
  pub directive : is_break (slice_index s.rest 0) ≡ false
      → GiveAlike (AreDirectivesAlike text) (directive s) (directive t)
