-- Where no collection is open, no token is at a colon on the line of the content or the properties before it.
use Rattle.event_laws.proofs.Common.{◌≡◌, ◌<◌, ℕ, Bool, true, false, List, [], ◌∷◌, refl, sym, ap, ◌∙◌, ◌⊎◌, inl, inr, arith, Marker, Span, Kind, Surroundings, IsScalarToken, IsToken}
use Rattle.std.specs.Prelude.{IsTrue, slice_index}
use Rattle.std.proofs.lemmas.Bool.{and_parts}
use Rattle.saphyr_input.specs.Classes.{is_blank_or_breakz}
use Rattle.saphyr_input.specs.Indicators.{colon}
use Rattle.saphyr_scalar.specs.Views.Cursor.{Cursor}
use Rattle.saphyr_scalar.specs.declared.scalar.style.ScalarStyle.{ScalarStyle}
use Rattle.saphyr_scalar.specs.declared.scalar.style.ScalarStyle.TheVariants as style
use Rattle.saphyr_scanner.specs.Grammar.Tokens as tokens
use Rattle.saphyr_scanner.specs.TokensInPlace as place
use Rattle.saphyr_scanner.specs.TokensInPlace.{Begun, with_begun, fits, may_follow, may_stand}
use Rattle.saphyr_scanner.proofs.Effects.Properties.{tag_first}
use Rattle.saphyr_scanner.proofs.Taken.KeysInPlace.{no_text}
use Rattle.saphyr_scanner.proofs.Taken.JsonEnds.{empty}

-- properties or content of a node end on a line
abbrev pub EndOn : Begun → ℕ → Type 0
EndOn begun line = (begun ≡ place.Property line) ⊎ (begun ≡ place.Content line)

abbrev pub in_no_collection : Bool → Surroundings
in_no_collection ends_json = record { in_flow = false; indent = 0; ends_json = ends_json }

-- another character than the colon
other_first : (c : ℕ) (more t : List ℕ) → colon ∷ more ≡ c ∷ t → (colon ≡ c → ⊥) → ⊥
other_first c more t e f = f (ap (λ l. slice_index l 0) e)

scalar_elsewhere : (k : ScalarStyle) (b : Bool) (value : List ℕ) (span : Span) (s t : Cursor) (more : List ℕ)
    → s.rest ≡ colon ∷ more → IsTrue (is_blank_or_breakz (slice_index more 0))
    → IsScalarToken k (in_no_collection b) value span s t → ⊥
scalar_elsewhere style.Plain b value span s t more e blank h =
    let no = rw e at h.no_indicator in let f = no refl in cc
scalar_elsewhere style.SingleQuoted b value span s t more e blank h =
    other_first 39 more _ (sym e ∙ h.1.1) (λ x. omega (arith, x))
scalar_elsewhere style.DoubleQuoted b value span s t more e blank h =
    other_first 34 more _ (sym e ∙ h.1.1) (λ x. omega (arith, x))
scalar_elsewhere style.Literal b value span s t more e blank h =
    let x = ap (λ l. slice_index l 0) (sym e) ∙ h.1.begins in omega (arith, x)
scalar_elsewhere style.Folded b value span s t more e blank h =
    let x = ap (λ l. slice_index l 0) (sym e) ∙ h.1.begins in omega (arith, x)

no_block : (begun : Begun) (kind : Kind) (span : Span) (line : ℕ) → EndOn begun line → span.start.line ≡ line
    → (kind ≡ tokens.BlockSequenceStart) ⊎ (kind ≡ tokens.BlockMappingStart) → may_follow begun kind span ≡ true → ⊥
no_block begun kind span line g l k p = grind (arith, no_text)

-- No kind of token is there, which each case shows by what that kind asks of its place: the stream's start is at index
-- 0, a directive and a document marker are at column 0, and most others begin with another character than the colon. A
-- block collection can't begin behind what the line has, a mapping's start or end without text stands in flow alone,
-- and so does a value without an open mapping.
elsewhere : (g : Begun) (k : Kind) (b : Bool) (span : Span) (s t : Cursor) (more : List ℕ) → EndOn g s.mark.line
    → 0 < s.mark.index → 0 < s.mark.col → s.rest ≡ colon ∷ more → IsTrue (is_blank_or_breakz (slice_index more 0))
    → IsToken (in_no_collection b) k span s t → (may_follow g k span ≡ true) × (fits place.Block [] k span ≡ true) → ⊥
elsewhere g tokens.StreamStart b span s t more on at col e blank h p = let x = h.0 in omega (arith, x, at)
elsewhere g tokens.StreamEnd b span s t more on at col e blank h p = let x = h.0 in cc
elsewhere g (tokens.VersionDirective major minor) b span s t more on at col e blank h p =
    let x = h.3 in omega (arith, x, col)
elsewhere g (tokens.TagDirective handle prefix) b span s t more on at col e blank h p =
    let x = h.3 in omega (arith, x, col)
elsewhere g (tokens.ReservedDirective name) b span s t more on at col e blank h p = let x = h.3 in omega (arith, x, col)
elsewhere g tokens.DocumentStart b span s t more on at col e blank h p = let x = h.0 in omega (arith, x, col)
elsewhere g tokens.DocumentEnd b span s t more on at col e blank h p = let x = h.0 in omega (arith, x, col)
elsewhere g tokens.ByteOrderMark b span s t more on at col e blank h p = let x = h.at_start in omega (arith, x, col)
elsewhere g tokens.BlockSequenceStart b span s t more on at col e blank h p =
    no_block g _ span s.mark.line on (ap (λ (m : Marker). m.line) h.1) (inl refl) p.0
elsewhere g tokens.BlockMappingStart b span s t more on at col e blank h p =
    no_block g _ span s.mark.line on (ap (λ (m : Marker). m.line) h.1) (inr refl) p.0
elsewhere g tokens.BlockEnd b span s t more on at col e blank (h, first, inl x) p = omega (arith, x)
elsewhere g tokens.BlockEnd b span s t more on at col e blank (h, first, inr x) p = let y = x.0 in omega (arith, y)
elsewhere g tokens.FlowSequenceStart b span s t more on at col e blank h p =
    other_first 91 more _ (sym e ∙ h.0.0) (λ x. omega (arith, x))
elsewhere g tokens.FlowSequenceEnd b span s t more on at col e blank h p =
    other_first 93 more _ (sym e ∙ h.0.0) (λ x. omega (arith, x))
elsewhere g tokens.FlowMappingStart b span s t more on at col e blank (inl h) p =
    other_first 123 more _ (sym e ∙ h.0.0) (λ x. omega (arith, x))
elsewhere g tokens.FlowMappingStart b span s t more on at col e blank (inr h) p =
    let no = empty span h.0 in let x : false ≡ true = rw no at p.1 in cc
elsewhere g tokens.FlowMappingEnd b span s t more on at col e blank (inl h) p =
    other_first 125 more _ (sym e ∙ h.0.0) (λ x. omega (arith, x))
elsewhere g tokens.FlowMappingEnd b span s t more on at col e blank (inr h) p =
    let no = empty span h.0 in let x : false ≡ true = rw no at p.1 in cc
elsewhere g tokens.BlockEntry b span s t more on at col e blank h p =
    other_first 45 more _ (sym e ∙ h.0.0) (λ x. omega (arith, x))
elsewhere g tokens.FlowEntry b span s t more on at col e blank h p =
    other_first 44 more _ (sym e ∙ h.0.0) (λ x. omega (arith, x))
elsewhere g tokens.Key b span s t more on at col e blank (inl h) p =
    other_first 63 more _ (sym e ∙ h.0.0) (λ x. omega (arith, x))
elsewhere g tokens.Key b span s t more on at col e blank (inr h) p = let x = h.4 refl in omega (arith, x)
elsewhere g tokens.Value b span s t more on at col e blank h p = let x : false ≡ true = p.1 in cc
elsewhere g (tokens.Alias name) b span s t more on at col e blank h p =
    other_first 42 more _ (sym e ∙ h.3.is) (λ x. omega (arith, x))
elsewhere g (tokens.Anchor name) b span s t more on at col e blank h p =
    other_first 38 more _ (sym e ∙ h.3.is) (λ x. omega (arith, x))
elsewhere g (tokens.Tag handle suffix) b span s t more on at col e blank h p =
    let x = ap (λ l. slice_index l 0) (sym e ∙ h.6.is) ∙ tag_first h.0 t.rest h.1 h.2 h.3 in omega (arith, x)
elsewhere g (tokens.Scalar k value) b span s t more on at col e blank h p =
    scalar_elsewhere k b value span s t more e blank h

pub nothing_there : (g : Begun) (k : Kind) (span : Span) (b : Bool) (s t : Cursor) (more : List ℕ)
    → EndOn g s.mark.line → 0 < s.mark.index → 0 < s.mark.col → s.rest ≡ colon ∷ more
    → IsTrue (is_blank_or_breakz (slice_index more 0)) → IsTrue (may_stand (with_begun g place.not_enclosed) k span)
    → IsToken (in_no_collection b) k span s t → ⊥
nothing_there g k span b s t more on at col e blank p h =
    elsewhere g k b span s t more on at col e blank h (and_parts (may_follow g k span) (fits place.Block [] k span) p)
