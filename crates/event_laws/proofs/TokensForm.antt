-- Tokens that are taken from a text are well formed: what they hold is in UTF-8, and handles are handles.
use Rattle.event_laws.proofs.Common.{◌≡◌, ℕ, List, [], ◌∷◌, Option, sym, ap, ◌∙◌, ◌⊎◌, inl, inr, arith, Marker, Span, Refusal, ScalarStyle, Handle, Primary, Named, handle_text, handle_bytes, Tag, NonSpecific, Verbatim, Shorthand, Kind, tag_token, Piece, Collections, Surroundings, surroundings_in, IsScalarToken, IsToken, open_behind, AreTokens, IsEncoded, IsWellFormed, MayStandBefore, AreWellFormed}
use Rattle.std.specs.Prelude.{codes, encode_utf8_all}
use Rattle.saphyr_scalar.specs.declared.scalar.style.ScalarStyle.TheVariants as style
use Rattle.saphyr_scalar.specs.Views.Cursor.{Cursor}
use Rattle.saphyr_scalar.specs.Spelling.Tag.{IsHandleText, IsTagText}
use Rattle.saphyr_scanner.specs.Grammar.Tokens as tokens
use Rattle.event_laws.proofs.Refusing.{IsLastOr, AreEnded}
use Rattle.saphyr_scalar.proofs.Properties.TagsRead.{mark_bytes}

-- ## Handles and tags

-- a handle as it is written is that of a handle
handle_of : (text : List ℕ) → IsHandleText text → (h : Handle) × (text ≡ handle_text h)
handle_of text (inl e) = (Primary, e)
handle_of text (inr n) = (Named n.0, n.2)

with_bytes : (text bytes : List ℕ) → bytes ≡ encode_utf8_all text → IsHandleText text
    → (h : Handle) × (bytes ≡ handle_bytes h)
with_bytes text bytes e i =
    let h = handle_of text i in (h.0, e ∙ ap encode_utf8_all h.1)

as_token : (front back handle suffix : List ℕ) → front ≡ handle → back ≡ suffix
    → tokens.Tag front back ≡ tokens.Tag handle suffix
as_token front back handle suffix e f = cc

tag_of : (text handle suffix front back : List ℕ) → IsTagText text handle suffix → front ≡ encode_utf8_all handle
    → back ≡ encode_utf8_all suffix → (tag : Tag) × (tokens.Tag front back ≡ tag_token tag)
tag_of text handle suffix front back (inl n) e f = (
  NonSpecific,
  as_token front back [] (codes "!") (e ∙ ap encode_utf8_all n.1)
      (f ∙ ap encode_utf8_all n.2 ∙ mark_bytes),
)
tag_of text handle suffix front back (inr (inl v)) e f =
    (Verbatim suffix, as_token front back [] (encode_utf8_all suffix) (e ∙ ap encode_utf8_all v.2) f)
tag_of text handle suffix front back (inr (inr s)) e f =
    let h : (h : Handle) × (front ≡ handle_bytes h) = with_bytes handle front e s.1 in
    (Shorthand h.0 suffix, as_token front back (handle_bytes h.0) (encode_utf8_all suffix) h.1 f)

-- ## Tokens

scalar_form : (k : ScalarStyle) (at : Surroundings) (value : List ℕ) (span : Span) (s t : Cursor)
    → IsScalarToken k at value span s t → IsEncoded value
scalar_form style.Plain at value span s t i = (_, sym i.reading.value)
scalar_form style.SingleQuoted at value span s t i = (_, i.2)
scalar_form style.DoubleQuoted at value span s t i = (_, i.2)
scalar_form style.Literal at value span s t i = (_, i.1.reading.value)
scalar_form style.Folded at value span s t i = (_, i.1.reading.value)

token_form : (k : Kind) (at : Surroundings) (span : Span) (s t : Cursor) → IsToken at k span s t → IsWellFormed k
token_form (tokens.Alias name) at span s t i = (i.0, i.2)
token_form (tokens.Anchor name) at span s t i = (i.0, i.2)
token_form (tokens.Tag front back) at span s t i = tag_of i.0 i.1 i.2 front back i.3 i.4 i.5
token_form (tokens.Scalar k value) at span s t i = scalar_form k at value span s t i
token_form (tokens.TagDirective handle prefix) at span s t i =
    let d = i.2 in
    let h = with_bytes d.0 handle d.3 d.2.5 in (h.0, h.1, (d.1, d.4))
token_form (tokens.ReservedDirective name) at span s t i = let d = i.2 in (d.0, d.2)
token_form _ at span s t i = tt

-- no token comes after the end of the stream
may_stand : (A : Type 0) (k : Kind) (ts : List Piece) → IsLastOr A ts k → MayStandBefore k ts
may_stand u0 u1 ts h = grind arith

-- and after another the rest is ended
ended_behind : (P : Marker → Type 0) (r : Option Refusal) (k : Kind) (ts : List Piece) → IsLastOr (AreEnded P r ts) ts k
    → (ts ≡ []) ⊎ AreEnded P r ts
ended_behind u0 r u1 ts h = grind arith

-- tokens that are taken from a text and that the end of the stream or a refusal ends are well formed
pub tokens_form : (P : Marker → Type 0) (r : Option Refusal) (opened : Collections) (ps : List Piece) (s u : Cursor)
    → AreTokens opened ps s u → (ps ≡ []) ⊎ AreEnded P r ps → AreWellFormed ps
tokens_form P r opened [] s u a l = tt
tokens_form P r opened (p ∷ ps) s u a (inl e) = absurd (cc)
tokens_form P r opened (p ∷ ps) s u a (inr l) = (
  token_form p.kind (surroundings_in opened) p.span a.0 a.1 a.3,
  may_stand (AreEnded P r ps) p.kind ps l,
  tokens_form P
      r (open_behind p.kind p.span opened) ps a.1 u a.4 (ended_behind P r p.kind ps l),
)
