-- What contracts see of tokens whose texts are read right where they are held.
use Rattle.std.specs.Prelude.{◌≡◌, ◌==◌, ◌||◌, ◌&&◌, ℕ, Bool, true, false, List, Result, Ok, Err, slice_index, if◌then◌else◌}
use Rattle.saphyr_input.specs.Classes.{is_breakz}
use Rattle.saphyr_input.specs.Indicators.{colon, comma, right_brace, right_bracket}
use Rattle.saphyr_input.specs.declared.input.SkipTabs.TheVariants as tabs
use Rattle.saphyr_scalar.specs.declared.scalar.fault.FaultText.TheVariants as fault
use Rattle.saphyr_scalar.specs.declared.scalar.fault.Refusal.{Refusal}
use Rattle.saphyr_scalar.specs.declared.scalar.fault.Stop.{Stop}
use Rattle.saphyr_scalar.specs.declared.scalar.position.Marker.{Marker}
use Rattle.saphyr_scalar.specs.Steps.Anchor.{anchor}
use Rattle.saphyr_scalar.specs.Steps.Quoted.{quoted}
use Rattle.saphyr_scalar.specs.Steps.Tag.{tag}
use Rattle.saphyr_scalar.specs.Views.Cursor.{Cursor, ◌>>=◌, refuse, separation}
use Rattle.saphyr_scalar.specs.Views.Reader.{Fails}
use Rattle.saphyr_scalar.specs.declared.values.Quote.{Quote}
use Rattle.saphyr_scanner.specs.declared.queue.place.Place as declared_place
use Rattle.saphyr_scanner.specs.declared.token.TokenKind.{TokenKind}
use Rattle.saphyr_scanner.specs.Grammar.Tokens as tokens
use Rattle.saphyr_scanner.specs.Grammar.Tokens.{Kind}
use Rattle.saphyr_scanner.specs.Steps.Queue.{Queue, with_piece}
use Rattle.saphyr_scanner.specs.Steps.Scalar.{quote_style}
use Rattle.saphyr_scanner.specs.Views.Texts.{Texts}
use Rattle.saphyr_scanner.specs.Views.Places.{AddsBehind}
use Rattle.saphyr_scanner.specs.Views.Tokens.{Piece, kind_with, text_parts}

abbrev pub spanning_piece : Marker → Marker → Kind → Piece
spanning_piece a b kind = record { span = record { start = a; end = b }; kind = kind }

-- what a call reads of a token: what the token says, its end, what else is told, and the cursor
abbrev pub TokenRead : Type 0 → Type 0 → Type 0
TokenRead A X = Result (A × Marker × X × Cursor) Refusal

-- a token that began at a place, and says that
abbrev pub read_piece : {A X : Type 0} → (A → Kind) → Marker → A × Marker × X × Cursor → Piece
read_piece kind start x = spanning_piece start x.1 (kind x.0)

-- The place that a call made is that of the token that the function gives, as are what else is told and the reader,
-- unless memory ran out.
abbrev pub PlacesToken
    : {A X : Type 0}
    → (A → Kind) → Marker → Texts → Texts → Cursor → Result (declared_place.Place × X) Stop → TokenRead A X → Type 0
PlacesToken kind start old new s (Ok made) (Ok x) =
    (made.1 ≡ x.2) × (s ≡ x.3) × AddsBehind (read_piece kind start x) made.0 old new
PlacesToken kind start old new s (Ok made) (Err e) = ⊥
PlacesToken kind start old new s (Err stop) f = Fails stop f

-- the queue with the token behind the others, what else is told, and the cursor
abbrev pub queue_with_token
    : {A X : Type 0} → (A → Kind) → Queue → Marker → TokenRead A X → Result (Queue × X × Cursor) Refusal
queue_with_token kind q start read = read >>= λ x. Ok (with_piece (read_piece kind start x) q, x.2, x.3)

-- ## Names and tags

-- the name of an anchor or an alias, where its token ends
abbrev pub name_whole : Cursor → TokenRead (List ℕ) (Unit {0})
name_whole s = anchor s >>= λ x. Ok (x.0, x.1.mark, tt, x.1)

-- what the token of a name says
abbrev pub name_kind : TokenKind → List ℕ → Kind
name_kind kind name = kind_with kind (text_parts name)

-- a tag, where its token ends
abbrev pub tag_whole : Bool → Cursor → TokenRead (List ℕ × List ℕ) (Unit {0})
tag_whole in_flow s = tag in_flow s >>= λ x. Ok ((x.0, x.1), x.2.mark, tt, x.2)

-- what its token says
abbrev pub tag_kind : List ℕ × List ℕ → Kind
tag_kind t = tokens.Tag t.0 t.1

-- ## Quoted scalars

-- the indicators that may come after a quoted scalar inside flow
abbrev pub is_entry_end : ℕ → Bool
is_entry_end x = (x == colon) || (x == comma) || (x == right_bracket) || (x == right_brace)

-- whether an indicator that may come after a quoted scalar is here: outside flow a colon on the line where the scalar
-- began
abbrev pub ends_at_indicator : Bool → ℕ → Cursor → Bool
ends_at_indicator in_block line s =
    if in_block then ((slice_index s.rest 0 == colon) && (line == s.mark.line)) else is_entry_end (slice_index s.rest 0)

-- What separates a quoted scalar from what comes after it is passed. That is such an indicator, or the line's end. It
-- is told whether it is an indicator.
unfoldable pub behind_quoted : Bool → ℕ → Cursor → Result (Bool × Cursor) Refusal
behind_quoted in_block line s =
    separation tabs.Yes s >>= λ x.
    (if ends_at_indicator in_block line x.1 then Ok (true, x.1)
    else if is_breakz (slice_index x.1.rest 0) then Ok (false, x.1) else refuse fault.ContentAfterQuotes x.1.mark)

-- what the token of a quoted scalar says
abbrev pub quote_kind : Quote → List ℕ → Kind
quote_kind quote text = tokens.Scalar (quote_style quote) text

-- A quoted scalar is read, with what separates it from what comes after it, where its token ends.
unfoldable pub quoted_whole : Bool → Quote → ℕ → Cursor → TokenRead (List ℕ) Bool
quoted_whole in_block quote indent s =
    quoted quote indent s >>= λ x. (behind_quoted in_block s.mark.line x.1 >>= λ d. Ok (x.0, d.1.mark, d.0, d.1))
