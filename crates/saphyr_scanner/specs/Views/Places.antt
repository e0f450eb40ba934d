-- What contracts see of the tokens in a queue.
use Rattle.std.proofs.Props.{props}
use Rattle.std.specs.Prelude.{take, drop, [], ◌∷◌, ◌++◌, ◌+◌, ◌-◌, ◌%◌, ◌≤◌, ◌≡◌, ◌==◌, nat_lt, List, ℕ, Bool, true, false, if◌then◌else◌}
use Rattle.saphyr_scalar.specs.declared.scalar.position.Marker.{Marker}
use Rattle.saphyr_scalar.specs.declared.scalar.position.Span.{Span}
use Rattle.saphyr_scanner.specs.declared.queue.Opening.{Opening}
use Rattle.saphyr_scanner.specs.declared.queue.Opening.TheVariants.{Nothing, Key, BlockMappingAndKey, FlowMappingAndKey}
use Rattle.saphyr_scanner.specs.declared.queue.near.NearMarker.{NearMarker}
use Rattle.saphyr_scanner.specs.declared.queue.place.Place as declared_place
use Rattle.saphyr_scanner.specs.declared.queue.texts.Extent.{Extent}
use Rattle.saphyr_scanner.specs.declared.token.TokenKind.{TokenKind}
use Rattle.saphyr_scanner.specs.Views.Texts.{Texts, BeginsWithTexts, HasExtent, behind_extent, behind_text, first_extent, nothing}
use Rattle.saphyr_scanner.specs.Views.Tokens.{Parts, Piece, piece_with}
use Rattle.saphyr_scanner.specs.Steps.Queue.{Place, bare_place}

abbrev pub near_marker : NearMarker → Marker
near_marker m = record { index = m.index; line = m.line; col = m.col }

-- the span on one line that begins at a place and has so many characters
abbrev pub near_span : NearMarker → ℕ → Span
near_span m n = record {
  start = near_marker m;
  end = record { index = m.index + n; line = m.line; col = m.col + n };
}

-- the parts of a token of this extent, whose texts come first
abbrev pub parts_at : Extent → List ℕ → Parts
parts_at e bytes = record {
  handle = take e.handle bytes;
  text = take e.text (drop e.handle bytes);
  major = e.major;
  minor = e.minor;
}

-- what comes in front of a token: the fourth of a byte in which the number lies
abbrev pub coded_opening : ℕ → Opening
coded_opening front =
    if nat_lt front 64 then Nothing
    else if nat_lt front 128 then Key
    else if nat_lt front 192 then BlockMappingAndKey
    else FlowMappingAndKey

-- how many bytes its handle has: how far the number lies inside that fourth
abbrev pub handle_length : ℕ → ℕ
handle_length front = front % 64

-- where that fourth begins
abbrev pub opening_code : Opening → ℕ
opening_code Nothing = 0
opening_code Key = 64
opening_code BlockMappingAndKey = 128
opening_code FlowMappingAndKey = 192

-- the place with something else in front of its token
abbrev pub with_opening_of : Opening → declared_place.Place → declared_place.Place
with_opening_of o p = record p { front = opening_code o + handle_length p.front }

-- whether the extent of a place's token is apart, since there is no room for it
abbrev pub is_apart : declared_place.Place → Bool
is_apart p = p.count == 255

-- the extent of a token, which may be apart: else the place has its span, and how many bytes its handle and both its
-- texts have
abbrev pub extent_of : Bool → Span → ℕ → ℕ → Texts → Extent
extent_of true span handle count s = first_extent s.extents
extent_of false span handle count s =
    record { span = span; handle = handle; text = count - handle; major = 0; minor = 0 }

abbrev pub extent_at : declared_place.Place → Texts → Extent
extent_at p s = extent_of (is_apart p) (near_span p.start p.length) (handle_length p.front) p.count s

-- the token of this extent and kind, whose texts come first
abbrev pub token_with : Extent → TokenKind → List ℕ → Piece
token_with e kind bytes = piece_with e.span kind (parts_at e bytes)

-- the texts after those of the token
abbrev pub texts_behind_of : Bool → ℕ → Texts → Texts
texts_behind_of true count s = behind_extent s
texts_behind_of false count s = behind_text count s

-- What the token needs is there.
abbrev pub HasTextsOf : Bool → ℕ → ℕ → Texts → Type 0
HasTextsOf true handle count s = HasExtent s
HasTextsOf false handle count s = (handle ≤ count) × BeginsWithTexts handle (count - handle) s

abbrev pub place_at : declared_place.Place → Texts → Place
place_at p s = record { opening = coded_opening p.front; piece = token_with (extent_at p s) p.kind s.bytes }

abbrev pub texts_behind : declared_place.Place → Texts → Texts
texts_behind p s = texts_behind_of (is_apart p) p.count s

abbrev pub HasTexts : declared_place.Place → Texts → Type 0
HasTexts p s = HasTextsOf (is_apart p) (handle_length p.front) p.count s

abbrev pub places_at : List declared_place.Place → Texts → List Place
places_at [] s = []
places_at (p ∷ ps) s = place_at p s ∷ places_at ps (texts_behind p s)

-- The places have all the texts that they need, and no more texts are there.
abbrev pub Fit : List declared_place.Place → Texts → Type 0
Fit [] s = s ≡ nothing
Fit (p ∷ ps) s = HasTexts p s × Fit ps (texts_behind p s)

HasTextsOf-prop : (apart : Bool) (handle count : ℕ) (s : Texts) → IsProp (HasTextsOf apart handle count s)
HasTextsOf-prop true handle count s = hlevel props
HasTextsOf-prop false handle count s = hlevel props

-- A fact of structs has one proof.
pub Fit-prop : (ps : List declared_place.Place) (s : Texts) → IsProp (Fit ps s)
Fit-prop [] s = hlevel props
Fit-prop (p ∷ ps) s = λ u v i. (
  HasTextsOf-prop (is_apart p) (handle_length p.front) p.count s u.0 v.0 i,
  Fit-prop ps (texts_behind p s) u.1 v.1 i,
)

-- Put behind others, it is the place of this token, with nothing before it, where these are the texts then.
abbrev pub AddsBehind : Piece → declared_place.Place → Texts → Texts → Type 0
AddsBehind t p old new =
    (ps : List declared_place.Place) → Fit ps old
    → Fit (ps ++ p ∷ []) new × (places_at (ps ++ p ∷ []) new ≡ places_at ps old ++ bare_place t ∷ [])
