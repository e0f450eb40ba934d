-- What the event structure of C holds.
use Rattle.std.specs.Prelude.{◌≡◌, ◌≢◌, ℕ, ℤ, pos, Bool, true, false, List, length, Option, Some, None, Result, Ok, Err, option_map, string_bytes}
use Rattle.std.specs.Borrow.{Bor}
use Rattle.std.specs.Global.{Global}
use Rattle.std.specs.Ptr.{null_ptr}
use Rattle.std.specs.String.{string_vec}
use Rattle.std.specs.Vec.{vec_ptr, vec_len}
use Rattle.std.specs.declared.borrow.CowStr.{CowStr}
use Rattle.std.specs.declared.borrow.CowStr.TheVariants as cow
use Rattle.std.specs.declared.vec.Vec.{Vec}
use Rattle.saphyr_scalar.specs.declared.scalar.position.Marker.{Marker}
use Rattle.saphyr_scalar.specs.declared.scalar.position.Span.{Span}
use Rattle.saphyr_scalar.specs.declared.scalar.style.ScalarStyle.{ScalarStyle}
use Rattle.saphyr_scalar.specs.declared.scalar.style.ScalarStyle.TheVariants as styles
use Rattle.saphyr_parser.specs.Types.Event.{Event}
use Rattle.saphyr_parser.specs.Types.Event.TheVariants as events
use Rattle.saphyr_parser.specs.Types.Tag.{Tag}
use Rattle.saphyr_parser.specs.Types.Fault.{Fault}
use Rattle.saphyr_parser.specs.Types.Fault.TheVariants as fault
use Rattle.saphyr_parser.specs.Events.{ResolvedTag, Happening, Nothing, StreamStart, StreamEnd, DocumentStart, DocumentEnd, Alias, Scalar, SequenceStart, SequenceEnd, MappingStart, MappingEnd}
use Rattle.saphyr_parser.specs.Views.Events.{happening, resolved_tag}
use Rattle.saphyr_parser_c.specs.declared.shown.CText.{CText}
use Rattle.saphyr_parser_c.specs.declared.shown.CMarker.{CMarker}
use Rattle.saphyr_parser_c.specs.declared.shown.CEvent.{CEvent}
use Rattle.saphyr_parser_c.specs.declared.status.Status.{Status}
use Rattle.saphyr_parser_c.specs.declared.status.Status.TheVariants as status
use Rattle.saphyr_parser_c.specs.Status.{IsStatusOfRefusal}

-- ## What is written of an event

-- its fields but for its places, with a text by its bytes
pub record EventFields : Type 0 where
  pub kind : ℤ
  pub style : ℤ
  pub explicit : ℤ
  pub anchor : ℕ
  pub value : Option (List ℕ)
  pub tag : Option ResolvedTag

abbrev pub fields_of_kind : ℤ → EventFields
fields_of_kind kind = record { kind = kind; style = pos 0; explicit = pos 0; anchor = 0; value = None; tag = None }

abbrev pub fields_of_node : ℤ → ℕ → Option ResolvedTag → EventFields
fields_of_node kind anchor tag = record (fields_of_kind kind) { anchor = anchor; tag = tag }

-- of no event
abbrev pub no_fields : EventFields
no_fields = fields_of_kind (pos 0)

-- of a refusal, by its text
abbrev pub fields_of_refusal : List ℕ → EventFields
fields_of_refusal info = record no_fields { value = Some info }

abbrev pub style_code : ScalarStyle → ℤ
style_code styles.Plain = pos 0
style_code styles.SingleQuoted = pos 1
style_code styles.DoubleQuoted = pos 2
style_code styles.Literal = pos 3
style_code styles.Folded = pos 4

abbrev pub explicit_code : Bool → ℤ
explicit_code true = pos 1
explicit_code false = pos 0

abbrev pub fields_of_event : Happening → EventFields
fields_of_event Nothing = fields_of_kind (pos 0)
fields_of_event StreamStart = fields_of_kind (pos 1)
fields_of_event StreamEnd = fields_of_kind (pos 2)
fields_of_event (DocumentStart explicit) = record (fields_of_kind (pos 3)) { explicit = explicit_code explicit }
fields_of_event DocumentEnd = fields_of_kind (pos 4)
fields_of_event (Alias id) = record (fields_of_kind (pos 5)) { anchor = id }
fields_of_event (Scalar text style id tag) =
    record (fields_of_node (pos 6) id tag) { style = style_code style; value = Some text }
fields_of_event (SequenceStart id tag) = fields_of_node (pos 7) id tag
fields_of_event SequenceEnd = fields_of_kind (pos 8)
fields_of_event (MappingStart id tag) = fields_of_node (pos 9) id tag
fields_of_event MappingEnd = fields_of_kind (pos 10)

-- ## The numbers in C's structure

abbrev pub nowhere : Marker
nowhere = record { index = 0; line = 0; col = 0 }

abbrev pub IsMarkerOfC : Marker → CMarker → Type 0
IsMarkerOfC mark c = (c.index ≡ mark.index) × (c.line ≡ mark.line) × (c.col ≡ mark.col)

abbrev pub tag_code : Option ResolvedTag → ℤ
tag_code None = pos 0
tag_code (Some tag) = pos 1

-- all fields but the texts
pub record HasNumbers (t : EventFields) (from to : Marker) (c : CEvent) : Type 0 where
  pub kind : c.kind ≡ t.kind
  pub style : c.style ≡ t.style
  pub explicit : c.is_explicit ≡ t.explicit
  pub has_tag : c.has_tag ≡ tag_code t.tag
  pub anchor : c.anchor ≡ t.anchor
  pub start : IsMarkerOfC from c.start
  pub end : IsMarkerOfC to c.end

-- ## The texts in C's structure

-- An address that is not null, and the number of a text's bytes; null where there is no text. Which bytes are at that
-- address no clause says: of the text of a reference the standard library tells no address.
abbrev pub HasText : Option (List ℕ) → CText → Type 0
HasText None c = (c.at ≡ null_ptr) × (c.len ≡ 0)
HasText (Some bytes) c = (c.at ≢ null_ptr) × (c.len ≡ length bytes)

abbrev pub HasTagTexts : Option ResolvedTag → CEvent → Type 0
HasTagTexts None c = HasText None c.tag_handle × HasText None c.tag_suffix
HasTagTexts (Some tag) c = HasText (Some tag.handle) c.tag_handle × HasText (Some tag.suffix) c.tag_suffix

-- whether there is a tag, and its texts
abbrev pub HasTag : Option ResolvedTag → CEvent → Type 0
HasTag tag c = (c.has_tag ≡ tag_code tag) × HasTagTexts tag c

-- only the text of a scalar is written
abbrev pub IsSameButValue : CEvent → CEvent → Type 0
IsSameButValue old new = new ≡ record old { value = new.value }

-- only what is told of the tag is written
abbrev pub IsSameButTag : CEvent → CEvent → Type 0
IsSameButTag old new =
    new ≡ record old { has_tag = new.has_tag; tag_handle = new.tag_handle; tag_suffix = new.tag_suffix }

abbrev pub HasTextFields : EventFields → CEvent → Type 0
HasTextFields t c = HasText t.value c.value × HasTagTexts t.tag c

-- each field of the structure
abbrev pub HasFields : EventFields → Marker → Marker → CEvent → Type 0
HasFields t start end c = HasNumbers t start end c × HasTextFields t c

-- ## Texts that are kept: C is given the very memory in which they are

abbrev pub BytesStand : Vec ℕ Global → CText → Type 0
BytesStand bytes c = (c.at ≡ vec_ptr bytes) × (c.len ≡ vec_len bytes)

abbrev pub TextStands : CowStr Global → CText → Type 0
TextStands (cow.Borrowed text) c = HasText (Some text.now) c
TextStands (cow.Owned text) c = BytesStand (string_vec text) c

abbrev pub TagStands : Option Tag → CEvent → Type 0
TagStands None c = HasTagTexts None c
TagStands (Some tag) c =
    BytesStand (string_vec tag.handle) c.tag_handle × BytesStand (string_vec tag.suffix) c.tag_suffix

-- whether there is a tag, and where its texts are
abbrev pub WritesTag : Option Tag → CEvent → Type 0
WritesTag tag c = (c.has_tag ≡ tag_code (option_map resolved_tag tag)) × TagStands tag c

abbrev pub value_of : Event → Option (CowStr Global)
value_of (events.Scalar text style id tag) = Some text
value_of _ = None

abbrev pub tag_in : Event → Option Tag
tag_in (events.Scalar text style id tag) = tag
tag_in (events.SequenceStart id tag) = tag
tag_in (events.MappingStart id tag) = tag
tag_in _ = None

abbrev pub AnyStands : Option (CowStr Global) → CText → Type 0
AnyStands None c = HasText None c
AnyStands (Some text) c = TextStands text c

abbrev pub ValueStands : Event → CEvent → Type 0
ValueStands e c = AnyStands (value_of e) c.value

-- the texts of an event
abbrev pub TextsStand : Event → CEvent → Type 0
TextsStand e c = ValueStands e c × TagStands (tag_in e) c

-- ## What a call answers

abbrev pub WritesNumbers : Event × Span → CEvent → Type 0
WritesNumbers e c = HasNumbers (fields_of_event (happening e.0)) e.1.start e.1.end c

-- of a fault that is kept; reading gives no other than the first two
abbrev pub WritesFault : Fault → Status → CEvent → Type 0
WritesFault (fault.Scan error) s c =
    IsStatusOfRefusal (string_bytes error.info) s × HasNumbers no_fields error.mark error.mark c
    × BytesStand (string_vec error.info) c.value × HasTagTexts None c
WritesFault _ s c = (s ≡ status.NoMemory) × HasFields no_fields nowhere nowhere c

-- of what is kept
abbrev pub WritesC : Option (Result (Event × Span) Fault) → Status → CEvent → Type 0
WritesC None s c = (s ≡ status.End) × HasFields no_fields nowhere nowhere c
WritesC (Some (Ok e)) s c = (s ≡ status.Event) × WritesNumbers e c × TextsStand e.0 c
WritesC (Some (Err f)) s c = WritesFault f s c

-- of a fault that is lent
abbrev pub WritesLentFault : Fault → Status → CEvent → Type 0
WritesLentFault (fault.Scan error) s c =
    IsStatusOfRefusal (string_bytes error.info) s
    × HasFields (fields_of_refusal (string_bytes error.info)) error.mark error.mark c
WritesLentFault _ s c = (s ≡ status.NoMemory) × HasFields no_fields nowhere nowhere c

-- of what is lent
abbrev pub WritesLent : Option (Result (Bor (Event × Span)) (Bor Fault)) → Status → CEvent → Type 0
WritesLent None s c = (s ≡ status.End) × HasFields no_fields nowhere nowhere c
WritesLent (Some (Ok e)) s c = (s ≡ status.Event) × WritesNumbers e.now c
    × HasTextFields (fields_of_event (happening e.now.0)) c
WritesLent (Some (Err f)) s c = WritesLentFault f.now s c
