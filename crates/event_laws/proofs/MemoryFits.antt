-- What a machine remembers agrees with what the parts before tell, so its events are those of the forest.
use Rattle.event_laws.proofs.Common.{◌≡◌, ℕ, suc, ◌+◌, ◌^◌, ◌<◌, Bool, true, false, List, [], ◌∷◌, Option, Some, None, option_map, encode_utf8_all, refl, sym, ap, ◌∙◌, arith, if◌then◌else◌, option_or, bytes_eq, bytes_eq-Decides, Handle, handle_bytes, Properties, Directive, Version, TagPrefix, Reserved, GoesWithAll, AreCompatible, Part, OpenStream, CloseStream, OpenDocument, CloseDocument, Reference, Leaf, OpenSequence, CloseSequence, OpenMapping, CloseMapping, opens_document, Happening, ResolvedTag, Scalar, SequenceStart, MappingStart, anchor_of, one_more_anchor, anchors, is_named, latest_id, prefix_in, prefix_declared_for, event_of_part, events_behind, Names, meaning, with_meaning, next_id}
use Rattle.event_laws.specs.Anchors as part
use Rattle.event_laws.specs.TagResolution as tag
use Rattle.event_laws.proofs.Emitted.Emitting.{Memory}
use Rattle.event_laws.proofs.Remembering.{noted, declaring, after, with_properties, event_in, events_in}
use Rattle.event_laws.proofs.NameLaws.{different, given_meaning}

-- inside a document
pub record FitsInside (keep : Bool) (front : List Part) (e : Memory) : Type 0 where
  pub keeps : e.keep ≡ keep
  pub count : e.anchors.last ≡ anchors front
  pub ids : (name : List ℕ) → meaning name e.anchors.ids ≡ latest_id name front
  pub prefixes : (handle : Handle) → meaning (handle_bytes handle) e.prefixes ≡ prefix_declared_for keep handle front

-- between documents
pub record FitsBetween (keep : Bool) (front : List Part) (e : Memory) : Type 0 where
  pub keeps : e.keep ≡ keep
  pub count : e.anchors.last ≡ anchors front
  pub prefixes : (handle : Handle)
      → meaning (handle_bytes handle) e.prefixes ≡ (if keep then prefix_declared_for keep handle front else None)

abbrev pub FitsParts : Bool → Bool → List Part → Memory → Type 0
FitsParts true keep front e = FitsInside keep front e
FitsParts false keep front e = FitsBetween keep front e

-- ## Parts in their places

abbrev pub is_inside_behind : Part → Bool → Bool
is_inside_behind (OpenDocument _ _) b = true
is_inside_behind CloseDocument b = false
is_inside_behind _ b = b

-- a part that may be inside a document, or outside
abbrev pub May : Bool → Part → Type 0
May false OpenStream = Unit {0}
May false CloseStream = Unit {0}
May false (OpenDocument _ directives) = AreCompatible directives
May false _ = ⊥
May true OpenStream = ⊥
May true CloseStream = ⊥
May true (OpenDocument _ _) = ⊥
May true _ = Unit {0}

abbrev pub Within : Bool → List Part → Type 0
Within b [] = Unit {0}
Within b (p ∷ ps) = May b p × Within (is_inside_behind p b) ps

-- ## Ids

id_is : (e : Memory) (n more : ℕ) → e.anchors.last ≡ n → n + suc more < 2 ^ 64 → next_id e.anchors ≡ suc n
id_is e n more h l = omega (arith, h, l)

-- ## Tags

properties_same : (make : ℕ → Option ResolvedTag → Happening) (keep : Bool) (front : List Part) (e : Memory)
    (p : Properties) (more : ℕ) → FitsInside keep front e
    → anchors front + one_more_anchor (option_map encode_utf8_all p.anchor) more < 2 ^ 64
    → with_properties make e p ≡ option_map (make (part.own_id front p.anchor)) (tag.any_resolution keep p.tag front)
properties_same make keep front e p more h l = grind arith

-- ## The event of a part

event_same : (b keep : Bool) (front : List Part) (e : Memory) (p : Part) (more : ℕ) → May b p → FitsParts b keep front e
    → anchors front + one_more_anchor (anchor_of p) more < 2 ^ 64 → event_in e p ≡ event_of_part keep front p
event_same true keep front e (Reference name) more m h l = cc (h.ids (encode_utf8_all name))
event_same true keep front e (Leaf p style value) more m h l =
    properties_same (Scalar (encode_utf8_all value) style) keep front e p more h l
event_same true keep front e (OpenSequence p) more m h l = properties_same SequenceStart keep front e p more h l
event_same true keep front e (OpenMapping p) more m h l = properties_same MappingStart keep front e p more h l
event_same false keep front e (Reference name) more m h l = elim m [ ]
event_same false keep front e (Leaf p style value) more m h l = elim m [ ]
event_same false keep front e (OpenSequence p) more m h l = elim m [ ]
event_same false keep front e (OpenMapping p) more m h l = elim m [ ]
event_same b keep front e _ more m h l = refl

-- ## What is remembered after a part

latest_behind : (name : List ℕ) (p : Part) (front : List Part) (anchor : Option (List ℕ)) → opens_document p ≡ false
    → anchor_of p ≡ anchor → latest_id name (p ∷ front)
    ≡ (if is_named name anchor then Some (suc (anchors front)) else latest_id name front)
latest_behind name p front anchor o a = cc

declared_behind : (keep : Bool) (handle : Handle) (p : Part) (front : List Part) → opens_document p ≡ false
    → prefix_declared_for keep handle (p ∷ front) ≡ prefix_declared_for keep handle front
declared_behind keep handle p front o = cc

-- after a part of a document with this anchor
fits_noted : (keep : Bool) (front : List Part) (e : Memory) (p : Part) (anchor : Option (List ℕ)) (more : ℕ)
    → opens_document p ≡ false → anchor_of p ≡ option_map encode_utf8_all anchor → FitsInside keep front e
    → anchors front + one_more_anchor (option_map encode_utf8_all anchor) more < 2 ^ 64
    → FitsInside keep (p ∷ front) (noted anchor e)
fits_noted keep front e p None more o a h l = record {
  keeps = h.keeps;
  count = h.count ∙ sym (cc);
  ids = λ name. h.ids name ∙ sym (latest_behind name p front None o a);
  prefixes = λ handle. h.prefixes handle ∙ sym (declared_behind keep handle p front o);
}
fits_noted keep front e p (Some own) more o a h l =
    let id : next_id e.anchors ≡ suc (anchors front) = id_is e (anchors front) more h.count l in
    record {
      keeps = h.keeps;
      count = id ∙ sym (cc);
      ids = λ name. given_meaning name (encode_utf8_all own) (next_id e.anchors) e.anchors.ids
          ∙ ap (λ (n : ℕ). if bytes_eq name (encode_utf8_all own) then Some n else meaning name e.anchors.ids) id
          ∙ ap (λ (x : Option ℕ). if bytes_eq name (encode_utf8_all own) then Some (suc (anchors front)) else x)
          (h.ids name) ∙ sym (latest_behind name p front (Some (encode_utf8_all own)) o a);
      prefixes = λ handle. h.prefixes handle ∙ sym (declared_behind keep handle p front o);
    }

-- ## Directives

none_else : (handle other : Handle) (prefix : List ℕ) (ds : List Directive) → GoesWithAll (TagPrefix other prefix) ds
    → handle_bytes handle ≡ handle_bytes other → prefix_in handle ds ≡ None
none_else handle other prefix [] g e = refl
none_else handle other prefix (Version _ _ ∷ ds) g e = none_else handle other prefix ds g.1 e
none_else handle other prefix (Reserved _ ∷ ds) g e = none_else handle other prefix ds g.1 e
none_else handle other prefix (TagPrefix third text ∷ ds) g e =
    cc (
      different (handle_bytes handle) (handle_bytes third) (λ q. g.0 (sym e ∙ q)),
      none_else handle other prefix ds g.1 e,
    )

-- a directive alone, and the ones after it
one_prefix : (b : Bool) (x : List ℕ) (rest later : Option (List ℕ)) → (b ≡ true → rest ≡ None)
    → option_or rest (if b then Some x else later) ≡ option_or (if b then Some x else rest) later
one_prefix b x rest later h = grind arith

declaring_meaning : (handle : Handle) (ds : List Directive) (names : Names (List ℕ)) → AreCompatible ds
    → meaning (handle_bytes handle) (declaring ds names)
    ≡ option_or (prefix_in handle ds) (meaning (handle_bytes handle) names)
declaring_meaning handle [] names c = refl
declaring_meaning handle (Version _ _ ∷ ds) names c = declaring_meaning handle ds names c.1
declaring_meaning handle (Reserved _ ∷ ds) names c = declaring_meaning handle ds names c.1
declaring_meaning handle (TagPrefix other prefix ∷ ds) names c =
    let test : Bool = bytes_eq (handle_bytes handle) (handle_bytes other) in
    cc (
      declaring_meaning handle ds (with_meaning (handle_bytes other) (encode_utf8_all prefix) names) c.1,
      given_meaning (handle_bytes handle) (handle_bytes other) (encode_utf8_all prefix) names,
      one_prefix test (encode_utf8_all prefix) (prefix_in handle ds) (meaning (handle_bytes handle) names)
          (λ q. none_else handle other prefix ds c.0
          ((bytes_eq-Decides (handle_bytes handle) (handle_bytes other)).0 q)),
    )

kept_meaning : (keep kept : Bool) (handle : Handle) (front : List Part) (names : Names (List ℕ)) → kept ≡ keep
    → meaning (handle_bytes handle) names ≡ prefix_declared_for keep handle front
    → meaning (handle_bytes handle) (if kept then names else [])
    ≡ (if keep then prefix_declared_for keep handle front else None)
kept_meaning keep kept handle front names k h = grind arith

-- ## After each part

-- By the part. Most only count an anchor, and name it (`fits_noted`). The two that do more are a document's start,
-- which forgets the anchors and declares prefixes (`declaring_meaning`), and its end, which forgets the prefixes unless
-- they are kept (`kept_meaning`).
fits_after : (b keep : Bool) (front : List Part) (e : Memory) (p : Part) (more : ℕ) → May b p → FitsParts b keep front e
    → anchors front + one_more_anchor (anchor_of p) more < 2 ^ 64
    → FitsParts (is_inside_behind p b) keep (p ∷ front) (after p e)
fits_after false keep front e OpenStream more m h l = record { keeps = h.keeps; count = h.count; prefixes = h.prefixes }
fits_after false keep front e CloseStream more m h l =
    record { keeps = h.keeps; count = h.count; prefixes = h.prefixes }
fits_after false keep front e (OpenDocument x ds) more m h l = record {
  keeps = h.keeps;
  count = h.count;
  ids = λ name. refl;
  prefixes = λ handle. cc (declaring_meaning handle ds e.prefixes m, h.prefixes handle);
}
fits_after true keep front e CloseDocument more m h l =
    record {
      keeps = h.keeps;
      count = h.count;
      prefixes = λ handle. kept_meaning keep e.keep handle front e.prefixes h.keeps (h.prefixes handle);
    }
fits_after true keep front e (Reference name) more m h l =
    fits_noted keep front e (Reference name) None more refl refl h l
fits_after true keep front e (Leaf p style value) more m h l =
    fits_noted keep front e (Leaf p style value) p.anchor more refl refl h l
fits_after true keep front e (OpenSequence p) more m h l =
    fits_noted keep front e (OpenSequence p) p.anchor more refl refl h l
fits_after true keep front e CloseSequence more m h l = fits_noted keep front e CloseSequence None more refl refl h l
fits_after true keep front e (OpenMapping p) more m h l =
    fits_noted keep front e (OpenMapping p) p.anchor more refl refl h l
fits_after true keep front e CloseMapping more m h l = fits_noted keep front e CloseMapping None more refl refl h l
fits_after _ keep front e _ more m h l = elim m [ ]

room_moves : (anchor : Option (List ℕ)) (n more : ℕ) → n + one_more_anchor anchor more < 2 ^ 64
    → one_more_anchor anchor n + more < 2 ^ 64
room_moves anchor n more l = grind arith

pub same_events : (ps : List Part) (b keep : Bool) (front : List Part) (e : Memory) → Within b ps
    → FitsParts b keep front e → anchors front + anchors ps < 2 ^ 64 → events_in e ps ≡ events_behind keep front ps
same_events [] b keep front e w h l = refl
same_events (p ∷ ps) b keep front e w h l =
    cc (
      event_same b keep front e p (anchors ps) w.0 h l,
      same_events ps (is_inside_behind p b) keep (p ∷ front) (after p e) w.1
          (fits_after b keep front e p (anchors ps) w.0 h l) (room_moves (anchor_of p) (anchors front) (anchors ps) l),
    )
