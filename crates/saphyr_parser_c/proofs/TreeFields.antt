-- The fields that are written of an entry.
use Rattle.std.proofs.Common.{refl, ◌≡◌, ◌∙◌, sym, ap, subst, ℕ, ℤ, pos, to_z, of_z, w32, List, Option, Some, None}
use Rattle.saphyr_scalar.specs.declared.scalar.position.Marker.{Marker}
use Rattle.saphyr_scalar.specs.declared.scalar.style.ScalarStyle.{ScalarStyle}
use Rattle.saphyr_scalar.specs.declared.scalar.style.ScalarStyle.TheVariants as styles
use Rattle.saphyr_parser.specs.Events.{ResolvedTag, Scalar}
use Rattle.yaml_tree.specs.declared.table.TagRows.{TagRows}
use Rattle.yaml_tree.specs.Tables.{HasTagRows, StandIn}
use Rattle.saphyr_parser_c.specs.declared.shown.CEvent.{CEvent}
use Rattle.saphyr_parser_c.specs.declared.shown.CText.{CText}
use Rattle.saphyr_parser_c.specs.Shown.{HasFields, HasNumbers, HasTag, HasTagTexts, HasText, IsMarkerOfC, fields_of_event, fields_of_kind, style_code, tag_code}
use Rattle.saphyr_parser_c.specs.Trees.{IsSameButProperties}

-- the texts of a tag, which stand in a table
pub tag_texts : (texts : List ℕ) (rows : TagRows) (tag : Option ResolvedTag) (handle suffix : List ℕ) (c : CEvent)
    → HasTagRows texts (Some rows) tag → ((text : List ℕ) → StandIn text rows.handle texts → handle ≡ text)
    → ((text : List ℕ) → StandIn text rows.suffix texts → suffix ≡ text) → HasText (Some handle) c.tag_handle
    → HasText (Some suffix) c.tag_suffix → (pos 1 ≡ tag_code tag) × HasTagTexts tag c
tag_texts texts rows None handle suffix c is h s hs ss = absurd is
tag_texts texts rows (Some tag) handle suffix c is h s hs ss = (
  refl,
  (
    subst (λ (text : List ℕ). HasText (Some text) c.tag_handle) (h tag.handle is.0) hs,
    subst (λ (text : List ℕ). HasText (Some text) c.tag_suffix) (s tag.suffix is.1) ss,
  ),
)

style_kept : (style : ScalarStyle) → to_z w32 (of_z w32 (style_code style)) ≡ style_code style
style_kept styles.Plain = refl
style_kept _ = refl

pub scalar_fields : (bare new : CEvent) (start end : Marker) (text : List ℕ) (style : ScalarStyle) (id : ℕ)
    (tag : Option ResolvedTag) (value : CText) (code : ℤ) → HasNumbers (fields_of_kind (pos 6)) start end bare
    → IsSameButProperties (record bare { style = to_z w32 (of_z w32 code); value = value }) new
    → code ≡ style_code style → HasText (Some text) value → new.anchor ≡ id → HasTag tag new
    → HasFields (fields_of_event (Scalar text style id tag)) start end new
scalar_fields bare new start end text style id tag value code n same is v anchor t = (
  record {
    kind = ap (λ (c : CEvent). c.kind) same ∙ n.kind;
    style = ap (λ (c : CEvent). c.style) same ∙ ap (λ (i : ℤ). to_z w32 (of_z w32 i)) is ∙ style_kept style;
    explicit = ap (λ (c : CEvent). c.is_explicit) same ∙ n.explicit;
    has_tag = t.0;
    anchor = anchor;
    start = subst (IsMarkerOfC start) (sym (ap (λ (c : CEvent). c.start) same)) n.start;
    end = subst (IsMarkerOfC end) (sym (ap (λ (c : CEvent). c.end) same)) n.end;
  },
  (subst (HasText (Some text)) (sym (ap (λ (c : CEvent). c.value) same)) v, t.1),
)
