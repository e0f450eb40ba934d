-- What a table stores beside its entries stays where it is.
use Rattle.std.proofs.Common.{arith, ◌≡◌, ◌∙◌, refl, sym, ap, subst, ℕ, zero, suc, List, [], ◌∷◌, ◌++◌, Option, Some, None, Result, Ok, Err, OnOk, IfOk, length, append_assoc, append-nil}
use Rattle.std.proofs.lemmas.List.{length-append}
use Rattle.std.specs.List.{slice_get}
use Rattle.saphyr_parser.specs.Events.{Happening}
use Rattle.yaml_tree.specs.declared.table.Content.{Content}
use Rattle.yaml_tree.specs.declared.table.Content.TheVariants as content
use Rattle.yaml_tree.specs.declared.table.NodeTable.{NodeTable}
use Rattle.yaml_tree.specs.declared.table.Properties.{Properties}
use Rattle.yaml_tree.specs.declared.table.Row.{Row}
use Rattle.yaml_tree.specs.declared.table.TagRows.{TagRows}
use Rattle.yaml_tree.specs.Tables.{HasParts, IsStart, HasTagRows, MaybeTag, StandIn, Store, StoresProperties, TellsFirst, store_of}
use Rattle.yaml_tree.specs.GrowerSeen.{IsMore, KeepsNodes, Stores, StoresText, StoresTexts, with_row}
use Rattle.yaml_tree.proofs.LastItems.{get_seam}

pub more_none : (s : Store) → IsMore s s
more_none s = record {
  more_parts = [];
  more_texts = [];
  more_properties = [];
  parts = sym (append-nil s.parts);
  texts = sym (append-nil s.texts);
  properties = sym (append-nil s.properties);
}

pub more_both : (a b c : Store) → IsMore a b → IsMore b c → IsMore a c
more_both a b c m n = record {
  more_parts = m.more_parts ++ n.more_parts;
  more_texts = m.more_texts ++ n.more_texts;
  more_properties = m.more_properties ++ n.more_properties;
  parts = n.parts ∙ ap (λ (xs : List ℕ). xs ++ n.more_parts) m.parts ∙ append_assoc a.parts m.more_parts n.more_parts;
  texts = n.texts ∙ ap (λ (xs : List ℕ). xs ++ n.more_texts) m.texts ∙ append_assoc a.texts m.more_texts n.more_texts;
  properties = n.properties ∙ ap (λ (xs : List Properties). xs ++ n.more_properties) m.properties
      ∙ append_assoc a.properties m.more_properties n.more_properties;
}

pub stands_more : (xs : List ℕ) (row : Row) (all more : List ℕ) → StandIn xs row all → StandIn xs row (all ++ more)
stands_more xs row all more (front, behind, split, f, c) = (
  front,
  behind ++ more,
  ap (λ (ns : List ℕ). ns ++ more) split ∙ append_assoc front (xs ++ behind) more
      ∙ ap (λ (ns : List ℕ). front ++ ns) (append_assoc xs behind more),
  f,
  c,
)

pub stands_last : (xs : List ℕ) (row : Row) (all : List ℕ) → row.first ≡ length all → row.count ≡ length xs
    → StandIn xs row (all ++ xs)
stands_last xs row all f c = (all, [], ap (λ (ns : List ℕ). all ++ ns) (sym (append-nil xs)), sym f, sym c)

tag_more : (texts more : List ℕ) (rows : Option TagRows) (tag : MaybeTag) → HasTagRows texts rows tag
    → HasTagRows (texts ++ more) rows tag
tag_more texts more (Some rows) (Some tag) (h, s) =
    (stands_more tag.handle rows.handle texts more h, stands_more tag.suffix rows.suffix texts more s)
tag_more texts more (Some rows) None h = absurd h
tag_more texts more None tag h = h

get_more : {X : Type 0} (xs ys : List X) (n : ℕ) (x : X) → slice_get xs n ≡ Some x → slice_get (xs ++ ys) n ≡ Some x
get_more [] ys n x e = absurd (cc)
get_more (y ∷ xs) ys zero x e = e
get_more (y ∷ xs) ys (suc n) x e = get_more xs ys n x e

properties_more : (a b : Store) (number id : ℕ) (tag : MaybeTag) → IsMore a b → StoresProperties a number id tag
    → StoresProperties b number id tag
properties_more a b zero id tag more h = h
properties_more a b (suc n) id tag more (p, is, anchor, t) = (
  p,
  ap (λ (ps : List Properties). slice_get ps n) more.properties ∙ get_more a.properties more.more_properties n p is,
  anchor,
  subst (λ (ts : List ℕ). HasTagRows ts p.tag tag) (sym more.texts) (tag_more a.texts more.more_texts p.tag tag t),
)

pub texts_more : (a b : Store) (text : List ℕ) (row : Row) → IsMore a b → StandIn text row a.texts
    → StandIn text row b.texts
texts_more a b text row more h =
    subst (StandIn text row) (sym more.texts) (stands_more text row a.texts more.more_texts h)

pub told_more : (a b : Store) (c : Content) (h : Happening) → IsMore a b → TellsFirst a c h → TellsFirst b c h
told_more a b (content.Alias id) h more t = t
told_more a b (content.Scalar style row number) h more (text, id, tag, is, stands, p) =
    (text, id, tag, is, texts_more a b text row more stands, properties_more a b number id tag more p)
told_more a b (content.Sequence row number) h more (id, tag, is, p) =
    (id, tag, is, properties_more a b number id tag more p)
told_more a b (content.Mapping row number) h more (id, tag, is, p) =
    (id, tag, is, properties_more a b number id tag more p)

row_more : (a b : Store) (ns : List ℕ) (row : Row) → IsMore a b → StandIn ns row a.parts → StandIn ns row b.parts
row_more a b ns row more h = subst (StandIn ns row) (sym more.parts) (stands_more ns row a.parts more.more_parts h)

pub parts_more : (a b : Store) (c : Content) (ns : List ℕ) → IsMore a b → HasParts a c ns → HasParts b c ns
parts_more a b (content.Alias id) ns more h = h
parts_more a b (content.Scalar style row number) ns more h = h
parts_more a b _ ns more h = row_more a b ns _ more h

-- with other parts a collection tells the same of its first event
pub told_closed : (s : Store) (c : Content) (row : Row) (h : Happening) → TellsFirst s c h
    → TellsFirst s (with_row row c) h
told_closed s (content.Alias id) row h t = t
told_closed s _ row h t = t

pub parts_closed : (s : Store) (c : Content) (row : Row) (h : Happening) (ns : List ℕ) → TellsFirst s c h → IsStart h
    → StandIn ns row s.parts → HasParts s (with_row row c) ns
parts_closed s (content.Alias id) row h ns t start stands = absurd (subst IsStart t start)
parts_closed s (content.Scalar style text number) row h ns (own, id, tag, is, at, k) start stands =
    absurd (subst IsStart is start)
parts_closed s _ row h ns t start stands = stands

pub text_stores : (text : List ℕ) (row : Row) (old new : NodeTable) → StoresText text row old new
    → Stores old new × StandIn text row new.texts.items
text_stores text row old new t = (
  record {
    entries = ap (λ (x : NodeTable). x.entries) t.others;
    roots = ap (λ (x : NodeTable). x.roots) t.others;
    more = record {
      more_parts = [];
      more_texts = text;
      more_properties = [];
      parts = ap (λ (x : NodeTable). x.parts.items) t.others ∙ sym (append-nil old.parts.items);
      texts = t.texts;
      properties = ap (λ (x : NodeTable). x.properties.items) t.others ∙ sym (append-nil old.properties.items);
    };
  },
  subst (StandIn text row) (sym t.texts) (stands_last text row old.texts.items t.first t.count),
)

pub stores_both : (a b c : NodeTable) → Stores a b → Stores b c → Stores a c
stores_both a b c m n = record {
  entries = n.entries ∙ m.entries;
  roots = n.roots ∙ m.roots;
  more = more_both (store_of a) (store_of b) (store_of c) m.more n.more;
}

-- what holds where a call succeeds leads to something else
pub ok_map : {T E A B : Type 0} (result : Result T E) → OnOk result A → (A → B) → OnOk result B
ok_map (Ok u) a f = f a
ok_map (Err e) a f = tt

-- the texts of a tag are stored, and then the properties
pub record Keeping (old texts noted new : NodeTable) (p : Properties) (tag : MaybeTag) : Type 0 where
  pub first : StoresTexts old texts
  pub tells : HasTagRows texts.texts.items p.tag tag
  pub notes : KeepsNodes texts noted
  pub others : new ≡ record noted { properties = new.properties }
  pub properties : new.properties.items ≡ noted.properties.items ++ p ∷ []

keeps : (old texts noted new : NodeTable) (p : Properties) (tag : MaybeTag) → Keeping old texts noted new p tag
    → Stores old new
keeps old texts noted new p tag k =
    let same = k.notes.store in
    let other = k.first.1 in record {
      entries = ap (λ (t : NodeTable). t.entries) k.others ∙ k.notes.entries ∙ ap (λ (t : NodeTable). t.entries) other;
      roots = ap (λ (t : NodeTable). t.roots) k.others ∙ k.notes.roots ∙ ap (λ (t : NodeTable). t.roots) other;
      more = record {
        more_parts = [];
        more_texts = k.first.0;
        more_properties = p ∷ [];
        parts = ap (λ (t : NodeTable). t.parts.items) k.others ∙ ap (λ (s : Store). s.parts) same
            ∙ ap (λ (t : NodeTable). t.parts.items) other ∙ sym (append-nil old.parts.items);
        texts = ap (λ (t : NodeTable). t.texts.items) k.others ∙ ap (λ (s : Store). s.texts) same ∙ k.first.2;
        properties = k.properties ∙ ap (λ (s : Store). s.properties ++ p ∷ []) same
            ∙ ap (λ (t : NodeTable). t.properties.items ++ p ∷ []) other;
      };
    }

kept_properties : (old texts noted new : NodeTable) (p : Properties) (tag : MaybeTag) (number : ℕ)
    → Keeping old texts noted new p tag → number ≡ length new.properties.items
    → StoresProperties (store_of new) number p.anchor tag
kept_properties old texts noted new p tag number k is =
    let long = ap (λ (ps : List Properties). length ps) k.properties ∙ length-append noted.properties.items (p ∷ []) in
    let next : suc (length noted.properties.items) ≡ number = omega (arith, long, is) in
    let own : new.texts.items ≡ texts.texts.items =
    ap (λ (t : NodeTable). t.texts.items) k.others ∙ ap (λ (s : Store). s.texts) k.notes.store in
    subst (λ (n : ℕ). StoresProperties (store_of new) n p.anchor tag) next (
      p,
      ap (λ (ps : List Properties). slice_get ps (length noted.properties.items)) k.properties
          ∙ get_seam noted.properties.items p [],
      refl,
      subst (λ (ts : List ℕ). HasTagRows ts p.tag tag) (sym own) k.tells,
    )

pub keeps_ok : {E : Type 0} (result : Result ℕ E) (old texts noted new : NodeTable) (p : Properties) (tag : MaybeTag)
    → Keeping old texts noted new p tag → OnOk result (Stores old new)
keeps_ok (Ok n) old texts noted new p tag k = keeps old texts noted new p tag k
keeps_ok (Err e) old texts noted new p tag k = tt

pub kept_ok : {E : Type 0} (result : Result ℕ E) (old texts noted new : NodeTable) (p : Properties) (tag : MaybeTag)
    (id long : ℕ) → Keeping old texts noted new p tag → p.anchor ≡ id → long ≡ length new.properties.items
    → IfOk result (λ number. number ≡ long)
    → IfOk result (λ number. StoresProperties (store_of new) number id tag)
kept_ok (Ok n) old texts noted new p tag id long k anchor all is =
    subst (λ (i : ℕ). StoresProperties (store_of new) n i tag) anchor
    (kept_properties old texts noted new p tag n k (is ∙ all))
kept_ok (Err e) old texts noted new p tag id long k anchor all is = tt
