-- Pairs of block mappings, put together from their parts.
use Rattle.std.proofs.Common.{◌≡◌, ◌≢◌, ℕ, suc, ◌+◌, ◌≤◌, arith, Bool, true, false, List, [], ◌∷◌, ◌++◌, length, refl, sym, ap, ◌∙◌, append_assoc, not, subst, inl, inr}
use Rattle.std.specs.Prelude.{◌==◌}
use Rattle.std.proofs.lemmas.List.{append-nil}
use Rattle.saphyr_input.specs.Classes.{is_blank}
use Rattle.saphyr_scalar.specs.Spelling.Tag.{AreIn}
use Rattle.scalar_laws.proofs.Beginnings.{front_in}
use Rattle.saphyr_scanner.specs.Grammar.Forest.{Node, Alias, Scalar, Seq, Map, left_out}
use Rattle.yaml_laws.specs.Grammar.FlowNodes.{IsBeforeColon, IsFlowNode, IsKeyText, IsOnLine}
use Rattle.yaml_laws.specs.Grammar.BlockNodes.{BehindKey, BehindMark, IsValueMark, has_tab_ahead, is_value_ahead}
use Rattle.yaml_standard.specs.declared.goal.Kind.TheVariants as kind
use Rattle.yaml_standard.specs.FlowParts.{IsColonOrKey}
use Rattle.yaml_standard.specs.Goals.{HoldsOfFront, IsAfterMarkedKey, IsBlockEntry, IsBlockNodeAt, IsCollection, IsColonBefore, IsSomeCollection, IsSomeNode}
use Rattle.yaml_standard.specs.Leaves.{IsKeyAndColon, IsShortLine}
use Rattle.yaml_standard.specs.Takes.{TakesOff, TakesBefore}
use Rattle.yaml_standard.proofs.Collections.{flow}
use Rattle.yaml_standard.proofs.BlockNodes.{cut_twice}
use Rattle.yaml_standard.proofs.Pieces.{known_then}

-- ## Keys after a `?`

abbrev pub IsBehindKey : ℕ → List ℕ → List ℕ → List ℕ → Type 0
IsBehindKey m start t behind = HoldsOfFront (λ key. key ≢ []) start (t ++ behind) × IsAfterMarkedKey m t behind

key_alone : (m : ℕ) (b d : List ℕ) (key : Node) (node : List ℕ) → has_tab_ahead false b ≡ false → b ≡ node ++ d
    → node ≢ [] → IsBlockNodeAt key (BehindMark m) node d → is_value_ahead false m 0 d ≡ false
    → IsBlockEntry kind.Mapping m (63 ∷ node) d
key_alone m b d key node no_tab e some is_key none =
    (key, left_out, inr (inl (node, refl, (some, ap (has_tab_ahead false) (sym e) ∙ no_tab), is_key, none, refl)))

marked : (m : ℕ) (b d : List ℕ) (key : Node) (node rest : List ℕ) → has_tab_ahead false b ≡ false
    → b ≡ node ++ (rest ++ d) → node ≢ [] → IsBlockNodeAt key (BehindMark m) node (rest ++ d)
    → IsAfterMarkedKey m rest d
    → IsBlockEntry kind.Mapping m (63 ∷ (node ++ rest)) d
marked m b d key node rest no_tab e some is_key (inl (none, no_value)) =
    subst (λ (x : List ℕ). IsBlockEntry kind.Mapping m (63 ∷ x) d) (sym (ap (λ x. node ++ x) none ∙ append-nil node))
    (key_alone m b d key node no_tab (e ∙ ap (λ x. node ++ (x ++ d)) none) some
    (subst (λ (x : List ℕ). IsBlockNodeAt key (BehindMark m) node (x ++ d)) none is_key) no_value)
marked m b d key node rest no_tab e some is_key (inr (colon, text, value, mark, is_value, cut)) =
    let same = ap (λ x. x ++ d) cut ∙ append_assoc colon text d in (
      key,
      value,
      inr (inr (
        node,
        colon,
        text,
        (some, ap (has_tab_ahead false) (sym (e ∙ ap (λ x. node ++ x) same)) ∙ no_tab),
        subst (λ (x : List ℕ). IsBlockNodeAt key (BehindMark m) node x) same is_key,
        mark,
        is_value,
        ap (λ x. 63 ∷ (node ++ x)) cut,
      )),
    )

pub marked_pair : (m : ℕ) (a b c d : List ℕ) → a ≡ 63 ∷ b → has_tab_ahead false b ≡ false
    → TakesBefore (IsSomeNode (BehindMark m)) b c → TakesBefore (IsBehindKey m b) c d
    → TakesBefore (IsBlockEntry kind.Mapping m) a d
marked_pair m a b c d e no_tab key rest =
    let whole = key.cut ∙ ap (λ x. key.piece ++ x) rest.cut in
    record {
      piece = 63 ∷ (key.piece ++ rest.piece);
      is = marked m b d key.is.0 key.piece rest.piece no_tab whole (rest.is.0 key.piece whole)
          (subst (λ (x : List ℕ). IsBlockNodeAt key.is.0 (BehindMark m) key.piece x) rest.cut key.is.1) rest.is.1;
      cut = e ∙ ap (λ x. 63 ∷ x) (cut_twice key.piece rest.piece d key.cut rest.cut);
    }

pub value_after_mark : (m : ℕ) (start a b c : List ℕ) → HoldsOfFront (λ key. key ≢ []) start a
    → TakesOff (IsValueMark m) a b → TakesBefore (IsSomeNode (BehindMark m)) b c
    → TakesBefore (IsBehindKey m start) a c
value_after_mark m start a b c some mark value =
    let cut = cut_twice mark.piece value.piece c mark.cut value.cut in
    record {
      piece = mark.piece ++ value.piece;
      is = (
        subst (λ (x : List ℕ). HoldsOfFront (λ key. key ≢ []) start x) cut some,
        inr (mark.piece, value.piece, value.is.0, mark.is, value.is.1, refl),
      );
      cut = cut;
    }

pub no_value_after_mark : (m : ℕ) (start a : List ℕ) → HoldsOfFront (λ key. key ≢ []) start a
    → is_value_ahead false m 0 a ≡ false → TakesBefore (IsBehindKey m start) a a
no_value_after_mark m start a some none = record { piece = []; is = (some, inl (refl, none)); cut = refl }

-- ## Keys on one line

implicit_pair : (m : ℕ) (key value : Node) (a b c node between text : List ℕ)
    → IsKeyText (IsFlowNode 255 key false (suc m)) key false (suc m) node between → IsOnLine node
    → AreIn is_blank between → IsBeforeColon key between → length (node ++ between) ≤ 1024
    → IsBlockNodeAt value (BehindKey m) text c → a ≡ node ++ (between ++ (58 ∷ b)) → b ≡ text ++ c
    → TakesBefore (IsBlockEntry kind.Mapping m) a c
implicit_pair m key value a b c node between text is_key line blanks before short is_value e f = record {
  piece = node ++ (between ++ (58 ∷ text));
  is = (key, value, inl (inl (node, between, text, is_key, line, blanks, before, short, is_value, refl)));
  cut = cut_twice node (between ++ (58 ∷ text)) c e
      (cut_twice between (58 ∷ text) c refl (ap (λ x. 58 ∷ x) f));
}

leaf_pair : (m : ℕ) (adjacent : Bool) (a b c : List ℕ) → TakesOff (IsKeyAndColon false (suc m) true adjacent) a b
    → TakesBefore (IsSomeNode (BehindKey m)) b c → TakesBefore (IsBlockEntry kind.Mapping m) a c
leaf_pair m adjacent a b c key value =
    let is = key.is in
    let line = is.line refl in
    implicit_pair m is.key value.is.0 a b c is.node is.separation value.piece (is.is 255) line.0 line.1
    is.before_colon (is.short refl) value.is.1
    (key.cut ∙ ap (λ x. x ++ b) is.cut ∙ append_assoc is.node (is.separation ++ 58 ∷ []) b
    ∙ ap (λ x. is.node ++ x) (append_assoc is.separation (58 ∷ []) b)) value.cut

keyless_pair : (m : ℕ) (a b c : List ℕ) → a ≡ 58 ∷ b → TakesBefore (IsSomeNode (BehindKey m)) b c
    → TakesBefore (IsBlockEntry kind.Mapping m) a c
keyless_pair m a b c e value =
    known_then {Q = λ x. IsSomeNode (BehindKey m) x c} (58 ∷ [])
    (λ q k. (left_out, k.0, inl (inr (q, refl, k.1, refl)))) e value

pub key_and_node : (m indent : ℕ) (adjacent : Bool) (a b c : List ℕ) → indent ≡ m + 1
    → TakesOff (IsColonOrKey false indent true adjacent) a b → TakesBefore (IsSomeNode (BehindKey m)) b c
    → TakesBefore (IsBlockEntry kind.Mapping m) a c
key_and_node m indent adjacent a b c e key value =
    let same : indent ≡ suc m = omega (arith, e) in
    by_kind (subst (λ (n : ℕ). IsColonOrKey false n true adjacent key.piece) same key.is)
  where
    by_kind : IsColonOrKey false (suc m) true adjacent key.piece → TakesBefore (IsBlockEntry kind.Mapping m) a c
    by_kind (inl (colon, off)) = keyless_pair m a b c (key.cut ∙ ap (λ x. x ++ b) colon) value
    by_kind (inr is) = leaf_pair m adjacent a b c (record { piece = key.piece; is = is; cut = key.cut }) value

collection_is_key : (node : Node) (indent : ℕ) (t between : List ℕ) → IsCollection node
    → IsFlowNode 255 node true indent t
    → IsKeyText (IsFlowNode 255 node false indent) node false indent t between × IsBeforeColon node between
collection_is_key (Alias name) indent t between is h = absurd is
collection_is_key (Scalar p style value) indent t between is h = absurd is
collection_is_key (Seq p nodes) indent t between is h = (inl h, inr refl)
collection_is_key (Map p pairs) indent t between is h = (inl h, inr refl)

pub collection_pair : (m indent : ℕ) (a b c d : List ℕ) → indent ≡ m + 1
    → TakesOff (IsSomeCollection (flow 255 indent)) a b
    → TakesBefore (IsColonBefore a) b c → TakesBefore (IsSomeNode (BehindKey m)) c d
    → TakesBefore (IsBlockEntry kind.Mapping m) a d
collection_pair m indent a b c d e key colon value =
    let same : indent ≡ suc m = omega (arith, e) in
    let is = subst (λ (n : ℕ). IsSomeCollection (flow 255 n) key.piece) same key.is in
    let blanks = colon.is.0 in
    let is_key = collection_is_key is.0 (suc m) key.piece blanks is.1 is.2 in
    let cut : a ≡ key.piece ++ (blanks ++ (58 ∷ c)) =
    key.cut ∙ ap (λ x. key.piece ++ x) (colon.cut ∙ ap (λ x. x ++ c) colon.is.3 ∙ append_assoc blanks (58 ∷ []) c) in
    let line = colon.is.2 (key.piece ++ blanks) (cut ∙ sym (append_assoc key.piece blanks (58 ∷ c))) in
    implicit_pair m is.0 value.is.0 a c d key.piece blanks value.piece is_key.0
    (front_in (λ y. not (y == 10)) key.piece blanks line.0) colon.is.1 is_key.1 line.1 value.is.1 cut value.cut

pub colon_taken : (start a b c : List ℕ) → TakesOff (AreIn is_blank) a b → HoldsOfFront IsShortLine start b → b ≡ 58 ∷ c
    → TakesBefore (IsColonBefore start) a c
colon_taken start a b c blanks short colon = record {
  piece = blanks.piece ++ 58 ∷ [];
  is = (blanks.piece, blanks.is, subst (λ (x : List ℕ). HoldsOfFront IsShortLine start x) colon short, refl);
  cut = cut_twice blanks.piece (58 ∷ []) c blanks.cut colon;
}
