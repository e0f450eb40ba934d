-- What is around documents, documents, and streams.
use Rattle.std.proofs.Common.{◌≡◌, ℕ, ◌<◌, ◌≤◌, Bool, true, false, List, [], ◌∷◌, ◌++◌, refl, sym, ap, ◌∙◌, subst, arith, append_assoc, length, length-append, inl, inr}
use Rattle.std.specs.Prelude.{◌==◌, ◌&&◌, ◌||◌, IfOk, IsTrue, IsFalse, Result, codes}
use Rattle.std.proofs.lemmas.Result.{IfOk-weaker}
use Rattle.saphyr_input.specs.Places.{is_document_indicator}
use Rattle.scalar_laws.specs.Spelling.Spaces.{AreMany, IsEol, IsFiller, IsLastFiller}
use Rattle.saphyr_scanner.specs.Grammar.Forest.{Node, bare}
use Rattle.saphyr_scanner.specs.Limits.{most_open}
use Rattle.yaml_laws.specs.Grammar.BlockNodes.{IsBlockNode, Position}
use Rattle.yaml_laws.specs.Grammar.Yaml.{IsDocumentPrefix, IsDocumentSuffix, IsMarkBehindFiller, end_prefix, has_marker, mark_prefix, no_prefix}
use Rattle.yaml_standard.specs.Directives.{AreSomeDirectives}
use Rattle.yaml_standard.specs.Documents.{AreSomeFurther, ComesBehind, ContinuesDocuments, ContinuesPrefix, IsDocumentNode, IsEndLine, IsFront, IsPrefixPart, IsSomeDocument, IsSomeStream, place_of_content}
use Rattle.yaml_standard.specs.Takes.{TakesOff, TakesBefore}
use Rattle.yaml_standard.proofs.Pieces.{known_then, nothing_taken, taken_so, then, then_known}
use Rattle.yaml_standard.proofs.Separation.{shorter_by}

-- ## Byte order marks and `...` lines

pub mark_taken : (a b c : List ℕ) → TakesOff IsFiller a b → b ≡ 65279 ∷ c → TakesOff IsMarkBehindFiller a c
mark_taken a b c s e = then_known (65279 ∷ []) (λ p k. (p, k, refl)) s e

pub three_taken : (x : ℕ) (a b c d : List ℕ) → a ≡ x ∷ b → b ≡ x ∷ c → c ≡ x ∷ d → a ≡ x ∷ x ∷ x ∷ d
three_taken x a b c d e f g = e ∙ ap (λ t. x ∷ t) (f ∙ ap (λ t. x ∷ t) g)

abbrev IsDotsBefore : List ℕ → List ℕ → Type 0
IsDotsBefore behind t = (end : List ℕ) × IsEol end behind × (t ≡ codes "..." ++ end)

pub end_line : (a b c d : List ℕ) → TakesOff IsFiller a b → b ≡ codes "..." ++ c → TakesBefore IsEol c d
    → TakesBefore IsEndLine a d
end_line a b c d s e t =
    then {P = IsFiller} {Q = IsDotsBefore d} (λ p q k h. (p, h.0, k, h.1, ap (λ x. p ++ x) h.2)) s
    (known_then (codes "...") (λ q k. (q, k, refl)) e t)

pub part_of_mark : (a b : List ℕ) → TakesOff IsMarkBehindFiller a b → TakesBefore IsPrefixPart a b
part_of_mark a b t = taken_so (λ p k. inl k) t

pub part_of_line : (a b : List ℕ) → TakesBefore IsEndLine a b → TakesBefore IsPrefixPart a b
part_of_line a b t = taken_so (λ p k. inr k) t

-- a piece that ends with known characters, and what is behind it
joined : (a b c p q r known t : List ℕ) → a ≡ p ++ b → p ≡ q ++ (known ++ r) → b ≡ t ++ c
    → a ≡ (q ++ (known ++ (r ++ t))) ++ c
joined a b c p q r known t e f g =
    e ∙ ap (λ x. x ++ b) f ∙ append_assoc q (known ++ r) b
    ∙ ap (λ x. q ++ x) (append_assoc known r b ∙ ap (λ x. known ++ (r ++ x)) g
    ∙ ap (λ x. known ++ x) (sym (append_assoc r t c)) ∙ sym (append_assoc known (r ++ t) c))
    ∙ sym (append_assoc q (known ++ (r ++ t)) c)

prefix_behind_mark : (a b c p : List ℕ) → a ≡ p ++ b → IsMarkBehindFiller p → TakesBefore IsDocumentPrefix b c
    → TakesBefore IsDocumentPrefix a c
prefix_behind_mark a b c p e m t = record {
  piece = m.0 ++ (65279 ∷ t.piece);
  is = mark_prefix m.0 t.piece c m.1 t.is;
  cut = joined a b c p m.0 [] (65279 ∷ []) t.piece e m.2 t.cut;
}

prefix_behind_line : (a b c p : List ℕ) → a ≡ p ++ b → IsEndLine p b → TakesBefore IsDocumentPrefix b c
    → TakesBefore IsDocumentPrefix a c
prefix_behind_line a b c p e l t = record {
  piece = l.0 ++ (codes "..." ++ (l.1 ++ t.piece));
  is = end_prefix l.0 l.1 t.piece c l.2 (subst (λ x. IsEol l.1 x) t.cut l.3) t.is;
  cut = joined a b c p l.0 l.1 (codes "...") t.piece e l.4 t.cut;
}

prefix_behind_part : (a b c p : List ℕ) → a ≡ p ++ b → IsPrefixPart p b → TakesBefore IsDocumentPrefix b c
    → TakesBefore IsDocumentPrefix a c
prefix_behind_part a b c p e (inl m) t = prefix_behind_mark a b c p e m t
prefix_behind_part a b c p e (inr l) t = prefix_behind_line a b c p e l t

pub nothing_before : (a : List ℕ) → ContinuesPrefix a a
nothing_before a behind t = t

pub part_before : (a b c : List ℕ) → ContinuesPrefix a b → TakesBefore IsPrefixPart b c → ContinuesPrefix a c
part_before a b c f s behind t = f behind (prefix_behind_part b c behind s.piece s.cut s.is t)

pub prefix_taken : (a b : List ℕ) → ContinuesPrefix a b → TakesBefore IsDocumentPrefix a b
prefix_taken a b f = f b (nothing_taken (λ t. IsDocumentPrefix t b) b (no_prefix b))

pub mark_shorter : (a b : List ℕ) → TakesOff IsMarkBehindFiller a b → length b < length a
mark_shorter a b t =
    let l = length-append t.is.0 (65279 ∷ []) in
    shorter_by a b t.piece t.cut (rw (ap length t.is.2) (omega (arith, l)))

part_some : (p b : List ℕ) → IsPrefixPart p b → 1 ≤ length p
part_some p b (inl m) = let l = length-append m.0 (65279 ∷ []) in rw (ap length m.2) (omega (arith, l))
part_some p b (inr l) =
    let k = length-append l.0 (codes "..." ++ l.1) in rw (ap length l.4) (omega (arith, k))

pub part_shorter : (a b : List ℕ) → TakesBefore IsPrefixPart a b → length b < length a
part_shorter a b t = shorter_by a b t.piece t.cut (part_some t.piece b t.is)

pub suffix_taken : (a b c : List ℕ) → TakesBefore IsEndLine a b → TakesBefore IsDocumentPrefix b c
    → TakesBefore IsDocumentSuffix a c
suffix_taken a b c s t =
    let l = s.is in record {
      piece = l.0 ++ (codes "..." ++ (l.1 ++ t.piece));
      is = (l.0, l.1, t.piece, l.2, subst (λ x. IsEol l.1 x) t.cut l.3, t.is, refl);
      cut = joined a b c s.piece l.0 l.1 (codes "...") t.piece s.cut l.4 t.cut;
    }

-- ## Markers

pub marker_here : (begins : Bool) (c : ℕ) (a b : List ℕ) → a ≡ c ∷ b
    → (begins && is_document_indicator a) ≡ true → has_marker begins a ≡ true
marker_here begins c a b e h =
    rw e (ap (λ x. x || has_marker (c == 10) b) (subst (λ x. (begins && is_document_indicator x) ≡ true) e h))

-- ## Documents

pub marker_alone : (free : Bool) (a b : List ℕ) → a ≡ codes "---" ++ b → TakesOff (IsFront free) a b
marker_alone free a b e = record { piece = codes "---"; is = ([], [], inr refl, tt, refl, refl); cut = e }

pub marker_taken : (a b c : List ℕ) → TakesOff AreSomeDirectives a b → b ≡ codes "---" ++ c
    → TakesOff (IsFront true) a c
marker_taken a b c s e = then_known (codes "---") (λ p k. (p, k.0, inl refl, k.1, k.2, refl)) s e

pub content_taken : (is_bare : Bool) (place : Position) (a b : List ℕ) → place ≡ place_of_content is_bare
    → TakesBefore (λ t behind. (node : Node) × IsBlockNode most_open node place t behind) a b
    → ((t : List ℕ) → a ≡ t ++ b → IsFalse (has_marker is_bare t)) → TakesBefore (IsDocumentNode is_bare) a b
content_taken is_bare place a b e s unmarked = record {
  piece = s.piece;
  is = (
    s.is.0,
    unmarked s.piece s.cut,
    subst (λ x. IsBlockNode most_open s.is.0 x s.piece b) e s.is.1,
  );
  cut = s.cut;
}

pub explicit_taken : (free : Bool) (a b c : List ℕ) → TakesOff (IsFront free) a b
    → TakesBefore (IsDocumentNode false) b c
    → TakesBefore (IsSomeDocument free) a c
explicit_taken free a b c s t =
    then {P = IsFront free} {Q = λ x. IsDocumentNode false x c}
    (λ p q k h. (
      record { explicit = true; directives = k.1; node = h.0 },
      inr (
        k.2,
        (k.0, q, refl, k.3, k.4, h.1, h.2, ap (λ x. x ++ q) k.5 ∙ append_assoc k.0 (codes "---") q),
      ),
    )) s t

pub bare_taken : (free : Bool) (a b : List ℕ) → IsTrue free → TakesBefore (IsDocumentNode true) a b
    → TakesBefore (IsSomeDocument free) a b
bare_taken free a b is_free t = taken_so (λ p k. (bare k.0, inl (is_free, (refl, k.1, k.2)))) t

-- what an inner result tells
pub both_ok : {T E F : Type 0} (r : Result (Result T E) F) (P Q : T → Type 0) → ((x : T) → P x → Q x)
    → IfOk r (λ inner. IfOk inner P) → IfOk r (λ inner. IfOk inner Q)
both_ok r P Q f h =
    IfOk-weaker r (λ inner. IfOk inner P) (λ inner. IfOk inner Q) (λ inner k. IfOk-weaker inner P Q f k) h

-- ## Streams

pub behind_marks_alone : (a b : List ℕ) → TakesOff (AreMany IsMarkBehindFiller) a b → ComesBehind a false b
behind_marks_alone a b m forest docs = (m.piece, b, m.is, inl docs, m.cut)

pub behind_suffix : (a b c : List ℕ) → TakesOff (AreMany IsMarkBehindFiller) a b → TakesBefore IsDocumentSuffix b c
    → ComesBehind a true c
behind_suffix a b c m s forest docs = (m.piece, b, m.is, inr (s.piece, c, s.is, docs, s.cut), m.cut)

pub stream_begins : (a b : List ℕ) → TakesBefore IsDocumentPrefix a b → AreSomeFurther true b → IsSomeStream a
stream_begins a b t docs = (docs.0, (t.piece, b, t.is, docs.1, t.cut))

pub documents_begin : (a : List ℕ) (free : Bool) → ContinuesDocuments free a free a
documents_begin a free docs = docs

pub documents_continue : (start a b c d : List ℕ) (first free next_free : Bool) → ContinuesDocuments first start free a
    → TakesOff IsFiller a b → TakesBefore (IsSomeDocument free) b c → ComesBehind c next_free d
    → ContinuesDocuments first start next_free d
documents_continue start a b c d first free next_free f filler document behind docs =
    f (
      document.is.0 ∷ docs.0,
      (
        filler.piece,
        document.piece,
        c,
        filler.is,
        document.is.1,
        behind docs.0 docs.1,
        filler.cut ∙ ap (λ x. filler.piece ++ x) document.cut,
      ),
    )

pub documents_end : (start a : List ℕ) (first free : Bool) → ContinuesDocuments first start free a → IsLastFiller a
    → AreSomeFurther first start
documents_end start a first free f last = f ([], last)
