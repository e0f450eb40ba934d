-- What comes after a document ends it, or begins with a document marker (YAML 1.2.2, chapter 9).
use Rattle.yaml_laws.proofs.Common.{Bool, List, [], append_assoc, arith, inl, inr, refl, slice_index, true, ℕ, ◌++◌, ◌∷◌, ◌≡◌, ◌⊎◌, not, ◌==◌, byte_order_mark, carriage_return, is_blank_or_breakz, Marker, AreIn, IsFiller, IsLastFiller, joined_pieces, Document, Forest, Node, most_open, BehindMarker, EndsContent, IsBlockNode, AreDirectives, AreDocuments, false≢true, full_stop}
use Rattle.yaml_laws.specs.Grammar.Yaml as yaml
use Rattle.yaml_laws.proofs.Flow.Fillers.{last_filler_past}
use Rattle.yaml_laws.proofs.Documents.Lines.{eol, eol_first, filler_at_line}
use Rattle.yaml_laws.proofs.Documents.Markers.{start_ends, end_ends}
use Rattle.yaml_laws.proofs.Documents.Stands.{AtLine}
use Rattle.yaml_laws.proofs.InBlock.Skips.{IsClean, skipped_clean, filler_skipped, rest_ends_clean, skipped_passes}
use Rattle.yaml_laws.proofs.InBlock.Statements.{ReadsLeaves}
use Rattle.yaml_laws.proofs.InBlock.BehindIndicators.{node_behind}
use Rattle.yaml_laws.proofs.InBlock.States.{IsStop, EndsDocument, past}

-- the documents of a text of YAML's grammar
abbrev pub AreBlockDocuments : Forest → Bool → List ℕ → Type 0
AreBlockDocuments = AreDocuments (IsBlockNode most_open)

-- texts whose breaks are line feeds
abbrev pub HasNoReturn : List ℕ → Type 0
HasNoReturn t = AreIn (λ c. not (c == carriage_return)) t

-- what comes after a document lands where it ends
abbrev pub Lands : Marker → List ℕ → Type 0
Lands m o = EndsDocument (past 0 m o).0 (past 0 m o).1

-- What comes after a document: no tab is before the next token on its line, and that token ends the document.
pub record FollowsDocument (o : List ℕ) : Type 0 where
  pub clean : IsClean o
  pub lands : (m : Marker) → AtLine o m → Lands m o

-- ## What comes after a document ends it

pub no_directives : (d : Document) (t : List ℕ) → d.directives ≡ [] → AreDirectives d.directives t → t ≡ []
no_directives d t e h = rw e at h

-- after filler a document marker or a byte order mark begins a line
marked_follows : (filler : List ℕ) (c : ℕ) (cs o : List ℕ) → IsFiller filler → o ≡ filler ++ (c ∷ cs)
    → IsStop (c ∷ cs) → EndsContent (c ∷ cs) → FollowsDocument o
marked_follows filler c cs o filler_is e stops ends =
    grind (arith, skipped_clean, filler_skipped, skipped_passes, filler_at_line)

last_clean : (o : List ℕ) → IsLastFiller o → IsClean o
last_clean o (filler, text, filler_is, (front, comment, are, k, text_is), is) =
    grind (arith, skipped_clean, filler_skipped, rest_ends_clean)

-- a `...` line before what comes after it
pub suffix_text : (filler end prefix others : List ℕ)
    → (filler ++ (full_stop ∷ full_stop ∷ full_stop ∷ (end ++ prefix))) ++ others
    ≡ filler ++ (full_stop ∷ full_stop ∷ full_stop ∷ (end ++ (prefix ++ others)))
suffix_text filler end prefix others = simp append_assoc

-- before a byte order mark and what comes after it
pub marks_text : (piece filler marks others : List ℕ) → piece ≡ filler ++ byte_order_mark ∷ []
    → (piece ++ marks) ++ others ≡ filler ++ (byte_order_mark ∷ (marks ++ others))
marks_text piece filler marks others e =
    cc (append_assoc filler (65279 ∷ []) marks, append_assoc filler (65279 ∷ marks) others)

-- after a document is a byte order mark first, after filler, or none
marks_first : (Others : Bool → List ℕ → Type 0) (o : List ℕ) → yaml.IsBehindDocument Others o
    → yaml.IsBehindMarks Others o
    ⊎ ((filler rest : List ℕ) × IsFiller filler × (o ≡ filler ++ (byte_order_mark ∷ rest)))
marks_first Others o (marks, others, ([], each, joins), h, e) = inl (rw (e, joins) h)
marks_first Others o (marks, others, (piece ∷ pieces, ((filler, filler_is, is), each), joins), h, e) =
    inr (
      filler,
      joined_pieces pieces ++ others,
      filler_is,
      cc (marks_text piece filler (joined_pieces pieces) others is),
    )

-- after `---` is a blank or a break
pub explicit_first : {limit : ℕ} → ReadsLeaves limit → (node : Node) (t others : List ℕ)
    → IsBlockNode most_open node BehindMarker t others → FollowsDocument others
    → is_blank_or_breakz (slice_index (t ++ others) 0) ≡ true
explicit_first leaves node t others h follows =
    let b = node_behind leaves node BehindMarker t others refl h follows.clean in b.first

-- Filler alone, a document marker or a byte order mark comes after a document. What is known of a `---` needs what is
-- known after its own document, so this goes by recursion over the documents.
follows_first : {limit : ℕ} → ReadsLeaves limit → (ds : Forest) (o : List ℕ)
    → yaml.IsBehindMarks (AreBlockDocuments ds) o
    ⊎ ((filler rest : List ℕ) × IsFiller filler × (o ≡ filler ++ (byte_order_mark ∷ rest))) → FollowsDocument o
follows_first leaves [] o (inl (inl h)) =
    record { clean = last_clean o h; lands = λ m line. inl (cc (last_filler_past 0 m o h)) }
follows_first leaves (d ∷ ds) o (inl (inl (filler, document, others, filler_is, inl h, behind, e))) =
    absurd (false≢true h.0)
follows_first leaves (d ∷ ds) o (inl (inl (filler, document, others, filler_is, inr (inl h, is), behind, e))) =
    absurd (false≢true h)
follows_first leaves (d ∷ ds) o
    (inl (inl (
      filler,
      document,
      others,
      filler_is,
      inr (inr none, (directives, node, explicit, compatible, directives_are, unmarked, node_is, text)),
      behind,
      e,
    ))) =
    let empty = no_directives d directives none directives_are in
    let begins : document ≡ 45 ∷ 45 ∷ 45 ∷ node = cc in
    let next = follows_first leaves ds others (marks_first (AreBlockDocuments ds) others behind) in
    marked_follows filler 45 (45 ∷ 45 ∷ (node ++ others)) o filler_is (cc) (refl, refl, refl)
    (inl (start_ends (node ++ others) (explicit_first leaves d.node node others node_is next)))
follows_first leaves ds o
    (inl (inr (suffix, others, (filler, end, prefix, filler_is, end_is, prefix_is, text), behind, e))) =
    let m : Marker = record { index = 0; line = 1; col = 0 } in
    marked_follows filler 46 (46 ∷ 46 ∷ (end ++ (prefix ++ others))) o filler_is
    (cc (suffix_text filler end prefix others)) (refl, refl, refl) (inl (end_ends (end ++ (prefix ++ others))
    (eol_first m (end ++ (prefix ++ others)) (prefix ++ others) (eol m end (prefix ++ others) end_is))))
follows_first leaves ds o (inr (filler, rest, filler_is, e)) =
    marked_follows filler 65279 rest o filler_is e (refl, refl, refl) (inr refl)

pub follows_document : {limit : ℕ} → ReadsLeaves limit → (ds : Forest) (o : List ℕ)
    → yaml.IsBehindDocument (AreBlockDocuments ds) o → FollowsDocument o
follows_document leaves ds o h = follows_first leaves ds o (marks_first (AreBlockDocuments ds) o h)
