-- The grammar of YAML: streams of documents and the forests that they stand for (YAML 1.2.2, chapter 9).
use Rattle.std.specs.Prelude.{◌≡◌, ℕ, ◌==◌, ◌&&◌, ◌||◌, ◌⊎◌, Bool, true, false, List, [], ◌∷◌, ◌++◌, IsTrue, IsFalse, codes}
use Rattle.saphyr_input.specs.Breaks.{normalized}
use Rattle.saphyr_input.specs.Classes.{byte_order_mark, line_feed}
use Rattle.saphyr_input.specs.Places.{is_document_indicator}
use Rattle.saphyr_scalar.specs.Spelling.Directive.{IsVersionDirective, IsTagDirective, IsReservedDirective, IsLineTail}
use Rattle.scalar_laws.specs.Spelling.Spaces.{AreMany, IsFiller, IsLastFiller, IsEol}
use Rattle.saphyr_scanner.specs.Grammar.Forest.{Directive, Version, TagPrefix, Reserved, AreCompatible, bare, Node, Document, Forest}
use Rattle.yaml_laws.specs.Grammar.TagSpelling.{IsHandle}
use Rattle.yaml_laws.specs.Grammar.BlockNodes.{Position, AtStart, BehindMarker, IsBlockNode}

-- ## 6.8: directives

-- a directive, and after it on its line blanks and a comment or none; of a reserved one the line is all its own
abbrev pub IsDirective : Directive → List ℕ → Type 0
IsDirective (Version major minor) t =
    (directive tail : List ℕ) × IsVersionDirective major minor directive × IsLineTail tail × (t ≡ directive ++ tail)
IsDirective (TagPrefix handle prefix) t =
    (written directive tail : List ℕ) × IsHandle handle written × IsTagDirective written prefix directive
    × IsLineTail tail × (t ≡ directive ++ tail)
IsDirective (Reserved name) t = IsReservedDirective name t

-- directive lines, and filler after each
abbrev pub AreDirectives : List Directive → List ℕ → Type 0
AreDirectives [] t = t ≡ []
AreDirectives (d ∷ others) t =
    (directive filler more : List ℕ) × IsDirective d directive × IsFiller filler × AreDirectives others more
    × (t ≡ directive ++ (codes "\n" ++ (filler ++ more)))

-- ## 9.1: documents

-- 9.1.2 [206]: whether a document marker begins a line of a text, which is at a line's start or elsewhere
abbrev pub has_marker : Bool → List ℕ → Bool
has_marker at_start [] = false
has_marker at_start (c ∷ others) =
    (at_start && is_document_indicator (c ∷ others)) || has_marker (c == line_feed) others

-- Below, N holds of a node, its place, its text, and what comes after that.
abbrev pub NodeTexts : Type 1
NodeTexts = Node → Position → List ℕ → List ℕ → Type 0

-- 9.1.3 [207]: a bare document, whose node is not left out
abbrev pub IsBareDocument : NodeTexts → Document → List ℕ → List ℕ → Type 0
IsBareDocument N d t behind = (d ≡ bare d.node) × IsFalse (has_marker true t) × N d.node AtStart t behind

-- 9.1.4, 9.1.5 [208], [209]: an explicit document, its directives before it
abbrev pub IsExplicitDocument : NodeTexts → Document → List ℕ → List ℕ → Type 0
IsExplicitDocument N d t behind =
    (directives node : List ℕ) × (d.explicit ≡ true) × AreCompatible d.directives
    × AreDirectives d.directives directives × IsFalse (has_marker false node) × N d.node BehindMarker node behind
    × (t ≡ directives ++ (codes "---" ++ node))

-- A document. It may be bare or have directives only where it is free: at the start of the stream and after a `...`
-- line.
abbrev pub IsDocument : NodeTexts → Document → Bool → List ℕ → List ℕ → Type 0
IsDocument N d free t behind =
    (IsTrue free × IsBareDocument N d t behind)
    ⊎ ((IsTrue free ⊎ (d.directives ≡ [])) × IsExplicitDocument N d t behind)

-- ## 9.2: streams

-- 9.1.1, 9.1.2 [202], [205]: what may be where a document is free, before `behind`: byte order marks and `...`
-- lines, any number of them, with filler before each
pub data IsDocumentPrefix : List ℕ → List ℕ → Type 0 where
  no_prefix : (behind : List ℕ) → IsDocumentPrefix [] behind
  mark_prefix : (filler others behind : List ℕ) → IsFiller filler → IsDocumentPrefix others behind
      → IsDocumentPrefix (filler ++ (byte_order_mark ∷ others)) behind
  end_prefix : (filler end others behind : List ℕ) → IsFiller filler → IsEol end (others ++ behind)
      → IsDocumentPrefix others behind
      → IsDocumentPrefix (filler ++ (codes "..." ++ (end ++ others))) behind

-- 9.1.2 [205]: a `...` line after filler, and after it what may come before a document
abbrev pub IsDocumentSuffix : List ℕ → List ℕ → Type 0
IsDocumentSuffix t behind =
    (filler end prefix : List ℕ) × IsFiller filler × IsEol end (prefix ++ behind) × IsDocumentPrefix prefix behind
    × (t ≡ filler ++ (codes "..." ++ (end ++ prefix)))

-- 5.2 [3]: a byte order mark, with filler before it
abbrev pub IsMarkBehindFiller : List ℕ → Type 0
IsMarkBehindFiller t = (filler : List ℕ) × IsFiller filler × (t ≡ filler ++ byte_order_mark ∷ [])

-- after a document: what Others tells, or a `...` line first
abbrev pub IsBehindMarks : (Bool → List ℕ → Type 0) → List ℕ → Type 0
IsBehindMarks Others t =
    Others false t ⊎ ((suffix others : List ℕ) × IsDocumentSuffix suffix others × Others true others
    × (t ≡ suffix ++ others))

-- 9.2 [211]: the same after byte order marks, any number of them
abbrev pub IsBehindDocument : (Bool → List ℕ → Type 0) → List ℕ → Type 0
IsBehindDocument Others t =
    (marks others : List ℕ) × AreMany IsMarkBehindFiller marks × IsBehindMarks Others others × (t ≡ marks ++ others)

-- documents, with filler between and after them
abbrev pub AreDocuments : NodeTexts → Forest → Bool → List ℕ → Type 0
AreDocuments N [] free t = IsLastFiller t
AreDocuments N (d ∷ ds) free t =
    (filler document others : List ℕ) × IsFiller filler × IsDocument N d free document others
    × IsBehindDocument (AreDocuments N ds) others × (t ≡ filler ++ (document ++ others))

-- a stream: what may come before a document, and documents
abbrev pub IsStream : NodeTexts → Forest → List ℕ → Type 0
IsStream N forest t = (prefix others : List ℕ) × IsDocumentPrefix prefix others × AreDocuments N forest true others
    × (t ≡ prefix ++ others)

-- ## The grammar of YAML

-- Below, at most `room` flow collections are open at once. Block collections are not counted.

-- on texts whose breaks are line feeds
abbrev pub IsYaml : ℕ → Forest → List ℕ → Type 0
IsYaml room forest t = IsStream (IsBlockNode room) forest t

-- 5.4 [28]: a text of YAML's grammar, whatever its breaks are
abbrev pub IsYamlText : ℕ → Forest → List ℕ → Type 0
IsYamlText room forest t = IsYaml room forest (normalized t)
