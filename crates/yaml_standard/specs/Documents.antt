-- Parts of documents and of streams (YAML 1.2.2, chapter 9), and what is left of a stream while it is read.
use Rattle.std.specs.Prelude.{◌≡◌, ◌⊎◌, Bool, true, false, List, [], ◌++◌, IsTrue, IsFalse, codes, ℕ}
use Rattle.scalar_laws.specs.Spelling.Spaces.{IsEol, IsFiller}
use Rattle.saphyr_scanner.specs.Grammar.Forest.{AreCompatible, Directive, Document, Forest, Node}
use Rattle.saphyr_scanner.specs.Limits.{most_open}
use Rattle.yaml_laws.specs.Grammar.BlockNodes.{Position, AtStart, BehindMarker, IsBlockNode}
use Rattle.yaml_laws.specs.Grammar.Yaml.{AreDirectives, AreDocuments, IsBehindDocument, IsDocument, IsDocumentPrefix, IsMarkBehindFiller, IsStream, has_marker}
use Rattle.yaml_standard.specs.Takes.{TakesBefore}

-- 9.1.2 [205]: a `...` line, with filler before it
abbrev pub IsEndLine : List ℕ → List ℕ → Type 0
IsEndLine t behind = (filler end : List ℕ) × IsFiller filler × IsEol end behind × (t ≡ filler ++ (codes "..." ++ end))

-- one of what may come before a document
abbrev pub IsPrefixPart : List ℕ → List ℕ → Type 0
IsPrefixPart t behind = IsMarkBehindFiller t ⊎ IsEndLine t behind

-- Where what may come before a document comes at `now`, it comes at `start`.
abbrev pub ContinuesPrefix : List ℕ → List ℕ → Type 0
ContinuesPrefix start now =
    (behind : List ℕ) → TakesBefore IsDocumentPrefix now behind → TakesBefore IsDocumentPrefix start behind

-- `---`, and directives before it where the document is free
abbrev pub IsFront : Bool → List ℕ → Type 0
IsFront free t =
    (directives : List ℕ) × (ds : List Directive) × (IsTrue free ⊎ (ds ≡ [])) × AreCompatible ds
    × AreDirectives ds directives × (t ≡ directives ++ codes "---")

-- where the node of a document is, bare or not
abbrev pub place_of_content : Bool → Position
place_of_content true = AtStart
place_of_content false = BehindMarker

-- the node of a document, bare or not
abbrev pub IsDocumentNode : Bool → List ℕ → List ℕ → Type 0
IsDocumentNode is_bare t behind =
    (node : Node) × IsFalse (has_marker is_bare t) × IsBlockNode most_open node (place_of_content is_bare) t behind

abbrev pub IsSomeDocument : Bool → List ℕ → List ℕ → Type 0
IsSomeDocument free t behind = (d : Document) × IsDocument (IsBlockNode most_open) d free t behind

abbrev pub AreFurther : Forest → Bool → List ℕ → Type 0
AreFurther forest free t = AreDocuments (IsBlockNode most_open) forest free t

abbrev pub AreSomeFurther : Bool → List ℕ → Type 0
AreSomeFurther free t = (forest : Forest) × AreFurther forest free t

abbrev pub IsSomeStream : List ℕ → Type 0
IsSomeStream t = (forest : Forest) × IsStream (IsBlockNode most_open) forest t

-- Documents at `now`, where one is free or not, come behind a document that ends at `start`.
abbrev pub ComesBehind : List ℕ → Bool → List ℕ → Type 0
ComesBehind start free now =
    (forest : Forest) → AreFurther forest free now → IsBehindDocument (AreFurther forest) start

-- With documents at `now`, where one is free or not, there are documents from `start` on.
abbrev pub ContinuesDocuments : Bool → List ℕ → Bool → List ℕ → Type 0
ContinuesDocuments first start free now = AreSomeFurther free now → AreSomeFurther first start
