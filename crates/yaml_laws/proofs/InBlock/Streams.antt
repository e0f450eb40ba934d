-- The scanner takes a text of YAML's grammar and makes tokens of its forest.
use Rattle.yaml_laws.proofs.Common.{Bool, List, [], ap, append-nil, append_assoc, arith, false, inl, inr, length, refl, true, ℕ, ◌++◌, ◌∙◌, ◌∷◌, ◌≡◌, ◌≤◌, ◌⊎◌, None, not, ◌==◌, carriage_return, start_cursor, AreIn, Forest, most_open, Kind, State, start, LeadsTo, IsDocumentPrefix, IsYaml, end_prefix, mark_prefix, no_prefix, or-true, back_in, front_in, place_kinds, AreEach, joined_pieces, AreEndsAndMarks, Yields, stream_start_place, fetches_stream_start}
use Rattle.saphyr_scanner.specs.Grammar.Tokens as tokens
use Rattle.saphyr_scanner.specs.Grammar.TokenGrammar as grammar
use Rattle.yaml_laws.specs.Grammar.Yaml as yaml
use Rattle.yaml_laws.proofs.Flow.Fillers.{last_filler_past}
use Rattle.yaml_laws.proofs.Documents.Lines.{passes_filler}
use Rattle.yaml_laws.proofs.Documents.Stands.{StandsLined, lined_so, unfree}
use Rattle.yaml_laws.proofs.Documents.Markers.{reads_mark, reads_end, FinishesStream, reads_stream_end}
use Rattle.yaml_laws.proofs.InBlock.States.{crosses, moved, ReaderPromises}
use Rattle.yaml_laws.proofs.InBlock.Follows.{follows_itself}
use Rattle.yaml_laws.proofs.InBlock.Statements.{ReadsLeaves}
use Rattle.yaml_laws.proofs.InBlock.Documents.Ends.{AreBlockDocuments, HasNoReturn, suffix_text, follows_document, marks_text}
use Rattle.yaml_laws.proofs.InBlock.Documents.{reads_document}
use Rattle.yaml_laws.proofs.InBlock.Documents.Comes.{ComesIn, comes_so, comes_behind_filler, comes_behind_mark, comes_behind_end, document_comes}
use Rattle.yaml_laws.proofs.InBlock.LineStarts.{no_line, last_unmarked}

-- ## Between documents

-- The scanner has read what may come before a document. It comes to each document marker on the way, if it comes to
-- those after it.
pub record PrefixStands (limit : ℕ) (start : State) (prefix others : List ℕ) (ts : List Kind) : Type 0 where
  pub marks : List Kind
  pub are : AreEndsAndMarks marks
  pub stands : StandsLined limit start true true others (ts ++ marks)
  pub comes : ComesIn limit start others → ComesIn limit start (prefix ++ others)

with_mark : {limit : ℕ} {start : State} {prefix front others : List ℕ} (ts : List Kind) (k : Kind)
    → (k ≡ tokens.DocumentEnd) ⊎ (k ≡ tokens.ByteOrderMark)
    → (ComesIn limit start (prefix ++ others) → ComesIn limit start (front ++ others))
    → PrefixStands limit start prefix others (ts ++ k ∷ []) → PrefixStands limit start front others ts
with_mark {limit = limit} {start = start} {others = others} ts k is further p = record {
  marks = k ∷ p.marks;
  are = (is, p.are);
  stands = rw (append_assoc ts (k ∷ []) p.marks) at p.stands;
  comes = λ go. further (p.comes go);
}

pub reads_prefix : {limit : ℕ} {start : State} (prefix others : List ℕ) (ts : List Kind)
    → IsDocumentPrefix prefix others → StandsLined limit start true true (prefix ++ others) ts
    → PrefixStands limit start prefix others ts
reads_prefix {limit = limit} {start = start} _ _ ts (no_prefix others) v =
    record { marks = []; are = tt; stands = rw (append-nil ts) v; comes = λ go. go }
reads_prefix {limit = limit} {start = start} _ _ ts (mark_prefix filler more others is h) v =
    let text = append_assoc filler (65279 ∷ more) others in
    with_mark ts tokens.ByteOrderMark (inr refl)
    (λ go. comes_so text (comes_behind_mark filler (more ++ others) is go))
    (reads_prefix more others (ts ++ tokens.ByteOrderMark ∷ []) h
    (reads_mark (more ++ others) (passes_filler filler (65279 ∷ (more ++ others)) is (lined_so text v))))
reads_prefix {limit = limit} {start = start} _ _ ts (end_prefix filler end more others is end_is h) v =
    let text = suffix_text filler end more others in
    let first = lined_so text v in
    with_mark ts tokens.DocumentEnd (inl refl)
    (λ go. comes_so text (comes_behind_end filler end (more ++ others) is end_is first go))
    (reads_prefix more others (ts ++ tokens.DocumentEnd ∷ []) h
    (reads_end end (more ++ others) (passes_filler filler (46 ∷ 46 ∷ 46 ∷ (end ++ (more ++ others))) is first) end_is))

-- From before a text the scanner comes to each document marker of it, and to the end of the stream.
record Finishes (limit : ℕ) (start : State) (o : List ℕ) (Follow : List Kind → Type 0) (ts : List Kind) : Type 0 where
  ends : FinishesStream limit start Follow ts
  comes : ComesIn limit start o

-- told otherwise of the tokens
mapped_as : {limit : ℕ} {start : State} {Follow Whole : List Kind → Type 0} {ts : List Kind}
    → ((others : List Kind) → Follow others → Whole others) → FinishesStream limit start Follow ts
    → FinishesStream limit start Whole ts
mapped_as each f = search

-- with further tokens in front
mapped_behind : {limit : ℕ} {start : State} {Follow Whole : List Kind → Type 0} (ts us : List Kind)
    → ((others : List Kind) → Follow others → Whole (us ++ others)) → FinishesStream limit start Follow (ts ++ us)
    → FinishesStream limit start Whole ts
mapped_behind ts us each f = grind (arith, append_assoc)

-- the documents are read, wherever they begin
abbrev ReadsDocuments : ℕ → State → Forest → Type 0
ReadsDocuments limit start ds =
    (free : Bool) (t : List ℕ) (ts : List Kind) → AreBlockDocuments ds free t → HasNoReturn t
    → StandsLined limit start free free t ts → Finishes limit start t (grammar.YieldDocuments ds free) ts

-- what comes after a document is read
abbrev BehindDocument : ℕ → State → Forest → List ℕ → List Kind → Type 0
BehindDocument limit start ds o ts =
    Finishes limit start o (grammar.YieldsBehindDocument (grammar.YieldDocuments ds)) ts

-- after its byte order marks
reads_unmarked : {limit : ℕ} {start : State} (ds : Forest) → ReadsDocuments limit start ds
    → (o : List ℕ) (ts : List Kind) → yaml.IsBehindMarks (AreBlockDocuments ds) o → HasNoReturn o
    → StandsLined limit start false false o ts → BehindDocument limit start ds o ts
reads_unmarked ds go o ts (inl h) clean v =
    let f = go false o ts h clean v in
    record { ends = mapped_as (λ all follow. ([], [], all, tt, inl (refl, follow), refl)) f.ends; comes = f.comes }
reads_unmarked {limit = limit} {start = start} ds go o ts
    (inr (suffix, others, (filler, end, prefix, filler_is, end_is, prefix_is, e), h, is)) clean v =
    let text : o ≡ filler ++ (46 ∷ 46 ∷ 46 ∷ (end ++ (prefix ++ others))) = cc (suffix_text filler end prefix others) in
    let here = lined_so text v in
    let first = passes_filler filler (46 ∷ 46 ∷ 46 ∷ (end ++ (prefix ++ others))) filler_is here in
    let p = reads_prefix prefix others (ts ++ tokens.DocumentEnd ∷ []) prefix_is
    (reads_end end (prefix ++ others) first end_is) in
    let f = go true others ((ts ++ tokens.DocumentEnd ∷ []) ++ p.marks) h
    (back_in _ suffix others (rw is at clean)) p.stands in
    record {
      ends = mapped_behind ts (tokens.DocumentEnd ∷ p.marks)
          (λ all follow. ([], tokens.DocumentEnd ∷ p.marks, all, tt, inr (p.marks, p.are, refl, follow), refl))
          (rw (append_assoc ts (tokens.DocumentEnd ∷ []) p.marks) at f.ends);
      comes = comes_so text (comes_behind_end filler end (prefix ++ others) filler_is end_is here (p.comes f.comes));
    }

-- a byte order mark, and what comes after a document
mark_mapped : (Others : Bool → List Kind → Type 0) (ts : List Kind) → grammar.YieldsBehindDocument Others ts
    → grammar.YieldsBehindDocument Others (tokens.ByteOrderMark ∷ ts)
mark_mapped Others ts (marks, end, others, are, h, e) = (tokens.ByteOrderMark ∷ marks, end, others, (refl, are), h, cc)

-- from its byte order marks on
reads_marked : {limit : ℕ} {start : State} (ds : Forest) → ReadsDocuments limit start ds
    → (pieces : List (List ℕ)) (o : List ℕ) (ts : List Kind) → AreEach yaml.IsMarkBehindFiller pieces
    → yaml.IsBehindMarks (AreBlockDocuments ds) o → HasNoReturn o
    → StandsLined limit start false false (joined_pieces pieces ++ o) ts
    → BehindDocument limit start ds (joined_pieces pieces ++ o) ts
reads_marked ds go [] o ts each h clean v = reads_unmarked ds go o ts h clean v
reads_marked {limit = limit} {start = start} ds go (piece ∷ pieces) o ts ((filler, filler_is, is), each) h clean v =
    let rest = joined_pieces pieces ++ o in
    let text = marks_text piece filler (joined_pieces pieces) o is in
    let first = passes_filler filler (65279 ∷ rest) filler_is (lined_so text v) in
    let f = reads_marked ds go pieces o (ts ++ tokens.ByteOrderMark ∷ []) each h clean
    (unfree (reads_mark rest first)) in
    record {
      ends = mapped_behind ts (tokens.ByteOrderMark ∷ []) (mark_mapped (grammar.YieldDocuments ds)) f.ends;
      comes = comes_so text (comes_behind_mark filler rest filler_is f.comes);
    }

reads_behind : {limit : ℕ} {start : State} (ds : Forest) → ReadsDocuments limit start ds → (o : List ℕ) (ts : List Kind)
    → yaml.IsBehindDocument (AreBlockDocuments ds) o → HasNoReturn o → StandsLined limit start false false o ts
    → BehindDocument limit start ds o ts
reads_behind {limit = limit} {start = start} ds go o ts (marks, others, (pieces, each, joins), h, e) clean v =
    let text = e ∙ ap (λ (x : List ℕ). x ++ others) joins in
    let f = reads_marked ds go pieces others ts each h (back_in _ marks others (rw e at clean)) (lined_so text v) in
    record { ends = f.ends; comes = comes_so text f.comes }

-- ## Documents

reads_documents : {limit : ℕ} {start : State} → ReaderPromises → ReadsLeaves limit
    → (forest : Forest) (free : Bool) (t : List ℕ) (ts : List Kind) → AreBlockDocuments forest free t → HasNoReturn t
    → StandsLined limit start free free t ts → Finishes limit start t (grammar.YieldDocuments forest free) ts
reads_documents readers leaves [] free t ts h clean v =
    record {
      ends = mapped_as (λ all follow. follow) (reads_stream_end v (moved v.mark t) (last_filler_past 0 v.mark t h));
      comes = λ y marker line. absurd (no_line t y (last_unmarked t h) line marker);
    }
reads_documents {limit = limit} {start = start} readers leaves (d ∷ ds) free t ts
    (filler, document, others, filler_is, is, behind, e) clean v =
    let first = passes_filler filler (document ++ others) filler_is (lined_so e v) in
    let left = back_in _ filler (document ++ others) (rw e at clean) in
    let n = reads_document readers leaves d free document others ts is
    (follows_document leaves ds others behind) (front_in _ document others left) first in
    let f = reads_behind ds (reads_documents readers leaves ds) others (ts ++ n.tokens) behind
    (back_in _ document others left) n.stands in
    record {
      ends = mapped_behind ts n.tokens (λ all follow. (n.tokens, all, n.are, follow, refl)) f.ends;
      comes = search (comes_so, comes_behind_filler, document_comes);
    }

pub begins : (limit : ℕ) (text : List ℕ) → length text ≤ limit
    → StandsLined limit (start text) true true text (tokens.StreamStart ∷ [])
begins limit text h =
    let first = fetches_stream_start limit text in
    record {
      there = start_cursor text;
      key = first.key;
      allowed = true;
      adjacent = 0;
      comment = None;
      places = stream_start_place ∷ [];
      mark = record { index = 0; line = 1; col = 0 };
      follows = follows_itself first.leads;
      none = λ _. first.none refl;
      fits = refl;
      line = (inl refl, λ _. inl (or-true (crosses text)));
      count = omega (arith, h);
      are = refl;
      quiet = λ _. refl;
      low = omega arith;
      lined = omega arith;
    }

-- From the start of a text of YAML's grammar the scanner comes to its end, and holds tokens of its forest. It comes to
-- each document marker on the way.
pub yaml_leads : ReaderPromises → (limit : ℕ) → ReadsLeaves limit → (forest : Forest) (text : List ℕ)
    → AreIn (λ c. not (c == carriage_return)) text → IsYaml most_open forest text → length text ≤ limit
    → (d : State) × LeadsTo limit d (start text) × (d.core.ended ≡ true)
    × ((tokens : List Kind) × Yields forest tokens × (place_kinds d.queue.places ≡ tokens))
    × ComesIn limit (start text) text
yaml_leads readers limit leaves forest text clean (prefix, others, prefix_is, documents, e) short =
    let p = reads_prefix prefix others (tokens.StreamStart ∷ []) prefix_is (lined_so e (begins limit text short)) in
    let f = reads_documents readers leaves forest true others (tokens.StreamStart ∷ p.marks) documents
    (back_in _ prefix others (rw e at clean)) p.stands in
    let ends = f.ends in (
      ends.last,
      ends.leads,
      ends.over,
      (tokens.StreamStart ∷ (p.marks ++ ends.others), (p.marks, ends.others, p.are, ends.follow, refl), ends.are),
      comes_so e (p.comes f.comes),
    )
