-- The steps at the content and the end of documents are turned.
use Rattle.event_laws.proofs.OwnTokens.{ArePassed, ahead_of}
use Rattle.event_laws.specs.EventsTaken.{MayFollowDocument, IsDocumentFollowed}
use Rattle.event_laws.proofs.Common.{BelongsToNone, ◌≡◌, Bool, true, false, List, [], ◌∷◌, ◌++◌, map, Result, Ok, Err, refl, ap, ◌∙◌, ◌⊎◌, inl, inr, append_assoc, arith, if◌then◌else◌, Marker, Span, Refusal, Directive, Version, TagPrefix, Reserved, Forest, Kind, directive_token, Piece, InBlock, AreMarks, AreEndsAndMarks, YieldDocuments, State, Part, CloseDocument, kinds, ◌>>=◌, Machine, with_pieces, node}
use Rattle.saphyr_scanner.specs.Grammar.Tokens as tokens
use Rattle.saphyr_machine.specs.declared.state.State.TheVariants as state
use Rattle.saphyr_machine.specs.Steps.Block.{block_node}
use Rattle.saphyr_machine.specs.Steps.Documents.{is_mark, unpassed_token_from, unpassed_token, no_content, document_content_at, document_content, token_behind_marks, token_behind_document_at, token_behind_document, without_prefixes, document_end_at, document_end}
use Rattle.event_laws.proofs.Emitted.Emitting.{Memory}
use Rattle.event_laws.proofs.Turned.Following.{Then, IsNodeOf, IsOptionalOf, AreExplicit, Outside, IsFree, BeginsFreely}
use Rattle.event_laws.proofs.Turned.Turning.{Aside, piece_of, machine, Turned, weaker}
use Rattle.event_laws.proofs.Turned.Content.{split, taken_one}
use Rattle.event_laws.proofs.Turned.Nodes.{node_turned}
use Rattle.event_laws.proofs.Turned.Entries.{Turns, TurnsBehind, TurnsAt, by_token, skip_optional, some_node}

-- ## Content

pub block_node_turned : Turns (λ _. Then (IsNodeOf InBlock)) block_node
unfolding block_node
block_node_turned = grind (arith, by_token, node_turned)

left_out : (k : Kind) → TurnsBehind (λ _. Then (IsOptionalOf InBlock)) k no_content
left_out k sp ts r x s ss e w a = skip_optional InBlock (piece_of k sp) sp ts r x s ss e a

content_at_turned : TurnsAt (λ _. Then (IsOptionalOf InBlock)) document_content_at
content_at_turned u0 = grind (arith, left_out, weaker, some_node, node_turned)

pub content_turned : Turns (λ _. Then (IsOptionalOf InBlock)) document_content
unfolding document_content
content_turned = by_token (λ _. Then (IsOptionalOf InBlock)) document_content_at content_at_turned

-- ## Byte order marks after a document

-- marks, and the token after them
record Marked (ts : List Piece) (m : Machine) (u : Piece) (n : Machine) : Type 0 where
  marks : List Piece
  rest : List Piece
  are : ts ≡ marks ++ u ∷ rest
  are_marks : AreMarks (kinds marks)
  no_mark : is_mark u.kind ≡ false
  leaves : n ≡ with_pieces rest m

abbrev MarkedBy : List Piece → Machine → Result (Piece × Machine) Refusal → Type 0
MarkedBy ts m (Ok x) = Marked ts m x.0 x.1
MarkedBy ts m (Err f) = Unit {0}

mark_is : (k : Kind) → is_mark k ≡ true → k ≡ tokens.ByteOrderMark
mark_is k h = grind arith

one_more_mark : (t : Piece) (ts : List Piece) (m : Machine) (r : Result (Piece × Machine) Refusal)
    → is_mark t.kind ≡ true → MarkedBy ts (with_pieces ts m) r → MarkedBy (t ∷ ts) m r
one_more_mark t ts m (Ok x) k h =
    record {
      marks = t ∷ h.marks;
      rest = h.rest;
      are = ap (λ (l : List Piece). t ∷ l) h.are;
      are_marks = (mark_is t.kind k, h.are_marks);
      no_mark = h.no_mark;
      leaves = h.leaves;
    }
one_more_mark t ts m (Err f) k h = tt

marks_passed : (ts : List Piece) (m : Machine) → MarkedBy ts m (unpassed_token_from is_mark ts m)
marks_passed [] m = tt
marks_passed (t ∷ ts) m = by (is_mark t.kind) refl (marks_passed ts (with_pieces ts m))
  where
    by : (b : Bool) → is_mark t.kind ≡ b → MarkedBy ts (with_pieces ts m)
        (unpassed_token_from is_mark ts (with_pieces ts m)) → MarkedBy (t ∷ ts) m
        (if b then unpassed_token_from is_mark ts (with_pieces ts m) else Ok (t, with_pieces ts m))
    by true y h = one_more_mark t ts m _ y h
    by false y h = record { marks = []; rest = ts; are = refl; are_marks = tt; no_mark = y; leaves = refl }

behind_all : (place : Marker) (ts : List Piece) (m : Machine)
    → MarkedBy ts (with_pieces ts m) (token_behind_marks place (with_pieces ts m))
unfolding token_behind_marks unpassed_token
behind_all place ts m = grind (arith, marks_passed)

document_at : (k : Kind) (sp : Span) (ts : List Piece) (m : Machine) → MarkedBy (piece_of k sp ∷ ts) m
    (token_behind_document_at k (piece_of k sp) (with_pieces ts m))
document_at tokens.ByteOrderMark sp ts m =
    one_more_mark (piece_of tokens.ByteOrderMark sp) ts m _ refl (behind_all sp.start ts m)
document_at _ sp ts m = record { marks = []; rest = ts; are = refl; are_marks = tt; no_mark = refl; leaves = refl }

behind_turned : (ts : List Piece) (r : Aside) (x : State) (e : Memory)
    → MarkedBy ts (machine ts r x [] e) (token_behind_document (machine ts r x [] e))
unfolding token_behind_document
behind_turned [] r x e = tt
behind_turned (t ∷ ts) r x e = document_at t.kind t.span ts (machine (t ∷ ts) r x [] e)

are_passed : (marks : List Piece) → AreMarks (kinds marks) → ArePassed marks
are_passed [] a = tt
are_passed (t ∷ marks) a = (rw a.0 tt, are_passed marks a.1)

passed_with : (marks : List Piece) (u : Piece) → AreMarks (kinds marks) → BelongsToNone u.kind
    → ArePassed (marks ++ u ∷ [])
passed_with [] u a b = (b, tt)
passed_with (t ∷ marks) u a b = (rw a.0 tt, passed_with marks u a.1 b)

-- a token comes after a document where one comes after its marks
followed : (marks : List Piece) (u : Piece) (others : List Piece) → AreMarks (kinds marks) → MayFollowDocument u.kind
    → IsDocumentFollowed (marks ++ u ∷ others)
followed [] u others a m = m
followed (t ∷ marks) u others a m = rw a.0 tt

-- ## The end of a document

with_end : (marks : List Piece) (u : Piece) (ks : List Kind) (ps : List Part) → u.kind ≡ tokens.DocumentEnd
    → AreMarks (kinds marks) → Outside state.ImplicitDocumentStart ks ps
    → Outside state.DocumentEnd (kinds (marks ++ u ∷ []) ++ ks) (CloseDocument ∷ ps)
with_end marks u ks ps k a f = (
  f.0,
  (kinds marks, tokens.DocumentEnd ∷ f.1, f.2, a, inr (f.1, f.3, refl, f.4), cc (split marks u ks)),
  cc,
)

no_directives : (xs : List Directive) (rest ks : List Kind) → ks ≡ map directive_token xs ++ rest → BeginsFreely ks
    → xs ≡ []
no_directives [] rest ks e b = refl
no_directives (Version _ _ ∷ xs) rest ks e b = absurd (rw e at b)
no_directives (TagPrefix _ _ ∷ xs) rest ks e b = absurd (rw e at b)
no_directives (Reserved _ ∷ xs) rest ks e b = absurd (rw e at b)

not_free : (k : Kind) → (k ≡ tokens.DocumentEnd) ⊎ (k ≡ tokens.ByteOrderMark) → IsFree k → ⊥
not_free k h e = grind arith

no_front : (front documents ks : List Kind) → AreEndsAndMarks front → ks ≡ front ++ documents → BeginsFreely ks
    → ks ≡ documents
no_front [] documents ks a e b = e
no_front (k ∷ front) documents ks a e b = absurd (not_free k a.0 (rw e at b))

next_documents : (f : Forest) (t : List Kind) → AreExplicit f t → BeginsFreely t → YieldDocuments f false t
next_documents [] t h b = h
next_documents (d ∷ ds) t h b =
    let node : List Kind = h.2.0 in
    let all : t ≡ map directive_token d.directives ++ (tokens.DocumentStart ∷ (node ++ h.1)) =
    cc (append_assoc (map directive_token d.directives) (tokens.DocumentStart ∷ node) h.1) in
    (h.0, h.1, inr (inr (no_directives d.directives (tokens.DocumentStart ∷ (node ++ h.1)) t all b), h.2), h.3, h.4)

without_end : (marks : List Piece) (ks : List Kind) (ps : List Part) → AreMarks (kinds marks)
    → Outside state.DocumentStart ks ps → BeginsFreely ks
    → Outside state.DocumentEnd (kinds marks ++ ks) (CloseDocument ∷ ps)
without_end marks ks ps a f b =
    let same : ks ≡ f.2 = no_front f.1 f.2 ks f.3 f.5 b in
    (f.0, (kinds marks, [], ks, a, inl (refl, next_documents f.0 ks (rw same f.4) b), refl), cc)

-- By the token behind the marks. A `...` is used with them (`with_end`), and a directive is refused. Any other token is
-- left, and begins a document with `---` (`without_end`): that what follows has no directive before it is known of the
-- token ahead, since the next state asks what follows to begin as that does.
end_at_turned : (k : Kind) (sp : Span) (n : Machine) (ts : List Piece) (r : Aside) (x : State) (e : Memory)
    → Marked ts (machine ts r x [] e) (piece_of k sp) n
    → Turned (Outside state.DocumentEnd) e ts (document_end_at k (piece_of k sp) (without_prefixes n))
end_at_turned tokens.DocumentEnd sp n ts r x e h = rw h.leaves (record {
  used = h.marks ++ piece_of tokens.DocumentEnd sp ∷ [];
  part = CloseDocument;
  taken = h.are ∙ taken_one h.marks (piece_of tokens.DocumentEnd sp) h.rest;
  emits = refl;
  remembers = refl;
  few = omega arith;
  places =
      let end : Piece = piece_of tokens.DocumentEnd sp in
      ahead_of (h.marks ++ end ∷ []) _ _ (passed_with h.marks end h.are_marks tt)
      (refl, rw (append_assoc h.marks (end ∷ []) h.rest) (followed h.marks end h.rest h.are_marks tt));
  alive = tt;
  makes = λ ks ps f b. with_end h.marks (piece_of tokens.DocumentEnd sp) ks ps refl h.are_marks f;
})
end_at_turned (tokens.VersionDirective major minor) sp n ts r x e h = tt
end_at_turned (tokens.TagDirective handle prefix) sp n ts r x e h = tt
end_at_turned (tokens.ReservedDirective name) sp n ts r x e h = tt
end_at_turned tokens.ByteOrderMark sp n ts r x e h = absurd (let no_way : true ≡ false = h.no_mark in cc)
end_at_turned k sp n ts r x e h = rw h.leaves (record {
  used = h.marks;
  part = CloseDocument;
  taken = h.are;
  emits = refl;
  remembers = refl;
  few = omega arith;
  places = ahead_of h.marks _ _ (are_passed h.marks h.are_marks)
      (refl, followed h.marks (piece_of k sp) h.rest h.are_marks tt);
  alive = tt;
  makes = λ ks ps f b. without_end h.marks ks ps h.are_marks f (b tt);
})

end_behind : (res : Result (Piece × Machine) Refusal) (ts : List Piece) (r : Aside) (x : State) (e : Memory)
    → MarkedBy ts (machine ts r x [] e) res
    → Turned (Outside state.DocumentEnd) e ts (res >>= (λ t. document_end_at t.0.kind t.0 (without_prefixes t.1)))
end_behind (Err f) ts r x e h = tt
end_behind (Ok y) ts r x e h = end_at_turned y.0.kind y.0.span y.1 ts r x e h

pub document_end_turned : (ts : List Piece) (r : Aside) (x : State) (e : Memory)
    → Turned (Outside state.DocumentEnd) e ts (document_end (machine ts r x [] e))
unfolding document_end
document_end_turned ts r x e = end_behind _ ts r x e (behind_turned ts r x e)
