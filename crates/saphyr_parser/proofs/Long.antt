-- A text that is longer than the limit is refused: its last token would be behind the limit.
use Rattle.std.proofs.Common.{◌≡◌, ◌≢◌, ◌∙◌, ℕ, ◌+◌, ◌*◌, ◌≤◌, ◌<◌, inl, inr, List, [], ◌∷◌, ◌++◌, length, append-nil, append_assoc, None, sym, ap, subst, arith}
use Rattle.std.specs.Prelude.{Bool, false, true}
use Rattle.std.proofs.Math.Nat.{min-le_right}
use Rattle.saphyr_scalar.specs.declared.scalar.position.Marker.{Marker}
use Rattle.saphyr_scalar.specs.Views.Cursor.{Cursor, start_cursor}
use Rattle.saphyr_scanner.specs.Ends.{EndsWithStream, HasNoEnd}
use Rattle.saphyr_scanner.specs.Grammar.Tokens as tokens
use Rattle.saphyr_scanner.specs.Grammar.Forest.{Forest}
use Rattle.saphyr_scanner.specs.Grammar.TokenGrammar.{YieldDocuments, YieldsBehindDocument}
use Rattle.saphyr_scanner.specs.Grammar.Tokens.{Kind}
use Rattle.saphyr_scanner.specs.SpansInOrder.{AreInOrder}
use Rattle.saphyr_scanner.specs.Steps.Remaining.{scan}
use Rattle.saphyr_scanner.specs.TokensTaken.{AreTakenFrom, AreTokens, Collections, IsPlaceOf, IsPlaceOrEnd, IsToken, no_collections, nothing, open_behind, surroundings_in}
use Rattle.saphyr_scanner.specs.Views.Tokens.{Piece, Remaining}
use Rattle.saphyr_machine.specs.Answer.{Answer}
use Rattle.saphyr_machine.specs.Cursor.{at_start, to_come}
use Rattle.event_laws.specs.EventsTaken.{BeginsSomeForest}
use Rattle.event_laws.specs.Exactly.{kinds}
use Rattle.event_laws.proofs.Promises.TakesEvents.{ended}
use Rattle.event_laws.proofs.Refusing.{AreEnded}
use Rattle.event_laws.proofs.Sound.{begins}
use Rattle.event_laws.proofs.TokensForm.{tokens_form}
use Rattle.saphyr_scanner.proofs.Effects.Readers.{ReaderEnds}
use Rattle.saphyr_scanner.proofs.Ordered.Run.{scan_in_order}
use Rattle.saphyr_scanner.proofs.Reached.{apart_reached, reached_counted}
use Rattle.saphyr_scanner.proofs.Taken.Places.{Reaches, reaches_reaches, token_reached}

-- ## Where the last token is

last_within : (limit low : ℕ) (front : List Piece) (end : Piece) → AreInOrder limit low (front ++ end ∷ [])
    → end.span.start.index ≤ limit
last_within limit low [] end h = omega (arith, h.1, h.2)
last_within limit low (p ∷ ps) end h = last_within limit p.span.end.index ps end h.2

placed_at_end : (s : Cursor) (m : Marker) (n : ℕ) → IsPlaceOrEnd s m → s.mark.index ≡ n → m.index ≡ n
placed_at_end s m n (inl e) i = ap (λ (k : Marker). k.index) e ∙ i
placed_at_end s m n (inr e) i = let same = ap (λ (k : Marker). k.index) e.1 in omega (arith, same, i)

end_counted : (text : List ℕ) (s : Cursor) → Reaches (start_cursor text) s → s.rest ≡ [] → s.mark.index ≡ length text
end_counted text s r e =
    let counted = reached_counted (start_cursor text).mark text s.mark s.rest r in
    let none : length s.rest ≡ 0 = ap (λ (xs : List ℕ). length xs) e in omega (arith, counted, none)

-- the end of the stream, where it is the last token, is behind the whole text
last_behind : (text : List ℕ) (opened : Collections) (front : List Piece) (end : Piece) (s u : Cursor)
    → Reaches (start_cursor text) s → AreTokens opened (front ++ end ∷ []) s u → end.kind ≡ tokens.StreamEnd
    → end.span.start.index ≡ length text
last_behind text opened [] end s u r h e =
    let here : Reaches (start_cursor text) h.0 = reaches_reaches (start_cursor text) s h.0 r
    (apart_reached s.mark s.rest h.0.mark h.0.rest h.2) in
    let token : IsToken (surroundings_in opened) tokens.StreamEnd end.span h.0 h.1 =
    subst (λ k. IsToken (surroundings_in opened) k end.span h.0 h.1) e h.3 in
    placed_at_end h.0 end.span.start (length text) token.1.1 (end_counted text h.0 here token.0)
last_behind text opened (p ∷ ps) end s u r h e =
    let here : Reaches (start_cursor text) h.0 = reaches_reaches (start_cursor text) s h.0 r
    (apart_reached s.mark s.rest h.0.mark h.0.rest h.2) in
    let behind : Reaches (start_cursor text) h.1 = reaches_reaches (start_cursor text) h.0 h.1 here
    (token_reached (surroundings_in opened) p.kind p.span h.0 h.1 h.3) in
    last_behind text (open_behind p.kind p.span opened) ps end h.1 u behind h.4 e

-- Without a refusal the end of the stream is the last token. It is behind the whole text, and within the limit.
long_refused : ReaderEnds → (limit : ℕ) (text : List ℕ) → limit < length text → AreTakenFrom text (scan limit text)
    → EndsWithStream (scan limit text) → HasNoEnd (scan limit text).pieces
long_refused laws limit text long taken (inl refused) = refused.2
long_refused laws limit text long taken (inr c) =
    let ordered = scan_in_order laws limit limit text (min-le_right (length text) limit) in
    let within = last_within limit 0 c.0 c.1 (subst (λ ps. AreInOrder limit 0 ps) c.4 ordered) in
    let behind = last_behind text no_collections c.0 c.1 (start_cursor text) taken.0
    (nothing (start_cursor text).mark text)
    (subst (λ ps. AreTokens no_collections ps (start_cursor text) taken.0) c.4 taken.1) c.3 in
    absurd (omega (arith, long, within, behind))

-- ## Events without a fault

abbrev HasEnd : List Kind → Type 0
HasEnd t = (front back : List Kind) × (t ≡ front ++ tokens.StreamEnd ∷ back)

end_behind : (front t : List Kind) → HasEnd t → HasEnd (front ++ t)
end_behind front t h =
    (front ++ h.0, h.1, ap (λ l. front ++ l) h.2 ∙ sym (append_assoc front h.0 (tokens.StreamEnd ∷ h.1)))

behind_end : (Others : Bool → List Kind → Type 0) (t : List Kind)
    → ((free : Bool) (t : List Kind) → Others free t → HasEnd t) → YieldsBehindDocument Others t → HasEnd t
behind_end Others t all (marks, end, others, are, inl (none, more), cut) =
    rw cut (end_behind marks (end ++ others) (end_behind end others (all false others more)))
behind_end Others t all (marks, end, others, are, inr (ends, each, is, more), cut) =
    rw cut (end_behind marks (end ++ others) (end_behind end others (all true others more)))

documents_end : (ds : Forest) (free : Bool) (t : List Kind) → YieldDocuments ds free t → HasEnd t
documents_end [] free t h = ([], [], h)
documents_end (d ∷ ds) free t h =
    rw h.4 (end_behind h.0 h.1 (behind_end (YieldDocuments ds) h.1 (λ free t. documents_end ds free t) h.3))

no_end : (ps : List Piece) → HasNoEnd ps → ¬ HasEnd (kinds ps)
no_end [] h (front, back, e) = none front e
  where
    none : (front : List Kind) → [] ≡ front ++ tokens.StreamEnd ∷ back → ⊥
    none [] e = absurd (cc)
    none (k ∷ ks) e = absurd (cc)
no_end (p ∷ ps) h ([], back, e) = h.0 (cc e)
no_end (p ∷ ps) h (k ∷ ks, back, e) = no_end ps h.1 (ks, back, cc e)

-- Events without a fault are all of some forest's, so the end of the stream is among their tokens.
events_end : (r : Remaining) (a : Answer) → BeginsSomeForest false r a → a.fault ≡ None → HasEnd (kinds r.pieces)
events_end r a (forest, b) none =
    let all = rw none at b.all_read in
    let expected = rw none at b.all_expected in
    let y = b.yielded in
    rw (b.are_read, all, append-nil b.read)
    (subst HasEnd (ap (λ l. kinds b.read ++ l) expected ∙ append-nil (kinds b.read))
    (subst HasEnd (sym y.4) (end_behind (tokens.StreamStart ∷ y.0) y.1 (documents_end forest true y.1 y.3))))

pub answer_refused : ReaderEnds → (limit : ℕ) (text : List ℕ) → limit ≤ 4294967295 → limit < length text
    → AreTakenFrom text (scan limit text) → EndsWithStream (scan limit text)
    → length (scan limit text).pieces ≤ 5 * limit + 10 → (to_come (at_start (scan limit text))).fault ≢ None
answer_refused laws limit text few long taken ends bound none =
    let r = scan limit text in
    let at : AreEnded (IsPlaceOf text) r.refusal r.pieces =
    ended (IsPlaceOf text) r ends (λ f is. rw is at taken.5) in
    let formed = tokens_form (IsPlaceOf text) r.refusal no_collections r.pieces (start_cursor text) taken.0 taken.1
    (inr at) in
    no_end r.pieces (long_refused laws limit text long taken ends)
    (events_end r (to_come (at_start r)) (begins r false formed (omega (arith, bound, few))) none)
