-- Readers that are at the same place, and where a reader is over a longer text.
use Rattle.std.proofs.Common.{◌≡◌, ℕ, zero, suc, ◌+◌, List, [], ◌++◌, length, true, Option, Some, None, refl, sym, ap, subst, ◌∙◌, append_assoc, add-one}
use Rattle.std.specs.Prelude.{string_bytes}
use Rattle.std.specs.Str.{chars}
use Rattle.std.proofs.lemmas.List.{append-nil, nil_from_length}
use Rattle.std.proofs.lemmas.Str.{chars-nil}
use Rattle.saphyr_scalar.specs.declared.scalar.position.Span.{Span}
use Rattle.saphyr_scanner.specs.declared.growth.Growth.{Growth}
use Rattle.saphyr_scanner.specs.declared.growth.Growth.TheVariants as growth
use Rattle.saphyr_scanner.specs.Steps.Remaining.{remaining, scan}
use Rattle.saphyr_scanner.specs.Steps.State.{start, with_rest}
use Rattle.saphyr_scanner.specs.Views.Scanning.{Scanning, text_in, tokens_in, tokens_over}
use Rattle.saphyr_machine.specs.declared.reader.EventReader.{EventReader}
use Rattle.saphyr_machine.specs.Calls.{Advances, AdvancesFrom}
use Rattle.saphyr_machine.specs.Cursor.{EventCursor, Kept, with_event_handed}
use Rattle.saphyr_machine.specs.Events.{Happening}
use Rattle.saphyr_machine.specs.Passed.{before_tokens}
use Rattle.saphyr_machine.specs.Steps.Machine.{Emitted, emit}
use Rattle.saphyr_machine.specs.Views.Readers.{cursor, cursor_in, cursor_over, scanning_of}
use Rattle.saphyr_pieces.specs.declared.owned.OwnedText.{OwnedText}
use Rattle.saphyr_pieces.specs.declared.pieces.PieceReader.{PieceReader}
use Rattle.saphyr_pieces.specs.declared.pieces.Source.{Source}
use Rattle.saphyr_pieces.specs.declared.pieces.Source.TheVariants as source
use Rattle.saphyr_pieces.specs.Pieces.{Pieces, at, cursor_from, reader_in, wants_more, wants_more_from}
use Rattle.saphyr_pieces.specs.Passed.{passed_tokens}
use Rattle.saphyr_pieces.specs.Views.{AdvancesBy, AreIdleBefore, GoesOnOver, IsReachedFrom, IsSoundFrom, IsSoundReader, ReadsOnBy, ReadsOnOver, pieces_of, place_in}

-- ## The events of a cursor are those of its place

same_event : (a : Option (Happening × Span)) (k : Option Kept) (x y : Happening × Span) (c d e : EventCursor)
    → AdvancesFrom a k x c d → AdvancesFrom a k y c e → d ≡ e
same_event (Some next) k x y c d e p q =
    p.1
    ∙ ap (λ (z : Happening × Span). with_event_handed z.0 z.1 (record c { current = None })) (sym p.0 ∙ q.0)
    ∙ sym q.1
same_event None (Some l) x y c d e p q = absurd p
same_event None None x y c d e p q =
    let reported : emit x.0 x.1 d.machine ≡ emit y.0 y.1 e.machine = sym p.0 ∙ q.0 in
    let same : ◌≡◌ {A = Emitted} (record { what = x.0; span = x.1; machine = d.machine })
    (record { what = y.0; span = y.1; machine = e.machine }) = cc in
    p.1
    ∙ ap (λ (t : Emitted). with_event_handed t.what t.span (record c { machine = t.machine })) same
    ∙ sym q.1

pub same_place : (n : ℕ) (c d e : EventCursor) → AdvancesBy n c d → AdvancesBy n c e → d ≡ e
same_place zero c d e p q = p ∙ sym q
same_place (suc n) c d e (m, before, (x, last)) (o, before', (y, last')) =
    let middle = same_place n c m o before before' in
    same_event m.current m.kept x y m d e last (subst (λ (v : EventCursor). Advances y v e) (sym middle) last')

-- a copy that leads to two readers by as many events
pub same_readers : (since : List ℕ) (n : ℕ) (copy a b : EventReader OwnedText) → ReadsOnOver since n copy a
    → ReadsOnOver since n copy b → (more : List ℕ) → cursor_in more b ≡ cursor_in more a
same_readers since n copy a b p q more =
    same_place n (cursor_in (since ++ more) copy) (cursor_in more b) (cursor_in more a) (q more) (p more)

pub one_more : (copy : Option (EventReader OwnedText)) (since : List ℕ) (n m : ℕ) (from to : EventReader OwnedText)
    → m ≡ n + 1 → IsReachedFrom copy since n from
    → ((more : List ℕ) → (e : Happening × Span) × Advances e (cursor_in more from) (cursor_in more to))
    → IsReachedFrom copy since m to
one_more None since n m from to is reached steps = tt
one_more (Some copy) since n m from to is reached steps = λ more.
    subst (λ (k : ℕ). AdvancesBy k (cursor_in (since ++ more) copy) (cursor_in more to)) (sym (is ∙ add-one n))
    (cursor_in more from, reached more, steps more)

-- a copy that leads to a reader, if more comes behind the texts of both
pub extended : (copy : Option (EventReader OwnedText)) (since more : List ℕ) (n : ℕ) (from to : EventReader OwnedText)
    → IsReachedFrom copy since n from → GoesOnOver more from to → IsReachedFrom copy (since ++ more) n to
extended None since more n from to reached on = tt
extended (Some copy) since more n from to reached on = λ later.
    subst (λ (t : List ℕ). AdvancesBy n (cursor_in t copy) (cursor_in later to)) (sym (append_assoc since more later))
    (subst (AdvancesBy n (cursor_in (since ++ (more ++ later)) copy)) (sym (on later)) (reached (more ++ later)))

-- a copy that was just made
pub copied : (o : Option (EventReader OwnedText)) (since : List ℕ) (copy reader : EventReader OwnedText)
    → o ≡ Some copy → since ≡ [] → ((more : List ℕ) → cursor_in more copy ≡ cursor_in more reader)
    → IsReachedFrom o since zero reader
copied o since copy reader is nothing same =
    subst (λ (p : Option (EventReader OwnedText)). IsReachedFrom p since zero reader) (sym is)
    (λ more. sym (same more) ∙ ap (λ (s : List ℕ). cursor_in (s ++ more) copy) (sym nothing))

-- what came behind the texts of both is put behind what came before
pub carried : (copy : Option (EventReader OwnedText)) (since longer more : List ℕ) (n : ℕ) (g : Growth)
    (from to : EventReader OwnedText) → g ≡ growth.Growing → longer ≡ since ++ more → IsReachedFrom copy since n from
    → ((later : List ℕ) → cursor_in later to ≡ cursor_in (more ++ text_in g later []) from)
    → IsReachedFrom copy longer n to
carried copy since longer more n g from to grows is reached on =
    subst (λ (s : List ℕ). IsReachedFrom copy s n to) (sym is) (extended copy since more n from to reached
    (λ later. on later ∙ ap (λ (h : Growth). cursor_in (more ++ text_in h later []) from) grows))

-- nothing came
pub over_nothing : (bs : List ℕ) (reader : EventReader OwnedText) → length bs ≡ 0 → GoesOnOver (chars bs) reader reader
over_nothing bs reader none later =
    ap (λ (s : List ℕ). cursor_in (s ++ later) reader) (sym (ap chars (nil_from_length bs none) ∙ chars-nil))

-- ## Over another text

-- the tokens of a scanner that has read nothing, if these characters come
pub begun : (s : Scanning) (rest text : List ℕ) (limit : ℕ) → s.state ≡ with_rest rest (start [])
    → s.limit ≡ limit → s.growth ≡ growth.Growing → rest ≡ [] → tokens_in text s ≡ scan limit text
unfolding tokens_in tokens_over
begun s rest text limit at_start same grows nothing =
    (λ i. remaining (same i) (with_rest (text_in (grows i) text (at_start i).core.cursor.rest) (at_start i)))
    ∙ ap (λ (r : List ℕ). remaining limit (with_rest (r ++ text) (with_rest r (start [])))) nothing

-- what is left of a text where more of it is taken in, and what comes behind that
rest_with : (g : Growth) (rest more later : List ℕ)
    → text_in g later (rest ++ more) ≡ rest ++ (more ++ text_in g later [])
rest_with growth.Growing rest more later = append_assoc rest more later
rest_with growth.Whole rest more later = ap (λ (r : List ℕ). rest ++ r) (sym (append-nil more))
rest_with growth.Starved rest more later = ap (λ (r : List ℕ). rest ++ r) (sym (append-nil more))

pub is_text : (s : Source) → wants_more_from s ≡ true → s ≡ source.Text
is_text source.Text e = refl
is_text _ e = absurd (cc)

-- a reader over its text and what came behind that
module _ (old r : EventReader OwnedText) (g : Growth) (rest more : List ℕ)
    (grows : (scanning_of old).growth ≡ growth.Growing)
    (seen : scanning_of r ≡ record (scanning_of old) { state = with_rest rest (scanning_of old).state; growth = g })
    (over : (rest : List ℕ) → cursor_over rest r ≡ cursor_over rest old)
    (is : rest ≡ (scanning_of old).state.core.cursor.rest ++ more)
  where
    pub reads_on : (later : List ℕ) → cursor_in later r ≡ cursor_in (more ++ text_in g later []) old
    unfolding tokens_in
    reads_on later =
        let before = (scanning_of old).state.core.cursor.rest in
        ap (λ (s : Scanning). cursor_over (text_in s.growth later s.state.core.cursor.rest) r) seen
        ∙ over (text_in g later rest)
        ∙ ap (λ (t : List ℕ). cursor_over (text_in g later t) old) is
        ∙ ap (λ (t : List ℕ). cursor_over t old) (rest_with g before more later)
        ∙ ap (λ (h : Growth). cursor_over (text_in h (more ++ text_in g later []) before) old) (sym grows)

-- so it is at the place of the parser
pub takes_in : (p : PieceReader) (g : Growth) (r : EventReader OwnedText) → wants_more (pieces_of p) ≡ true
    → ((later : List ℕ) → cursor_in later r ≡ cursor_in (chars (string_bytes p.more) ++ text_in g later []) p.reader)
    → (later : List ℕ) → place_in later (passed_tokens p.passed) r ≡ at (pieces_of p) (text_in g later [])
takes_in p g r wants same later =
    ap (before_tokens (passed_tokens p.passed)) (same later)
    ∙ ap (λ (s : Source). cursor_from s (pieces_of p) (text_in g later [])) (sym (is_text p.source wants))

-- a reader that goes on, and has no copy to go back to
module _ (p q : PieceReader) (none : q.copy ≡ None) (kept : (cursor q.reader).kept ≡ (cursor p.reader).kept)
  where
    sound_from : (s : Source) → IsSoundFrom s p → IsSoundFrom s q
    sound_from source.Text h = (
      kept ∙ h.0,
      subst (λ (copy : Option (EventReader OwnedText)). IsReachedFrom copy (chars (string_bytes q.since)) q.events q.reader)
          (sym none) tt,
    )
    sound_from source.Given h = tt
    sound_from source.Lost h = tt

    pub sound_without_copy : q.source ≡ p.source → (cursor q.reader).current ≡ (cursor p.reader).current
        → AreIdleBefore (passed_tokens q.passed) q.reader → IsSoundReader p → IsSoundReader q
    sound_without_copy same current idle h = record {
      source = subst (λ (s : Source). IsSoundFrom s q) (sym same) (sound_from p.source h.source);
      current = current ∙ h.current;
      idle = idle;
    }

-- more comes behind what came
module _ (p : Pieces) (more later : List ℕ) where
  added_from : (s : Source) → wants_more_from s ≡ true
      → cursor_from s (record p { more = p.more ++ more }) later ≡ cursor_from s p (more ++ later)
  added_from source.Text wants =
      ap (λ (t : List ℕ). before_tokens p.passed (reader_in t p)) (append_assoc p.more more later)
  added_from _ wants = absurd (cc)

  pub added : (q : Pieces) → wants_more p ≡ true → q ≡ record p { more = p.more ++ more }
      → at q later ≡ at p (more ++ later)
  added q wants is = ap (λ (v : Pieces). at v later) is ∙ added_from p.source wants

-- by so many events, over what came since
pub reads_over : (from over by : EventReader OwnedText) (since : List ℕ) (n : ℕ) → GoesOnOver since from over
    → ReadsOnBy n over by → ReadsOnOver since n from by
reads_over from over by since n on reads more =
    subst (λ v. AdvancesBy n v (cursor_in more by)) (on more) (reads more)
