-- A token is handed out, and what remains.
use Rattle.std.proofs.Common.{◌≡◌, ℕ, suc, ◌+◌, ◌<◌, ◌^◌, Bool, true, false, List, [], ◌∷◌, Result, Ok, Err, refl, sym, ap, subst, ◌∙◌, arith}
use Rattle.std.specs.Prelude.{◌&&◌, not, Option, Some, None, OnErr}
use Rattle.saphyr_scalar.specs.declared.scalar.fault.Refusal.{Refusal}
use Rattle.saphyr_scalar.specs.declared.scalar.fault.Stop.{Stop}
use Rattle.saphyr_scalar.specs.declared.scalar.fault.Stop.TheVariants as stops
use Rattle.saphyr_scalar.specs.Views.Reader.{Fails, Moves}
use Rattle.saphyr_scanner.specs.declared.stopped.Stopped.{Stopped}
use Rattle.saphyr_scanner.specs.declared.token.TokenKind.{TokenKind}
use Rattle.saphyr_scanner.specs.declared.queue.Opening.{Opening}
use Rattle.saphyr_scanner.specs.declared.queue.Opening.TheVariants as opening
use Rattle.saphyr_scanner.specs.Grammar.Tokens as tokens
use Rattle.saphyr_scanner.specs.Grammar.Tokens.{Kind}
use Rattle.saphyr_scanner.specs.Views.Queue.{first_of, kind_shown}
use Rattle.saphyr_scanner.specs.Views.Scanning.{Drops, EndsTokens, IsReady, PeeksToken, Readies, Scanning, is_decided, is_growing, text_in, tokens_in, tokens_over}
use Rattle.saphyr_scanner.specs.Views.Engine.{stopped_by}
use Rattle.std.proofs.Math.Bool.{not-not}
use Rattle.saphyr_scanner.specs.Views.Tokens.{BeginsWith, Parts, Piece, Remaining, none, before, refusal_alone, kind_with, no_parts, piece_with, text_parts, token_kind}
use Rattle.saphyr_scanner.specs.Steps.Queue.{Place}
use Rattle.saphyr_scanner.specs.Steps.Core.{Core, drop_far_key}
use Rattle.saphyr_scanner.specs.Steps.State.{State, with_rest}
use Rattle.saphyr_scanner.specs.Steps.Fetch.{size, without_far_key, is_ready, needs_token, fill, take_token}
use Rattle.saphyr_scanner.specs.Steps.Remaining.{before_place, remaining}
use Rattle.saphyr_scanner.proofs.Effects.Readers.{Readers}
use Rattle.saphyr_scanner.proofs.Handing.Filling.{IsSettled, settled_once}
use Rattle.saphyr_scanner.proofs.Handing.Grown.{FillsOver, FillsAlways, far_dropped, far_refused, far_rest}
use Rattle.saphyr_scanner.proofs.Handing.Unroll.{refused_first, rest, remaining_is, settled_is, filled_in}
use Rattle.saphyr_scalar.proofs.Given.{bind_ok}
use Rattle.std.proofs.lemmas.Bool.{cond-true, cond-false}
use Rattle.saphyr_scanner.proofs.Queues.{holding, place_with_front}

-- what is taken of a state, and what remains of it
abbrev pub LeavesToken : ℕ → State → State → Option Piece → Type 0
LeavesToken limit t u None = (rest limit t ≡ none) × (u ≡ t)
LeavesToken limit t u (Some x) = rest limit t ≡ before x (rest limit u)

abbrev pub TakesToken : ℕ → State → Option Piece × State → Type 0
TakesToken limit t r = LeavesToken limit t r.1 r.0

rest_at_end : (limit : ℕ) (c : Core) (n : ℕ) → needs_token (holding c [] n) ≡ false → rest limit (holding c [] n) ≡ none
rest_at_end limit c n ready = cond-true c.ended _ _ (over c.ended ready)
  where
    over : (b : Bool) → (not b && true) ≡ false → b ≡ true
    over b e = grind arith

-- the tokens of a place that is not held back come first
place_first : (limit : ℕ) (c : Core) (p : Place) (ps : List Place) (n : ℕ) → needs_token (holding c (p ∷ ps) n) ≡ false
    → rest limit (holding c (p ∷ ps) n) ≡ before_place p.opening p.piece (rest limit (holding c ps (n + 1)))
place_first limit c p ps n ready = cond-false (needs_token (holding c (p ∷ ps) n)) _ _ ready

-- Whether a token has to be read does not depend on what comes before the first one.
place_taken : (limit : ℕ) (c : Core) (o : Opening) (t : Piece) (ps : List Place) (n : ℕ)
    → needs_token (holding c (place_with_front o t ∷ ps) n) ≡ false
    → TakesToken limit (holding c (place_with_front o t ∷ ps) n) (take_token (holding c (place_with_front o t ∷ ps) n))
place_taken limit c opening.Nothing t ps n ready = place_first limit c (place_with_front opening.Nothing t) ps n ready
place_taken limit c opening.Key t ps n ready = place_first limit c (place_with_front opening.Key t) ps n ready
    ∙ ap (before _) (sym (place_first limit c (place_with_front opening.Nothing t) ps n ready))
place_taken limit c opening.BlockMappingAndKey t ps n ready =
    place_first limit c (place_with_front opening.BlockMappingAndKey t) ps n ready
    ∙ ap (before _) (sym (place_first limit c (place_with_front opening.Key t) ps n ready))
place_taken limit c opening.FlowMappingAndKey t ps n ready =
    place_first limit c (place_with_front opening.FlowMappingAndKey t) ps n ready
    ∙ ap (before _) (sym (place_first limit c (place_with_front opening.Key t) ps n ready))

pub first_taken : (limit : ℕ) (c : Core) (ps : List Place) (n : ℕ) → needs_token (holding c ps n) ≡ false
    → TakesToken limit (holding c ps n) (take_token (holding c ps n))
first_taken limit c [] n ready = (rest_at_end limit c n ready, refl)
first_taken limit c (p ∷ ps) n ready = place_taken limit c p.opening p.piece ps n ready

-- ## What a call for the next token gives

taken_settles : (t : State) → IsSettled t → IsSettled (take_token t).1
taken_settles t h = h

remaining_of : (limit : ℕ) (t : State) → IsSettled t → remaining limit t ≡ rest limit t
remaining_of limit t h = remaining_is limit t t (settled_is t h)

-- what was read first
pub filled : Readers → (limit : ℕ) (s t : State) → fill limit s ≡ Ok t
    → (remaining limit s ≡ rest limit t) × (needs_token t ≡ false) × IsSettled t
unfolding fill
filled laws limit s t e =
    let b = bind_ok (without_far_key s) _ t e in
    let f = filled_in laws limit (suc (size b.0.core)) b.0 t (omega arith) (settled_once s b.0 b.1) b.2 in
    (remaining_is limit s b.0 b.1 ∙ f.same, f.ready, f.settles)

-- a state whose first token can be handed out
pub ready : (s : State) → is_ready s ≡ true → IsSettled s × (needs_token s ≡ false)
unfolding drop_far_key
ready s e = grind arith

pub filled_ready : (s : State) → IsSettled s → needs_token s ≡ false → is_ready s ≡ true
unfolding drop_far_key
filled_ready s h e = grind arith

-- what was read first, where tokens were read until the first can be handed out
pub peeked : Readers → (limit : ℕ) (s t : State) → fill limit s ≡ Ok t
    → (remaining limit t ≡ remaining limit s) × (is_ready t ≡ true)
peeked laws limit s t e =
    let f = filled laws limit s t e in
    (remaining_of limit t f.2 ∙ sym f.0, filled_ready t f.2 f.1)

-- the first token of a state comes first
pub first_comes : (limit : ℕ) (s : State) (t : Piece) → is_ready s ≡ true → first_of s.queue ≡ Some t
    → remaining limit s ≡ before t (remaining limit (take_token s).1)
first_comes limit s t e is =
    let r = ready s e in
    let gone = rw is at (first_taken limit s.core s.queue.places s.queue.handed r.1) in
    remaining_of limit s r.0 ∙ gone ∙ ap (before t) (sym (remaining_of limit (take_token s).1 (taken_settles s r.0)))

pub none_comes : (limit : ℕ) (s : State) → is_ready s ≡ true → first_of s.queue ≡ None → remaining limit s ≡ none
none_comes limit s e is =
    let r = ready s e in
    let gone = rw is at (first_taken limit s.core s.queue.places s.queue.handed r.1) in
    remaining_of limit s r.0 ∙ gone.0

-- the parts of a kind
abbrev parts_of : Kind → Parts
parts_of (tokens.VersionDirective major minor) = record { handle = []; text = []; major = major; minor = minor }
parts_of (tokens.TagDirective handle prefix) = record { handle = handle; text = prefix; major = 0; minor = 0 }
parts_of (tokens.ReservedDirective name) = text_parts name
parts_of (tokens.Alias name) = text_parts name
parts_of (tokens.Anchor name) = text_parts name
parts_of (tokens.Tag handle suffix) = record { handle = handle; text = suffix; major = 0; minor = 0 }
parts_of (tokens.Scalar style text) = text_parts text
parts_of _ = no_parts

kind_again : (k : Kind) → kind_with (token_kind k) (parts_of k) ≡ k
kind_again k = grind arith

-- What is told of the first token is so.
pub begins : (limit : ℕ) (s : State) → is_ready s ≡ true
    → BeginsWith (kind_shown (first_of s.queue)) (remaining limit s)
begins limit s e = by (first_of s.queue) refl
  where
    by : (o : Option Piece) → first_of s.queue ≡ o → BeginsWith (kind_shown o) (remaining limit s)
    by None is = none_comes limit s e is
    by (Some t) is =
        let same : piece_with t.span (token_kind t.kind) (parts_of t.kind) ≡ t =
        λ i. record { span = t.span; kind = kind_again t.kind i } in (
          t.span,
          parts_of t.kind,
          remaining limit (take_token s).1,
          first_comes limit s t e is ∙ ap (λ u. before u (remaining limit (take_token s).1)) (sym same),
        )

-- the first of some tokens, and those after it
abbrev head_or : Piece → List Piece → Piece
head_or t [] = t
head_or t (u ∷ us) = u

abbrev tail : List Piece → List Piece
tail [] = []
tail (u ∷ us) = us

-- There is only one first token.
one_first : (limit : ℕ) (s : State) (t : Piece) (left : Remaining) → is_ready s ≡ true
    → remaining limit s ≡ before t left
    → (first_of s.queue ≡ Some t) × (remaining limit (take_token s).1 ≡ left)
one_first limit s t left e is = by (first_of s.queue) refl
  where
    by : (o : Option Piece) → first_of s.queue ≡ o
        → (first_of s.queue ≡ Some t) × (remaining limit (take_token s).1 ≡ left)
    by None over =
        let both : ◌≡◌ {A = List Piece} [] (t ∷ left.pieces) =
        ap (λ (r : Remaining). r.pieces) (sym (none_comes limit s e over) ∙ is) in
        absurd (cc)
    by (Some u) some =
        let both = sym (first_comes limit s u e some) ∙ is in
        let same = ap (λ (r : Remaining). head_or u r.pieces) both in
        let rest : remaining limit (take_token s).1 ≡ left =
        λ i. record { pieces = tail (both i).pieces; refusal = (both i).refusal } in
        (some ∙ ap Some same, rest)

-- What is taken first, whatever comes, of a scanner that a caller sees so.
pub first_in : {s seen : Scanning} → s ≡ seen → IsReady seen → (more : List ℕ) (t : Piece) (left : Remaining)
    → tokens_in more seen ≡ before t left
    → (first_of s.state.queue ≡ Some t)
    × ((u : State) (end : Stop) → u ≡ (take_token s.state).1
    → tokens_in more (record s { state = u; stop = end }) ≡ left)
unfolding tokens_over tokens_in
first_in {s = s} same are more t left is =
    let ready = subst IsReady (sym same) are in
    let first = one_first s.limit (with_rest (text_in s.growth more s.state.core.cursor.rest) s.state) t left ready.0
    (ap (tokens_in more) same ∙ is) in
    (first.0, λ u end taken. ap (λ v. tokens_in more (record s { state = v })) taken ∙ first.1)

-- What is read until the first token can be handed out, whatever comes.
filled_readies : Readers → (old new : Scanning) (r : Result Unit Stopped) → new.limit ≡ old.limit
    → FillsAlways old new r → Readies r old new
unfolding tokens_over tokens_in
filled_readies laws old new (Ok u) limit fills = (
  λ more. ap (λ n. remaining n (behind more)) limit ∙ (read more).0,
  (read []).1,
)
  where
    behind : List ℕ → State
    behind more = with_rest (text_in new.growth more new.state.core.cursor.rest) new.state

    read : (more : List ℕ)
        → (remaining old.limit (behind more) ≡ tokens_in more old) × (is_ready (behind more) ≡ true)
    read more = peeked laws old.limit (with_rest (text_in old.growth more old.state.core.cursor.rest) old.state)
        (behind more) (fills.with_more more)
filled_readies laws old new (Err e) limit fills = λ more. by more new.stop (fills.with_more more)
  where
    by : (more : List ℕ) (end : Stop)
        → FillsOver (text_in old.growth more old.state.core.cursor.rest)
        (text_in new.growth more new.state.core.cursor.rest) old new end (Err e)
        → EndsTokens end (tokens_in more old)
    by more stops.OutOfMemory f = tt
    by more (stops.Refused d) f = refused_first laws old.limit
        (with_rest (text_in old.growth more old.state.core.cursor.rest) old.state) d f

-- so it does for a caller
pub readies : Readers → {old seen new : Scanning} {r : Result Unit Stopped} → old ≡ seen → new.limit ≡ old.limit
    → FillsAlways old new r → Readies r seen new
readies laws {old = old} {new = new} {r = r} same limit fills =
    subst (λ s. Readies r s new) same (filled_readies laws old new r limit fills)

-- A candidate that is too far is dropped, and the tokens stay.
pub tokens_stay : (old : Scanning) (t : State) → without_far_key old.state ≡ Ok t → (more : List ℕ)
    → tokens_in more (record old { state = t }) ≡ tokens_in more old
unfolding tokens_over tokens_in
tokens_stay old t e more =
    let text : List ℕ → List ℕ = λ rest. text_in old.growth more rest in
    let x : List ℕ = text old.state.core.cursor.rest in
    let gone = far_dropped x old.state t e in
    ap (λ rest. remaining old.limit (with_rest (text rest) t)) (far_rest old.state t e)
    ∙ remaining_of old.limit (with_rest x t) (settled_once (with_rest x old.state) (with_rest x t) gone)
    ∙ sym (remaining_is old.limit (with_rest x old.state) (with_rest x t) gone)

pub stays_so : (old new : Scanning) → Drops old new → (more : List ℕ) → tokens_in more new ≡ tokens_in more old
unfolding tokens_over tokens_in
stays_so old new drops more = cc (tokens_stay old new.state drops.0 more, drops.1, drops.2)

-- That which must be a key has no colon, whatever comes.
pub tokens_end : (old : Scanning) (e : Refusal) → (is_growing old.growth ≡ true → e.may_change ≡ false)
    → without_far_key old.state ≡ Err e → (more : List ℕ) → tokens_in more old ≡ refusal_alone e
unfolding remaining tokens_over tokens_in
tokens_end old e seen h more = rw (far_refused old.growth more old.state e seen h) refl

-- What ends the tokens where a candidate is too far ends them whatever comes, unless more comes and it is undecided.
pub refuses_far : (old seen new : Scanning) (r : Result Unit Stopped) (rest : List ℕ) → old ≡ seen
    → (is_growing old.growth ≡ true → is_decided r rest new.stop ≡ true)
    → Moves (λ _. new.state) (stopped_by r new.stop) (without_far_key old.state)
    → OnErr r ((more : List ℕ) → EndsTokens new.stop (tokens_in more seen))
refuses_far old seen new (Ok u) rest same decided drops = tt
refuses_far old seen new (Err u) rest same decided fails =
    λ more. subst (λ s. EndsTokens new.stop (tokens_in more s)) same (by new.stop decided fails more)
  where
    by : (end : Stop) → (is_growing old.growth ≡ true → is_decided (Err u) rest end ≡ true)
        → Fails end (without_far_key old.state) → (more : List ℕ) → EndsTokens end (tokens_in more old)
    by stops.OutOfMemory decided f more = tt
    by (stops.Refused d) decided f more =
        tokens_end old d (λ grows. sym (not-not d.may_change) ∙ ap not (decided grows)) f more

-- Where the tokens are the same, what is read on is so from before.
pub readies_from : (r : Result Unit Stopped) (old seen new : Scanning)
    → ((more : List ℕ) → tokens_in more seen ≡ tokens_in more old) → Readies r seen new → Readies r old new
readies_from (Ok u) old seen new same h = (λ more. h.0 more ∙ same more, h.1)
readies_from (Err e) old seen new same h = λ more. subst (EndsTokens new.stop) (same more) (h more)

-- What is shown of the first token is so, whatever comes.
pub shows : (kind : Option TokenKind) (old new : Scanning)
    → ((more : List ℕ) → tokens_in more new ≡ tokens_in more old) → is_ready new.state ≡ true
    → kind ≡ kind_shown (first_of new.state.queue) → new.state.queue.handed + 1 < 2 ^ 64
    → PeeksToken (Ok kind) old new
unfolding tokens_over tokens_in
shows kind old new same ready shown counted = (
  λ more. (
    subst (BeginsWith kind) (same more) (subst (λ k. BeginsWith k (tokens_in more new)) (sym shown)
        (begins new.limit (with_rest (text_in new.growth more new.state.core.cursor.rest) new.state) ready)),
    same more,
  ),
  (ready, counted),
)
