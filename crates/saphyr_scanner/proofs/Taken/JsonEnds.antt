-- What is passed with a token: a character at least; or the text ends like JSON after it; or it is one without a text,
-- which changes neither that nor the open brackets; or it is outside flow.
use Rattle.saphyr_scanner.proofs.Common.{◌≡◌, ℕ, ◌<◌, ◌⊎◌, Bool, true, false, List, [], ◌∷◌, ◌++◌, length, ap, ◌∙◌, arith, inl, inr, nat_lt, Marker, Span, Cursor, IsPlainReading}
use Rattle.std.proofs.lemmas.List.{length-append}
use Rattle.saphyr_scanner.specs.Grammar.Tokens.{Kind}
use Rattle.saphyr_scanner.specs.TokensTaken.{Collections, Surroundings, IsSpan, open_behind, ends_json_behind}
use Rattle.saphyr_scanner.specs.TokensInPlace.{has_text}
use Rattle.saphyr_scanner.proofs.Taken.KeysInPlace.{no_text}
use Rattle.saphyr_scanner.proofs.Taken.Later.{plain_later}

-- as many brackets are open after it
abbrev pub LeavesBrackets : Kind → Span → Type 0
LeavesBrackets kind span = (opened : Collections) → (open_behind kind span opened).brackets ≡ opened.brackets

-- it stays whether the text ends like JSON
abbrev pub LeavesEnd : Kind → Span → Type 0
LeavesEnd kind span = (b : Bool) → ends_json_behind kind span b ≡ b

-- where it has no text it leaves both
abbrev pub LeavesBoth : Kind → Span → Type 0
LeavesBoth kind span = has_text span ≡ false → LeavesBrackets kind span × LeavesEnd kind span

-- what is passed with a token from s to t
abbrev pub GoesOn : Surroundings → Kind → Span → Cursor → Cursor → Type 0
GoesOn i kind span s t = (s.mark.index < t.mark.index) ⊎ (((b : Bool) → ends_json_behind kind span b ≡ true)
    ⊎ (LeavesBrackets kind span × (LeavesEnd kind span ⊎ (i.in_flow ≡ false))))

pub plain_goes_on : (f : Bool) (s t : Cursor) (value : List ℕ) (end : Marker) → IsPlainReading f s value end t
    → s.mark.index < t.mark.index
plain_goes_on f s t value end r =
    let b = length-append r.piece (r.white ++ t.rest) in
    let c = length-append r.white t.rest in
    let d = ap length r.closes in
    let e = length-append r.front (r.last ∷ []) in
    let n = (plain_later f s t value end r).counted in omega (arith, ap length r.is, b, c, d, e, n)

-- a span from s to t has a text, or the place is the same
pub span_goes_on : (text : List ℕ) (span : Span) (s t : Cursor) → IsSpan span text s t
    → (s.mark.index < t.mark.index) ⊎ (has_text span ≡ false)
span_goes_on text span s t h = grind arith

pub empty : (span : Span) → span.end ≡ span.start → has_text span ≡ false
empty span e = ap (λ (m : Marker). nat_lt span.start.index m.index) e ∙ no_text span.start.index

pub bare : (i : Surroundings) (kind : Kind) (span : Span) (s t : Cursor) → LeavesBoth kind span → has_text span ≡ false
    → GoesOn i kind span s t
bare i kind span s t l e = inr (inr ((l e).0, inl (l e).1))
