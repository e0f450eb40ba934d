-- A refusal has the place of a token, or is the one that ends the tokens.
use Rattle.event_laws.proofs.Common.{◌≡◌, ℕ, suc, Bool, false, List, [], ◌∷◌, Option, Some, None, refl, arith, ◌⊎◌, inl, inr, Marker, Refusal, Kind, Piece, Remaining, AreAtPlaces, IsPlaceOf, Machine, ending_refusal, at_start, keeping_tags, to_come, HasPlaceIn, is_end, Walk, between, Resumes, IsFailed, runs}
use Rattle.saphyr_scalar.specs.Views.Cursor as scalar
use Rattle.saphyr_scanner.specs.Grammar.Tokens as tokens
use Rattle.saphyr_scanner.specs.TokensTaken as taken
use Rattle.saphyr_machine.specs.declared.state.State.TheVariants as state
use Rattle.saphyr_machine.specs.Steps.Machine.{text_start}
use Rattle.saphyr_machine.specs.Answer.{Ending, remaining_answer, machine_size}

-- a refusal with such a place
abbrev pub IsRefusedAt : (Marker → Type 0) → Option Refusal → Type 0
IsRefusedAt P None = ⊥
IsRefusedAt P (Some e) = P e.mark

-- the end of the stream, after which none of the tokens ts is, or else A
abbrev pub IsLastOr : Type 0 → List Piece → Kind → Type 0
IsLastOr A ts tokens.StreamEnd = ts ≡ []
IsLastOr A ts _ = A

-- the end of the stream is the last token and no other, or a refusal with such a place ends the tokens
abbrev pub AreEnded : (Marker → Type 0) → Option Refusal → List Piece → Type 0
AreEnded P r [] = IsRefusedAt P r
AreEnded P r (t ∷ ts) = IsLastOr (AreEnded P r ts) ts t.kind

refused_mark : (P : Marker → Type 0) (r : Option Refusal) → IsRefusedAt P r → P (ending_refusal r).mark
refused_mark u0 u1 h = grind arith

known_before_last : (A : Type 0) (ts : List Piece) (k : Kind) → is_end k ≡ false → IsLastOr A ts k → A
known_before_last u0 ts u1 e h = grind arith

pub starts_text : (text : List ℕ) → IsPlaceOf text text_start
starts_text text = (scalar.start_cursor text, taken.nothing text_start text, inl refl, omega arith)

-- the tokens are at places of the text; after the end of the stream nothing is known of them
abbrev placed : List ℕ → Walk
placed text = record {
  Spans = λ a b. IsPlaceOf text a × IsPlaceOf text b;
  Ahead = λ low d r ts. IsPlaceOf text low × AreAtPlaces text ts × AreEnded (IsPlaceOf text) r ts;
  Rests = λ s d r ts. (s ≡ state.End) ⊎ (AreAtPlaces text ts × AreEnded (IsPlaceOf text) r ts);
  Fails = λ f. IsPlaceOf text f.mark;
  joined = λ a b c s t. (s.0, t.1);
  start = (starts_text text, starts_text text);
  first = λ a b s. (s.0, s.0);
  last = λ a b s. (s.1, s.1);
  fails = λ words a s. s.0;
  nothing = λ low d r a. refused_mark (IsPlaceOf text) r a.2;
  own = λ low d r t ts a. ((a.0, a.1.0.0), (a.1.0.0, a.1.0.1));
  from_start = λ low d r t ts a. (a.1.0.0, a.1, a.2);
  behind = λ low d r t ts e a. (a.1.0.1, a.1.1, known_before_last (AreEnded (IsPlaceOf text) r ts) ts t.kind e a.2);
  less = λ low c d r ts l a. a;
  rests = λ low s d r ts a. inr (a.1, a.2);
  over = λ low d c r t ts e l a. inl refl;
}

resumes : (text : List ℕ) → Resumes (placed text)
resumes text s c d r ts n (inl e) = absurd (n e)
resumes text s c d r ts n (inr h) =
    (text_start, (starts_text text, h.0, h.1))

failed : (text : List ℕ) (o : Option Ending) → IsFailed (placed text) o → HasPlaceIn text o
failed text o h = grind arith

pub refused_at : (text : List ℕ) (tokens : Remaining) (keep : Bool) → AreAtPlaces text tokens.pieces
    → AreEnded (IsPlaceOf text) tokens.refusal tokens.pieces
    → HasPlaceIn text (to_come (keeping_tags keep (at_start tokens))).fault
unfolding remaining_answer
refused_at text tokens keep a e =
    let m : Machine = (keeping_tags keep (at_start tokens)).machine in
    failed text _ (runs (placed text) (resumes text) (suc (machine_size m)) m
    (between (placed text) m tt (inr (a, e)))).fault
