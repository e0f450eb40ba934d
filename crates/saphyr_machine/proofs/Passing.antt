-- Tokens that are passed, one at a time.
use Rattle.std.proofs.Common.{◌≡◌, ℕ, ◌<◌, Bool, true, false, List, [], ◌∷◌, length, Ok, Err, refl, sym, ap, ◌∙◌, arith}
use Rattle.saphyr_scalar.specs.declared.scalar.position.Span.{Span}
use Rattle.saphyr_scalar.specs.declared.scalar.fault.Refusal.{Refusal}
use Rattle.std.specs.Prelude.{IfOk, Some}
use Rattle.saphyr_scalar.specs.declared.scalar.fault.Stop.{Stop}
use Rattle.saphyr_scalar.specs.declared.scalar.fault.Stop.TheVariants as stop
use Rattle.saphyr_scalar.specs.Views.Reader.{Fails}
use Rattle.saphyr_scanner.specs.Grammar.Tokens as tokens
use Rattle.saphyr_scanner.specs.Grammar.Tokens.{Kind}
use Rattle.saphyr_scalar.specs.declared.scalar.style.ScalarStyle.{ScalarStyle}
use Rattle.saphyr_scanner.specs.declared.token.TokenKind.{TokenKind}
use Rattle.saphyr_scanner.specs.Views.Tokens.{Parts, Piece, Remaining, before, kind_with, piece_with, style_of_kind, token_kind}
use Rattle.saphyr_machine.specs.declared.state.State.{State}
use Rattle.saphyr_machine.specs.declared.machine.Machine as declared
use Rattle.saphyr_machine.specs.Views.Machines.{IsNext, machine_in}
use Rattle.saphyr_machine.specs.Steps.Machine.{Machine, push, put_back, taken_token, taken_token_from}
use Rattle.saphyr_machine.specs.Steps.Documents.{unpassed_token, unpassed_token_from, Declared, is_directive, directive_at, directives, directives_from}

shorter_from : (ts : List Piece) (m n : Machine) (t : Piece) → taken_token_from ts m ≡ Ok (t, n)
    → length n.tokens.pieces < length ts
shorter_from u0 m n t e = grind arith

pub shorter : (m n : Machine) (t : Piece) → taken_token m ≡ Ok (t, n) → length n.tokens.pieces < length m.tokens.pieces
shorter m n t e = shorter_from m.tokens.pieces m n t e

-- ## Passing by a test

passes_from : (passed : Kind → Bool) (ts : List Piece) (m n : Machine) (t : Piece) → taken_token_from ts m ≡ Ok (t, n)
    → passed t.kind ≡ true → unpassed_token_from passed n.tokens.pieces n ≡ unpassed_token_from passed ts m
passes_from passed u0 m n t e h = grind arith

stops_from : (passed : Kind → Bool) (ts : List Piece) (m n : Machine) (t : Piece) → taken_token_from ts m ≡ Ok (t, n)
    → passed t.kind ≡ false → unpassed_token_from passed ts m ≡ Ok (t, n)
stops_from passed u0 m n t e h = grind arith

fails_from : (passed : Kind → Bool) (ts : List Piece) (m : Machine) (f : Refusal) → taken_token_from ts m ≡ Err f
    → unpassed_token_from passed ts m ≡ Err f
fails_from passed [] m f e = cc
fails_from passed (x ∷ ts) m f e = absurd (cc)

pub passes : (passed : Kind → Bool) (m n : Machine) (t : Piece) → taken_token m ≡ Ok (t, n) → passed t.kind ≡ true
    → unpassed_token passed n ≡ unpassed_token passed m
unfolding unpassed_token
passes passed m n t e h = passes_from passed m.tokens.pieces m n t e h

pub stops : (passed : Kind → Bool) (m n : Machine) (t : Piece) → taken_token m ≡ Ok (t, n) → passed t.kind ≡ false
    → unpassed_token passed m ≡ Ok (t, n)
unfolding unpassed_token
stops passed m n t e h = stops_from passed m.tokens.pieces m n t e h

pub fails : (passed : Kind → Bool) (m : Machine) (f : Refusal) → taken_token m ≡ Err f → unpassed_token passed m ≡ Err f
unfolding unpassed_token
fails passed m f e = fails_from passed m.tokens.pieces m f e

-- what the loop has come to
pub passes_on : (passed : Kind → Bool) (first m n : Machine) (t : Piece) (r : Bool)
    → unpassed_token passed m ≡ unpassed_token passed first
    → taken_token m ≡ Ok (t, n) → r ≡ passed t.kind → r ≡ true → unpassed_token passed n ≡ unpassed_token passed first
passes_on passed first m n t r i e q h = passes passed m n t e (sym q ∙ h) ∙ i

pub stops_at : (passed : Kind → Bool) (first m n : Machine) (t : Piece) (r : Bool)
    → unpassed_token passed m ≡ unpassed_token passed first
    → taken_token m ≡ Ok (t, n) → r ≡ passed t.kind → r ≡ false → unpassed_token passed first ≡ Ok (t, n)
stops_at passed first m n t r i e q h = sym i ∙ stops passed m n t e (sym q ∙ h)

pub fails_at : (passed : Kind → Bool) (first m : Machine) (e : Stop)
    → unpassed_token passed m ≡ unpassed_token passed first
    → Fails e (taken_token m) → Fails e (unpassed_token passed first)
fails_at passed first m stop.OutOfMemory i h = tt
fails_at passed first m (stop.Refused f) i h = sym i ∙ fails passed m f h

-- ## Directives

ends_from : (ts : List Piece) (d : Declared) (m n : Machine) (t : Piece) → taken_token_from ts m ≡ Ok (t, n)
    → is_directive t.kind ≡ false → directives_from ts d m ≡ Ok (t, n)
ends_from u0 d m n t e h = grind arith

breaks_from : (ts : List Piece) (d : Declared) (m : Machine) (f : Refusal) → taken_token_from ts m ≡ Err f
    → directives_from ts d m ≡ Err f
breaks_from [] d m f e = cc
breaks_from (x ∷ ts) d m f e = absurd (cc)

pub directs : (d0 d e : Declared) (first m n k : Machine) (t : Piece) (r : Bool) → directives d m ≡ directives d0 first
    → taken_token m ≡ Ok (t, n) → r ≡ is_directive t.kind → r ≡ true → directive_at t.kind t d n ≡ Ok (e, k)
    → directives e k ≡ directives d0 first
unfolding directives
directs d0 d e first m n k t r i h q w s = grind arith

pub directs_at : (d0 d : Declared) (first m n : Machine) (t : Piece) (r : Bool) (f : Stop)
    → directives d m ≡ directives d0 first → taken_token m ≡ Ok (t, n) → r ≡ is_directive t.kind → r ≡ true
    → Fails f (directive_at t.kind t d n) → Fails f (directives d0 first)
unfolding directives
directs_at d0 d first m n t r u0 i h q w s = grind arith

pub directives_end : (d0 d : Declared) (first m n : Machine) (t : Piece) (r : Bool)
    → directives d m ≡ directives d0 first → taken_token m ≡ Ok (t, n) → r ≡ is_directive t.kind → r ≡ false
    → directives d0 first ≡ Ok (t, n)
unfolding directives
directives_end d0 d first m n t r i h q w = sym i ∙ ends_from m.tokens.pieces d m n t h (sym q ∙ w)

pub directives_fail : (d0 d : Declared) (first m : Machine) (f : Stop) → directives d m ≡ directives d0 first
    → Fails f (taken_token m) → Fails f (directives d0 first)
unfolding directives
directives_fail d0 d first m stop.OutOfMemory i h = tt
directives_fail d0 d first m (stop.Refused f) i h = sym i ∙ breaks_from m.tokens.pieces d m f h

-- After a directive there are fewer tokens.
pub shorter_behind : (m n k : Machine) (t : Piece) (d e : Declared) → taken_token m ≡ Ok (t, n)
    → directive_at t.kind t d n ≡ Ok (e, k) → length k.tokens.pieces < length m.tokens.pieces
shorter_behind m n k t d e h s = grind arith

-- ## A token that stays

back_again : (ts : List Piece) (m n : Machine) (t : Piece) → m.tokens.pieces ≡ ts → taken_token_from ts m ≡ Ok (t, n)
    → put_back t n ≡ m
back_again u0 m n t is e = grind arith

-- What is taken and put back is as it was.
pub put_back_again : (m n : Machine) (t : Piece) → taken_token m ≡ Ok (t, n) → put_back t n ≡ m
put_back_again m n t e = back_again m.tokens.pieces m n t refl e

-- ## The tokens of a scanner

-- a machine with these tokens
abbrev pub with_tokens : Remaining → Machine → Machine
with_tokens r m = record m { tokens = r }

-- What holds of the first token and of those after it holds of what a machine takes.
pub if_taken : (r : Remaining) (m : Machine) (P : Piece → Machine → Type 0)
    → ((t : Piece) (left : Remaining) → r ≡ before t left → P t (with_tokens left m))
    → IfOk (taken_token (with_tokens r m)) (λ taken. P taken.0 taken.1)
if_taken r m u0 h = grind arith

-- The first token is taken.
pub first_taken : (r left : Remaining) (m : Machine) (t : Piece) → r ≡ before t left
    → taken_token (with_tokens r m) ≡ Ok (t, with_tokens left m)
first_taken r left m t is = rw is refl

-- A token with a style is a scalar's.
pub scalar_of : (kind : TokenKind) (style : ScalarStyle) (x : Parts) → style_of_kind kind ≡ Some style
    → kind_with kind x ≡ tokens.Scalar style x.text
scalar_of kind style x e = grind arith

-- What is expected later is apart from the tokens.
pub pushed : (s : State) (m n : Machine) (t : Piece) → taken_token m ≡ Ok (t, n)
    → taken_token (push s m) ≡ Ok (t, push s n)
pushed s m n t e = grind arith

-- A token that is shown changes no prefix.
pub keeps_prefixes : (m n k : Machine) (t : Piece) → taken_token m ≡ taken_token n → taken_token n ≡ Ok (t, k)
    → n.prefixes ≡ m.prefixes
keeps_prefixes m n k t same e =
    ap (λ (m : Machine). m.prefixes) (sym (put_back_again n k t e) ∙ put_back_again m k t (same ∙ e))

-- ## The next token

-- the next token, if these characters come behind what came
abbrev pub next_in : {T : Type 0} (kind : TokenKind) (m : declared.Machine T) (more : List ℕ) → IsNext kind m
    → (span : Span) × (x : Parts) × (left : Machine)
    × (taken_token (machine_in more m) ≡ Ok (piece_with span kind x, left))
next_in kind m more next = (next.0.0 more, next.0.1 more, next.0.2 more, next.0.3 more)

-- Put back, it leaves the machine as it was.
pub next_put_back : {T : Type 0} (kind : TokenKind) (m : declared.Machine T) (next : IsNext kind m) (more : List ℕ)
    → put_back (piece_with (next.0.0 more) kind (next.0.1 more)) (next.0.2 more) ≡ machine_in more m
next_put_back kind m next more =
    put_back_again (machine_in more m) (next.0.2 more) (piece_with (next.0.0 more) kind (next.0.1 more)) (next.0.3 more)

-- A token that has the same span and the same parts is the same.
pub same_piece : (kind : TokenKind) (x y : Parts) (s r : Span) → s ≡ r
    → kind_with kind x ≡ kind_with (token_kind (kind_with kind x)) y → piece_with s kind x ≡ piece_with r kind y
same_piece kind x y s r same e = grind arith
