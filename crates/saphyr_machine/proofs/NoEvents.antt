-- Tokens between documents without which the next event is the same.
use Rattle.std.proofs.Common.{◌≡◌, ℕ, true, List, [], ◌∷◌, Result, Ok, refl, sym, ap, subst, ◌∙◌}
use Rattle.std.specs.Prelude.{Option}
use Rattle.saphyr_scalar.specs.declared.scalar.position.Span.{Span}
use Rattle.saphyr_scalar.specs.declared.scalar.fault.Refusal.{Refusal}
use Rattle.saphyr_scanner.specs.Grammar.Tokens as tokens
use Rattle.saphyr_scanner.specs.Grammar.Tokens.{Kind}
use Rattle.saphyr_scanner.specs.Longer.{before_all}
use Rattle.saphyr_scanner.specs.Views.Tokens.{Piece, Remaining}
use Rattle.saphyr_machine.specs.Passed.{MakeNoEvent}
use Rattle.saphyr_machine.specs.Steps.Documents.{directives, explicit_document, implicit_start, implicit_start_at, is_directive, is_end_or_mark, unpassed_token}
use Rattle.saphyr_machine.specs.Steps.Machine.{◌>>=◌, Machine, taken_token}
use Rattle.saphyr_machine.proofs.Passing.{passes, put_back_again}

-- `...` and a byte order mark
pub marks_are_idle : (t : Piece) (r : Remaining) → is_end_or_mark t.kind ≡ true → MakeNoEvent (t ∷ []) r
unfolding implicit_start
marks_are_idle t r passed m =
    ap (λ (u : Result (Piece × Machine) Refusal). u >>= λ p. implicit_start_at p.0.kind p.0 p.1)
    (sym (passes is_end_or_mark (record m { tokens = before_all (t ∷ []) r }) (record m { tokens = r }) t refl passed))

-- a reserved directive, before another directive
before_directive : (span place : Span) (name : List ℕ) (k : Kind) (us : List Piece) (f : Option Refusal)
    → is_directive k ≡ true
    → MakeNoEvent (record { span = span; kind = tokens.ReservedDirective name } ∷ [])
    (record { pieces = record { span = place; kind = k } ∷ us; refusal = f })
unfolding implicit_start unpassed_token explicit_document directives
before_directive span place name (tokens.VersionDirective major minor) us f is m = refl
before_directive span place name (tokens.TagDirective handle prefix) us f is m = refl
before_directive span place name (tokens.ReservedDirective other) us f is m = refl
before_directive span place name _ us f is m = absurd (cc)

pub directives_are_idle : (n left : Machine) (u : Piece) (span : Span) (name : List ℕ) → taken_token n ≡ Ok (u, left)
    → is_directive u.kind ≡ true
    → MakeNoEvent (record { span = span; kind = tokens.ReservedDirective name } ∷ []) n.tokens
directives_are_idle n left u span name next is =
    subst (λ (k : Machine). MakeNoEvent (record { span = span; kind = tokens.ReservedDirective name } ∷ []) k.tokens)
    (put_back_again n left u next)
    (before_directive span u.span name u.kind left.tokens.pieces left.tokens.refusal is)

-- a token that is shown changes nothing
pub shown_alike : (m n left : Machine) (t : Piece) → taken_token m ≡ taken_token n → taken_token n ≡ Ok (t, left)
    → n ≡ m
shown_alike m n left t same next = sym (put_back_again n left t next) ∙ put_back_again m left t (same ∙ next)
