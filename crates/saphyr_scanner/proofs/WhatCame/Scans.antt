-- What a scanner has read for good, it reads with more of the text too.
use Rattle.std.proofs.Common.{◌≡◌, ℕ, true, false, List, ◌++◌, Option, Err, ap}
use Rattle.saphyr_scalar.specs.declared.scalar.fault.Refusal.{Refusal}
use Rattle.saphyr_scanner.specs.Views.Tokens.{Piece, refusal_alone}
use Rattle.saphyr_scanner.specs.Steps.Fetch.{needs_token}
use Rattle.saphyr_scanner.specs.Steps.Remaining.{scan}
use Rattle.saphyr_scanner.proofs.Effects.Readers.{Readers}
use Rattle.saphyr_scanner.specs.Steps.State.{State}
use Rattle.saphyr_scalar.proofs.WhatCame.Rests.{known_longer}
use Rattle.saphyr_scanner.specs.Longer.{extended_by, state_behind_token, before_all, ScansTo, starts, reads, takes}
use Rattle.saphyr_scanner.proofs.WhatCame.Fetches.{token_came}
use Rattle.saphyr_scanner.proofs.WhatCame.HandedTokens.{refusal_ends}

pub goes_on : (limit : ℕ) (text more : List ℕ) (ts : List Piece) (s : State) → ScansTo limit text ts s
    → ScansTo limit (text ++ more) ts (extended_by more s)
goes_on limit text more _ _ starts = starts
goes_on limit text more _ _ (reads ts s t h needs e known) = reads ts (extended_by more s) (extended_by more t)
    (goes_on limit text more ts s h) needs ((token_came more limit s).same t e known)
    (known_longer t.core.cursor.rest more known)
goes_on limit text more _ _ (takes ts s t x h ready e) = takes ts (extended_by more s) (extended_by more t) x
    (goes_on limit text more ts s h) ready (ap (λ (y : Option Piece × State). (y.0, extended_by more y.1)) e)

-- what is refused whatever comes ends the tokens of each longer text
pub ends_so : Readers → (limit : ℕ) (text more : List ℕ) (ts : List Piece) (s : State) (e : Refusal)
    → ScansTo limit text ts s → needs_token s ≡ true → state_behind_token limit s ≡ Err e → e.may_change ≡ false
    → scan limit (text ++ more) ≡ before_all ts (refusal_alone e)
ends_so laws limit text more ts s e h needs is seen = refusal_ends laws limit (text ++ more) ts (extended_by more s) e
    (goes_on limit text more ts s h) needs ((token_came more limit s).reported e is seen)
