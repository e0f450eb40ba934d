-- A token that may be a key is the next one when it is saved: no candidate for an earlier place appears later.
use Rattle.std.proofs.Common.{ℕ, ◌≤◌, List, [], ◌∷◌}
use Rattle.std.specs.Prelude.{Option, Some, None}
use Rattle.saphyr_scanner.specs.Steps.Core.{Core, Action, Put, Open, Step}
use Rattle.saphyr_scanner.specs.Steps.Level.{Candidate, Level}

abbrev pub KeyAbove : ℕ → Option Candidate → Type 0
KeyAbove h None = Unit {0}
KeyAbove h (Some k) = h ≤ k.place

abbrev pub LevelsAbove : ℕ → List Level → Type 0
LevelsAbove h [] = Unit {0}
LevelsAbove h (l ∷ ls) = KeyAbove h l.key × LevelsAbove h ls

-- no candidate is at a place before the one of this number
abbrev pub Above : ℕ → Core → Type 0
Above h c = KeyAbove h c.level.key × LevelsAbove h c.outer

-- none of these opens a place before the one of this number
abbrev pub ActionsAbove : ℕ → List Action → Type 0
ActionsAbove h [] = Unit {0}
ActionsAbove h (Put t ∷ others) = ActionsAbove h others
ActionsAbove h (Open n o ∷ others) = (h ≤ n) × ActionsAbove h others

abbrev pub KeepsPlacesAbove : ℕ → Step → Type 0
KeepsPlacesAbove h x = Above h x.core × ActionsAbove h x.actions
