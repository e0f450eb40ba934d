-- Tokens of the same kinds, wherever they are.
use Rattle.std.specs.Prelude.{◌≡◌, map, option_map}
use Rattle.saphyr_scalar.specs.declared.scalar.fault.Refusal.{Refusal}
use Rattle.saphyr_scanner.specs.Views.Tokens.{Piece, Remaining}

-- The same kinds in the same order, and a refusal with the same text after both, or none.
pub record HaveSameKinds (r q : Remaining) : Type 0 where
  pub kinds : map (λ (t : Piece). t.kind) r.pieces ≡ map (λ (t : Piece). t.kind) q.pieces
  pub refusals : option_map (λ (e : Refusal). e.text) r.refusal ≡ option_map (λ (e : Refusal). e.text) q.refusal
