-- Runs of a scanner that hand out nothing: all tokens stay in the queue.
use Rattle.std.proofs.Common.{◌≡◌, ℕ, false, Ok}
pub use Rattle.saphyr_scanner.specs.Steps.Queue.{flat, place_pieces}
use Rattle.saphyr_scanner.specs.Steps.State.{State}
use Rattle.saphyr_scanner.specs.Steps.Fetch.{fetch_within, without_far_key}

-- from a state to d, a token after the other
pub data LeadsTo (limit : ℕ) (d : State) : State → Type 0 where
  stay : LeadsTo limit d d
  onward : (s t u : State) → s.core.ended ≡ false → fetch_within limit s ≡ Ok t → without_far_key t ≡ Ok u
      → LeadsTo limit d u → LeadsTo limit d s

-- one run after another
pub leads_on : {limit : ℕ} {d m : State} {s : State} → LeadsTo limit m s → LeadsTo limit d m → LeadsTo limit d s
leads_on stay k = k
leads_on (onward s t u going is settles l) k = onward s t u going is settles (leads_on l k)
