-- What a step does, in one statement: what it takes off the text, that its tokens are in order between the place
-- where it begins and the one that is reached, that they are few, that none is the end of the stream, and that what may
-- be a key after it might be one before, or is its own token.
use Rattle.saphyr_scanner.proofs.Common.{◌≡◌, ℕ, ◌+◌, ◌≤◌, refl, arith, Marker, Cursor, by_test, Given, given_bind, given_of}
use Rattle.std.specs.Prelude.{◌&&◌, not, Option, Some, None}
use Rattle.saphyr_scanner.specs.Steps.Gap as gaps
use Rattle.saphyr_scanner.specs.Steps.Core.{Core, Step, in_block, remove_key, forget_key, drop_far_key, is_too_far, least_column}
use Rattle.saphyr_scanner.specs.Steps.Passing.{pass_gap, check_comment, goes_on_behind, behind_gap, check_comment_of}
use Rattle.saphyr_scanner.proofs.Counted.{Ahead, stays, ahead_ahead, apart_over}
use Rattle.saphyr_scanner.proofs.Effects.Readers.{Readers, ReaderEnds, Less}
use Rattle.saphyr_scanner.proofs.Ordered.Queue.{PutsInOrder}
use Rattle.saphyr_scanner.proofs.Taken.Separated.{gap_apart}
use Rattle.saphyr_scanner.proofs.Taken.Candidates.{Above, KeepsPlacesAbove}
use Rattle.saphyr_scanner.proofs.Added.Queue.{PutsGoOn, added, open_blocks}

-- ## The statement

-- Of a step whose token has the place of this number, if it may be a key. What the readers take off and where they end
-- is told by their laws, by those that are needed for each.
pub record EffectAt (n : ℕ) (c : Core) (x : Step) : Type 0 where
  pub less : Readers → Less x.core.cursor c.cursor
  pub ahead : ReaderEnds → Ahead c.cursor x.core.cursor
  pub puts : ReaderEnds → PutsInOrder x.core.cursor.mark.index c.cursor.mark.index x.actions
  pub started : x.core.started ≡ c.started
  pub ended : x.core.ended ≡ c.ended
  pub goes_on : PutsGoOn x.actions
  pub few : added x.actions + open_blocks x.core ≤ open_blocks c + 5
  pub keeps : (h : ℕ) → (h ≤ n) × Above h c → KeepsPlacesAbove h x

-- From c to d n block collections begin at most, the stream neither begins nor ends, and nothing more may be a key.
abbrev pub Begins : ℕ → Core → Core → Type 0
Begins n c d = (d.started ≡ c.started) × (d.ended ≡ c.ended) × (open_blocks d ≤ open_blocks c + n)
    × ((h : ℕ) → Above h c → Above h d)

pub begins_none : (c : Core) → Begins 0 c c
begins_none c = (refl, refl, omega arith, λ h a. a)

-- a key is forgotten
pub begins_forgotten : (n : ℕ) (c d : Core) → Begins n c d → Begins n c (forget_key d)
begins_forgotten n c d g = (g.0, g.1, g.2, λ h a. (tt, (g.3 h a).1))

-- ## What is passed

-- from the place s on to d, which comes of c
abbrev pub Goes : ℕ → Cursor → Core → Core → Type 0
Goes n s c d = Ahead s d.cursor × Begins n c d

pub goes_none : (c : Core) → Goes 0 c.cursor c c
goes_none c = (stays c.cursor c.cursor refl, begins_none c)

check_comment_of_goes : (n : ℕ) (s : Cursor) (c : Core) (m : Option Marker) (d : Core) → Goes n s c d
    → Given (Goes n s c) (check_comment_of m d)
check_comment_of_goes n s c None d g = g
check_comment_of_goes n s c (Some m) d g =
    by_test (goes_on_behind m (record d { comment = None })) _ _ (Given (Goes n s c)) (λ _. tt) (λ _. g)

check_goes : (n : ℕ) (s : Cursor) (c d : Core) → Goes n s c d → Given (Goes n s c) (check_comment d)
unfolding check_comment
check_goes n s c d g = check_comment_of_goes n s c d.comment d g

pub gap_goes : (n : ℕ) (s : Cursor) (c d : Core) → Goes n s c d → Given (Goes n s c) (pass_gap d)
unfolding pass_gap
gap_goes n s c d g = given_bind (Goes n s c) (gaps.whole_gap (least_column d) d.cursor) _ (λ p e.
    check_goes n s c (behind_gap d p) (
      ahead_ahead s d.cursor p.cursor g.0
          (apart_over d.cursor p.cursor (given_of _ (gaps.whole_gap (least_column d) d.cursor) p
          (gap_apart (least_column d) d.cursor) e)),
      g.1,
    ))

pub remove_goes : (n : ℕ) (s : Cursor) (c d : Core) → Goes n s c d → Given (Goes n s c) (remove_key d)
unfolding remove_key
remove_goes n s c d g =
    by_test (in_block d && d.required) _ _ (Given (Goes n s c)) (λ _. tt) (λ _. (g.0, begins_forgotten n c d g.1))

pub drop_goes : (n : ℕ) (s : Cursor) (c d : Core) → Goes n s c d → Given (Goes n s c) (drop_far_key d)
unfolding drop_far_key
drop_goes n s c d g =
    by_test (not (in_block d && is_too_far d.level.key d.cursor.mark)) _ _ (Given (Goes n s c)) (λ _. g)
    (λ _. by_test d.required _ _ (Given (Goes n s c)) (λ _. tt) (λ _. (g.0, begins_forgotten n c d g.1)))
