-- Lines before a place.
use Rattle.std.proofs.Common.{ℕ, ◌<◌, ◌≤◌, List, arith}
use Rattle.yaml_check.specs.Helps.{BeginsContent}

-- what is before an earlier place is before a place
pub content_earlier : (text : List ℕ) (end middle at : ℕ) → middle ≤ end → BeginsContent text middle at
    → BeginsContent text end at
content_earlier text end middle at earlier b =
    let before : b.last < middle = b.before in
    record { start = b.start; last = b.last; line = b.line; content = b.content; before = omega arith }
