use Rattle.std.proofs.Common.{◌≡◌, ◌∙◌, ◌++◌, ap, subst, refl, IsUtf8, List, ℕ, string_bytes, take, rules}
use Rattle.std.specs.Prelude.{slice_range}
use Rattle.saphyr_input.proofs.Texts.{Front, front_of}
use Rattle.saphyr_input.proofs.input.str.StrInput.fetch.Goals as goal
use Rattle.saphyr_input.proofs.input.str.StrInput.fetch.Goals.{After-as_bytes}

from_start : (bs : List ℕ) (n : ℕ) → slice_range bs 0 n ≡ take n bs
from_start bs n = search rules

-- what is appended, and where it ends
front : (c : After-as_bytes) → Front c.args.self.now.rest.now c.args.rest.now c.args.count
front c = front_of c.args.self.now.rest.now c.args.rest.now c.args.count
    (subst IsUtf8 c.as_bytes.ensures.value c.as_bytes.ensures.utf8) c.utf8.rest c.requires

pub overflow_sub-self : goal.overflow_sub-self
overflow_sub-self c = (front (goal.at.overflow_sub-self c).After-as_bytes).fits

pub range-front-requires-clause-end_boundary : goal.range-front-requires-clause-end_boundary
range-front-requires-clause-end_boundary c =
    (front (goal.at.range-front-requires-clause-end_boundary c).After-as_bytes).boundary

pub returns-clause-ok : goal.returns-clause-ok
returns-clause-ok c =
    let h = front (goal.at.returns-clause-ok c).After-as_bytes in (
      refl,
      record {
        taken = c.requires;
        appended =
            c.in_ok-push_str.ensures.bytes
            ∙ ap (λ (bs : List ℕ). string_bytes c.args.out.now ++ bs)
            (c.range-front.ensures.value ∙ from_start _ _ ∙ h.front);
      },
    )
