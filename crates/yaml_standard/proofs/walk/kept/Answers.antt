use Rattle.std.proofs.Common.{List, ℕ, rules, subst}
use Rattle.std.specs.Str.{chars}
use Rattle.std.proofs.lemmas.Option.{IfSome_then}
use Rattle.yaml_standard.specs.declared.goal.Goals.{Goals}
use Rattle.yaml_standard.specs.Goals.{Replaces}
use Rattle.yaml_standard.specs.Leads.{IsWhatComes}
use Rattle.yaml_standard.proofs.Pieces.{same_text}
use Rattle.yaml_standard.proofs.walk.kept.Goals as goal

pub returns-in-None : goal.returns-in-None
returns-in-None c =
    let taken = subst (λ (x : Goals). Replaces c.requires.replaced.0 (chars c.args.text.now) (chars c.args.rest.now) x)
    c.in-None.is c.requires.replaced.1 in
    let same = same_text _ _ taken.piece c.utf8.text c.utf8.rest (search rules) taken.cut in
    IfSome_then c.args.ahead c.requires.known (λ a h. subst (λ (t : List ℕ). IsWhatComes a t) same h)
