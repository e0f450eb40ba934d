use Rattle.std.proofs.Common.{◌≡◌, rules, None}
use Rattle.saphyr_parser_c.proofs.Followed.{follows_alias, follows_itself, follows_none}
use Rattle.saphyr_parser_c.proofs.following.follow.Goals as goal

pub returns-in_err-id : goal.returns-in_err-id
returns-in_err-id c =
    let none : c.from_residual.result ≡ None = search rules in
    follows_none c.args.table.now c.args.number _ c.in_err-id.ensures none

pub returns-in-Alias : goal.returns-in-Alias
returns-in-Alias c = follows_alias c.args.table.now c.args.number c.in-Alias.id _ c.with_anchor.result
    c.in_ok-id.ensures c.in-Alias.is c.with_anchor.ensures

pub returns-in_default : goal.returns-in_default
returns-in_default c =
    follows_itself c.args.table.now c.args.number _ c.in_ok-id.ensures c.in_default.not-Alias
