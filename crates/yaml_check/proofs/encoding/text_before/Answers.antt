use Rattle.std.proofs.Common.{◌≡◌, ◌∙◌, ℕ, take, sym, subst}
use Rattle.std.proofs.Math.Seq.{take-length}
use Rattle.std.proofs.lemmas.Str.{utf8_valid_len-IsUtf8}
use Rattle.yaml_check.proofs.encoding.text_before.Goals as goal

pub returns-in-Ok : goal.returns-in-Ok
returns-in-Ok c =
    let whole = utf8_valid_len-IsUtf8 c.args.bytes.now c.in-Ok.ensures.cases.1 in
    c.in-Ok.ensures.cases.0
    ∙ subst (λ (n : ℕ). c.args.bytes.now ≡ take n c.args.bytes.now) (sym whole) (sym (take-length c.args.bytes.now))
