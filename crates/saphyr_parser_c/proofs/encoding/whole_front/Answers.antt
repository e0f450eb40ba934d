-- The error has no length exactly where the bytes end inside a character.
use Rattle.std.proofs.Common.{◌≡◌, ◌∙◌, ℕ, false, true≢false, ap, drop, refl, subst, sym}
use Rattle.std.specs.Prelude.{None, Option, Some}
use Rattle.std.specs.Option.{is_some}
use Rattle.saphyr_parser_c.specs.Encoding.{IsCutCharacter}
use Rattle.saphyr_parser_c.proofs.CutCharacters.{cut_character, none_left}
use Rattle.saphyr_parser_c.proofs.NeverUtf8.{never_utf8}
use Rattle.saphyr_parser_c.proofs.encoding.whole_front.Goals as goal

is_none : (len : Option ℕ) → is_some len ≡ false → len ≡ None
is_none None lacks = refl
is_none (Some n) lacks = absurd (true≢false lacks)

pub returns-in-Ok-clause-waits : goal.returns-in-Ok-clause-waits
returns-in-Ok-clause-waits c = none_left c.args.bytes.now

pub returns-in-Err-clause-waits : goal.returns-in-Err-clause-waits
returns-in-Err-clause-waits c =
    let bytes = c.args.bytes.now in
    let tested = c.in-Err.ensures in
    subst (λ n. IsCutCharacter (drop n bytes)) (sym c.valid_up_to.ensures)
    (cut_character bytes _ tested.cases.1
    (sym tested.fault ∙ sym c.error_len.ensures ∙ is_none c.error_len.result c.if-is_none.ensures))

pub returns-in-Err-2-clause-refused : goal.returns-in-Err-2-clause-refused
returns-in-Err-2-clause-refused c _ =
    let tested = c.in-Err.ensures in
    never_utf8 c.args.bytes.now _ tested.cases.1
    (λ cut. true≢false (sym c.if-is_none.ensures ∙ ap is_some (c.error_len.ensures ∙ tested.fault ∙ cut)))
