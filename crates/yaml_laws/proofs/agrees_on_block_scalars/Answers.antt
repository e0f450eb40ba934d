use Rattle.yaml_laws.proofs.Common.{ℕ, ◌<◌, List, length, encode_utf8_all, sym, ◌∙◌, ap, subst, arith, Chomping, IsHeader, digit_first, chomping_first, IsBlockScalar}
use Rattle.yaml_laws.proofs.agrees_on_block_scalars.Goals as goal

-- a header begins its text
some_character : (n : ℕ) (chomping : Chomping) (body t : List ℕ) → IsHeader n chomping body t → 0 < length t
some_character n chomping body _ (digit_first mark a b d i c e) = omega arith
some_character n chomping body _ (chomping_first mark a b d c i e) = omega arith

pub returns : goal.returns
returns c style value indent s t behind (i, n, chomping, lines, body, others, scalar, same, follows, v) is dark =
    let here = subst (λ (x : List ℕ). IsBlockScalar indent i n chomping lines x body others) (sym is) scalar in
    let taken = c.reads_each_block_scalar.ensures style chomping indent i n lines s body others here in
    let text = c.reads_block_texts.ensures.text style indent s taken.left taken.text taken.span dark
    (some_character here.digit chomping body s.rest here.header) taken.read in (
      n,
      taken.span.start,
      taken.left,
      rw (taken.value ∙ ap encode_utf8_all (sym v)) at text,
      cc,
    )
