use Rattle.yaml_standard.proofs.words.behind_word.Goals as goal

pub returns-then-in_flow : goal.returns-then-in_flow
returns-then-in_flow c = rw c.if-in_flow.true c.behind_word_in_flow.ensures

pub returns : goal.returns
returns c = rw c.if-in_flow.false c.behind_word_outside.ensures
