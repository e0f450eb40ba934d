use Rattle.saphyr_input.proofs.input.buffered.BufferedInput.new.Goals as goal

pub returns-clause-rest : goal.returns-clause-rest
returns-clause-rest g c = c.with_limit.ensures.rest
