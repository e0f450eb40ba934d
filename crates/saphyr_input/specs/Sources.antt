-- What an input still takes from its iterator.
use Rattle.std.specs.Prelude.{ℕ, List}
use Rattle.saphyr_input.specs.Listed.{pending}
use Rattle.saphyr_input.specs.declared.input.buffered.source.Source.{Source}

abbrev pub items : {I : Type 0} {g : _} → Source I g → List ℕ
items {I} {g} s = pending g.can_next g.next_gives s.left s.iter s.listed
