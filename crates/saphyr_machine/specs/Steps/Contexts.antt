-- Where collections of which kind may be.
use Rattle.std.specs.Prelude.{Bool, true, false}
use Rattle.saphyr_machine.specs.declared.context.NodeContext.{NodeContext}
use Rattle.saphyr_machine.specs.declared.context.NodeContext.TheVariants.{Flow, Block, BlockMapping}

-- where block collections may be
abbrev pub allows_block : NodeContext → Bool
allows_block Flow = false
allows_block Block = true
allows_block BlockMapping = true

-- where a block sequence may be at the column of the mapping around it (8.2.2)
abbrev pub allows_indentless : NodeContext → Bool
allows_indentless Flow = false
allows_indentless Block = false
allows_indentless BlockMapping = true
