-- What contracts see of the directives of a document.
use Rattle.std.specs.Prelude.{ℕ, Bool, List, if◌then◌else◌}
use Rattle.std.specs.Map.{keys_of}
use Rattle.saphyr_machine.specs.declared.document.Declared as code
use Rattle.saphyr_machine.specs.Steps.Machine.{Names}
use Rattle.saphyr_machine.specs.Steps.Documents.{Declared}

-- The handles of a document's directives are apart, or, where no prefix was declared before, they are those of the
-- prefixes.
abbrev pub handles_of : Bool → List (List ℕ) → Names (List ℕ) → List (List ℕ)
handles_of apart handles prefixes = if apart then handles else keys_of prefixes

abbrev pub declared_of : code.Declared → Names (List ℕ) → Declared
declared_of d prefixes = record { version = d.version; handles = handles_of d.apart d.handles prefixes }
