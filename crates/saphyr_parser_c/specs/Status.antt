-- The numbers of statuses in C, and that of a text that is refused.
use Rattle.std.specs.Prelude.{◌≡◌, ℕ, ℤ, List, pos, negsuc}
use Rattle.saphyr_scalar.specs.declared.scalar.fault.FaultText.TheVariants.{TextTooLong}
use Rattle.saphyr_scalar.specs.Texts.{words}
use Rattle.saphyr_parser_c.specs.declared.status.Status.{Status}
use Rattle.saphyr_parser_c.specs.declared.status.Status.TheVariants.{Done, End, Event, Refused, NoMemory, NotUtf8, NoParser, Utf16, More, Loaded, Whole, TooMuch, TooLarge, Late, Deviates, Finding, Wrong, NotChecked, TooLong}

-- `negsuc n` is -(n + 1)
abbrev pub code_of : Status → ℤ
code_of Done = pos 0
code_of End = pos 0
code_of Event = pos 1
code_of Refused = negsuc 0
code_of NoMemory = negsuc 1
code_of NotUtf8 = negsuc 2
code_of NoParser = negsuc 3
code_of Utf16 = negsuc 4
code_of More = pos 2
code_of Loaded = pos 3
code_of Whole = negsuc 5
code_of TooMuch = negsuc 6
code_of TooLarge = negsuc 7
code_of Late = negsuc 8
code_of Deviates = pos 4
code_of Finding = pos 5
code_of Wrong = pos 6
code_of NotChecked = negsuc 9
code_of TooLong = negsuc 10

-- what is told of a text that is refused, by what its fault says: one with more characters than may is told apart
abbrev pub IsStatusOfRefusal : List ℕ → Status → Type 0
IsStatusOfRefusal info TooLong = info ≡ words TextTooLong
IsStatusOfRefusal info Refused = info ≡ words TextTooLong → ⊥
IsStatusOfRefusal info _ = ⊥
