-- What the handle of a tag stands for (YAML 1.2.2, 6.8.2 and 6.9.1).
use Rattle.std.specs.Prelude.{ℕ, ◌-◌, length, Bool, nat_le, nat_eq, false, ◌&&◌, if◌then◌else◌, List, Option, Some, None, Result, Ok, Err, codes, slice_index}
use Rattle.std.specs.Str.{bytes_eq}
use Rattle.saphyr_input.specs.Indicators.{exclamation_mark}
use Rattle.saphyr_scalar.specs.declared.scalar.position.Marker.{Marker}
use Rattle.saphyr_scalar.specs.declared.scalar.fault.Refusal.{Refusal}
use Rattle.saphyr_scalar.specs.declared.scalar.fault.FaultText.TheVariants as fault
use Rattle.saphyr_machine.specs.Events.{ResolvedTag}
use Rattle.saphyr_machine.specs.Steps.Machine.{◌>>=◌, Names, meaning}

-- a handle `!word!`, which has to be declared
abbrev pub is_named_handle : List ℕ → Bool
is_named_handle handle = nat_le 2 (length handle)
    && (nat_eq (slice_index handle 0) exclamation_mark
    && nat_eq (slice_index handle (length handle - 1)) exclamation_mark)

abbrev pub undeclared_prefix : List ℕ → Marker → Result (List ℕ) Refusal
undeclared_prefix handle place =
    if bytes_eq handle (codes "!!") then Ok (codes "tag:yaml.org,2002:")
    else if is_named_handle handle then Err (record { text = fault.UndeclaredHandle; mark = place; may_change = false })
    else Ok handle

abbrev pub declared_prefix_or : Option (List ℕ) → Result (List ℕ) Refusal → Result (List ℕ) Refusal
declared_prefix_or (Some prefix) r = Ok prefix
declared_prefix_or None r = r

-- The prefix of a handle, at a place. `!` and `!<uri>` have no handle.
unfoldable pub declared_prefix : Names (List ℕ) → List ℕ → Marker → Result (List ℕ) Refusal
declared_prefix prefixes handle place =
    if nat_eq (length handle) 0 then Ok handle else declared_prefix_or (meaning handle prefixes)
    (undeclared_prefix handle place)

-- the tag at a place
unfoldable pub resolved_tag_at : Names (List ℕ) → List ℕ → List ℕ → Marker → Result ResolvedTag Refusal
resolved_tag_at prefixes handle suffix place = do
  prefix ← declared_prefix prefixes handle place
  Ok (record { handle = prefix; suffix = suffix })
