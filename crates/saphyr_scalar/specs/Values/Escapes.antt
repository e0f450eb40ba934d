-- The escapes of double quoted scalars (YAML 1.2.2, 5.7).
use Rattle.std.specs.Prelude.{ℕ, ◌<◌, ◌≤◌, ◌⊎◌, Bool, ◌||◌, ◌==◌, nat_lt, if◌then◌else◌, Option, Some, None}
use Rattle.saphyr_input.specs.Classes.{is_from}

-- what a character after a backslash stands for, where it is a whole escape
unfoldable pub short_escape : ℕ → Option ℕ
short_escape name =
    if name == 0x30 then Some 0x00  -- 0
    else if name == 0x61 then Some 0x07  -- a
    else if name == 0x62 then Some 0x08  -- b
    else if name == 0x74 then Some 0x09  -- t
    else if name == 0x09 then Some 0x09  -- the tab
    else if name == 0x6E then Some 0x0A  -- n
    else if name == 0x76 then Some 0x0B  -- v
    else if name == 0x66 then Some 0x0C  -- f
    else if name == 0x72 then Some 0x0D  -- r
    else if name == 0x65 then Some 0x1B  -- e
    else if name == 0x20 then Some 0x20  -- the space
    else if name == 0x22 then Some 0x22  -- "
    else if name == 0x2F then Some 0x2F  -- /
    else if name == 0x5C then Some 0x5C  -- \
    else if name == 0x4E then Some 0x85  -- N, the next line
    else if name == 0x5F then Some 0xA0  -- _, the non-breaking space
    else if name == 0x4C then Some 0x2028  -- L, the line separator
    else if name == 0x50 then Some 0x2029  -- P, the paragraph separator
    else None

-- how many hexadecimal digits follow the name of an escape by number
abbrev pub digit_count : ℕ → Option ℕ
digit_count name =
    if name == 0x78 then Some 2  -- x
    else if name == 0x75 then Some 4  -- u
    else if name == 0x55 then Some 8  -- U
    else None

-- Unicode scalar values, as a test and as the fact that it decides
abbrev pub is_scalar_value : ℕ → Bool
is_scalar_value n = nat_lt n 0xD800 || is_from 0xE000 0x10FFFF n

abbrev pub IsScalarValue : ℕ → Type 0
IsScalarValue n = (n < 0xD800) ⊎ ((0xDFFF < n) × (n ≤ 0x10FFFF))
