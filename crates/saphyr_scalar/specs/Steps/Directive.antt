-- Directives (YAML 1.2.2, 6.8).
use Rattle.std.specs.Prelude.{ℕ, suc, ◌+◌, ◌-◌, ◌*◌, ◌||◌, ◌==◌, nat_lt, List, [], ◌∷◌, length, slice_index, Result, Ok, if◌then◌else◌, encode_utf8, codes, bytes_eq, string_bytes}
use Rattle.saphyr_input.specs.Classes.{is_breakz, is_blank_or_breakz, is_digit, is_alpha, is_tag_char, is_yaml_non_space}
use Rattle.saphyr_input.specs.declared.input.SkipTabs.TheVariants.{Yes}
use Rattle.saphyr_input.specs.Indicators.{exclamation_mark, full_stop}
use Rattle.saphyr_scalar.specs.declared.scalar.position.Marker.{Marker}
use Rattle.saphyr_scalar.specs.declared.scalar.fault.Refusal.{Refusal}
use Rattle.saphyr_scalar.specs.declared.scalar.fault.FaultText.TheVariants as fault
use Rattle.saphyr_scalar.specs.declared.scalar.directive.Directive as declared
use Rattle.saphyr_scalar.specs.declared.scalar.directive.Directive.TheVariants as variant
use Rattle.saphyr_scalar.specs.declared.scalar.directive.DirectiveLine.{DirectiveLine}
use Rattle.saphyr_scalar.specs.declared.scalar.tag.UriSet.TheVariants.{Uri}
use Rattle.saphyr_scalar.specs.Views.Cursor.{Cursor, ◌>>=◌, refuse, refuse_open, is_missing, along, pass, pass_break, pass_comment, separation, pass_all_blanks}
use Rattle.saphyr_scalar.specs.Steps.Quoted.{with_front, with_run, mid_line}
use Rattle.saphyr_scalar.specs.Spelling.Directive.{ReadDirective, version, tag_prefix, reserved}
use Rattle.saphyr_scalar.specs.Steps.Tag.{uri_character, decoded_at, handle_of}

abbrev pub directive_of : declared.Directive → ReadDirective
directive_of (variant.Version major minor) = version major minor
directive_of (variant.TagPrefix handle prefix) = tag_prefix (string_bytes handle) (string_bytes prefix)
directive_of (variant.Reserved name) = reserved (string_bytes name)

-- what contracts see of a directive and of the reader after it
abbrev pub seen_directive : declared.Directive → Cursor → ReadDirective × Cursor
seen_directive d s = (directive_of d, s)

-- what contracts see of a directive with its place, and of the reader after its line
abbrev pub seen_directive_line : DirectiveLine → Cursor → ReadDirective × Marker × Cursor
seen_directive_line line s = (directive_of line.directive, line.end, s)

-- a name has a character, and ends before a blank, a break, NUL or the end
unfoldable pub directive_name_of : Marker → List ℕ × Cursor → Result (List ℕ × Cursor) Refusal
directive_name_of start x =
    if length x.0 == 0 then refuse_open (is_missing 0 x.1.rest) fault.DirectiveNameExpected start
    else if is_blank_or_breakz (slice_index x.1.rest 0) then Ok x
    else refuse fault.DirectiveNameCharacter start

unfoldable pub name : Cursor → Result (List ℕ × Cursor) Refusal
name s = directive_name_of s.mark (with_run is_yaml_non_space [] s)

-- Version directives (6.8.1).

-- a number has a digit
unfoldable pub number_end : Marker → ℕ → ℕ → Cursor → Result (ℕ × Cursor) Refusal
number_end start n v s =
    if n == 0 then refuse_open (is_missing 0 s.rest) fault.VersionNumberExpected start else Ok (v, s)

-- the number whose first n digits stand for v, and which has at most nine
unfoldable pub number_from : Marker → ℕ → ℕ → Marker → List ℕ → Result (ℕ × Cursor) Refusal
number_from start n v m [] = number_end start n v (mid_line m [])
number_from start n v m (c ∷ cs) =
    if is_digit c then
    (if nat_lt n 9 then number_from start (suc n) (v * 10 + (c - 48)) (along m 1) cs else refuse
    fault.VersionNumberTooLong start)
    else number_end start n v (mid_line m (c ∷ cs))

abbrev pub number : Marker → Cursor → Result (ℕ × Cursor) Refusal
number start s = number_from start 0 0 s.mark s.rest

unfoldable pub behind_major : Marker → ℕ × Cursor → Result (ReadDirective × Cursor) Refusal
behind_major start x =
    if slice_index x.1.rest 0 == full_stop then (number start (pass 1 x.1) >>= λ y. Ok (version x.0 y.0, y.1))
    else refuse_open (is_missing 0 x.1.rest) fault.VersionDigitOrDotExpected start

unfoldable pub version_directive : Marker → Cursor → Result (ReadDirective × Cursor) Refusal
version_directive start s = number start (pass_all_blanks s) >>= λ x. behind_major start x

-- Tag directives (6.8.2).

-- the handle is `!`, `!!` or `!word!`
unfoldable pub handle_behind_word : Marker → List ℕ × Cursor → Result (List ℕ × Cursor) Refusal
handle_behind_word start w =
    if slice_index w.1.rest 0 == exclamation_mark then Ok (handle_of w.0, pass 1 w.1)
    else if length w.0 == 0 then Ok (codes "!", w.1)
    else refuse_open (is_missing 0 w.1.rest) fault.TagDirectiveHandleEndExpected start

unfoldable pub handle : Marker → Cursor → Result (List ℕ × Cursor) Refusal
handle start s =
    if slice_index s.rest 0 == exclamation_mark then handle_behind_word start (with_run is_alpha [] (pass 1 s))
    else refuse_open (is_missing 0 s.rest) fault.TagHandleStartExpected start

-- a prefix begins with `!` or a character of tags (6.8.2.2)
unfoldable pub prefix : Marker → Cursor → Result (List ℕ × Cursor) Refusal
prefix start s =
    if (slice_index s.rest 0 == exclamation_mark) || is_tag_char (slice_index s.rest 0) then
    (uri_character start s >>= λ x. with_front (encode_utf8 x.0) (decoded_at Uri start x.1))
    else refuse_open (is_missing 0 s.rest) fault.TagPrefixCharacter start

unfoldable pub behind_prefix : Marker → List ℕ → List ℕ × Cursor → Result (ReadDirective × Cursor) Refusal
behind_prefix start h x =
    if is_blank_or_breakz (slice_index x.1.rest 0) then Ok (tag_prefix h x.0, x.1) else refuse
    fault.TagDirectiveEndExpected start

unfoldable pub tag_directive : Marker → Cursor → Result (ReadDirective × Cursor) Refusal
tag_directive start s = handle start (pass_all_blanks s) >>= λ h. prefix start
    (pass_all_blanks h.1) >>= λ x. behind_prefix
    start h.0 x

-- what a directive of a name says; the parameters of a reserved one are passed
unfoldable pub value : Marker → List ℕ × Cursor → Result (ReadDirective × Cursor) Refusal
value start x =
    if bytes_eq x.0 (codes "YAML") then version_directive start x.1
    else if bytes_eq x.0 (codes "TAG") then tag_directive start x.1
    else Ok (reserved x.0, pass_comment x.1)

abbrev pub value_of_name : Marker → List ℕ → Cursor → Result (ReadDirective × Cursor) Refusal
value_of_name start name s = value start (name, s)

-- blanks, a comment and the line's break
unfoldable pub line_end : Marker → Cursor → Result Cursor Refusal
line_end start s =
    separation Yes s >>= λ x. if is_breakz (slice_index x.1.rest 0) then Ok (pass_break x.1) else refuse
    fault.DirectiveEndExpected start

-- A directive, from its `%` on: what it says, the place after it, and what comes after its line.
unfoldable pub directive : Cursor → Result (ReadDirective × Marker × Cursor) Refusal
directive s = name (pass 1 s) >>= λ x. value s.mark x >>= λ d. line_end s.mark d.1 >>= λ t. Ok (d.0, d.1.mark, t)
