-- What is read of a block scalar is the value of its lines (YAML 1.2.2, 8.1).
use Rattle.std.specs.Prelude.{◌≡◌, ◌<◌, ℕ, max, false, List, ◌++◌, slice_index, Some, unwrap_or, Ok, encode_utf8_all}
use Rattle.saphyr_input.specs.Breaks.{normalized}
use Rattle.saphyr_input.specs.Classes.{is_break, is_yaml_non_break}
use Rattle.saphyr_scalar.specs.declared.values.BlockStyle.{BlockStyle}
use Rattle.saphyr_scalar.specs.declared.scalar.block.header.BlockHeader.{BlockHeader}
use Rattle.saphyr_scalar.specs.Views.Cursor.{Cursor}
use Rattle.saphyr_scalar.specs.Values.Block.{block_value}
use Rattle.saphyr_scalar.specs.Reading.BlockLines.{ending, HasLines}
use Rattle.saphyr_scalar.specs.Steps.Block as block

-- 8.1.1.1: the indentation, from the text after the header's line
abbrev pub indentation_of : ℕ → BlockHeader → Cursor → ℕ
indentation_of indent h s =
    unwrap_or (block.given_indentation indent h.indicator)
    (max (block.pass_empty_lines_at (block.given_indentation indent h.indicator) block.no_lines s).0.widest indent)

-- no more of a scalar's lines: neither indentation, nor a break, nor content
pub record EndsLines (i : ℕ) (s : Cursor) : Type 0 where
  pub no_space : block.is_indentation (Some i) s.mark.col (slice_index s.rest 0) ≡ false
  pub no_break : is_break (slice_index s.rest 0) ≡ false
  pub no_content : block.line_starts i s.mark.col s.rest ≡ false
  pub whole_line : i < s.mark.col → is_yaml_non_break (slice_index s.rest 0) ≡ false

-- From s a scalar with this text was read, and t comes after it: after the header come the lines, and the
-- indentation of the line that ends them.
pub record IsRead (style : BlockStyle) (indent : ℕ) (s : Cursor) (text : List ℕ) (t : Cursor) : Type 0 where
  pub header : BlockHeader
  pub behind : Cursor
  pub lines : List ℕ
  pub first : block.header s ≡ Ok (header, behind)
  pub taken : behind.rest ≡ lines ++ t.rest
  pub indented : HasLines (indentation_of indent header behind) (normalized lines)
  pub ends : EndsLines (indentation_of indent header behind) t
  pub value : text ≡ encode_utf8_all
      (block_value style header.chomping (indentation_of indent header behind) (normalized lines) (ending t))
