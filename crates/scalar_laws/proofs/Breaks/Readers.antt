-- All that is read of a text is read of its normalized text.
use Rattle.scalar_laws.proofs.Common.{ℕ, List, refl, normalized, Cursor, start_cursor, AreAlike, ReadsAlike}
use Rattle.scalar_laws.proofs.Breaks.Separations.{separation_alike, break_alike, comment_alike, mark_alike}
use Rattle.scalar_laws.proofs.Breaks.Names.{anchor_alike, tag_alike}
use Rattle.scalar_laws.proofs.Breaks.Directives.{directive_alike}
use Rattle.scalar_laws.proofs.Breaks.Blocks.{block_alike}
use Rattle.scalar_laws.proofs.Breaks.Quotes.{quoted_alike}
use Rattle.scalar_laws.proofs.Breaks.PlainScalars.{plain_alike}

pub begins_alike : (text : List ℕ) → AreAlike text (start_cursor text) (start_cursor (normalized text))
begins_alike text = record { line = refl; col = refl; rest = refl; blank = refl; here = refl; there = refl }

pub reads_alike : (text : List ℕ) (s t : Cursor) → AreAlike text s t → ReadsAlike text s t
reads_alike text s t e = record {
  separation = λ tabs. (separation_alike tabs e).are;
  line_break = break_alike e;
  comment = comment_alike e;
  plain = λ in_flow indent. (plain_alike in_flow indent e).are;
  byte_order_mark = λ h. mark_alike h e;
  quoted = λ quote indent h. (quoted_alike quote indent h e).are;
  block_scalar = λ style indent h. (block_alike style indent h e).are;
  tag = λ in_flow h. (tag_alike in_flow h e).are;
  anchor = λ h. (anchor_alike h e).are;
  directive = λ h. (directive_alike h e).are;
}
