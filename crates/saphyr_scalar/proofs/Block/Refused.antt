-- A block scalar is refused where it begins, in its header, or at its first content line.
use Rattle.std.proofs.Common.{◌≡◌, ℕ, ◌<◌, false, length, slice_index, refl, arith, max}
use Rattle.saphyr_scalar.proofs.Common.{◌==◌, not, Option, is_break, is_breakz, is_digit, tab, Yes, BlockStyle, Chomping, EmptyLines, Marker, Cursor, pass_break, separation, by_test}
use Rattle.saphyr_scalar.specs.Steps.Block.{indicator, header_break, header_end, header_behind, header, chomped_lines, content, behind_leading_lines, behind_header, block_scalar}
use Rattle.saphyr_scalar.specs.Passing.{IsPassed}
use Rattle.saphyr_scalar.specs.RefusedInside.{IsRefusedInside}
use Rattle.saphyr_scalar.proofs.Block.Placed.{empty_passes}
use Rattle.saphyr_scalar.proofs.Block.PlacedHeaders.{passed_passed, one_passed, header_goes, header_ends}
use Rattle.saphyr_scalar.proofs.Directives.Refused.{separation_refused}
use Rattle.saphyr_scalar.proofs.RefusedOnWay.{inside_from, inside_start}
use Rattle.saphyr_scalar.proofs.Given.{Refused, RefusedAt, given_of, refused_bind, refused_more}

indicator_refused : (start : Marker) (s : Cursor) → RefusedAt start (indicator start s)
unfolding indicator
indicator_refused start s = by_test (not (is_digit (slice_index s.rest 0))) _ _ (RefusedAt start) (λ _. tt)
    (λ _. by_test (slice_index s.rest 0 == 48) _ _ (RefusedAt start) (λ _. refl) (λ _. tt))

break_refused : (start : Marker) (s : Cursor) → RefusedAt start (header_break start s)
unfolding header_break
break_refused start s = by_test (not (is_breakz (slice_index s.rest 0))) _ _ (RefusedAt start) (λ _. refl)
    (λ _. by_test (slice_index (pass_break s).rest 0 == tab) _ _ (RefusedAt start) (λ _. refl) (λ _. tt))

end_refused : (s t : Cursor) → IsPassed s.mark s.rest t.mark t.rest → Refused (IsRefusedInside s) (header_end s.mark t)
unfolding header_end
end_refused s t p =
    let P = IsRefusedInside s in
    refused_bind P (separation Yes t) _
    (refused_more (IsRefusedInside t) P (separation Yes t) (separation_refused Yes t)
    (λ e h. inside_from s t e p h))
    (λ x _. refused_more (λ e. e.mark ≡ s.mark) P (header_break s.mark x.1) (break_refused s.mark x.1) (inside_start s))

leading_refused : (style : BlockStyle) (indent : ℕ) (start : Marker) (c : Chomping) (limit : Option ℕ) (s : Cursor)
    (x : EmptyLines × Cursor) → IsPassed s.mark s.rest x.1.mark x.1.rest
    → Refused (IsRefusedInside s) (behind_leading_lines style indent start c limit x)
unfolding behind_leading_lines content chomped_lines
leading_refused style indent start c limit s x p = grind (arith, by_test, slice_index, max)

pub block_scalar_refused : (style : BlockStyle) (indent : ℕ) (s : Cursor) → is_break (slice_index s.rest 0) ≡ false
    → 0 < length s.rest → Refused (IsRefusedInside s) (block_scalar style indent s)
unfolding block_scalar behind_header header header_behind
block_scalar_refused style indent s b some =
    grind (
      arith,
      one_passed,
      refused_bind,
      given_of,
      header_ends,
      leading_refused,
      passed_passed,
      empty_passes,
      refused_more,
      indicator_refused,
      inside_start,
      end_refused,
      header_goes,
    )
