use Rattle.std.proofs.Common.{lit≤}
use Rattle.std.proofs.lemmas.Str.{IsCharBoundary-start, IsUtf8-string_bytes}
use Rattle.saphyr_pieces.proofs.owned.OwnedText.new.Goals as goal

pub invariant_of-result : goal.invariant_of-result
invariant_of-result c = record {
  boundary = IsCharBoundary-start _ (IsUtf8-string_bytes c.args.text);
  within = lit≤ tt;
}
