use Rattle.std.proofs.Common.{List, ℕ, sym, subst}
use Rattle.std.specs.Prelude.{string_bytes}
use Rattle.std.specs.Str.{chars}
use Rattle.saphyr_pieces.specs.Views.{GoesOnOver}
use Rattle.saphyr_pieces.proofs.Places.{reads_over}
use Rattle.saphyr_pieces.proofs.pieces.PieceReader.go_back.Goals as goal

pub returns-clause-back : goal.returns-clause-back
returns-clause-back c =
    let old = c.args.self.now in
    let on = subst (λ (bs : List ℕ). GoesOnOver (chars bs) c.in-Some.copy c.catch_up.new.copy) c.deref.ensures
    c.in_ok-catch_up.ensures in
    rw (sym c.in-Some.ensures.value) (
      c.read_again.new.reader,
      reads_over c.in-Some.copy c.catch_up.new.copy c.read_again.new.reader (chars (string_bytes old.since)) old.events on
          c.in_ok-read_again.ensures,
      rw c.replace.ensures.after c.in_ok-pass_on.ensures,
    )
