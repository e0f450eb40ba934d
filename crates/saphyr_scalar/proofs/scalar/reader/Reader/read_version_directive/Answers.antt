use Rattle.saphyr_scalar.proofs.Common.{refl, cursor_of}
use Rattle.saphyr_scalar.proofs.Lengths.{seen_left}
use Rattle.saphyr_scalar.proofs.scalar.reader.Reader.read_version_directive.Goals as goal

pub skip_non_blank-requires : goal.skip_non_blank-requires
skip_non_blank-requires g c =
    seen_left _ (cursor_of c.look.new.self) c.look.result _ c.look.ensures.value
    c.look.ensures.same refl c.if-look-ne46.false
