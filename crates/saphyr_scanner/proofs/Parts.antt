-- The parts of a token, from its texts one after another.
use Rattle.std.proofs.Common.{◌≡◌, List, ◌++◌, length, ℕ, arith}
use Rattle.std.proofs.Math.Seq.{take-length, take-append_seam, drop-append_seam}
use Rattle.saphyr_scanner.specs.declared.queue.texts.Extent.{Extent}
use Rattle.saphyr_scanner.specs.Views.Places.{parts_at}

pub all_parts : (e : Extent) (handle text : List ℕ) → e.handle ≡ length handle → e.text ≡ length text
    → parts_at e (handle ++ text) ≡ record { handle = handle; text = text; major = e.major; minor = e.minor }
all_parts e handle text h k = grind (arith, take-append_seam, drop-append_seam, take-length)
