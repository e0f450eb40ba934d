use Rattle.event_laws.proofs.Common.{scan, normalized}
use Rattle.event_laws.proofs.ByKinds.{emits_too}
use Rattle.event_laws.proofs.emits_breaks_alike.Goals as goal

pub returns : goal.returns
returns c limit keep text small short =
    emits_too keep (scan limit text) (scan limit (normalized text))
    (c.scans_breaks_alike.ensures limit limit text small short short).kinds
