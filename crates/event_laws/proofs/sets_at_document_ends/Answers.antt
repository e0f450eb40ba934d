use Rattle.event_laws.proofs.Common.{keeping_tags, advances}
use Rattle.event_laws.proofs.Settings.{sets, sets_behind}
use Rattle.event_laws.proofs.sets_at_document_ends.Goals as goal

pub returns : goal.returns
returns c = record {
  step = λ m keep other. sets keep m other;
  event = λ e old new keep other h. sets_behind e old new keep other h;
  list = λ e old new keep other h. advances e (keeping_tags keep old) (keeping_tags keep new)
      (sets_behind e old new keep other h);
}
