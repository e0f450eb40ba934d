use Rattle.std.proofs.Common.{true≢false, sym, ◌∙◌}
use Rattle.yaml_tree.proofs.Growths.{grown_table}
use Rattle.yaml_tree.proofs.TablesRead.{not_finished}
use Rattle.yaml_tree.proofs.table_loading.Grower.finish.Goals as goal

pub returns-then-is_between : goal.returns-then-is_between
returns-then-is_between c = λ limits es h.
    grown_table es _ (c.is_between.ensures.0 c.if-is_between.true).levels h.grown

pub returns-else-is_between : goal.returns-else-is_between
returns-else-is_between c = λ limits es h.
    not_finished limits es _ h (λ b. true≢false (sym (c.is_between.ensures.1 b) ∙ c.if-is_between.false))
