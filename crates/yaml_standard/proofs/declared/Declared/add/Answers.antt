use Rattle.std.proofs.Common.{refl, sym, ◌∙◌}
use Rattle.yaml_standard.proofs.Declarations.{false_of_not, version_declared, tag_prefix_declared, reserved_declared}
use Rattle.yaml_standard.proofs.declared.Declared.add.Goals as goal

pub returns-in-Version : goal.returns-in-Version
returns-in-Version c = λ h.
    rw c.in-Version.is (version_declared c.args.self.now _ (false_of_not _ h) refl refl)

pub returns-in_ok-insert-in-TagPrefix : goal.returns-in_ok-insert-in-TagPrefix
returns-in_ok-insert-in-TagPrefix c = λ h.
    rw c.in-TagPrefix.is
    (tag_prefix_declared c.in-TagPrefix.handle c.args.self.now _
    (false_of_not _ (sym c.in_ok-insert-in-TagPrefix.ensures.added ∙ h))
    c.in_ok-insert-in-TagPrefix.ensures.keys refl)

pub returns-in-Reserved : goal.returns-in-Reserved
returns-in-Reserved c = λ h. rw c.in-Reserved.is (reserved_declared _)
