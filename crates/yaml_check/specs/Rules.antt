-- The rules that warn: their names, and which of them are on.
use Rattle.std.specs.Prelude.{ℕ, Bool, false, List, codes}
use Rattle.yaml_check.specs.declared.rules.Rule.{Rule}
use Rattle.yaml_check.specs.declared.rules.Rule.TheVariants as rule
use Rattle.yaml_check.specs.declared.rules.RuleSet.{RuleSet}

abbrev pub warning_name : Rule → List ℕ
warning_name rule.AliasInItself = codes "alias-in-itself"
warning_name rule.DuplicateKey = codes "duplicate-key"
warning_name rule.EmptyDocument = codes "empty-document"
warning_name rule.MaxDepth = codes "max-depth"
warning_name rule.MaxNodes = codes "max-nodes"
warning_name rule.WideAlias = codes "wide-alias"

abbrev pub is_on : RuleSet → Rule → Bool
is_on on rule.AliasInItself = on.alias_in_itself
is_on on rule.DuplicateKey = on.duplicate_key
is_on on rule.EmptyDocument = on.empty_document
is_on on rule.MaxDepth = on.max_depth
is_on on rule.MaxNodes = on.max_nodes
is_on on rule.WideAlias = on.wide_alias

-- the same with a rule that is off
abbrev pub without : RuleSet → Rule → RuleSet
without on rule.AliasInItself = record on { alias_in_itself = false }
without on rule.DuplicateKey = record on { duplicate_key = false }
without on rule.EmptyDocument = record on { empty_document = false }
without on rule.MaxDepth = record on { max_depth = false }
without on rule.MaxNodes = record on { max_nodes = false }
without on rule.WideAlias = record on { wide_alias = false }
