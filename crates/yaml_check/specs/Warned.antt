-- The warnings on events.
use Rattle.std.specs.Prelude.{◌≡◌, ℕ, ◌==◌, ◌&&◌, List, [], ◌∷◌, ◌++◌, Bool, true, false, Option, Some, None, if◌then◌else◌}
use Rattle.saphyr_parser.specs.Words.Span.{Span}
use Rattle.saphyr_parser.specs.Events.{Happening}
use Rattle.yaml_check.specs.declared.checking.Limits.{Limits}
use Rattle.yaml_check.specs.declared.warning.PlacedWarning.{PlacedWarning}
use Rattle.yaml_check.specs.declared.warning.Warning.{Warning}
use Rattle.yaml_check.specs.declared.warning.Warnings.{Warnings}
use Rattle.yaml_check.specs.declared.warning.Warning.TheVariants as warning
use Rattle.yaml_check.specs.declared.rules.Rule.{Rule}
use Rattle.yaml_check.specs.declared.rules.Rule.TheVariants as rule
use Rattle.yaml_check.specs.declared.rules.RuleSet.{RuleSet}
use Rattle.yaml_check.specs.Contents.{begun_behind, content_warning, no_document}
use Rattle.yaml_check.specs.Counting.{all_left, is_collection, left_behind, node_warning}
use Rattle.yaml_check.specs.Keys.{KeysOpen, keys_behind, no_keys, key_warning}
use Rattle.yaml_check.specs.Rules.{is_on}
use Rattle.yaml_check.specs.Sizes.{SizesOpen, open_collections, no_open_sizes, sizes_behind, alias_warning}

-- the rule that gives a warning
abbrev pub rule_of : Warning → Rule
rule_of (warning.DuplicateKey first) = rule.DuplicateKey
rule_of warning.AliasInItself = rule.AliasInItself
rule_of (warning.WideAlias most) = rule.WideAlias
rule_of warning.EmptyDocument = rule.EmptyDocument
rule_of (warning.TooDeep most) = rule.MaxDepth
rule_of (warning.TooManyNodes most) = rule.MaxNodes

-- a warning if there is one and its rule is on
abbrev pub told_if : Bool → PlacedWarning → List PlacedWarning
told_if true f = f ∷ []
told_if false f = []

abbrev pub told_by : RuleSet → Option PlacedWarning → List PlacedWarning
told_by on None = []
told_by on (Some f) = told_if (is_on on (rule_of f.warning)) f

-- a warning was told after others, if there is one and its rule is on
pub record AreTold (told : Option PlacedWarning) (old new : Warnings) : Type 0 where
  pub list : new.list.items ≡ old.list.items ++ told_by old.rules told
  pub rules : new.rules ≡ old.rules

-- what was seen of the events so far, and which rules are on
pub record Seen : Type 0 where
  pub on : RuleSet
  pub limits : Limits
  pub begun : Option Span
  pub left : Option ℕ
  pub keys : KeysOpen
  pub sizes : SizesOpen

abbrev pub nothing_seen : RuleSet → Limits → Seen
nothing_seen on limits = record {
  on = on;
  limits = limits;
  begun = no_document;
  left = all_left limits.nodes;
  keys = no_keys;
  sizes = no_open_sizes;
}

abbrev pub seen_behind : Happening → Span → Seen → Seen
seen_behind what span s = record {
  on = s.on;
  limits = s.limits;
  begun = begun_behind what span;
  left = left_behind what s.left;
  keys = keys_behind what span s.keys;
  sizes = sizes_behind what s.sizes;
}

-- a collection begins where as many as allowed are open
abbrev pub is_too_deep : Seen → Happening → Bool
is_too_deep s what = is_collection what && (open_collections s.sizes == s.limits.depth)

abbrev pub depth_warning : Seen → Happening → Span → Option PlacedWarning
depth_warning s what span = if is_too_deep s what
    then Some (record { span = span; warning = warning.TooDeep s.limits.depth }) else None

-- what is told of an event
abbrev pub warnings_at : Happening → Span → Seen → List PlacedWarning
warnings_at what span s = told_by s.on (content_warning s.begun what)
    ++ (told_by s.on (key_warning s.keys what span)
    ++ (told_by s.on (alias_warning s.sizes what span) ++ (told_by s.on (depth_warning s what span)
    ++ told_by s.on (node_warning s.limits.nodes s.left what span))))

-- what is told of events
abbrev pub warnings_on : List (Happening × Span) → Seen → List PlacedWarning
warnings_on [] s = []
warnings_on (e ∷ es) s = warnings_at e.0 e.1 s ++ warnings_on es (seen_behind e.0 e.1 s)
