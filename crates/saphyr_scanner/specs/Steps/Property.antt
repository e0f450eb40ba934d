-- Anchors, aliases and tags (YAML 1.2.2, 6.9 and 7.1).
use Rattle.std.specs.Prelude.{ℕ, not, List, [], ◌∷◌}
use Rattle.saphyr_scalar.specs.Views.Cursor.{◌>>=◌}
use Rattle.saphyr_scalar.specs.Steps.Anchor as anchors
use Rattle.saphyr_scalar.specs.Steps.Tag as tags
use Rattle.saphyr_scanner.specs.Grammar.Tokens as tokens
use Rattle.saphyr_scanner.specs.Grammar.Tokens.{Kind}
use Rattle.saphyr_scanner.specs.Steps.Core.{Core, StepResult, completed_step, from_to, in_block, save_key}
use Rattle.saphyr_scanner.specs.Steps.Passing.{with_cursor}
use Rattle.saphyr_scanner.specs.Steps.Scalar.{disallow_key}

unfoldable pub read_name : (List ℕ → Kind) → Core → StepResult
read_name token c = anchors.anchor c.cursor >>= λ x. completed_step (from_to c.cursor.mark x.1.mark (token x.0) ∷ [])
    (with_cursor x.1 c)

-- the token of a name
unfoldable pub name_steps : (List ℕ → Kind) → ℕ → Core → StepResult
name_steps token n c = read_name token (disallow_key (save_key n c))

-- `&` and an anchor's name
abbrev pub anchor_steps : ℕ → Core → StepResult
anchor_steps n c = name_steps tokens.Anchor n c

-- `*` and an alias's name
abbrev pub alias_steps : ℕ → Core → StepResult
alias_steps n c = name_steps tokens.Alias n c

unfoldable pub read_tag : Core → StepResult
read_tag c = tags.tag (not (in_block c)) c.cursor >>= λ x. completed_step
    (from_to c.cursor.mark x.2.mark (tokens.Tag x.0 x.1) ∷ []) (with_cursor x.2 c)

-- a tag
unfoldable pub tag_steps : ℕ → Core → StepResult
tag_steps n c = read_tag (disallow_key (save_key n c))
