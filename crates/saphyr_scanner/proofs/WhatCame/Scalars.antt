-- Scalars, and properties.
use Rattle.std.proofs.Common.{◌≡◌, ℕ, true, false, List, arith}
use Rattle.std.specs.Prelude.{◌&&◌, not, nat_lt}
use Rattle.saphyr_scalar.specs.declared.values.BlockStyle.{BlockStyle}
use Rattle.saphyr_scalar.specs.declared.values.Quote.{Quote}
use Rattle.saphyr_scalar.specs.declared.scalar.style.ScalarStyle.{ScalarStyle}
use Rattle.saphyr_scalar.specs.declared.scalar.position.Marker.{Marker}
use Rattle.saphyr_scanner.specs.Grammar.Tokens.{Kind}
use Rattle.saphyr_scanner.specs.Steps.Core.{Core, StepResult, in_block, least_column, save_key}
use Rattle.saphyr_scanner.specs.Steps.Passing.{with_cursor}
use Rattle.saphyr_scanner.specs.Steps.Property.{read_name, name_steps, read_tag, tag_steps}
use Rattle.saphyr_scanner.specs.Steps.Scalar.{disallow_key, goes_on_behind_quotes, behind_quotes, read_quoted, quoted_steps, read_plain, plain_steps, read_block, block_scalar_steps}
use Rattle.saphyr_scalar.proofs.WhatCame.Rests.{is_nothing, later_drop, first_known}
use Rattle.saphyr_scalar.proofs.WhatCame.Steps.{Came, Mixed, further, reports, open_refused, stays, loosely, choose, choose_same, and_then, and_known, and_mixed, on}
use Rattle.saphyr_scalar.proofs.WhatCame.Names.{anchor_came, tag_came}
use Rattle.saphyr_scalar.proofs.WhatCame.Plain.{plain_came}
use Rattle.saphyr_scalar.proofs.WhatCame.Quoted.{quoted_came}
use Rattle.saphyr_scalar.proofs.WhatCame.Blocks.{block_came}
use Rattle.saphyr_scanner.proofs.WhatCame.Cores.{longer_core, steps, save_came, separate_came}
use Rattle.saphyr_scanner.proofs.WhatCame.Gaps.{pass_gap_came}

module _ (more : List ℕ) where
  abbrev Stepped : Core → StepResult → StepResult → Type 0
  Stepped c r q = Mixed steps more c.cursor.rest r q

  -- ## Properties

  read_name_came : (token : List ℕ → Kind) (c : Core)
      → Stepped c (read_name token c) (read_name token (longer_core more c))
  unfolding read_name
  read_name_came token c = further (later_drop 1 _) (and_then _ (anchor_came more c.cursor) (λ x _. stays))

  pub name_came : (token : List ℕ → Kind) (n : ℕ) (c : Core)
      → Stepped c (name_steps token n c) (name_steps token n (longer_core more c))
  unfolding name_steps
  name_came token n c = on (λ d. read_name token (disallow_key d)) (save_came more 0 c n) (read_name_came token _)

  read_tag_came : (c : Core) → Stepped c (read_tag c) (read_tag (longer_core more c))
  unfolding read_tag
  read_tag_came c =
      further (later_drop 1 _) (and_then _ (tag_came more (not (in_block c)) c.cursor) (λ x _. stays))

  pub tag_steps_came : (n : ℕ) (c : Core) → Stepped c (tag_steps n c) (tag_steps n (longer_core more c))
  unfolding tag_steps
  tag_steps_came n c = on (λ d. read_tag (disallow_key d)) (save_came more 0 c n) (read_tag_came _)

  -- ## Quoted scalars

  goes_known : (start : Marker) (c : Core) → is_nothing c.cursor.rest ≡ false
      → goes_on_behind_quotes start (longer_core more c) ≡ goes_on_behind_quotes start c
  unfolding goes_on_behind_quotes
  goes_known start c known = rw (first_known more c.cursor.rest known)

  -- at the end of what came it goes on
  goes_shown : (start : Marker) (c : Core) → goes_on_behind_quotes start c ≡ false → is_nothing c.cursor.rest ≡ false
  unfolding goes_on_behind_quotes
  goes_shown start c ends = grind arith

  quotes_came : (start : Marker) (style : ScalarStyle) (text : List ℕ) (c : Core)
      → Stepped c (behind_quotes start style text c) (behind_quotes start style text (longer_core more c))
  unfolding behind_quotes
  quotes_came start style text c = and_then _ (separate_came more c) (λ x _. let d = x.1 in
      choose_same (goes_on_behind_quotes start d) (goes_on_behind_quotes start (longer_core more d))
      (goes_known start d)
      (λ _. loosely (and_known _ (pass_gap_came more d) (λ e _. stays))) (λ no. reports (goes_shown start d no)))

  read_quoted_came : (quote : Quote) (c : Core)
      → Stepped c (read_quoted quote c) (read_quoted quote (longer_core more c))
  read_quoted_came quote c = and_then _ (quoted_came more quote (least_column c) c.cursor)
      (λ x _. quotes_came c.cursor.mark _ x.0 (with_cursor x.1 c))

  pub quoted_steps_came : (quote : Quote) (n : ℕ) (c : Core)
      → Stepped c (quoted_steps quote n c) (quoted_steps quote n (longer_core more c))
  unfolding quoted_steps
  quoted_steps_came quote n c = on (λ d. read_quoted quote (disallow_key d)) (save_came more 0 c n)
      (read_quoted_came quote (disallow_key (save_key n c)))

  -- ## Plain scalars and block scalars

  read_plain_came : (c : Core) → Came steps more c.cursor.rest (read_plain c) (read_plain (longer_core more c))
  unfolding read_plain
  read_plain_came c = choose (not (in_block c) && nat_lt c.cursor.mark.col c.indent) (λ _. open_refused)
      (λ _. and_known _ (plain_came more (not (in_block c)) c.indent c.cursor) (λ x _. stays))

  pub plain_steps_came : (n : ℕ) (c : Core)
      → Came steps more c.cursor.rest (plain_steps n c) (plain_steps n (longer_core more c))
  unfolding plain_steps
  plain_steps_came n c =
      on (λ d. read_plain (record (disallow_key d) { deeper = false })) (save_came more 0 c n) (read_plain_came _)

  read_block_came : (style : BlockStyle) (c : Core)
      → Stepped c (read_block style c) (read_block style (longer_core more c))
  unfolding read_block
  read_block_came style c =
      further (later_drop 1 _) (and_mixed _ (block_came more style c.indent c.cursor) (λ x _. stays))

  pub block_steps_came : (style : BlockStyle) (n : ℕ) (c : Core)
      → Stepped c (block_scalar_steps style n c) (block_scalar_steps style n (longer_core more c))
  unfolding block_scalar_steps
  block_steps_came style n c = on (λ d. read_block style (record d { key_allowed = true; deeper = false }))
      (save_came more 0 c n) (read_block_came style _)
