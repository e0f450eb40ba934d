-- Scalars and properties leave both scanners alike.
use Rattle.yaml_laws.proofs.Common.{List, None, Option, Some, [], ap, arith, cond, false, length, refl, true, ℕ, ◌<◌, ◌∙◌, ◌∷◌, ◌≡◌, nat_lt, not, slice_index, ◌&&◌, ◌==◌, ◌||◌, normalized, is_break, is_breakz, BlockStyle, Quote, Double, Single, Marker, Cursor, mark, Kind, Core, in_block, least_column, no_return, AreMarksAlike, AreNoted, Both, both_of, gives, refused, choose, choose_first, block_indicator}
use Rattle.saphyr_scalar.specs.declared.scalar.style.ScalarStyle.{ScalarStyle}
use Rattle.saphyr_scalar.specs.declared.scalar.style.ScalarStyle.TheVariants.{Plain}
use Rattle.saphyr_scanner.specs.Grammar.Tokens as tokens
use Rattle.saphyr_scanner.specs.Steps.Property as property
use Rattle.saphyr_scanner.specs.Steps.Scalar as scalar
use Rattle.yaml_laws.proofs.Breaks.Cores.{Indexes, near_core, near_comment, Cores, Anywhere, Twin, Laws, Alike, BeginsUnbroken, Unbroken, here, of_cores, with_core, and_core, save_same, here_adjacent, and_separate, and_read, twin_reads, twin_alike}
use Rattle.yaml_laws.proofs.Breaks.Gaps.{gap_rests}
use Rattle.yaml_laws.proofs.Breaks.Places.{reindexed, near}
use Rattle.yaml_laws.proofs.Breaks.States.{SameSteps}

-- the first character of a text
abbrev pub Begins : ℕ → Cursor → Type 0
Begins c s = slice_index s.rest 0 ≡ c

pub begins_near : (c i : ℕ) (s : Cursor) → is_break c ≡ false → Begins c s → Begins c (near i s)
begins_near c i s k b = by s.rest b
  where
    by : (t : List ℕ) → slice_index t 0 ≡ c → slice_index (normalized t) 0 ≡ c
    by [] e = e
    by (x ∷ t) e = let f : (x == 13) ≡ false = ap (λ y. y == 13) e ∙ no_return c k in rw f e

pub no_break_here : (c : ℕ) (s : Cursor) → is_break c ≡ false → Begins c s → is_break (slice_index s.rest 0) ≡ false
no_break_here c s k b = ap is_break b ∙ k

mark_is : (text : List ℕ) (m k : Marker) → AreMarksAlike text m k → k ≡ reindexed k.index m
mark_is text m k h = grind arith

noted_is : (text : List ℕ) (o p : Option Marker) → AreNoted text o p → (i : ℕ) × (p ≡ near_comment i o)
noted_is text (Some m) (Some k) h = (k.index, cc (mark_is text m k h))
noted_is text None None h = (0, refl)
noted_is text (Some m) None h = absurd h
noted_is text None (Some k) h = absurd h

pub indicator_no_break : (style : BlockStyle) → is_break (block_indicator style) ≡ false
indicator_no_break style = grind arith

some_text : (t : List ℕ) → BeginsUnbroken t → 0 < length t
some_text t k = grind arith

unbroken_first : (t : List ℕ) → BeginsUnbroken t → is_break (slice_index t 0) ≡ false
unbroken_first t k = grind arith

near_unbroken : (i : ℕ) (s : Cursor) → BeginsUnbroken s.rest → 0 < length (normalized s.rest)
near_unbroken i s k = grind arith

module _ {text : List ℕ} (laws : Laws text) where
  -- ## Quoted scalars

  behind_same : (start : Marker) (i : ℕ) (style : ScalarStyle) (value : List ℕ) (c : Core) (x : Indexes)
      → Twin text c x → Both (SameSteps text) (scalar.behind_quotes start style value c)
      (scalar.behind_quotes (reindexed i start) style value (near_core x c))
  unfolding scalar.behind_quotes scalar.goes_on_behind_quotes
  behind_same start i style value c x t = and_separate _ _ laws c x t (λ k d y u.
      choose_first (λ z. cond (in_block d) (is_breakz z || ((z == 58) && (start.line == d.cursor.mark.line)))
      (is_breakz z || (z == 58) || (z == 44) || (z == 93) || (z == 125))) refl (twin_alike d y u)
      (λ _. and_core _ _ (gap_rests laws d y u tt) (λ e z v _. gives (
        here (scalar.adjacent_here e) (record z { adjacent = z.at }) (here_adjacent e z v) tt,
        (refl, tt),
      ))) (λ _. refused))

  read_quoted_same : (quote : Quote) → Alike text (Begins (mark quote)) (SameSteps text) (scalar.read_quoted quote)
  read_quoted_same quote c x t begins =
      let i = least_column c in
      let s = c.cursor in
      let m = reindexed x.at s.mark in
      let style = scalar.quote_style quote in
      let k = no_break quote in
      and_read (λ a. a.1) _ _ laws c x t
      (both_of ((twin_reads c x laws t).quoted quote i (no_break_here (mark quote) s k begins)))
      (λ a e. laws.forward.quoted quote i s a begins e)
      (λ b e. laws.forward.quoted quote i (near x.at s) b (begins_near (mark quote) x.at s k begins) e) (λ a b w. w.1)
      (λ a b w h. with_core (λ d. scalar.behind_quotes s.mark style a.0 d) (λ d. scalar.behind_quotes m style b.0 d) h
      (λ d y u _. rw (← w.0) (behind_same s.mark x.at style a.0 d y u)))
    where
      no_break : (quote : Quote) → is_break (mark quote) ≡ false
      no_break Single = refl
      no_break Double = refl

  pub quoted_same : (quote : Quote) (n : ℕ) → Alike text (Begins (mark quote)) (SameSteps text)
      (scalar.quoted_steps quote n)
  unfolding scalar.quoted_steps
  quoted_same quote n c x t begins = let read = λ (a : Core). scalar.read_quoted quote (scalar.disallow_key a) in
      with_core {P = Begins (mark quote)} read read (save_same n c x t begins)
      (λ d y u b. read_quoted_same quote (scalar.disallow_key d) y u b)

  -- ## Plain scalars

  read_same : Alike text Anywhere (SameSteps text) scalar.read_plain
  unfolding scalar.read_plain
  read_same c x t _ =
      let s = c.cursor in
      let f = not (in_block c) in
      choose (f && nat_lt s.mark.col c.indent) (λ _. refused) (λ _. and_read (λ a. a.3) _ _ laws c x t
      (both_of ((twin_reads c x laws t).plain f c.indent)) (laws.forward.plain f c.indent s)
      (laws.forward.plain f c.indent (near x.at s)) (λ a b w. w.3) (λ a b w h. let o = noted_is text a.2 b.2 w.2 in
      gives (
        of_cores (λ d e. Cores text Anywhere (record d { key_allowed = d.cursor.blank_so_far; comment = a.2 })
            (record e { key_allowed = e.cursor.blank_so_far; comment = b.2 })) h (λ d y u _. rw o.1
            (here (record d { key_allowed = d.cursor.blank_so_far; comment = a.2 }) (record y { comment = o.0 })
            (record { ahead = u.ahead; key = u.key; outer = u.outer; line = u.line; adjacent = u.adjacent }) tt)),
        (ap (λ z. tokens.Scalar Plain z) w.0, tt),
      )))

  pub plain_same : (n : ℕ) → Alike text Anywhere (SameSteps text) (scalar.plain_steps n)
  unfolding scalar.plain_steps
  plain_same n c x t _ =
      let bare = λ (d : Core). record (scalar.disallow_key d) { deeper = false } in
      let read = λ (d : Core). scalar.read_plain (bare d) in
      with_core {P = Anywhere} read read (save_same n c x t tt) (λ d y u _. read_same (bare d) y u tt)

  -- ## Block scalars

  read_block_same : (style : BlockStyle) → Alike text (Begins (block_indicator style)) (SameSteps text)
      (scalar.read_block style)
  unfolding scalar.read_block
  read_block_same style c x t begins =
      let s = c.cursor in
      let k = indicator_no_break style in
      and_read (λ a. a.2) _ _ laws c x t
      (both_of ((twin_reads c x laws t).block_scalar style c.indent (no_break_here (block_indicator style) s k begins)))
      (λ a e. laws.forward.block_scalar style c.indent s a begins e)
      (λ b e. laws.forward.block_scalar style c.indent (near x.at s) b
      (begins_near (block_indicator style) x.at s k begins) e) (λ a b w. w.3) (λ a b w h. gives (h, (cc, tt)))

  pub block_same : (style : BlockStyle) (n : ℕ) → Alike text (Begins (block_indicator style)) (SameSteps text)
      (scalar.block_scalar_steps style n)
  unfolding scalar.block_scalar_steps
  block_same style n c x t begins =
      let bare = λ (d : Core). record d { key_allowed = true; deeper = false } in
      let read = λ (d : Core). scalar.read_block style (bare d) in
      with_core {P = Begins (block_indicator style)} read read (save_same n c x t begins)
      (λ d y u b. read_block_same style (bare d) y u b)

  -- ## Anchors, aliases and tags

  read_name_same : (token_of : List ℕ → Kind) → Alike text Unbroken (SameSteps text) (property.read_name token_of)
  unfolding property.read_name
  read_name_same token_of c x t unbroken = let s = c.cursor in and_read (λ a. a.1) _ _ laws c x t
      (both_of ((twin_reads c x laws t).anchor (unbroken_first s.rest unbroken)))
      (λ a e. laws.forward.name s a (some_text s.rest unbroken) e)
      (λ b e. laws.forward.name (near x.at s) b (near_unbroken x.at s unbroken) e) (λ a b w. w.1)
      (λ a b w h. gives (h, (ap (λ z. token_of z) w.0, tt)))

  pub name_same : (token_of : List ℕ → Kind) (n : ℕ)
      → Alike text Unbroken (SameSteps text) (property.name_steps token_of n)
  unfolding property.name_steps
  name_same token_of n c x t unbroken =
      let read = λ (d : Core). property.read_name token_of (scalar.disallow_key d) in
      with_core {P = Unbroken} read read (save_same n c x t unbroken)
      (λ d y u i. read_name_same token_of (scalar.disallow_key d) y u i)

  read_tag_same : Alike text (Begins 33) (SameSteps text) property.read_tag
  unfolding property.read_tag
  read_tag_same c x t begins =
      let s = c.cursor in
      let f = not (in_block c) in
      and_read (λ a. a.2) _ _ laws c x t (both_of ((twin_reads c x laws t).tag f (no_break_here 33 s refl begins)))
      (λ a e. laws.forward.tag f s a begins e)
      (λ b e. laws.forward.tag f (near x.at s) b (begins_near 33 x.at s refl begins) e) (λ a b w. w.2)
      (λ a b w h. gives (h, (cc, tt)))

  pub tag_same : (n : ℕ) → Alike text (Begins 33) (SameSteps text) (property.tag_steps n)
  unfolding property.tag_steps
  tag_same n c x t begins = let read = λ (d : Core). property.read_tag (scalar.disallow_key d) in
      with_core {P = Begins 33} read read (save_same n c x t begins)
      (λ d y u b. read_tag_same (scalar.disallow_key d) y u b)
