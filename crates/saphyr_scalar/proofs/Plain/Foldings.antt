-- Breaks with blanks round them, before a character: what they are folded to (YAML 1.2.2, 6.5).
use Rattle.saphyr_scalar.proofs.Common.{◌≡◌, ℕ, zero, suc, Bool, true, false, List, [], ◌∷◌, ◌++◌, refl, ◌∙◌, ap, cond, append_assoc, Item, Blank, Raw, Escaped, Break, EscapedBreak}
use Rattle.saphyr_scalar.specs.Values.Folding.{is_before_break, empty_lines, raw_break, folded_from, folded}

abbrev AreBlankItems : List Item → Type 0
AreBlankItems [] = Unit {0}
AreBlankItems (Blank c ∷ items) = AreBlankItems items
AreBlankItems _ = ⊥

-- so many raw breaks, with any blanks before, between and after them
abbrev pub AreBreaks : ℕ → List Item → Type 0
AreBreaks zero items = AreBlankItems items
AreBreaks (suc n) items =
    (blanks others : List Item) × AreBlankItems blanks × AreBreaks n others × (items ≡ blanks ++ (Break ∷ others))

-- blanks at a line's start
blanks_at_start : (blanks items : List Item) → AreBlankItems blanks
    → (folded_from true (blanks ++ items) ≡ folded_from true items)
    × (empty_lines (blanks ++ items) ≡ empty_lines items)
blanks_at_start [] items h = (refl, refl)
blanks_at_start (Blank c ∷ blanks) items h = blanks_at_start blanks items h
blanks_at_start (Raw c ∷ blanks) items h = absurd h
blanks_at_start (Escaped c ∷ blanks) items h = absurd h
blanks_at_start (Break ∷ blanks) items h = absurd h
blanks_at_start (EscapedBreak ∷ blanks) items h = absurd h

before_break : (blanks items : List Item) → AreBlankItems blanks → is_before_break (blanks ++ (Break ∷ items)) ≡ true
before_break [] items h = refl
before_break (Blank c ∷ blanks) items h = before_break blanks items h
before_break (Raw c ∷ blanks) items h = absurd h
before_break (Escaped c ∷ blanks) items h = absurd h
before_break (Break ∷ blanks) items h = absurd h
before_break (EscapedBreak ∷ blanks) items h = absurd h

-- blanks before a break
blanks_before_break : (blanks items : List Item) → AreBlankItems blanks
    → folded_from false (blanks ++ (Break ∷ items)) ≡ folded_from false (Break ∷ items)
blanks_before_break [] items h = refl
blanks_before_break (Blank c ∷ blanks) items h =
    ap (λ (b : Bool). cond b [] (c ∷ []) ++ folded_from false (blanks ++ (Break ∷ items))) (before_break blanks items h)
    ∙ blanks_before_break blanks items h
blanks_before_break (Raw c ∷ blanks) items h = absurd h
blanks_before_break (Escaped c ∷ blanks) items h = absurd h
blanks_before_break (Break ∷ blanks) items h = absurd h
blanks_before_break (EscapedBreak ∷ blanks) items h = absurd h

regrouped : (breaks blanks others rest : List Item) → breaks ≡ blanks ++ (Break ∷ others)
    → breaks ++ rest ≡ blanks ++ (Break ∷ (others ++ rest))
regrouped breaks blanks others rest e =
    ap (λ (items : List Item). items ++ rest) e ∙ append_assoc blanks (Break ∷ others) rest

-- breaks at a line's start end empty lines
breaks_at_start : (n : ℕ) (breaks : List Item) (c : ℕ) (rest : List Item) → AreBreaks n breaks
    → (folded_from true (breaks ++ (Raw c ∷ rest)) ≡ c ∷ folded rest) × (empty_lines (breaks ++ (Raw c ∷ rest)) ≡ n)
breaks_at_start zero breaks c rest h = blanks_at_start breaks (Raw c ∷ rest) h
breaks_at_start (suc n) breaks c rest (blanks, others, h, hs, e) =
    let tail = others ++ (Raw c ∷ rest) in
    let cut = regrouped breaks blanks others (Raw c ∷ rest) e in
    let gone = blanks_at_start blanks (Break ∷ tail) h in
    let more = breaks_at_start n others c rest hs in
    (ap (folded_from true) cut ∙ gone.0 ∙ more.0, ap empty_lines cut ∙ gone.1 ∙ ap suc more.1)

-- breaks of which n end empty lines read as one raw break before n empty lines does, and no blank of them stays
pub folds_breaks : (n : ℕ) (breaks : List Item) (c : ℕ) (others : List Item) → AreBreaks (suc n) breaks
    → folded (breaks ++ (Raw c ∷ others)) ≡ raw_break n ++ (c ∷ folded others)
folds_breaks n breaks c rest (blanks, others, h, hs, e) =
    let more = breaks_at_start n others c rest hs in
    ap folded (regrouped breaks blanks others (Raw c ∷ rest) e)
    ∙ blanks_before_break blanks (others ++ (Raw c ∷ rest)) h
    ∙ ap (λ (k : ℕ). raw_break k ++ folded_from true (others ++ (Raw c ∷ rest))) more.1
    ∙ ap (λ (t : List ℕ). raw_break n ++ t) more.0
