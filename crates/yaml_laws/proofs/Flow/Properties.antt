-- The properties of a node in flow style are passed, and an alias is.
use Rattle.std.proofs.Common.{◌≡◌, ◌≢◌, ℕ, zero, suc, ◌+◌, ◌-◌, Bool, false, List, [], ◌∷◌, ◌++◌, slice_index, refl, sym, ap, ◌∙◌, arith, subst, append_assoc, append-nil, IsTrue, inl, inr}
use Rattle.yaml_laws.proofs.Common.{not, option_map, Option, Some, None, is_blank, is_blank_or_breakz, Marker, AreIn, EndsTag, spaces, IsGap, IsSeparation, both_in, Context, Kind, alias_token, anchor_token, tag_token, Place, Candidate, Level, is_block, State, Tag, Alias, saved, IsTag, IsAnchor, allows_adjacent}
use Rattle.saphyr_scanner.specs.Grammar.TokenGrammar as grammar
use Rattle.yaml_laws.specs.Grammar.FlowNodes as yaml
use Rattle.yaml_laws.proofs.InFlow.States.{Around, state_at, FlowMoment, Ready}
use Rattle.yaml_laws.proofs.Flow.States.{Since, KeptKey, keeping, moved, ReaderPromises, Fits, Known, PassesPiece, IsAfterProperties, after, key_behind, ReadsText}
use Rattle.yaml_laws.proofs.Flow.Places.{moved_append}
use Rattle.yaml_laws.proofs.Documents.Lines.{rest_first}
use Rattle.yaml_laws.proofs.Flow.Fillers.{spaces_are_blank}
use Rattle.yaml_laws.proofs.Flow.KeyPieces.{cut_front, cut_back}
use Rattle.yaml_laws.proofs.Flow.ContentStarts.{Begins, anchor_begins, begins_content, tag_begins}
use Rattle.yaml_laws.proofs.Flow.Joins.{since_join, separation_joins, join, knowing, token_node}
use Rattle.yaml_laws.proofs.Flow.Tokens.{after_token, part_ready}
use Rattle.yaml_laws.proofs.Flow.Names.{PassesName, closes_key, anchor_passes, alias_token_passes, tag_passes}
use Rattle.yaml_laws.proofs.Flow.Ends.{tag_ends_name, white_ends_tag, follows_tag}

-- ## What is known after properties

-- as IsAfterProperties, and the place where a colon may come at once is still the same
pub record IsBehindProperties (x : Context) (kept : KeptKey) (ad : ℕ) (key : Option Candidate) (allowed : Bool)
    (adjacent : ℕ) (new : List Place) : Type 0 where
  pub properties : IsAfterProperties x kept.kept key allowed new
  pub since : Since kept.before kept.from kept.over key
  pub still : adjacent ≡ ad

abbrev pub behind_properties : Context → KeptKey → ℕ → Known
behind_properties x kept ad key allowed adjacent new = IsBehindProperties x kept ad key allowed adjacent new

pub closed_saved : (a : Bool) (n : ℕ) (m : Marker) (k : Option Candidate) → a ≡ false → saved a n m k ≡ k
closed_saved a n m k e = rw e refl

one_property : {around : Around} {start : Bool → State} {ls : List Level} {ps : List Place} {m : Marker} {o : List ℕ}
    {ts : List Kind} → (x : Context) (kept : KeptKey) (ad : ℕ)
    → PassesPiece around start (after_token (closes_key ad) x kept) x ls ps m o ts
    → PassesPiece around start (behind_properties x kept ad) x ls ps m o ts
one_property x kept ad p = grind (arith, knowing)

-- A gap is separation. Blanks alone are, on the line. With a break the gap ends in an indentation that may be more than
-- is asked: as much as is asked ends the separation's lines, and the other spaces are blanks behind them (`longer`).
pub gap_separates : (indent : ℕ) (w : List ℕ) → IsGap indent w → IsSeparation indent w
gap_separates indent w (inl (some, are)) = ([], w, ([], tt, refl), are, refl)
gap_separates indent w (inr (
  end,
  filler,
  front,
  (rest, (blanks, comment, are, k, rest_is), end_is),
  filler_is,
  (lead, tail, (n, low, lead_is), tail_are, prefix_is),
  e,
)) =
    let line = blanks ++ (comment ++ (10 ∷ (filler ++ spaces indent))) in
    let more = spaces (n - indent) ++ tail in
    let front_is : front ≡ spaces indent ++ more = cc (
      (let same : n ≡ indent + (n - indent) = omega (arith, low) in ap spaces same ∙ sum indent (n - indent)),
      append_assoc (spaces indent) (spaces (n - indent)) tail,
    ) in (
      line ++ [],
      more,
      (line ∷ [], ((blanks, comment, filler, are, k, filler_is, refl), tt), refl),
      both_in is_blank (spaces (n - indent)) tail (spaces_are_blank (n - indent)) tail_are,
      (cc (joined blanks comment filler (spaces indent) more, append-nil line)),
    )
  where
    joined : (a b c d e : List ℕ) → ((a ++ b) ++ (10 ∷ [])) ++ (c ++ (d ++ e)) ≡ (a ++ (b ++ (10 ∷ (c ++ d)))) ++ e
    joined a b c d e = simp append_assoc

    sum : (i j : ℕ) → spaces (i + j) ≡ spaces i ++ spaces j
    sum zero j = let same : 0 + j ≡ j = omega arith in ap spaces same
    sum (suc i) j =
        let same : suc i + j ≡ suc (i + j) = omega arith in cc (sum i j)

-- two with a gap between
two_properties : (around : Around) (start : Bool → State) (x : Context) (kept before : Option Candidate)
    (ls : List Level) (ps : List Place) (ad : ℕ) (m : Marker) (a w b o : List ℕ) (first second : Kind)
    → (p : PassesPiece around start (after_token (closes_key ad) x
    (record { kept = kept; before = before; from = m; over = a })) x ls ps (moved (moved m a) w) (b ++ o) (first ∷ []))
    → PassesPiece around (state_at around (after p))
    (after_token (closes_key p.adjacent) x (keeping (after p) (moved (moved m a) w) b)) x ls (ps ++ p.new)
    (moved (moved (moved m a) w) b) o (second ∷ [])
    → PassesPiece around start (behind_properties x
    (record { kept = kept; before = before; from = m; over = a ++ (w ++ b) })
    ad) x ls ps (moved m (a ++ (w ++ b))) o (first ∷ second ∷ [])
two_properties around start x kept before ls ps ad m a w b o first second p q =
    rw (sym (moved_append m a (w ++ b) ∙ moved_append (moved m a) w b)) at
    (join p q (behind_properties x (record { kept = kept; before = before; from = m; over = a ++ (w ++ b) }) ad)
    (record {
      properties = grind (arith, closed_saved, moved);
      since = since_join before m a w b p.key q.key p.knows.since q.knows.since;
      still = q.knows.holds.1 ∙ p.knows.holds.1;
    }))

pub blank_first : (w y : List ℕ) → (w ≢ []) × AreIn is_blank w → IsTrue (is_blank_or_breakz (slice_index (w ++ y) 0))
blank_first [] y h = absurd (h.0 refl)
blank_first (c ∷ cs) y h = search

-- after a token: a blank or a break
pub gap_first : (indent : ℕ) (w y : List ℕ) → IsGap indent w → IsTrue (is_blank_or_breakz (slice_index (w ++ y) 0))
gap_first indent w y (inl h) = blank_first w y h
gap_first indent w y (inr (end, filler, front, (rest, rest_is, end_is), filler_is, prefix, e)) =
    let more = (filler ++ front) ++ y in
    let text : w ++ y ≡ rest ++ (10 ∷ more) = cc (joined rest (filler ++ front) y) in
    rw text (rest_first rest (10 ∷ more) rest_is (inr refl))
  where
    joined : (a b c : List ℕ) → ((a ++ (10 ∷ [])) ++ b) ++ c ≡ a ++ (10 ∷ (b ++ c))
    joined a b c = simp append_assoc

gap_ends_tag : (indent : ℕ) (in_flow : Bool) (w b o : List ℕ) → IsGap indent w → EndsTag in_flow (w ++ (b ++ o))
gap_ends_tag indent in_flow w b o h = white_ends_tag in_flow (w ++ (b ++ o)) (gap_first indent w (b ++ o) h)

-- ## Properties

-- the tokens of an anchor and a tag, and the run over their text
pub record PropertiesRead (around : Around) (start : Bool → State) (now : FlowMoment) (anchor : Option (List ℕ))
    (tag : Option Tag) (m : Marker) (t o : List ℕ) : Type 0 where
  pub tokens : List Kind
  pub are : grammar.AreBoth (option_map anchor_token anchor) (option_map tag_token tag) tokens
  pub passes : PassesPiece around start (behind_properties now.context (keeping now m t) now.adjacent)
      now.context now.outer now.places (moved m t) o tokens

-- what is shown of one of the two
abbrev ReadsOne : Around → (List ℕ → Type 0) → Kind → Type 0
ReadsOne around Is kind =
    (m : Marker) (t o : List ℕ) → Is t → (now : FlowMoment) → EndsTag (not (is_block now.context)) o
    → PassesName around kind now m t o

anchor_one : ReaderPromises → (around : Around) (name : List ℕ) → ReadsOne around (IsAnchor name) (anchor_token name)
anchor_one reads around name m t o h now ends =
    anchor_passes reads around name t o m h (tag_ends_name (not (is_block now.context)) o ends) now

tag_one : ReaderPromises → (around : Around) (tag : Tag) → ReadsOne around (IsTag tag) (tag_token tag)
tag_one reads around tag m t o h now ends = tag_passes reads around tag t o m h now ends

-- both, with a gap between
both_passed : {around : Around} {P Q : List ℕ → Type 0} {i j : Kind} → ReadsOne around P i → ReadsOne around Q j
    → (m : Marker) (t o : List ℕ)
    → (a w b : List ℕ) × P a × IsGap around.indent w × Q b × Begins b × (t ≡ a ++ (w ++ b)) → (now : FlowMoment)
    → EndsTag (not (is_block now.context)) o → Fits around now.context m t o
    → (start : Bool → State) → Ready around start now m (t ++ o)
    → PassesPiece around start (behind_properties now.context (keeping now m t) now.adjacent)
    now.context now.outer now.places (moved m t) o (i ∷ j ∷ [])
both_passed {around} {i = i} {j} first second m t o (a, w, b, h, spaced, g, begins, is) now ends fits start ready =
    subst (λ (t : List ℕ). Fits around now.context m t o → Ready around start now m (t ++ o)
    → PassesPiece around start (behind_properties now.context (keeping now m t) now.adjacent)
    now.context now.outer now.places (moved m t) o (i ∷ j ∷ [])) (sym is) (λ fits ready.
    let parts = gap_separates around.indent w spaced in
    let n = moved (moved m a) w in
    let q = first m a (w ++ (b ++ o)) h now (gap_ends_tag around.indent (not (is_block now.context)) w b o spaced)
    (cut_front m a w b o (begins_content b begins) parts fits) start
    (rw (append_assoc a (w ++ b) o, append_assoc w b o) at ready) in
    let p = separation_joins (moved m a) w (b ++ o) parts q in
    let inner = cut_back (moved m a) w b o p.right (cut_back m a (w ++ b) o q.right fits) in
    two_properties around start now.context (key_behind now m) now.key now.outer now.places now.adjacent m a w b o i j p
    (second n b o g (after p) ends inner (state_at around (after p))
    (part_ready around (after p) n b o begins inner p.right p.fits p.holds))) fits ready

-- By which properties there are: one of the two is a token (`one_property`), and both are, in either order, with a gap
-- between (`both_passed`).
pub properties_read : ReaderPromises
    → (around : Around) (anchor : Option (List ℕ)) (tag : Option Tag) (m : Marker) (t o : List ℕ)
    → yaml.AreProperties anchor tag around.indent t → (now : FlowMoment) → EndsTag (not (is_block now.context)) o
    → Fits around now.context m t o → (start : Bool → State) → Ready around start now m (t ++ o)
    → PropertiesRead around start now anchor tag m t o
properties_read reads around None None m t o h now ends fits start ready = absurd h
properties_read reads around (Some name) None m t o h now ends fits start ready =
    let q = anchor_one reads around name m t o h now ends fits start ready in
    let kept = keeping now m t in
    record { tokens = anchor_token name ∷ []; are = refl; passes = one_property now.context kept now.adjacent q }
properties_read reads around None (Some tag) m t o h now ends fits start ready =
    let q = tag_one reads around tag m t o h now ends fits start ready in
    let kept = keeping now m t in
    record { tokens = tag_token tag ∷ []; are = refl; passes = one_property now.context kept now.adjacent q }
properties_read reads around (Some name) (Some tag) m t o (a, w, b, h, g, spaced, inl is) now ends fits start ready =
    record {
      tokens = anchor_token name ∷ tag_token tag ∷ [];
      are = inl refl;
      passes = both_passed (anchor_one reads around name) (tag_one reads around tag) m t o
          (a, w, b, h, spaced, g, tag_begins tag b g, is) now ends fits start ready;
    }
properties_read reads around (Some name) (Some tag) m t o (b, w, a, h, g, spaced, inr is) now ends fits start ready =
    record {
      tokens = tag_token tag ∷ anchor_token name ∷ [];
      are = inr refl;
      passes = both_passed (tag_one reads around tag) (anchor_one reads around name) m t o
          (a, w, b, g, spaced, h, anchor_begins name b h, is) now ends fits start ready;
    }

-- ## An alias

pub alias_passes : ReaderPromises → (around : Around) (name : List ℕ) (m : Marker) (t o : List ℕ) (now : FlowMoment)
    → yaml.IsAlias name t → ReadsText around (Alias name) m t o now
alias_passes reads around name m t o now h fits follows low start ready =
    let ends = tag_ends_name (not (is_block now.context)) o
    (follows_tag around now.context (Alias name) (moved m t) o refl follows) in
    let q = alias_token_passes reads around name t o m h ends now fits start ready in
    record {
      tokens = alias_token name ∷ [];
      are = λ place. refl;
      comment = None;
      none = λ _. refl;
      passes = token_node now (allows_adjacent (Alias name)) (λ w. refl) low.0 q q.knows.holds.1;
    }
