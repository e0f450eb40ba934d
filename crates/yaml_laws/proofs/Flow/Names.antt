-- The anchors, aliases and tags of a text in flow style are passed.
use Rattle.std.proofs.Common.{◌≡◌, ℕ, ◌+◌, ◌≤◌, Bool, true, false, List, [], ◌∷◌, ◌++◌, length, slice_index, refl, sym, ap, ◌∙◌, arith, subst, encode_utf8_all, inl, inr}
use Rattle.yaml_laws.proofs.Common.{◌==◌, not, Option, None, is_break, is_anchor_char, line_feed, Marker, along, mid_line, AreIn, IsAnchorName, IsTagText, EndsTag, IsHandleText, NoBreaks, Kind, alias_token, anchor_token, tag_token, Tag, Handle, handle_text, NonSpecific, Verbatim, Shorthand, Core, from_to, completed_step, Candidate, State, is_block, name_no_break, tag_no_break, IsTag, IsAnchor, IsAlias, cursor_at, no_break_no_feed}
use Rattle.saphyr_scanner.specs.Grammar.Tokens as tokens
use Rattle.saphyr_scanner.specs.Steps.Property as property
use Rattle.saphyr_scanner.specs.Steps.Property.{read_name, read_tag}
use Rattle.saphyr_scanner.specs.Steps.Fetch.{step}
use Rattle.saphyr_scanner.proofs.Effects.Properties.{tag_first}
use Rattle.yaml_laws.proofs.InFlow.States.{Around, core_at, Placed, saves_key, FlowMoment, Ready, right_at}
use Rattle.yaml_laws.proofs.Flow.States.{moved, ReaderPromises, Fits}
use Rattle.yaml_laws.proofs.Flow.KeyPieces.{fits_reach}
use Rattle.yaml_laws.proofs.Flow.Places.{moved_along, right_along}
use Rattle.yaml_laws.proofs.Flow.Tokens.{passed, token_passes, PassesToken}
use lib.Utf8.{encode}
use Rattle.yaml_laws.specs.Grammar.TagSpelling as spelling
use Rattle.yaml_laws.proofs.Flow.ContentStarts.{is_start, starts, tag_begins}

pub handle_read : (handle : Handle) (t : List ℕ) → spelling.IsHandle handle t
    → IsHandleText t × (t ≡ handle_text handle)
handle_read handle t h = grind arith

-- a tag as it is read, and its token
pub record IsReadTag (tag : Tag) (t : List ℕ) : Type 0 where
  pub handle : List ℕ
  pub suffix : List ℕ
  pub is : IsTagText t handle suffix
  pub token : tokens.Tag (encode_utf8_all handle) (encode_utf8_all suffix) ≡ tag_token tag

pub tag_read : (tag : Tag) (t : List ℕ) → spelling.IsTag tag t → IsReadTag tag t
unfolding encode
tag_read NonSpecific t h = record { handle = []; suffix = 33 ∷ []; is = inl (h, refl, refl); token = refl }
tag_read (Verbatim uri) t h = record { handle = []; suffix = uri; is = inr (inl (h.0, h.2, refl, h.3)); token = refl }
tag_read (Shorthand handle suffix) t h =
    let r = handle_read handle h.0 h.2 in
    record { handle = h.0; suffix = suffix; is = inr (inr (h.1, r.0, h.3, h.4, h.5)); token = cc }

-- on its line what has no break has no line feed
pub unbroken_on_line : (t : List ℕ) → NoBreaks t → AreIn (λ c. not (c == line_feed)) t
unbroken_on_line [] h = tt
unbroken_on_line (c ∷ cs) h = (no_break_no_feed c h.0, unbroken_on_line cs h.1)

pub unbroken_along : (m : Marker) (t : List ℕ) → NoBreaks t → moved m t ≡ along m (length t)
unbroken_along m t h = moved_along m t (unbroken_on_line t h)

pub unbroken_right : (column : ℕ) (m : Marker) (t : List ℕ) → NoBreaks t → column ≤ m.col → column ≤ (moved m t).col
unbroken_right column m t h low = right_along column m t (unbroken_on_line t h) low

-- no key may begin after the token, and the place where a colon may come at once is still the same
abbrev pub closes_key : ℕ → Bool → ℕ → Type 0
closes_key ad allowed adjacent = (allowed ≡ false) × (adjacent ≡ ad)

-- how a text is passed that is a token of this kind
abbrev pub PassesName : Around → Kind → FlowMoment → Marker → List ℕ → List ℕ → Type 0
PassesName around kind now m t o =
    Fits around now.context m t o → (from : Bool → State) → Ready around from now m (t ++ o)
    → PassesToken around (closes_key now.adjacent) from now m t o kind

-- ## Names

pub name_step : ReaderPromises → (around : Around) (d : Bool) (token_of : List ℕ
    → Kind) (m : Marker) (b : Bool) (indicator : ℕ)
    (name o : List ℕ) → is_break indicator ≡ false → IsAnchorName name → is_anchor_char (slice_index o 0) ≡ false
    → (now : FlowMoment) (k : Option Candidate) (a : Bool) → Placed around now.context a m
    → let here = right_at now (indicator ∷ (name ++ o)) m b k a in
    property.name_steps token_of (length now.places) (core_at around d here)
    ≡ completed_step (from_to m (moved m (indicator ∷ name)) (token_of (encode_utf8_all name)) ∷ [])
    (core_at around d (passed here (mid_line (moved m (indicator ∷ name)) o) false now.adjacent))
unfolding property.name_steps read_name
name_step reads around d token_of m b indicator name o e h ends now k a placed =
    let here = right_at now (indicator ∷ (name ++ o)) m b k a in
    let end : along m (1 + length name) ≡ moved m (indicator ∷ name) = grind (arith, unbroken_along, name_no_break) in
    simp (
      saves_key (length now.places) around d here placed,
      reads.anchor here.cursor indicator name o refl h ends,
      end,
    )

-- The text is written as its indicator and its name, and is one token (`token_passes`). Since no break is in it, its
-- end is along the line, and blanks behind it are left there.
name_passes : ReaderPromises → (around : Around) (token_of : List ℕ → Kind) (indicator : ℕ) (name t o : List ℕ)
    (m : Marker) → ((second n : ℕ) (c : Core) → step indicator second n c ≡ property.name_steps token_of n c)
    → is_start indicator ≡ true → is_break indicator ≡ false → IsAnchorName name → t ≡ indicator ∷ name
    → is_anchor_char (slice_index o 0) ≡ false → (now : FlowMoment)
    → PassesName around (token_of (encode_utf8_all name)) now m t o
name_passes reads around token_of indicator name t o m begins start break h is ends now =
    let kind = token_of (encode_utf8_all name) in
    let end = moved m (indicator ∷ name) in
    subst (λ (p : List ℕ). PassesName around kind now m p o) (sym is) (λ fits from ready.
    token_passes around None (closes_key now.adjacent) kind (indicator ∷ name) o m now fits
    (fits_reach m (indicator ∷ name) o (starts indicator name (indicator ∷ name) refl start)
    (unbroken_right around.indent m (indicator ∷ name) (break, name_no_break name h)) fits) from ready
    (λ b j e placed. record {
      there = mid_line end o;
      end = end;
      allowed = false;
      adjacent = now.adjacent;
      to = λ d. d;
      is = grind (arith, core_at, cursor_at, name_step);
      fits = refl;
      fresh = λ _ e. e;
      line = λ _ white c cs is are _ low. (
        refl,
        record { white = white; are = are; rest = is; mark = refl; right = low },
      );
      holds = (refl, refl);
    }))

pub begins_anchor : (second n : ℕ) (c : Core) → step 38 second n c ≡ property.anchor_steps n c
unfolding step
begins_anchor second n c = refl

pub begins_alias : (second n : ℕ) (c : Core) → step 42 second n c ≡ property.alias_steps n c
unfolding step
begins_alias second n c = refl

pub anchor_passes : ReaderPromises → (around : Around) (name t o : List ℕ) (m : Marker) → IsAnchor name t
    → is_anchor_char (slice_index o 0) ≡ false → (now : FlowMoment) → PassesName around (anchor_token name) now m t o
anchor_passes reads around name t o m h =
    name_passes reads around tokens.Anchor 38 name t o m begins_anchor refl refl h.0 h.1

pub alias_token_passes : ReaderPromises → (around : Around) (name t o : List ℕ) (m : Marker) → IsAlias name t
    → is_anchor_char (slice_index o 0) ≡ false → (now : FlowMoment) → PassesName around (alias_token name) now m t o
alias_token_passes reads around name t o m h =
    name_passes reads around tokens.Alias 42 name t o m begins_alias refl refl h.0 h.1

-- ## Tags

pub tag_step : ReaderPromises → (around : Around) (d : Bool) (m : Marker) (b : Bool) (t handle suffix o : List ℕ)
    → IsTagText t handle suffix → (now : FlowMoment) (k : Option Candidate) (a : Bool)
    → EndsTag (not (is_block now.context)) o → Placed around now.context a m
    → let here = right_at now (t ++ o) m b k a in property.tag_steps (length now.places) (core_at around d here)
    ≡ completed_step (from_to m (moved m t) (tokens.Tag (encode_utf8_all handle) (encode_utf8_all suffix)) ∷ [])
    (core_at around d (passed here (mid_line (moved m t) o) false now.adjacent))
unfolding property.tag_steps read_tag
tag_step reads around d m b t handle suffix o h now k a ends placed =
    let here = right_at now (t ++ o) m b k a in
    cc (
      saves_key (length now.places) around d here placed,
      reads.tag (not (is_block now.context)) here.cursor t handle suffix o refl h ends,
      unbroken_along m t (tag_no_break t handle suffix h),
    )

-- A tag is one token too (`token_passes`). Its text is taken apart into what the reader calls handle and suffix
-- (`tag_read`), from which its token is made.
pub tag_passes : ReaderPromises → (around : Around) (tag : Tag) (t o : List ℕ) (m : Marker) → IsTag tag t
    → (now : FlowMoment) → EndsTag (not (is_block now.context)) o → PassesName around (tag_token tag) now m t o
unfolding step
tag_passes reads around tag t o m h now ends fits from ready =
    let r = tag_read tag t h in
    let at_first : slice_index (t ++ o) 0 ≡ 33 = tag_first t o r.handle r.suffix r.is in
    let second = slice_index (t ++ o) 1 in
    let end = moved m t in
    let n = length now.places in
    let kind = tokens.Tag (encode_utf8_all r.handle) (encode_utf8_all r.suffix) in
    subst (λ (q : Kind). PassesToken around (closes_key now.adjacent) from now m t o q) r.token
    (token_passes around None
    (closes_key now.adjacent) kind t o m now fits (fits_reach m t o (tag_begins tag t h)
    (unbroken_right around.indent m t (tag_no_break t r.handle r.suffix r.is)) fits) from ready
    (λ b j e placed. record {
      there = mid_line end o;
      end = end;
      allowed = false;
      adjacent = now.adjacent;
      to = λ d. d;
      is = λ d. let c = core_at around d (right_at now (t ++ o) m b j e) in
          ap (λ (z : ℕ). step z second n c) at_first ∙ refl
          ∙ tag_step reads around d m b t r.handle r.suffix o r.is now j e ends placed;
      fits = refl;
      fresh = λ _ e. e;
      line = λ _ white c cs is are _ low. (
        refl,
        record { white = white; are = are; rest = is; mark = refl; right = low },
      );
      holds = (refl, refl);
    }))
