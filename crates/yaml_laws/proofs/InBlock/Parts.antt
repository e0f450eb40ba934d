-- The parts of a block collection are read, the entries of a sequence or the pairs of a mapping (YAML 1.2.2, 8.2).
use Rattle.yaml_laws.proofs.Common.{Bool, List, [], ap, append-nil, append_assoc, arith, false, inl, inr, refl, subst, suc, sym, true, ℕ, ◌++◌, ◌+◌, ◌∙◌, ◌∷◌, ◌≡◌, ◌≤◌, ◌⊎◌, None, nat_le, ◌&&◌, ◌==◌, is_document_indicator, Marker, State, Kind, IsEntryIndentation, is_value_ahead, next_not_within, clash}
use Rattle.saphyr_scanner.specs.Grammar.TokenGrammar as grammar
use Rattle.yaml_laws.proofs.Flow.ContentStarts.{StartsContent}
use Rattle.yaml_laws.proofs.Flow.Places.{moved_append, clear_here}
use Rattle.yaml_laws.proofs.Documents.Stands.{AtLine}
use Rattle.yaml_laws.proofs.InBlock.Lines.{FitsOnLines, fits_front, fits_back, fits_so}
use Rattle.yaml_laws.proofs.InBlock.States.{Frame, EndsDocument, IsClear, moved, past, IsContentStart, FreeAt}
use Rattle.yaml_laws.proofs.InBlock.Entries.{frame_behind}
use Rattle.yaml_laws.proofs.InBlock.Statements.{EndsNodeAt, ArrivedAt, Arrived, EndsWithLine, arrived_so}
use Rattle.yaml_laws.proofs.InBlock.Texts.{behind_indented, indentation_skipped, indentation_col, reaches}
use Rattle.yaml_laws.proofs.InBlock.BehindIndicators.{further_content}
use Rattle.yaml_laws.proofs.InBlock.Ahead.{skipped_ahead}

-- ## Places

pub not_empty : (m : Marker) (t o : List ℕ) (c : ℕ) (cs : List ℕ) → (m.col ≡ 0) ⊎ (t ++ o ≡ []) → t ++ o ≡ c ∷ cs
    → m.col ≡ 0
not_empty m t o c cs h e = grind arith

pub some_first : (w rest : List ℕ) (d : ℕ) → (c : ℕ) × (cs : List ℕ) × (w ++ (d ∷ rest) ≡ c ∷ cs)
some_first [] rest d = (d, rest, refl)
some_first (c ∷ cs) rest d = (c, cs ++ (d ∷ rest), refl)

pub starts_behind : (m : Marker) (t o : List ℕ) → EndsWithLine t o → AtLine o (moved m t)
starts_behind m t o (inl h) = inl (h m)
starts_behind m t o (inr h) = inr h

pub frame_indent : (further : Bool) (f : Frame) (col : ℕ) → nat_le f.indent col ≡ further → f.indent ≤ col + 1
    → (frame_behind further col f).indent ≡ col + 1
frame_indent true f col e h = refl
frame_indent false f col e h = grind arith

pub suc_is : (n : ℕ) → n + 1 ≡ suc n
suc_is n = omega arith

pub least : (i col : ℕ) → i ≡ col + 1 → i ≤ col + 1
least i col e = omega (arith, e)

-- a key may begin at a token that doesn't end the document
pub goes_on : {limit : ℕ} {start : State} {f : Frame} {ts : List Kind} {n : Marker} {y : List ℕ}
    → ((EndsDocument n y) → ⊥) → ArrivedAt limit start f ts (n, y) → FreeAt limit start f n y ts
goes_on {n = n} {y = y} out v =
    let free : (v.at.key ≡ None) × (v.at.allowed ≡ true) = grind arith in
    record { at = v.at; none = free.0; allowed = free.1 }

-- a token that is no document marker, where the text has none at its line's start
not_marker : (m : Marker) (c : ℕ) (cs : List ℕ) → ((m.col == 0) && is_document_indicator (c ∷ cs)) ≡ false
    → IsContentStart c → EndsDocument m (c ∷ cs) → ⊥
not_marker m c cs h content k = grind (arith, clash)

-- a `:` ahead, after a line's end
ahead_of_line : (n : Marker) (z : List ℕ) (column : ℕ) → AtLine z n → is_value_ahead false column n.col z ≡ true
    → is_value_ahead false column 0 z ≡ true
ahead_of_line n z column h k = grind arith

-- ## What is read

-- A part of a collection at the column of n was read, inside its collection's frame. E tells of its tokens, before
-- those of others. It begins with a value only where its `:` is ahead, and it may lack a value where no `:` is ahead
-- after it.
pub record PartRead (limit : ℕ) (start : State) (E : List Kind → List Kind → Type 0) (g : Frame) (n : Marker)
    (t z : List ℕ) (ts : List Kind) : Type 0 where
  pub tokens : List Kind
  pub are : (others : List Kind) → (grammar.BeginsWithValue others → is_value_ahead false n.col 0 z ≡ true)
      → E others tokens
  pub begins : (others : List Kind) → grammar.BeginsWithValue (tokens ++ others)
      → is_value_ahead false n.col n.col (t ++ z) ≡ true
  pub arrived : Arrived limit start g (moved n t) z (ts ++ tokens)

-- The parts of a collection at a column were read, from m on, inside its frame. They begin with a value only where its
-- `:` is ahead.
pub record PartsRead (limit : ℕ) (start : State) (As : List Kind → Type 0) (column : ℕ) (g : Frame) (m : Marker)
    (t o : List ℕ) (ts : List Kind) : Type 0 where
  pub tokens : List Kind
  pub are : As tokens
  pub begins : grammar.BeginsWithValue tokens → is_value_ahead false column m.col (t ++ o) ≡ true
  pub arrived : Arrived limit start g (moved m t) o (ts ++ tokens)

-- What is shown of a kind of part: `opens` are the tokens before the first, where its collection begins.
abbrev pub ReadsPart : ℕ → (List Kind → List Kind → Type 0) → (Bool → List Kind) → (ℕ → List ℕ → List ℕ → Type 0)
    → Type 0
ReadsPart limit E opens Is =
    (f : Frame) (n : Marker) (further : Bool) → nat_le f.indent n.col ≡ further → f.indent ≤ n.col + 1 → (t z : List ℕ)
    → Is n.col t z → FitsOnLines limit n t z → EndsNodeAt (suc n.col) (moved n t) z
    → (start : State) (ts : List Kind) → FreeAt limit start f n (t ++ z) ts
    → PartRead limit start E (frame_behind further n.col f) n t z (ts ++ opens further)

pub record IsPart (limit : ℕ) (E : List Kind → List Kind → Type 0) (opens : Bool → List Kind)
    (Is : ℕ → List ℕ → List ℕ → Type 0) : Type 0 where
  pub content : (column : ℕ) (t z : List ℕ) → Is column t z → StartsContent t
  pub ends : (column : ℕ) (t z : List ℕ) → Is column t z → EndsWithLine t z
  pub reads : ReadsPart limit E opens Is
  pub none : opens false ≡ []

-- what is shown of the parts after the first
pub record ReadsOtherParts (limit : ℕ) (Others : ℕ → List ℕ → List ℕ → Type 0) (As : List Kind → Type 0) : Type 0 where
  pub behind : (column : ℕ) (m : Marker) (t o : List ℕ) → Others column t o → AtLine (t ++ o) m
      → EndsNodeAt (suc column) (moved m t) o → EndsNodeAt (suc column) m (t ++ o)
  pub reads : (g : Frame) (column : ℕ) → g.indent ≡ column + 1 → (m : Marker) (t o : List ℕ) → Others column t o
      → FitsOnLines limit m t o → EndsNodeAt (suc column) (moved m t) o → AtLine (t ++ o) m
      → (start : State) (ts : List Kind) → Arrived limit start g m (t ++ o) ts
      → PartsRead limit start As column g m t o ts

-- the text of a first part and others, and of others with their indentation
abbrev pub IsFirst : (ℕ → List ℕ → List ℕ → Type 0) → (ℕ → List ℕ → List ℕ → Type 0) → ℕ → List ℕ → List ℕ → Type 0
IsFirst Is Others column t o =
    (part others : List ℕ) × Is column part (others ++ o) × Others column others o × (t ≡ part ++ others)

abbrev pub AreOthers : (ℕ → List ℕ → List ℕ → Type 0) → (ℕ → List ℕ → List ℕ → Type 0) → ℕ → List ℕ → List ℕ → Type 0
AreOthers Is Others column t o =
    (front part others : List ℕ) × IsEntryIndentation column front × Is column part (others ++ o)
    × Others column others o × (t ≡ front ++ (part ++ others))

abbrev pub AreParts : (List Kind → List Kind → Type 0) → (List Kind → Type 0) → List Kind → Type 0
AreParts E As ts = (part others : List Kind) × E others part × As others × (ts ≡ part ++ others)

-- ## Parts

pub part_text : (front part others o : List ℕ) → (front ++ (part ++ others)) ++ o ≡ front ++ (part ++ (others ++ o))
part_text front part others o = simp append_assoc

pub no_other_parts : {limit : ℕ} → ReadsOtherParts limit (λ column t o. t ≡ []) (λ ts. ts ≡ [])
no_other_parts {limit} = record {
  behind = grind (arith, moved);
  reads = λ g column same m t o h fits behind starts start ts v. record {
    tokens = [];
    are = refl;
    begins = λ no. absurd no;
    arrived = subst (λ (us : List Kind). Arrived limit start g (moved m t) o us) (sym (append-nil ts))
        (subst (λ (x : List ℕ). Arrived limit start g m (x ++ o) ts → Arrived limit start g (moved m x) o ts) (sym h)
        (λ k. k) v);
  };
}

pub mapped_parts : {limit : ℕ} {start : State} {As Bs : List Kind → Type 0} {column : ℕ} {g : Frame} {m : Marker}
    {t o : List ℕ} {ts : List Kind} → ((us : List Kind) → As us → Bs us)
    → PartsRead limit start As column g m t o ts → PartsRead limit start Bs column g m t o ts
mapped_parts f r = record { tokens = r.tokens; are = f r.tokens r.are; begins = r.begins; arrived = r.arrived }

pub parts_so : {limit : ℕ} {Ps Qs : ℕ → List ℕ → List ℕ → Type 0} {As Bs : List Kind → Type 0}
    → ((column : ℕ) (t o : List ℕ) → Qs column t o → Ps column t o) → ((ts : List Kind) → As ts → Bs ts)
    → ReadsOtherParts limit Ps As → ReadsOtherParts limit Qs Bs
parts_so f g r = record {
  behind = λ column m t o h starts behind. r.behind column m t o (f column t o h) starts behind;
  reads = λ k column same m t o h fits behind starts start ts v.
      mapped_parts g (r.reads k column same m t o (f column t o h) fits behind starts start ts v);
}

others_behind : {limit : ℕ} {E : List Kind → List Kind → Type 0} {opens : Bool → List Kind}
    {Is : ℕ → List ℕ → List ℕ → Type 0} → IsPart limit E opens Is → (Others : ℕ → List ℕ → List ℕ → Type 0)
    (column : ℕ) (m : Marker) (t o : List ℕ)
    → AreOthers Is Others column t o → AtLine (t ++ o) m → EndsNodeAt (suc column) m (t ++ o)
others_behind is_part Others column m t o (front, part, others, front_is, h, k, e) starts =
    let z = others ++ o in
    let b = further_content part z (is_part.content column part z h) in
    let text : t ++ o ≡ front ++ (b.first ∷ b.others) = grind (arith, part_text) in
    let first = some_first front b.others b.first in
    let col = not_empty m t o first.0 first.1 starts (text ∙ first.2) in
    subst (EndsNodeAt (suc column) m) (sym text)
    (behind_indented column m front b.first b.others front_is b.content col)

list_end : (ts us vs opens : List Kind) → opens ≡ [] → ((ts ++ opens) ++ us) ++ vs ≡ ts ++ (us ++ vs)
list_end ts us vs opens e = rw e (simp (append_assoc, append-nil))

-- A further part and those after it are read, if the part is of a kind that is and those after it are. Its indentation
-- is passed, so it begins at the collection's column, where no document marker is. What comes after it ends it, be that
-- a further part or what follows the collection.
pub more_parts : {limit : ℕ} {E : List Kind → List Kind → Type 0} {opens : Bool → List Kind}
    {Is Others : ℕ → List ℕ → List ℕ → Type 0} {As : List Kind → Type 0} → IsPart limit E opens Is
    → ReadsOtherParts limit Others As → ReadsOtherParts limit (AreOthers Is Others) (AreParts E As)
more_parts {limit} {opens = opens} {Is} {Others} {As} is_part more = record {
  behind = λ column m t o h starts behind. others_behind is_part Others column m t o h starts;
  reads = λ g column same m t o (front, part, others, front_is, h, k, e) fits behind starts start ts v.
      let z = others ++ o in
      let n = moved m front in
      let b = is_part.content column part z h in
      let bz = further_content part z b in
      let text : t ++ o ≡ front ++ (part ++ z) = ap (λ (x : List ℕ). x ++ o) e ∙ part_text front part others o in
      let past_blanks : t ++ o ≡ front ++ (bz.first ∷ bz.others) = text ∙ ap (λ (x : List ℕ). front ++ x) bz.is in
      let first = some_first front bz.others bz.first in
      let line = not_empty m t o first.0 first.1 starts (past_blanks ∙ first.2) in
      let col : n.col ≡ column = indentation_col m column front front_is line in
      let there : past 0 m (t ++ o) ≡ (n, part ++ z) = cc (reaches m front bz.first bz.others
      (indentation_skipped column front front_is) bz.content) in
      let at_part = subst (ArrivedAt limit start g ts) there v in
      let is_it = subst (λ (c : ℕ). Is c part z) (sym col) h in
      let whole = fits_so m t (front ++ (part ++ others)) o e fits in
      let fits_parts = fits_back m front (part ++ others) o whole in
      let fits_part = fits_front n part others o fits_parts in
      let last = moved n part in
      let end = ap (moved m) e ∙ moved_append m front (part ++ others) ∙ moved_append n part others in
      let behind_o = subst (λ (x : Marker). EndsNodeAt (suc column) x o) end behind in
      let starts_z = starts_behind n part z (is_part.ends n.col part z is_it) in
      let behind_z = more.behind column last others o k starts_z behind_o in
      let clear = clear_here n b.first b.others z (subst (λ (x : List ℕ). IsClear n x z) b.is fits_part.clear) in
      let unmarked : EndsDocument n (part ++ z) → ⊥ = grind (arith, not_marker) in
      let ready = goes_on unmarked at_part in
      let width = same ∙ ap (λ (c : ℕ). c + 1) (sym col) in
      let r = is_part.reads g n false (next_not_within g.indent n.col width)
      (least g.indent n.col width) part z is_it fits_part
      (subst (λ (c : ℕ). EndsNodeAt (suc c) last z) (sym col) behind_z) start ts ready in
      let s = more.reads g column same last others o k (fits_back n part others o fits_parts) behind_o starts_z start
      ((ts ++ opens false) ++ r.tokens) r.arrived in
      record {
        tokens = r.tokens ++ s.tokens;
        are = (
          r.tokens,
          s.tokens,
          r.are s.tokens
              (λ first. ahead_of_line last z n.col starts_z
              (subst (λ (c : ℕ). is_value_ahead false c last.col z ≡ true) (sym col) (s.begins first))),
          s.are,
          refl,
        );
        begins = λ first. ap (is_value_ahead false column m.col) text
            ∙ skipped_ahead column m front (part ++ z) (indentation_skipped column front front_is)
            ∙ subst (λ (c : ℕ). is_value_ahead false c n.col (part ++ z) ≡ true) col (r.begins s.tokens first);
        arrived = arrived_so o end (list_end ts r.tokens s.tokens (opens false) is_part.none) s.arrived;
      };
}

-- From the first part on, which may begin the collection. It is read as a further part is (`more_parts`), but its place
-- is given, and no indentation is before it.
pub reads_parts : {limit : ℕ} {E : List Kind → List Kind → Type 0} {opens : Bool → List Kind}
    {Is Others : ℕ → List ℕ → List ℕ → Type 0} {As : List Kind → Type 0} → IsPart limit E opens Is
    → ReadsOtherParts limit Others As → (f : Frame) (n : Marker) (further : Bool) → nat_le f.indent n.col ≡ further
    → f.indent ≤ n.col + 1 → (t o : List ℕ) → IsFirst Is Others n.col t o → FitsOnLines limit n t o
    → EndsNodeAt (suc n.col) (moved n t) o → (start : State) (ts : List Kind) → FreeAt limit start f n (t ++ o) ts
    → PartsRead limit start (AreParts E As) n.col (frame_behind further n.col f) n t o (ts ++ opens further)
reads_parts {limit} {opens = opens} is_part more f n further e far t o (part, others, h, k, is) fits behind start ts
    v =
    let z = others ++ o in
    let g = frame_behind further n.col f in
    let text : t ++ o ≡ part ++ z = ap (λ (x : List ℕ). x ++ o) is ∙ append_assoc part others o in
    let whole = fits_so n t (part ++ others) o is fits in
    let last = moved n part in
    let end = ap (moved n) is ∙ moved_append n part others in
    let behind_o = subst (λ (x : Marker). EndsNodeAt (suc n.col) x o) end behind in
    let starts_z = starts_behind n part z (is_part.ends n.col part z h) in
    let behind_z = more.behind n.col last others o k starts_z behind_o in
    let r = is_part.reads f n further e far part z h (fits_front n part others o whole) behind_z start ts
    (subst (λ (y : List ℕ). FreeAt limit start f n y ts) text v) in
    let s = more.reads g n.col (frame_indent further f n.col e far) last others o k (fits_back n part others o whole)
    behind_o starts_z start ((ts ++ opens further) ++ r.tokens) r.arrived in
    record {
      tokens = r.tokens ++ s.tokens;
      are = (
        r.tokens,
        s.tokens,
        r.are s.tokens (λ first. ahead_of_line last z n.col starts_z (s.begins first)),
        s.are,
        refl,
      );
      begins = λ first. ap (is_value_ahead false n.col n.col) text ∙ r.begins s.tokens first;
      arrived = arrived_so o end (append_assoc (ts ++ opens further) r.tokens s.tokens) s.arrived;
    }
