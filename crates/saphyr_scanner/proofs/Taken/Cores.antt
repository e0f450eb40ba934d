-- What is held stays so where the core of a scanner changes, and where a token comes.
use Rattle.saphyr_scanner.proofs.Common.{◌≡◌, ℕ, ◌+◌, ◌<◌, ◌⊎◌, Bool, true, false, List, [], ◌∷◌, length, None, refl, sym, ap, ◌∙◌, arith, inl, inr, length-append, ◌==◌, ◌&&◌, slice_index, not, nat_lt, Cursor, pass, cut_at, Piece}
use Rattle.saphyr_scanner.specs.Steps.Queue.{Queue, is_empty_list, bare_place, with_piece, next}
use Rattle.saphyr_scanner.specs.Steps.Core.{Core, in_block, forget_key}
use Rattle.saphyr_scanner.specs.Steps.Level.{Level, is_block}
use Rattle.saphyr_scanner.specs.TokensTaken as taken
use Rattle.saphyr_scanner.specs.TokensTaken.{Collections, Surroundings, AreApart, IsToken, TakesCharacter, open_behind}
use Rattle.saphyr_scanner.specs.TokensInPlace.{Enclosures, enclosures_behind, is_of_flow_node}
use Rattle.saphyr_scanner.proofs.Taken.KeysInPlace.{calm}
use Rattle.saphyr_scanner.proofs.Taken.Parts.{is_quiet}
use Rattle.saphyr_scanner.proofs.Taken.Held.{enclosures_of, Setting, TakenWithin, taken_further, Opens, FitsWithin, PutsIndented, taken_put, Adjoins, AllowsKey, IsParted}
use Rattle.saphyr_scanner.proofs.Taken.Bare.{BeginsOther, entry_other}
use Rattle.saphyr_scanner.proofs.Taken.Indented.{IsRight, root_key, own_root, KeepsRequired, no_node_fits, indented_put, indented_alone}
use Rattle.saphyr_scanner.proofs.Taken.Neutral.{KeepsBrackets}
use Rattle.saphyr_scanner.proofs.Taken.Keys.{Keys, keys_weaken, KeepsDepth, keeps_depth, keys_put}
use Rattle.saphyr_scanner.proofs.Taken.OpenedKeys.{below_key}

pub record HoldsWithin (within : Enclosures) (opened : Setting) (from : Cursor) (c : Core) (q : Queue) : Type 0 where
  pub taken : TakenWithin within opened from c q
  pub keys : Keys opened.enclosures (next q) q c.indent (c.level ∷ c.outer)

abbrev pub HoldsTaken : Setting → Cursor → Core → Queue → Type 0
HoldsTaken opened from c q = HoldsWithin (enclosures_of c) opened from c q

-- a truth value, by its cases
pub by_bool : (b : Bool) (P : Bool → Type 0) → (b ≡ true → P true) → (b ≡ false → P false) → P b
by_bool true P x y = x refl
by_bool false P x y = y refl

-- ## Changes of the core

-- the same block collections and levels
pub record Alike (c d : Core) : Type 0 where
  pub level : d.level ≡ c.level
  pub outer : d.outer ≡ c.outer
  pub indent : d.indent ≡ c.indent
  pub outer_indents : d.outer_indents ≡ c.outer_indents
  pub adjacent : d.adjacent ≡ c.adjacent
  pub required : d.required ≡ c.required

-- the same encloses them
pub same_enclosures : (c d : Core) → d.level.context ≡ c.level.context → d.outer ≡ c.outer → d.indent ≡ c.indent
    → d.outer_indents ≡ c.outer_indents → enclosures_of d ≡ enclosures_of c
same_enclosures c d l o i s = cc

pub alike_enclosures : (c d : Core) → Alike c d → enclosures_of d ≡ enclosures_of c
alike_enclosures c d a = same_enclosures c d (ap (λ (l : Level). l.context) a.level) a.outer a.indent a.outer_indents

pub keys_of : (all : Enclosures) (b : ℕ) (q : Queue) (i j : ℕ) (l m : Level) (ls ms : List Level) → j ≡ i → m ≡ l
    → ms ≡ ls → Keys all b q i (l ∷ ls) → Keys all b q j (m ∷ ms)
keys_of all b q i j l m ls ms e f g h = grind arith

-- the key of the level may be forgotten
pub record Lesser (l m : Level) : Type 0 where
  pub block : is_block m.context ≡ is_block l.context
  pub key : (m.key ≡ l.key) ⊎ (m.key ≡ None)

pub keys_lesser : (all : Enclosures) (b : ℕ) (q : Queue) (i : ℕ) (l m : Level) (ls : List Level) → Lesser l m
    → Keys all b q i (l ∷ ls) → Keys all b q i (m ∷ ls)
keys_lesser all b q i l m ls e h = grind (arith, keys_weaken, below_key)

-- outside flow nothing encloses the level
none_outer : (ls : List Level) → is_empty_list ls ≡ true → ls ≡ []
none_outer ls e = grind arith

pub outermost_level : (all : Enclosures) (b : ℕ) (q : Queue) (i : ℕ) (l : Level) (ls : List Level)
    → Keys all b q i (l ∷ ls) → is_block l.context ≡ true → ls ≡ []
outermost_level all b q i l ls h e = none_outer ls (sym h.0 ∙ e)

pub outermost : (within : Enclosures) (opened : Setting) (from : Cursor) (c : Core) (q : Queue)
    → HoldsWithin within opened from c q → in_block c ≡ true → c.outer ≡ []
outermost within opened from c q h e = outermost_level opened.enclosures (next q) q c.indent c.level c.outer h.keys e

-- a key that has to be one is not forgotten
pub record Requires (c d : Core) : Type 0 where
  pub required : d.required ≡ c.required
  pub key : in_block c ≡ true → c.required ≡ true → d.level.key ≡ c.level.key

-- outside flow the candidate is that of the level
pub own_key : (c : Core) → c.outer ≡ [] → own_root c ≡ c.level.key
own_key c e = ap (λ ls. root_key (c.level ∷ ls)) e

pub requires_kept : (within : Enclosures) (opened : Setting) (from : Cursor) (c d : Core) (q : Queue)
    → Lesser c.level d.level → d.outer ≡ c.outer → Requires c d → HoldsWithin within opened from c q
    → KeepsRequired c d
requires_kept within opened from c d q l o r h = grind arith

pub forget_requires : (c : Core) → (in_block c && c.required) ≡ false → Requires c (forget_key c)
forget_requires c e = grind arith

pub holds_lesser : (within : Enclosures) (opened : Setting) (from : Cursor) (c d : Core) (q : Queue)
    → Lesser c.level d.level → d.outer ≡ c.outer → d.indent ≡ c.indent → d.outer_indents ≡ c.outer_indents
    → d.adjacent ≡ c.adjacent → AreApart c.cursor d.cursor → AllowsKey c d → Requires c d
    → HoldsWithin within opened from c q → HoldsWithin within opened from d q
holds_lesser within opened from c d q l o i s e p allows r h = record {
  taken = taken_further within opened from c d q p i s (ap length o) e allows
      (requires_kept within opened from c d q l o r h) h.taken;
  keys = keys_of opened.enclosures (next q) q c.indent d.indent d.level d.level c.outer d.outer i refl o
      (keys_lesser opened.enclosures (next q) q c.indent c.level d.level c.outer l h.keys);
}

pub holds_forgotten : (opened : Setting) (from : Cursor) (c : Core) (q : Queue) → (in_block c && c.required) ≡ false
    → BeginsOther c.cursor → HoldsTaken opened from c q → HoldsTaken opened from (forget_key c) q
holds_forgotten opened from c q e other h =
    holds_lesser (enclosures_of c) opened from c (forget_key c) q (record { block = refl; key = inr refl }) refl refl
    refl refl (taken.nothing _ _) ((λ a. inl a), (λ k. k), entry_other c (forget_key c) other) (forget_requires c e) h

-- inside flow a level encloses the innermost, as many as brackets are open
open_outside : (ls : List Level) → nat_lt 0 (length ls) ≡ not (is_empty_list ls)
open_outside ls = grind arith

pub open_in_flow : (within : Enclosures) (opened : Setting) (from : Cursor) (c : Core) (q : Queue)
    → HoldsWithin within opened from c q → nat_lt 0 (length c.outer) ≡ not (in_block c)
open_in_flow within opened from c q h = open_outside c.outer ∙ ap not (sym h.keys.0)

-- where no key is a candidate at all
pub no_keys : (all : Enclosures) (b : ℕ) (q : Queue) (i : ℕ) (l : Level) (ls : List Level) → l.key ≡ None → ls ≡ []
    → is_block l.context ≡ true → Keys all b q i (l ∷ ls)
no_keys all b q i l ls k o e = grind arith

-- ## A token comes

pub quiet_opens : (t : Piece) (c d : Core) → is_quiet t.kind ≡ true → d.indent ≡ c.indent
    → d.outer_indents ≡ c.outer_indents
    → ((opened : Collections) → opened.brackets ≡ length c.outer
    → (open_behind t.kind t.span opened).brackets ≡ length d.outer) → Opens t c d
quiet_opens t c d e i o n opened h = grind arith

pub next_put : (t : Piece) (q : Queue) → next (with_piece t q) ≡ next q + 1
next_put t q = let l = length-append q.places (bare_place t ∷ []) in omega (arith, l)

-- where the next token of a scanner is, and whether the text before ends like JSON
abbrev pub surroundings : Bool → Core → Surroundings
surroundings ends_json c = record { in_flow = not (in_block c); indent = c.indent; ends_json = ends_json }

-- inside flow it does at the place that is kept for a colon
abbrev pub IsJsonEndAt : Bool → Core → Type 0
IsJsonEndAt ends_json c = c.cursor.mark.index ≡ c.adjacent → in_block c ≡ false → ends_json ≡ true

abbrev pub IsTokenThere : Core → Piece → Cursor → Type 0
IsTokenThere c t behind = (b : Bool) → IsJsonEndAt b c → IsToken (surroundings b c) t.kind t.span c.cursor behind

-- a token is taken from the place of c, with separation after it up to u
abbrev pub TakesToken : Core → Piece → Cursor → Type 0
TakesToken c t u = (behind : Cursor) × IsTokenThere c t behind × AreApart behind u

pub some_outer : (ls : List Level) → is_empty_list ls ≡ false → 0 < length ls
some_outer ls e = grind arith

-- a token is put after the others
pub holds_put : {within : Enclosures} {opened : Setting} {from : Cursor} {q : Queue} (c d : Core) (t : Piece)
    → TakesToken c t d.cursor → Opens t c d → Adjoins t c d → FitsWithin within t → IsParted t c d → IsRight d
    → PutsIndented opened c d q t → HoldsWithin within opened from c q
    → TakenWithin (calm (enclosures_behind t.kind t.span within)) opened from d (with_piece t q)
holds_put {within} {opened} {from} {q} c d t (behind, is, b) o adjoins f parted right puts h =
    taken_put within opened from c d q t behind
    (λ e k. rw (open_in_flow within opened from c q h) (is e (λ i n. k.1 i (some_outer c.outer (sym h.keys.0 ∙ n))))) b
    o adjoins f parted right puts h.taken

-- outside flow no candidate is without one of the level
none_own : (within : Enclosures) (opened : Setting) (from : Cursor) (c : Core) (q : Queue)
    → HoldsWithin within opened from c q → c.level.key ≡ None → in_block c ≡ true → own_root c ≡ None
none_own within opened from c q h none b = own_key c (outermost within opened from c q h b) ∙ none

-- the same block collections and brackets are open, and as much may be a key
pub record Nearly (c d : Core) : Type 0 where
  pub block : in_block d ≡ in_block c
  pub key : d.level.key ≡ c.level.key
  pub outer : d.outer ≡ c.outer
  pub indent : d.indent ≡ c.indent
  pub outer_indents : d.outer_indents ≡ c.outer_indents
  pub adjacent : d.adjacent ≡ c.adjacent
  pub required : d.required ≡ c.required

same_root : (l m : Level) (ls ms : List Level) → m.key ≡ l.key → ms ≡ ls → root_key (m ∷ ms) ≡ root_key (l ∷ ls)
same_root l m ls ms k e = ap (λ x. root_key (m ∷ x)) e ∙ own ls
  where
    own : (xs : List Level) → root_key (m ∷ xs) ≡ root_key (l ∷ xs)
    own [] = k
    own (x ∷ xs) = refl

-- a token of no flow node, after which as much is open
pub record QuietToken (t : Piece) : Type 0 where
  pub quiet : is_quiet t.kind ≡ true
  pub brackets : KeepsBrackets t
  pub depth : KeepsDepth t
  pub no_node : is_of_flow_node t.kind t.span ≡ false

pub quiet_put : {within : Enclosures} {opened : Setting} {from : Cursor} {q : Queue} (c d : Core) (t : Piece)
    → QuietToken t → c.level.key ≡ None → TakesToken c t d.cursor → FitsWithin within t → IsParted t c d → IsRight d
    → Nearly c d → HoldsWithin within opened from c q
    → HoldsWithin (calm (enclosures_behind t.kind t.span within)) opened from d (with_piece t q)
quiet_put {within} {opened} {from} {q} c d t e none token fit parted right l h = record {
  taken = holds_put c d t token
      (quiet_opens t c d e.quiet l.indent l.outer_indents (λ x n. e.brackets x ∙ n ∙ sym (ap length l.outer)))
      (inl l.adjacent) fit parted right
      (λ line k. indented_put opened.enclosures c d q t (no_node_fits opened.enclosures q t e.no_node)
      (record {
        required = l.required;
        root = λ _. same_root c.level d.level c.outer d.outer l.key l.outer;
        block = l.block;
      }) (λ w e _ _. absurd (let b = sym l.block ∙ e in
      let own = none_own within opened from c q h none b in let is = w.is in cc)) line k) h;
  keys =
      let all = opened.enclosures in
      keys_of all (next (with_piece t q)) (with_piece t q) c.indent d.indent d.level d.level c.outer d.outer l.indent
      refl l.outer (keys_lesser all (next (with_piece t q)) (with_piece t q) c.indent c.level d.level c.outer
      (record { block = l.block; key = inl l.key })
      (keys_weaken all 0 (next q) (next (with_piece t q)) (with_piece t q) c.indent (c.level ∷ c.outer)
      (omega (arith, next_put t q)) (keys_put all 0 0 (next q) q c.indent (c.level ∷ c.outer) t e.quiet
      (keeps_depth t c.level c.outer (inl none) e.depth) h.keys)));
}

-- a token of no flow node, where none has to be a key, and after which none is a candidate
pub loud_put : {within : Enclosures} {opened : Setting} {from : Cursor} {q : Queue} (c d : Core) (t : Piece)
    → TakesToken c t d.cursor → Opens t c d → d.adjacent ≡ c.adjacent → FitsWithin within t → IsParted t c d
    → IsRight d → is_of_flow_node t.kind t.span ≡ false → in_block c ≡ true
    → (c.required ≡ true → c.level.key ≡ None) → (d.required ≡ true → c.required ≡ true)
    → d.level.key ≡ None → d.outer ≡ c.outer → in_block d ≡ true → HoldsWithin within opened from c q
    → HoldsWithin (calm (enclosures_behind t.kind t.span within)) opened from d (with_piece t q)
loud_put {within} {opened} {from} {q} c d t token o stays fit parted right other block none back k n f h = record {
  taken = holds_put c d t token o (inl stays) fit parted right
      (λ line w. indented_alone opened.enclosures c d q t (no_node_fits opened.enclosures q t other)
      (λ e. none_own within opened from c q h (none e) block) back w) h;
  keys = no_keys opened.enclosures (next (with_piece t q)) (with_piece t q) d.indent d.level d.outer k
      (n ∙ outermost within opened from c q h block) f;
}

-- ## What is passed

-- an indicator is passed
pub indicator_is_passed : (x : ℕ) (s : Cursor) → (x == 0) ≡ false → slice_index s.rest 0 ≡ x
    → TakesCharacter x s (pass 1 s)
indicator_is_passed x s z e = (cut_at x s.rest z e, refl)
