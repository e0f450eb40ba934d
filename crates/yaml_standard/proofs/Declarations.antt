-- Directives that go together.
use Rattle.std.proofs.Common.{◌≡◌, ℕ, Bool, true, false, true≢false, ◌||◌, List, [], ◌∷◌, ◌++◌, refl, sym, ap, ◌∙◌, subst, append_assoc}
use Rattle.std.proofs.lemmas.List.{append-nil}
use denote.Ref.{Bor}
use Rattle.std.specs.Prelude.{IsTrue, IsFalse, not}
use Rattle.std.specs.BTreeMap.{is_at}
use Rattle.std.specs.BTreeSet.{insert_key}
use Rattle.std.specs.List.{list_any}
use Rattle.std.specs.Cmp.Lexicographic.{slice_cmp}
use Rattle.std.specs.Ordering.{nat_cmp, match_ordering}
use Rattle.std.specs.declared.cmp.Ordering.{Ordering}
use Rattle.std.specs.declared.cmp.Ordering.TheVariants.{Less, Equal, Greater}
use Rattle.std.proofs.lemmas.Map.Lookups.{exact_bytes}
use Rattle.std.proofs.lemmas.Map.Text.{is_eq-slice_cmp}
use Rattle.std.proofs.lemmas.Slice.Eq.{bytes_eq-Decides}
use Rattle.saphyr_scanner.specs.Grammar.Forest.{Directive, Version, TagPrefix, Reserved, handle_bytes, GoesWith, GoesWithAll, AreCompatible}
use Rattle.scalar_laws.specs.Spelling.Spaces.{IsFiller}
use Rattle.yaml_laws.specs.Grammar.Yaml.{IsDirective, AreDirectives}
use Rattle.yaml_standard.specs.declared.declared.Declared.{Declared}
use Rattle.yaml_standard.specs.declared.directive.DirectiveKind.{DirectiveKind}
use Rattle.yaml_standard.specs.declared.directive.DirectiveKind.TheVariants as kinds
use Rattle.yaml_standard.specs.Declarations.{IsDeclared, AreDeclared, AreDeclaredDirectives, Declares}
use Rattle.yaml_standard.specs.Directives.{IsOfKind, IsLineOf, AreSomeDirectives}
use Rattle.yaml_standard.specs.Takes.{TakesOff}
use Rattle.yaml_standard.proofs.Pieces.{nothing_taken, taken_so, then}

-- ## Directives, one after the other

compatible_more : (kind : DirectiveKind) (old new : Declared) (ds : List Directive) (e : Directive)
    → Declares kind old new → IsOfKind kind e → AreDeclared old ds → AreCompatible ds → AreCompatible (ds ++ e ∷ [])
compatible_more kind old new [] e step is h k = (tt, tt)
compatible_more kind old new (d ∷ ds) e step is h k =
    (goes_more ds k.0, compatible_more kind old new ds e step is h.1 k.1)
  where
    goes_more : (others : List Directive) → GoesWithAll d others → GoesWithAll d (others ++ e ∷ [])
    goes_more [] g = (step.goes d e h.0 is, tt)
    goes_more (x ∷ xs) g = (g.0, goes_more xs g.1)

declared_more : (kind : DirectiveKind) (old new : Declared) (ds : List Directive) (e : Directive)
    → Declares kind old new → IsOfKind kind e → AreDeclared old ds → AreDeclared new (ds ++ e ∷ [])
declared_more kind old new [] e step is h = (step.adds e is, tt)
declared_more kind old new (d ∷ ds) e step is h = (step.keeps d h.0, declared_more kind old new ds e step is h.1)

directives_more : (ds : List Directive) (e : Directive) (p x filler : List ℕ) → AreDirectives ds p → IsDirective e x
    → IsFiller filler → AreDirectives (ds ++ e ∷ []) (p ++ (x ++ 10 ∷ filler))
directives_more [] e p x filler h is f = (
  x,
  filler,
  [],
  is,
  f,
  refl,
  ap (λ y. y ++ (x ++ 10 ∷ filler)) h
      ∙ ap (λ y. x ++ 10 ∷ y) (sym (append-nil filler)),
)
directives_more (d ∷ ds) e p x filler h is f =
    let q = x ++ 10 ∷ filler in (
      h.0,
      h.1,
      h.2 ++ q,
      h.3,
      h.4,
      directives_more ds e h.2 x filler h.5 is f,
      ap (λ y. y ++ q) h.6 ∙ append_assoc h.0 (10 ∷ (h.1 ++ h.2)) q
          ∙ ap (λ y. h.0 ++ 10 ∷ y) (append_assoc h.1 h.2 q),
    )

pub no_directives : (declared : Declared) (a : List ℕ) → TakesOff (AreDeclaredDirectives declared) a a
no_directives declared a = nothing_taken (AreDeclaredDirectives declared) a ([], tt, tt, refl)

pub one_more_directive : (kind : DirectiveKind) (old new : Declared) (a b c : List ℕ) → Declares kind old new
    → TakesOff (AreDeclaredDirectives old) a b → TakesOff (IsLineOf kind) b c
    → TakesOff (AreDeclaredDirectives new) a c
one_more_directive kind old new a b c step s t =
    then {P = AreDeclaredDirectives old} {Q = IsLineOf kind}
    (λ p q h k. let d = k.2 in (
      h.0 ++ d.0 ∷ [],
      declared_more kind old new h.0 d.0 step d.1 h.1,
      compatible_more kind old new h.0 d.0 step d.1 h.1 h.2,
      rw k.4 (directives_more h.0 d.0 p k.0 k.1 h.3 d.2 k.3),
    )) s t

pub directives_taken : (declared : Declared) (a b : List ℕ) → TakesOff (AreDeclaredDirectives declared) a b
    → TakesOff AreSomeDirectives a b
directives_taken declared a b t =
    taken_so {P = AreDeclaredDirectives declared} (λ p h. (h.0, h.2, h.3)) t

-- ## What is declared

pub false_of_not : (b : Bool) → IsTrue (not b) → IsFalse b
false_of_not true h = absurd (cc)
false_of_not false h = refl

pub version_declared : (old new : Declared) → IsFalse old.has_version → IsTrue new.has_version
    → new.handles ≡ old.handles → Declares kinds.Version old new
version_declared old new none now same = record {
  goes = goes;
  keeps = keeps;
  adds = adds;
}
  where
    goes : (d e : Directive) → IsDeclared old d → IsOfKind kinds.Version e → GoesWith d e
    goes (Version a b) e h is = absurd (true≢false (sym h ∙ none))
    goes (TagPrefix a b) (Version c d) h is = tt
    goes (TagPrefix a b) (TagPrefix c d) h is = absurd is
    goes (TagPrefix a b) (Reserved c) h is = absurd is
    goes (Reserved a) e h is = tt

    keeps : (d : Directive) → IsDeclared old d → IsDeclared new d
    keeps (Version a b) h = now
    keeps (TagPrefix a b) h = rw same h
    keeps (Reserved a) h = tt

    adds : (e : Directive) → IsOfKind kinds.Version e → IsDeclared new e
    adds (Version a b) is = now
    adds (TagPrefix a b) is = absurd is
    adds (Reserved a) is = absurd is

-- whether a handle of these bytes is there
abbrev has : List ℕ → List (Bor (List ℕ)) → Bool
has bytes keys = list_any (is_at (λ (k : Bor (List ℕ)). slice_cmp nat_cmp bytes k.now)) keys

twice : (a b : Bool) → a || b ≡ a || (a || b)
twice true b = refl
twice false b = refl

swapped : (a b c : Bool) → a || (b || c) ≡ b || (a || c)
swapped true true c = refl
swapped true false c = refl
swapped false b c = refl

has_inserted : (bytes : List ℕ) (key : Bor (List ℕ)) (keys : List (Bor (List ℕ)))
    → has bytes (insert_key (λ x y. slice_cmp nat_cmp x.now y.now) keys key)
    ≡ is_at (slice_cmp nat_cmp bytes) key.now || has bytes keys
has_inserted bytes key [] = refl
has_inserted bytes key (x ∷ keys) = by (slice_cmp nat_cmp key.now x.now) refl (has_inserted bytes key keys)
  where
    here : List ℕ → Bool
    here ys = is_at (slice_cmp nat_cmp bytes) ys

    more : List (Bor (List ℕ))
    more = insert_key (λ x y. slice_cmp nat_cmp x.now y.now) keys key

    by : (o : Ordering) → slice_cmp nat_cmp key.now x.now ≡ o → has bytes more ≡ here key.now || has bytes keys
        → has bytes (match_ordering o (key ∷ x ∷ keys) (x ∷ keys) (x ∷ more)) ≡ here key.now || has bytes (x ∷ keys)
    by Less e h = refl
    by Equal e h =
        twice (here x.now) (has bytes keys)
        ∙ ap (λ ys. here ys || (here x.now || has bytes keys)) (sym (exact_bytes key.now x.now e))
    by Greater e h =
        ap (λ b. here x.now || b) h ∙ swapped (here x.now) (here key.now) (has bytes keys)

is_itself : (bytes : List ℕ) → IsTrue (is_at (slice_cmp nat_cmp bytes) bytes)
is_itself bytes = is_eq-slice_cmp bytes bytes ∙ (bytes_eq-Decides bytes bytes).1 refl

or_left : (a b : Bool) → IsTrue a → IsTrue (a || b)
or_left true b h = refl
or_left false b h = absurd (cc)

or_right : (a b : Bool) → IsTrue b → IsTrue (a || b)
or_right true b h = refl
or_right false b h = h

pub tag_prefix_declared : (key : Bor (List ℕ)) (old new : Declared) → IsFalse (has key.now old.handles.keys)
    → new.handles.keys ≡ insert_key (λ x y. slice_cmp nat_cmp x.now y.now) old.handles.keys key
    → new.has_version ≡ old.has_version → Declares (kinds.TagPrefix key) old new
tag_prefix_declared key old new none more same = record {
  goes = goes;
  keeps = keeps;
  adds = adds;
}
  where
    has_now : (bytes : List ℕ)
        → has bytes new.handles.keys ≡ is_at (slice_cmp nat_cmp bytes) key.now || has bytes old.handles.keys
    has_now bytes = ap (has bytes) more ∙ has_inserted bytes key old.handles.keys

    goes : (d e : Directive) → IsDeclared old d → IsOfKind (kinds.TagPrefix key) e → GoesWith d e
    goes (Version a b) (TagPrefix c d) h is = tt
    goes (Version a b) (Version c d) h is = absurd is
    goes (Version a b) (Reserved c) h is = absurd is
    goes (TagPrefix a b) (Version c d) h is = absurd is
    goes (TagPrefix a b) (Reserved c) h is = absurd is
    goes (TagPrefix a b) (TagPrefix c d) h is =
        λ e. true≢false (sym h ∙ ap (λ bytes. has bytes old.handles.keys) (e ∙ is) ∙ none)
    goes (Reserved a) e h is = tt

    keeps : (d : Directive) → IsDeclared old d → IsDeclared new d
    keeps (Version a b) h = same ∙ h
    keeps (TagPrefix a b) h = has_now (handle_bytes a) ∙ or_right _ _ h
    keeps (Reserved a) h = tt

    adds : (e : Directive) → IsOfKind (kinds.TagPrefix key) e → IsDeclared new e
    adds (Version a b) is = absurd is
    adds (Reserved a) is = absurd is
    adds (TagPrefix a b) is =
        has_now (handle_bytes a)
        ∙ or_left _ _ (subst (λ bytes. IsTrue (is_at (slice_cmp nat_cmp bytes) key.now)) (sym is) (is_itself key.now))

pub reserved_declared : (declared : Declared) → Declares kinds.Reserved declared declared
reserved_declared declared = record {
  goes = goes;
  keeps = λ d h. h;
  adds = adds;
}
  where
    goes : (d e : Directive) → IsDeclared declared d → IsOfKind kinds.Reserved e → GoesWith d e
    goes (Version a b) (Reserved c) h is = tt
    goes (Version a b) (Version c d) h is = absurd is
    goes (Version a b) (TagPrefix c d) h is = absurd is
    goes (TagPrefix a b) (Reserved c) h is = tt
    goes (TagPrefix a b) (Version c d) h is = absurd is
    goes (TagPrefix a b) (TagPrefix c d) h is = absurd is
    goes (Reserved a) e h is = tt

    adds : (e : Directive) → IsOfKind kinds.Reserved e → IsDeclared declared e
    adds (Version a b) is = absurd is
    adds (TagPrefix a b) is = absurd is
    adds (Reserved a) is = tt
