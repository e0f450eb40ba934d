-- Directives that go together are passed, and the tokens before and after documents.
use Rattle.event_laws.proofs.Common.{◌≡◌, ◌↔◌, Bool, true, false, List, [], ◌∷◌, ◌++◌, map, encode_utf8_all, Result, Ok, Err, refl, ap, inl, inr, if◌then◌else◌, Marker, Refusal, handle_bytes, Directive, Version, TagPrefix, Reserved, GoesWith, GoesWithAll, AreCompatible, Kind, DocumentStart, directive_token, AreMarks, AreEndsAndMarks, State, Machine, with_meaning, is_listed, with_name}
use Rattle.saphyr_scalar.specs.declared.scalar.fault.FaultText.TheVariants as fault
use Rattle.saphyr_machine.specs.Steps.Documents.{is_mark, is_end_or_mark, unpassed_token_from, unpassed_token, Declared, none_declared, directives_from, directives}
use Rattle.event_laws.proofs.Emitted.Emitting.{SpansByKinds, Memory, Outer, dressed, at}
use Rattle.event_laws.proofs.Remembering.{declaring}
use Rattle.event_laws.proofs.NameLaws.{still_unlisted, was_unlisted}

-- ## Tokens that are passed

abbrev AllPass : (Kind → Bool) → List Kind → Type 0
AllPass passed [] = Unit {0}
AllPass passed (k ∷ ks) = (passed k ≡ true) × AllPass passed ks

passes_from : (passed : Kind → Bool) (front : List Kind) (f : SpansByKinds) (k : Kind) (ks : List Kind) (x : State)
    (ss : Outer) (e : Memory) → AllPass passed front → passed k ≡ false
    → unpassed_token_from passed (dressed f (front ++ k ∷ ks)) (at f (front ++ k ∷ ks) x ss e)
    ≡ Ok (record { span = f ks; kind = k }, at f ks x ss e)
passes_from passed [] f k ks x ss e h n = cc
passes_from passed (j ∷ js) f k ks x ss e h n = cc (passes_from passed js f k ks x ss e h.1 n)

pub passes : (passed : Kind → Bool) (front : List Kind) (f : SpansByKinds) (k : Kind) (ks : List Kind) (x : State)
    (ss : Outer) (e : Memory) → AllPass passed front → passed k ≡ false
    → unpassed_token passed (at f (front ++ k ∷ ks) x ss e) ≡ Ok (record { span = f ks; kind = k }, at f ks x ss e)
unfolding unpassed_token
passes passed front f k ks x ss e h n = passes_from passed front f k ks x ss e h n

pub ends_pass : (front : List Kind) → AreEndsAndMarks front → AllPass is_end_or_mark front
ends_pass [] h = tt
ends_pass (k ∷ ks) (inl e, h) = (ap is_end_or_mark e, ends_pass ks h)
ends_pass (k ∷ ks) (inr e, h) = (ap is_end_or_mark e, ends_pass ks h)

pub marks_pass : (front : List Kind) → AreMarks front → AllPass is_mark front
marks_pass [] h = tt
marks_pass (k ∷ ks) h = (ap is_mark h.0, marks_pass ks h.1)

-- ## Directives

-- a directive that may still be declared
abbrev pub IsFree : Declared → Directive → Type 0
IsFree d (Version _ _) = d.version ≡ false
IsFree d (TagPrefix handle _) = is_listed (handle_bytes handle) d.handles ≡ false
IsFree d (Reserved _) = Unit {0}

abbrev pub AreFree : Declared → List Directive → Type 0
AreFree d [] = Unit {0}
AreFree d (x ∷ xs) = IsFree d x × AreFree d xs

abbrev pub declared_by : Directive → Declared → Declared
declared_by (Version _ _) d = record { version = true; handles = d.handles }
declared_by (TagPrefix handle _) d = record { version = d.version; handles = with_name (handle_bytes handle) d.handles }
declared_by (Reserved _) d = d

-- another may be declared after a directive where it might before, and both go together
free_behind : (x y : Directive) (d : Declared) → IsFree (declared_by x d) y ↔ (GoesWith x y × IsFree d y)
free_behind (Version _ _) (Version _ _) d = (λ h. absurd (cc), λ h. absurd h.0)
free_behind (TagPrefix a _) (TagPrefix b _) d = (
  was_unlisted (handle_bytes b) (handle_bytes a) d.handles,
  λ h. still_unlisted (handle_bytes b) (handle_bytes a) d.handles h.0 h.1,
)
free_behind _ y d = (λ h. (tt, h), λ h. h.1)

pub all_free_behind : (x : Directive) (ys : List Directive) (d : Declared)
    → AreFree (declared_by x d) ys ↔ (GoesWithAll x ys × AreFree d ys)
all_free_behind x [] d = (λ h. (tt, tt), λ h. tt)
all_free_behind x (y ∷ ys) d =
    let one = free_behind x y d in
    let others = all_free_behind x ys d in (
      λ h. (let a = one.0 h.0 in let b = others.0 h.1 in ((a.0, b.0), (a.1, b.1))),
      λ h. (one.1 (h.0.0, h.1.0), others.1 (h.0.1, h.1.1)),
    )

all_free : (xs : List Directive) → AreFree none_declared xs
all_free [] = tt
all_free (Version _ _ ∷ xs) = (refl, all_free xs)
all_free (TagPrefix _ _ ∷ xs) = (refl, all_free xs)
all_free (Reserved _ ∷ xs) = (tt, all_free xs)

abbrev pub declaring_in : List Directive → Memory → Memory
declaring_in ds e = record { anchors = e.anchors; prefixes = declaring ds e.prefixes; keep = e.keep }

version_passes : (b : Bool) (d : Declared) (place : Marker) → b ≡ false → (let r : Result Declared Refusal =
    if b then Err (record { text = fault.DuplicateVersionDirective; mark = place; may_change = false }) else Ok
    (record { version = true; handles = d.handles }) in r) ≡ Ok (record { version = true; handles = d.handles })
version_passes b d place h = cc

pub directives_pass : (ds : List Directive) (d : Declared) (f : SpansByKinds) (ks : List Kind) (x : State)
    (ss : Outer) (e : Memory) → AreCompatible ds → AreFree d ds
    → directives_from (dressed f (map directive_token ds ++ DocumentStart ∷ ks)) d
    (at f (map directive_token ds ++ DocumentStart ∷ ks) x ss e)
    ≡ Ok (record { span = f ks; kind = DocumentStart }, at f ks x ss (declaring_in ds e))
directives_pass [] d f ks x ss e c h = refl
directives_pass (Version major minor ∷ ds) d f ks x ss e c h =
    let rest : List Kind = map directive_token ds ++ DocumentStart ∷ ks in
    cc (
      version_passes d.version d (f rest).start h.0,
      directives_pass ds (declared_by (Version major minor) d) f ks x ss e c.1
          ((all_free_behind (Version major minor) ds d).1 (c.0, h.1)),
    )
directives_pass (TagPrefix handle prefix ∷ ds) d f ks x ss e c h =
    let rest : List Kind = map directive_token ds ++ DocumentStart ∷ ks in
    let e' : Memory = record {
      anchors = e.anchors;
      prefixes = with_meaning (handle_bytes handle) (encode_utf8_all prefix) e.prefixes;
      keep = e.keep;
    } in
    let passed : Result (Declared × Machine) Refusal =
    Ok (declared_by (TagPrefix handle prefix) d, at f rest x ss e') in
    cc (directives_pass ds (declared_by (TagPrefix handle prefix) d) f ks x ss e' c.1
    ((all_free_behind (TagPrefix handle prefix) ds d).1 (c.0, h.1)))
directives_pass (Reserved name ∷ ds) d f ks x ss e c h = directives_pass ds d f ks x ss e c.1 h.1

pub all_directives_pass : (ds : List Directive) (f : SpansByKinds) (ks : List Kind) (x : State) (ss : Outer)
    (e : Memory)
    → AreCompatible ds → directives none_declared (at f (map directive_token ds ++ DocumentStart ∷ ks) x ss e)
    ≡ Ok (record { span = f ks; kind = DocumentStart }, at f ks x ss (declaring_in ds e))
unfolding directives
all_directives_pass ds f ks x ss e c = directives_pass ds none_declared f ks x ss e c (all_free ds)
