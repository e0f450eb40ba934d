-- The steps at the beginnings of the stream and of documents are turned.
use Rattle.event_laws.proofs.OwnTokens.{ArePassed, HasOwn, whole, passed_one, behind_own}
use Rattle.event_laws.proofs.Common.{BelongsToNone, ◌≡◌, ◌≤◌, Bool, true, false, List, [], ◌∷◌, ◌++◌, length, map, Some, Result, Ok, Err, refl, ap, ◌∙◌, ◌⊎◌, inl, inr, append_assoc, arith, if◌then◌else◌, Span, Refusal, Directive, AreCompatible, Document, Forest, Kind, directive_token, Piece, InBlock, State, anchors, Part, OpenStream, CloseStream, OpenDocument, document_parts, kinds, ◌>>=◌, Machine, Emitted, with_pieces, AreWellFormed}
use Rattle.saphyr_scanner.specs.Grammar.Tokens as tokens
use Rattle.saphyr_machine.specs.declared.state.State.TheVariants as state
use Rattle.saphyr_machine.specs.Events as events
use Rattle.saphyr_machine.specs.Steps.Documents.{is_end_or_mark, unpassed_token_from, unpassed_token, none_declared, directives, stream_start_at, stream_start, explicit_document_at, explicit_document, bare_document, implicit_start_at, implicit_start, explicit_start_at, explicit_start}
use Rattle.event_laws.proofs.Emitted.Emitting.{Memory}
use Rattle.event_laws.proofs.Remembering.{event_in}
use Rattle.event_laws.proofs.Turned.Following.{Claim, Then, IsNodeOf, IsOptionalOf, AreExplicit, Outside, BeginsFreely}
use Rattle.event_laws.proofs.Turned.Turning.{Aside, piece_of, machine, Goes, Turned, weaker, behind}
use Rattle.event_laws.proofs.Turned.Content.{split, taken_one}
use Rattle.event_laws.proofs.Turned.Entries.{Wanted}
use Rattle.event_laws.proofs.Turned.Directives.{PassesDirectives, PassedBy, directives_passed}

-- ## A step that may be the last

-- the end of the stream, after which no token comes
pub record Over (F : Claim) (e : Memory) (k : List Piece) (x : Emitted) : Type 0 where
  pub part : Part
  pub is_over : x.machine.state ≡ state.End
  pub emits : event_in e part ≡ Some x.what
  pub few : anchors (part ∷ []) ≤ length k
  pub places : HasOwn k x.what x.span []
  pub makes : F (kinds k) (part ∷ [])

abbrev pub MovesOn : Claim → Memory → List Piece → Result Emitted Refusal → Type 0
MovesOn F e k (Ok x) = Goes F e k x ⊎ Over F e k x
MovesOn F e k (Err f) = Unit {0}

pub moves : (F : Claim) (e : Memory) (k : List Piece) (r : Result Emitted Refusal) → Turned F e k r → MovesOn F e k r
moves u0 e k u1 h = grind arith

behind_moves : (t : Piece) (F G : Claim) (e : Memory) (k : List Piece) (r : Result Emitted Refusal)
    → BelongsToNone t.kind
    → ((ks : List Kind) (ps : List Part) → F ks ps → G (t.kind ∷ ks) ps) → MovesOn F e k r → MovesOn G e (t ∷ k) r
behind_moves t F G e k (Ok x) b i (inl h) = inl (behind t F G e k (Ok x) b i h)
behind_moves t F G e k (Ok x) b i (inr h) =
    inr (record {
      part = h.part;
      is_over = h.is_over;
      emits = h.emits;
      few = (let l = h.few in omega (arith, l));
      places = behind_own t k x.what x.span b h.places;
      makes = i _ _ h.makes;
    })
behind_moves t F G e k (Err f) b i h = tt

-- ## Tokens that are passed

passing : (p : Kind → Bool) (G : List Kind → Claim) (e : Memory) (ts : List Piece)
    (m : Machine) (go : Piece × Machine → Result Emitted Refusal) → AreWellFormed ts
    → ((k : Kind) → p k ≡ true → BelongsToNone k)
    → ((k : Kind) (ahead ks : List Kind) (ps : List Part) → p k ≡ true → G ahead ks ps → G (k ∷ ahead) (k ∷ ks) ps)
    → ((t : Piece) (us : List Piece) → AreWellFormed (t ∷ us)
    → MovesOn (G (kinds (t ∷ us))) e (t ∷ us) (go (t, with_pieces us m)))
    → MovesOn (G (kinds ts)) e ts (unpassed_token_from p ts m >>= go)
passing p G e [] m go w free join here = tt
passing p G e (t ∷ ts) m go w free join here =
    by (p t.kind) refl (passing p G e ts (with_pieces ts m) go w.2 free join here)
  where
    by : (b : Bool) → p t.kind ≡ b → MovesOn (G (kinds ts)) e ts (unpassed_token_from p ts (with_pieces ts m) >>= go)
        → MovesOn (G (kinds (t ∷ ts))) e (t ∷ ts)
        ((if b then unpassed_token_from p ts (with_pieces ts m) else Ok (t, with_pieces ts m)) >>= go)
    by true y h =
        behind_moves t (G (kinds ts)) (G (kinds (t ∷ ts))) e ts (unpassed_token_from p ts (with_pieces ts m) >>= go)
        (free t.kind y) (λ ks ps g. join t.kind (kinds ts) ks ps y g) h
    by false y h = here t ts w

end_or_mark : (k : Kind) → is_end_or_mark k ≡ true → (k ≡ tokens.DocumentEnd) ⊎ (k ≡ tokens.ByteOrderMark)
end_or_mark k h = grind arith

is_passed : (k : Kind) → is_end_or_mark k ≡ true → BelongsToNone k
is_passed k h = grind arith

directive_is_passed : (d : Directive) → BelongsToNone (directive_token d)
directive_is_passed u0 = grind arith

first_of_all : (a b : Kind) (x y : List Kind) → (a ∷ x) ≡ (b ∷ y) → (a ≡ b) × (x ≡ y)
first_of_all a b x y e = ((cc), (cc))

are_passed : (used : List Piece) (ds : List Directive) → kinds used ≡ map directive_token ds → ArePassed used
are_passed [] ds e = tt
are_passed (t ∷ used) [] e = absurd (cc)
are_passed (t ∷ used) (d ∷ ds) e =
    let both = first_of_all t.kind (directive_token d) (kinds used) (map directive_token ds) e in
    (rw both.0 (directive_is_passed d), are_passed used ds both.1)

-- ## Documents that begin with `---` or directives

abbrev Explicit : List Kind → Claim
Explicit ahead ks ps = (f : Forest) × AreExplicit f ks × (ps ≡ document_parts f)
    × (BeginsFreely ahead → BeginsFreely ks)

begins_as : (used rest : List Piece) (u : Piece) (ts : List Piece) (ks : List Kind) → ts ≡ used ++ u ∷ rest
    → BeginsFreely (kinds ts) → BeginsFreely (kinds (used ++ u ∷ []) ++ ks)
begins_as [] rest u ts ks e b = rw e at b
begins_as (v ∷ used) rest u ts ks e b = rw e at b

explicit_tokens : (ds : List Directive) (used : List Piece) (u : Piece) (front back ks : List Kind)
    → kinds used ≡ map directive_token ds → u.kind ≡ tokens.DocumentStart → ks ≡ front ++ back
    → kinds (used ++ u ∷ []) ++ ks ≡ (map directive_token ds ++ tokens.DocumentStart ∷ front) ++ back
explicit_tokens ds used u front back ks e k q = grind (arith, split, append_assoc)

explicit_makes : (ts : List Piece) (ds : List Directive) (used rest : List Piece) (u : Piece) (ks : List Kind)
    (ps : List Part) → ts ≡ used ++ u ∷ rest → kinds used ≡ map directive_token ds → u.kind ≡ tokens.DocumentStart
    → AreCompatible ds → Then (IsOptionalOf InBlock) (Outside state.DocumentEnd) ks ps
    → Explicit (kinds ts) (kinds (used ++ u ∷ []) ++ ks) (OpenDocument true ds ∷ ps)
explicit_makes ts ds used rest u ks ps e q k c h =
    let d : Document = record { explicit = true; directives = ds; node = h.begins.0 } in (
      d ∷ h.goes_on.0,
      (
        map directive_token ds ++ tokens.DocumentStart
            ∷ h.front,
        h.back,
        (h.front, refl, c, h.begins.1, refl),
        h.goes_on.1,
        explicit_tokens ds used u h.front h.back
            ks q k h.kinds_are,
      ),
      simp (h.parts_are, h.begins.2, h.goes_on.2),
      begins_as used rest u ts ks e,
    )

explicit_at_turned : (k : Kind) (sp : Span) (n : Machine) (ts : List Piece) (r : Aside) (x : State)
    (e : Memory) → PassesDirectives ts none_declared (machine ts r x [] e) (piece_of k sp) n
    → Turned (Explicit (kinds ts)) e ts (explicit_document_at k (piece_of k sp) n)
explicit_at_turned tokens.DocumentStart sp n ts r x e h = rw h.leaves (record {
  used = h.used ++ piece_of tokens.DocumentStart sp ∷ [];
  part = OpenDocument true h.directives;
  taken = h.are ∙ taken_one h.used (piece_of tokens.DocumentStart sp) h.rest;
  emits = refl;
  remembers = refl;
  few = omega arith;
  places = record {
    front = h.used;
    own = piece_of tokens.DocumentStart sp ∷ [];
    back = [];
    are = refl;
    passed = are_passed h.used h.directives h.kinds_are;
    passed_behind = tt;
    is_of = (record { span = sp; kind = tokens.DocumentStart }, refl, refl, refl);
  };
  alive = (tt, tt);
  makes = λ ks ps f b. explicit_makes ts h.directives h.used h.rest
      (piece_of tokens.DocumentStart sp) ks ps h.are h.kinds_are refl h.compatible f;
})
explicit_at_turned _ sp n ts r x e h = tt

explicit_behind : (res : Result (Piece × Machine) Refusal) (ts : List Piece) (r : Aside) (x : State)
    (e : Memory) → PassedBy ts none_declared (machine ts r x [] e) res
    → Turned (Explicit (kinds ts)) e ts (res >>= (λ u. explicit_document_at u.0.kind u.0 u.1))
explicit_behind (Err f) ts r x e h = tt
explicit_behind (Ok y) ts r x e h = explicit_at_turned y.0.kind y.0.span y.1 ts r x e h

explicit_turned : (t : Piece) (us : List Piece) (r : Aside) (x : State) (e : Memory) → AreWellFormed (t ∷ us)
    → Turned (Explicit (kinds (t ∷ us))) e (t ∷ us) (explicit_document t (machine us r x [] e))
unfolding explicit_document directives
explicit_turned t us r x e w =
    explicit_behind _ (t ∷ us) r x e (directives_passed (t ∷ us) none_declared (machine (t ∷ us) r x [] e) w)

-- ## The stream

stream_makes : (ks : List Kind) (ps : List Part) → Outside state.ImplicitDocumentStart ks ps
    → Outside state.StreamStart (tokens.StreamStart ∷ ks) (OpenStream ∷ ps)
stream_makes ks ps f = grind arith

stream_at_turned : (k : Kind) (sp : Span) (ts : List Piece) (r : Aside) (x : State) (e : Memory)
    → Turned (Wanted state.StreamStart [] (k ∷ kinds ts)) e (piece_of k sp ∷ ts)
    (stream_start_at k (piece_of k sp) (machine ts r x [] e))
stream_at_turned tokens.StreamStart sp ts r x e =
    record {
      used = piece_of tokens.StreamStart sp ∷ [];
      part = OpenStream;
      taken = refl;
      emits = refl;
      remembers = refl;
      few = omega arith;
      places = passed_one (piece_of tokens.StreamStart sp) _ _ tt refl;
      alive = tt;
      makes = λ ks ps f b. (stream_makes ks ps f, tt);
    }
stream_at_turned _ sp ts r x e = tt

pub stream_turned : (ts : List Piece) (r : Aside) (x : State) (e : Memory)
    → Turned (Wanted state.StreamStart [] (kinds ts)) e ts (stream_start (machine ts r x [] e))
unfolding stream_start
stream_turned [] r x e = tt
stream_turned (t ∷ ts) r x e = stream_at_turned t.kind t.span ts r x e

-- ## A document that may begin without `---`

explicit_first : (ahead ks : List Kind) (ps : List Part) → Explicit ahead ks ps
    → Wanted state.ImplicitDocumentStart [] ahead ks ps
explicit_first ahead ks ps h = grind arith

bare_makes : (ks : List Kind) (ps : List Part) → Then (IsNodeOf InBlock) (Outside state.DocumentEnd) ks ps
    → Outside state.ImplicitDocumentStart ks (OpenDocument false [] ∷ ps)
bare_makes ks ps h =
    let d : Document = record { explicit = false; directives = []; node = h.begins.0 } in (
      d ∷ h.goes_on.0,
      [],
      ks,
      tt,
      (h.front, h.back, inl (refl, (refl, refl, h.begins.1)), h.goes_on.1, h.kinds_are),
      refl,
      simp (h.parts_are, h.begins.2, h.goes_on.2),
    )

bare_turned : (t : Piece) (us : List Piece) (r : Aside) (x : State) (e : Memory)
    → Turned (Wanted state.ImplicitDocumentStart [] (kinds (t ∷ us))) e (t ∷ us) (bare_document t (machine us r x [] e))
unfolding bare_document
bare_turned t us r x e =
    record {
      used = [];
      part = OpenDocument false [];
      taken = refl;
      emits = refl;
      remembers = refl;
      few = omega arith;
      places = whole [] _ _ refl;
      alive = (tt, tt);
      makes = λ ks ps f b. (bare_makes ks ps f, tt);
    }

stream_over : (F : Claim) (t : Piece) (us : List Piece) (x : Emitted) (e : Memory) → us ≡ []
    → t.kind ≡ tokens.StreamEnd → x.what ≡ events.StreamEnd → x.machine.state ≡ state.End
    → F (tokens.StreamEnd ∷ []) (CloseStream ∷ []) → Over F e (t ∷ us) x
stream_over F t us x e n k w o f = record {
  part = CloseStream;
  is_over = o;
  emits = simp w;
  few = omega arith;
  places = record {
    front = t ∷ [];
    own = [];
    back = [];
    are = cc;
    passed = (rw k tt, tt);
    passed_behind = tt;
    is_of = rw w refl;
  };
  makes = rw (ap (λ (l : List Piece). t.kind ∷ kinds l) n ∙ ap (λ (l : Kind). l ∷ []) k) f;
}

explicit_there : (k : Kind) (sp : Span) (us : List Piece) (r : Aside) (x : State) (e : Memory)
    → AreWellFormed (piece_of k sp ∷ us)
    → MovesOn (Wanted state.ImplicitDocumentStart [] (k ∷ kinds us)) e (piece_of k sp ∷ us)
    (explicit_document (piece_of k sp) (machine us r x [] e))
explicit_there k sp us r x e w = moves (Wanted state.ImplicitDocumentStart [] (k ∷ kinds us)) e _ _
    (weaker (Explicit (k ∷ kinds us)) (Wanted state.ImplicitDocumentStart [] (k ∷ kinds us)) e _ _
    (explicit_first (k ∷ kinds us)) (explicit_turned (piece_of k sp) us r x e w))

implicit_at_moves : (k : Kind) (sp : Span) (us : List Piece) (r : Aside) (x : State) (e : Memory)
    → AreWellFormed (piece_of k sp ∷ us)
    → MovesOn (Wanted state.ImplicitDocumentStart [] (k ∷ kinds us)) e (piece_of k sp ∷ us)
    (implicit_start_at k (piece_of k sp) (machine us r x [] e))
implicit_at_moves tokens.StreamEnd sp us r x e w =
    inr (stream_over (Wanted state.ImplicitDocumentStart [] (tokens.StreamEnd ∷ kinds us))
    (piece_of tokens.StreamEnd sp) us _ e w.1 refl refl refl
    (([], [], tokens.StreamEnd ∷ [], tt, refl, refl, refl), tt))
implicit_at_moves (tokens.VersionDirective major minor) sp us r x e w =
    explicit_there (tokens.VersionDirective major minor) sp us r x e w
implicit_at_moves (tokens.TagDirective handle prefix) sp us r x e w =
    explicit_there (tokens.TagDirective handle prefix) sp us r x e w
implicit_at_moves (tokens.ReservedDirective name) sp us r x e w =
    explicit_there (tokens.ReservedDirective name) sp us r x e w
implicit_at_moves tokens.DocumentStart sp us r x e w = explicit_there tokens.DocumentStart sp us r x e w
implicit_at_moves k sp us r x e w = moves (Wanted state.ImplicitDocumentStart [] (k ∷ kinds us)) e _ _
    (bare_turned (piece_of k sp) us r x e)

implicit_pass : (k : Kind) (ahead ks : List Kind) (ps : List Part) → is_end_or_mark k ≡ true
    → Wanted state.ImplicitDocumentStart [] ahead ks ps → Wanted state.ImplicitDocumentStart [] (k ∷ ahead) (k ∷ ks) ps
implicit_pass k ahead ks ps y h =
    let f : Outside state.ImplicitDocumentStart ks ps = h.0 in
    ((f.0, k ∷ f.1, f.2, (end_or_mark k y, f.3), f.4, ap (λ (l : List Kind). k ∷ l) f.5, f.6), tt)

pub implicit_moves : (ts : List Piece) (r : Aside) (x : State) (e : Memory) → AreWellFormed ts
    → MovesOn (Wanted state.ImplicitDocumentStart [] (kinds ts)) e ts (implicit_start (machine ts r x [] e))
unfolding implicit_start unpassed_token
implicit_moves ts r x e w =
    passing is_end_or_mark (Wanted state.ImplicitDocumentStart []) e ts (machine ts r x [] e) _ w is_passed
    implicit_pass (λ t us v. implicit_at_moves t.kind t.span us r x e v)

-- ## A document that begins with `---`

explicit_at_moves : (k : Kind) (sp : Span) (us : List Piece) (r : Aside) (x : State) (e : Memory)
    → AreWellFormed (piece_of k sp ∷ us)
    → MovesOn (Wanted state.DocumentStart [] (k ∷ kinds us)) e (piece_of k sp ∷ us)
    (explicit_start_at k (piece_of k sp) (machine us r x [] e))
explicit_at_moves tokens.StreamEnd sp us r x e w =
    inr (stream_over (Wanted state.DocumentStart [] (tokens.StreamEnd ∷ kinds us))
    (piece_of tokens.StreamEnd sp) us _ e w.1 refl refl refl
    (([], [], tokens.StreamEnd ∷ [], tt, refl, refl, refl), λ b. tt))
explicit_at_moves k sp us r x e w = moves (Wanted state.DocumentStart [] (k ∷ kinds us)) e _ _
    (weaker (Explicit (k ∷ kinds us)) (Wanted state.DocumentStart [] (k ∷ kinds us)) e _ _
    (λ ks ps h. ((h.0, [], ks, tt, h.1, refl, h.2), h.3)) (explicit_turned (piece_of k sp) us r x e w))

never_free : (k : Kind) (ks : List Kind) → is_end_or_mark k ≡ true → BeginsFreely (k ∷ ks) → ⊥
never_free k ks h b = grind arith

explicit_pass : (k : Kind) (ahead ks : List Kind) (ps : List Part) → is_end_or_mark k ≡ true
    → Wanted state.DocumentStart [] ahead ks ps → Wanted state.DocumentStart [] (k ∷ ahead) (k ∷ ks) ps
explicit_pass k ahead ks ps y h =
    let f : Outside state.DocumentStart ks ps = h.0 in (
      (f.0, k ∷ f.1, f.2, (end_or_mark k y, f.3), f.4, ap (λ (l : List Kind). k ∷ l) f.5, f.6),
      λ b. absurd
          (never_free k ahead y b),
    )

pub explicit_moves : (ts : List Piece) (r : Aside) (x : State) (e : Memory) → AreWellFormed ts
    → MovesOn (Wanted state.DocumentStart [] (kinds ts)) e ts (explicit_start (machine ts r x [] e))
unfolding explicit_start unpassed_token
explicit_moves ts r x e w =
    passing is_end_or_mark (Wanted state.DocumentStart []) e ts (machine ts r x [] e) _ w is_passed explicit_pass
    (λ t us v. explicit_at_moves t.kind t.span us r x e v)
