-- Directives that were passed go together, and what they declare is remembered.
use Rattle.event_laws.proofs.Common.{◌≡◌, ℕ, Bool, true, false, List, [], ◌∷◌, ◌++◌, map, encode_utf8_all, Result, Ok, Err, refl, ap, ◌∙◌, if◌then◌else◌, Span, Refusal, Handle, handle_bytes, Directive, Version, TagPrefix, Reserved, GoesWithAll, AreCompatible, Kind, directive_token, Piece, kinds, ◌>>=◌, Machine, with_meaning, is_listed, with_name, with_pieces, Declared, is_directive, directive_at, directives_from, IsWellFormed, AreWellFormed}
use Rattle.saphyr_scalar.specs.declared.scalar.fault.FaultText.TheVariants as fault
use Rattle.saphyr_scanner.specs.Grammar.Tokens as tokens
use Rattle.event_laws.proofs.Remembering.{declaring}
use Rattle.event_laws.proofs.DirectivesPass.{IsFree, AreFree, declared_by, all_free_behind}

-- ## What was passed

abbrev pub declaring_machine : List Directive → List Piece → Machine → Machine
declaring_machine ds rest m =
    record m { tokens = record { pieces = rest; refusal = m.tokens.refusal }; prefixes = declaring ds m.prefixes }

-- directives, and the token after them
pub record PassesDirectives (ts : List Piece) (d : Declared) (m : Machine) (u : Piece) (n : Machine) : Type 0 where
  pub directives : List Directive
  pub used : List Piece
  pub rest : List Piece
  pub are : ts ≡ used ++ u ∷ rest
  pub kinds_are : kinds used ≡ map directive_token directives
  pub compatible : AreCompatible directives
  pub free : AreFree d directives
  pub leaves : n ≡ declaring_machine directives rest m

abbrev pub PassedBy : List Piece → Declared → Machine → Result (Piece × Machine) Refusal → Type 0
PassedBy ts d m (Ok x) = PassesDirectives ts d m x.0 x.1
PassedBy ts d m (Err f) = Unit {0}

nothing_passed : (t : Piece) (ts : List Piece) (d : Declared) (m : Machine)
    → PassedBy (t ∷ ts) d m (Ok (t, with_pieces ts m))
nothing_passed t ts d m =
    record {
      directives = [];
      used = [];
      rest = ts;
      are = refl;
      kinds_are = refl;
      compatible = tt;
      free = tt;
      leaves = refl;
    }

-- one more directive
one_more_directive : (x : Directive) (t : Piece) (ts : List Piece) (d : Declared) (m n : Machine)
    (r : Result (Piece × Machine) Refusal) → t.kind ≡ directive_token x → IsFree d x
    → ((ds : List Directive) (rest : List Piece) → declaring_machine ds rest n ≡ declaring_machine (x ∷ ds) rest m)
    → PassedBy ts (declared_by x d) n r → PassedBy (t ∷ ts) d m r
one_more_directive x t ts d m n (Err f) k free same h = tt
one_more_directive x t ts d m n (Ok y) k free same h =
    let others : GoesWithAll x h.directives × AreFree d h.directives = (all_free_behind x h.directives d).0 h.free in
    record {
      directives = x ∷ h.directives;
      used = t ∷ h.used;
      rest = h.rest;
      are = ap (λ (l : List Piece). t ∷ l) h.are;
      kinds_are = cc;
      compatible = (others.0, h.compatible);
      free = (free, others.1);
      leaves = h.leaves ∙ same h.directives h.rest;
    }

version_passed : (b : Bool) (major minor : ℕ) (t : Piece) (ts : List Piece) (d : Declared) (m : Machine) → d.version ≡ b
    → t.kind ≡ tokens.VersionDirective major minor
    → ((d : Declared) (m : Machine) → PassedBy ts d m (directives_from ts d m))
    → PassedBy (t ∷ ts) d m (((if b then Err
    (record { text = fault.DuplicateVersionDirective; mark = t.span.start; may_change = false })
    else (let y : Result Declared Refusal = Ok (record { version = true; handles = d.handles }) in y))
    >>= (λ e. let y : Result (Declared × Machine) Refusal = Ok (e, with_pieces ts m) in y))
    >>= (λ s. directives_from ts s.0 s.1))
version_passed true major minor t ts d m v k go = tt
version_passed false major minor t ts d m v k go =
    one_more_directive (Version major minor) t ts d m (with_pieces ts m) _ k v (λ ds rest. refl)
    (go (record { version = true; handles = d.handles }) (with_pieces ts m))

tag_passed : (b : Bool) (handle : Handle) (prefix : List ℕ) (t : Piece) (ts : List Piece) (d : Declared) (m : Machine)
    → is_listed (handle_bytes handle) d.handles ≡ b
    → t.kind ≡ tokens.TagDirective (handle_bytes handle) (encode_utf8_all prefix)
    → ((d : Declared) (m : Machine) → PassedBy ts d m (directives_from ts d m))
    → PassedBy (t ∷ ts) d m ((if b then Err
    (record { text = fault.DuplicateTagDirective; mark = t.span.start; may_change = false }) else
    (let y : Result (Declared × Machine) Refusal =
    Ok (
      record { version = d.version; handles = with_name (handle_bytes handle) d.handles },
      record (with_pieces ts m)
          { prefixes = with_meaning (handle_bytes handle) (encode_utf8_all prefix) m.prefixes },
    ) in y))
    >>= (λ s. directives_from ts s.0 s.1))
tag_passed true handle prefix t ts d m v k go = tt
tag_passed false handle prefix t ts d m v k go = one_more_directive (TagPrefix handle prefix) t ts d m
    (record (with_pieces ts m) { prefixes = with_meaning (handle_bytes handle) (encode_utf8_all prefix) m.prefixes })
    _ k v (λ ds rest. refl) (go _ _)

passed_at : (k : Kind) (sp : Span) (ts : List Piece) (d : Declared) (m : Machine) → IsWellFormed k
    → ((d : Declared) (m : Machine) → PassedBy ts d m (directives_from ts d m))
    → PassedBy (record { span = sp; kind = k } ∷ ts) d m
    (if is_directive k then directive_at k (record { span = sp; kind = k }) d (with_pieces ts m)
    >>= (λ s. directives_from ts s.0 s.1) else Ok (record { span = sp; kind = k }, with_pieces ts m))
passed_at (tokens.VersionDirective major minor) sp ts d m w go =
    version_passed d.version major minor (record { span = sp; kind = tokens.VersionDirective major minor }) ts d m refl
    refl go
passed_at (tokens.TagDirective handle prefix) sp ts d m w go =
    rw (w.1, w.2.1) (tag_passed (is_listed (handle_bytes w.0) d.handles) w.0 w.2.0
    (record { span = sp; kind = tokens.TagDirective (handle_bytes w.0) (encode_utf8_all w.2.0) }) ts d m refl refl go)
passed_at (tokens.ReservedDirective name) sp ts d m w go =
    one_more_directive (Reserved w.0) (record { span = sp; kind = tokens.ReservedDirective name }) ts d m
    (with_pieces ts m) _ (ap tokens.ReservedDirective w.1) tt (λ ds rest. refl) (go d (with_pieces ts m))
passed_at k sp ts d m w go = nothing_passed (record { span = sp; kind = k }) ts d m

pub directives_passed : (ts : List Piece) (d : Declared) (m : Machine) → AreWellFormed ts
    → PassedBy ts d m (directives_from ts d m)
directives_passed [] d m w = tt
directives_passed (t ∷ ts) d m w = passed_at t.kind t.span ts d m w.0 (λ c n. directives_passed ts c n w.2)
