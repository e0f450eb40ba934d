-- The tag that a machine resolves is one that the token may stand for.
use Rattle.event_laws.proofs.Common.{◌≡◌, ℕ, ◌-◌, Bool, true, false, List, [], ◌∷◌, ◌++◌, length, Option, Some, option_map, encode_utf8_all, codes, Result, Ok, refl, sym, ap, ◌∙◌, subst, arith, length-append, slice_index, option_or, bytes_eq, eq-eqb, le-leb, bytes_eq-Decides, Marker, Refusal, Handle, Primary, Secondary, Named, handle_bytes, Tag, NonSpecific, Verbatim, Shorthand, tag_token, ResolvedTag, ◌>>=◌, Names, meaning, default_prefix}
use lib.Utf8.{encode}
use Rattle.std.proofs.Math.Seq.{get_or-append_seam}
use Rattle.saphyr_input.specs.Indicators.{exclamation_mark}
use Rattle.saphyr_scalar.proofs.Properties.TagsRead as scalar
use Rattle.saphyr_scanner.specs.Grammar.Tokens as tokens
use Rattle.saphyr_machine.specs.Steps.Tags.{is_named_handle, undeclared_prefix, declared_prefix_or, declared_prefix, resolved_tag_at}
use Rattle.event_laws.proofs.Emitted.Nodes.{handle_is_some, has_handle}
use Rattle.event_laws.proofs.Remembering.{resolve}

-- the token's tag is resolved to this
pub record ResolvesTo (names : Names (List ℕ)) (handle suffix : List ℕ) (v : ResolvedTag) : Type 0 where
  pub tag : Tag
  pub token : tokens.Tag handle suffix ≡ tag_token tag
  pub resolves : resolve names tag ≡ Some v

-- ## Handles `!word!`

named_test : (b : List ℕ) → is_named_handle (exclamation_mark ∷ (b ++ exclamation_mark ∷ [])) ≡ true
named_test b =
    let h : List ℕ = 33 ∷ (b ++ 33 ∷ []) in
    let l : length h - 1 ≡ length (33 ∷ b) = let a = length-append b (33 ∷ []) in omega (arith, a) in
    let last : slice_index h (length h - 1) ≡ 33 = cc (get_or-append_seam (33 ∷ b) 33 [] 0) in
    rw (le-leb 2 (length h) (let a = length-append b (33 ∷ []) in omega (arith, a)))
    (eq-eqb (slice_index h (length h - 1)) 33 last)

named_handle : (word : List ℕ) → is_named_handle (handle_bytes (Named word)) ≡ true
named_handle word = ap is_named_handle (sym (scalar.bytes_of_handle word)) ∙ named_test (encode_utf8_all word)

-- ## What a handle stands for

prefix_found : (o : Option (List ℕ)) (u : Result (List ℕ) Refusal) (d : Option (List ℕ)) (suffix : List ℕ)
    (v : ResolvedTag) → ((prefix : List ℕ) → u ≡ Ok prefix → d ≡ Some prefix)
    → (declared_prefix_or o u >>= (λ prefix. let x : Result ResolvedTag Refusal =
    Ok (record { handle = prefix; suffix = suffix }) in x)) ≡ Ok v
    → option_map (λ prefix. let t : ResolvedTag = record { handle = prefix; suffix = suffix } in t) (option_or o d)
    ≡ Some v
prefix_found o u d suffix v h e = grind arith

-- a handle whose default is that of the machine
shorthand : (handle : Handle) (suffix : List ℕ) (names : Names (List ℕ)) (place : Marker) (v : ResolvedTag)
    → ((prefix : List ℕ) → undeclared_prefix (handle_bytes handle) place ≡ Ok prefix
    → default_prefix handle ≡ Some prefix)
    → resolved_tag_at names (handle_bytes handle) (encode_utf8_all suffix) place ≡ Ok v
    → ResolvesTo names (handle_bytes handle) (encode_utf8_all suffix) v
unfolding resolved_tag_at
shorthand handle suffix names place v h e = record {
  tag = Shorthand handle suffix;
  token = refl;
  resolves = prefix_found (meaning (handle_bytes handle) names) (undeclared_prefix (handle_bytes handle) place)
      (default_prefix handle) (encode_utf8_all suffix) v h
      (cc (has_handle (handle_bytes handle) names place (handle_is_some handle)));
}

primary_default : (place : Marker) (prefix : List ℕ) → undeclared_prefix (handle_bytes Primary) place ≡ Ok prefix
    → default_prefix Primary ≡ Some prefix
unfolding encode
primary_default place prefix h = cc

secondary_default : (place : Marker) (prefix : List ℕ) → undeclared_prefix (handle_bytes Secondary) place ≡ Ok prefix
    → default_prefix Secondary ≡ Some prefix
unfolding encode
secondary_default place prefix h = cc

pub secondary_bytes : handle_bytes Secondary ≡ codes "!!"
unfolding encode
secondary_bytes = refl

refuses : (place : Marker) (handle prefix : List ℕ) → bytes_eq handle (codes "!!") ≡ false → is_named_handle handle
    ≡ true → undeclared_prefix handle place ≡ Ok prefix → ⊥
refuses place handle prefix a b h = cc

named_stands : (word suffix : List ℕ) (names : Names (List ℕ)) (place : Marker) (v : ResolvedTag) (b : Bool)
    → bytes_eq (handle_bytes (Named word)) (codes "!!") ≡ b
    → resolved_tag_at names (handle_bytes (Named word)) (encode_utf8_all suffix) place ≡ Ok v
    → ResolvesTo names (handle_bytes (Named word)) (encode_utf8_all suffix) v
named_stands word suffix names place v true q e =
    let same = secondary_bytes ∙ sym ((bytes_eq-Decides (handle_bytes (Named word)) (codes "!!")).0 q) in
    subst (λ (h : List ℕ). resolved_tag_at names h (encode_utf8_all suffix) place ≡ Ok v
    → ResolvesTo names h (encode_utf8_all suffix) v) same
    (shorthand Secondary suffix names place v (secondary_default place)) e
named_stands word suffix names place v false q e = shorthand (Named word) suffix names place v
    (λ prefix h. absurd (refuses place (handle_bytes (Named word)) prefix q (named_handle word) h)) e

-- ## Tags

-- the handle and the suffix of a tag's token
abbrev front : Tag → List ℕ
front NonSpecific = []
front (Verbatim uri) = []
front (Shorthand handle suffix) = handle_bytes handle

abbrev back : Tag → List ℕ
back NonSpecific = codes "!"
back (Verbatim uri) = encode_utf8_all uri
back (Shorthand handle suffix) = encode_utf8_all suffix

token_is : (tag : Tag) → tokens.Tag (front tag) (back tag) ≡ tag_token tag
token_is tag = grind arith

same : (a b : ResolvedTag) → (let r : Result ResolvedTag Refusal = Ok a in r) ≡ Ok b
    → (let o : Option ResolvedTag = Some a in o) ≡ Some b
same a b h = cc

tag_stands : (tag : Tag) (names : Names (List ℕ)) (place : Marker) (v : ResolvedTag)
    → resolved_tag_at names (front tag) (back tag) place ≡ Ok v → ResolvesTo names (front tag) (back tag) v
unfolding resolved_tag_at declared_prefix
tag_stands NonSpecific names place v e = record { tag = NonSpecific; token = refl; resolves = same _ v e }
tag_stands (Verbatim uri) names place v e = record { tag = Verbatim uri; token = refl; resolves = same _ v e }
tag_stands (Shorthand Primary suffix) names place v e = shorthand Primary suffix names place v (primary_default place) e
tag_stands (Shorthand Secondary suffix) names place v e =
    shorthand Secondary suffix names place v (secondary_default place) e
tag_stands (Shorthand (Named word) suffix) names place v e =
    named_stands word suffix names place v (bytes_eq (handle_bytes (Named word)) (codes "!!")) refl e

tag_parts : (a b c d : List ℕ) → tokens.Tag a b ≡ tokens.Tag c d → (a ≡ c) × (b ≡ d)
tag_parts a b c d e = ((cc), (cc))

pub stands : (names : Names (List ℕ)) (handle suffix : List ℕ) (place : Marker) (v : ResolvedTag)
    → (tag : Tag) × (tokens.Tag handle suffix ≡ tag_token tag) → resolved_tag_at names handle suffix place ≡ Ok v
    → ResolvesTo names handle suffix v
stands names handle suffix place v h e =
    let parts = tag_parts handle suffix (front h.0) (back h.0) (h.1 ∙ sym (token_is h.0)) in
    subst (λ (x : List ℕ). resolved_tag_at names x suffix place ≡ Ok v → ResolvesTo names x suffix v) (sym parts.0)
    (rw parts.1 (tag_stands h.0 names place v)) e
