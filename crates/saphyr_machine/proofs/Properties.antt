-- The properties of a node, and its content behind them.
use Rattle.std.proofs.Common.{◌≡◌, ℕ, List, refl, sym, ◌∙◌, Result, Ok, Err, arith}
use Rattle.saphyr_scalar.specs.declared.scalar.fault.Refusal.{Refusal}
use Rattle.std.specs.Prelude.{Some, None}
use Rattle.saphyr_scalar.specs.declared.scalar.position.Span.{Span}
use Rattle.saphyr_scanner.specs.declared.token.TokenKind.{TokenKind}
use Rattle.saphyr_scanner.specs.declared.token.TokenKind.TheVariants as code
use Rattle.saphyr_scanner.specs.Views.Tokens.{Parts, kind_with, piece_with}
use Rattle.saphyr_machine.specs.declared.context.NodeContext.{NodeContext}
use Rattle.saphyr_machine.specs.Events.{ResolvedTag}
use Rattle.saphyr_machine.specs.Steps.Machine.{◌>>=◌, Machine, next_id, put_back, taken_token}
use Rattle.saphyr_machine.specs.Steps.Nodes.{no_node_properties, properties_behind_anchor, properties_behind_anchor_at}
use Rattle.saphyr_machine.specs.Steps.Nodes.{properties_behind_tag, properties_behind_tag_at, properties_at, register}
use Rattle.saphyr_machine.specs.Steps.Nodes.{next_properties, content_behind, next_content, node_content, node, next_node}
use Rattle.saphyr_machine.specs.Steps.Tags.{resolved_tag_at}
use Rattle.saphyr_machine.proofs.Passing.{put_back_again}

-- Steps in turn are one step after another.
pub bound : {A B C : Type 0} (r : Result A Refusal) (f : A → Result B Refusal) (g : B → Result C Refusal)
    → ((r >>= f) >>= g) ≡ (r >>= (λ x. f x >>= g))
bound (Ok x) f g = refl
bound (Err e) f g = refl

anchor_alone : (kind : TokenKind) (at : Span) (x : Parts) (id : ℕ) (s : Span) (m : Machine)
    → (kind ≡ code.Tag → ⊥)
    → properties_behind_anchor_at (kind_with kind x) id s (piece_with at kind x) m
    ≡ Ok (record { start = s.start; behind = s.end; anchor = id; tag = None }, put_back (piece_with at kind x) m)
anchor_alone code.Tag at x id s m other = absurd (other refl)
anchor_alone _ at x id s m other = refl

tag_alone : (kind : TokenKind) (at : Span) (x : Parts) (tag : ResolvedTag) (s : Span) (m : Machine)
    → (kind ≡ code.Anchor → ⊥)
    → properties_behind_tag_at (kind_with kind x) tag s (piece_with at kind x) m
    ≡ (record { start = s.start; behind = s.end; anchor = 0; tag = Some tag }, put_back (piece_with at kind x) m)
tag_alone code.Anchor at x tag s m other = absurd (other refl)
tag_alone _ at x tag s m other = refl

none_at : (kind : TokenKind) (at : Span) (x : Parts) (m : Machine) → (kind ≡ code.Anchor → ⊥) → (kind ≡ code.Tag → ⊥)
    → properties_at (kind_with kind x) (piece_with at kind x) m
    ≡ Ok (no_node_properties at.start, put_back (piece_with at kind x) m)
none_at code.Anchor at x m other others = absurd (other refl)
none_at code.Tag at x m other others = absurd (others refl)
none_at _ at x m other others = refl

-- A token that is neither an anchor nor a tag stays.
pub no_properties : (m n : Machine) (kind : TokenKind) (at : Span) (x : Parts)
    → taken_token m ≡ Ok (piece_with at kind x, n) → (kind ≡ code.Anchor → ⊥) → (kind ≡ code.Tag → ⊥)
    → next_properties m ≡ Ok (no_node_properties at.start, m)
no_properties m n kind at x first other others =
    rw (first, none_at kind at x n other others, put_back_again m n (piece_with at kind x) first) refl

pub not_both : (kind : TokenKind) → kind ≡ code.Anchor → kind ≡ code.Tag → ⊥
not_both kind one other = cc

-- ## Behind an anchor

pub anchor_without_tag : (n k l : Machine) (name : List ℕ) (s to : Span) (next : TokenKind) (y : Parts)
    → taken_token (register name n) ≡ Ok (piece_with to next y, l) → taken_token k ≡ Ok (piece_with to next y, l)
    → (next ≡ code.Tag → ⊥)
    → properties_behind_anchor name s n
    ≡ Ok (record { start = s.start; behind = s.end; anchor = next_id n.anchors; tag = None }, k)
unfolding properties_behind_anchor
anchor_without_tag n k l name s to next y took again other =
    rw (
      took,
      anchor_alone next to y (next_id n.anchors) s l other,
      put_back_again k l (piece_with to next y) again,
    ) refl

pub anchor_and_tag : (n l : Machine) (name : List ℕ) (s to : Span) (next : TokenKind) (y : Parts) (tag : ResolvedTag)
    → taken_token (register name n) ≡ Ok (piece_with to next y, l) → next ≡ code.Tag
    → resolved_tag_at l.prefixes y.handle y.text s.start ≡ Ok tag
    → properties_behind_anchor name s n
    ≡ Ok (record { start = s.start; behind = to.end; anchor = next_id n.anchors; tag = Some tag }, l)
unfolding properties_behind_anchor
anchor_and_tag n l name s to next y tag took is resolves = rw (took, is, resolves) refl

-- ## Behind a tag

pub tag_without_anchor : (n k l : Machine) (handle suffix : List ℕ) (s to : Span) (next : TokenKind) (y : Parts)
    (tag : ResolvedTag) → resolved_tag_at n.prefixes handle suffix s.start ≡ Ok tag
    → taken_token n ≡ Ok (piece_with to next y, l) → taken_token k ≡ Ok (piece_with to next y, l)
    → (next ≡ code.Anchor → ⊥)
    → properties_behind_tag handle suffix s n
    ≡ Ok (record { start = s.start; behind = s.end; anchor = 0; tag = Some tag }, k)
unfolding properties_behind_tag
tag_without_anchor n k l handle suffix s to next y tag resolves took again other =
    rw (resolves, took, tag_alone next to y tag s l other, put_back_again k l (piece_with to next y) again) refl

pub tag_and_anchor : (n l : Machine) (handle suffix : List ℕ) (s to : Span) (next : TokenKind) (y : Parts)
    (tag : ResolvedTag) → resolved_tag_at n.prefixes handle suffix s.start ≡ Ok tag
    → taken_token n ≡ Ok (piece_with to next y, l) → next ≡ code.Anchor
    → properties_behind_tag handle suffix s n
    ≡ Ok (record { start = s.start; behind = to.end; anchor = next_id l.anchors; tag = Some tag }, register y.text l)
unfolding properties_behind_tag
tag_and_anchor n l handle suffix s to next y tag resolves took is = rw (resolves, took, is) refl

-- A node that is no alias is its content behind its properties.
content_is_behind : (kind : TokenKind) (at : Span) (x : Parts) (c : NodeContext) (m : Machine)
    → (kind ≡ code.Alias → ⊥)
    → node c (piece_with at kind x) m
    ≡ (properties_at (kind_with kind x) (piece_with at kind x) m >>= content_behind c)
unfolding node node_content next_content
content_is_behind code.Alias at x c m other = absurd (other refl)
content_is_behind _ at x c m other = refl

pub node_is_behind : (m n : Machine) (kind : TokenKind) (at : Span) (x : Parts) (c : NodeContext)
    → taken_token m ≡ Ok (piece_with at kind x, n) → (kind ≡ code.Alias → ⊥)
    → next_node c m ≡ (next_properties m >>= content_behind c)
node_is_behind m n kind at x c e other = rw e (content_is_behind kind at x c n other)

abbrev with_machine : Machine → ResolvedTag → Result (ResolvedTag × Machine) Refusal
with_machine m t = Ok (t, m)

-- A tag that was taken is resolved.
pub resolved : (r : Result ResolvedTag Refusal) (m n : Machine) (tag : ResolvedTag)
    → (r >>= with_machine m) ≡ Ok (tag, n) → (r ≡ Ok tag) × (m ≡ n)
resolved u0 m n tag is = grind arith
