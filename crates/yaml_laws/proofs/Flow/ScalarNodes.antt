-- The scalars of a text in flow style are passed, with their properties.
use Rattle.std.proofs.Common.{◌≡◌, ℕ, ◌≤◌, List, [], ◌∷◌, ◌++◌, refl, arith, inl, inr}
use Rattle.yaml_laws.proofs.Common.{not, None, false≢true, colon, Marker, Context, Kind, scalar_token, is_block, Style, Plain, Properties, Node, Scalar, allows_adjacent, IsProperties, IsBeforeContent, IsScalarNode, IsPlainKeyNode}
use Rattle.saphyr_scanner.specs.Grammar.TokenGrammar as grammar
use Rattle.yaml_laws.proofs.InFlow.States.{Around, FlowMoment}
use Rattle.yaml_laws.proofs.Flow.States.{moved, ReaderPromises, after_node, keeping, Follows, IsLow, ReadsText}
use Rattle.yaml_laws.proofs.Flow.Joins.{knowing, mapped}
use Rattle.yaml_laws.proofs.Flow.ContentStarts.{Begins, behind_low, plain_key_begins, scalar_begins}
use Rattle.yaml_laws.proofs.Flow.Ends.{follows_tag}
use Rattle.yaml_laws.proofs.Flow.Properties.{properties_read}
use Rattle.yaml_laws.proofs.Flow.Contents.{content_passes, PassesContent, key_content_passes}
use Rattle.yaml_laws.proofs.Flow.Fronts.{behind_front}

-- ## Tokens

pub empty_are : (p : Properties) (indent : ℕ) (t : List ℕ) (tokens : List Kind) (place : grammar.Context)
    → IsProperties p indent t → grammar.YieldProperties p tokens → grammar.YieldsNode (Scalar p Plain []) place tokens
empty_are p indent t tokens place h are = grind arith

-- ## Properties alone, for an empty scalar

empty_passes : ReaderPromises → (around : Around) (p : Properties) (m : Marker) (t o : List ℕ) (now : FlowMoment)
    → IsProperties p around.indent t → ReadsText around (Scalar p Plain []) m t o now
empty_passes reads around p m t o now h fits follows low start ready =
    let node = Scalar p Plain [] in
    let end = moved m t in
    let r = properties_read reads around p.anchor p.tag m t o h now
    (follows_tag around now.context node end o refl follows) fits start ready in
    let known = r.passes.knows.properties in
    record {
      tokens = r.tokens;
      are = λ place. empty_are p around.indent t r.tokens place h r.are;
      comment = None;
      none = λ _. refl;
      passes = grind (arith, knowing, after_node, keeping, false≢true, behind_low);
    }

-- ## Content, after properties or without any

-- what follows a node follows its content, wherever that begins
follows_content : {around : Around} {x y : Context} {node : Node} {a b : Marker} {o : List ℕ} → y ≡ x → b ≡ a
    → Follows around x node a o → Follows around y node b o
follows_content {around} {x} {y} {node} {a} {b} {o} same place h = rw (same, place) h

low_content : {x y : Context} {ad bd : ℕ} (m e : Marker) → y ≡ x → bd ≡ ad → m.index ≤ e.index → IsLow x ad m
    → IsLow y bd e
low_content {x} {y} {ad} {bd} m e same_context same later (low, h) = grind (arith)

content_node : ReaderPromises → (around : Around) (p : Properties) (style : Style) (value front content o : List ℕ)
    (m : Marker) (now : FlowMoment) → IsBeforeContent p around.indent front → Begins content
    → ((e : Marker) (next : FlowMoment) → not (is_block next.context) ≡ not (is_block now.context)
    → PassesContent around (Scalar p style value) style value content o e next)
    → ReadsText around (Scalar p style value) m (front ++ content) o now
content_node reads around p style value front content o m now before begins g fits follows low start ready =
    mapped (λ ts h place. (h.0, h.1, h.2, inl h.3, h.4)) (λ w h. h)
    (behind_front reads around p (λ ts. ts ≡ scalar_token style value ∷ []) (allows_adjacent (Scalar p style value)) m
    front content o before begins now fits start ready
    (λ e place later next same_context same_outer same_adjacent inner from at.
    g e next (cc) inner (follows_content same_context place follows)
    (low_content m e same_context same_adjacent later low) from at))

pub scalar_passes : ReaderPromises → (around : Around) (p : Properties) (style : Style) (value : List ℕ) (m : Marker)
    (t o : List ℕ) (now : FlowMoment) → IsScalarNode p style value (not (is_block now.context)) around.indent t
    → ReadsText around (Scalar p style value) m t o now
scalar_passes reads around p style value m t o now (inl (plain, empty, h)) =
    rw (plain, empty) (empty_passes reads around p m t o now h)
scalar_passes reads around p style value m t o now (inr (front, content, before, g, is)) =
    rw is (content_node reads around p style value front content o m now before
    (scalar_begins around.indent style value (not (is_block now.context)) content g) (λ e next same.
    content_passes reads around p style value content o e next (rw same g)))

-- a key before its colon
pub key_node_passes : ReaderPromises → (around : Around) (p : Properties) (style : Style) (value t r : List ℕ)
    (m : Marker) (now : FlowMoment) → IsPlainKeyNode (Scalar p style value) (not (is_block now.context)) around.indent t
    → ReadsText around (Scalar p style value) m t (colon ∷ r) now
key_node_passes reads around p style value t r m now (front, content, plain, before, g, stands, is) =
    rw (plain, is) (content_node reads around p Plain value front content (58 ∷ r) m now before
    (plain_key_begins (not (is_block now.context)) around.indent content g) (λ e next same.
    key_content_passes reads around p value content r e next stands (rw same g)))
