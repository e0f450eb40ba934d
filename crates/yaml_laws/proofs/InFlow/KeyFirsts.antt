-- A key on one line at block level begins a token, which keeps the key's place.
use Rattle.yaml_laws.proofs.Common.{List, [], ap, append_assoc, arith, false, inl, refl, sym, true, ℕ, ◌++◌, ◌∙◌, ◌∷◌, ◌≡◌, Option, Some, colon, Kind, Quote, Double, Single, mark, Alias, DoubleQuoted, Folded, Literal, Map, Node, Plain, Properties, Scalar, Seq, SingleQuoted, Style, Tag, AreFlowPairs, AreItems, IsBeforeContent, IsFlowNode, IsPlainKeyNode, IsScalarNode, IsFlowScalar}
use Rattle.saphyr_scanner.specs.declared.engine.level.Context.TheVariants as context
use Rattle.saphyr_scanner.specs.Steps.Property as property
use Rattle.saphyr_scanner.specs.Steps.Scalar as scalar
use Rattle.saphyr_scanner.specs.Steps.Flow as flow
use Rattle.saphyr_scanner.specs.Steps.Flow.{open_collection}
use Rattle.saphyr_scanner.specs.Steps.Fetch.{step}
use Rattle.yaml_laws.specs.Grammar.FlowNodes as yaml
use Rattle.yaml_laws.proofs.InFlow.States.{Around, moment}
use Rattle.yaml_laws.proofs.InFlow.KeyLines.{Fresh, requiring, KeepsPlace}
use Rattle.yaml_laws.proofs.Flow.Names.{begins_anchor, begins_alias}
use Rattle.yaml_laws.proofs.Flow.Plains.{BeginsWord, word_begins, key_begins, plain_dispatches}
use Rattle.yaml_laws.proofs.Flow.Collections.{Brackets, AreBrackets, square, curly, are_square, are_curly}
use Rattle.yaml_laws.proofs.Flow.Collections.Runs.{whole_text, IsBracketText}

-- ## The first token keeps the key's place

name_fresh : (token_of : List ℕ → Kind) (around : Around) → KeepsPlace around (property.name_steps token_of)
unfolding property.name_steps
name_fresh token_of around d s k ad n = refl

quoted_fresh : (quote : Quote) (around : Around) (second : ℕ) → KeepsPlace around (step (mark quote) second)
unfolding step scalar.quoted_steps
quoted_fresh Single around second d s k ad n = refl
quoted_fresh Double around second d s k ad n = refl

fresh_so : (around : Around) (t u : List ℕ) → t ≡ u → Fresh around u → Fresh around t
fresh_so around t u e h = rw e h

fresh_alias : (around : Around) (name t o : List ℕ) → yaml.IsAlias name t → Fresh around (t ++ o)
fresh_alias around name t o h = grind (arith, begins_alias, name_fresh)

fresh_properties : (around : Around) (indent : ℕ) (anchor : Option (List ℕ)) (tag : Option Tag) (t o : List ℕ)
    → yaml.AreProperties anchor tag indent t → Fresh around (t ++ o)
unfolding step property.tag_steps
fresh_properties around indent anchor tag t o h = grind (arith, fresh_so, append_assoc, begins_anchor, name_fresh)

fresh_word : (around : Around) (t o : List ℕ) → BeginsWord false t o → Fresh around (t ++ o)
unfolding scalar.plain_steps
fresh_word around t o w = λ d s k ad n. plain_dispatches around d n t o (moment s context.Block k [] true ad []) w
    (inl refl) ∙ refl ∙ sym (plain_dispatches (requiring around d s.mark) d n t o
    (moment s context.Block (Some (record { mark = s.mark; place = n })) [] false ad []) w (inl refl))

fresh_content : (around : Around) (indent : ℕ) (style : Style) (value t o : List ℕ)
    → IsFlowScalar style value false indent t → Fresh around (t ++ o)
fresh_content around indent Plain value t o h = fresh_word around t o (word_begins false indent t o h.0)
fresh_content around indent SingleQuoted value t o h =
    fresh_so around (t ++ o) (39 ∷ (h.0 ++ o)) (ap (λ (x : List ℕ). x ++ o) h.5)
    (quoted_fresh Single around _)
fresh_content around indent DoubleQuoted value t o h =
    fresh_so around (t ++ o) (34 ∷ (h.0 ++ o)) (ap (λ (x : List ℕ). x ++ o) h.5)
    (quoted_fresh Double around _)
fresh_content around indent Literal value t o h = absurd h
fresh_content around indent Folded value t o h = absurd h

fresh_bracket : (around : Around) (b : Brackets) → AreBrackets b → (o : List ℕ) → Fresh around (b.opening ∷ o)
unfolding flow.opening_steps open_collection
fresh_bracket around b are o d s k ad n = grind arith

fresh_front : (around : Around) (indent : ℕ) (p : Properties) (front t : List ℕ) → IsBeforeContent p indent front
    → Fresh around t → Fresh around (front ++ t)
fresh_front around indent p front t k h = grind (arith, fresh_so, append_assoc, fresh_properties)

scalar_fresh : (around : Around) (indent : ℕ) (p : Properties) (style : Style) (value t o : List ℕ)
    → IsScalarNode p style value false indent t → Fresh around (t ++ o)
scalar_fresh around indent p style value t o h =
    grind (arith, fresh_properties, append_assoc, fresh_front, fresh_content)

pub plain_key_fresh : (around : Around) (indent : ℕ) (node : Node) (t r : List ℕ) → IsPlainKeyNode node false indent t
    → Fresh around (t ++ (colon ∷ r))
plain_key_fresh around indent (Alias name) t r h = absurd h
plain_key_fresh around indent (Seq p nodes) t r h = absurd h
plain_key_fresh around indent (Map p pairs) t r h = absurd h
plain_key_fresh around indent (Scalar p style value) t r (front, content, plain, before, g, is, e) =
    let o = 58 ∷ r in
    fresh_so around (t ++ o) (front ++ (content ++ o)) (cc (append_assoc front content o))
    (fresh_front around indent p front (content ++ o) before
    (fresh_word around content o (key_begins false indent content r g)))

brackets_fresh : (around : Around) (indent : ℕ) (p : Properties) (b : Brackets) → AreBrackets b
    → (Text : ℕ → List ℕ → Type 0)
    (room : ℕ) (t o : List ℕ) → IsBracketText b Text p room indent t → Fresh around (t ++ o)
brackets_fresh around indent p b are Text room t o (left, opening, inside, r, (front, w, before, parts, e), h, is) =
    let rest = w ++ (inside ++ (b.closing ∷ [])) in
    fresh_so around (t ++ o) (front ++ (b.opening ∷ (rest ++ o)))
    (cc (whole_text t opening front w inside b.opening b.closing is e, append_assoc front (b.opening ∷ rest) o))
    (fresh_front around indent p front (b.opening ∷ (rest ++ o)) before (fresh_bracket around b are (rest ++ o)))

pub key_node_fresh : (around : Around) (indent : ℕ) (room : ℕ) (node : Node) (t o : List ℕ)
    → IsFlowNode room node false indent t → Fresh around (t ++ o)
key_node_fresh around indent room (Alias name) t o h = fresh_alias around name t o h
key_node_fresh around indent room (Scalar p style value) t o h = scalar_fresh around indent p style value t o h
key_node_fresh around indent room (Seq p nodes) t o h =
    brackets_fresh around indent p square are_square (λ left. AreItems left nodes indent) room t o h
key_node_fresh around indent room (Map p pairs) t o h =
    brackets_fresh around indent p curly are_curly (λ left. AreFlowPairs left pairs indent) room t o h
