use Rattle.yaml_standard.proofs.FlowPairs.{collection_key, collection_on_line, key_and_value, key_alone}
use Rattle.yaml_standard.proofs.flow.key_or_value.Goals as goal

pub returns-then-in_brackets : goal.returns-then-in_brackets
returns-then-in_brackets c = λ x y end s t u.
    collection_on_line _ _ c.args.text _ _ _ c.if-in_brackets.true (c.in_ok-rest.ensures x s) t u

pub returns-then-is_collection : goal.returns-then-is_collection
returns-then-is_collection c = λ x end s t. collection_key _ _ _ _ _ c.if-in_brackets.false (c.in_ok-rest.ensures x s) t

pub returns-in-Some : goal.returns-in-Some
returns-in-Some c = λ end s. key_and_value _ _ _ _ _ _ c.in-Some.ensures s

pub returns : goal.returns
returns c = key_alone _ _ _ _ c.if-in_brackets-2.false c.in_ok-rest-2.ensures
