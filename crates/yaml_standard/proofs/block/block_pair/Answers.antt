use Rattle.yaml_standard.proofs.BlockPairs.{collection_pair, key_and_node, marked_pair}
use Rattle.yaml_standard.proofs.block.block_pair.Goals as goal

pub returns-then-is_mark : goal.returns-then-is_mark
returns-then-is_mark c = λ x end key rest.
    marked_pair c.args.column _ _ x end c.in_ok-rest.ensures (c.in_ok-ahead.ensures.no_tab c.if-ahead.false) key rest

pub returns-then-is_collection : goal.returns-then-is_collection
returns-then-is_collection c = λ x y end key colon value.
    collection_pair c.args.column _ _ x y end c.in_ok-indent.ensures.1 (c.in_ok-rest-2.ensures x key) colon value

pub returns : goal.returns
returns c = λ end value. key_and_node c.args.column _ _ _ _ end c.in_ok-indent.ensures.1 c.in_ok-rest-3.ensures value
