use Rattle.std.proofs.Common.{drop, string_bytes, ap, sym, ◌∙◌}
use Rattle.std.specs.Str.{chars}
use Rattle.std.proofs.lemmas.List.{drop-drop}
use Rattle.std.proofs.lemmas.Str.{IsUtf8-drop, IsUtf8-string_bytes, IsCharBoundary-from_rest}
use Rattle.saphyr_input.proofs.Ascii.{PastAscii, past_one}
use Rattle.saphyr_pieces.proofs.owned.OwnedTextInput.skip_ascii.Goals as goal
use Rattle.saphyr_pieces.proofs.owned.OwnedTextInput.skip_ascii.Goals.{After-as_bytes}

-- an ASCII byte comes first in the rest
past : (c : After-as_bytes) → PastAscii (drop c.args.self.now.start (string_bytes c.args.self.now.text)) 1
past c =
    let text = c.args.self.now.text in
    past_one (drop c.args.self.now.start (string_bytes text))
    (IsUtf8-drop (string_bytes text) c.args.self.now.start (IsUtf8-string_bytes text) c.args.self.now.boundary)
    c.requires.some c.requires.ascii

pub invariant_of-self-clause-boundary : goal.invariant_of-self-clause-boundary
invariant_of-self-clause-boundary c =
    let old = c.args.self.now in
    IsCharBoundary-from_rest (string_bytes old.text) old.start 1 old.boundary.0
    (past (goal.at.invariant_of-self-clause-boundary c).After-as_bytes).boundary

pub returns-clause-rest : goal.returns-clause-rest
returns-clause-rest c =
    ap chars (sym (drop-drop 1 c.args.self.now.start (string_bytes c.args.self.now.text)))
    ∙ (past (goal.at.returns-clause-rest c).After-as_bytes).rest
