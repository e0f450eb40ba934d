-- A name is put after the others, and its text after theirs.
use Rattle.std.proofs.Common.{◌∷◌, [], ◌++◌, ap, ◌∙◌}
use Rattle.std.specs.Prelude.{map}
use Rattle.std.proofs.lemmas.List.Elements.{All-same}
use Rattle.saphyr_machine.specs.ListedNames.{HasName, with_id}
use Rattle.saphyr_machine.proofs.ListedNames.{name_put, names_stay, on_err}
use Rattle.saphyr_machine.proofs.name_list.NameList.push.Goals as goal

pub invariant_of-self : goal.invariant_of-self
invariant_of-self c = record {
  have_texts = All-same (HasName c.args.self.now.bytes.items) c.reserve.new.self.items
      c.args.self.now.names.items c.reserve.ensures.items c.args.self.now.have_texts;
}

pub invariant_of-self-in-Break-branch-2 : goal.invariant_of-self-in-Break-branch-2
invariant_of-self-in-Break-branch-2 c =
    let old = c.args.self.now in
    let stay = names_stay old.bytes.items c.append.new.bytes.items old.names.items c.append.ensures.grows
    old.have_texts in
    record {
      have_texts = All-same (HasName c.append.new.bytes.items) c.reserve.new.self.items old.names.items
          c.reserve.ensures.items stay.0;
    }

pub invariant_of-self-2 : goal.invariant_of-self-2
invariant_of-self-2 c =
    let old = c.args.self.now in
    let after = name_put old.bytes.items c.append.new.bytes.items old.names.items c.in_ok-noted.noted
    (c.args.name.now, c.args.id) c.append.ensures.grows old.have_texts
    c.in_ok-noted.ensures.text c.in_ok-noted.ensures.name in
    record {
      have_texts = All-same (HasName c.append.new.bytes.items) c.push_reserved.new.self.items
          (old.names.items ++ c.in_ok-noted.noted ∷ [])
          (c.push_reserved.ensures.items ∙ ap (λ ns. ns ++ c.in_ok-noted.noted ∷ []) c.reserve.ensures.items)
          after.0;
    }

pub returns-in_err-noted-clause-err : goal.returns-in_err-noted-clause-err
returns-in_err-noted-clause-err c =
    let old = c.args.self.now in
    on_err c.from_residual-in_err-noted.result (ap (map (with_id c.append.new.bytes.items)) c.reserve.ensures.items
    ∙ (names_stay old.bytes.items c.append.new.bytes.items old.names.items c.append.ensures.grows old.have_texts).1)

pub returns-clause-ok : goal.returns-clause-ok
returns-clause-ok c =
    let old = c.args.self.now in
    let bytes = c.append.new.bytes.items in
    let after = name_put old.bytes.items bytes old.names.items c.in_ok-noted.noted
    (c.args.name.now, c.args.id) c.append.ensures.grows old.have_texts
    c.in_ok-noted.ensures.text c.in_ok-noted.ensures.name in
    ap (map (with_id bytes))
    (c.push_reserved.ensures.items ∙ ap (λ ns. ns ++ c.in_ok-noted.noted ∷ []) c.reserve.ensures.items)
    ∙ after.1
