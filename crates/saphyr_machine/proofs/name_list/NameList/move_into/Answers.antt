use Rattle.std.proofs.Common.{arith, ◌≡◌, ◌∙◌, ℕ, List, ap, length, take, drop}
use Rattle.std.specs.Prelude.{map}
use Rattle.std.proofs.Math.Seq.{take-length}
use Rattle.std.proofs.lemmas.List.Elements.{All-drop, All-same}
use Rattle.saphyr_machine.specs.declared.name_list.Name.{Name}
use Rattle.saphyr_machine.specs.ListedNames.{HasName, with_id}
use Rattle.saphyr_machine.specs.Steps.Machine.{Names}
use Rattle.saphyr_machine.specs.Names.{ids_of, with_listed}
use Rattle.saphyr_machine.proofs.ListedNames.{left_behind}
use Rattle.saphyr_machine.proofs.Names.{rest_listed}
use Rattle.saphyr_machine.proofs.name_list.NameList.move_into.Goals as goal

pub invariant_of-self : goal.invariant_of-self
invariant_of-self c =
    let r = c.args.self.now in
    let n = c.put_into-moved.result in
    let all : c.len.result ≡ length r.names.items = omega arith in
    record {
      have_texts = All-same (HasName r.bytes.items) c.truncate.new.self.items (drop n r.names.items)
          (left_behind r.names.items c.rotate_left.new.self.items c.truncate.new.self.items n c.len.result
          c.rotate_left.ensures.items all c.truncate.ensures.items)
          (All-drop (HasName r.bytes.items) n r.names.items r.have_texts);
    }

pub returns-then-left-gt0-clause-same : goal.returns-then-left-gt0-clause-same
returns-then-left-gt0-clause-same c =
    let r = c.args.self.now in
    let n = c.put_into-moved.result in
    let all : c.len.result ≡ length r.names.items = omega arith in
    ap (λ (xs : List Name). with_listed (map (with_id r.bytes.items) xs) (ids_of c.put_into-moved.new.ids))
    (left_behind r.names.items c.rotate_left.new.self.items c.truncate.new.self.items n c.len.result
    c.rotate_left.ensures.items all c.truncate.ensures.items)
    ∙ ap (λ (names : Names ℕ). with_listed (map (with_id r.bytes.items) (drop n r.names.items)) names)
    c.put_into-moved.ensures.put
    ∙ rest_listed r.bytes.items r.names.items n (ids_of c.args.ids.now)

pub returns-clause-same : goal.returns-clause-same
returns-clause-same c =
    let r = c.args.self.now in
    let all : c.put_into-moved.result ≡ length r.names.items =
    omega (arith, c.if-left-gt0.false, c.put_into-moved.ensures.bound, c.len.ensures) in
    ap (λ (es : List (List ℕ × ℕ)). with_listed es (ids_of c.put_into-moved.new.ids)) c.clear.ensures
    ∙ c.put_into-moved.ensures.put
    ∙ ap (λ (k : ℕ). with_listed (map (with_id r.bytes.items) (take k r.names.items)) (ids_of c.args.ids.now)) all
    ∙ ap (λ (ns : List Name). with_listed (map (with_id r.bytes.items) ns) (ids_of c.args.ids.now))
    (take-length r.names.items)
