use Rattle.std.proofs.Common.{arith, ◌≡◌, ◌∙◌, ◌+◌, ◌-◌, ◌<◌, ℕ, List, Bool, Some, sym, ap, cond, length, take, nat_eq}
use Rattle.std.specs.Prelude.{map}
use Rattle.std.proofs.Math.Seq.{take-length}
use Rattle.std.proofs.lemmas.List.{length-map, take-map}
use Rattle.std.specs.Cmp.Lexicographic.{pointwise}
use Rattle.saphyr_machine.specs.declared.name_list.Name.{Name}
use Rattle.saphyr_machine.specs.ListedNames.{with_id}
use Rattle.saphyr_machine.specs.Steps.Machine.{meaning}
use Rattle.saphyr_machine.specs.Names.{with_listed}
use Rattle.saphyr_machine.proofs.Names.{one_more}
use Rattle.saphyr_machine.proofs.ListedNames.{element}
use Rattle.saphyr_machine.proofs.name_list.NameList.latest_id.Goals as goal

pub loop-left-init : goal.loop-left-init
loop-left-init c =
    let r = c.args.self.now in
    let all : c.len-left.result ≡ length r.names.items = omega arith in (
      omega arith,
      omega (arith, length-map r.names.items (with_id r.bytes.items)),
      λ names. ap (λ (k : ℕ). meaning c.args.name.now
          (with_listed (map (with_id r.bytes.items) (take k r.names.items)) names)) all
          ∙ ap (λ (ns : List Name). meaning c.args.name.now (with_listed (map (with_id r.bytes.items) ns) names))
          (take-length r.names.items),
    )

pub text-requires : goal.text-requires
text-requires c =
    let r = c.args.self.now in
    let inside : c.loop-left.left - 1 < length r.names.items =
    omega (arith, c.loop-left-test.true, c.loop-left.invariant.0) in
    element r.bytes.items r.names.items (c.loop-left.left - 1) c.index-other.result.now inside
    c.index-other.ensures r.have_texts

pub returns-then-eq : goal.returns-then-eq
returns-then-eq c names =
    let name = c.args.name.now in
    let bytes = c.args.self.now.bytes.items in
    let ns = c.args.self.now.names.items in
    let n = c.loop-left.left - 1 in
    let e = c.index-other.result.now in
    let up : n + 1 ≡ c.loop-left.left = omega (arith, c.loop-left-test.true) in
    let inside : n < length ns = omega (arith, c.loop-left-test.true, c.loop-left.invariant.0) in
    let same = c.eq.ensures ∙ ap (λ (bs : List ℕ). pointwise nat_eq name bs) c.text.ensures in
    sym (c.loop-left.invariant.2 names)
    ∙ ap (λ (k : ℕ). meaning name (with_listed (map (with_id bytes) (take k ns)) names)) (sym up)
    ∙ one_more name bytes ns n e names c.eq.result inside c.index-other.ensures same
    ∙ ap (λ (b : Bool). cond b (Some e.id) (meaning name (with_listed (map (with_id bytes) (take n ns)) names)))
    c.if-eq.true

pub loop-left-preserved : goal.loop-left-preserved
loop-left-preserved c =
    let name = c.args.name.now in
    let bytes = c.args.self.now.bytes.items in
    let ns = c.args.self.now.names.items in
    let n = c.loop-left.left - 1 in
    let e = c.index-other.result.now in
    let up : n + 1 ≡ c.loop-left.left = omega (arith, c.loop-left-test.true) in
    let inside : n < length ns = omega (arith, c.loop-left-test.true, c.loop-left.invariant.0) in
    let same = c.eq.ensures ∙ ap (λ (bs : List ℕ). pointwise nat_eq name bs) c.text.ensures in (
      omega (arith, c.loop-left.invariant.0),
      omega (arith, c.loop-left-test.true, c.loop-left.invariant.1),
      λ names. sym (ap (λ (b : Bool). cond b (Some e.id)
          (meaning name (with_listed (map (with_id bytes) (take n ns)) names))) c.if-eq.false)
          ∙ sym (one_more name bytes ns n e names c.eq.result inside c.index-other.ensures same)
          ∙ ap (λ (k : ℕ). meaning name (with_listed (map (with_id bytes) (take k ns)) names)) up
          ∙ c.loop-left.invariant.2 names,
    )

pub returns : goal.returns
returns c names =
    let r = c.args.self.now in
    let first : c.loop-left.left ≡ c.args.first = omega (arith, c.loop-left-test.false, c.loop-left.invariant.1) in
    sym (c.loop-left.invariant.2 names)
    ∙ ap (λ (k : ℕ). meaning c.args.name.now
    (with_listed (map (with_id r.bytes.items) (take k r.names.items)) names)) first
    ∙ ap (λ (es : List (List ℕ × ℕ)). meaning c.args.name.now (with_listed es names))
    (sym (take-map (with_id r.bytes.items) c.args.first r.names.items))
