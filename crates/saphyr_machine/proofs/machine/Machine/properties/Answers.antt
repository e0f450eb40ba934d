-- An anchor with a tag behind it or alone, and the other way round.
use Rattle.std.proofs.Common.{◌≡◌, rules, refl, ap, sym, ◌∙◌}
use Rattle.saphyr_scanner.specs.declared.token.TokenKind.TheVariants as code
use Rattle.saphyr_scanner.specs.Views.Tokens.{kind_with, piece_with}
use Rattle.saphyr_machine.specs.Steps.Machine.{taken_token}
use Rattle.saphyr_machine.specs.Steps.Nodes.{properties_behind_anchor, properties_behind_tag}
use Rattle.saphyr_machine.specs.Steps.Tags.{resolved_tag_at}
use Rattle.saphyr_machine.specs.Views.Events.{resolved_tag}
use Rattle.saphyr_machine.specs.Views.Machines.{machine_in}
use Rattle.saphyr_machine.proofs.Properties.{anchor_and_tag, anchor_without_tag, no_properties, not_both, resolved}
use Rattle.saphyr_machine.proofs.Properties.{tag_and_anchor, tag_without_anchor}
use Rattle.saphyr_machine.proofs.Passing.{next_in}
use Rattle.saphyr_machine.proofs.machine.Machine.properties.Goals as goal
use Rattle.saphyr_machine.proofs.machine.Machine.properties.Goals.{in-Anchor+in_ok-anchor-in-Anchor+in_ok-next-in-Anchor, in-Tag, in_default, in-Tag-next+in_ok-tag+in-Tag-kind+in_ok-peek+in-Anchor-2+in_ok-anchor, in-Tag-next+in_ok-tag+in-Tag-kind+in_ok-peek+in_default-2, in-Tag-next+in_ok-tag+in_default-kind, in_default-next}

pub returns-in_err-tag : goal.returns-in_err-tag
unfolding properties_behind_anchor properties_behind_tag
returns-in_err-tag g c more =
    let first = next_in c.args.kind c.args.self.now more c.requires in
    let span = rw first.3 at (c.span-span.ensures more) in
    let piece = piece_with first.0 c.args.kind first.1 in
    elim c.match-kind.branch [
      | in-Anchor+in_ok-anchor-in-Anchor+in_ok-next-in-Anchor w ↦
          let is = w.in-Anchor.is in
          let left = w.in_ok-anchor-in-Anchor.ensures.left more piece first.2 first.1.text first.3
          (ap (λ k. kind_with k first.1) is) in
          let shown = w.in_ok-next-in-Anchor.ensures in
          let next = next_in w.in_ok-next-in-Anchor.next w.peek.new.self more shown.0 in
          let took = ap taken_token (sym left) ∙ shown.1 more ∙ next.3 in
          let kind : w.in_ok-next-in-Anchor.next ≡ code.Tag = sym w.next-is ∙ c.in-Tag-next.is in
          let again = ap (λ m. taken_token (machine_in more m)) w.self-is ∙ next.3 in
          let tag = c.tag.ensures more (piece_with next.0 w.in_ok-next-in-Anchor.next next.1) next.2 next.1.handle
          next.1.text again (ap (λ k. kind_with k next.1) kind) in
          rw (first.3, is) (search (rules, took, kind, tag, span))
      | in-Tag w ↦
          let is = w.in-Tag.is in
          let failed = c.tag.ensures more piece first.2 first.1.handle first.1.text
          (ap (λ m. taken_token (machine_in more m)) w.self-is ∙ first.3) (ap (λ k. kind_with k first.1) is) in
          rw (first.3, is) (search (rules, span, failed))
      | in_default w ↦ absurd (w.in_default.not-Tag (sym w.next-is ∙ c.in-Tag-next.is))
    ]

pub returns-in_err-peek : goal.returns-in_err-peek
unfolding properties_behind_tag
returns-in_err-peek g c more =
    let is = c.in-Tag-kind.is in
    elim c.match-kind.branch [
      | in-Anchor+in_ok-anchor-in-Anchor+in_ok-next-in-Anchor w ↦ absurd (not_both c.args.kind w.in-Anchor.is is)
      | in-Tag w ↦
          let first = next_in c.args.kind c.args.self.now more c.requires in
          let span = rw first.3 at (c.span-span.ensures more) in
          let taken = c.in_ok-tag.ensures more (piece_with first.0 c.args.kind first.1) first.2 first.1.handle
          first.1.text (ap (λ m. taken_token (machine_in more m)) w.self-is ∙ first.3)
          (ap (λ k. kind_with k first.1) is) in
          let tag = resolved (resolved_tag_at first.2.prefixes first.1.handle first.1.text c.span-span.result.start)
          first.2 _ _ taken in
          let failed = c.in_err-peek.ensures more in
          rw (first.3, is) (search (rules, span, tag, failed))
      | in_default w ↦ absurd (w.in_default.not-Tag is)
    ]

pub returns : goal.returns
returns g c more =
    let first = next_in c.args.kind c.args.self.now more c.requires in
    let span = rw first.3 at (c.span-span.ensures more) in
    let piece = piece_with first.0 c.args.kind first.1 in
    let place = c.span-span.result.start in
    elim c.match-kind.branch [
      | in-Anchor+in_ok-anchor-in-Anchor+in_ok-next-in-Anchor v ↦
          let is = v.in-Anchor.is in
          let named = ap (λ k. kind_with k first.1) is in
          let id = v.in_ok-anchor-in-Anchor.ensures.id more piece first.2 first.1.text first.3 named in
          let left = v.in_ok-anchor-in-Anchor.ensures.left more piece first.2 first.1.text first.3 named in
          let kind = v.in_ok-next-in-Anchor.next in
          let shown = v.in_ok-next-in-Anchor.ensures in
          let next = next_in kind v.peek.new.self more shown.0 in
          let took = ap taken_token (sym left) ∙ shown.1 more ∙ next.3 in
          elim c.match-next.branch [
            | in-Tag-next+in_ok-tag+in-Tag-kind+in_ok-peek+in-Anchor-2+in_ok-anchor w ↦
                absurd (not_both c.args.kind is w.in-Tag-kind.is)
            | in-Tag-next+in_ok-tag+in-Tag-kind+in_ok-peek+in_default-2 w ↦
                absurd (not_both c.args.kind is w.in-Tag-kind.is)
            | in-Tag-next+in_ok-tag+in_default-kind w ↦
                let second : kind ≡ code.Tag = sym v.next-is ∙ w.in-Tag-next.is in
                let again = ap (λ m. taken_token (machine_in more m)) v.self-is ∙ next.3 in
                let taken = w.in_ok-tag.ensures more (piece_with next.0 kind next.1) next.2 next.1.handle next.1.text
                again (ap (λ k. kind_with k next.1) second) in
                let tag = resolved (resolved_tag_at next.2.prefixes next.1.handle next.1.text place) next.2 _ _ taken in
                let to = rw again at (w.span_into.ensures more) in
                rw (w.self-is, w.span-is, w.anchor-is, w.tag-is, v.anchor-is, id, to, span, sym tag.1, first.3, is)
                (anchor_and_tag first.2 next.2 first.1.text first.0 next.0 kind next.1
                (resolved_tag w.in_ok-tag.field-0) took second (rw span at tag.0))
            | in_default-next w ↦
                rw (w.self-is, w.span-is, w.anchor-is, w.tag-is, v.self-is, v.span-is, v.anchor-is)
                (rw (id, span, first.3, is) (anchor_without_tag first.2 _ next.2 first.1.text first.0 next.0 kind next.1
                took next.3 (λ e. w.in_default-next.not-Tag (v.next-is ∙ e))))
          ]
      | in-Tag v ↦
          let is = v.in-Tag.is in
          let named = ap (λ k. kind_with k first.1) is in
          let again = ap (λ m. taken_token (machine_in more m)) v.self-is ∙ first.3 in
          elim c.match-next.branch [
            | in-Tag-next+in_ok-tag+in-Tag-kind+in_ok-peek+in-Anchor-2+in_ok-anchor w ↦
                let taken = w.in_ok-tag.ensures more piece first.2 first.1.handle first.1.text again named in
                let tag = resolved (resolved_tag_at first.2.prefixes first.1.handle first.1.text place)
                first.2 _ _ taken in
                let kind = w.in_ok-peek.field-0 in
                let shown = w.in_ok-peek.ensures in
                let next = next_in kind w.peek-in-Tag-kind.new.self more shown.0 in
                let took = ap taken_token tag.1 ∙ shown.1 more ∙ next.3 in
                let behind = piece_with next.0 kind next.1 in
                let second = ap (λ k. kind_with k next.1) w.in-Anchor-2.is in
                let id = w.in_ok-anchor.ensures.id more behind next.2 next.1.text next.3 second in
                let left = w.in_ok-anchor.ensures.left more behind next.2 next.1.text next.3 second in
                let to = rw next.3 at (w.span_into-in-Anchor-2.ensures more) in
                rw (w.self-is, w.span-is, w.anchor-is, w.tag-is, id, to, span, left, first.3, is)
                (tag_and_anchor first.2 next.2 first.1.handle first.1.text first.0 next.0 kind next.1
                (resolved_tag w.in_ok-tag.field-0) (rw span at tag.0) took w.in-Anchor-2.is)
            | in-Tag-next+in_ok-tag+in-Tag-kind+in_ok-peek+in_default-2 w ↦
                let taken = w.in_ok-tag.ensures more piece first.2 first.1.handle first.1.text again named in
                let tag = resolved (resolved_tag_at first.2.prefixes first.1.handle first.1.text place)
                first.2 _ _ taken in
                let kind = w.in_ok-peek.field-0 in
                let shown = w.in_ok-peek.ensures in
                let next = next_in kind w.peek-in-Tag-kind.new.self more shown.0 in
                let took = ap taken_token tag.1 ∙ shown.1 more ∙ next.3 in
                let to = rw again at (w.span_into.ensures more) in
                rw (w.self-is, w.span-is, w.anchor-is, w.tag-is, v.anchor-is, to, span, first.3, is)
                (tag_without_anchor first.2 _ next.2 first.1.handle first.1.text first.0 next.0 kind next.1
                (resolved_tag w.in_ok-tag.field-0) (rw span at tag.0) took next.3 w.in_default-2.not-Anchor)
            | in-Tag-next+in_ok-tag+in_default-kind w ↦ absurd (w.in_default-kind.not-Tag is)
            | in_default-next w ↦ absurd (w.in_default-next.not-Tag (v.next-is ∙ is))
          ]
      | in_default v ↦
          elim c.match-next.branch [
            | in-Tag-next+in_ok-tag+in-Tag-kind+in_ok-peek+in-Anchor-2+in_ok-anchor w ↦
                absurd (v.in_default.not-Tag w.in-Tag-kind.is)
            | in-Tag-next+in_ok-tag+in-Tag-kind+in_ok-peek+in_default-2 w ↦
                absurd (v.in_default.not-Tag w.in-Tag-kind.is)
            | in-Tag-next+in_ok-tag+in_default-kind w ↦
                absurd (v.in_default.not-Tag (sym v.next-is ∙ w.in-Tag-next.is))
            | in_default-next w ↦
                rw (w.self-is, w.span-is, w.anchor-is, w.tag-is, v.self-is, v.span-is, v.anchor-is, span)
                (no_properties _ _ c.args.kind first.0 first.1 first.3 v.in_default.not-Anchor v.in_default.not-Tag)
          ]
    ]
