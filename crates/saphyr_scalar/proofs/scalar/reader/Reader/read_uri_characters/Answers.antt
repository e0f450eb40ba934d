use Rattle.saphyr_scalar.proofs.Common.{sym, ◌∙◌, cursor_of}
use Rattle.saphyr_scalar.proofs.Plain.Pieces.{moves_refused}
use Rattle.saphyr_scalar.proofs.Properties.BareCharacters.{bare_turn}
use Rattle.saphyr_scalar.proofs.Properties.UriTurns.{escape_refused, escape_on, escape_shorter, bare_ends}
use Rattle.saphyr_scalar.proofs.scalar.reader.Reader.read_uri_characters.Goals as goal

pub returns-in_err-c : goal.returns-in_err-c
returns-in_err-c g c =
    let turn = bare_turn c.args.set c.args.start _ _ (cursor_of c.loop-self.self)
    (cursor_of c.read_bare_characters.new.self) (cursor_of c.look.new.self) _ c.in_ok-read_bare_characters.ensures
    c.look.ensures.value c.look.ensures.same in
    moves_refused _ _ _ c.in_err-c.field-0.0 c.from_residual-in_err-c.ensures.1
    (sym c.loop-self.invariant
    ∙ escape_refused c.args.set c.args.start _ _ (cursor_of c.loop-self.self) (cursor_of c.look.new.self) _ _
    turn c.if-look-ne37.false c.in_err-c.ensures)

pub loop-self-smaller : goal.loop-self-smaller
loop-self-smaller g c =
    let turn = bare_turn c.args.set c.args.start _ _ (cursor_of c.loop-self.self)
    (cursor_of c.read_bare_characters.new.self) (cursor_of c.look.new.self) _ c.in_ok-read_bare_characters.ensures
    c.look.ensures.value c.look.ensures.same in
    escape_shorter c.args.set c.args.start _ _ (cursor_of c.loop-self.self) (cursor_of c.look.new.self) _ _ _
    turn c.if-look-ne37.false c.in_ok-c.ensures

pub loop-self-preserved : goal.loop-self-preserved
loop-self-preserved g c =
    let turn = bare_turn c.args.set c.args.start _ _ (cursor_of c.loop-self.self)
    (cursor_of c.read_bare_characters.new.self) (cursor_of c.look.new.self) _ c.in_ok-read_bare_characters.ensures
    c.look.ensures.value c.look.ensures.same in
    escape_on c.args.set c.args.start _ _ (cursor_of c.loop-self.self) (cursor_of c.look.new.self) _ _ _ _
    turn c.if-look-ne37.false c.in_ok-c.ensures c.in_ok-push.ensures.bytes ∙ c.loop-self.invariant

pub returns : goal.returns
returns g c =
    let turn = bare_turn c.args.set c.args.start _ _ (cursor_of c.loop-self.self)
    (cursor_of c.read_bare_characters.new.self) (cursor_of c.look.new.self) _ c.in_ok-read_bare_characters.ensures
    c.look.ensures.value c.look.ensures.same in
    sym c.loop-self.invariant
    ∙ bare_ends c.args.set c.args.start _ _ (cursor_of c.loop-self.self) (cursor_of c.look.new.self) _
    turn c.if-look-ne37.true

pub invariant_of-self : goal.invariant_of-self
invariant_of-self g c = record { fits = c.look.new.self.fits; column = c.look.new.self.column }
