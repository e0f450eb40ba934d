-- The reader goes on over what came behind its text.
use Rattle.std.proofs.Common.{◌≡◌, ◌++◌, List, [], ℕ, Option, sym, ap, subst, ◌∙◌}
use Rattle.std.specs.Prelude.{string_bytes}
use Rattle.std.specs.Str.{chars}
use Rattle.std.proofs.lemmas.List.{append-nil}
use Rattle.std.proofs.lemmas.Str.{chars-nil}
use Rattle.saphyr_scanner.specs.Views.Scanning.{text_in}
use Rattle.saphyr_machine.specs.Cursor.{EventCursor}
use Rattle.saphyr_machine.specs.declared.reader.EventReader.{EventReader}
use Rattle.saphyr_machine.specs.Views.Readers.{cursor_in, scanning_of}
use Rattle.saphyr_pieces.specs.declared.owned.OwnedText.{OwnedText}
use Rattle.saphyr_pieces.specs.declared.pieces.passed.Passed.{Passed}
use Rattle.saphyr_pieces.specs.Passed.{passed_tokens}
use Rattle.saphyr_pieces.specs.Views.{AreIdleBefore, place_in}
use Rattle.saphyr_pieces.proofs.IdleTokens.{idle_over}
use Rattle.saphyr_pieces.proofs.Places.{takes_in}
use Rattle.saphyr_pieces.proofs.Stepping.{sound_leading}
use Rattle.saphyr_pieces.proofs.pieces.PieceReader.take_in.Goals as goal
use Rattle.saphyr_pieces.proofs.pieces.PieceReader.take_in.Goals.{After-extend_copy}

-- where the reader is over its text and what came
there : (c : After-extend_copy) (later : List ℕ)
    → cursor_in later c.extend_copy.new.self.reader
    ≡ cursor_in (chars (string_bytes c.args.self.now.more) ++ text_in c.args.growth later []) c.args.self.now.reader
there c later =
    ap (λ (r : EventReader OwnedText). cursor_in later r) c.extend_copy.ensures.reader
    ∙ c.in_ok-grow.ensures.cursor later
    ∙ ap (λ (bs : List ℕ). cursor_in (chars bs ++ text_in c.args.growth later []) c.args.self.now.reader) c.deref.ensures

pub returns-clause-at : goal.returns-clause-at
returns-clause-at c later =
    ap (λ (o : Option Passed). place_in later (passed_tokens o) c.extend_copy.new.self.reader) c.extend_copy.ensures.passed
    ∙ takes_in c.args.self.now c.args.growth c.extend_copy.new.self.reader c.requires.wants
    (there (goal.at.returns-clause-at c).After-extend_copy) later

pub returns-clause-more : goal.returns-clause-more
returns-clause-more c = ap chars c.clear.ensures.bytes ∙ chars-nil

-- what came is the reader's, and nothing waits behind that
goes_over : (new middle old : EventReader OwnedText) (none came bytes : List ℕ) → new ≡ middle
    → (scanning_of middle).state.core.cursor.rest ≡ (scanning_of old).state.core.cursor.rest ++ chars came
    → came ≡ bytes → none ≡ []
    → (scanning_of new).state.core.cursor.rest ++ none ≡ (scanning_of old).state.core.cursor.rest ++ chars bytes
goes_over new middle old none came bytes same rest is nothing =
    let before = (scanning_of old).state.core.cursor.rest in
    ap (λ (r : EventReader OwnedText). (scanning_of r).state.core.cursor.rest ++ none) same
    ∙ ap (λ (cs : List ℕ). cs ++ none) rest
    ∙ ap (λ (cs : List ℕ). (before ++ chars came) ++ cs) nothing
    ∙ append-nil (before ++ chars came)
    ∙ ap (λ (bs : List ℕ). before ++ chars bs) is

pub returns-clause-waits : goal.returns-clause-waits
returns-clause-waits c =
    goes_over c.extend_copy.new.self.reader _ c.args.self.now.reader (chars (string_bytes c.clear.new.self)) _
    (string_bytes c.args.self.now.more) c.extend_copy.ensures.reader c.in_ok-grow.ensures.rest c.deref.ensures
    (ap chars c.clear.ensures.bytes ∙ chars-nil)

pub returns-clause-sound : goal.returns-clause-sound
returns-clause-sound c =
    let over = there (goal.at.returns-clause-sound c).After-extend_copy in
    let old = c.args.self.now in
    let reader = c.extend_copy.new.self.reader in
    sound_leading old _ c.requires.wants c.extend_copy.ensures.source
    (ap (λ (v : EventCursor). v.kept) (over [])) (ap (λ (v : EventCursor). v.current) (over []))
    (λ leads. c.extend_copy.ensures.copied old.reader reader leads over)
    (subst (λ (o : Option Passed). AreIdleBefore (passed_tokens o) reader) (sym c.extend_copy.ensures.passed)
    (idle_over (passed_tokens old.passed) old.reader reader
    (λ later. chars (string_bytes old.more) ++ text_in c.args.growth later []) over c.requires.sound.idle))
    c.requires.sound
