-- What is read is so, whatever comes.
use Rattle.std.proofs.Common.{◌≡◌, true, rules, refl, subst}
use Rattle.saphyr_scanner.specs.Steps.Fetch.{is_at_start, needs_token}
use Rattle.saphyr_scanner.specs.Views.Engine.{state}
use Rattle.saphyr_scanner.specs.Views.Scanning.{Readies, Scanning, is_decided, is_growing}
use Rattle.saphyr_scanner.proofs.Handing.Grown.{fills_at_start, fills_growing}
use Rattle.saphyr_scanner.proofs.Handing.Turns.{readies}
use Rattle.saphyr_scanner.proofs.scanner.Scanner.read_growing.Goals as goal

pub returns-then-starts-clause-read : goal.returns-then-starts-clause-read
returns-then-starts-clause-read g c =
    let starts : is_at_start (state c.self.inside.engine).core ≡ true = search rules in
    let needed : needs_token (state c.self.inside.engine) ≡ true = search rules in
    readies c.takes_characters_off.ensures c.self.view_is refl
    (fills_at_start _ _ _ starts needed refl c.read_tokens-read.ensures)

pub returns-then-is_decided-clause-read : goal.returns-then-is_decided-clause-read
returns-then-is_decided-clause-read g c =
    let laws = c.takes_characters_off.ensures in
    let read : Scanning = record {
      state = state c.read_tokens-read.new.self;
      limit = c.self.inside.limit;
      growth = c.self.inside.growth;
      stop = c.read_tokens-read.new.self.stop;
    } in
    let grows : is_growing read.growth ≡ true = search rules in
    let decided : is_decided c.read_tokens-read.result read.state.core.cursor.rest read.stop ≡ true =
    search rules in
    let same : read ≡ record read { state = state c.is_decided.new.self; stop = c.is_decided.new.self.stop } =
    search rules in
    subst (Readies c.read_tokens-read.result c.args.self.now) same (readies laws {new = read} c.self.view_is refl
    (fills_growing laws _ _ _ grows refl decided c.read_tokens-read.ensures))
