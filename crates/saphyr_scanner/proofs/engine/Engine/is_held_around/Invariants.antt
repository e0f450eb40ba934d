use Rattle.std.proofs.Common.{◌≡◌, drop}
use Rattle.std.specs.Prelude.{map}
use Rattle.saphyr_scanner.specs.Steps.Fetch.{any_holds}
use Rattle.saphyr_scanner.specs.Views.Engine.{level}
use Rattle.saphyr_scanner.proofs.engine.Engine.is_held_around.Given as goal

abbrev pub invariant-loop-level : goal.invariant-loop-level
invariant-loop-level g l = record {
  others : any_holds l.place (map level (drop l.level-index l.self.outer.items))
      ≡ any_holds l.place (map level l.self.outer.items);
  place : l.place ≡ l.fn.place;
  same : l.self ≡ l.fn.self;
  items : l.level-items ≡ l.self.outer.items;
}
