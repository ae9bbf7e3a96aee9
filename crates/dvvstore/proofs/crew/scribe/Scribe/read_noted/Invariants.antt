use Rattle.std.proofs.Common.{◌≡◌}
use Rattle.dvvstore.specs.Scribing.{HasGrown}
use Rattle.dvvstore.proofs.crew.scribe.Scribe.read_noted.Given as goal

-- what was spelled so far stands behind what was spelled before
abbrev pub invariant-loop-key : goal.invariant-loop-key
invariant-loop-key g l = record {
  grown : HasGrown l.fn.self.sheet l.fn.self.records l.self.sheet l.self.records;
  receipt : l.self.receipt ≡ l.fn.self.receipt;
  desk : l.self.desk ≡ l.fn.self.desk;
}
