use Rattle.std.proofs.Common.{◌≡◌}
use Rattle.dvvstore.specs.Scribing.{HasGrown}
use Rattle.dvvstore.proofs.crew.scribe.Scribe.read.Given as goal

-- what was spelled so far stands behind what was spelled before
abbrev pub invariant-loop-vnode : goal.invariant-loop-vnode
invariant-loop-vnode g l = record {
  grown : HasGrown l.fn.self.sheet l.fn.self.records l.self.sheet l.self.records;
  receipt : l.self.receipt ≡ l.fn.self.receipt;
  desk : l.self.desk ≡ l.fn.self.desk;
}
