use Rattle.std.proofs.Common.{List, subst, sym}
use Rattle.record_codec.specs.declared.record.Record.{Record}
use Rattle.kept_file.specs.Placed.{IsAmong}
use Rattle.kept_file.proofs.placing.Seen.has.Goals as goal

pub returns-then-is_same_at-clause-files : goal.returns-then-is_same_at-clause-files
returns-then-is_same_at-clause-files c = c.loop-index.invariant.0

pub returns-then-is_same_at-clause-has : goal.returns-then-is_same_at-clause-has
returns-then-is_same_at-clause-has c = λ yes. (
  c.index-files-index.result,
  (c.loop-index.index, c.loop-index-test.true, sym c.index-files-index.is),
  subst (λ (l : List Record). IsAmong l c.args.one.now) c.deref-in-Some.ensures.value (c.is_same_at.ensures c.if-is_same_at.true),
)
