use Rattle.std.proofs.Common.{◌≡◌}
use Rattle.kept_file.proofs.Standing.{Progress}
use Rattle.kept_file.proofs.placing.add_file.Given as goal

-- those before were looked at
abbrev pub invariant-loop-one : goal.invariant-loop-one
invariant-loop-one l = record {
  looked : Progress l.stand.placement.now l.stand.vnode l.earlier l.fn.records.items l.file.records.items l.records.items l.one-index;
  files : l.seen.files.now ≡ l.earlier;
}
