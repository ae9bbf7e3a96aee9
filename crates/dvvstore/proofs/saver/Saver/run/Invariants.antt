use Rattle.std.proofs.Common.{◌≡◌, vec_len}
use Rattle.dvvstore.specs.Asides.{AllRead}
use Rattle.dvvstore.proofs.saver.Saver.run.Given as goal

-- each pass was told more of reads alone
abbrev pub invariant-loop : goal.invariant-loop
invariant-loop g l = record {
  read : AllRead l.cluster.first l.initial.spares.items l.spares.items;
  count : vec_len l.spares ≡ vec_len l.initial.spares;
}
