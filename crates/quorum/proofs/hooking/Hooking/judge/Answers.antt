use Rattle.std.proofs.Common.{rules, ◌≡◌, Result, Option, Err, subst}
use Rattle.key_state.specs.declared.content.Content.{Content}
use Rattle.hook_run.specs.declared.deciding.RunFault.TheVariants.{NoMemory}
use Rattle.quorum.specs.declared.fault.QuorumFault.{QuorumFault}
use Rattle.quorum.specs.declared.fault.QuorumFault.TheVariants.{TooLarge}
use Rattle.quorum.specs.Judged.{Judges, or_same}
use Rattle.quorum.proofs.JudgedLemmas.{unruled}
use Rattle.quorum.proofs.hooking.Hooking.judge.Goals as goal

pub returns-in_err-left-clause-judges : goal.returns-in_err-left-clause-judges
returns-in_err-left-clause-judges g c =
    let j = c.judge_beside-judged.ensures.judges in
    let large : ◌≡◌ {A = Result (Option Content) QuorumFault} c.judge_beside-judged.result (Err TooLarge) = search rules in (
      Err NoMemory,
      unruled c.args.self.now.table.listed c.args.hook.now c.args.seen.now c.args.content.now c.args.siblings.now j.0 j.1
          (subst (λ r. Judges c.args.content.now j.0 (or_same c.args.content.now r)) large j.2),
      search rules,
    )
