use Rattle.audit_replay.proofs.Legal.{merge_refused, told}
use Rattle.audit_replay.proofs.again.merge_again.Goals as goal

pub returns-in_err-merge-clause-illegal : goal.returns-in_err-merge-clause-illegal
returns-in_err-merge-clause-illegal c is accepts = merge_refused c.args.vnode.now c.args.merged.value.key c.args.merged.value.state c.in_err-merge.field-0.0 c.in_err-merge.ensures.why (told c.from_residual-in_err-merge.result _ c.from_residual-in_err-merge.ensures.1 is) accepts
