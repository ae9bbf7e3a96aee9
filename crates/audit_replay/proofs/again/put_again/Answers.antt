use Rattle.audit_replay.proofs.Legal.{put_refused, told}
use Rattle.audit_replay.proofs.again.put_again.Goals as goal

pub returns-in_err-put-clause-illegal : goal.returns-in_err-put-clause-illegal
returns-in_err-put-clause-illegal c is follows = put_refused c.args.vnode.now c.args.write.value.key c.args.write.value.seen c.in_err-put.field-0.0 c.in_err-put.ensures.why (told c.from_residual-in_err-put.result _ c.from_residual-in_err-put.ensures.1 is) follows.0
