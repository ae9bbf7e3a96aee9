use Rattle.std.proofs.Common.{add-one}
use Rattle.bpf_insn.proofs.Paired.{code_paired}
use Rattle.bpf_insn.proofs.laws.code_is_paired.Goals as goal

pub returns-clause-after_wide : goal.returns-clause-after_wide
returns-clause-after_wide c = λ code k n dst is e. rw add-one ((code_paired code is).after_wide k n dst e)

pub returns-clause-before_tail : goal.returns-clause-before_tail
returns-clause-before_tail c = λ code k is e. (code_paired code is).before_tail k (rw add-one at e)

pub returns-clause-no_tail_first : goal.returns-clause-no_tail_first
returns-clause-no_tail_first c = λ code is. (code_paired code is).no_tail_first

pub returns-clause-instructions : goal.returns-clause-instructions
returns-clause-instructions c = λ code k i is. (code_paired code is).instructions k i
