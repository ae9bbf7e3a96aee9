use Rattle.peer_frames.proofs.Framing.{says_all, says_body, sent_is_taken}
use Rattle.peer_frames.proofs.laws.sent_is_taken.Goals as goal

pub returns-clause-frame : goal.returns-clause-frame
returns-clause-frame c = sent_is_taken

pub returns-clause-body : goal.returns-clause-body
returns-clause-body c = λ key body rest number short. says_body key number body rest short

pub returns-clause-len : goal.returns-clause-len
returns-clause-len c = λ key body rest number short. says_all key number body rest short
