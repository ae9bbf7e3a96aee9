use Rattle.std.proofs.Common.{◌∙◌, sym, arith}
use Rattle.record_codec.proofs.Formats.{some_is}
use Rattle.peer_messages.specs.Reading.{question_in}
use Rattle.peer_messages.proofs.Questions.{told_by}
use Rattle.peer_messages.proofs.Questions.{question_known, question_read}
use Rattle.peer_messages.proofs.read.read_ask.Goals as goal

pub returns-in-Ok-clause-found : goal.returns-in-Ok-clause-found
returns-in-Ok-clause-found c = question_read c.args.bytes.now c.in-Ok.question (λ i. omega (arith, c.type_inv.bytes i)) c.in-Ok.ensures

pub returns-in-Ok-clause-only : goal.returns-in-Ok-clause-only
returns-in-Ok-clause-only c = λ x h is. some_is c.in-Ok.question x (sym c.in-Ok.ensures ∙ question_known c.args.bytes.now x h is)

pub returns-in-Err-clause-only : goal.returns-in-Err-clause-only
returns-in-Err-clause-only c = λ x h is. c.of.ensures ∙ told_by c.in-Err.fault (question_in c.args.bytes.now) x c.in-Err.ensures (question_known c.args.bytes.now x h is)
