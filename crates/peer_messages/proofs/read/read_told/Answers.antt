use Rattle.std.proofs.Common.{◌∙◌, sym, arith}
use Rattle.record_codec.proofs.Formats.{some_is}
use Rattle.peer_messages.specs.Reading.{told_in}
use Rattle.peer_messages.proofs.Questions.{told_by}
use Rattle.peer_messages.proofs.Told.{told_known, told_read}
use Rattle.peer_messages.proofs.read.read_told.Goals as goal

pub returns-in-Ok-clause-found : goal.returns-in-Ok-clause-found
returns-in-Ok-clause-found c = told_read c.args.bytes.now c.in-Ok.told (λ i. omega (arith, c.type_inv.bytes i)) c.in-Ok.ensures

pub returns-in-Ok-clause-only : goal.returns-in-Ok-clause-only
returns-in-Ok-clause-only c = λ x h is. some_is c.in-Ok.told x (sym c.in-Ok.ensures ∙ told_known c.args.bytes.now x h is)

pub returns-in-Err-clause-only : goal.returns-in-Err-clause-only
returns-in-Err-clause-only c = λ x h is. c.of.ensures ∙ told_by c.in-Err.fault (told_in c.args.bytes.now) x c.in-Err.ensures (told_known c.args.bytes.now x h is)
