use Rattle.std.proofs.Common.{◌++◌, ap, sym}
use Rattle.std.proofs.lemmas.Result.{on_ok_weaker}
use Rattle.record_codec.specs.Records.{state}
use Rattle.peer_remote.specs.Questions.{question_of}
use Rattle.peer_messages.specs.Messages.{part, question_text, source}
use Rattle.peer_messages.proofs.Listing.{joins}
use Rattle.peer_messages.proofs.write.put_ask.Goals as goal

pub returns-in_ok-put_head-in-Merge-clause-written : goal.returns-in_ok-put_head-in-Merge-clause-written
returns-in_ok-put_head-in-Merge-clause-written c =
    on_ok_weaker c.put_read_state.result
    (joins c.args.out.now.items _ (source c.in-Merge.from c.in-Merge.at ++ state c.in-Merge.state.now) (question_text (question_of c.args.ask.now)) _ c.put_read_state.new.out.items c.in_ok-put_head-in-Merge.ensures.written (ap (λ a. question_text (question_of a)) (sym c.in-Merge.is)))
    c.put_read_state.ensures.written

pub returns-in_ok-put_head-in-Part-clause-written : goal.returns-in_ok-put_head-in-Part-clause-written
returns-in_ok-put_head-in-Part-clause-written c =
    on_ok_weaker c.put_read_part.result
    (joins c.args.out.now.items _ (source c.in-Part.from c.in-Part.at ++ part c.in-Part.part.now) (question_text (question_of c.args.ask.now)) _ c.put_read_part.new.out.items c.in_ok-put_head-in-Part.ensures.written (ap (λ a. question_text (question_of a)) (sym c.in-Part.is)))
    c.put_read_part.ensures.written
