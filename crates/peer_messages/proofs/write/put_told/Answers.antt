use Rattle.std.proofs.Common.{◌++◌, ap, sym}
use Rattle.std.proofs.lemmas.Result.{on_ok_weaker}
use Rattle.record_codec.specs.Records.{state}
use Rattle.peer_messages.specs.Messages.{source, summary, told_text}
use Rattle.peer_messages.proofs.Listing.{joins}
use Rattle.peer_messages.proofs.write.put_told.Goals as goal

pub returns-in_ok-push-in-State-clause-written : goal.returns-in_ok-push-in-State-clause-written
returns-in_ok-push-in-State-clause-written c =
    on_ok_weaker c.put_read_state.result
    (joins c.args.out.now.items _ (source c.in-State.from c.in-State.at ++ state c.in-State.state) (told_text c.args.told.now) _ c.put_read_state.new.out.items c.in_ok-push-in-State.ensures.items (ap told_text (sym c.in-State.is)))
    c.put_read_state.ensures.written

pub returns-in_ok-push-in-Summary-clause-written : goal.returns-in_ok-push-in-Summary-clause-written
returns-in_ok-push-in-Summary-clause-written c =
    on_ok_weaker c.put_read_summary.result
    (joins c.args.out.now.items _ (source c.in-Summary.from c.in-Summary.at ++ summary c.in-Summary.summary) (told_text c.args.told.now) _ c.put_read_summary.new.out.items c.in_ok-push-in-Summary.ensures.items (ap told_text (sym c.in-Summary.is)))
    c.put_read_summary.ensures.written
