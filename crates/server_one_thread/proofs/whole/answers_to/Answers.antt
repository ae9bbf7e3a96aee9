use Rattle.std.proofs.Common.{ap, [], Some}
use Rattle.server_one_thread.proofs.whole.answers_to.Goals as goal

pub returns : goal.returns
returns g c = λ now changes is shows are.
    (_, c.in_ok-serve.ensures.answers now c.args.bytes.now [] changes is (ap Some c.new-source.ensures) (ap Some c.new-sink.ensures) shows are)
