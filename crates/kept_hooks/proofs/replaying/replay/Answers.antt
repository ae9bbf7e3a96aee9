use Rattle.std.proofs.Common.{[], ap, sym, ◌∙◌, Some}
use Rattle.kept_hooks.proofs.replaying.replay.Goals as goal

pub returns : goal.returns
returns g c =
    let all = c.in_ok-count.ensures.answers c.args.requests.now [] (ap Some c.new-source.ensures) (ap Some c.new-sink.ensures) in
    let done = sym c.deref.ensures.value ∙ c.in_ok-see_done.ensures in
    record { done = (all.0, all.1, all.2, all.3, ap Some (sym done) ∙ all.4, all.5) }
