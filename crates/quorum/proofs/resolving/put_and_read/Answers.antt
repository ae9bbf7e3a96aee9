use Rattle.std.proofs.Common.{Ok, Err, ap, sym, ◌∙◌}
use Rattle.quorum.specs.Resolves.{told_of}
use Rattle.quorum.proofs.ResolveLemmas.{both_made, told_both}
use Rattle.quorum.proofs.resolving.put_and_read.Goals as goal

pub returns-in-Ok-default-Ok : goal.returns-in-Ok-default-Ok
returns-in-Ok-default-Ok g c =
    let w = c.in-Ok-default-Ok in
    both_made g.P.Peers.happens c.args.peers.now c.put_and_read_at.new.self c.args.coordinator c.args.key.now c.args.seen.now c.args.content.now c.put_and_read_at.result (Ok w.own.state) c.put_and_read_at.ensures (sym (ap told_both w.is ∙ ap told_of w.field-0-1-is))

pub returns-in-Ok-default-Err : goal.returns-in-Ok-default-Err
returns-in-Ok-default-Err g c =
    let w = c.in-Ok-default-Err in
    both_made g.P.Peers.happens c.args.peers.now c.put_and_read_at.new.self c.args.coordinator c.args.key.now c.args.seen.now c.args.content.now c.put_and_read_at.result (Err w.fault) c.put_and_read_at.ensures (sym (ap told_both w.is ∙ ap told_of w.field-0-1-is))
