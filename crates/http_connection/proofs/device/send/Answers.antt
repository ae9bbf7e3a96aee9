use Rattle.std.proofs.Common.{◌∙◌}
use Rattle.http_connection.proofs.DeviceLemmas.{Sends-more}
use Rattle.http_connection.proofs.device.send.Goals as goal

pub loop-rest-preserved : goal.loop-rest-preserved
loop-rest-preserved g c =
    let inv = c.loop-rest.invariant in (
      Sends-more _ _ _ c.args.bytes.now c.loop-rest.rest.now c.in_ok-n.n inv.0 c.in_ok-n.ensures.bytes,
      c.in_ok-n.ensures.counted ∙ inv.1,
    )
