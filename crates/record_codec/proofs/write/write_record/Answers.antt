use Rattle.std.proofs.Common.{arith}
use Rattle.record_codec.proofs.Sizes.{length-body, length-siblings}
use Rattle.record_codec.proofs.write.write_record.Goals as goal

pub put_body-requires-clause-few : goal.put_body-requires-clause-few
put_body-requires-clause-few c =
    let whole = length-body (record { key = c.args.key.now; from = c.args.from; at = c.args.at; state = c.args.state.now }) in
    let each = length-siblings c.args.state.now.siblings in
    let short = c.requires.short in
    omega arith
