use Rattle.std.proofs.Common.{arith}
use Rattle.std.proofs.lemmas.Grind.{common_steps}
use Rattle.std.proofs.lemmas.List.{drop-drop}
use Rattle.record_codec.specs.Records.{body_length}
use Rattle.record_codec.proofs.read.frame_at.Goals as goal

pub returns-clause-digest : goal.returns-clause-digest
returns-clause-digest c =
    let head = drop-drop 4 4 c.args.bytes.now in
    let back = drop-drop (body_length c.args.bytes.now) 8 c.args.bytes.now in
    grind (arith, common_steps)
