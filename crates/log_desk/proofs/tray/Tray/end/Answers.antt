use Rattle.std.proofs.Common.{◌≡◌, ◌++◌, ◌∷◌, [], rules}
use Rattle.log_writer.specs.declared.sheet.Sheet.{Sheet}
use Rattle.log_desk.proofs.tray.Tray.end.Goals as goal

pub returns-clause-ended : goal.returns-clause-ended
returns-clause-ended g c =
    let end : Sheet = record { bytes = c.in_ok-bytes.bytes } in
    let upto : c.take.result.upto ≡ c.args.self.now.buffer.upto ++ end ∷ [] = search rules in
    (end, upto, search rules)
