use Rattle.commands.proofs.Parts.{kept}
use Rattle.commands.proofs.files.read_program.Goals as goal

pub returns : goal.returns
returns g c =
    kept (g.F.Files.held c.args.files.now c.args.name.now) c.in_ok-part.part.bytes.items c.truncate.new.self.items c.in_ok-part.part.len c.enough.result
    c.in_ok-part.ensures.bytes c.in_ok-part.ensures.len c.enough.ensures.few c.enough.ensures.alike c.truncate.ensures.items
