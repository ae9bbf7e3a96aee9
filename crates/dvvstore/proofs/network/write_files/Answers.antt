use Rattle.std.proofs.Common.{◌∙◌}
use Rattle.dvvstore.proofs.Putting.{none_put, put_all}
use Rattle.dvvstore.proofs.network.write_files.Goals as goal

pub returns-in-Ok-Some : goal.returns-in-Ok-Some
returns-in-Ok-Some g c =
    let some = rw c.in-Ok-Some.field-0-is at c.in-Ok-Some.ensures.some in
    record {
      put = put_all g.F.Folder.does c.args.vnodes.now c.args.requests.now c.deref.result.now c.args.folder.now c.keep_all.new.folder c.keep_all.result
          (some.0, c.deref.ensures.value ∙ some.1) c.keep_all.ensures.put;
    }

pub returns-in_default : goal.returns-in_default
returns-in_default g c = record { put = none_put g.F.Folder.does c.args.vnodes.now c.args.folder.now c.keep_all-in_default.new.folder _ c.keep_all-in_default.result c.keep_all-in_default.ensures.put }
