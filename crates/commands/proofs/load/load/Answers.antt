use Rattle.std.proofs.Common.{ap, ◌∙◌}
use Rattle.commands.specs.Records.{fault_text}
use Rattle.commands.proofs.Loading.{loaded_file, faulty_file}
use Rattle.commands.proofs.load.load.Goals as goal

pub returns-in-Ok-clause-loaded : goal.returns-in-Ok-clause-loaded
returns-in-Ok-clause-loaded g c =
    loaded_file c.args.table.now.listed c.args.incarnation c.deref.result.now c.in_ok-bytes.bytes.items c.deref-in-Ok-2.result.now c.in_ok-script.script.items c.deref-in-Ok.result.now c.in-Ok.records.items
    (g.F.Files.held c.args.files.now c.args.paths.file.now) (g.F.Files.held c.args.files.now c.args.paths.script.now) (g.O.Write.contents c.args.streams.now.out) (g.O.Write.contents c.run_loaded.new.streams.out) c.run_loaded.result
    c.deref-in-Ok.ensures.value c.deref.ensures.value c.deref-in-Ok-2.ensures.value c.in_ok-bytes.ensures c.in_ok-script.ensures c.in-Ok.ensures.records c.run_loaded.ensures.loaded

pub returns-in-Err-Faulty-clause-loaded : goal.returns-in-Err-Faulty-clause-loaded
returns-in-Err-Faulty-clause-loaded g c =
    faulty_file c.args.table.now.listed c.args.incarnation c.deref.result.now c.in_ok-bytes.bytes.items c.in_ok-script.script.items c.fault_number.result.now
    (g.F.Files.held c.args.files.now c.args.paths.file.now) (g.F.Files.held c.args.files.now c.args.paths.script.now) (g.O.Write.contents c.args.streams.now.out) (g.O.Write.contents c.tell_refused.new.out)
    _ c.in-Err-Faulty.place c.in-Err-Faulty.fault c.in-Err-Faulty.field-0 c.tell_refused.result c.in-Err-Faulty.field-0-is c.in-Err-Faulty.ensures.unread c.deref.ensures.value c.in_ok-bytes.ensures c.in_ok-script.ensures
    (c.fault_number.ensures ∙ ap fault_text c.in-Err-Faulty.fault-is) c.in-Err-Faulty.place-is c.tell_refused.ensures.status c.tell_refused.ensures.told
