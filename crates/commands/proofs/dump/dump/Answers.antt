use Rattle.std.proofs.Common.{rules}
use Rattle.commands.proofs.Dumping.{last_reply, all_written, up_to_bad}
use Rattle.commands.proofs.dump.dump.Goals as goal

pub write_last-requires : goal.write_last-requires
write_last-requires g c = last_reply c.args.table.now.listed c.deref.result.now c.args.vnode _ c.in-Ok.dumping c.in-Done.world c.replies.result.now c.in-Done.is c.in-Ok.ensures c.replies.ensures

pub returns-in-Done-clause-dumped : goal.returns-in-Done-clause-dumped
returns-in-Done-clause-dumped g c =
    all_written c.args.table.now.listed c.deref.result.now c.in_ok-script.script.items c.args.vnode c.in-Ok.text.bytes.items c.in-Ok.dumping c.in-Done.world c.replies.result.now
    (g.F.Files.held c.args.files.now c.args.paths.script.now) (g.F.Files.held c.write_last.new.files c.args.paths.file.now) (g.O.Write.contents c.args.streams.now.out) (g.O.Write.contents c.write_all-2.new.self) (g.O.Write.contents c.write_last.new.out)
    c.write_last.result c.in-Done.is c.in-Ok.ensures c.deref.ensures.value c.in_ok-script.ensures (search rules) c.replies.ensures c.write_last.ensures.wrote

pub returns-clause-dumped : goal.returns-clause-dumped
returns-clause-dumped g c =
    up_to_bad c.args.table.now.listed c.deref.result.now c.in_ok-script.script.items c.args.vnode c.in-Ok.text.bytes.items c.in-Ok.dumping c.in-BadLine.why
    (g.F.Files.held c.args.files.now c.args.paths.script.now) (g.F.Files.held c.args.files.now c.args.paths.file.now) (g.O.Write.contents c.args.streams.now.out) (g.O.Write.contents c.write_all-2.new.self)
    c.in-BadLine.is c.in-Ok.ensures c.deref.ensures.value c.in_ok-script.ensures (search rules)
