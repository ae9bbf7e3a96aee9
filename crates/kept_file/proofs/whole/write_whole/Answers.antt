use Rattle.std.proofs.Common.{rules}
use Rattle.kept_file.proofs.Held.{whole_file}
use Rattle.kept_file.proofs.whole.write_whole.Goals as goal

pub returns-clause-whole : goal.returns-clause-whole
returns-clause-whole g c =
    let held = c.in_ok-held.held.items in
    let file = whole_file c.id-id.result _ c.len-at.result _ c.len.result c.deref.result.now held (g.W.Write.contents c.args.out.now) (g.W.Write.contents c.write_held.new.out) (g.W.Write.contents c.write_end.new.out)
    c.id-id.ensures (search rules) c.deref.ensures.value (search rules) c.in_ok-write_held.ensures.written c.in_ok-write_end.ensures.written in
    (held, file.0, c.in_ok-held.ensures.keys, c.in_ok-held.ensures.states, search rules, file.1, file.2)
