use Rattle.std.proofs.Common.{refl, rules}
use Rattle.kept_file.proofs.Ending.{end_written}
use Rattle.kept_file.proofs.snapshot.write_end.Goals as goal

pub returns-clause-written : goal.returns-clause-written
returns-clause-written g c = end_written c.write_record.result c.in_ok-key.key c.args.id c.args.count c.args.count _ (g.W.Write.contents c.args.out.now) (g.W.Write.contents c.write_record.new.out) (search rules) refl (search rules) c.write_record.ensures.written
