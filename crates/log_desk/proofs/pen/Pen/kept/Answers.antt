use Rattle.log_desk.proofs.pen.Pen.kept.Goals as goal

pub returns-then-is_some : goal.returns-then-is_some
returns-then-is_some g c = c.covered_with-covered.ensures c.args.sync
