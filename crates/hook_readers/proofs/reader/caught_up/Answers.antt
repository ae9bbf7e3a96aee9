use Rattle.std.proofs.Common.{arith}
use Rattle.shared_prefix.proofs.Prefixes.{no_shorter}
use Rattle.hook_readers.proofs.Fronts.{changes_prefix}
use Rattle.hook_readers.proofs.reader.caught_up.Goals as goal

pub returns-clause-whole : goal.returns-clause-whole
returns-clause-whole g c =
    let l = c.longer.ensures in
    no_shorter c.args.front.now c.args.known.now c.longer.result l.one l.this (omega arith)

pub returns-clause-later : goal.returns-clause-later
returns-clause-later g c = changes_prefix c.args.known.now c.longer.result c.longer.ensures.that
