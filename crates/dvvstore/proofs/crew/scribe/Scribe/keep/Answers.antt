use Rattle.std.proofs.Common.{rules}
use Rattle.dvvstore.proofs.Scribing.{more_kept}
use Rattle.dvvstore.proofs.crew.scribe.Scribe.keep.Goals as goal

pub returns-then-is_all_kept-clause-kept : goal.returns-then-is_all_kept-clause-kept
returns-then-is_all_kept-clause-kept g c is =
    let old = c.args.self.now in
    let new = c.read_noted.new.self in
    more_kept g.L.Ledger.put g.L.Ledger.shows (λ d. d.ledger.now) old.sheet new.sheet old.records new.records old.receipt new.receipt old.desk new.desk c.read_noted.ensures.grown c.read_noted.ensures.same.0
    c.read_noted.ensures.same.1 (c.is_all_kept.ensures.kept (search rules))
