use Rattle.std.proofs.Common.{◌≡◌, ◌<◌, length, sym, subst, arith}
use Rattle.journal.specs.Entry.{Entry, Put}
use Rattle.journal.specs.Journals.{MayFollow}
use Rattle.journal.specs.Logs.{Log}
use Rattle.journal.specs.Replay.{IsReplay}
use Rattle.world.specs.Represents.{log_at}
use Rattle.audit_replay.specs.Interleaved.{known_before}
use Rattle.audit_replay.proofs.laws.steps_are_known.Goals as goal

pub returns-clause-state : goal.returns-clause-state
returns-clause-state c = λ begin fronts logs run number step key state at leaves.
    let m = run.moments number step at in
    c.replays_are_known.ensures.state m.now (known_before run.happened number) step.vnode key state m.represents (let inside = m.entry.0 in let size = m.size in omega (arith, inside, size))
    (subst (λ (l : Log). IsReplay l.entries key state) (sym m.front) leaves)

pub returns-clause-dot : goal.returns-clause-dot
returns-clause-dot c = λ begin fronts logs run number step stamp key seen content dot at is.
    let m = run.moments number step at in
    let inside : step.vnode < length m.now = (let entry = m.entry.0 in let size = m.size in omega (arith, entry, size)) in
    let follows = subst (λ (e : Entry). MayFollow (log_at m.now step.vnode).vnode (log_at m.now step.vnode).entries e) is m.follows in
    (c.puts_are_of_world.ensures m.now (known_before run.happened number) step.vnode stamp key seen content dot m.represents inside
    (subst (λ n. MayFollow n (log_at m.now step.vnode).entries (Put stamp key seen content dot)) (m.represents.ids step.vnode inside) follows)).0
