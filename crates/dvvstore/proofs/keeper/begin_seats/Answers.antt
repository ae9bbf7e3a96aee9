use Rattle.std.proofs.Common.{refl}
use Rattle.dvvstore.specs.Visits.{begun}
use Rattle.dvvstore.proofs.Serving.{last_changed, starts_where}
use Rattle.dvvstore.proofs.keeper.begin_seats.Goals as goal

pub returns-clause-starts : goal.returns-clause-starts
returns-clause-starts g c = λ size.
    starts_where g.H.HookChanges.takes (λ h. h.now) c.args.held c.in-Some.held _ _ _ c.in-Some.is
    (last_changed g.H.HookChanges.takes (λ s. begun size s.pass s.hooking.hooks s.hooking.table.listed s.placement) c.in-Some.held.now c.args.seats.now.items c.push_reserved.new.self.items
    c.pop.new.self.items c.in-Some-pop.seat _ _ _ c.in-Some-pop.ensures.items c.push_reserved.ensures.items refl c.in_ok-lookout.ensures.made)
