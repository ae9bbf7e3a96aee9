use Rattle.std.proofs.Common.{◌∙◌, List, ℕ, subst}
use Rattle.audit_replay.specs.Runs.{IsRunFrom}
use Rattle.audit_follower.specs.Stops.{IsStop}
use Rattle.audit_cluster.specs.Following.{IsLong}
use Rattle.audit_cluster.proofs.Ends.{a_stop, a_yes}
use Rattle.audit_cluster.proofs.ending.follow_rest.Goals as goal

pub returns-in-Ok : goal.returns-in-Ok
returns-in-Ok c =
    let logs = c.args.vnodes.now in
    let fronts = c.args.follower.now.fronts in
    let new = c.follow.new.self in
    let long : IsLong new logs = c.has_all.ensures c.if-has_all.true in
    let run : IsRunFrom fronts new.followed = subst (λ (ns : List ℕ). IsRunFrom ns new.followed) c.in_ok-take_rest.ensures.same.2 c.in-Ok.ensures.yes in
    record { said = a_yes fronts c.args.follower.now c.take_rest.new.follower logs new.followed new.waiting c.requires.fronts c.in_ok-take_rest.ensures.taken c.in-Ok.ensures.alike long.0 long.1 run }

pub returns-in-Err : goal.returns-in-Err
returns-in-Err c =
    let fronts = c.args.follower.now.fronts in
    let old = c.args.follower.now in
    let new = c.take_rest.new.follower in
    let fault = c.in-Err.fault in
    let same = c.in_ok-take_rest.ensures.same in
    let stop : IsStop fronts new.followed new.waiting 18446744073709551615 new.recent fault =
    subst (λ (ns : List ℕ). IsStop ns new.followed new.waiting 18446744073709551615 new.recent fault) same.2 (c.in-Err.ensures.stop (same.0 ∙ c.requires.none)) in
    record { said = a_stop fronts old new c.args.vnodes.now 18446744073709551615 new.recent fault c.requires.fronts c.in_ok-take_rest.ensures.taken c.requires.size (same.1 ∙ c.requires.recent) stop }
