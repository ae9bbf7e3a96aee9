use Rattle.std.proofs.Common.{◌≡◌, ◌∙◌, ap, ℕ, List, length, refl, subst, IfErr, None}
use Rattle.std.specs.Global.{Vec}
use Rattle.world.specs.Represents.{log_at}
use Rattle.audit_faults.specs.declared.fault.AuditFault.{AuditFault}
use Rattle.audit_replay.specs.Followed.{HasFollowed}
use Rattle.audit_replay.specs.Reran.{Reran}
use Rattle.audit_replay.specs.Runs.{IsRunFrom}
use Rattle.audit_replay.specs.Wrong.{IsToldOf}
use Rattle.audit_replay.proofs.Going.{interleaved}
use Rattle.audit_replay.proofs.Opening.{on_ok}
use Rattle.audit_replay.proofs.Telling.{checked, stopped}
use Rattle.audit_replay.proofs.rerun.Rerun.go_on.Goals as goal

pub returns-in-Ok-clause-run : goal.returns-in-Ok-clause-run
returns-in-Ok-clause-run c =
    let new = c.go_on.new.self in
    let same : new.fronts.items ≡ c.args.self.now.fronts = ap (λ (v : Vec ℕ). v.items) c.go_on.ensures.fronts ∙ ap (λ (r : Reran). r.fronts) c.self.view_is in
    on_ok c.go_on.result (HasFollowed new.fronts.items new.vnodes.items new.last new.recent new.answers.items) (IsRunFrom c.args.self.now.fronts new.vnodes.items) c.go_on.ensures.run
    (λ h. subst (λ (ns : List ℕ). IsRunFrom ns new.vnodes.items) same (interleaved new.fronts.items new.vnodes.items new.last new.recent new.answers.items h))

pub returns-in-Ok-clause-told : goal.returns-in-Ok-clause-told
returns-in-Ok-clause-told c = subst (λ (r : Reran). IfErr c.go_on.result (λ (fault : AuditFault). IsToldOf r.fronts r.logs r.recent c.args.index c.args.entry fault)) c.self.view_is c.go_on.ensures.told

pub returns-in-Err-clause-told : goal.returns-in-Err-clause-told
returns-in-Err-clause-told c =
    let own = c.self.inside.followed in
    let i = c.args.index in
    let e = c.args.entry in
    let code = c.in-Err.code in
    let going : own.fault ≡ None = ap (λ (r : Reran). r.fault) c.self.view_is ∙ c.requires.going in
    let sound = c.self.invariant going in
    subst (λ (r : Reran). IfErr c.stop.result (λ (fault : AuditFault). IsToldOf r.fronts r.logs r.recent i e fault)) c.self.view_is
    (stopped c.stop.result own.fronts.items own.vnodes.items own.recent i (log_at own.vnodes.items i).vnode (length (log_at own.vnodes.items i).entries) e code c.stop.ensures.err refl refl
    (checked own.fronts.items own.vnodes.items own.last own.recent own.answers.items own.last_index i e code sound.0 sound.1 c.in-Err.ensures.err))
