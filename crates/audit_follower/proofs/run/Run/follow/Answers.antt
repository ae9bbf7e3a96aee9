use Rattle.std.proofs.Common.{◌≡◌, ◌∙◌, ◌<◌, ℕ, List, refl, sym, subst}
use Rattle.std.proofs.lemmas.Option.{same_Some}
use Rattle.journal.specs.Entry.{Entry}
use Rattle.journal.specs.Logs.{Log}
use Rattle.world.specs.Represents.{with_entry_at}
use Rattle.audit_follower.specs.Waiting.{AreTakenAlike, count_waiting}
use Rattle.journal.specs.Stamps.{stamp_of}
use Rattle.audit_faults.specs.declared.fault.AuditFault.{AuditFault}
use Rattle.audit_replay.specs.declared.kept.Recent.{Recent}
use Rattle.audit_replay.specs.Runs.{IsRunFrom}
use Rattle.audit_replay.specs.Wrong.{IsToldOf}
use Rattle.audit_follower.specs.Stops.{IsStop}
use Rattle.audit_replay.proofs.Opening.{on_any_err, passed}
use Rattle.audit_replay.proofs.Staying.{goes_on_entry, goes_on_same, goes_on_then}
use Rattle.audit_follower.proofs.Turns.{waits_less, alike_more}
use Rattle.audit_follower.proofs.run.Run.follow.Goals as goal

pub loop-index-smaller : goal.loop-index-smaller
loop-index-smaller c =
    let waiting = c.loop-index.self.waiting.items in
    let next = c.in_ok-step.ensures.next in
    subst (λ (w : List (List Entry)). count_waiting w < count_waiting waiting) (sym next.3) (waits_less waiting c.in-Some.index next.0 next.1)

pub loop-index-init : goal.loop-index-init
loop-index-init c = record {
  size = c.requires.size;
  going = c.requires.going;
  run = c.requires.run;
  fronts = refl;
  recent = refl;
  longer = goes_on_same c.args.self.now.rerun.logs;
  alike = record { size = refl; vnodes = λ index. refl; entries = λ index. refl };
}

pub loop-index-preserved : goal.loop-index-preserved
loop-index-preserved c =
    let first = c.args.self.now.rerun.logs in
    let waited = c.args.self.now.waiting.items in
    let logs = c.loop-index.self.rerun.logs in
    let waiting = c.loop-index.self.waiting.items in
    let i = c.in-Some.index in
    let next = c.in_ok-step.ensures.next in
    record {
      size = c.in_ok-step.ensures.size;
      going = c.in_ok-step.ensures.going;
      run = subst (λ (ns : List ℕ). IsRunFrom ns c.step.new.self.rerun.logs) c.loop-index.invariant.fronts c.in_ok-step.ensures.run;
      fronts = c.in_ok-step.ensures.fronts ∙ c.loop-index.invariant.fronts;
      recent = c.in_ok-step.ensures.recent ∙ c.loop-index.invariant.recent;
      longer = goes_on_then first logs c.step.new.self.rerun.logs c.loop-index.invariant.longer (goes_on_entry i logs c.step.new.self.rerun.logs next.0 c.in-Some.ensures.0 next.2);
      alike = subst (λ (l : List Log). AreTakenAlike first waited l c.step.new.self.waiting.items) (sym next.2)
          (subst (λ (w : List (List Entry)). AreTakenAlike first waited (with_entry_at logs i next.0) w) (sym next.3)
          (alike_more first waited logs waiting i next.0 c.loop-index.invariant.alike c.in-Some.ensures.0 next.1));
    }

pub returns-in_err-step-clause-stays : goal.returns-in_err-step-clause-stays
returns-in_err-step-clause-stays c =
    on_any_err c.from_residual.result _ (goes_on_then c.args.self.now.rerun.logs c.loop-index.self.rerun.logs c.step.new.self.rerun.logs c.loop-index.invariant.longer c.in_err-step.ensures.stays)

pub returns-in_err-step-clause-stop : goal.returns-in_err-step-clause-stop
returns-in_err-step-clause-stop c =
    let own = c.args.self.now in
    let now = c.loop-index.self in
    let head = c.in-Some.ensures.1 in
    let told = c.in_err-step.ensures.told in
    let same : head.0 ≡ told.0 = same_Some head.0 told.0 (sym head.1 ∙ told.1) in
    passed c.from_residual.result _ (λ (fault : AuditFault). IsStop own.rerun.fronts own.rerun.logs own.waiting.items c.args.below own.rerun.recent fault) c.from_residual.ensures.1 (record {
      logs = now.rerun.logs;
      waiting = now.waiting.items;
      alike = c.loop-index.invariant.alike;
      run = c.loop-index.invariant.run;
      index = c.in-Some.index;
      entry = told.0;
      inside = c.in-Some.ensures.0;
      next = told.1;
      bound = subst (λ (e : Entry). stamp_of e < c.args.below) same head.2;
      told = subst (λ (ns : List ℕ). IsToldOf ns now.rerun.logs own.rerun.recent c.in-Some.index told.0 c.in_err-step.field-0.0) c.loop-index.invariant.fronts
          (subst (λ (r : Recent). IsToldOf now.rerun.fronts now.rerun.logs r c.in-Some.index told.0 c.in_err-step.field-0.0) c.loop-index.invariant.recent told.2);
    })
