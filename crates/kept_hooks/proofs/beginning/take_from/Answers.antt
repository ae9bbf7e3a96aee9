use Rattle.std.proofs.Common.{◌≡◌, Result, Ok, Err, false, arith, refl, sym, ◌∙◌, subst}
use Rattle.std.specs.Result.{is_err}
use Rattle.hook_registry.specs.Changes as registry
use Rattle.hook_registry.specs.declared.fault.HookFault.{HookFault}
use Rattle.kept_hooks.proofs.Begins.{taken_more}
use Rattle.kept_hooks.proofs.beginning.take_from.Goals as goal

-- what is no error is done
ok_of : (r : Result Unit HookFault) → is_err r ≡ false → r ≡ Ok tt
ok_of (Ok tt) h = refl
ok_of (Err e) h = cc

pub loop-one-preserved : goal.loop-one-preserved
loop-one-preserved g c =
    let done : c.remove.result ≡ Ok tt = ok_of c.remove.result (sym c.is_err.ensures.value ∙ c.if-is_err.false) in
    taken_more g.H.HookChanges.takes c.args.refused.now c.loop-one.one-index c.one-item.result c.args.hooks.now c.loop-one.hooks c.remove.new.self (omega arith) c.one-item.is c.loop-one.invariant
    (subst (λ (r : Result Unit HookFault). g.H.HookChanges.takes c.loop-one.hooks (registry.Remove c.one-item.result.name) r c.remove.new.self) done c.remove.ensures)
