use Rattle.std.proofs.Common.{◌≡◌, ◌<◌, ◌∙◌, ap, sym, arith, List, [], Some, length, drop, get_or, set, subst}
use Rattle.std.specs.Prelude.{slice_get}
use Rattle.std.proofs.lemmas.Result.{IfErr-weaker, on_ok_weaker}
use Rattle.journal.specs.Entry.{Entry}
use Rattle.audit_faults.specs.declared.fault.AuditFault.{AuditFault}
use Rattle.audit_follower.specs.Waiting.{IsNext}
use Rattle.audit_replay.specs.Wrong.{IsToldOf}
use Rattle.audit_replay.proofs.Sorting.{same_default}
use Rattle.audit_replay.proofs.Staying.{stays_on}
use Rattle.audit_follower.proofs.run.Run.step.Goals as goal

pub returns-clause-next : goal.returns-clause-next
returns-clause-next c =
    let own = c.args.self.now in
    let i = c.args.index in
    let e = c.in-Some.entry in
    let inside : i < length own.waiting.items = omega (arith, c.requires.size, c.requires.inside) in
    let queue : c.index_mut.result.now ≡ get_or own.waiting.items i [] = c.index_mut.ensures.value ∙ same_default own.waiting.items i c.index_mut.result.now [] inside in
    let next : IsNext own.waiting.items i e = subst (λ (es : List Entry). slice_get es 0 ≡ Some e) queue (sym c.in-Some.ensures.first) in
    let rest = ap (λ (es : List Entry). set own.waiting.items i es) (c.in-Some.ensures.rest ∙ ap (λ (es : List Entry). drop 1 es) queue) in
    on_ok_weaker c.go_on.result (λ logs. (e, next, logs, rest)) c.go_on.ensures.next

pub returns-clause-told : goal.returns-clause-told
returns-clause-told c =
    let own = c.args.self.now in
    let i = c.args.index in
    let e = c.in-Some.entry in
    let inside : i < length own.waiting.items = omega (arith, c.requires.size, c.requires.inside) in
    let queue : c.index_mut.result.now ≡ get_or own.waiting.items i [] = c.index_mut.ensures.value ∙ same_default own.waiting.items i c.index_mut.result.now [] inside in
    let next : IsNext own.waiting.items i e = subst (λ (es : List Entry). slice_get es 0 ≡ Some e) queue (sym c.in-Some.ensures.first) in
    IfErr-weaker c.go_on.result (λ (fault : AuditFault). IsToldOf own.rerun.fronts own.rerun.logs own.rerun.recent i e fault) _ (λ fault told. (e, next, told)) c.go_on.ensures.told

pub returns-clause-stays : goal.returns-clause-stays
returns-clause-stays c = stays_on c.go_on.result c.args.index c.args.self.now.rerun.logs c.go_on.new.self.logs c.go_on.ensures.stays
