-- Why a part is refused, and what its merge is of the whole state.
use Rattle.std.proofs.Common.{◌≡◌, ◌↔◌, Bool, IsTrue, true, false, Option, None, Some, Result, Err, refl, ap, subst}
use Rattle.std.proofs.lemmas.Bool.{both_ways}
use Rattle.key_state.specs.declared.content.Key.{Key}
use Rattle.key_state.specs.State.{State}
use Rattle.key_state.specs.declared.fault.MergeFault.{MergeFault}
use Rattle.key_state.specs.declared.fault.PartFault as object
use Rattle.key_state.specs.Parts.{Partial, lacks_some}
use Rattle.journal.specs.Logs.{Log}
use Rattle.journal.specs.Replay.{IsReplay}
use Rattle.vnode.specs.declared.fault.VnodeFault.{VnodeFault}
use Rattle.vnode.specs.declared.fault.PartFault.{PartFault}
use Rattle.vnode.specs.declared.fault.PartFault.TheVariants.{Missing, Refused}
use Rattle.vnode.specs.Refusals.{RefusesMergeAt}
use Rattle.vnode.specs.Parts.{RefusesPart, RefusesPartAt, RefusesBrought, RefusesBroughtAt, brought, lacks_of}
use Rattle.vnode.proofs.Refused.{at_hand, one_merge_at}

-- a part is refused for one reason
one_part_at : (log : Log) (part : Partial) (state : State) (f g : PartFault) → RefusesPartAt log part state f → RefusesPartAt log part state g → f ≡ g
one_part_at log part state Missing Missing p q = refl
one_part_at log part state Missing (Refused g) p q = absurd (both_ways _ q.0 p)
one_part_at log part state (Refused f) Missing p q = absurd (both_ways _ p.0 q)
one_part_at log part state (Refused f) (Refused g) p q = ap (λ x. Refused x) (one_merge_at log part.clock state f g p.1 q.1)

pub one_part : (log : Log) (k : Key) (part : Partial) (f g : PartFault) → RefusesPart log k part f → RefusesPart log k part g → f ≡ g
one_part log k part f g p q = one_part_at log part p.0 f g p.2 (at_hand log.entries k p.0 (λ state. RefusesPartAt log part state g) p.1 q)

-- a state's refusal is its journal's
pub refuses_part : (log : Log) (k : Key) (part : Partial) (state : State) (f : PartFault) → IsReplay log.entries k state → RefusesPartAt log part state f → RefusesPart log k part f
refuses_part log k part state f h r = (state, h, r)

-- the merge of the whole state that came is refused, and so is what came
pub whole_refused : (log : Log) (part : Option Partial) (came whole own : State) (f : VnodeFault) → lacks_of part own ≡ false → whole ≡ brought part came own → RefusesMergeAt log whole.clock own f → RefusesBroughtAt log part came own (Refused f)
whole_refused log None came whole own f held is r = subst (λ s. RefusesMergeAt log s.clock own f) is r
whole_refused log (Some part) came whole own f held is r = (held, subst (λ s. RefusesMergeAt log s.clock own f) is r)

-- what came is refused for one reason
one_brought_at : (log : Log) (part : Option Partial) (came own : State) (f g : PartFault) → RefusesBroughtAt log part came own f → RefusesBroughtAt log part came own g → f ≡ g
one_brought_at log (Some part) came own f g p q = one_part_at log part own f g p q
one_brought_at log None came own Missing g p q = absurd p
one_brought_at log None came own f Missing p q = absurd q
one_brought_at log None came own (Refused f) (Refused g) p q = ap (λ x. Refused x) (one_merge_at log came.clock own f g p q)

pub one_brought : (log : Log) (k : Key) (part : Option Partial) (came : State) (f g : PartFault) → RefusesBrought log k part came f → RefusesBrought log k part came g → f ≡ g
one_brought log k part came f g p q = one_brought_at log part came p.0 f g p.2 (at_hand log.entries k p.0 (λ own. RefusesBroughtAt log part came own g) p.1 q)

-- a part that isn't missing a content lacks none
pub not_missing : {T : Type 0} (own : State) (part : Partial) (r : Result T object.PartFault) (f : MergeFault) → (r ≡ Err (object.TheVariants.Missing) ↔ IsTrue (lacks_some own part)) → r ≡ Err (object.TheVariants.Merge f) → lacks_some own part ≡ false
not_missing own part r f told is = by_test (lacks_some own part) (λ t. clash r f (told.1 t) is)
  where
    by_test : (b : Bool) → (b ≡ true → ⊥) → b ≡ false
    by_test true isnt = absurd (isnt refl)
    by_test false isnt = refl

    clash : {T : Type 0} (r : Result T object.PartFault) (f : MergeFault) → r ≡ Err object.TheVariants.Missing → r ≡ Err (object.TheVariants.Merge f) → ⊥
    clash r f p q = cc

-- two refusals of parts that are one are one inside
pub one_inside : (f g : VnodeFault) → Refused f ≡ Refused g → f ≡ g
one_inside f g e = cc
