-- What a vnode refuses isn't legal there.
use Rattle.std.proofs.Common.{◌≡◌, List, sym, ap, ◌∙◌}
use Rattle.std.specs.Prelude.{Result, Ok, Err}
use Rattle.std.specs.Result.{IsErrAnd}
use Rattle.dvv.specs.declared.Dot.{Dot}
use Rattle.key_state.specs.declared.content.Key.{Key}
use Rattle.key_state.specs.State.{State}
use Rattle.journal.specs.Limits.{TakesEntry, AcceptsPut, AcceptsMerge}
use Rattle.journal.specs.Logs.{Log}
use Rattle.journal.proofs.Dots.{covers_true}
use Rattle.vnode.specs.declared.fault.VnodeFault.{VnodeFault}
use Rattle.vnode.specs.declared.fault.VnodeFault.TheVariants.{NoMemory}
use Rattle.vnode.specs.Refusals.{RefusesPut, RefusesMerge, RefusesEntry}
use Rattle.vnode.proofs.Refused.{one_put, one_merge, one_entry}
use Rattle.audit_replay.specs.Again.{refusal_of}
use Rattle.audit_replay.specs.declared.again.Refusal.{Refusal}
use Rattle.audit_replay.specs.declared.again.Refusal.TheVariants.{Illegal}

-- only want of memory stands against what is accepted
wants_put : (log : Log) (k : Key) (seen : List Dot) → AcceptsPut log.vnode log.entries k seen → RefusesPut log k seen NoMemory
wants_put log k seen h = (
  h.state.0,
  h.state.1,
  (record { context = λ d c. covers_true h.state.0.clock d (h.state.1.clock d ∙ h.knows d c); sibling = h.state.2.0; dot = h.state.2.1 }, h.place),
)

wants_merge : (log : Log) (k : Key) (other : State) → AcceptsMerge log.entries k other → RefusesMerge log k other NoMemory
wants_merge log k other h = (h.state.0, h.state.1, (record { clock = h.state.2 }, h.place))

pub put_refused : (log : Log) (k : Key) (seen : List Dot) (f : VnodeFault) → RefusesPut log k seen f → refusal_of f ≡ Illegal → AcceptsPut log.vnode log.entries k seen → ⊥
put_refused log k seen f why is accepts = let same : f ≡ NoMemory = one_put log k seen f NoMemory why (wants_put log k seen accepts) in let e : refusal_of NoMemory ≡ Illegal = ap refusal_of (sym same) ∙ is in cc

pub merge_refused : (log : Log) (k : Key) (other : State) (f : VnodeFault) → RefusesMerge log k other f → refusal_of f ≡ Illegal → AcceptsMerge log.entries k other → ⊥
merge_refused log k other f why is accepts = let same : f ≡ NoMemory = one_merge log k other f NoMemory why (wants_merge log k other accepts) in let e : refusal_of NoMemory ≡ Illegal = ap refusal_of (sym same) ∙ is in cc

pub entry_refused : (log : Log) (f : VnodeFault) → RefusesEntry log f → refusal_of f ≡ Illegal → TakesEntry log.entries → ⊥
entry_refused log f why is takes = let same : f ≡ NoMemory = one_entry log f NoMemory why takes in let e : refusal_of NoMemory ≡ Illegal = ap refusal_of (sym same) ∙ is in cc

-- a refusal that is told is the one that was passed on
pub told : {T : Type 0} (r : Result T Refusal) (f : Refusal) → IsErrAnd r (λ e. e ≡ f) → r ≡ Err Illegal → f ≡ Illegal
told (Ok x) f was is = absurd was
told (Err e) f was is = let same : e ≡ Illegal = cc in sym was ∙ same
