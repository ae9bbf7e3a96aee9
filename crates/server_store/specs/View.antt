-- What a store holds, as contracts see it.
use Rattle.std.specs.Prelude.{List}
use Rattle.bpf_helpers.specs.declared.sig.Entry.{Entry}
use Rattle.ring.specs.Places.{PlacementView}
use Rattle.server_log.specs.declared.noted.Note.{Note}

-- the vnodes and the hooks, as whoever stands for them, the helpers that hooks may call, where keys stand, and what is noted of troubles
pub record StoreView (P H : Type 0) : Type 0 where
  pub peers : P
  pub hooks : H
  pub listed : List Entry
  pub placement : PlacementView
  pub noted : List Note

abbrev pub shown : {P H : Type 0} → P → H → List Entry → PlacementView → List Note → StoreView P H
shown peers hooks listed placement noted = record { peers = peers; hooks = hooks; listed = listed; placement = placement; noted = noted }
