-- Read repair, and what it delivers (Riak KV documentation, read repair).
use Rattle.std.specs.Prelude.{ℕ, Bool, ◌%◌, List, [], ◌∷◌, Result, map, filter}
use Rattle.std.specs.List.{flat_map}
use Rattle.key_state.specs.declared.content.Key.{Key}
use Rattle.key_state.specs.State.{is_changed_by}
use Rattle.peers.specs.declared.peers.Answer.{Answer}
use Rattle.peers.specs.declared.fault.PeerFault.{PeerFault}
use Rattle.peers.specs.Calls.{Call, MergeAt}

-- a state that goes to the vnode of another answer
pub record Delivery : Type 0 where
  pub receiver : ℕ
  pub answer : Answer

-- the index of the vnode that an identifier names
abbrev pub index_of : ℕ → ℕ
index_of vnode = vnode % 256

-- one answered state goes to each vnode whose answered state it would change
abbrev pub deliveries_of : List Answer → Answer → List Delivery
deliveries_of answers sender = map (λ r. record { receiver = index_of r.from; answer = sender }) (filter (λ r. is_changed_by r.state sender.state) answers)

-- each answered state does so, sender by sender (none changes its own)
abbrev pub deliveries : List Answer → List Delivery
deliveries answers = flat_map (deliveries_of answers) answers

-- these deliveries are tried, in order, with what came back
abbrev pub tries : Key → List Delivery → List (Result Bool PeerFault) → List Call
tries key ds [] = []
tries key [] (back ∷ backs) = []
tries key (d ∷ ds) (back ∷ backs) = MergeAt d.receiver key d.answer.from d.answer.at d.answer.state back ∷ tries key ds backs
