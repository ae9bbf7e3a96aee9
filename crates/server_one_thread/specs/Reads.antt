-- What a read shows of the writes that the vnodes know (dotted version vectors, Preguiça et al. 2010; Riak KV documentation, reads).
use Rattle.std.specs.Prelude.{◌≡◌, ℕ, ◌≤◌, ◌⊎◌, true, List, [], ◌∷◌, Some, length, nat_le, slice_get}
use Rattle.std.specs.List.{AllZip}
use Rattle.bpf_image.specs.declared.image.ImageKind.TheVariants.{Resolver}
use Rattle.bpf_verifier.specs.Program.{Program}
use Rattle.key_state.specs.declared.content.Content.{Content}
use Rattle.key_state.specs.declared.content.Key.{Key}
use Rattle.key_state.specs.Known.{Write, ShowsKnown}
use Rattle.key_state.specs.State.{State}
use Rattle.journal.specs.Brought.{BringsAll, all_writes}
use Rattle.journal.specs.Logs.{Log}
use Rattle.journal.specs.Replay.{IsReplay}
use Rattle.dvv.specs.declared.Dot.{Dot}
use Rattle.hook_run.specs.declared.resolving.Resolution.{Resolution}
use Rattle.hook_run.specs.Resolving.{IsResolution, chosen_by}
use Rattle.hook_registry.specs.Changes.{hook_at}
use Rattle.server_store.specs.Calls.{coordinator, list}
use Rattle.server_one_thread.specs.Past.{Past}
use Rattle.server_one_thread.specs.Writes.{IsPutAt}

-- the journals of those of these vnodes that answered, in the order of the vnodes
pub data OfSome (logs : List Log) : List ℕ → List Log → Type 0 where
  all_asked : OfSome logs [] []
  answered : (i : ℕ) (vnodes : List ℕ) (log : Log) (journals : List Log) → slice_get logs i ≡ Some log → OfSome logs vnodes journals → OfSome logs (i ∷ vnodes) (log ∷ journals)
  silent : (i : ℕ) (vnodes : List ℕ) (journals : List Log) → OfSome logs vnodes journals → OfSome logs (i ∷ vnodes) journals

-- a state shows what is current among the writes that these journals brought to a key, and the context of these
abbrev pub ShowsCurrent : Key → List Log → State → Type 0
ShowsCurrent key journals state = (knowns : List (List Write)) → AllZip (λ log known. BringsAll key log.entries known) journals knowns → ShowsKnown state (all_writes knowns)

-- what the bucket's resolver wrote where the merge of what came has several siblings: the content that it chose was put at the
-- coordinator as one who had seen them all, and the answer is what the coordinator's journal then leaves
pub record IsResolved (old new : Past) (key : Key) (at : ℕ) (merged state : State) : Type 0 where
  pub several : nat_le 2 (length merged.siblings) ≡ true
  pub program : Program
  pub bound : hook_at old.hooks key.bucket Resolver ≡ Some program
  pub resolution : Resolution
  pub ran : IsResolution old.listed program merged.siblings resolution
  pub content : Content
  pub chose : chosen_by resolution merged.siblings ≡ Some content
  pub dot : Dot
  pub put : IsPutAt old.peers.logs new.peers.logs (coordinator old key at) key merged.clock content dot
  pub log : Log
  pub there : slice_get new.peers.logs (coordinator old key at) ≡ Some log
  pub leaves : IsReplay log.entries key state

-- what the answer to a read shows: at least r vnodes of the key's list answered, and what is current among the writes that they
-- know is answered, or what the bucket's resolver made of it
pub record IsCurrent (old new : Past) (key : Key) (r at : ℕ) (state : State) : Type 0 where
  pub journals : List Log
  pub theirs : OfSome old.peers.logs (list old key) journals
  pub enough : r ≤ length journals
  pub merged : State
  pub current : ShowsCurrent key journals merged
  pub answer : (state ≡ merged) ⊎ IsResolved old new key at merged state
