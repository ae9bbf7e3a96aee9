-- What a vnode answers to a request: what one thread is answered after the entries so far.
use Rattle.std.specs.Prelude.{◌≡◌, ℕ, false, List, [], ◌∷◌, ◌++◌, Result, Ok, Err}
use Rattle.dvv.specs.declared.Dot as dvv
use Rattle.journal.specs.Entry.{Entry}
use Rattle.journal.specs.Entry as entry
use Rattle.journal.specs.Answers.{Answer, numbered, changed, copied, done, Answers}
use Rattle.journal.specs.Journals.{MayFollow}
use Rattle.journal.specs.Logs.{Log}
use Rattle.journal.specs.Replay.{Leaves}
use Rattle.key_state.specs.declared.content.Key.{Key}
use Rattle.key_state.specs.Parts.{Summarized, Partial, summary_of, lacks_some, whole_of}
use Rattle.key_state.specs.State.{State, empty}
use Rattle.vnode.specs.Parts.{RefusesPart}
use Rattle.vnode.specs.Refusals.{RefusesPut, RefusesMerge, RefusesEntry}
use Rattle.vnode.specs.declared.fault.PartFault.{PartFault}
use Rattle.vnode.specs.declared.fault.PartFault.TheVariants.{Missing, Refused}
use Rattle.vnode.specs.declared.fault.VnodeFault.{VnodeFault}
use Rattle.cluster_stamps.specs.declared.request.Request.{Request}
use Rattle.cluster_stamps.specs.declared.request.Request.TheVariants as request
use Rattle.cluster_stamps.specs.declared.request.Prepared.{Prepared}
use Rattle.cluster_stamps.specs.declared.request.Prepared.TheVariants as prepared
use Rattle.cluster_stamps.specs.declared.request.Reply.{Reply}
use Rattle.cluster_stamps.specs.declared.request.Reply.TheVariants as reply

-- the request that was prepared
abbrev pub asked : Prepared → Request
asked (prepared.Put write) = request.Put write.value.key write.value.seen write.value.content
asked (prepared.Merge merged) = request.Merge merged.value.key merged.value.from merged.value.at merged.value.state
asked (prepared.Read key) = request.Read key.now
asked (prepared.Summary key) = request.Summary key.now
asked (prepared.Part merged part) = request.Part merged.value.key merged.value.from merged.value.at part
asked prepared.Restart = request.Restart

-- the dot that a reply tells, and none else
abbrev pub dot_of : Reply → dvv.Dot
dot_of (reply.Dot dot) = dot
dot_of (reply.Changed changes) = record { vnode = 0; n = 0 }
dot_of (reply.State state) = record { vnode = 0; n = 0 }
dot_of (reply.Summary summary) = record { vnode = 0; n = 0 }
dot_of (reply.Built changes whole) = record { vnode = 0; n = 0 }
dot_of reply.Done = record { vnode = 0; n = 0 }

-- the whole state that was built of a part, and none else
abbrev pub built_of : Reply → State
built_of (reply.Dot dot) = empty
built_of (reply.Changed changes) = empty
built_of (reply.State state) = empty
built_of (reply.Summary summary) = empty
built_of (reply.Built changes whole) = whole
built_of reply.Done = empty

-- the entry of a request that was replied so: a summary is a read, and a part the merge of the whole state that was built
abbrev pub entry_of : ℕ → Request → Reply → Entry
entry_of stamp (request.Put key seen content) told = entry.Put stamp key seen content (dot_of told)
entry_of stamp (request.Merge key from at state) told = entry.Merge stamp key from at state
entry_of stamp (request.Read key) told = entry.Read stamp key
entry_of stamp (request.Summary key) told = entry.Read stamp key
entry_of stamp (request.Part key from at part) told = entry.Merge stamp key from at (built_of told)
entry_of stamp request.Restart told = entry.Restart stamp

-- a reply has an answer, and that is so
abbrev pub IsAnswer : Reply → (Answer → Type 0) → Type 0
IsAnswer (reply.Dot dot) IsSo = IsSo (numbered dot)
IsAnswer (reply.Changed changes) IsSo = IsSo (changed changes)
IsAnswer (reply.State state) IsSo = IsSo (copied state)
IsAnswer (reply.Summary summary) IsSo = ⊥
IsAnswer (reply.Built changes whole) IsSo = ⊥
IsAnswer reply.Done IsSo = IsSo done

-- a reply has a summary, and that is so
abbrev pub IsSummary : Reply → (Summarized → Type 0) → Type 0
IsSummary (reply.Dot dot) IsSo = ⊥
IsSummary (reply.Changed changes) IsSo = ⊥
IsSummary (reply.State state) IsSo = ⊥
IsSummary (reply.Summary summary) IsSo = IsSo summary
IsSummary (reply.Built changes whole) IsSo = ⊥
IsSummary reply.Done IsSo = ⊥

-- a reply has the answer of a merge and the state that was merged, and these are so
abbrev pub IsBuilt : Reply → (Answer → State → Type 0) → Type 0
IsBuilt (reply.Dot dot) AreSo = ⊥
IsBuilt (reply.Changed changes) AreSo = ⊥
IsBuilt (reply.State state) AreSo = ⊥
IsBuilt (reply.Summary summary) AreSo = ⊥
IsBuilt (reply.Built changes whole) AreSo = AreSo (changed changes) whole
IsBuilt reply.Done AreSo = ⊥

-- the state that these entries leave at a key lacks no content that was left out, and is what the part was made whole with
abbrev pub IsWholeThere : List Entry → Key → Partial → State → Type 0
IsWholeThere before key part whole = Leaves before key (λ own. (lacks_some own part ≡ false) × (whole ≡ whole_of part own))

-- what is replied after these entries, where the entry is this
abbrev pub Tells : Log → Request → Entry → Reply → Type 0
Tells log (request.Put key seen content) entry told = IsAnswer told (Answers log.vnode log.entries entry)
Tells log (request.Merge key from at state) entry told = IsAnswer told (Answers log.vnode log.entries entry)
Tells log (request.Read key) entry told = IsAnswer told (Answers log.vnode log.entries entry)
Tells log (request.Summary key) entry told = IsSummary told (λ summary. Leaves log.entries key (λ state. summary ≡ summary_of state))
Tells log (request.Part key from at part) entry told = IsBuilt told (λ answer whole. IsWholeThere log.entries key part whole × Answers log.vnode log.entries entry answer)
Tells log request.Restart entry told = IsAnswer told (Answers log.vnode log.entries entry)

-- why a vnode refuses what is no part
abbrev pub RefusesWhole : (VnodeFault → Type 0) → PartFault → Type 0
RefusesWhole Why Missing = ⊥
RefusesWhole Why (Refused fault) = Why fault

-- why a vnode refuses a request
abbrev pub Refuses : Log → Request → PartFault → Type 0
Refuses log (request.Put key seen content) fault = RefusesWhole (RefusesPut log key seen) fault
Refuses log (request.Merge key from at state) fault = RefusesWhole (RefusesMerge log key state) fault
Refuses log (request.Read key) fault = RefusesWhole (RefusesEntry log) fault
Refuses log (request.Summary key) fault = RefusesWhole (RefusesEntry log) fault
Refuses log (request.Part key from at part) fault = RefusesPart log key part fault
Refuses log request.Restart fault = RefusesWhole (RefusesEntry log) fault

-- a reply is what one thread is answered after these entries, which the entry may follow
abbrev pub IsReply : Log → ℕ → Request → Reply → Type 0
IsReply log stamp asked told = MayFollow log.vnode log.entries (entry_of stamp asked told) × Tells log asked (entry_of stamp asked told) told

-- the outcome of a request after these entries
abbrev pub IsOutcome : Log → ℕ → Request → Result Reply PartFault → Type 0
IsOutcome log stamp asked (Ok told) = IsReply log stamp asked told
IsOutcome log stamp asked (Err fault) = Refuses log asked fault

-- the entries that a request made: one, or where it was refused none
abbrev pub made : ℕ → Request → Result Reply PartFault → List Entry
made stamp asked (Ok told) = entry_of stamp asked told ∷ []
made stamp asked (Err fault) = []

-- the journal after a request
abbrev pub with_made : Log → ℕ → Request → Result Reply PartFault → Log
with_made log stamp asked outcome = record { vnode = log.vnode; entries = log.entries ++ made stamp asked outcome }
