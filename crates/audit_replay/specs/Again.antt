-- What an entry that happens again answers, and why it doesn't happen again.
use Rattle.std.specs.Prelude.{◌≡◌, ℕ, List}
use Rattle.key_state.specs.State.{State}
use Rattle.journal.specs.Answers.{Answer, Answers, numbered, changed, copied, done}
use Rattle.journal.specs.Entry.{Entry}
use Rattle.vnode.specs.declared.fault.VnodeFault.{VnodeFault}
use Rattle.vnode.specs.declared.fault.VnodeFault.TheVariants.{ContextAhead, TooManySiblings, ClockFull, MergedClockFull, JournalFull, NoMemory}
use Rattle.audit_replay.specs.declared.again.Again.{Again}
use Rattle.audit_replay.specs.declared.again.Again.TheVariants as again
use Rattle.audit_replay.specs.declared.again.Refusal.{Refusal}
use Rattle.audit_replay.specs.declared.again.Refusal.TheVariants as refusal

-- what is told of a vnode's answer where an entry happens again: all of it, but of a read, of which nothing is looked up, that it answered a state
abbrev pub IsTold : Again → Answer → Type 0
IsTold (again.Numbered dot) answer = answer ≡ numbered dot
IsTold (again.Changed changes) answer = answer ≡ changed changes
IsTold again.Noted answer = (state : State) × (answer ≡ copied state)
IsTold again.Done answer = answer ≡ done

-- what is told of what a vnode answers to an entry that follows these
abbrev pub Tells : ℕ → List Entry → Entry → Again → Type 0
Tells vnode before e told = (answer : Answer) × Answers vnode before e answer × IsTold told answer

-- a vnode's refusal is one of memory, or the entry isn't legal
abbrev pub refusal_of : VnodeFault → Refusal
refusal_of NoMemory = refusal.NoMemory
refusal_of ContextAhead = refusal.Illegal
refusal_of TooManySiblings = refusal.Illegal
refusal_of ClockFull = refusal.Illegal
refusal_of MergedClockFull = refusal.Illegal
refusal_of JournalFull = refusal.Illegal
