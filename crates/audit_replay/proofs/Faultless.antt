-- Journals that are one run, of which no entry was there before, have no fault.
use Rattle.std.proofs.Common.{ℕ, List, [], inl, inr, arith}
use Rattle.journal.specs.Logs.{Log}
use Rattle.audit_replay.specs.Faulty.{HasNoSuchSource, IsFaultless}
use Rattle.audit_replay.specs.Runs.{IsRunFrom}

has_source : (logs : List Log) → IsRunFrom [] logs → (vnode place stamp : ℕ) → HasNoSuchSource logs vnode place stamp → ⊥
has_source logs run vnode place stamp (inl (key, from, at, state, merge, none)) =
    let read = run.sources merge.0 place stamp key from at state merge.2 (omega arith) in
    let below = none read.stamp (read.index, read.vnode, read.there) in
    omega (arith, below, read.earlier)
has_source logs run vnode place stamp (inr (key, from, at, state, merge, there, other)) =
    let read = run.sources merge.0 place stamp key from at state merge.2 (omega arith) in
    other read.index read.there.0 read.vnode read.answer

pub faultless : (logs : List Log) → IsRunFrom [] logs → IsFaultless logs
faultless logs run = record { rising = run.rising; single = run.single; sources = has_source logs run }
