-- What the audit of gathered vnodes says (this store's profile).
use Rattle.std.specs.Prelude.{List, Result, Ok, Err}
use Rattle.journal.specs.Logs.{Log}
use Rattle.audit_faults.specs.declared.fault.AuditFault.TheVariants.{Found, NoMemory}
use Rattle.audit_replay.specs.Faulty.{IsFaultAt, IsFaultless}
use Rattle.audit_replay.specs.Interleaved.{IsInterleaving}
use Rattle.audit_cluster.specs.declared.closing.CloseFault.{CloseFault}
use Rattle.audit_cluster.specs.declared.closing.CloseFault.TheVariants.{Audit, HandedOut}

-- Of these journals an audit says so: a yes is one run of the world, and no fault stands anywhere; a fault is the first there is. Want of memory
-- and entries that were handed out say nothing of them.
abbrev pub IsAuditOf : List Log → Result (Unit {0}) CloseFault → Type 0
IsAuditOf logs (Ok all) = IsInterleaving logs × IsFaultless logs
IsAuditOf logs (Err (Audit (Found code vnode place))) = IsFaultAt logs code vnode place
IsAuditOf logs (Err (Audit NoMemory)) = Unit {0}
IsAuditOf logs (Err HandedOut) = Unit {0}
