use Rattle.std.proofs.Common.{◌≡◌, drop}
use Rattle.bpf_helpers.specs.Entries.{sig_of}
use Rattle.bpf_helpers.proofs.sigs.find_sig.Given as goal

abbrev pub invariant-loop-entry : goal.invariant-loop-entry
invariant-loop-entry l = sig_of l.entries l.number ≡ sig_of (drop l.entry-index l.entries) l.number
