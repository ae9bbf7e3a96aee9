use Rattle.std.proofs.Common.{◌≡◌, Some, take}
use Rattle.std.specs.Prelude.{All}
use Rattle.bpf_helpers.specs.Entries.{sig_of}
use Rattle.bpf_helpers.proofs.table.Table.agrees.Given as goal

abbrev pub invariant-loop-entry : goal.invariant-loop-entry
invariant-loop-entry g l =
    All (λ e. sig_of l.self.listed e.number ≡ Some e.sig) (take l.entry-index l.entry-items)
