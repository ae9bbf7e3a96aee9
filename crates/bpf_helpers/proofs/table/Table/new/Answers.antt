use Rattle.std.proofs.Common.{refl}
use Rattle.bpf_helpers.proofs.Index.{indexed_none, counted_none}
use Rattle.bpf_helpers.proofs.table.Table.new.Goals as goal

pub invariant_of-result-clause-indexed : goal.invariant_of-result-clause-indexed
invariant_of-result-clause-indexed g c = indexed_none _ c.new.result 128 refl c.new.ensures

pub invariant_of-result-clause-counted : goal.invariant_of-result-clause-counted
invariant_of-result-clause-counted g c = counted_none _ c.new.result 128 refl c.new.ensures
