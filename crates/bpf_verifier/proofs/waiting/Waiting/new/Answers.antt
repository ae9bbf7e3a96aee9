use Rattle.std.proofs.Common.{rules}
use Rattle.bpf_verifier.proofs.Waits.{none_at_first, none_zeros}
use Rattle.bpf_verifier.proofs.waiting.Waiting.new.Goals as goal

pub returns-clause-rows : goal.returns-clause-rows
returns-clause-rows g c = none_at_first c.in_ok-places.places.items c.args.slots 0 c.new.result.items (c.in_ok-places.ensures.items_if_clones_equal (λ y h. search rules)) c.new.ensures.items

pub returns-clause-zeros : goal.returns-clause-zeros
returns-clause-zeros g c = λ profile. none_zeros profile _ c.new.result.items c.new.ensures.items
