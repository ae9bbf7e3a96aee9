use Rattle.std.proofs.Common.{arith}
use Rattle.key_state.proofs.Siblings.{kept_few}
use Rattle.key_state.proofs.placing.copies_of_kept.Goals as goal

pub overflow_add-count_kept : goal.overflow_add-count_kept
overflow_add-count_kept c = omega (arith, kept_few c.args.seen.now c.args.siblings.now, c.count_kept.ensures, c.well_formed)
