use Rattle.std.proofs.Common.{ℕ, List, ◌++◌, sym, ap, ◌∙◌}
use Rattle.std.specs.Ordering.{nat_cmp}
use Rattle.std.specs.Cmp.Lexicographic.{slice_cmp}
use Rattle.key_state.proofs.Named.{joined_cmp}
use Rattle.key_state.proofs.names.Names.compare.Goals as goal

pub returns-then-split : goal.returns-then-split
returns-then-split c =
    let own = c.args.self.now in
    let other = c.args.other.now in
    c.cmp.ensures ∙ ap (slice_cmp nat_cmp c.bytes.result.now) c.bytes-then-split.ensures ∙ ap (λ (l : List ℕ). slice_cmp nat_cmp l (other.bucket ++ other.key)) c.bytes.ensures ∙ joined_cmp own.bucket other.bucket own.key other.key (sym c.split.ensures ∙ c.if-split.true ∙ c.split-2.ensures)
