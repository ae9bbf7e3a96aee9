use Rattle.std.proofs.Common.{ℕ, List, ◌++◌, sym, ap, ◌∙◌}
use Rattle.std.specs.Prelude.{nat_eq}
use Rattle.std.specs.Cmp.Lexicographic.{pointwise}
use Rattle.key_state.proofs.Named.{joined_eq}
use Rattle.key_state.proofs.names.Names.is_same.Goals as goal

pub returns-then-split : goal.returns-then-split
returns-then-split c =
    let own = c.args.self.now in
    let other = c.args.other.now in
    c.eq.ensures ∙ ap (pointwise nat_eq c.bytes.result.now) c.bytes-then-split.ensures ∙ ap (λ (l : List ℕ). pointwise nat_eq l (other.bucket ++ other.key)) c.bytes.ensures ∙ joined_eq own.bucket other.bucket own.key other.key (sym c.split.ensures ∙ c.if-split.true ∙ c.split-2.ensures)
