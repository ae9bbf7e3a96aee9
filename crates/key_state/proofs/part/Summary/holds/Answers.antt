use Rattle.std.proofs.Common.{◌≡◌, ◌∙◌, List, refl, sym, ap, subst, rules, arith}
use Rattle.std.specs.List.{list_any}
use Rattle.std.proofs.lemmas.List.Sorted.{IsPartitionPoint-from_clause}
use Rattle.dvv.specs.declared.Dot.{Dot}
use Rattle.dvv.specs.Dots.{is_before}
use Rattle.key_state.specs.State.{is_dot}
use Rattle.key_state.specs.Parts.{Summarized, AreDotsInOrder, holds}
use Rattle.key_state.proofs.Searches.{dots_parted, dot_absent, dot_at_point}
use Rattle.key_state.proofs.part.Summary.holds.Goals as goal

-- what is found among the dots is what the summary holds
told : (dots items : List Dot) (summary : Summarized) (dot : Dot) → dots ≡ items → items ≡ summary.dots → list_any (λ d. is_dot d dot) dots ≡ holds summary dot
told dots items summary dot p q = ap (list_any (λ d. is_dot d dot)) (p ∙ q)

pub returns-then-at-len : goal.returns-then-at-len
returns-then-at-len c =
    let order : AreDotsInOrder c.deref.result.now = subst AreDotsInOrder (sym c.deref.ensures.value) c.self.invariant in
    let point = IsPartitionPoint-from_clause (λ d. is_before d c.args.dot) _ _ c.partition_point-at.ensures.partitioned (dots_parted c.args.dot c.deref.result.now order) (λ a r q k. search rules) in
    c.eq.ensures
    ∙ dot_at_point c.deref.result.now c.args.dot c.index.result.now c.partition_point-at.result order point (omega (arith, c.if-at-len.true, c.len.ensures, c.deref.ensures.len)) (c.index.ensures ∙ (rw c.deref.ensures.value refl))
    ∙ told c.deref.result.now c.self.inside.dots.items c.args.self.now c.args.dot c.deref.ensures.value (ap (λ (s : Summarized). s.dots) c.self.view_is)

pub returns-else-at-len : goal.returns-else-at-len
returns-else-at-len c =
    let order : AreDotsInOrder c.deref.result.now = subst AreDotsInOrder (sym c.deref.ensures.value) c.self.invariant in
    let point = IsPartitionPoint-from_clause (λ d. is_before d c.args.dot) _ _ c.partition_point-at.ensures.partitioned (dots_parted c.args.dot c.deref.result.now order) (λ a r q k. search rules) in
    let absent = dot_absent c.deref.result.now c.args.dot c.partition_point-at.result order point (λ z lt e. omega (arith, lt, c.if-at-len.false, c.len.ensures, c.deref.ensures.len)) in
    (search (rules, c.if-at-len.false)) ∙ sym absent ∙ told c.deref.result.now c.self.inside.dots.items c.args.self.now c.args.dot c.deref.ensures.value (ap (λ (s : Summarized). s.dots) c.self.view_is)
