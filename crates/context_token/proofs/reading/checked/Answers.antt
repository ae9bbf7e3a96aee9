use Rattle.std.proofs.Common.{◌∙◌, ap, sym, Ok, rules}
use Rattle.dvv.specs.declared.Dot.{Dot}
use Rattle.std.proofs.lemmas.List.Sorted.{IsNonDecreasingBy-from_sort_by_key}
use Rattle.context_token.specs.Layouts.{layout}
use Rattle.context_token.specs.Token.{rises, counts, tells_all}
use Rattle.context_token.proofs.Tokens.{sorted_checked}
use Rattle.context_token.proofs.reading.checked.Goals as goal

-- what the sort left
pub from_entries-requires : goal.from_entries-requires
from_entries-requires c =
    (sorted_checked (layout c.args.version) c.args.entries.items _ c.requires.len
    (sym (ap (rises (layout c.args.version).order) c.deref.ensures.value) ∙ sym c.if-not-are_rising.ensures)
    (sym (ap counts c.deref-2.ensures.value) ∙ sym c.if-not-are_within.ensures)
    c.sort_unstable_by_key.ensures.permutation
    (IsNonDecreasingBy-from_sort_by_key (λ (e : Dot). e.vnode) _ c.sort_unstable_by_key.ensures.sorted (λ a r q k. search rules))).0

pub returns : goal.returns
returns c =
    (sorted_checked (layout c.args.version) c.args.entries.items _ c.requires.len
    (sym (ap (rises (layout c.args.version).order) c.deref.ensures.value) ∙ sym c.if-not-are_rising.ensures)
    (sym (ap counts c.deref-2.ensures.value) ∙ sym c.if-not-are_within.ensures)
    c.sort_unstable_by_key.ensures.permutation
    (IsNonDecreasingBy-from_sort_by_key (λ (e : Dot). e.vnode) _ c.sort_unstable_by_key.ensures.sorted (λ a r q k. search rules))).1
    (sym (ap (tells_all (layout c.args.version)) c.deref-else-not-are_within.ensures.value) ∙ sym c.if-not-tells_all.ensures)
    ∙ ap Ok (sym c.from_entries.ensures)
