use Rattle.std.proofs.Common.{◌≡◌, ◌∙◌, sym, refl, arith, length, vec_len}
use Rattle.std.proofs.lemmas.Iterator.Adapters.{YieldsList-from_vec}
use Rattle.std.proofs.lemmas.Iterator.Consumers.{YieldsList-end}
use Rattle.std.proofs.lemmas.Grind.{common_steps}
use Rattle.std.proofs.lemmas.List.{map-append}
use Rattle.dvvstore.specs.Crews.{by_digest}
use Rattle.dvvstore.proofs.Taking.{made_one, all_made_one, taken_one, all_taken}
use Rattle.dvvstore.proofs.session.seats_of.Goals as goal

pub loop-worker-preserved : goal.loop-worker-preserved
loop-worker-preserved g c = record {
  can = (tt, tt);
  seats = made_one (λ s. s.pass) _ _ _ _ _ c.loop-worker.invariant.seats c.push_reserved.ensures.items refl ∙ sym (map-append (λ p. p.pass) _ _);
  count = grind (arith, common_steps);
  room = grind (arith, common_steps);
  tables = taken_one (λ s. s.hooking.table) _ _ _ _ _ _ _ c.loop-worker.invariant.tables c.in-Some-Some.ensures.items c.push_reserved.ensures.items c.new.ensures.table;
  readers = taken_one (λ s. s.hooking.hooks) _ _ _ _ _ _ _ c.loop-worker.invariant.readers c.in-Some-Some.ensures'.items c.push_reserved.ensures.items (c.new.ensures.hooks ∙ c.new-hooks.ensures);
  placed = all_made_one (λ s. s.placement) (λ placement. placement ≡ by_digest c.args.spread.vnodes c.args.spread.copies) _ _ _ c.loop-worker.invariant.placed c.push_reserved.ensures.items c.placement.ensures;
}

pub returns-clause-tables : goal.returns-clause-tables
returns-clause-tables g c =
    let i = c.loop-worker.invariant in
    let start = c.into_iter-worker-iterator.ensures.into_iter_gives in
    let long : vec_len c.args.passes ≡ length c.args.passes.items = c.args.passes.ok.0 in
    let y = YieldsList-from_vec {s = c.into_iter-worker-iterator.result} c.args.passes.items start.0 (start.1 ∙ long) in
    let e = YieldsList-end y c.loop-worker.yielded c.loop-worker.worker-iterator c.loop-worker.yielded_by c.next.result c.next.new.self c.in-None.is c.next.ensures.steps in
    let even : vec_len c.loop-worker.seats ≡ vec_len c.args.passes = i.count ∙ e.1 ∙ sym long in
    all_taken (λ s. s.hooking.table) _ _ c.loop-worker.seats.items i.tables (sym c.loop-worker.seats.ok.0 ∙ (even ∙ (c.requires.each ∙ c.args.tables.ok.0)))

pub returns-clause-readers : goal.returns-clause-readers
returns-clause-readers g c =
    let i = c.loop-worker.invariant in
    let start = c.into_iter-worker-iterator.ensures.into_iter_gives in
    let long : vec_len c.args.passes ≡ length c.args.passes.items = c.args.passes.ok.0 in
    let y = YieldsList-from_vec {s = c.into_iter-worker-iterator.result} c.args.passes.items start.0 (start.1 ∙ long) in
    let e = YieldsList-end y c.loop-worker.yielded c.loop-worker.worker-iterator c.loop-worker.yielded_by c.next.result c.next.new.self c.in-None.is c.next.ensures.steps in
    let even : vec_len c.loop-worker.seats ≡ vec_len c.args.passes = i.count ∙ e.1 ∙ sym long in
    all_taken (λ s. s.hooking.hooks) _ _ c.loop-worker.seats.items i.readers (sym c.loop-worker.seats.ok.0 ∙ (even ∙ (c.requires.each ∙ (sym c.requires.readers ∙ c.args.hooked.readers.ok.0))))
