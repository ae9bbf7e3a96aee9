use Rattle.std.proofs.Common.{◌≡◌, ◌+◌, ◌<◌, ◌∙◌, ℕ, IfOk, Result, arith, length, refl, subst, sym, vec_len}
use Rattle.std.specs.Prelude.{IsSome}
use Rattle.std.proofs.lemmas.Iterator.Adapters.{YieldsList-from_vec}
use Rattle.std.proofs.lemmas.Iterator.Consumers.{YieldsList-end, YieldsList-turn}
use Rattle.std.proofs.lemmas.List.{length_push}
use Rattle.kept_folder.specs.Numbers.{IsFiled}
use Rattle.kept_folder.specs.Reads.{IsFoundAt}
use Rattle.kept_folder.proofs.Reading.{AreRead, AreThereTo, read_first, read_more, there_first, there_more}
use Rattle.kept_folder.proofs.opening.vnodes_in.Goals as goal

pub loop-answer-init : goal.loop-answer-init
loop-answer-init g c =
    let finds = g.F.Folder.finds c.args.folder.now in
    let found = subst (IsFoundAt finds 0) (sym c.in_ok-first.ensures.same) c.in_ok-own.ensures in (
      refl,
      read_first finds c.in_ok-files.files.items c.add.new.files.items c.in_ok-first.first c.in_ok-files.ensures.items c.in_ok-add.ensures found,
      there_first finds c.args.filed c.in_ok-first.first found c.in_ok-first.ensures.there,
    )

pub loop-answer-preserved : goal.loop-answer-preserved
loop-answer-preserved g c =
    let finds = g.F.Folder.finds c.args.folder.now in
    let others = c.in_ok-others.others in
    let start = c.into_iter-answer-iterator.ensures.into_iter_gives in
    let long : vec_len others ≡ length others.items = others.ok.0 in
    let y = YieldsList-from_vec {s = c.into_iter-answer-iterator.result} others.items start.0 (start.1 ∙ long) in
    let t = YieldsList-turn y c.loop-answer.yielded c.loop-answer.answer-iterator c.loop-answer.yielded_by c.next.result c.next.new.self c.in-Some.answer c.in-Some.is c.next.ensures.steps in
    let i = length c.loop-answer.yielded in
    let all = c.in_ok-others.ensures.len in
    let few : i < 15 = (let lt = t.0 in omega (arith, lt, all, long)) in
    let answered : IfOk c.in-Some.answer (IsFoundAt finds (i + 1)) = subst (λ (r : Result _ _). IfOk r (IsFoundAt finds (i + 1))) (sym t.1) (c.in_ok-others.ensures.each i c.in-Some.answer few).1.met in
    let read = subst (λ (r : Result _ _). IfOk r (IsFoundAt finds (i + 1))) c.in_ok-read.was answered in
    let found = subst (IsFoundAt finds (i + 1)) (sym c.in_ok-found.ensures.same) read in
    let index : c.saturating_add-index.result ≡ i + 1 = (let sum = c.saturating_add-index.ensures in let so = c.loop-answer.invariant.0 in omega (arith, sum, so, few)) in
    let has = subst (λ (k : ℕ). IsFiled c.args.filed k → IsSome c.in_ok-found.found) index c.in_ok-found.ensures.there in
    subst (λ (n : ℕ). (c.saturating_add-index.result ≡ n) × AreRead finds c.add-in-loop-answer.new.files.items (n + 1) × AreThereTo finds c.args.filed (n + 1)) (sym (length_push c.loop-answer.yielded c.in-Some.answer)) (
      index,
      read_more finds c.loop-answer.files.items c.add-in-loop-answer.new.files.items c.in_ok-found.found (i + 1) (omega (arith, few)) c.in_ok-add-2.ensures c.loop-answer.invariant.1 found,
      there_more finds c.args.filed c.in_ok-found.found (i + 1) c.loop-answer.invariant.2 found has,
    )

pub returns : goal.returns
returns g c =
    let others = c.in_ok-others.others in
    let start = c.into_iter-answer-iterator.ensures.into_iter_gives in
    let long : vec_len others ≡ length others.items = others.ok.0 in
    let y = YieldsList-from_vec {s = c.into_iter-answer-iterator.result} others.items start.0 (start.1 ∙ long) in
    let e = YieldsList-end y c.loop-answer.yielded c.loop-answer.answer-iterator c.loop-answer.yielded_by c.next.result c.next.new.self c.in-None.is c.next.ensures.steps in
    let all = c.in_ok-others.ensures.len in
    record {
      read = λ index lt. c.loop-answer.invariant.1.each index (let every = e.1 in omega (arith, lt, every, all, long));
      files = c.loop-answer.invariant.1.all;
      there = λ index lt. c.loop-answer.invariant.2 index (let every = e.1 in omega (arith, lt, every, all, long));
    }
