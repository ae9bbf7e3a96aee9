use Rattle.std.proofs.Common.{rules, ◌≡◌, ◌∙◌, ap, ℕ, ◌<◌, List, [], None, length, replicate, sym, subst}
use Rattle.journal.specs.Logs.{Log}
use Rattle.audit_replay.specs.Followed.{HasFollowed}
use Rattle.audit_replay.specs.declared.kept.Kept.{Kept}
use Rattle.audit_replay.proofs.Opening.{empties_more, vnodes_more, vnodes_all, opened}
use Rattle.audit_replay.proofs.followed.open.Goals as goal

pub loop-index-preserved : goal.loop-index-preserved
loop-index-preserved c =
    let ids = c.args.ids.now in
    let i = c.loop-index.index in
    let inside : i < length c.args.ids.now = search (rules) in
    record {
      vnodes = vnodes_more ids c.loop-index.vnodes.items c.push.new.self.items c.seeded.result i _ inside c.loop-index.invariant.vnodes c.seeded.ensures c.in_ok-push.ensures.items;
      answers = empties_more {X = Kept} i c.loop-index.answers.items c.push-in-loop-index.new.self.items c.new.result c.loop-index.invariant.answers c.new.ensures c.in_ok-push-2.ensures.items;
    }

pub returns-clause-run : goal.returns-clause-run
returns-clause-run c =
    let ids = c.args.ids.now in
    let all : c.loop-index.index ≡ length c.args.ids.now = search (rules) in
    let vnodes = c.loop-index.invariant.vnodes ∙ vnodes_all ids c.loop-index.index all in
    let answers : c.loop-index.answers.items ≡ replicate (length ids) (let none : List Kept = [] in none) = c.loop-index.invariant.answers ∙ ap (λ (n : ℕ). replicate n (let none : List Kept = [] in none)) all in
    subst (λ (xs : List (List Kept)). HasFollowed c.args.fronts.items c.loop-index.vnodes.items None c.args.recent xs) (sym answers)
    (subst (λ (vs : List Log). HasFollowed c.args.fronts.items vs None c.args.recent (replicate (length ids) [])) (sym vnodes) (opened c.args.fronts.items ids c.args.recent c.requires.distinct))
