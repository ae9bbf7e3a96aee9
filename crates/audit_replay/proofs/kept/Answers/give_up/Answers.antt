use Rattle.std.proofs.Common.{◌≡◌, ◌++◌, List, sym, subst, replicate, drop, length, arith, ◌∙◌, ℕ}
use Rattle.std.specs.Prelude.{sum_by}
use Rattle.audit_replay.specs.declared.kept.Kept.{Kept}
use Rattle.audit_replay.specs.declared.kept.Kept.TheVariants.{GivenUp}
use Rattle.audit_replay.specs.Kept.{IsLeft, IsMore, IsOver, kept_bytes}
use Rattle.audit_replay.proofs.Keeping.{one_gone, cut_left}
use Rattle.audit_replay.proofs.kept.Answers.give_up.Goals as goal

pub loop-recent-preserved : goal.loop-recent-preserved
loop-recent-preserved c =
    let now = c.loop-recent.self-inside in
    one_gone c.args.recent c.self.inside.first now.first now.bytes c.from.result c.len.result c.self.inside.here.items now.here.items c.pop_front.new.self.items c.in-Some.first c.loop-recent.invariant
    (omega (arith, c.len.ensures, now.here.ok.0)) c.loop-recent-test.ensures c.in-Some.ensures.items (c.from.ensures ∙ c.bytes.ensures)

pub loop-recent-preserved-in-Some : goal.loop-recent-preserved-in-Some
loop-recent-preserved-in-Some c =
    let now = c.loop-recent.self-inside in
    one_gone c.args.recent c.self.inside.first now.first now.bytes c.from.result c.len.result c.self.inside.here.items now.here.items c.pop_front.new.self.items c.in-Some.first c.loop-recent.invariant
    (omega (arith, c.len.ensures, now.here.ok.0)) c.loop-recent-test.ensures c.in-Some.ensures.items (c.from.ensures ∙ c.bytes.ensures)

pub loop-recent-preserved-in-Some-2 : goal.loop-recent-preserved-in-Some-2
loop-recent-preserved-in-Some-2 c =
    let now = c.loop-recent.self-inside in
    one_gone c.args.recent c.self.inside.first now.first now.bytes c.from.result c.len.result c.self.inside.here.items now.here.items c.pop_front.new.self.items c.in-Some.first c.loop-recent.invariant
    (omega (arith, c.len.ensures, now.here.ok.0)) c.loop-recent-test.ensures c.in-Some.ensures.items (c.from.ensures ∙ c.bytes.ensures)

pub loop-recent-preserved-in-Some-3 : goal.loop-recent-preserved-in-Some-3
loop-recent-preserved-in-Some-3 c =
    let now = c.loop-recent.self-inside in
    one_gone c.args.recent c.self.inside.first now.first now.bytes c.from.result c.len.result c.self.inside.here.items now.here.items c.pop_front.new.self.items c.in-Some.first c.loop-recent.invariant
    (omega (arith, c.len.ensures, now.here.ok.0)) c.loop-recent-test.ensures c.in-Some.ensures.items (c.from.ensures ∙ c.bytes.ensures)

pub returns : goal.returns
returns c =
    let now = c.loop-recent.self-inside in
    let old = c.self.inside in
    let recent = c.args.recent in
    let gone = c.loop-recent.invariant in
    let long : c.len.result ≡ length now.here.items = omega (arith, c.len.ensures, now.here.ok.0) in
    let more : IsMore recent c.len.result now.bytes → ⊥ = c.loop-recent-test.ensures in
    let fits : IsOver recent (drop gone.0 old.here.items) → ⊥ = λ over. more
    (subst (λ (b : ℕ). IsMore recent c.len.result b) (sym gone.4)
    (subst (λ (n : ℕ). IsMore recent n (sum_by kept_bytes now.here.items)) (sym long) (subst (λ (xs : List Kept). IsOver recent xs) (sym gone.2) over))) in
    subst (λ (all : List Kept). IsLeft recent all (replicate now.first GivenUp ++ now.here.items)) c.self.view_is
    (subst (λ (xs : List Kept). IsLeft recent (replicate old.first GivenUp ++ old.here.items) (replicate now.first GivenUp ++ xs)) (sym gone.2)
    (subst (λ (n : ℕ). IsLeft recent (replicate old.first GivenUp ++ old.here.items) (replicate n GivenUp ++ drop gone.0 old.here.items)) (sym gone.1)
    (cut_left recent old.first gone.0 old.here.items fits gone.3)))
