use Rattle.std.proofs.Common.{◌≡◌, fold, [], ◌++◌, MatchResult, sym, ap, ◌∙◌, subst, option_to_list}
use Rattle.std.proofs.lemmas.List.{append-nil}
use Rattle.std.proofs.lemmas.Result.{MatchResult-weaker}
use Rattle.left_right.specs.Handles.{pending, published}
use Rattle.hook_sharing.specs.Lists.{last_of}
use Rattle.hook_sharing.proofs.Fronts.{last_of_applied, shown_begins, still_agreed}
use Rattle.hook_sharing.proofs.outlet.Outlet.publish.Goals as goal

pub invariant_of-self : goal.invariant_of-self
invariant_of-self g c =
    let h = c.hand_on_all.new.self in
    let none = c.in_ok-hand_on_all.ensures.ok.0 in
    let was = g.T.Absorb.state (published h.writer) in
    let now = g.T.Absorb.state (published c.publish.new.self) in
    let left = pending c.publish.new.self in
    let all : last_of was (pending h.writer) ≡ h.front = ap (last_of was) (sym (append-nil (pending h.writer))) ∙ subst (λ held. last_of was (pending h.writer ++ option_to_list held) ≡ h.front) none h.agreed in
    let shown : fold g.T.Absorb.applied was (pending h.writer) ≡ h.front = last_of_applied g.T.Absorb.applied g.met.T.Rack.last was (pending h.writer) ∙ all in
    let values : MatchResult c.publish.result (λ _. (now ≡ h.front) × (left ≡ [])) (λ _. (now ≡ was) × (left ≡ pending h.writer)) = MatchResult-weaker c.publish.result c.publish.ensures.values (λ x p. (p.0 ∙ shown, p.1)) (λ y q. (ap g.T.Absorb.state q.0, q.1)) in
    record {
      agreed = ap (λ held. last_of now (left ++ option_to_list held)) none ∙ ap (last_of now) (append-nil left) ∙ still_agreed c.publish.result was now h.front (pending h.writer) left all values;
      begun = shown_begins c.publish.result was now h.front h.begun (MatchResult-weaker c.publish.result values (λ x p. p.0) (λ y q. q.0));
    }
