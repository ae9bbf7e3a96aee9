use Rattle.std.proofs.Common.{◌≡◌, ◌∙◌, ℕ, max, ap, arith, rules, subst, sym, refl, List, [], ◌∷◌, Some, None}
use Rattle.std.specs.Prelude.{All}
use Rattle.std.specs.BTreeMap.{get, values}
use Rattle.std.specs.Ordering.{nat_cmp}
use Rattle.std.proofs.lemmas.List.Elements.{All-head, All-tail}
use Rattle.http_connections.specs.Unsent.{most_held}
use Rattle.http_connections.specs.declared.seat.Seat.{Seat}
use Rattle.http_connections.proofs.UnsentLemmas.{held_by, most_of, none_held}
use Rattle.http_connections.proofs.seats.Seats.fullest.Goals as goal

pub loop-number-init : goal.loop-number-init
loop-number-init c =
    let map = c.args.self.now.by_number in
    let all : c.into_iter-number-iterator.result ≡ map.entries = search rules in record {
      most = omega (arith, ap most_of all);
      found = subst (λ (es : List (ℕ × Seat)). All (λ e. get nat_cmp map e.0 ≡ Some e.1) es) (sym all) c.iter-number-items.ensures.found;
      holder = tt;
      none = λ e. refl;
    }

pub loop-number-preserved-then-held-most : goal.loop-number-preserved-then-held-most
loop-number-preserved-then-held-most c =
    let map = c.args.self.now.by_number in
    let next : c.loop-number.number-iterator ≡ (c.in-Some.number.now, c.in-Some.seat.now) ∷ c.next.new.self = search rules in
    let most = subst (λ (es : List (ℕ × Seat)). max c.loop-number.most (most_of es) ≡ most_held (values map)) next c.loop-number.invariant.most in
    let found = subst (λ (es : List (ℕ × Seat)). All (λ e. get nat_cmp map e.0 ≡ Some e.1) es) next c.loop-number.invariant.found in
    let own : get nat_cmp map c.in-Some.number.now ≡ Some c.in-Some.seat.now = All-head (λ (e : ℕ × Seat). get nat_cmp map e.0 ≡ Some e.1) (c.in-Some.number.now, c.in-Some.seat.now) c.next.new.self found in record {
      most = omega (arith, most, c.held.ensures.held, c.held-most.ensures.held, c.if-held-most.true);
      found = All-tail (λ (e : ℕ × Seat). get nat_cmp map e.0 ≡ Some e.1) (c.in-Some.number.now, c.in-Some.seat.now) c.next.new.self found;
      holder = (ap held_by own ∙ sym c.held-most.ensures.held, omega (arith, c.held.ensures.held, c.held-most.ensures.held, c.if-held-most.true));
      none = λ e. let both : Some c.in-Some.number.now ≡ None = e in cc;
    }

pub loop-number-preserved : goal.loop-number-preserved
loop-number-preserved c =
    let map = c.args.self.now.by_number in
    let next : c.loop-number.number-iterator ≡ (c.in-Some.number.now, c.in-Some.seat.now) ∷ c.next.new.self = search rules in
    let most = subst (λ (es : List (ℕ × Seat)). max c.loop-number.most (most_of es) ≡ most_held (values map)) next c.loop-number.invariant.most in
    let found = subst (λ (es : List (ℕ × Seat)). All (λ e. get nat_cmp map e.0 ≡ Some e.1) es) next c.loop-number.invariant.found in record {
      most = omega (arith, most, c.held.ensures.held, c.if-held-most.false);
      found = All-tail (λ (e : ℕ × Seat). get nat_cmp map e.0 ≡ Some e.1) (c.in-Some.number.now, c.in-Some.seat.now) c.next.new.self found;
      holder = c.loop-number.invariant.holder;
      none = c.loop-number.invariant.none;
    }

pub returns-clause-none : goal.returns-clause-none
returns-clause-none c = λ none.
    let map = c.args.self.now.by_number in
    let last : c.loop-number.number-iterator ≡ [] = search rules in
    let most = subst (λ (es : List (ℕ × Seat)). max c.loop-number.most (most_of es) ≡ most_held (values map)) last c.loop-number.invariant.most in
    none_held (values map) (omega (arith, most, c.loop-number.invariant.none none))
