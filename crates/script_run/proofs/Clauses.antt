-- Clauses on results and options, at their values.
use Rattle.std.proofs.Common.{◌≡◌, subst}
use Rattle.std.specs.Prelude.{Result, Ok, Err, OnOk, Option, Some, None, MatchOption}

-- what follows from two clauses of a call that succeeds
pub on_ok_both : {X E : Type 0} (r : Result X E) (A B Q : Type 0) → (A → B → Q) → OnOk r A → OnOk r B → OnOk r Q
on_ok_both (Ok x) A B Q f a b = f a b
on_ok_both (Err e) A B Q f a b = tt

pub at_some : {X : Type 0} (o : Option X) (x : X) (P : Type 0) (Q : X → Type 0) → o ≡ Some x → MatchOption o P Q → Q x
at_some o x P Q is h = subst (λ v. MatchOption v P Q) is h

pub at_none : {X : Type 0} (o : Option X) (P : Type 0) (Q : X → Type 0) → o ≡ None → MatchOption o P Q → P
at_none o P Q is h = subst (λ v. MatchOption v P Q) is h
