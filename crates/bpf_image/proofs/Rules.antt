-- Which rules an instruction keeps.
use Rattle.std.proofs.Common.{◌≡◌, ◌≢◌, ℕ, ◌≤◌, ℤ, pos, List, length, Option, Some, None, sym, subst, arith}
use Rattle.std.specs.Prelude.{IsSomeAnd, ◌≤ℤ◌, ◌<ℤ◌}
use Rattle.std.proofs.lemmas.Int.{ints}
use Rattle.bpf_insn.specs.declared.Insn.{Insn}
use Rattle.bpf_insn.specs.declared.Insn.TheVariants as insn
use Rattle.bpf_image.specs.declared.form.FormRule.TheVariants.{TargetOutside, TargetTail, TargetBack, RunsPast, Unreachable}
use Rattle.bpf_image.specs.Form.{target_of, next_of, slot_at, BreaksRule, IsKept}

no_some : {A : Type 0} (o : Option A) (P : A → Type 0) → o ≡ None → IsSomeAnd o P → ⊥
no_some o P e h = subst (λ q. IsSomeAnd q P) e h

pub the_some : {A : Type 0} (o : Option A) (a : A) (P : A → Type 0) → o ≡ Some a → IsSomeAnd o P → P a
the_some o a P e h = subst (λ q. IsSomeAnd q P) e h

pub some_from : {A : Type 0} (o : Option A) (a : A) (P : A → Type 0) → o ≡ Some a → P a → IsSomeAnd o P
some_from o a P e h = subst (λ q. IsSomeAnd q P) (sym e) h

-- no jump
pub kept_no_jump : (code : List Insn) (i : ℕ) (x : Insn) → target_of i x ≡ None → IsKept code i x 3
kept_no_jump code i x e TargetOutside h b = no_some (target_of i x) _ e b
kept_no_jump code i x e TargetTail h b = no_some (target_of i x) _ e b
kept_no_jump code i x e TargetBack h b = no_some (target_of i x) _ e b
kept_no_jump code i x e RunsPast h b = absurd (omega arith)
kept_no_jump code i x e Unreachable h b = absurd (omega arith)

some_none : {A : Type 0} (o : Option A) (y : A) → o ≡ Some y → o ≡ None → ⊥
some_none o y e f = cc

some_same : {A : Type 0} (o : Option A) (y t : A) → o ≡ Some y → o ≡ Some t → y ≡ t
some_same o y t e f = cc

-- a jump to a slot of the code
pub kept_target : (code : List Insn) (i : ℕ) (x y : Insn) (z : ℤ) → target_of i x ≡ Some z → slot_at code z ≡ Some y → IsKept code i x 1
kept_target code i x y z e s TargetOutside h b = some_none (slot_at code z) y s (the_some (target_of i x) z _ e b)
kept_target code i x y z e s TargetTail h b = absurd (omega arith)
kept_target code i x y z e s TargetBack h b = absurd (omega arith)
kept_target code i x y z e s RunsPast h b = absurd (omega arith)
kept_target code i x y z e s Unreachable h b = absurd (omega arith)

-- that starts an instruction
pub kept_start : (code : List Insn) (i : ℕ) (x y : Insn) (z : ℤ) → target_of i x ≡ Some z → slot_at code z ≡ Some y → y ≢ insn.Tail → IsKept code i x 2
kept_start code i x y z e s n TargetOutside h b = some_none (slot_at code z) y s (the_some (target_of i x) z _ e b)
kept_start code i x y z e s n TargetTail h b = n (some_same (slot_at code z) y insn.Tail s (the_some (target_of i x) z _ e b))
kept_start code i x y z e s n TargetBack h b = absurd (omega arith)
kept_start code i x y z e s n RunsPast h b = absurd (omega arith)
kept_start code i x y z e s n Unreachable h b = absurd (omega arith)

not_back : (z w : ℤ) → w <ℤ z → z ≤ℤ w → ⊥
not_back z w a b = omega (arith, ints)

-- and is higher
pub kept_ahead : (code : List Insn) (i : ℕ) (x y : Insn) (z : ℤ) → target_of i x ≡ Some z → slot_at code z ≡ Some y → y ≢ insn.Tail → pos i <ℤ z → IsKept code i x 3
kept_ahead code i x y z e s n l TargetOutside h b = some_none (slot_at code z) y s (the_some (target_of i x) z _ e b)
kept_ahead code i x y z e s n l TargetTail h b = n (some_same (slot_at code z) y insn.Tail s (the_some (target_of i x) z _ e b))
kept_ahead code i x y z e s n l TargetBack h b = not_back z (pos i) l (the_some (target_of i x) z _ e b)
kept_ahead code i x y z e s n l RunsPast h b = absurd (omega arith)
kept_ahead code i x y z e s n l Unreachable h b = absurd (omega arith)

-- one rule more
pub kept_four : (code : List Insn) (i : ℕ) (x : Insn) → IsKept code i x 3 → ¬ BreaksRule RunsPast code i x → IsKept code i x 4
kept_four code i x k n RunsPast h b = n b
kept_four code i x k n Unreachable h b = absurd (omega arith)
kept_four code i x k n TargetOutside h b = k TargetOutside (omega arith) b
kept_four code i x k n TargetTail h b = k TargetTail (omega arith) b
kept_four code i x k n TargetBack h b = k TargetBack (omega arith) b

pub kept_all : (code : List Insn) (i : ℕ) (x : Insn) → IsKept code i x 4 → ¬ BreaksRule Unreachable code i x → IsKept code i x 5
kept_all code i x k n RunsPast h b = k RunsPast (omega arith) b
kept_all code i x k n Unreachable h b = n b
kept_all code i x k n TargetOutside h b = k TargetOutside (omega arith) b
kept_all code i x k n TargetTail h b = k TargetTail (omega arith) b
kept_all code i x k n TargetBack h b = k TargetBack (omega arith) b

pub kept_none : (code : List Insn) (i : ℕ) (x : Insn) → IsKept code i x 0
kept_none code i x rule h b = absurd (omega arith)

pub past_from : (code : List Insn) (i : ℕ) (x : Insn) (k : ℕ) → next_of i x ≡ Some k → length code ≤ k → BreaksRule RunsPast code i x
past_from code i x k e h = some_from (next_of i x) k _ e h

pub past_to : (code : List Insn) (i : ℕ) (x : Insn) (k : ℕ) → next_of i x ≡ Some k → BreaksRule RunsPast code i x → length code ≤ k
past_to code i x k e h = the_some (next_of i x) k _ e h

pub no_past : (code : List Insn) (i : ℕ) (x : Insn) → next_of i x ≡ None → ¬ BreaksRule RunsPast code i x
no_past code i x e h = no_some (next_of i x) _ e h
