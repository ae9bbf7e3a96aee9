-- What is known at a slot, from slot to slot: the sums.
use Rattle.std.proofs.Common.{◌≡◌, ℕ, suc, ◌+◌, ◌<◌, Bool, ◌||◌, cond, List, Option, Some, None, sym, ap, ◌∙◌, subst, ⊎_elim, arith}
use Rattle.std.specs.Prelude.{Result, Ok, Err, IfOk, IfSome, slice_get}
use Rattle.std.proofs.lemmas.Bool.{cases_eq}
use Rattle.bpf_insn.specs.declared.Insn.{Insn}
use Rattle.bpf_image.specs.Form.{target_of}
use Rattle.bpf_copies.specs.Led.{is_slot, target_at, leads_before}
use Rattle.bpf_verifier.specs.Sums.{KnownSums, no_sums, sums_after, sums_next, sums_at}
use Rattle.bpf_semantics.specs.declared.profile.Profile.{Profile}
use Rattle.bpf_verifier.specs.Table.{AreKinds}
use Rattle.bpf_verifier.specs.Rows.{HasKinds}
use Rattle.bpf_verifier.specs.Registers.{Row}

-- the slots to which jumps lead from one slot more
pub led_on : (code : List Insn) (i k : ℕ) (x : Insn) → slice_get code i ≡ Some x → (is_slot k (target_of i x) || leads_before code i k) ≡ leads_before code (i + 1) k
led_on code i k x at =
    let one : suc i ≡ i + 1 = omega arith in
    ap (λ o. is_slot k (target_at i o) || leads_before code i k) (sym at) ∙ ap (λ n. leads_before code n k) one

next_is : (code : List Insn) (i : ℕ) (x : Insn) (b : Bool) → slice_get code i ≡ Some x → b ≡ leads_before code (suc i) (suc i) → cond b no_sums (sums_after x (sums_at code i)) ≡ sums_at code (suc i)
next_is code i x b at led = ap (λ c. cond c no_sums (sums_after x (sums_at code i))) led ∙ ap (λ o. cond (leads_before code (suc i) (suc i)) no_sums (sums_next o (sums_at code i))) (sym at)

-- the sums that are known at the next slot
pub sums_on : (code : List Insn) (i : ℕ) (x : Insn) (b : Bool) (sums : KnownSums) → slice_get code i ≡ Some x → b ≡ leads_before code (i + 1) (i + 1) → sums ≡ sums_at code i → cond b no_sums (sums_after x sums) ≡ sums_at code (i + 1)
sums_on code i x b sums at led is =
    let one : i + 1 ≡ suc i = omega arith in
    ap (λ s. cond b no_sums (sums_after x s)) is ∙ next_is code i x b at (led ∙ ap (λ n. leads_before code n n) one) ∙ ap (sums_at code) (sym one)

-- what follows of an answer that is one
pub if_ok : {T E : Type 0} (P Q : T → Type 0) (r : Result T E) → ((x : T) → P x → Q x) → IfOk r P → IfOk r Q
if_ok P Q (Ok x) f h = f x h
if_ok P Q (Err e) f h = tt

-- the kinds of a row, if there is one
pub known_kinds : (profile : Profile) (low : ℕ) (o : Option Row) → HasKinds profile low o → IfSome o AreKinds
known_kinds profile low None h = tt
known_kinds profile low (Some row) h = h.kinds

-- what holds of each slot before one, and of that one
pub one_more : (P : ℕ → Type 0) (i : ℕ) → ((k : ℕ) → k < i → P k) → P i → (k : ℕ) → k < i + 1 → P k
one_more P i before here k lt = ⊎_elim (λ same. subst P (sym same) here) (λ other. before k (omega (arith, lt, other))) (cases_eq k i)
