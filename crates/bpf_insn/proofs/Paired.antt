-- Wide instructions and their tails, slot by slot.
use Rattle.std.proofs.Common.{◌≡◌, ◌≢◌, ℕ, zero, suc, List, [], ◌∷◌, ◌++◌, refl, sym, subst}
use Rattle.std.specs.Prelude.{Some, slice_get}
use Rattle.std.specs.List.{flat_map, AllByRecursion}
use Rattle.bpf_insn.specs.Encoding.{IsInstruction, IsCode, slots}
use Rattle.bpf_insn.specs.declared.Register.{Register}
use Rattle.bpf_insn.specs.declared.Insn.{Insn}
use Rattle.bpf_insn.specs.declared.Insn.TheVariants as insn

-- an instruction has one slot that is neither wide nor a tail, or two that are
data Shape (i : Insn) : Type 0 where
  One : slots i ≡ i ∷ [] → ((dst : Register) (n : ℕ) → i ≢ insn.Wide dst n) → i ≢ insn.Tail → Shape i
  Two : (dst : Register) (n : ℕ) → i ≡ insn.Wide dst n → Shape i

shape : (i : Insn) → IsInstruction i → Shape i
shape (insn.Alu o w d s) h = One refl (λ d n e. cc) (λ e. cc)
shape (insn.Swap k b d) h = One refl (λ d n e. cc) (λ e. cc)
shape (insn.Load z x d b o) h = One refl (λ d n e. cc) (λ e. cc)
shape (insn.Store z b o s) h = One refl (λ d n e. cc) (λ e. cc)
shape (insn.Jump d) h = One refl (λ d n e. cc) (λ e. cc)
shape (insn.JumpIf c w l r o) h = One refl (λ d n e. cc) (λ e. cc)
shape (insn.Call n) h = One refl (λ d n e. cc) (λ e. cc)
shape insn.Exit h = One refl (λ d n e. cc) (λ e. cc)
shape (insn.Wide d n) h = Two d n refl
shape insn.Tail h = absurd h

some_same : (i j : Insn) → Some i ≡ Some j → i ≡ j
some_same i j e = cc

-- what a slot tells of the one after it and the one before it
pub record IsPaired (code : List Insn) : Type 0 where
  pub after_wide : (k n : ℕ) (dst : Register) → slice_get code k ≡ Some (insn.Wide dst n) → slice_get code (suc k) ≡ Some insn.Tail
  pub before_tail : (k : ℕ) → slice_get code (suc k) ≡ Some insn.Tail → (dst : Register) × (n : ℕ) × (slice_get code k ≡ Some (insn.Wide dst n))
  pub no_tail_first : slice_get code 0 ≢ Some insn.Tail
  pub instructions : (k : ℕ) (i : Insn) → slice_get code k ≡ Some i → i ≢ insn.Tail → IsInstruction i

paired_none : IsPaired []
paired_none = record {
  after_wide = λ k n dst e. cc;
  before_tail = λ k e. absurd (cc);
  no_tail_first = λ e. cc;
  instructions = λ k i e h. absurd (cc);
}

module _ (i : Insn) (rest : List Insn) (p : IsPaired rest) (is : IsInstruction i) (narrow : (dst : Register) (n : ℕ) → i ≢ insn.Wide dst n) (starts : i ≢ insn.Tail) where
  one_after : (k n : ℕ) (dst : Register) → slice_get (i ∷ rest) k ≡ Some (insn.Wide dst n) → slice_get (i ∷ rest) (suc k) ≡ Some insn.Tail
  one_after zero n dst e = absurd (narrow dst n (some_same i (insn.Wide dst n) e))
  one_after (suc k) n dst e = p.after_wide k n dst e

  one_before : (k : ℕ) → slice_get (i ∷ rest) (suc k) ≡ Some insn.Tail → (dst : Register) × (n : ℕ) × (slice_get (i ∷ rest) k ≡ Some (insn.Wide dst n))
  one_before zero e = absurd (p.no_tail_first e)
  one_before (suc k) e = p.before_tail k e

  one_is : (k : ℕ) (j : Insn) → slice_get (i ∷ rest) k ≡ Some j → j ≢ insn.Tail → IsInstruction j
  one_is zero j e h = subst IsInstruction (some_same i j e) is
  one_is (suc k) j e h = p.instructions k j e h

  paired_one : IsPaired (i ∷ rest)
  paired_one = record {
    after_wide = one_after;
    before_tail = one_before;
    no_tail_first = λ e. starts (some_same i insn.Tail e);
    instructions = one_is;
  }

module _ (dst : Register) (n : ℕ) (rest : List Insn) (p : IsPaired rest) (is : IsInstruction (insn.Wide dst n)) where
  two_after : (k m : ℕ) (d : Register) → slice_get (insn.Wide dst n ∷ insn.Tail ∷ rest) k ≡ Some (insn.Wide d m) → slice_get (insn.Wide dst n ∷ insn.Tail ∷ rest) (suc k) ≡ Some insn.Tail
  two_after zero m d e = refl
  two_after (suc zero) m d e = cc
  two_after (suc (suc k)) m d e = p.after_wide k m d e

  two_before : (k : ℕ) → slice_get (insn.Wide dst n ∷ insn.Tail ∷ rest) (suc k) ≡ Some insn.Tail → (d : Register) × (m : ℕ) × (slice_get (insn.Wide dst n ∷ insn.Tail ∷ rest) k ≡ Some (insn.Wide d m))
  two_before zero e = (dst, n, refl)
  two_before (suc zero) e = absurd (p.no_tail_first e)
  two_before (suc (suc k)) e = p.before_tail k e

  two_is : (k : ℕ) (j : Insn) → slice_get (insn.Wide dst n ∷ insn.Tail ∷ rest) k ≡ Some j → j ≢ insn.Tail → IsInstruction j
  two_is zero j e h = subst IsInstruction (some_same (insn.Wide dst n) j e) is
  two_is (suc zero) j e h = absurd (h (sym (some_same insn.Tail j e)))
  two_is (suc (suc k)) j e h = p.instructions k j e h

  paired_two : IsPaired (insn.Wide dst n ∷ insn.Tail ∷ rest)
  paired_two = record {
    after_wide = two_after;
    before_tail = two_before;
    no_tail_first = λ e. cc;
    instructions = two_is;
  }

paired : (is : List Insn) → AllByRecursion IsInstruction is → IsPaired (flat_map slots is)
paired [] h = paired_none
paired (i ∷ is) h =
    let rest : List Insn = flat_map slots is in
    let p : IsPaired rest = paired is h.1 in
    elim (shape i h.0) [
      | One e narrow starts ↦ subst (λ (xs : List Insn). IsPaired (xs ++ rest)) (sym e) (paired_one i rest p h.0 narrow starts)
      | Two d n e ↦ subst (λ (j : Insn). IsPaired (slots j ++ rest)) (sym e) (paired_two d n rest p (subst IsInstruction e h.0))
    ]

pub code_paired : (code : List Insn) → IsCode code → IsPaired code
code_paired code c = subst IsPaired (sym c.2) (paired c.0 c.1)
