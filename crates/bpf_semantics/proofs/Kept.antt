-- What a step leaves as it was.
use Rattle.std.proofs.Common.{◌≡◌, ◌≢◌, ℕ, zero, suc, ◌-◌, List, refl, sym, ap, subst, ◌∙◌}
use Rattle.std.proofs.lemmas.Bool.{cond_both}
use Rattle.bpf_alu.specs.Value.{condition}
use Rattle.bpf_insn.specs.Encoding.{size_bytes}
use Rattle.bpf_insn.specs.declared.Distance.TheVariants as distance
use Rattle.bpf_insn.specs.declared.Insn.{Insn}
use Rattle.bpf_insn.specs.declared.Insn.TheVariants as insn
use Rattle.bpf_semantics.specs.Windows.{Memory, Covers, base, written, low_bytes}
use Rattle.bpf_semantics.specs.State.{State, Calls, no_calls, Row, Breaks, number_in, operand_in, address, advanced, jumped}
use Rattle.bpf_semantics.specs.Step.{Step, Runs}
use Rattle.bpf_semantics.specs.declared.Fault.{Fault}
use Rattle.bpf_semantics.specs.declared.Fault.TheVariants as fault
use Rattle.bpf_semantics.specs.declared.Region.{Region}
use Rattle.bpf_semantics.specs.declared.Region.TheVariants.{Stack, Input, Output}

-- calls that leave the input as it was
abbrev pub KeepsInput : Calls → Type 0
KeepsInput calls = (helper : ℕ) (s : State) (answer : ℕ) (m : Memory) → calls.Answers helper s answer m → m.input ≡ s.memory.input

pub no_calls_keep : KeepsInput no_calls
no_calls_keep helper s answer m a = absurd a

written_input : (m : Memory) (r : Region) (at : ℕ) (new : List ℕ) → r ≢ Input → (written m r at new).input ≡ m.input
written_input m Stack at new h = refl
written_input m Input at new h = absurd (h refl)
written_input m Output at new h = refl

pub row_input : (calls : Calls) → KeepsInput calls → (i : Insn) (s t : State) → ((f : Fault) → ¬ Breaks calls i s f) → Row calls i s t → t.memory.input ≡ s.memory.input
row_input calls k (insn.Alu o w d src) s t h e = ap (λ z. z.memory.input) e
row_input calls k (insn.Swap b n d) s t h e = ap (λ z. z.memory.input) e
row_input calls k (insn.Load size x d r o) s t h e = ap (λ z. z.memory.input) e.2
row_input calls k (insn.Store size r o src) s t h e =
    let other : e.0 ≢ Input = λ is. h fault.Input (subst (λ (q : Region). Covers s.memory q (address s r o) (size_bytes size)) is e.1) in
    ap (λ z. z.memory.input) e.2 ∙ written_input s.memory e.0 (address s r o - base e.0) (low_bytes (size_bytes size) (operand_in s src)) other
row_input calls k (insn.Jump (distance.Near o)) s t h e = ap (λ z. z.memory.input) e
row_input calls k (insn.Jump (distance.Far o)) s t h e = ap (λ z. z.memory.input) e
row_input calls k (insn.JumpIf c w l r o) s t h e =
    ap (λ z. z.memory.input) e
    ∙ cond_both (condition c w (number_in s l) (operand_in s r)) (jumped o s) (advanced s) (λ (z : State). z.memory.input ≡ s.memory.input) (λ taken. refl) (λ passed. refl)
row_input calls k (insn.Call n) s t h e = ap (λ z. z.memory.input) e.3 ∙ k n s e.0 e.1 e.2
row_input calls k insn.Exit s t h e = absurd e
row_input calls k (insn.Wide d v) s t h e = ap (λ z. z.memory.input) e
row_input calls k insn.Tail s t h e = absurd e

pub step_input : (calls : Calls) → KeepsInput calls → (code : List Insn) (s t : State) → Step calls code s t → t.memory.input ≡ s.memory.input
step_input calls k code s t e = row_input calls k e.0 s t e.2.sound e.2.row

pub runs_input : (calls : Calls) → KeepsInput calls → (code : List Insn) (n : ℕ) (s t : State) → Runs calls code n s t → t.memory.input ≡ s.memory.input
runs_input calls k code zero s t r = ap (λ z. z.memory.input) (sym r)
runs_input calls k code (suc n) s t r = step_input calls k code r.0 t r.2 ∙ runs_input calls k code n s r.0 r.1
