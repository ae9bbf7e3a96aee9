-- Which form an opcode has.
use Rattle.std.proofs.Common.{◌≡◌, ◌≢◌, ℕ, ◌+◌, ◌*◌, ◌%◌, ◌≤◌, arith, refl, sym, ap, ◌∙◌, ◌⊎◌, inl, inr, IfNone}
use Rattle.std.specs.Prelude.{Option, None, Some}
use Rattle.bpf_alu.specs.declared.Width.{Width}
use Rattle.bpf_alu.specs.declared.Width.TheVariants.{W32, W64}
use Rattle.bpf_alu.specs.declared.Cond.{Cond}
use Rattle.bpf_alu.specs.declared.SwapKind.TheVariants as swap
use Rattle.bpf_insn.specs.declared.Size.{Size}
use Rattle.bpf_insn.specs.declared.form.Source.{Source}
use Rattle.bpf_insn.specs.declared.form.Source.TheVariants.{Immediate, Register as X}
use Rattle.bpf_insn.specs.declared.form.Form.{Form}
use Rattle.bpf_insn.specs.declared.form.Form.TheVariants as form
use Rattle.bpf_insn.specs.Encoding.{cond_number, source_bit, alu_class, jump_class, opcode, IsForm}

pub none-map : {A : Type 0} {P Q : Type 0} (o : Option A) → (Q → P) → IfNone o Q → IfNone o P
none-map None f q = f q
none-map (Some x) f q = tt

-- what the classes of jumps and stores are
jump_range : (w : Width) (m : ℕ) → m ≡ jump_class w → (5 ≤ m) × (m ≤ 6)
jump_range W32 m e = (omega arith, omega arith)
jump_range W64 m e = (omega arith, omega arith)

alu_range : (w : Width) → (alu_class w ≡ 4) ⊎ (alu_class w ≡ 7)
alu_range W32 = inl refl
alu_range W64 = inr refl

same_jump : (v w : Width) (m : ℕ) → m ≡ jump_class w → m ≡ jump_class v → v ≡ w
same_jump W32 W32 m d e = refl
same_jump W64 W64 m d e = refl
same_jump W32 W64 m d e = absurd (omega arith)
same_jump W64 W32 m d e = absurd (omega arith)

jump_low : (c : ℕ) (b : ℕ) (v : Width) (n : ℕ) → c * 16 + b * 8 + jump_class v ≡ n → n % 8 ≡ jump_class v
jump_low c b W32 n e = omega arith
jump_low c b W64 n e = omega arith

-- a class of jumps has no other form than its conditional jumps, JA, CALL and EXIT
pub jumps-only : (n : ℕ) (w : Width) → n % 8 ≡ jump_class w → n ≢ 5 → n ≢ 6 → n ≢ 133 → n ≢ 149 → ((c : Cond) (s : Source) → opcode (form.JumpIf c w s) ≢ n) → (f : Form) → IsForm f → opcode f ≢ n
jumps-only n w class n5 n6 n133 n149 none (form.Alu code v s) ok e =
    let k : (5 ≤ n % 8) × (n % 8 ≤ 6) = jump_range w (n % 8) class in
    elim (alu_range v) [ inl h ↦ omega (arith, e, h) | inr h ↦ omega (arith, e, h) ]
jumps-only n w class n5 n6 n133 n149 none (form.Swap swap.ToLittle) ok e = let k : (5 ≤ n % 8) × (n % 8 ≤ 6) = jump_range w (n % 8) class in omega (arith, e)
jumps-only n w class n5 n6 n133 n149 none (form.Swap swap.ToBig) ok e = let k : (5 ≤ n % 8) × (n % 8 ≤ 6) = jump_range w (n % 8) class in omega (arith, e)
jumps-only n w class n5 n6 n133 n149 none (form.Swap swap.Swap) ok e = let k : (5 ≤ n % 8) × (n % 8 ≤ 6) = jump_range w (n % 8) class in omega (arith, e)
jumps-only n w class n5 n6 n133 n149 none (form.Load size extend) ok e = let k : (5 ≤ n % 8) × (n % 8 ≤ 6) = jump_range w (n % 8) class in omega (arith, e)
jumps-only n w class n5 n6 n133 n149 none (form.Store size Immediate) ok e = let k : (5 ≤ n % 8) × (n % 8 ≤ 6) = jump_range w (n % 8) class in omega (arith, e)
jumps-only n w class n5 n6 n133 n149 none (form.Store size X) ok e = let k : (5 ≤ n % 8) × (n % 8 ≤ 6) = jump_range w (n % 8) class in omega (arith, e)
jumps-only n w class n5 n6 n133 n149 none form.Near ok e = n5 (sym e)
jumps-only n w class n5 n6 n133 n149 none form.Far ok e = n6 (sym e)
jumps-only n w class n5 n6 n133 n149 none (form.JumpIf c v s) ok e =
    none c s (ap (λ u. cond_number c * 16 + source_bit s * 8 + jump_class u) (sym (same_jump v w (n % 8) class (jump_low (cond_number c) (source_bit s) v n e))) ∙ e)
jumps-only n w class n5 n6 n133 n149 none form.Call ok e = n133 (sym e)
jumps-only n w class n5 n6 n133 n149 none form.Exit ok e = n149 (sym e)
jumps-only n w class n5 n6 n133 n149 none form.Wide ok e = let k : (5 ≤ n % 8) × (n % 8 ≤ 6) = jump_range w (n % 8) class in omega (arith, e)

-- the classes 2 and 3 have stores only
pub stores-only : (n : ℕ) → 2 ≤ n % 8 → n % 8 ≤ 3 → ((z : Size) (s : Source) → opcode (form.Store z s) ≢ n) → (f : Form) → IsForm f → opcode f ≢ n
stores-only n low high none (form.Alu code v s) ok e = elim (alu_range v) [ inl h ↦ omega (arith, e, h) | inr h ↦ omega (arith, e, h) ]
stores-only n low high none (form.Swap swap.ToLittle) ok e = omega (arith, e)
stores-only n low high none (form.Swap swap.ToBig) ok e = omega (arith, e)
stores-only n low high none (form.Swap swap.Swap) ok e = omega (arith, e)
stores-only n low high none (form.Load size extend) ok e = omega (arith, e)
stores-only n low high none (form.Store size s) ok e = none size s e
stores-only n low high none form.Near ok e = omega (arith, e)
stores-only n low high none form.Far ok e = omega (arith, e)
stores-only n low high none (form.JumpIf c W32 s) ok e = omega (arith, e)
stores-only n low high none (form.JumpIf c W64 s) ok e = omega (arith, e)
stores-only n low high none form.Call ok e = omega (arith, e)
stores-only n low high none form.Exit ok e = omega (arith, e)
stores-only n low high none form.Wide ok e = omega (arith, e)
