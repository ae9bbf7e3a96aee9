-- What instructions read.
use Rattle.std.proofs.Common.{◌≡◌, ◌≢◌, ℕ, List, false, refl, sym}
use Rattle.bpf_alu.specs.declared.Op.TheVariants as op
use Rattle.bpf_insn.specs.declared.Insn.{Insn}
use Rattle.bpf_insn.specs.declared.Insn.TheVariants as insn
use Rattle.bpf_helpers.specs.declared.sig.Entry.{Entry}
use Rattle.bpf_helpers.specs.Calls.{Callee, calls_of}
use Rattle.bpf_semantics.specs.State.{Calls, no_calls, reads}
use Rattle.bpf_verifier.specs.Registers.{Row, any_unset}
use Rattle.bpf_verifier.specs.Rules.{callee_in, reads_by}

-- an instruction that is no call reads the same whatever calls do
pub same_reads : (calls : Calls) (x : Insn) → ((n : ℕ) → x ≢ insn.Call n) → reads calls x ≡ reads no_calls x
same_reads calls (insn.Alu op.Add w dst src) h = refl
same_reads calls (insn.Alu op.Sub w dst src) h = refl
same_reads calls (insn.Alu op.Mul w dst src) h = refl
same_reads calls (insn.Alu op.Div w dst src) h = refl
same_reads calls (insn.Alu op.SignedDiv w dst src) h = refl
same_reads calls (insn.Alu op.Or w dst src) h = refl
same_reads calls (insn.Alu op.And w dst src) h = refl
same_reads calls (insn.Alu op.Xor w dst src) h = refl
same_reads calls (insn.Alu op.Lsh w dst src) h = refl
same_reads calls (insn.Alu op.Rsh w dst src) h = refl
same_reads calls (insn.Alu op.Arsh w dst src) h = refl
same_reads calls (insn.Alu op.Mod w dst src) h = refl
same_reads calls (insn.Alu op.SignedMod w dst src) h = refl
same_reads calls (insn.Alu op.Neg w dst src) h = refl
same_reads calls (insn.Alu op.Mov w dst src) h = refl
same_reads calls (insn.Alu op.Movsx8 w dst src) h = refl
same_reads calls (insn.Alu op.Movsx16 w dst src) h = refl
same_reads calls (insn.Alu op.Movsx32 w dst src) h = refl
same_reads calls (insn.Swap kind n dst) h = refl
same_reads calls (insn.Load size extend dst base offset) h = refl
same_reads calls (insn.Store size base offset src) h = refl
same_reads calls (insn.Jump d) h = refl
same_reads calls (insn.JumpIf c w left right o) h = refl
same_reads calls (insn.Call n) h = absurd (h n refl)
same_reads calls insn.Exit h = refl
same_reads calls (insn.Wide dst n) h = refl
same_reads calls insn.Tail h = refl

-- what an instruction reads by what it calls
pub reads_called : (sigs : List Entry) (x : Insn) → reads_by (callee_in sigs x) x ≡ reads (calls_of sigs) x
reads_called sigs (insn.Alu o w dst src) = sym (same_reads (calls_of sigs) (insn.Alu o w dst src) (λ m e. cc))
reads_called sigs (insn.Swap kind n dst) = sym (same_reads (calls_of sigs) (insn.Swap kind n dst) (λ m e. cc))
reads_called sigs (insn.Load size extend dst base offset) = sym (same_reads (calls_of sigs) (insn.Load size extend dst base offset) (λ m e. cc))
reads_called sigs (insn.Store size base offset src) = sym (same_reads (calls_of sigs) (insn.Store size base offset src) (λ m e. cc))
reads_called sigs (insn.Jump d) = sym (same_reads (calls_of sigs) (insn.Jump d) (λ m e. cc))
reads_called sigs (insn.JumpIf c w left right o) = sym (same_reads (calls_of sigs) (insn.JumpIf c w left right o) (λ m e. cc))
reads_called sigs (insn.Call n) = refl
reads_called sigs insn.Exit = sym (same_reads (calls_of sigs) insn.Exit (λ m e. cc))
reads_called sigs (insn.Wide dst n) = sym (same_reads (calls_of sigs) (insn.Wide dst n) (λ m e. cc))
reads_called sigs insn.Tail = sym (same_reads (calls_of sigs) insn.Tail (λ m e. cc))

pub reads_plain : (callee : Callee) (x : Insn) → ((n : ℕ) → x ≢ insn.Call n) → reads_by callee x ≡ reads no_calls x
reads_plain callee (insn.Alu o w dst src) h = refl
reads_plain callee (insn.Swap kind n dst) h = refl
reads_plain callee (insn.Load size extend dst base offset) h = refl
reads_plain callee (insn.Store size base offset src) h = refl
reads_plain callee (insn.Jump d) h = refl
reads_plain callee (insn.JumpIf c w left right o) h = refl
reads_plain callee (insn.Call n) h = absurd (h n refl)
reads_plain callee insn.Exit h = refl
reads_plain callee (insn.Wide dst n) h = refl
reads_plain callee insn.Tail h = refl

pub reads_less : (callee : Callee) (row : Row) (x : Insn) → any_unset row (reads_by callee x) ≡ false → any_unset row (reads no_calls x) ≡ false
reads_less callee row (insn.Alu o w dst src) h = h
reads_less callee row (insn.Swap kind n dst) h = h
reads_less callee row (insn.Load size extend dst base offset) h = h
reads_less callee row (insn.Store size base offset src) h = h
reads_less callee row (insn.Jump d) h = h
reads_less callee row (insn.JumpIf c w left right o) h = h
reads_less callee row (insn.Call n) h = refl
reads_less callee row insn.Exit h = h
reads_less callee row (insn.Wide dst n) h = h
reads_less callee row insn.Tail h = h
