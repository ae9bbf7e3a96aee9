-- To which slots jumps lead.
use Rattle.std.specs.Prelude.{ℕ, zero, suc, ◌==◌, ℤ, pos, negsuc, Bool, false, ◌||◌, Option, None, Some, List, slice_get}
use Rattle.bpf_insn.specs.declared.Insn.{Insn}
use Rattle.bpf_image.specs.Form.{target_of}

-- whether a jump of one of the first n slots leads to slot k
abbrev pub is_slot : ℕ → Option ℤ → Bool
is_slot k None = false
is_slot k (Some (pos n)) = n == k
is_slot k (Some (negsuc n)) = false

abbrev pub target_at : ℕ → Option Insn → Option ℤ
target_at i None = None
target_at i (Some x) = target_of i x

abbrev pub leads_before : List Insn → ℕ → ℕ → Bool
leads_before code zero k = false
leads_before code (suc n) k = is_slot k (target_at n (slice_get code n)) || leads_before code n k
