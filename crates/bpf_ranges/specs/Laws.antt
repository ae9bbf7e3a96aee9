-- What the tables of kinds keep of every value (this store's profiles).
use Rattle.std.specs.Prelude.{◌≡◌, ℕ, ◌^◌, ◌<◌, ◌≤◌, Bool, true, Option, Some, IfOk}
use Rattle.bpf_alu.specs.Value.{value, swapped, condition}
use Rattle.bpf_alu.specs.declared.Op.{Op}
use Rattle.bpf_alu.specs.declared.Width.{Width}
use Rattle.bpf_alu.specs.declared.Cond.{Cond}
use Rattle.bpf_alu.specs.declared.SwapKind.{SwapKind}
use Rattle.bpf_alu.specs.declared.SwapBits.{SwapBits}
use Rattle.bpf_semantics.specs.declared.profile.Profile.{Profile}
use Rattle.bpf_ranges.specs.declared.range.Range.{Range}
use Rattle.bpf_ranges.specs.declared.kind.Kind.{Kind}
use Rattle.bpf_ranges.specs.Kinds.{Admits, IsKind}
use Rattle.bpf_ranges.specs.Numbers.{InRange, reads_first, reads_second}
use Rattle.bpf_ranges.specs.declared.kind.Part.{Part}
use Rattle.bpf_ranges.specs.Transfer.{kind_in, transfer_of, swap_of, refine_of, join_of, part_of, with_part, part_value, value_with}

-- A profile's table loses no value: what the kinds before admit, the kinds after admit.
pub record IsSoundTable (profile : Profile) : Type 0 where
  -- of a number of a range
  pub range : (r : Range) (n : ℕ) → r.hi < 2 ^ 64 → InRange r n → Admits (kind_in profile r) (Some n)
  pub range_kind : (r : Range) → r.lo ≤ r.hi → r.hi < 2 ^ 64 → IsKind (kind_in profile r)
  -- of an operation's value, where the operands that it reads are admitted
  pub operation : (op : Op) (w : Width) (a b : Kind) (x y : ℕ) → IsKind a → IsKind b → x < 2 ^ 64 → y < 2 ^ 64 → (reads_first op ≡ true → Admits a (Some x)) → (reads_second op ≡ true → Admits b (Some y)) → IfOk (transfer_of profile op w a b) (λ k. Admits k (Some (value op w x y)))
  pub operation_kind : (op : Op) (w : Width) (a b : Kind) → IsKind a → IsKind b → IfOk (transfer_of profile op w a b) IsKind
  -- of a byte swap's, which a kind of 64 bits is left of
  pub swap : (kind : SwapKind) (n : SwapBits) (a : Kind) (x : ℕ) → Admits a (Some x) → IfOk (swap_of profile kind n a) (λ k. Admits k (Some (swapped kind n x)))
  pub swap_kind : (kind : SwapKind) (n : SwapBits) (a : Kind) → IfOk (swap_of profile kind n a) IsKind
  -- of two numbers that were compared, on the way on which the condition goes
  pub comparison : (c : Cond) (w : Width) (a b : Kind) (taken : Bool) (x y : ℕ) → IsKind a → IsKind b → Admits a (Some x) → Admits b (Some y) → condition c w x y ≡ taken → Admits (refine_of profile c w a b taken).0 (Some x) × Admits (refine_of profile c w a b taken).1 (Some y)
  pub comparison_kind : (c : Cond) (w : Width) (a b : Kind) (taken : Bool) → IsKind a → IsKind b → IsKind (refine_of profile c w a b taken).0 × IsKind (refine_of profile c w a b taken).1
  -- of either side of a join
  pub join_left : (a b : Kind) (v : Option ℕ) → IsKind a → IsKind b → Admits a v → Admits (join_of profile a b) v
  pub join_right : (a b : Kind) (v : Option ℕ) → IsKind a → IsKind b → Admits b v → Admits (join_of profile a b) v
  pub join_kind : (a b : Kind) → IsKind a → IsKind b → IsKind (join_of profile a b)
  -- of a part of a cell that is read, and of a cell of which a part is written
  pub part : (part : Part) (k : Kind) (v : ℕ) → IsKind k → v < 2 ^ 64 → Admits k (Some v) → Admits (part_of profile part k) (Some (part_value part v))
  pub part_kind : (part : Part) (k : Kind) → IsKind k → IsKind (part_of profile part k)
  pub written : (part : Part) (k cell : Kind) (v old : ℕ) → IsKind k → IsKind cell → old < 2 ^ 64 → Admits k (Some v) → Admits cell (Some old) → Admits (with_part part k cell) (Some (value_with part v old))
  pub written_kind : (part : Part) (k cell : Kind) → IsKind k → IsKind cell → IsKind (with_part part k cell)
