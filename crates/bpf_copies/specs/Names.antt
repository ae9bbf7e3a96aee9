-- What is known of registers that hold copies of one value: by how much they differ. It is known by the code, and by the least and the
-- greatest number that each slot's operand may be: from the slot on where a register is written, and where ways meet as far as they agree.
use Rattle.std.specs.Prelude.{◌≡◌, ℕ, zero, suc, ℤ, ◌+◌, ◌-◌, ◌*◌, ◌^◌, ◌==◌, nat_lt, Bool, true, false, not, ◌&&◌, if◌then◌else◌, Option, None, Some, List, [], ◌∷◌, drop, slice_get, slice_set, slice_index_or}
use Rattle.bpf_alu.specs.Value.{wrapped, value}
use Rattle.bpf_alu.specs.declared.Op.{Op}
use Rattle.bpf_alu.specs.declared.Op.TheVariants.{Mov, Add, Sub}
use Rattle.bpf_alu.specs.declared.Width.{Width}
use Rattle.bpf_alu.specs.declared.Width.TheVariants.{W32, W64}
use Rattle.bpf_insn.specs.Encoding.{number}
use Rattle.bpf_insn.specs.declared.Register.{Register}
use Rattle.bpf_insn.specs.declared.Register.TheVariants.{R0, R1, R2, R3, R4, R5, R6, R7, R8, R9, R10}
use Rattle.bpf_insn.specs.declared.Operand.{Operand}
use Rattle.bpf_insn.specs.declared.Operand.TheVariants as operand
use Rattle.bpf_insn.specs.declared.Insn.{Insn}
use Rattle.bpf_insn.specs.declared.Insn.TheVariants as insn
use Rattle.bpf_semantics.specs.State.{State, number_in}
use Rattle.bpf_image.specs.Form.{target_of}
use Rattle.bpf_copies.specs.Led.{is_slot}
use Rattle.bpf_copies.specs.declared.bounds.Bounds.{Bounds}
use Rattle.bpf_copies.specs.declared.name.Name.{Name}

-- ---- names

-- those of R0 to R10
abbrev pub Names : Type 0
Names = List Name

abbrev pub name_at : Names → Register → Name
name_at names r = slice_index_or names (number r) (record { value = 0; distance = 0 })

abbrev pub with_name : Names → Register → Name → Names
with_name names r n = slice_set names (number r) n

-- a name that no register had before a slot
abbrev pub new_name : ℕ → Register → Name
new_name k r = record { value = 16 * k + number r; distance = 0 }

abbrev pub new_names : ℕ → Names
new_names k = new_name k R0 ∷ new_name k R1 ∷ new_name k R2 ∷ new_name k R3 ∷ new_name k R4 ∷ new_name k R5 ∷ new_name k R6 ∷ new_name k R7 ∷ new_name k R8 ∷ new_name k R9 ∷ new_name k R10 ∷ []

-- ---- what an instruction leaves of them, on the way to slot k, where its operand is within bounds

-- those of an operand of which nothing is known
abbrev pub unbounded : Bounds
unbounded = record { least = 0; most = 2 ^ 64 - 1 }

-- the one number that an operand holds, if it is known: a constant, or that of a register within bounds
abbrev pub single : Bounds → Operand → Option ℕ
single known (operand.Immediate n) = Some (wrapped 64 n)
single known (operand.Register src) = if known.least == known.most then Some known.least else None

abbrev pub moved_by : Op → ℕ → Name → Name
moved_by o n name = record { value = name.value; distance = value o W64 name.distance n }

-- one number moves a name; by any other it is new
abbrev pub shifted : ℕ → Register → Op → Option ℕ → Name → Name
shifted k dst o (Some n) name = moved_by o n name
shifted k dst o None name = new_name k dst

-- a copy has the name of what is copied, by a move of 32 bits where that is below 2 ^ 32; and one number that is added or taken away moves it
abbrev pub name_of_op : ℕ → Bounds → Op → Width → Register → Operand → Names → Name
name_of_op k known Mov W64 dst (operand.Register src) names = name_at names src
name_of_op k known Mov W32 dst (operand.Register src) names = if nat_lt known.most (2 ^ 32) then name_at names src else new_name k dst
name_of_op k known Add W64 dst src names = shifted k dst Add (single known src) (name_at names dst)
name_of_op k known Sub W64 dst src names = shifted k dst Sub (single known src) (name_at names dst)
name_of_op k known o w dst src names = new_name k dst

abbrev pub names_after : ℕ → Bounds → Insn → Names → Names
names_after k known (insn.Alu o w dst src) names = with_name names dst (name_of_op k known o w dst src names)
names_after k known (insn.Swap kind n dst) names = with_name names dst (new_name k dst)
names_after k known (insn.Load size extend dst base offset) names = with_name names dst (new_name k dst)
names_after k known (insn.Call helper) names = new_name k R0 ∷ new_name k R1 ∷ new_name k R2 ∷ new_name k R3 ∷ new_name k R4 ∷ new_name k R5 ∷ drop 6 names
names_after k known (insn.Wide dst n) names = with_name names dst (new_name k dst)
names_after k known other names = names

-- ---- ways meet at slot k: what is equal stays, and any other register has a name that is new there

abbrev pub joined_name : ℕ → Register → Name → Name → Name
joined_name k r a b = if a.value == b.value && a.distance == b.distance then a else new_name k r

abbrev pub name_in : ℕ → Register → Names → Names → Name
name_in k r names others = joined_name k r (name_at names r) (name_at others r)

abbrev pub joined_names : ℕ → Names → Names → Names
joined_names k names others =
    name_in k R0 names others ∷ name_in k R1 names others ∷ name_in k R2 names others ∷ name_in k R3 names others ∷ name_in k R4 names others ∷ name_in k R5 names others ∷ name_in k R6 names others ∷ name_in k R7 names others ∷ name_in k R8 names others ∷ name_in k R9 names others ∷ name_in k R10 names others ∷ []

-- to what came there before, if anything did
abbrev pub joined : ℕ → Option Names → Names → Option Names
joined k None names = Some names
joined k (Some old) names = Some (joined_names k old names)

-- ---- edges

-- every instruction but a jump and an exit goes on to the next slot
abbrev pub goes_on : Insn → Bool
goes_on (insn.Jump distance) = false
goes_on insn.Exit = false
goes_on other = true

-- the edge of a jump brings the names before it
abbrev pub by_jump : ℕ → Option ℤ → Names → Option Names → Option Names
by_jump k target names before = if is_slot k target then joined k before names else before

abbrev pub by_next : ℕ → Bounds → Insn → Names → Option Names → Option Names
by_next k known x names before = if goes_on x then joined k before (names_after k known x names) else before

-- what the instruction of slot n brings to slot k, joined to what came there before
abbrev pub brought : ℕ → ℕ → Bounds → Option Insn → Names → Option Names → Option Names
brought k n known None names before = before
brought k n known (Some x) names before =
    let led = by_jump k (target_of n x) names before in
    if suc n == k then by_next k known x names led else led

-- new names where nothing comes
abbrev pub come : ℕ → Option Names → Names
come k None = new_names k
come k (Some names) = names

-- what the instructions of the first n slots bring to slot k, where it is said of each slot's operand within which bounds it is
abbrev pub arriving : List Insn → (ℕ → Bounds) → ℕ → ℕ → Option Names
arriving code known zero k = if k == 0 then Some (new_names 0) else None
arriving code known (suc n) k = brought k n (known n) (slice_get code n) (come n (arriving code known n n)) (arriving code known n k)

-- the names before a slot: what all lower slots bring there
abbrev pub names_at : List Insn → (ℕ → Bounds) → ℕ → Names
names_at code known k = come k (arriving code known k k)

-- ---- what they mean: of two registers of one name each is as far as its distance from where the other is less its own

abbrev pub AreNamed : Names → State → Type 0
AreNamed names s =
    (a b : Register) → (name_at names a).value ≡ (name_at names b).value → value Add W64 (number_in s a) (name_at names b).distance ≡ value Add W64 (number_in s b) (name_at names a).distance

-- ---- two registers

-- by how much register b is more than register a, where they have one name
abbrev pub distance_from : Names → Register → Register → ℕ
distance_from names a b = value Sub W64 (name_at names b).distance (name_at names a).distance

-- whether two registers have one name
abbrev pub are_alike : Names → Register → Register → Bool
are_alike names a b = (name_at names a).value == (name_at names b).value && not (number a == number b)
