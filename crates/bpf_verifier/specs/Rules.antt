-- The verifier's rules over kinds, and what it knows after an instruction (this store's profile).
use Rattle.std.specs.Prelude.{◌*◌, ◌%◌, ◌^◌, ◌==◌, Bool, true, false, not, ◌||◌, ◌&&◌, if◌then◌else◌, Option, None, Some, Result, Ok, Err, List, [], ◌∷◌}
use Rattle.bpf_alu.specs.Value.{bits, wrapped}
use Rattle.bpf_alu.specs.declared.Cond.{Cond}
use Rattle.bpf_alu.specs.declared.Width.{Width}
use Rattle.bpf_insn.specs.Encoding.{number, size_bytes}
use Rattle.bpf_insn.specs.declared.Register.{Register}
use Rattle.bpf_insn.specs.declared.Register.TheVariants.{R0}
use Rattle.bpf_insn.specs.declared.Operand.{Operand}
use Rattle.bpf_insn.specs.declared.Operand.TheVariants as operand
use Rattle.bpf_insn.specs.declared.Size.{Size}
use Rattle.bpf_insn.specs.declared.Extend.{Extend}
use Rattle.bpf_insn.specs.declared.Extend.TheVariants.{Zero, Sign}
use Rattle.bpf_insn.specs.declared.Insn.{Insn}
use Rattle.bpf_insn.specs.declared.Insn.TheVariants as insn
use Rattle.bpf_semantics.specs.State.{no_calls, reads, writes}
use Rattle.bpf_ranges.specs.Numbers.{full}
use Rattle.bpf_ranges.specs.Transfer.{kind_in, transfer_of, swap_of, refine_of}
use Rattle.bpf_semantics.specs.declared.profile.Profile.{Profile}
use Rattle.bpf_semantics.specs.declared.profile.Profile.TheVariants.{First, Second}
use Rattle.bpf_ranges.specs.declared.range.Range.{Range}
use Rattle.bpf_ranges.specs.declared.kind.Kind.{Kind}
use Rattle.bpf_ranges.specs.declared.kind.Kind.TheVariants.{Unset}
use Rattle.bpf_ranges.specs.declared.kind.Bad.{Bad}
use Rattle.bpf_ranges.specs.declared.kind.Bad.TheVariants.{V22, V23}
use Rattle.bpf_helpers.specs.declared.sig.Entry.{Entry}
use Rattle.bpf_helpers.specs.Calls.{Callee, Unknown, callee_of, arguments_with}
use Rattle.bpf_verifier.specs.Program.{Program}
use Rattle.bpf_verifier.specs.Registers.{Row, kind_at, with_kind, one_number, kind_from, is_pointer, is_input_pointer, any_unset, is_inside}
use Rattle.bpf_verifier.specs.CallKinds.{is_unknown, is_given}
use Rattle.bpf_verifier.specs.Cells.{span_of, part_at, row_stored, is_cell, read_kind, is_readable, call_reads_numbers}
use Rattle.bpf_verifier.specs.Answered.{row_after_call}
use Rattle.bpf_verifier.specs.declared.pair.Pairs.{Pairs}
use Rattle.bpf_verifier.specs.declared.rule.KindRule.{KindRule}
use Rattle.bpf_verifier.specs.declared.rule.KindRule.TheVariants.{UnsetRead, FrameWritten, PointerOperand, FarOffset, OutsideWindow, InputStored, PointerStored, UnknownHelper, ArgumentRule, PointerAnswer, StackRead}

-- what an instruction calls: nothing, unless it is a call
abbrev pub callee_in : List Entry → Insn → Callee
callee_in sigs (insn.Call helper) = callee_of sigs helper
callee_in sigs other = Unknown

-- ---- the rules

abbrev pub broken_if : Bool → KindRule → Option KindRule
broken_if b rule = if b then Some rule else None

-- whether it is the frame pointer
abbrev pub is_frame : Option Register → Bool
is_frame None = false
is_frame (Some r) = number r == 10

abbrev pub bad_result : Result Kind Bad → Option KindRule
bad_result (Ok k) = None
bad_result (Err V22) = Some PointerOperand
bad_result (Err V23) = Some FarOffset

-- whether a condition has a pointer as an operand that the profile doesn't compare: the second one compares addresses
abbrev pub compares_pointer : Profile → Kind → Kind → Bool
compares_pointer First j k = is_pointer j || is_pointer k
compares_pointer Second j k = false

-- the rules on a call, each where it is broken, the lowest number first
abbrev pub call_rules : Program → Callee → Pairs → Row → List (Option KindRule)
call_rules p callee pairs row = broken_if (is_unknown callee) UnknownHelper ∷ broken_if (not (is_given p callee pairs row)) ArgumentRule ∷ broken_if (not (call_reads_numbers callee row)) StackRead ∷ []

-- the rules on an instruction of each class, each where it is broken, the lowest number first
abbrev pub class_rules : Program → Callee → Pairs → Row → Insn → List (Option KindRule)
class_rules p callee pairs row (insn.Alu op width dst src) = bad_result (transfer_of p.profile op width (kind_at row dst) (kind_from p.profile row src)) ∷ []
class_rules p callee pairs row (insn.Swap kind n dst) = bad_result (swap_of p.profile kind n (kind_at row dst)) ∷ []
class_rules p callee pairs row (insn.Load size extend dst base offset) =
    broken_if (not (is_inside p (kind_at row base) offset (size_bytes size))) OutsideWindow
    ∷ broken_if (not (is_readable p.profile (part_at p.profile (kind_at row base) offset (size_bytes size)) (span_of (kind_at row base) offset (size_bytes size)) row)) StackRead
    ∷ []
class_rules p callee pairs row (insn.Store size base offset src) =
    broken_if (not (is_inside p (kind_at row base) offset (size_bytes size))) OutsideWindow
    ∷ broken_if (is_input_pointer (kind_at row base)) InputStored
    ∷ broken_if (is_pointer (kind_from p.profile row src) && not (is_cell (part_at p.profile (kind_at row base) offset (size_bytes size)))) PointerStored
    ∷ []
class_rules p callee pairs row (insn.JumpIf c width left right offset) =
    broken_if (compares_pointer p.profile (kind_at row left) (kind_from p.profile row right)) PointerOperand ∷ []
class_rules p callee pairs row (insn.Call helper) = call_rules p callee pairs row
class_rules p callee pairs row insn.Exit = broken_if (is_pointer (kind_at row R0)) PointerAnswer ∷ []
class_rules p callee pairs row other = []

-- the registers that an instruction reads: a call those of its arguments
abbrev pub reads_by : Callee → Insn → List Register
reads_by callee (insn.Call helper) = arguments_with callee
reads_by callee other = reads no_calls other

-- the rules on any instruction with what it calls, each where it is broken, the lowest number first
abbrev pub rules_by : Program → Callee → Pairs → Row → Insn → List (Option KindRule)
rules_by p callee pairs row x =
    broken_if (any_unset row (reads_by callee x)) UnsetRead ∷ broken_if (is_frame (writes x)) FrameWritten ∷ class_rules p callee pairs row x

abbrev pub rules_of : Program → Pairs → Row → Insn → List (Option KindRule)
rules_of p pairs row x = rules_by p (callee_in p.sigs x) pairs row x

-- the first of a list
abbrev pub first_of : {A : Type 0} → List (Option A) → Option A
first_of [] = None
first_of (None ∷ xs) = first_of xs
first_of (Some x ∷ xs) = Some x

-- the lowest rule that an instruction breaks at a row of kinds, with the pairs that are known there
abbrev pub broken_in : Program → Pairs → Row → Insn → Option KindRule
broken_in p pairs row x = first_of (rules_of p pairs row x)

-- ---- what is known after an instruction

abbrev pub result_kind : Result Kind Bad → Kind
result_kind (Ok k) = k
result_kind (Err e) = Unset

-- the numbers that a load gives
abbrev pub numbers_loaded : Size → Extend → Range
numbers_loaded size Zero = full (8 * size_bytes size)
numbers_loaded size Sign = full 64

abbrev pub loaded : Profile → Size → Extend → Kind
loaded profile size extend = kind_in profile (numbers_loaded size extend)

-- the kinds after a jump on a condition, taken or not; one register on both sides tells nothing
abbrev pub refined : Profile → Cond → Width → Register → Operand → Bool → Row → Row
refined profile c width left (operand.Register right) taken row =
    let k = refine_of profile c width (kind_at row left) (kind_at row right) taken in
    if number left == number right then row else with_kind (with_kind row left k.0) right k.1
refined profile c width left (operand.Immediate n) taken row =
    with_kind row left (refine_of profile c width (kind_at row left) (one_number profile (wrapped 64 n % 2 ^ bits width)) taken).0

-- the kinds where an instruction goes on to the next slot, and where its jump is taken
abbrev pub row_after : Profile → Callee → Row → Insn → Row
row_after profile callee row (insn.Alu op width dst src) = with_kind row dst (result_kind (transfer_of profile op width (kind_at row dst) (kind_from profile row src)))
row_after profile callee row (insn.Swap kind n dst) = with_kind row dst (result_kind (swap_of profile kind n (kind_at row dst)))
row_after profile callee row (insn.Load size extend dst base offset) =
    with_kind row dst (read_kind profile extend (part_at profile (kind_at row base) offset (size_bytes size)) (loaded profile size extend) row)
row_after profile callee row (insn.Store size base offset src) =
    row_stored profile (kind_at row base) offset (size_bytes size) (kind_from profile row src) row
row_after profile callee row (insn.JumpIf c width left right offset) = refined profile c width left right false row
row_after profile callee row (insn.Call helper) = row_after_call profile callee row
row_after profile callee row (insn.Wide dst n) = with_kind row dst (one_number profile n)
row_after profile callee row other = row

abbrev pub row_taken : Profile → Row → Insn → Row
row_taken profile row (insn.JumpIf c width left right offset) = refined profile c width left right true row
row_taken profile row other = row
