-- Which pairs are known, from slot to slot: told where a condition on a sum isn't taken, carried on through copies and sums, and kept where
-- ways meet as far as they agree (this store's second profile).
use Rattle.std.specs.Prelude.{ℕ, zero, suc, ℤ, ◌+◌, ◌-◌, ◌^◌, ◌==◌, max, nat_le, not, ◌&&◌, if◌then◌else◌, Option, None, Some, List, slice_get}
use Rattle.bpf_alu.specs.declared.Op.{Op}
use Rattle.bpf_alu.specs.declared.Op.TheVariants.{Mov, Add}
use Rattle.bpf_alu.specs.declared.Width.{Width}
use Rattle.bpf_alu.specs.declared.Width.TheVariants.{W64}
use Rattle.bpf_insn.specs.Encoding.{number}
use Rattle.bpf_insn.specs.declared.Register.{Register}
use Rattle.bpf_insn.specs.declared.Operand.{Operand}
use Rattle.bpf_insn.specs.declared.Operand.TheVariants as operand
use Rattle.bpf_insn.specs.declared.Insn.{Insn}
use Rattle.bpf_insn.specs.declared.Insn.TheVariants as insn
use Rattle.bpf_semantics.specs.declared.profile.Profile.{Profile}
use Rattle.bpf_semantics.specs.declared.profile.Profile.TheVariants.{Second}
use Rattle.bpf_helpers.specs.Calls.{Callee}
use Rattle.bpf_verifier.specs.Program.{Program}
use Rattle.bpf_verifier.specs.Registers.{Row, kind_at, kind_from}
use Rattle.bpf_verifier.specs.Rules.{callee_in}
use Rattle.bpf_verifier.specs.Pairs.{no_pairs, is_in, most_together}
use Rattle.bpf_image.specs.Form.{target_of}
use Rattle.bpf_copies.specs.Led.{is_slot}
use Rattle.bpf_copies.specs.Names.{goes_on}
use Rattle.bpf_verifier.specs.Sums.{KnownSums, sum_in, sums_at, most, row_on}
use Rattle.bpf_verifier.specs.declared.sum.Sum.{Sum}
use Rattle.bpf_verifier.specs.declared.pair.Pair.{Pair}
use Rattle.bpf_verifier.specs.declared.pair.Pairs.{Pairs}

-- ---- a register is written

-- a pair that doesn't have it
abbrev pub pair_without : Register → Option Pair → Option Pair
pair_without r None = None
pair_without r (Some pair) = if is_in r pair then None else Some pair

abbrev pub pairs_without : Register → Pairs → Pairs
pairs_without r pairs = record { first = pair_without r pairs.first; second = pair_without r pairs.second; third = pair_without r pairs.third; fourth = pair_without r pairs.fourth }

-- one pair before some others, of which the last gives way where there are four
abbrev pub before : Pair → Option Pair → Option Pair → Option Pair → Option Pair → Pairs
before pair None b c d = record { first = Some pair; second = b; third = c; fourth = d }
before pair (Some a) None c d = record { first = Some pair; second = Some a; third = c; fourth = d }
before pair (Some a) (Some b) None d = record { first = Some pair; second = Some a; third = Some b; fourth = d }
before pair (Some a) (Some b) (Some c) d = record { first = Some pair; second = Some a; third = Some b; fourth = Some c }

-- one pair more, if there is one
abbrev pub with_pair : Option Pair → Pairs → Pairs
with_pair None pairs = pairs
with_pair (Some pair) pairs = before pair pairs.first pairs.second pairs.third pairs.fourth

-- the other register of a pair
abbrev pub partner : Register → Pair → Register
partner r pair = if number pair.left == number r then pair.right else pair.left

-- of a register that is written, and holds at most n more than another: that one's pair, with the written register in its place
abbrev pub carried : Register → Register → ℕ → Option Pair → Option Pair
carried src dst n None = None
carried src dst n (Some pair) =
    if is_in src pair && (not (number (partner src pair) == number dst) && nat_le pair.most (2 ^ 64 - 1 - n))
    then Some (record { left = dst; right = partner src pair; most = pair.most + n })
    else None

-- each pair that is had so, before others
abbrev pub carried_into : Register → Register → ℕ → Pairs → Pairs → Pairs
carried_into src dst n old new =
    with_pair (carried src dst n old.first) (with_pair (carried src dst n old.second) (with_pair (carried src dst n old.third) (with_pair (carried src dst n old.fourth) new)))

abbrev pub carried_from : Operand → Register → ℕ → Pairs → Pairs → Pairs
carried_from (operand.Register src) dst n old new = carried_into src dst n old new
carried_from (operand.Immediate i) dst n old new = new

-- after a sum: where it can't pass 2 ^ 64, the pairs of the operand, and the register's most; and those of the register, and the operand's
abbrev pub pairs_of_sum : Register → Operand → Row → Pairs → Pairs
pairs_of_sum dst src row pairs =
    let left = most (kind_at row dst) in
    let right = most (kind_from Second row src) in
    if nat_le left (2 ^ 64 - 1 - right)
    then carried_from src dst left pairs (carried_into dst dst right pairs (pairs_without dst pairs))
    else pairs_without dst pairs

abbrev pub pairs_of_op : Op → Width → Register → Operand → Row → Pairs → Pairs
pairs_of_op Mov W64 dst src row pairs = carried_from src dst 0 pairs (pairs_without dst pairs)
pairs_of_op Add W64 dst src row pairs = pairs_of_sum dst src row pairs
pairs_of_op o w dst src row pairs = pairs_without dst pairs

-- ---- a call writes R0 to R5

abbrev pub pair_over_call : Option Pair → Option Pair
pair_over_call None = None
pair_over_call (Some pair) = if nat_le 6 (number pair.left) && nat_le 6 (number pair.right) then Some pair else None

abbrev pub pairs_over_call : Pairs → Pairs
pairs_over_call pairs = record { first = pair_over_call pairs.first; second = pair_over_call pairs.second; third = pair_over_call pairs.third; fourth = pair_over_call pairs.fourth }

-- by the row before an instruction, what it writes
abbrev pub pairs_over : Insn → Row → Pairs → Pairs
pairs_over (insn.Alu o w dst src) row pairs = pairs_of_op o w dst src row pairs
pairs_over (insn.Load size extend dst base offset) row pairs = pairs_without dst pairs
pairs_over (insn.Store size base offset src) row pairs = pairs
pairs_over (insn.JumpIf c w left right offset) row pairs = pairs
pairs_over (insn.Call helper) row pairs = pairs_over_call pairs
pairs_over other row pairs = no_pairs

-- ---- a condition on a sum is tested

-- the two registers of a sum that can't pass 2 ^ 64
abbrev pub pair_of : Register → Register → ℕ → Row → Option Pair
pair_of left right most_whole row =
    if nat_le (most (kind_at row left)) (2 ^ 64 - 1 - most (kind_at row right))
    then Some (record { left = left; right = right; most = most_whole })
    else None

abbrev pub pair_told : Sum → Operand → Row → Option Pair
pair_told sum (operand.Register right) row = pair_of sum.left right (most (kind_at row sum.of)) row
pair_told sum (operand.Immediate n) row = None

-- that of the sum which a register holds, if one is known
abbrev pub pair_by : Option Sum → Row → Option Pair
pair_by None row = None
pair_by (Some sum) row = pair_told sum sum.right row

abbrev pub pairs_by_operand : KnownSums → Operand → Row → Pairs → Pairs
pairs_by_operand sums (operand.Register r) row pairs = with_pair (pair_by (sum_in sums r) row) pairs
pairs_by_operand sums (operand.Immediate n) row pairs = pairs

-- by the second profile, and the row on to the next slot
abbrev pub pairs_told : Insn → Profile → KnownSums → Row → Pairs → Pairs
pairs_told (insn.JumpIf c w left right offset) Second sums row pairs = with_pair (pair_by (sum_in sums left) row) (pairs_by_operand sums right row pairs)
pairs_told x profile sums row pairs = pairs

-- ---- slots

abbrev pub pairs_after : Profile → Callee → KnownSums → Row → Insn → Pairs → Pairs
pairs_after profile callee sums row x pairs = pairs_told x profile sums (row_on profile callee sums pairs row x) (pairs_over x row pairs)

abbrev pub pairs_next : Program → Option Insn → KnownSums → Option (Option Row) → Pairs → Pairs
pairs_next p (Some x) sums (Some (Some row)) pairs = pairs_after p.profile (callee_in p.sigs x) sums row x pairs
pairs_next p x sums row pairs = no_pairs

-- ---- ways meet: what is known of two registers on both is known there, with the greater most

abbrev pub met_most : Pair → Option ℕ → Option Pair
met_most pair None = None
met_most pair (Some n) = Some (record { left = pair.left; right = pair.right; most = max pair.most n })

abbrev pub pair_met : Option Pair → Pairs → Option Pair
pair_met None others = None
pair_met (Some pair) others = met_most pair (most_together others pair.left pair.right)

abbrev pub pairs_met : Pairs → Pairs → Pairs
pairs_met pairs others = record { first = pair_met pairs.first others; second = pair_met pairs.second others; third = pair_met pairs.third others; fourth = pair_met pairs.fourth others }

-- with what came there before, if anything did
abbrev pub met : Option Pairs → Pairs → Option Pairs
met None pairs = Some pairs
met (Some old) pairs = Some (pairs_met old pairs)

-- ---- edges

-- a jump brings the pairs before it
abbrev pub pairs_by_jump : ℕ → Option ℤ → Pairs → Option Pairs → Option Pairs
pairs_by_jump k target pairs before = if is_slot k target then met before pairs else before

-- and an instruction that goes on those behind it
abbrev pub pairs_by_next : Insn → Pairs → Option Pairs → Option Pairs
pairs_by_next x next before = if goes_on x then met before next else before

-- what the instruction of slot n, before and behind which pairs are known, brings to slot k, joined to what came there before
abbrev pub pairs_brought : ℕ → ℕ → Option Insn → Pairs → Pairs → Option Pairs → Option Pairs
pairs_brought k n None pairs next before = before
pairs_brought k n (Some x) pairs next before =
    let led = pairs_by_jump k (target_of n x) pairs before in
    if suc n == k then pairs_by_next x next led else led

-- none where nothing comes
abbrev pub pairs_come : Option Pairs → Pairs
pairs_come None = no_pairs
pairs_come (Some pairs) = pairs

-- those behind slot n, by the pairs before it
abbrev pub pairs_behind : Program → List (Option Row) → ℕ → Pairs → Pairs
pairs_behind p rows n pairs = pairs_next p (slice_get p.code n) (sums_at p.code n) (slice_get rows n) pairs

-- what the instructions of the first n slots bring to slot k
abbrev pub pairs_arriving : Program → List (Option Row) → ℕ → ℕ → Option Pairs
pairs_arriving p rows zero k = if k == 0 then Some no_pairs else None
pairs_arriving p rows (suc n) k =
    let pairs = pairs_come (pairs_arriving p rows n n) in
    pairs_brought k n (slice_get p.code n) pairs (pairs_behind p rows n pairs) (pairs_arriving p rows n k)

-- the pairs that are known at a slot by the rows of lower ones: what all these bring there
abbrev pub pairs_at : Program → List (Option Row) → ℕ → Pairs
pairs_at p rows k = pairs_come (pairs_arriving p rows k k)
