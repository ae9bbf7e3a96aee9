-- Instructions, kinds and explanations as text (this store's profile).
use Rattle.std.specs.Prelude.{ℕ, ◌*◌, ◌==◌, ℤ, pos, negsuc, ◌+ℤ◌, int_lt, if◌then◌else◌, Option, None, Some, List, [], ◌∷◌, ◌++◌, flat_map, codes, decimal}
use Rattle.std.specs.Fmt.{signed_decimal}
use Rattle.bpf_alu.specs.declared.Op.{Op}
use Rattle.bpf_alu.specs.declared.Op.TheVariants as op
use Rattle.bpf_alu.specs.declared.Cond.{Cond}
use Rattle.bpf_alu.specs.declared.Cond.TheVariants as cond
use Rattle.bpf_alu.specs.declared.Width.{Width}
use Rattle.bpf_alu.specs.declared.Width.TheVariants.{W32, W64}
use Rattle.bpf_alu.specs.declared.SwapKind.{SwapKind}
use Rattle.bpf_alu.specs.declared.SwapKind.TheVariants.{ToLittle, ToBig, Swap}
use Rattle.bpf_alu.specs.declared.SwapBits.{SwapBits}
use Rattle.bpf_alu.specs.declared.SwapBits.TheVariants.{B16, B32, B64}
use Rattle.bpf_insn.specs.Encoding.{number, size_bytes}
use Rattle.bpf_insn.specs.declared.Register.{Register}
use Rattle.bpf_insn.specs.declared.Operand.{Operand}
use Rattle.bpf_insn.specs.declared.Operand.TheVariants as operand
use Rattle.bpf_insn.specs.declared.Size.{Size}
use Rattle.bpf_insn.specs.declared.Extend.{Extend}
use Rattle.bpf_insn.specs.declared.Extend.TheVariants.{Zero, Sign}
use Rattle.bpf_insn.specs.declared.Distance.{Distance}
use Rattle.bpf_insn.specs.declared.Distance.TheVariants as distance
use Rattle.bpf_insn.specs.declared.Insn.{Insn}
use Rattle.bpf_insn.specs.declared.Insn.TheVariants as insn
use Rattle.bpf_semantics.specs.declared.Region.{Region}
use Rattle.bpf_semantics.specs.declared.Region.TheVariants.{Stack, Input, Output}
use Rattle.bpf_ranges.specs.declared.kind.Kind.{Kind}
use Rattle.bpf_ranges.specs.declared.kind.Kind.TheVariants.{Unset, Dead, Num, Ptr, Halves}
use Rattle.bpf_ranges.specs.declared.word.Word.{Word}
use Rattle.bpf_admission.specs.Admissions.{rule_text}
use Rattle.bpf_verifier.specs.Numbers.{rule_number}
use Rattle.bpf_verifier.specs.declared.rule.Refused.{Refused}
use Rattle.bpf_explain.specs.declared.answer.Answer.{Answer}
use Rattle.bpf_explain.specs.declared.explanation.Explanation.{Explanation}
use Rattle.bpf_explain.specs.declared.explanation.Explanation.TheVariants.{Accepted, Broken}
use Rattle.bpf_explain.specs.declared.fact.Fact.{Fact}
use Rattle.bpf_explain.specs.declared.fact.Place.{Place}
use Rattle.bpf_explain.specs.declared.fact.Place.TheVariants.{Register as AtRegister, Cell as AtCell}
use Rattle.bpf_explain.specs.declared.together.Together.{Together}
use Rattle.bpf_explain.specs.declared.together.Most.{Most}
use Rattle.bpf_explain.specs.declared.together.Most.TheVariants.{Number, Address}
use Rattle.bpf_explain.specs.Words.{rule_words}

-- ---- instructions

-- a register by its number, or its low half
abbrev pub register_text : Width → Register → List ℕ
register_text W32 r = codes "w" ++ decimal (number r)
register_text W64 r = codes "r" ++ decimal (number r)

abbrev pub operand_text : Width → Operand → List ℕ
operand_text width (operand.Register r) = register_text width r
operand_text width (operand.Immediate n) = signed_decimal n

abbrev pub op_text : Op → List ℕ
op_text op.Add = codes "+="
op_text op.Sub = codes "-="
op_text op.Mul = codes "*="
op_text op.Div = codes "/="
op_text op.SignedDiv = codes "s/="
op_text op.Or = codes "|="
op_text op.And = codes "&="
op_text op.Xor = codes "^="
op_text op.Lsh = codes "<<="
op_text op.Rsh = codes ">>="
op_text op.Arsh = codes "s>>="
op_text op.Neg = codes "= -"
op_text op.Mod = codes "%="
op_text op.SignedMod = codes "s%="
op_text op.Mov = codes "="
op_text op.Movsx8 = codes "= (s8)"
op_text op.Movsx16 = codes "= (s16)"
op_text op.Movsx32 = codes "= (s32)"

-- a negation has no other operand
abbrev pub source_text : Op → Width → Register → Operand → List ℕ
source_text op.Neg width dst src = register_text width dst
source_text other width dst src = operand_text width src

abbrev pub alu_text : Op → Width → Register → Operand → List ℕ
alu_text o width dst src = register_text width dst ++ codes " " ++ op_text o ++ codes " " ++ source_text o width dst src

abbrev pub swap_text : SwapKind → List ℕ
swap_text ToLittle = codes "le"
swap_text ToBig = codes "be"
swap_text Swap = codes "bswap"

abbrev pub bits_count : SwapBits → ℕ
bits_count B16 = 16
bits_count B32 = 32
bits_count B64 = 64

abbrev pub extend_text : Extend → List ℕ
extend_text Zero = codes "u"
extend_text Sign = codes "s"

-- the bytes of a load or store
abbrev pub access_text : Extend → Size → Register → ℤ → List ℕ
access_text extend size base offset =
    codes "*(" ++ extend_text extend ++ decimal (8 * size_bytes size) ++ codes " *)(r" ++ decimal (number base) ++ codes " + " ++ signed_decimal offset ++ codes ")"

abbrev pub cond_text : Cond → List ℕ
cond_text cond.Equal = codes "=="
cond_text cond.NotEqual = codes "!="
cond_text cond.Greater = codes ">"
cond_text cond.GreaterEqual = codes ">="
cond_text cond.Less = codes "<"
cond_text cond.LessEqual = codes "<="
cond_text cond.SignedGreater = codes "s>"
cond_text cond.SignedGreaterEqual = codes "s>="
cond_text cond.SignedLess = codes "s<"
cond_text cond.SignedLessEqual = codes "s<="
cond_text cond.AnySet = codes "&"

-- the slot to which a jump leads, which counts from the slot after its own
abbrev pub landing : ℕ → ℤ → ℤ
landing slot d = pos slot +ℤ pos 1 +ℤ d

abbrev pub goto_text : ℕ → ℤ → List ℕ
goto_text slot d = codes "goto " ++ signed_decimal (landing slot d)

abbrev pub distance_text : ℕ → Distance → List ℕ
distance_text slot (distance.Near d) = goto_text slot d
distance_text slot (distance.Far d) = goto_text slot d

abbrev pub condition_text : Cond → Width → Register → Operand → List ℕ
condition_text c width left right = codes "if " ++ register_text width left ++ codes " " ++ cond_text c ++ codes " " ++ operand_text width right ++ codes " "

-- the instruction of a slot
abbrev pub insn_text : ℕ → Insn → List ℕ
insn_text slot (insn.Alu o width dst src) = alu_text o width dst src
insn_text slot (insn.Swap kind bits dst) =
    codes "r" ++ decimal (number dst) ++ codes " = " ++ swap_text kind ++ decimal (bits_count bits) ++ codes " r" ++ decimal (number dst)
insn_text slot (insn.Load size extend dst base offset) = codes "r" ++ decimal (number dst) ++ codes " = " ++ access_text extend size base offset
insn_text slot (insn.Store size base offset src) = access_text Zero size base offset ++ codes " = " ++ operand_text W64 src
insn_text slot (insn.Jump d) = distance_text slot d
insn_text slot (insn.JumpIf c width left right d) = condition_text c width left right ++ goto_text slot d
insn_text slot (insn.Call helper) = codes "call " ++ decimal helper
insn_text slot insn.Exit = codes "exit"
insn_text slot (insn.Wide dst value) = codes "r" ++ decimal (number dst) ++ codes " = " ++ decimal value ++ codes " ll"
insn_text slot insn.Tail = codes "the second slot of a wide constant"

-- ---- kinds

-- one number, or the least and the greatest
abbrev pub numbers_text : ℕ → ℕ → List ℕ
numbers_text lo hi = if lo == hi then decimal lo else decimal lo ++ codes " to " ++ decimal hi

abbrev pub offsets_text : ℤ → ℤ → List ℕ
offsets_text lo hi = if int_lt lo hi then signed_decimal lo ++ codes " to " ++ signed_decimal hi else signed_decimal lo

abbrev pub region_text : Region → List ℕ
region_text Stack = codes "stack"
region_text Input = codes "input"
region_text Output = codes "output"

abbrev pub window_text : Region → List ℕ
window_text region = codes "pointer to " ++ region_text region ++ codes " at "

-- a half of a cell
abbrev pub word_text : Option Word → List ℕ
word_text None = codes "nothing known"
word_text (Some w) = codes "number " ++ numbers_text w.lo w.hi

-- a number by its range, a pointer by its region and its offsets from there, a cell of two words by its halves
abbrev pub kind_text : Kind → List ℕ
kind_text Unset = codes "nothing known"
kind_text Dead = codes "no value"
kind_text (Num a) = codes "number " ++ numbers_text a.range.lo a.range.hi
kind_text (Ptr region lo hi) = window_text region ++ offsets_text lo hi
kind_text (Halves low high) = codes "low half " ++ word_text low ++ codes ", high half " ++ word_text high

-- a register by its number, a cell by the offset of its first byte from the stack's end
abbrev pub place_text : Place → List ℕ
place_text (AtRegister n) = codes "r" ++ decimal n
place_text (AtCell i) = codes "stack at " ++ signed_decimal (pos (8 * i) +ℤ negsuc 511)

abbrev pub line : List ℕ → List ℕ
line text = text ++ 10 ∷ []

abbrev pub fact_text : Fact → List ℕ
fact_text fact = line (place_text fact.place ++ codes ": " ++ kind_text fact.kind)

-- two registers, and how much they are together at most
abbrev pub most_text : Most → List ℕ
most_text (Number n) = decimal n
most_text (Address region offset) = region_text region ++ codes " at " ++ signed_decimal offset

abbrev pub together_text : Together → List ℕ
together_text two =
    line (codes "r" ++ decimal (number two.left) ++ codes " + r" ++ decimal (number two.right) ++ codes ": at most " ++ most_text two.most)

-- ---- explanations

-- an exit, and what is known of its answer
abbrev pub answer_text : Answer → List ℕ
answer_text answer = line (codes "slot " ++ decimal answer.slot ++ codes ": exit") ++ line (codes "r0: " ++ kind_text answer.kind)

-- the verdict, the instruction, the rule in words
abbrev pub broken_text : Refused → Insn → List ℕ
broken_text refused x =
    line (codes "refused " ++ rule_text (rule_number refused.rule) refused.slot)
    ++ line (codes "slot " ++ decimal refused.slot ++ codes ": " ++ insn_text refused.slot x)
    ++ line (codes "rule: " ++ rule_words refused.rule)

-- the verdict, and what is known of the answers or of what the rule looks at
abbrev pub explanation_text : Explanation → List ℕ
explanation_text (Accepted slots answers) = line (codes "accepted " ++ decimal slots) ++ flat_map answer_text answers.items
explanation_text (Broken refused x facts together) = broken_text refused x ++ flat_map fact_text facts.items ++ flat_map together_text together.items
