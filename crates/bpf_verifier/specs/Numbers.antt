-- The numbers of the verifier's rules (this store's profile).
use Rattle.std.specs.Prelude.{ℕ, ◌+◌, Option, None, Some}
use Rattle.bpf_image.specs.Form.{rank}
use Rattle.bpf_verifier.specs.declared.rule.KindRule.{KindRule}
use Rattle.bpf_verifier.specs.declared.rule.KindRule.TheVariants.{UnsetRead, FrameWritten, PointerOperand, FarOffset, OutsideWindow, InputStored, PointerStored, UnknownHelper, ArgumentRule, PointerAnswer, StackRead}
use Rattle.bpf_verifier.specs.declared.rule.Rule.{Rule}
use Rattle.bpf_verifier.specs.declared.rule.Rule.TheVariants.{Form, Kinds, NoMemory}

abbrev pub kind_rule_number : KindRule → ℕ
kind_rule_number UnsetRead = 20
kind_rule_number FrameWritten = 21
kind_rule_number PointerOperand = 22
kind_rule_number FarOffset = 23
kind_rule_number OutsideWindow = 24
kind_rule_number InputStored = 25
kind_rule_number PointerStored = 26
kind_rule_number UnknownHelper = 27
kind_rule_number ArgumentRule = 28
kind_rule_number PointerAnswer = 29
kind_rule_number StackRead = 30

abbrev pub rule_number : Rule → Option ℕ
rule_number (Form rule) = Some (10 + rank rule)
rule_number (Kinds rule) = Some (kind_rule_number rule)
rule_number NoMemory = None
