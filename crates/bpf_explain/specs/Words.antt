-- The verifier's rules in words: what is broken, and what to write instead (this store's profile).
use Rattle.std.specs.Prelude.{ℕ, List, codes}
use Rattle.bpf_image.specs.declared.form.FormRule.{FormRule}
use Rattle.bpf_image.specs.declared.form.FormRule.TheVariants.{TargetOutside, TargetTail, TargetBack, RunsPast, Unreachable}
use Rattle.bpf_verifier.specs.declared.rule.KindRule.{KindRule}
use Rattle.bpf_verifier.specs.declared.rule.KindRule.TheVariants.{UnsetRead, FrameWritten, PointerOperand, FarOffset, OutsideWindow, InputStored, PointerStored, UnknownHelper, ArgumentRule, PointerAnswer, StackRead}
use Rattle.bpf_verifier.specs.declared.rule.Rule.{Rule}
use Rattle.bpf_verifier.specs.declared.rule.Rule.TheVariants.{Form, Kinds, NoMemory}

-- V10 to V14
abbrev pub form_words : FormRule → List ℕ
form_words TargetOutside = codes "a jump leaves the code: the image isn't what the compiler made"
form_words TargetTail = codes "a jump leads into the middle of a wide constant: the image isn't what the compiler made"
form_words TargetBack = codes "a jump goes back, as that of a loop does: unroll the loop"
form_words RunsPast = codes "the code runs past its end: let every path return"
form_words Unreachable = codes "no path leads here, or only a jump back: unroll the loop"

-- V20 to V30
abbrev pub kind_words : KindRule → List ℕ
kind_words UnsetRead = codes "a register is read that isn't set on every path, or a number on one path and a pointer on another: set each variable where it is declared"
kind_words FrameWritten = codes "the stack's pointer is written: the image isn't what the compiler made"
kind_words PointerOperand = codes "arithmetic on a pointer that would not leave one: keep a number, and add it to the pointer where it is used"
kind_words FarOffset = codes "how far this pointer may go has no bound: test the number that is added, against a constant, before it is added"
kind_words OutsideWindow = codes "a read or write that may leave its window: test the offset against the window's length before it, or make the window longer"
kind_words InputStored = codes "a write to the input: write to output, or to a local array"
kind_words PointerStored = codes "a pointer is stored elsewhere than in a whole word of the stack: keep the number, and make the pointer anew where it is used"
kind_words UnknownHelper = codes "a helper that isn't there: see dvvstore.h"
kind_words ArgumentRule = codes "an argument of a helper that may not fit: test its length, and its offset, before the call"
kind_words PointerAnswer = codes "the answer is a pointer: return a verdict"
kind_words StackRead = codes "stack is read of which nothing is known, as a part of a pointer: set the variable first, and don't copy pointers in structs"

abbrev pub rule_words : Rule → List ℕ
rule_words (Form rule) = form_words rule
rule_words (Kinds rule) = kind_words rule
rule_words NoMemory = codes "memory ran out"
