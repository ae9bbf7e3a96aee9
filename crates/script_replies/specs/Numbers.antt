-- The numbers of refusals (this store's profile).
use Rattle.std.specs.Prelude.{ℕ, List, codes}
use Rattle.hook_abi.specs.declared.answer.BadAnswer.{BadAnswer}
use Rattle.hook_abi.specs.declared.answer.BadAnswer.TheVariants as bad
use Rattle.context_token.specs.declared.fault.TokenFault.{TokenFault}
use Rattle.context_token.specs.declared.fault.TokenFault.TheVariants as token
use Rattle.vnode.specs.declared.fault.VnodeFault.{VnodeFault}
use Rattle.vnode.specs.declared.fault.VnodeFault.TheVariants as refusal

abbrev pub refusal_number : VnodeFault → List ℕ
refusal_number refusal.ContextAhead = codes "P1"
refusal_number refusal.TooManySiblings = codes "P2"
refusal_number refusal.ClockFull = codes "P3"
refusal_number refusal.MergedClockFull = codes "M1"
refusal_number refusal.JournalFull = codes "J1"
refusal_number refusal.NoMemory = codes "E1"

abbrev pub bad_answer_number : BadAnswer → List ℕ
bad_answer_number bad.UnknownCode = codes "B1"
bad_answer_number bad.LengthPastWindow = codes "B2"
bad_answer_number bad.NoSuchSibling = codes "B3"

abbrev pub token_fault_number : TokenFault → List ℕ
token_fault_number token.NotBase64 = codes "K1"
token_fault_number token.Version = codes "K2"
token_fault_number token.NotRising = codes "K3"
token_fault_number token.Cut = codes "K4"
token_fault_number token.PastLimit = codes "K5"
token_fault_number token.NoMemory = codes "E1"
