-- The fault of an image whose code is refused.
use Rattle.std.proofs.Common.{◌≡◌, ◌≢◌, ℕ, List, drop, refl, sym, ap, ◌∙◌, subst}
use Rattle.bpf_insn.specs.Refusal.{IsRefused}
use Rattle.bpf_insn.specs.declared.decode.DecodeFault.{DecodeFault}
use Rattle.bpf_insn.specs.declared.decode.Refusal.{Refusal}
use Rattle.bpf_insn.specs.declared.decode.Refusal.TheVariants.{UnevenLength, Empty, TooLong, UnknownOpcode, UnusedField, BadRegister, CutWide, LeftOut, BadSwapWidth, Memory}
use Rattle.bpf_image.specs.Image.{fault_with, fault_of, HasHead, IsFirstFault, IsCodeFault}

no_code : (bytes : List ℕ) (fault : DecodeFault) (why : Refusal) → why ≢ Memory → fault.why ≡ why → IsRefused bytes fault.slot why → (fault.why ≢ Memory) × IsRefused bytes fault.slot fault.why
no_code bytes fault why ne e h = (λ m. ne (sym e ∙ m), subst (IsRefused bytes fault.slot) (sym e) h)

code_told : (bytes : List ℕ) (fault : DecodeFault) (why : Refusal) → fault.why ≡ why → IsRefused bytes fault.slot why → IsCodeFault bytes (fault_with fault why)
code_told bytes fault Memory e h = subst (λ n. IsRefused bytes n Memory) h.0 h
code_told bytes fault UnevenLength e h = no_code bytes fault UnevenLength (λ m. cc) e h
code_told bytes fault Empty e h = no_code bytes fault Empty (λ m. cc) e h
code_told bytes fault TooLong e h = no_code bytes fault TooLong (λ m. cc) e h
code_told bytes fault UnknownOpcode e h = no_code bytes fault UnknownOpcode (λ m. cc) e h
code_told bytes fault UnusedField e h = no_code bytes fault UnusedField (λ m. cc) e h
code_told bytes fault BadRegister e h = no_code bytes fault BadRegister (λ m. cc) e h
code_told bytes fault CutWide e h = no_code bytes fault CutWide (λ m. cc) e h
code_told bytes fault LeftOut e h = no_code bytes fault LeftOut (λ m. cc) e h
code_told bytes fault BadSwapWidth e h = no_code bytes fault BadSwapWidth (λ m. cc) e h

-- a fault of the code is told after all of the head's
after_head : (bytes : List ℕ) (fault : DecodeFault) (why : Refusal) → HasHead bytes → IsCodeFault (drop 16 bytes) (fault_with fault why) → IsFirstFault bytes (fault_with fault why)
after_head bytes fault Memory head h = record { stands = h; first = head }
after_head bytes fault UnevenLength head h = record { stands = h; first = head }
after_head bytes fault Empty head h = record { stands = h; first = head }
after_head bytes fault TooLong head h = record { stands = h; first = head }
after_head bytes fault UnknownOpcode head h = record { stands = h; first = head }
after_head bytes fault UnusedField head h = record { stands = h; first = head }
after_head bytes fault BadRegister head h = record { stands = h; first = head }
after_head bytes fault CutWide head h = record { stands = h; first = head }
after_head bytes fault LeftOut head h = record { stands = h; first = head }
after_head bytes fault BadSwapWidth head h = record { stands = h; first = head }

pub code_refused : (bytes : List ℕ) (fault : DecodeFault) → HasHead bytes → IsRefused (drop 16 bytes) fault.slot fault.why → IsFirstFault bytes (fault_of fault)
code_refused bytes fault head h = after_head bytes fault fault.why head (code_told (drop 16 bytes) fault fault.why refl h)

-- memory that ran out
pub memory_told : (fault : DecodeFault) → fault.why ≡ Memory → fault_of fault ≡ fault_with fault Memory
memory_told fault e = ap (fault_with fault) e
