-- Code that grows by an instruction.
use Rattle.std.proofs.Common.{◌≡◌, ℕ, ◌+◌, ◌*◌, ◌%◌, ◌≤◌, List, [], ◌∷◌, ◌++◌, length, arith, refl, sym, ap, ◌∙◌, append_assoc, length-append, append-nil}
use Rattle.std.specs.Prelude.{Result, Ok, Err, is_err, OnOk, false}
use Rattle.std.proofs.lemmas.Bool.{true≢false}
use Rattle.std.specs.List.{flat_map, AllByRecursion}
use Rattle.bpf_insn.specs.Encoding.{spelling, slots, IsInstruction, IsCode}
use Rattle.bpf_insn.specs.Refusal.{BeginsWithBroken, IsBrokenAt, IsRefused}
use Rattle.bpf_insn.specs.declared.decode.Refusal.{Refusal}
use Rattle.bpf_insn.specs.declared.decode.Refusal.TheVariants.{UnevenLength, Empty, TooLong, UnknownOpcode, UnusedField, BadRegister, CutWide, LeftOut, BadSwapWidth, Memory}
use Rattle.bpf_insn.specs.declared.Insn.{Insn}
use Rattle.bpf_insn.specs.declared.Insn.TheVariants as insn

-- the bytes and slots of code, and of the instructions before a place
pub flat-append : {A B : Type 0} (f : A → List B) (xs ys : List A) → flat_map f (xs ++ ys) ≡ flat_map f xs ++ flat_map f ys
flat-append f [] ys = refl
flat-append f (x ∷ xs) ys = ap (λ zs. f x ++ zs) (flat-append f xs ys) ∙ sym (append_assoc (f x) (flat_map f xs) (flat_map f ys))

all-append : (xs : List Insn) (i : Insn) → AllByRecursion IsInstruction xs → IsInstruction i → AllByRecursion IsInstruction (xs ++ i ∷ [])
all-append [] i a h = (h, tt)
all-append (x ∷ xs) i a h = (a.0, all-append xs i a.1 h)

-- the bytes of an instruction's slots are its bytes
pub spelled_slots : (i : Insn) → flat_map spelling (slots i) ≡ spelling i
spelled_slots (insn.Alu o w d s) = refl
spelled_slots (insn.Swap k b d) = refl
spelled_slots (insn.Load z e d b f) = refl
spelled_slots (insn.Store z b f s) = refl
spelled_slots (insn.Jump d) = append-nil _
spelled_slots (insn.JumpIf c w l r f) = refl
spelled_slots (insn.Call h) = refl
spelled_slots insn.Exit = refl
spelled_slots (insn.Wide d v) = refl
spelled_slots insn.Tail = refl

-- eight bytes a slot
pub spelled_length : (i : Insn) → IsInstruction i → length (spelling i) ≡ 8 * length (slots i)
spelled_length (insn.Alu o w d s) h = refl
spelled_length (insn.Swap k b d) h = refl
spelled_length (insn.Load z e d b f) h = refl
spelled_length (insn.Store z b f s) h = refl
spelled_length (insn.Jump d) h = refl
spelled_length (insn.JumpIf c w l r f) h = refl
spelled_length (insn.Call n) h = refl
spelled_length insn.Exit h = refl
spelled_length (insn.Wide d v) h = refl
spelled_length insn.Tail h = absurd h

pub code_more : (code : List Insn) (i : Insn) → IsCode code → IsInstruction i → IsCode (code ++ slots i)
code_more code i c h =
    (c.0 ++ i ∷ [], all-append c.0 i c.1 h, ap (λ xs. xs ++ slots i) c.2 ∙ sym (flat-append slots c.0 (i ∷ []) ∙ ap (λ xs. flat_map slots c.0 ++ xs) (append-nil (slots i))))

pub bytes_more : (code : List Insn) (i : Insn) → flat_map spelling (code ++ slots i) ≡ flat_map spelling code ++ spelling i
bytes_more code i = flat-append spelling code (slots i) ∙ ap (λ xs. flat_map spelling code ++ xs) (spelled_slots i)

-- the instructions of code have its bytes
pub spelled_code : (is : List Insn) → flat_map spelling (flat_map slots is) ≡ flat_map spelling is
spelled_code [] = refl
spelled_code (i ∷ is) = flat-append spelling (slots i) (flat_map slots is) ∙ ap (λ xs. xs ++ flat_map spelling (flat_map slots is)) (spelled_slots i) ∙ ap (λ xs. spelling i ++ xs) (spelled_code is)

pub broken_at : (bytes rest : List ℕ) (code : List Insn) (place : ℕ) (why : Refusal) → IsCode code → bytes ≡ flat_map spelling code ++ rest → length (flat_map spelling code) ≡ 8 * length code → place ≡ length code → BeginsWithBroken rest why → IsBrokenAt bytes place why
broken_at bytes rest code place why is_code parts long there begins =
    let same : flat_map spelling code ≡ flat_map spelling is_code.0 = ap (λ xs. flat_map spelling xs) is_code.2 ∙ spelled_code is_code.0 in
    record {
      before = is_code.0;
      rest = rest;
      instructions = is_code.1;
      parts = parts ∙ ap (λ xs. xs ++ rest) same;
      there = ap length (sym same) ∙ long ∙ ap (λ n. 8 * n) (sym there);
      begins = begins;
    }

pub refused_at : (bytes : List ℕ) (place : ℕ) (why : Refusal) → length bytes % 8 ≡ 0 → length bytes ≤ 8 * 4096 → IsBrokenAt bytes place why → IsRefused bytes place why
refused_at bytes place UnevenLength whole few b = absurd b.begins.told.broken
refused_at bytes place Empty whole few b = absurd b.begins.told.broken
refused_at bytes place TooLong whole few b = absurd b.begins.told.broken
refused_at bytes place Memory whole few b = absurd b.begins.told.broken
refused_at bytes place UnknownOpcode whole few b = (whole, few, b)
refused_at bytes place UnusedField whole few b = (whole, few, b)
refused_at bytes place BadRegister whole few b = (whole, few, b)
refused_at bytes place CutWide whole few b = (whole, few, b)
refused_at bytes place LeftOut whole few b = (whole, few, b)
refused_at bytes place BadSwapWidth whole few b = (whole, few, b)

-- the loop's step, over plain lists
pub grown_parts : (bytes rest after : List ℕ) (code : List Insn) (i : Insn) → bytes ≡ flat_map spelling code ++ rest → rest ≡ spelling i ++ after → bytes ≡ flat_map spelling (code ++ slots i) ++ after
grown_parts bytes rest after code i parts read =
    parts ∙ ap (λ xs. flat_map spelling code ++ xs) read ∙ sym (append_assoc (flat_map spelling code) (spelling i) after) ∙ ap (λ xs. xs ++ after) (sym (bytes_more code i))

pub grown_length : (code : List Insn) (i : Insn) → IsInstruction i → length (flat_map spelling code) ≡ 8 * length code → length (flat_map spelling (code ++ slots i)) ≡ 8 * length (code ++ slots i)
grown_length code i h long =
    ap length (bytes_more code i) ∙ length-append (flat_map spelling code) (spelling i) ∙ (let e : length (spelling i) ≡ 8 * length (slots i) = spelled_length i h in let f : length (code ++ slots i) ≡ length code + length (slots i) = length-append code (slots i) in omega arith)

-- what a call ensures where it did not fail
pub not_failed : {T E : Type 0} {P : Type 0} (r : Result T E) → is_err r ≡ false → OnOk r P → P
not_failed (Ok x) e p = p
not_failed (Err d) e p = absurd (true≢false e)
