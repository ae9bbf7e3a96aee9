-- No two forms have one opcode.
use Rattle.std.proofs.Common.{◌≡◌, ℕ, refl, sym, ap, ◌∙◌, List, [], ◌∷◌}
use Rattle.std.specs.Prelude.{Option, None, Some, ◌==◌, if◌then◌else◌}
use Rattle.bpf_alu.specs.declared.Width.TheVariants.{W32, W64}
use Rattle.bpf_alu.specs.declared.Cond.TheVariants as cond
use Rattle.bpf_alu.specs.declared.SwapKind.TheVariants as swap
use Rattle.bpf_insn.specs.declared.Size.TheVariants.{Byte, Half, Word, Double}
use Rattle.bpf_insn.specs.declared.Extend.TheVariants.{Zero, Sign}
use Rattle.bpf_insn.specs.declared.form.Source.TheVariants.{Immediate, Register as X}
use Rattle.bpf_insn.specs.declared.form.AluCode.TheVariants.{Add, Sub, Mul, Div, Or, And, Lsh, Rsh, Neg, Mod, Xor, Mov, Arsh}
use Rattle.bpf_insn.specs.declared.form.Form.{Form}
use Rattle.bpf_insn.specs.declared.form.Form.TheVariants as form
use Rattle.bpf_insn.specs.Encoding.{opcode, IsForm}

abbrev pub lookup : List (ℕ × Form) → ℕ → Option Form
lookup [] n = None
lookup (e ∷ es) n = if e.0 == n then Some e.1 else lookup es n

-- the forms by their opcodes
abbrev pub table : List (ℕ × Form)
table =
    (4, form.Alu Add W32 Immediate) ∷
    (12, form.Alu Add W32 X) ∷
    (7, form.Alu Add W64 Immediate) ∷
    (15, form.Alu Add W64 X) ∷
    (20, form.Alu Sub W32 Immediate) ∷
    (28, form.Alu Sub W32 X) ∷
    (23, form.Alu Sub W64 Immediate) ∷
    (31, form.Alu Sub W64 X) ∷
    (36, form.Alu Mul W32 Immediate) ∷
    (44, form.Alu Mul W32 X) ∷
    (39, form.Alu Mul W64 Immediate) ∷
    (47, form.Alu Mul W64 X) ∷
    (52, form.Alu Div W32 Immediate) ∷
    (60, form.Alu Div W32 X) ∷
    (55, form.Alu Div W64 Immediate) ∷
    (63, form.Alu Div W64 X) ∷
    (68, form.Alu Or W32 Immediate) ∷
    (76, form.Alu Or W32 X) ∷
    (71, form.Alu Or W64 Immediate) ∷
    (79, form.Alu Or W64 X) ∷
    (84, form.Alu And W32 Immediate) ∷
    (92, form.Alu And W32 X) ∷
    (87, form.Alu And W64 Immediate) ∷
    (95, form.Alu And W64 X) ∷
    (100, form.Alu Lsh W32 Immediate) ∷
    (108, form.Alu Lsh W32 X) ∷
    (103, form.Alu Lsh W64 Immediate) ∷
    (111, form.Alu Lsh W64 X) ∷
    (116, form.Alu Rsh W32 Immediate) ∷
    (124, form.Alu Rsh W32 X) ∷
    (119, form.Alu Rsh W64 Immediate) ∷
    (127, form.Alu Rsh W64 X) ∷
    (132, form.Alu Neg W32 Immediate) ∷
    (135, form.Alu Neg W64 Immediate) ∷
    (148, form.Alu Mod W32 Immediate) ∷
    (156, form.Alu Mod W32 X) ∷
    (151, form.Alu Mod W64 Immediate) ∷
    (159, form.Alu Mod W64 X) ∷
    (164, form.Alu Xor W32 Immediate) ∷
    (172, form.Alu Xor W32 X) ∷
    (167, form.Alu Xor W64 Immediate) ∷
    (175, form.Alu Xor W64 X) ∷
    (180, form.Alu Mov W32 Immediate) ∷
    (188, form.Alu Mov W32 X) ∷
    (183, form.Alu Mov W64 Immediate) ∷
    (191, form.Alu Mov W64 X) ∷
    (196, form.Alu Arsh W32 Immediate) ∷
    (204, form.Alu Arsh W32 X) ∷
    (199, form.Alu Arsh W64 Immediate) ∷
    (207, form.Alu Arsh W64 X) ∷
    (212, form.Swap swap.ToLittle) ∷
    (220, form.Swap swap.ToBig) ∷
    (215, form.Swap swap.Swap) ∷
    (97, form.Load Word Zero) ∷
    (129, form.Load Word Sign) ∷
    (105, form.Load Half Zero) ∷
    (137, form.Load Half Sign) ∷
    (113, form.Load Byte Zero) ∷
    (145, form.Load Byte Sign) ∷
    (121, form.Load Double Zero) ∷
    (98, form.Store Word Immediate) ∷
    (99, form.Store Word X) ∷
    (106, form.Store Half Immediate) ∷
    (107, form.Store Half X) ∷
    (114, form.Store Byte Immediate) ∷
    (115, form.Store Byte X) ∷
    (122, form.Store Double Immediate) ∷
    (123, form.Store Double X) ∷
    (5, form.Near) ∷
    (6, form.Far) ∷
    (22, form.JumpIf cond.Equal W32 Immediate) ∷
    (30, form.JumpIf cond.Equal W32 X) ∷
    (21, form.JumpIf cond.Equal W64 Immediate) ∷
    (29, form.JumpIf cond.Equal W64 X) ∷
    (38, form.JumpIf cond.Greater W32 Immediate) ∷
    (46, form.JumpIf cond.Greater W32 X) ∷
    (37, form.JumpIf cond.Greater W64 Immediate) ∷
    (45, form.JumpIf cond.Greater W64 X) ∷
    (54, form.JumpIf cond.GreaterEqual W32 Immediate) ∷
    (62, form.JumpIf cond.GreaterEqual W32 X) ∷
    (53, form.JumpIf cond.GreaterEqual W64 Immediate) ∷
    (61, form.JumpIf cond.GreaterEqual W64 X) ∷
    (70, form.JumpIf cond.AnySet W32 Immediate) ∷
    (78, form.JumpIf cond.AnySet W32 X) ∷
    (69, form.JumpIf cond.AnySet W64 Immediate) ∷
    (77, form.JumpIf cond.AnySet W64 X) ∷
    (86, form.JumpIf cond.NotEqual W32 Immediate) ∷
    (94, form.JumpIf cond.NotEqual W32 X) ∷
    (85, form.JumpIf cond.NotEqual W64 Immediate) ∷
    (93, form.JumpIf cond.NotEqual W64 X) ∷
    (102, form.JumpIf cond.SignedGreater W32 Immediate) ∷
    (110, form.JumpIf cond.SignedGreater W32 X) ∷
    (101, form.JumpIf cond.SignedGreater W64 Immediate) ∷
    (109, form.JumpIf cond.SignedGreater W64 X) ∷
    (118, form.JumpIf cond.SignedGreaterEqual W32 Immediate) ∷
    (126, form.JumpIf cond.SignedGreaterEqual W32 X) ∷
    (117, form.JumpIf cond.SignedGreaterEqual W64 Immediate) ∷
    (125, form.JumpIf cond.SignedGreaterEqual W64 X) ∷
    (166, form.JumpIf cond.Less W32 Immediate) ∷
    (174, form.JumpIf cond.Less W32 X) ∷
    (165, form.JumpIf cond.Less W64 Immediate) ∷
    (173, form.JumpIf cond.Less W64 X) ∷
    (182, form.JumpIf cond.LessEqual W32 Immediate) ∷
    (190, form.JumpIf cond.LessEqual W32 X) ∷
    (181, form.JumpIf cond.LessEqual W64 Immediate) ∷
    (189, form.JumpIf cond.LessEqual W64 X) ∷
    (198, form.JumpIf cond.SignedLess W32 Immediate) ∷
    (206, form.JumpIf cond.SignedLess W32 X) ∷
    (197, form.JumpIf cond.SignedLess W64 Immediate) ∷
    (205, form.JumpIf cond.SignedLess W64 X) ∷
    (214, form.JumpIf cond.SignedLessEqual W32 Immediate) ∷
    (222, form.JumpIf cond.SignedLessEqual W32 X) ∷
    (213, form.JumpIf cond.SignedLessEqual W64 Immediate) ∷
    (221, form.JumpIf cond.SignedLessEqual W64 X) ∷
    (133, form.Call) ∷
    (149, form.Exit) ∷
    (24, form.Wide) ∷
    []

pub form-at : (f : Form) → IsForm f → lookup table (opcode f) ≡ Some f
form-at (form.Alu Add W32 Immediate) ok = refl
form-at (form.Alu Add W32 X) ok = refl
form-at (form.Alu Add W64 Immediate) ok = refl
form-at (form.Alu Add W64 X) ok = refl
form-at (form.Alu Sub W32 Immediate) ok = refl
form-at (form.Alu Sub W32 X) ok = refl
form-at (form.Alu Sub W64 Immediate) ok = refl
form-at (form.Alu Sub W64 X) ok = refl
form-at (form.Alu Mul W32 Immediate) ok = refl
form-at (form.Alu Mul W32 X) ok = refl
form-at (form.Alu Mul W64 Immediate) ok = refl
form-at (form.Alu Mul W64 X) ok = refl
form-at (form.Alu Div W32 Immediate) ok = refl
form-at (form.Alu Div W32 X) ok = refl
form-at (form.Alu Div W64 Immediate) ok = refl
form-at (form.Alu Div W64 X) ok = refl
form-at (form.Alu Or W32 Immediate) ok = refl
form-at (form.Alu Or W32 X) ok = refl
form-at (form.Alu Or W64 Immediate) ok = refl
form-at (form.Alu Or W64 X) ok = refl
form-at (form.Alu And W32 Immediate) ok = refl
form-at (form.Alu And W32 X) ok = refl
form-at (form.Alu And W64 Immediate) ok = refl
form-at (form.Alu And W64 X) ok = refl
form-at (form.Alu Lsh W32 Immediate) ok = refl
form-at (form.Alu Lsh W32 X) ok = refl
form-at (form.Alu Lsh W64 Immediate) ok = refl
form-at (form.Alu Lsh W64 X) ok = refl
form-at (form.Alu Rsh W32 Immediate) ok = refl
form-at (form.Alu Rsh W32 X) ok = refl
form-at (form.Alu Rsh W64 Immediate) ok = refl
form-at (form.Alu Rsh W64 X) ok = refl
form-at (form.Alu Neg W32 Immediate) ok = refl
form-at (form.Alu Neg W32 X) ok = absurd ok
form-at (form.Alu Neg W64 Immediate) ok = refl
form-at (form.Alu Neg W64 X) ok = absurd ok
form-at (form.Alu Mod W32 Immediate) ok = refl
form-at (form.Alu Mod W32 X) ok = refl
form-at (form.Alu Mod W64 Immediate) ok = refl
form-at (form.Alu Mod W64 X) ok = refl
form-at (form.Alu Xor W32 Immediate) ok = refl
form-at (form.Alu Xor W32 X) ok = refl
form-at (form.Alu Xor W64 Immediate) ok = refl
form-at (form.Alu Xor W64 X) ok = refl
form-at (form.Alu Mov W32 Immediate) ok = refl
form-at (form.Alu Mov W32 X) ok = refl
form-at (form.Alu Mov W64 Immediate) ok = refl
form-at (form.Alu Mov W64 X) ok = refl
form-at (form.Alu Arsh W32 Immediate) ok = refl
form-at (form.Alu Arsh W32 X) ok = refl
form-at (form.Alu Arsh W64 Immediate) ok = refl
form-at (form.Alu Arsh W64 X) ok = refl
form-at (form.Swap swap.ToLittle) ok = refl
form-at (form.Swap swap.ToBig) ok = refl
form-at (form.Swap swap.Swap) ok = refl
form-at (form.Load Word Zero) ok = refl
form-at (form.Load Word Sign) ok = refl
form-at (form.Load Half Zero) ok = refl
form-at (form.Load Half Sign) ok = refl
form-at (form.Load Byte Zero) ok = refl
form-at (form.Load Byte Sign) ok = refl
form-at (form.Load Double Zero) ok = refl
form-at (form.Load Double Sign) ok = absurd ok
form-at (form.Store Word Immediate) ok = refl
form-at (form.Store Word X) ok = refl
form-at (form.Store Half Immediate) ok = refl
form-at (form.Store Half X) ok = refl
form-at (form.Store Byte Immediate) ok = refl
form-at (form.Store Byte X) ok = refl
form-at (form.Store Double Immediate) ok = refl
form-at (form.Store Double X) ok = refl
form-at (form.Near) ok = refl
form-at (form.Far) ok = refl
form-at (form.JumpIf cond.Equal W32 Immediate) ok = refl
form-at (form.JumpIf cond.Equal W32 X) ok = refl
form-at (form.JumpIf cond.Equal W64 Immediate) ok = refl
form-at (form.JumpIf cond.Equal W64 X) ok = refl
form-at (form.JumpIf cond.Greater W32 Immediate) ok = refl
form-at (form.JumpIf cond.Greater W32 X) ok = refl
form-at (form.JumpIf cond.Greater W64 Immediate) ok = refl
form-at (form.JumpIf cond.Greater W64 X) ok = refl
form-at (form.JumpIf cond.GreaterEqual W32 Immediate) ok = refl
form-at (form.JumpIf cond.GreaterEqual W32 X) ok = refl
form-at (form.JumpIf cond.GreaterEqual W64 Immediate) ok = refl
form-at (form.JumpIf cond.GreaterEqual W64 X) ok = refl
form-at (form.JumpIf cond.AnySet W32 Immediate) ok = refl
form-at (form.JumpIf cond.AnySet W32 X) ok = refl
form-at (form.JumpIf cond.AnySet W64 Immediate) ok = refl
form-at (form.JumpIf cond.AnySet W64 X) ok = refl
form-at (form.JumpIf cond.NotEqual W32 Immediate) ok = refl
form-at (form.JumpIf cond.NotEqual W32 X) ok = refl
form-at (form.JumpIf cond.NotEqual W64 Immediate) ok = refl
form-at (form.JumpIf cond.NotEqual W64 X) ok = refl
form-at (form.JumpIf cond.SignedGreater W32 Immediate) ok = refl
form-at (form.JumpIf cond.SignedGreater W32 X) ok = refl
form-at (form.JumpIf cond.SignedGreater W64 Immediate) ok = refl
form-at (form.JumpIf cond.SignedGreater W64 X) ok = refl
form-at (form.JumpIf cond.SignedGreaterEqual W32 Immediate) ok = refl
form-at (form.JumpIf cond.SignedGreaterEqual W32 X) ok = refl
form-at (form.JumpIf cond.SignedGreaterEqual W64 Immediate) ok = refl
form-at (form.JumpIf cond.SignedGreaterEqual W64 X) ok = refl
form-at (form.JumpIf cond.Less W32 Immediate) ok = refl
form-at (form.JumpIf cond.Less W32 X) ok = refl
form-at (form.JumpIf cond.Less W64 Immediate) ok = refl
form-at (form.JumpIf cond.Less W64 X) ok = refl
form-at (form.JumpIf cond.LessEqual W32 Immediate) ok = refl
form-at (form.JumpIf cond.LessEqual W32 X) ok = refl
form-at (form.JumpIf cond.LessEqual W64 Immediate) ok = refl
form-at (form.JumpIf cond.LessEqual W64 X) ok = refl
form-at (form.JumpIf cond.SignedLess W32 Immediate) ok = refl
form-at (form.JumpIf cond.SignedLess W32 X) ok = refl
form-at (form.JumpIf cond.SignedLess W64 Immediate) ok = refl
form-at (form.JumpIf cond.SignedLess W64 X) ok = refl
form-at (form.JumpIf cond.SignedLessEqual W32 Immediate) ok = refl
form-at (form.JumpIf cond.SignedLessEqual W32 X) ok = refl
form-at (form.JumpIf cond.SignedLessEqual W64 Immediate) ok = refl
form-at (form.JumpIf cond.SignedLessEqual W64 X) ok = refl
form-at (form.Call) ok = refl
form-at (form.Exit) ok = refl
form-at (form.Wide) ok = refl

pub opcode-injective : (f g : Form) → IsForm f → IsForm g → opcode f ≡ opcode g → f ≡ g
opcode-injective f g fine well e =
    let same : Some f ≡ Some g = sym (form-at f fine) ∙ ap (lookup table) e ∙ form-at g well in cc
