-- Each class of instructions: where no rule is broken it does not fault, and what follows is admitted by an edge.
use Rattle.std.proofs.Common.{◌≡◌, ◌≢◌, ℕ, ℤ, pos, ◌+◌, ◌-◌, ◌*◌, ◌%◌, ◌^◌, ◌<◌, Bool, true, false, not, ◌||◌, eqb, List, [], ◌∷◌, length, set, Option, Some, None, Result, Ok, Err, refl, sym, ap, ◌∙◌, subst, inl, inr, arith, length-set}
use Rattle.std.specs.Prelude.{IfOk, ◌+ℤ◌, unwrap_or}
use Rattle.std.proofs.Math.Nat.{mod-lt, mod-eq_of_lt}
use Rattle.std.proofs.lemmas.Nat.{pow_pos}
use Rattle.std.proofs.lemmas.Int.{ints}
use Rattle.std.proofs.lemmas.Bool.{cond_both, cond-true, eq-eqb}
use Rattle.bpf_alu.specs.Value.{bits, wrapped, signed, value, swapped, byte_count, compares, condition}
use Rattle.bpf_alu.specs.declared.Op.{Op}
use Rattle.bpf_alu.specs.declared.Width.{Width}
use Rattle.bpf_alu.specs.declared.Width.TheVariants.{W32, W64}
use Rattle.bpf_alu.specs.declared.Cond.{Cond}
use Rattle.bpf_alu.specs.declared.SwapKind.{SwapKind}
use Rattle.bpf_alu.specs.declared.SwapBits.{SwapBits}
use Rattle.bpf_insn.specs.Encoding.{number, size_bytes, IsInstruction}
use Rattle.bpf_insn.specs.declared.Register.{Register}
use Rattle.bpf_insn.specs.declared.Register.TheVariants.{R10}
use Rattle.bpf_insn.specs.declared.Operand.{Operand}
use Rattle.bpf_insn.specs.declared.Operand.TheVariants as operand
use Rattle.bpf_insn.specs.declared.Size.{Size}
use Rattle.bpf_insn.specs.declared.Extend.{Extend}
use Rattle.bpf_insn.specs.declared.Extend.TheVariants.{Zero, Sign}
use Rattle.bpf_insn.specs.declared.Distance.TheVariants as distance
use Rattle.bpf_insn.specs.declared.Insn.{Insn}
use Rattle.bpf_insn.specs.declared.Insn.TheVariants as insn
use Rattle.bpf_semantics.specs.Windows.{Covers, base, read, written, little_endian, low_bytes}
use Rattle.bpf_semantics.specs.State.{State, register, number_in, operand_in, with_register, jumped, advanced, writes, operand_reads, address, SomeUnset, MissesWindows, StoresToInput, Breaks, extended, Row as Does}
use Rattle.bpf_semantics.specs.declared.Region.{Region}
use Rattle.bpf_semantics.specs.declared.Region.TheVariants.{Input}
use Rattle.bpf_semantics.specs.declared.Fault.{Fault}
use Rattle.bpf_semantics.specs.declared.Fault.TheVariants as fault
use Rattle.bpf_ranges.specs.declared.kind.Kind.{Kind}
use Rattle.bpf_ranges.specs.declared.kind.Kind.TheVariants.{Unset, Dead, Num, Ptr, Halves}
use Rattle.bpf_semantics.specs.declared.profile.Profile.{Profile}
use Rattle.bpf_semantics.specs.declared.profile.Profile.TheVariants.{First, Second}
use Rattle.bpf_ranges.specs.declared.range.Range.{Range}
use Rattle.bpf_ranges.specs.declared.kind.Bad.{Bad}
use Rattle.bpf_ranges.specs.declared.kind.Bad.TheVariants.{V22, V23}
use Rattle.bpf_ranges.specs.Kinds.{Admits, IsKind}
use Rattle.bpf_ranges.specs.Numbers.{single, full, number_of}
use Rattle.bpf_ranges.specs.Transfer.{transfer_of, swap_of}
use Rattle.bpf_ranges.specs.Laws.{IsSoundTable}
use Rattle.bpf_image.specs.Form.{landing, target_of}
use Rattle.bpf_helpers.specs.Calls.{Callee, Unknown, callee_of, calls_of}
use Rattle.bpf_verifier.specs.Program.{Program, HasLimits}
use Rattle.bpf_verifier.specs.declared.rule.KindRule.{KindRule}
use Rattle.bpf_verifier.specs.declared.rule.KindRule.TheVariants.{UnsetRead, FrameWritten, OutsideWindow, InputStored, ArgumentRule}
use Rattle.bpf_verifier.specs.Registers.{Row, IsLong, kind_at, with_kind, one_number, kind_from, is_unset, is_input_pointer, any_unset, is_inside}
use Rattle.bpf_verifier.specs.Cells.{span_of, part_at, row_stored_in, read_kind}
use Rattle.bpf_verifier.specs.Rules.{callee_in, reads_by, broken_if, is_frame, bad_result, class_rules, rules_of, first_of, result_kind, loaded, refined}
use Rattle.bpf_verifier.specs.Table.{target_edge, edges_from, AreKinds}
use Rattle.bpf_verifier.proofs.SameReads.{reads_called}
use Rattle.bpf_verifier.proofs.Words.{wrapped_below, cut_word, size_fits, some_bytes, bytes_low, length_low}
use Rattle.bpf_verifier.proofs.Fits.{IsWord, FitsRow, at_learn, SomeEdge}
use Rattle.bpf_verifier.proofs.StackCells.{values_of, values, value_at, register_fits, written_register, has_eleven}
use Rattle.bpf_verifier.proofs.CellSteps.{touched_fits, stored_fits, loaded_fits}
use Rattle.bpf_verifier.specs.declared.cell_part.CellPart.{CellPart}
use Rattle.bpf_verifier.specs.declared.pair.Pairs.{Pairs}
use Rattle.bpf_verifier.proofs.Together.{HoldPairs}
use Rattle.bpf_verifier.proofs.Summed.{summed_fits}
use Rattle.bpf_verifier.proofs.RowSteps.{kinds_set}
use Rattle.bpf_verifier.proofs.Refined.{refined_is_long, refined_kinds}
use Rattle.bpf_verifier.specs.Sums.{KnownSums}
use Rattle.bpf_verifier.proofs.SumSteps.{AllHold, told_fits}
use Rattle.bpf_verifier.proofs.Shape.{target_edge_at}
use Rattle.bpf_verifier.proofs.CallSteps.{given_fits, answered, row_fits}
use Rattle.bpf_verifier.proofs.Places.{IsMemory, place_in, not_input, not_in_input, load_small, store_kept}

-- ---- the first of several rules

abbrev pub AllNone : {A : Type 0} → List (Option A) → Type 0
AllNone [] = Unit {0}
AllNone (x ∷ xs) = (x ≡ None) × AllNone xs

pub none_each : {A : Type 0} (xs : List (Option A)) → first_of xs ≡ None → AllNone xs
none_each [] h = tt
none_each (None ∷ xs) h = (refl, none_each xs h)
none_each (Some x ∷ xs) h = cc

pub untold : (t : Bool) (rule : KindRule) → broken_if t rule ≡ None → t ≡ false
untold true rule h = cc
untold false rule h = refl

pub untold_not : (t : Bool) (rule : KindRule) → broken_if (not t) rule ≡ None → t ≡ true
untold_not true rule h = refl
untold_not false rule h = cc

pub or_left : (a b : Bool) → (a || b) ≡ false → a ≡ false
or_left true b h = cc
or_left false b h = refl

pub or_right : (a b : Bool) → (a || b) ≡ false → b ≡ false
or_right true b h = cc
or_right false b h = h

-- ---- what is read is set

is_set : (k : Kind) (v : Option ℕ) → is_unset k ≡ false → Admits k v → v ≢ None
is_set k (Some n) h a e = cc
is_set Unset None h a e = cc
is_set Dead None h a e = absurd a
is_set (Num b) None h a e = absurd a
is_set (Ptr r lo hi) None h a e = absurd a
is_set (Halves l u) None h a e = absurd a

admits_number : (k : Kind) (v : Option ℕ) → Admits k v → Admits k (Some (unwrap_or v 0))
admits_number k (Some n) a = a
admits_number Unset None a = tt
admits_number Dead None a = absurd a
admits_number (Num b) None a = absurd a
admits_number (Ptr r lo hi) None a = absurd a
admits_number (Halves l u) None a = absurd a

number_fits : (v : Option ℕ) → IsWord v → unwrap_or v 0 < 2 ^ 64
number_fits None w = omega arith
number_fits (Some n) w = w

-- the number that a set register holds
back : (l : Kind) (v : Option ℕ) → v ≢ None → Admits l (Some (unwrap_or v 0)) → Admits l v
back l (Some n) h a = a
back l None h a = absurd (h refl)

-- a result that is told as no broken rule
ok_result : (r : Result Kind Bad) (v : Option ℕ) → bad_result r ≡ None → IfOk r (λ k. Admits k v) → Admits (result_kind r) v
ok_result (Ok k) v h a = a
ok_result (Err V22) v h a = cc
ok_result (Err V23) v h a = cc

pub result_is_kind : (r : Result Kind Bad) → IfOk r IsKind → IsKind (result_kind r)
result_is_kind (Ok k) h = h
result_is_kind (Err e) h = tt

no_frame : (o : Option Register) → is_frame o ≡ false → o ≢ Some R10
no_frame o h e = let t : is_frame (Some R10) ≡ false = subst (λ q. is_frame q ≡ false) e h in cc

one_on : (z : ℤ) (i : ℕ) → z ≡ pos i → pos (i + 1) ≡ (z +ℤ pos 1)
one_on z i e = ap (λ y. y +ℤ pos 1) (sym e)

two_on : (z : ℤ) (i : ℕ) → z ≡ pos i → pos (i + 2) ≡ (z +ℤ pos 1 +ℤ pos 1)
two_on z i e = let h : pos (i + 2) ≡ (pos i +ℤ pos 1 +ℤ pos 1) = omega (arith, ints) in h ∙ ap (λ y. y +ℤ pos 1 +ℤ pos 1) (sym e)

value_word : (o : Op) (w : Width) (x y : ℕ) → value o w x y < 2 ^ 64
value_word o W32 x y = let small : value o W32 x y < 2 ^ 32 = wrapped_below 32 _ in omega (arith, small)
value_word o W64 x y = wrapped_below 64 _

swapped_word : (sound : (profile : Profile) → IsSoundTable profile) (kind : SwapKind) (n : SwapBits) (x : ℕ) → swapped kind n x < 2 ^ 64
swapped_word sound kind n x =
    subst (λ (r : Range). r.hi < 2 ^ 64) (cond-true (eqb x x) (single (swapped kind n x)) (full (8 * byte_count n)) (eq-eqb x x refl)) ((sound First).swap_kind kind n (Num (number_of (single x)))).range.fits

module _ (sound : (profile : Profile) → IsSoundTable profile) (p : Program) (i : ℕ) (row : Row) (s : State) (limits : HasLimits p) (kinds : AreKinds row) (long : IsLong p.profile row) (fits : FitsRow row (values p.profile s)) (at : s.slot ≡ pos i) (memory : IsMemory p s.memory) (sums : KnownSums) (holds : AllHold sums s) (pairs : Pairs) (hold : HoldPairs pairs s) where
  -- ---- registers
  at_reg : (r : Register) → Admits (kind_at row r) (register s r) × IsWord (register s r)
  at_reg r = register_fits p.profile row s long fits r

  at_kind : (r : Register) → IsKind (kind_at row r)
  at_kind r = kinds (number r)

  operand_kind : (src : Operand) → IsKind (kind_from p.profile row src)
  operand_kind (operand.Register r) = at_kind r
  operand_kind (operand.Immediate n) = (sound p.profile).range_kind (single (wrapped 64 n)) (omega arith) (wrapped_below 64 n)

  at_operand : (src : Operand) → Admits (kind_from p.profile row src) (Some (operand_in s src)) × (operand_in s src < 2 ^ 64)
  at_operand (operand.Register r) = let h = at_reg r in (admits_number _ _ h.0, number_fits _ h.1)
  at_operand (operand.Immediate n) =
      let m = wrapped 64 n in ((sound p.profile).range (single m) m (wrapped_below 64 n) (omega arith, omega arith), wrapped_below 64 n)

  pub at_number : (r : Register) → Admits (kind_at row r) (Some (number_in s r)) × (number_in s r < 2 ^ 64)
  at_number r = let h = at_reg r in (admits_number _ _ h.0, number_fits _ h.1)

  reads_set : (rs : List Register) → any_unset row rs ≡ false → SomeUnset s rs → ⊥
  reads_set [] h u = u
  reads_set (r ∷ rs) h (inl e) = is_set (kind_at row r) (register s r) (or_left (is_unset (kind_at row r)) (any_unset row rs) h) (at_reg r).0 e
  reads_set (r ∷ rs) h (inr u) = reads_set rs (or_right (is_unset (kind_at row r)) (any_unset row rs) h) u

  -- ---- accesses
  access : (r : Register) (offset : ℤ) (size : ℕ) → is_inside p (kind_at row r) offset size ≡ true → (region : Region) × Covers s.memory region (address s r offset) size × (is_input_pointer (kind_at row r) ≡ false → region ≢ Input)
  access r offset size t = from (kind_at row r) (register s r) (at_reg r).0 t
    where
      from : (k : Kind) (v : Option ℕ) → Admits k v → is_inside p k offset size ≡ true → (region : Region) × Covers s.memory region (wrapped 64 (pos (unwrap_or v 0) +ℤ offset)) size × (is_input_pointer k ≡ false → region ≢ Input)
      from Unset v a t = cc
      from (Halves l u) v a t = cc
      from Dead v a t = cc
      from (Num b) v a t = cc
      from (Ptr region lo hi) None a t = absurd a
      from (Ptr region lo hi) (Some n) a t = (region, place_in p s.memory region lo hi n offset size limits memory a t, not_input region lo hi)

  -- ---- no fault
  no_miss : (callee : Callee) (x : Insn) → AllNone (class_rules p callee pairs row x) → ¬ MissesWindows x s
  no_miss callee (insn.Load size extend dst r offset) h miss = let l = access r offset (size_bytes size) (untold_not _ OutsideWindow h.0) in miss l.0 l.1
  no_miss callee (insn.Store size r offset src) h miss = let l = access r offset (size_bytes size) (untold_not _ OutsideWindow h.0) in miss l.0 l.1
  no_miss callee (insn.Alu o w d src) h miss = miss
  no_miss callee (insn.Swap k n d) h miss = miss
  no_miss callee (insn.Jump d) h miss = miss
  no_miss callee (insn.JumpIf c w l r o) h miss = miss
  no_miss callee (insn.Call n) h miss = miss
  no_miss callee insn.Exit h miss = miss
  no_miss callee (insn.Wide d n) h miss = miss
  no_miss callee insn.Tail h miss = miss

  no_input : (callee : Callee) (x : Insn) → AllNone (class_rules p callee pairs row x) → ¬ StoresToInput x s
  no_input callee (insn.Store size r offset src) h c =
      let l = access r offset (size_bytes size) (untold_not _ OutsideWindow h.0) in
      not_in_input p s.memory l.0 (address s r offset) (size_bytes size) limits memory (some_bytes size) (l.2 (untold _ InputStored h.1.0)) l.1 c
  no_input callee (insn.Load size extend d r offset) h c = c
  no_input callee (insn.Alu o w d src) h c = c
  no_input callee (insn.Swap k n d) h c = c
  no_input callee (insn.Jump d) h c = c
  no_input callee (insn.JumpIf c' w l r o) h c = c
  no_input callee (insn.Call n) h c = c
  no_input callee insn.Exit h c = c
  no_input callee (insn.Wide d n) h c = c
  no_input callee insn.Tail h c = c

  no_bad_call : (x : Insn) → AllNone (class_rules p (callee_in p.sigs x) pairs row x) → ¬ Breaks (calls_of p.sigs) x s fault.Helper
  no_bad_call (insn.Call n) h c = c (given_fits sound p row s limits long fits memory at_number pairs hold (callee_of p.sigs n) (untold_not _ ArgumentRule h.1.0))
  no_bad_call (insn.Store size r offset src) h c = c
  no_bad_call (insn.Load size extend d r offset) h c = c
  no_bad_call (insn.Alu o w d src) h c = c
  no_bad_call (insn.Swap k n d) h c = c
  no_bad_call (insn.Jump d) h c = c
  no_bad_call (insn.JumpIf c' w l r o) h c = c
  no_bad_call insn.Exit h c = c
  no_bad_call (insn.Wide d n) h c = c
  no_bad_call insn.Tail h c = c

  pub no_fault : (x : Insn) → AllNone (rules_of p pairs row x) → (f : Fault) → ¬ Breaks (calls_of p.sigs) x s f
  no_fault x h fault.Unset b = reads_set (reads_by (callee_in p.sigs x) x) (untold _ UnsetRead h.0) (subst (SomeUnset s) (sym (reads_called p.sigs x)) b)
  no_fault x h fault.Address b = no_miss (callee_in p.sigs x) x h.1.1 b
  no_fault x h fault.Input b = no_input (callee_in p.sigs x) x h.1.1 b
  no_fault x h fault.Slot b = b
  no_fault x h fault.Helper b = no_bad_call x h.1.1 b
  no_fault x h fault.ReadOnly b = no_frame (writes x) (untold _ FrameWritten h.1.0) b

  -- ---- what follows
  -- an edge that admits the state, and a memory as it was laid out
  abbrev pub Lands : Insn → State → Type 0
  Lands x t = SomeEdge t.slot (values p.profile t) (edges_from p.profile (callee_in p.sigs x) sums pairs i row x) × IsMemory p t.memory

  -- a number written into a register, whose kind is told by an edge to the next slot
  written_lands : (x : Insn) (r : Register) (k : Kind) (v : ℕ) (t : State) → edges_from p.profile (callee_in p.sigs x) sums pairs i row x ≡ (i + 1, with_kind row r k) ∷ [] → Admits k (Some v) → v < 2 ^ 64 → t ≡ advanced (with_register r v s) → Lands x t
  written_lands x r k v t es a w e =
      let P : State → Type 0 = λ u. SomeEdge u.slot (values p.profile u) (edges_from p.profile (callee_in p.sigs x) sums pairs i row x) × IsMemory p u.memory in
      subst P (sym e) (subst (SomeEdge (s.slot +ℤ pos 1) (values_of p.profile (set s.registers (number r) (Some v)) s.memory.stack)) (sym es) (inl (one_on s.slot i at, written_register p.profile row s long fits r k (Some v) a w)), memory)

  alu_lands : (o : Op) (w : Width) (dst : Register) (src : Operand) (t : State) → AllNone (class_rules p Unknown pairs row (insn.Alu o w dst src)) → Does (calls_of p.sigs) (insn.Alu o w dst src) s t → Lands (insn.Alu o w dst src) t
  alu_lands o w dst src t h d =
      let a = at_reg dst in
      let b = at_operand src in
      let m = number_in s dst in
      let n = operand_in s src in
      let admitted = (sound p.profile).operation o w (kind_at row dst) (kind_from p.profile row src) m n (at_kind dst) (operand_kind src) (number_fits _ a.1) b.1 (λ _. admits_number _ _ a.0) (λ _. b.0) in
      let x = insn.Alu o w dst src in
      let v = value o w m n in
      let k = result_kind (transfer_of p.profile o w (kind_at row dst) (kind_from p.profile row src)) in
      let after = with_kind row dst k in
      let long' : IsLong p.profile after = length-set _ _ _ ∙ long in
      let kinds' : AreKinds after = kinds_set row (number dst) k kinds (result_is_kind (transfer_of p.profile o w (kind_at row dst) (kind_from p.profile row src)) ((sound p.profile).operation_kind o w (kind_at row dst) (kind_from p.profile row src) (at_kind dst) (operand_kind src))) in
      let wrote : FitsRow after (values p.profile (advanced (with_register dst v s))) = written_register p.profile row s long fits dst k (Some v) (ok_result _ (Some v) h.0 admitted) (value_word o w m n) in
      let P : State → Type 0 = λ u. SomeEdge u.slot (values p.profile u) (edges_from p.profile (callee_in p.sigs x) sums pairs i row x) × IsMemory p u.memory in
      subst P (sym d)
      (inl (one_on s.slot i at, summed_fits (sound Second) p.profile (calls_of p.sigs) s (advanced (with_register dst v s)) (has_eleven p.profile row s long fits) after long' kinds' wrote x pairs hold refl), memory)

  swap_lands : (kind : SwapKind) (n : SwapBits) (dst : Register) (t : State) → AllNone (class_rules p Unknown pairs row (insn.Swap kind n dst)) → Does (calls_of p.sigs) (insn.Swap kind n dst) s t → Lands (insn.Swap kind n dst) t
  swap_lands kind n dst t h d =
      let a = at_reg dst in
      let m = number_in s dst in
      let admitted = (sound p.profile).swap kind n (kind_at row dst) m (admits_number _ _ a.0) in
      written_lands (insn.Swap kind n dst) dst (result_kind (swap_of p.profile kind n (kind_at row dst))) (swapped kind n m) t refl (ok_result _ (Some (swapped kind n m)) h.0 admitted) (swapped_word sound kind n m) d

  -- what a load reads is in the kind of its size
  in_loaded : (size : Size) (extend : Extend) (n : ℕ) → n < 2 ^ (8 * size_bytes size) → Admits (loaded p.profile size extend) (Some (extended extend size n)) × (extended extend size n < 2 ^ 64)
  in_loaded size Zero n h =
      let fits = size_fits size in
      let some = pow_pos (8 * size_bytes size) in
      ((sound p.profile).range (full (8 * size_bytes size)) n (omega arith) (omega arith, omega arith), omega arith)
  in_loaded size Sign n h =
      let b = wrapped_below 64 (signed (8 * size_bytes size) n) in
      ((sound p.profile).range (full 64) (wrapped 64 (signed (8 * size_bytes size) n)) (omega arith) (omega arith, omega arith), b)

  read_admits : (size : Size) (extend : Extend) (r : Register) (offset : ℤ) (region : Region) (o : Option CellPart) → is_inside p (kind_at row r) offset (size_bytes size) ≡ true → Covers s.memory region (address s r offset) (size_bytes size) → part_at p.profile (kind_at row r) offset (size_bytes size) ≡ o → let n = extended extend size (little_endian (read s.memory region (address s r offset - base region) (size_bytes size))) in Admits (read_kind p.profile extend o (loaded p.profile size extend) row) (Some n) × (n < 2 ^ 64)
  read_admits size Zero r offset region None t c e =
      in_loaded size Zero (little_endian (read s.memory region (address s r offset - base region) (size_bytes size))) (load_small p s.memory region (address s r offset) size memory c)
  read_admits size Sign r offset region o t c e =
      in_loaded size Sign (little_endian (read s.memory region (address s r offset - base region) (size_bytes size))) (load_small p s.memory region (address s r offset) size memory c)
  read_admits size Zero r offset region (Some at) t c e =
      let n = little_endian (read s.memory region (address s r offset - base region) (size_bytes size)) in (
        loaded_fits sound p row s limits long fits memory (kind_at row r) (number_in s r) offset (size_bytes size) at region e (at_number r).0 t c kinds,
        (in_loaded size Zero n (load_small p s.memory region (address s r offset) size memory c)).1,
      )

  load_lands : (size : Size) (extend : Extend) (dst r : Register) (offset : ℤ) (t : State) → IsInstruction (insn.Load size extend dst r offset) → AllNone (class_rules p Unknown pairs row (insn.Load size extend dst r offset)) → Does (calls_of p.sigs) (insn.Load size extend dst r offset) s t → Lands (insn.Load size extend dst r offset) t
  load_lands size extend dst r offset t is h d =
      let n = little_endian (read s.memory d.0 (address s r offset - base d.0) (size_bytes size)) in
      let o = part_at p.profile (kind_at row r) offset (size_bytes size) in
      let k = read_admits size extend r offset d.0 o (untold_not _ OutsideWindow h.0) d.1 refl in
      written_lands (insn.Load size extend dst r offset) dst (read_kind p.profile extend o (loaded p.profile size extend) row) (extended extend size n) t refl k.0 k.1 d.2

  store_fits : (size : Size) (r : Register) (offset : ℤ) (src : Operand) (region : Region) (o : Option CellPart) → is_inside p (kind_at row r) offset (size_bytes size) ≡ true → Covers s.memory region (address s r offset) (size_bytes size) → part_at p.profile (kind_at row r) offset (size_bytes size) ≡ o → FitsRow (row_stored_in p.profile o (span_of (kind_at row r) offset (size_bytes size)) (kind_from p.profile row src) row) (values_of p.profile s.registers (written s.memory region (address s r offset - base region) (low_bytes (size_bytes size) (operand_in s src))).stack)
  store_fits size r offset src region None t c e =
      let l = length_low (size_bytes size) (operand_in s src) in
      let covers : Covers s.memory region (address s r offset) (length (low_bytes (size_bytes size) (operand_in s src))) = subst (Covers s.memory region (address s r offset)) (sym l) c in
      touched_fits sound p row s limits long fits memory (kind_at row r) (number_in s r) offset (size_bytes size) region (low_bytes (size_bytes size) (operand_in s src)) (at_number r).0 t covers (omega (arith, l)) (bytes_low (size_bytes size) (operand_in s src))
  store_fits size r offset src region (Some at) t c e =
      let a = at_operand src in
      stored_fits sound p row s limits long fits memory (kind_at row r) (number_in s r) offset (size_bytes size) at region (kind_from p.profile row src) (operand_in s src) e (at_number r).0 t c kinds (operand_kind src) a.1 a.0

  store_lands : (size : Size) (r : Register) (offset : ℤ) (src : Operand) (t : State) → AllNone (class_rules p Unknown pairs row (insn.Store size r offset src)) → Does (calls_of p.sigs) (insn.Store size r offset src) s t → Lands (insn.Store size r offset src) t
  store_lands size r offset src t h d =
      let P : State → Type 0 = λ u. SomeEdge u.slot (values p.profile u) (edges_from p.profile Unknown sums pairs i row (insn.Store size r offset src)) × IsMemory p u.memory in
      let kept = store_fits size r offset src d.0 (part_at p.profile (kind_at row r) offset (size_bytes size)) (untold_not _ OutsideWindow h.0) d.1 refl in
      subst P (sym d.2) (inl (one_on s.slot i at, kept), store_kept p s.memory d.0 (address s r offset) size (operand_in s src) memory d.1)

  -- ---- jumps
  jump_edge : (z : ℤ) (k : ℕ) (r : Row) (u : ℤ) → z ≡ pos k → u ≡ z → FitsRow r (values p.profile s) → SomeEdge u (values p.profile s) (target_edge (Some z) r)
  jump_edge z k r u e f h = subst (SomeEdge u (values p.profile s)) (sym (target_edge_at z k r e)) (inl (sym (f ∙ e), h))

  landed : (o : ℤ) → (s.slot +ℤ pos 1 +ℤ o) ≡ landing i o
  landed o = ap (λ y. y +ℤ pos 1 +ℤ o) at

  near_lands : (o : ℤ) (k : ℕ) (t : State) → landing i o ≡ pos k → Does (calls_of p.sigs) (insn.Jump (distance.Near o)) s t → Lands (insn.Jump (distance.Near o)) t
  near_lands o k t e d =
      let P : State → Type 0 = λ u. SomeEdge u.slot (values p.profile u) (target_edge (Some (landing i o)) row) × IsMemory p u.memory in
      subst P (sym d) (jump_edge (landing i o) k row (s.slot +ℤ pos 1 +ℤ o) e (landed o) fits, memory)

  far_lands : (o : ℤ) (k : ℕ) (t : State) → landing i o ≡ pos k → Does (calls_of p.sigs) (insn.Jump (distance.Far o)) s t → Lands (insn.Jump (distance.Far o)) t
  far_lands o k t e d =
      let P : State → Type 0 = λ u. SomeEdge u.slot (values p.profile u) (target_edge (Some (landing i o)) row) × IsMemory p u.memory in
      subst P (sym d) (jump_edge (landing i o) k row (s.slot +ℤ pos 1 +ℤ o) e (landed o) fits, memory)

  -- the kinds of two compared operands, narrowed, still admit them
  branch_fits : (c : Cond) (w : Width) (left : Register) (right : Operand) (taken : Bool) → any_unset row (left ∷ operand_reads right) ≡ false → condition c w (number_in s left) (operand_in s right) ≡ taken → FitsRow (refined p.profile c w left right taken row) (values p.profile s)
  branch_fits c w left (operand.Register right) taken h t =
      let a = at_reg left in
      let b = at_reg right in
      let ha = is_set _ _ (or_left (is_unset (kind_at row left)) _ h) a.0 in
      let hb = is_set _ _ (or_left (is_unset (kind_at row right)) _ (or_right (is_unset (kind_at row left)) _ h)) b.0 in
      let r = (sound p.profile).comparison c w (kind_at row left) (kind_at row right) taken (number_in s left) (number_in s right) (at_kind left) (at_kind right) (admits_number _ _ a.0) (admits_number _ _ b.0) t in
      let ea = value_at p.profile row s long fits left in
      let eb = value_at p.profile row s long fits right in
      cond_both (eqb (number left) (number right)) _ _ (λ q. FitsRow q (values p.profile s)) (λ _. fits)
      (λ _. at_learn _ (values p.profile s) (number right) _ (at_learn row (values p.profile s) (number left) _ fits (subst (Admits _) ea (back _ _ ha r.0))) (subst (Admits _) eb (back _ _ hb r.1)))
  branch_fits c w left (operand.Immediate n) taken h t =
      let a = at_reg left in
      let ha = is_set _ _ (or_left (is_unset (kind_at row left)) _ h) a.0 in
      let m = wrapped 64 n % 2 ^ bits w in
      let again : m % 2 ^ bits w ≡ wrapped 64 n % 2 ^ bits w = mod-eq_of_lt (mod-lt (wrapped 64 n) (pow_pos (bits w))) in
      let same : condition c w (number_in s left) m ≡ taken = ap (λ j. compares c (bits w) (number_in s left % 2 ^ bits w) j) again ∙ t in
      let word = cut_word w (wrapped 64 n) in
      let r = (sound p.profile).comparison c w (kind_at row left) (one_number p.profile m) taken (number_in s left) m (at_kind left) ((sound p.profile).range_kind (single m) (omega arith) word) (admits_number _ _ a.0) ((sound p.profile).range (single m) m word (omega arith, omega arith)) same in
      at_learn row (values p.profile s) (number left) _ fits (subst (Admits _) (value_at p.profile row s long fits left) (back _ _ ha r.0))

  branch_lands : (c : Cond) (w : Width) (left : Register) (right : Operand) (o : ℤ) (k : ℕ) (t : State) → landing i o ≡ pos k → any_unset row (left ∷ operand_reads right) ≡ false → Does (calls_of p.sigs) (insn.JumpIf c w left right o) s t → Lands (insn.JumpIf c w left right o) t
  branch_lands c w left right o k t e h d =
      let P : State → Type 0 = λ u. SomeEdge u.slot (values p.profile u) (edges_from p.profile Unknown sums pairs i row (insn.JumpIf c w left right o)) × IsMemory p u.memory in
      subst P (sym d)
      (cond_both (condition c w (number_in s left) (operand_in s right)) (jumped o s) (advanced s) P
      (λ yes. (inr (jump_edge (landing i o) k (refined p.profile c w left right true row) (s.slot +ℤ pos 1 +ℤ o) e (landed o) (branch_fits c w left right true h yes)), memory))
      (λ no. (inl (one_on s.slot i at, told_fits (sound Second) p.profile s (refined p.profile c w left right false row) (refined_is_long p.profile c w left right false row long) (refined_kinds p.profile (sound p.profile) c w left right false row kinds) (branch_fits c w left right false h no) (insn.JumpIf c w left right o) sums holds), memory)))

  wide_lands : (dst : Register) (n : ℕ) (t : State) → n < 2 ^ 64 → Does (calls_of p.sigs) (insn.Wide dst n) s t → Lands (insn.Wide dst n) t
  wide_lands dst n t small d =
      let P : State → Type 0 = λ u. SomeEdge u.slot (values p.profile u) (edges_from p.profile Unknown sums pairs i row (insn.Wide dst n)) × IsMemory p u.memory in
      let two : pos (i + 2) ≡ (s.slot +ℤ pos 1 +ℤ pos 1) = two_on s.slot i at in
      subst P (sym d) (inl (two, written_register p.profile row s long fits dst (one_number p.profile n) (Some n) ((sound p.profile).range (single n) n small (omega arith, omega arith)) small), memory)

  call_lands : (n : ℕ) (t : State) → AllNone (class_rules p (callee_of p.sigs n) pairs row (insn.Call n)) → Does (calls_of p.sigs) (insn.Call n) s t → Lands (insn.Call n) t
  call_lands n t h d =
      let callee = callee_of p.sigs n in
      let P : State → Type 0 = λ u. SomeEdge u.slot (values p.profile u) (edges_from p.profile callee sums pairs i row (insn.Call n)) × IsMemory p u.memory in
      let a = answered sound p row s limits long fits memory at_number pairs hold n callee d.0 d.1 d.2 in
      subst P (sym d.3) (inl (one_on s.slot i at, row_fits sound p row s limits long fits memory at_number pairs hold n callee d.0 d.1 (untold_not _ ArgumentRule h.1.0) d.2), a.2)

  -- ---- any instruction
  pub lands : (x : Insn) (t : State) → IsInstruction x → ((z : ℤ) → target_of i x ≡ Some z → (k : ℕ) × (z ≡ pos k)) → AllNone (rules_of p pairs row x) → Does (calls_of p.sigs) x s t → Lands x t
  lands (insn.Alu o w dst src) t is to h d = alu_lands o w dst src t h.1.1 d
  lands (insn.Swap kind n dst) t is to h d = swap_lands kind n dst t h.1.1 d
  lands (insn.Load size extend dst r offset) t is to h d = load_lands size extend dst r offset t is h.1.1 d
  lands (insn.Store size r offset src) t is to h d = store_lands size r offset src t h.1.1 d
  lands (insn.Jump (distance.Near o)) t is to h d = let k = to (landing i o) refl in near_lands o k.0 t k.1 d
  lands (insn.Jump (distance.Far o)) t is to h d = let k = to (landing i o) refl in far_lands o k.0 t k.1 d
  lands (insn.JumpIf c w left right o) t is to h d = let k = to (landing i o) refl in branch_lands c w left right o k.0 t k.1 (untold _ UnsetRead h.0) d
  lands (insn.Call n) t is to h d = call_lands n t h.1.1 d
  lands insn.Exit t is to h d = absurd d
  lands (insn.Wide dst n) t is to h d = wide_lands dst n t is d
  lands insn.Tail t is to h d = absurd d
