-- A plain program that is well behaved is accepted.
use Rattle.std.proofs.Common.{◌≡◌, ◌≢◌, ℕ, zero, suc, ℤ, pos, negsuc, ◌<◌, ◌≤◌, Bool, true, false, cond, not, eqb, ◌||◌, List, [], ◌∷◌, ◌++◌, length, Option, Some, None, refl, sym, ap, ap₂, ◌∙◌, subst, inl, inr, ⊎_elim, arith}
use Rattle.std.specs.Prelude.{◌≤ℤ◌, ◌+ℤ◌, ◌&&◌, int_le, slice_get, replicate}
use Rattle.std.proofs.lemmas.List.{length-replicate}
use Rattle.std.proofs.lemmas.Int.{ints}
use Rattle.std.proofs.lemmas.Bool.{cond_both, cases_lt, cases_Bool, eqb-true, and_from}
use Rattle.std.proofs.lemmas.Option.{slice_get_past}
use Rattle.bpf_insn.specs.Encoding.{size_bytes}
use Rattle.bpf_insn.specs.declared.Register.{Register}
use Rattle.bpf_insn.specs.declared.Register.TheVariants.{R0, R1, R2, R3, R4, R5, R6, R7, R8, R9, R10}
use Rattle.bpf_insn.specs.declared.Insn.{Insn}
use Rattle.bpf_insn.specs.declared.Insn.TheVariants as insn
use Rattle.bpf_semantics.specs.State.{no_calls, reads, writes, operand_reads}
use Rattle.bpf_semantics.specs.declared.Region.{Region}
use Rattle.bpf_semantics.specs.declared.Region.TheVariants.{Stack, Input, Output}
use Rattle.bpf_ranges.specs.declared.kind.Kind.{Kind}
use Rattle.bpf_ranges.specs.declared.kind.Kind.TheVariants.{Unset, Dead, Num, Ptr, Halves}
use Rattle.bpf_semantics.specs.declared.profile.Profile.{Profile}
use Rattle.bpf_semantics.specs.declared.profile.Profile.TheVariants.{First, Second}
use Rattle.bpf_image.specs.Form.{next_of, target_of, GoesTo, IsSuccessor, IsPath, IsFormed}
use Rattle.bpf_copies.specs.Names.{Names}
use Rattle.bpf_verifier.specs.Program.{Program}
use Rattle.bpf_verifier.specs.declared.rule.KindRule.{KindRule}
use Rattle.bpf_verifier.specs.declared.rule.KindRule.TheVariants.{UnsetRead, FrameWritten, PointerOperand, OutsideWindow, InputStored, PointerStored, PointerAnswer, StackRead}
use Rattle.bpf_verifier.specs.Cells.{span_of, part_at}
use Rattle.bpf_verifier.specs.Registers.{Row, cell_count, IsLong, kind_at, one_number, entry, is_unset, is_pointer, is_input_pointer, any_unset, first_offset, end_offset, is_inside}
use Rattle.bpf_helpers.specs.Calls.{Callee}
use Rattle.bpf_verifier.specs.PairSteps.{pairs_at}
use Rattle.bpf_verifier.specs.declared.pair.Pairs.{Pairs}
use Rattle.bpf_verifier.specs.Rules.{callee_in, compares_pointer, is_frame, broken_if, bad_result, class_rules, rules_of, first_of, row_taken}
use Rattle.bpf_verifier.specs.Sums.{sums_at, row_on}
use Rattle.bpf_verifier.specs.Naming.{names_in}
use Rattle.bpf_verifier.specs.Paired.{narrowed}
use Rattle.bpf_verifier.specs.Table.{Edge, next_edge, target_edge, narrowed_edges, join_rows, joined, into, edges_of, arrivals, table, broken_with, IsAccepted}
use Rattle.bpf_verifier.specs.Plain.{IsIn, WrittenOn, SetAtStart, window_of, IsPlainInsn, IsPlain, InWindow, StaysInside, IsWellBehaved}
use Rattle.bpf_verifier.proofs.Fits.{length_join}
use Rattle.bpf_verifier.proofs.Shape.{Leads, NextStarts, next_leads, target_leads}
use Rattle.bpf_verifier.proofs.Classes.{AllNone, or_right}
use Rattle.bpf_verifier.proofs.Soundness.{after_is_long, taken_is_long}
use Rattle.bpf_verifier.proofs.SameReads.{reads_plain}
use Rattle.bpf_verifier.proofs.Tables.{length_rows, table_at}
use Rattle.bpf_verifier.proofs.SumSteps.{told_long}
use Rattle.bpf_verifier.proofs.PairRows.{narrowed_long}
use Rattle.bpf_verifier.proofs.PlainSums.{told_follows, summed_follows}
use Rattle.bpf_verifier.proofs.Summed.{summed_long}
use Rattle.bpf_verifier.proofs.PlainNames.{narrowed_follows}
use Rattle.bpf_verifier.proofs.PlainRows.{plain_number, IsNum, IsNumOrUnset, num_held, left_number, not_number, PlainAt, PlainRow, AllNum, PlainCells, readable, join_cells, GivesNumber, operand_number, register_number, alu_number, swap_result, Follows, after_follows, taken_follows, join_plain, unset_of_one}

-- on some path to slot k the register is not written, and it is not set at the start
abbrev pub Unwritten : List Insn → ℕ → Register → Type 0
Unwritten code k r = (path : List ℕ) × IsPath code (k ∷ path) × (WrittenOn code path r → ⊥) × (SetAtStart r → ⊥)

-- what is known of the row of slot k
pub record IsPlainAt (profile : Profile) (code : List Insn) (k : ℕ) (row : Row) : Type 0 where
  pub long : IsLong profile row
  pub plain : PlainRow row
  pub cells : PlainCells row
  pub unset : (r : Register) → kind_at row r ≡ Unset → Unwritten code k r

abbrev pub PlainIfAny : Profile → List Insn → ℕ → Option Row → Type 0
PlainIfAny profile code k None = Unit {0}
PlainIfAny profile code k (Some row) = IsPlainAt profile code k row

abbrev pub PlainSlot : Profile → List Insn → ℕ → Option (Option Row) → Type 0
PlainSlot profile code k None = Unit {0}
PlainSlot profile code k (Some o) = PlainIfAny profile code k o

-- ---- joins

joined_rows : (profile : Profile) (code : List Insn) (k : ℕ) (a b : Row) → IsPlainAt profile code k a → IsPlainAt profile code k b → IsPlainAt profile code k (join_rows profile a b)
joined_rows profile code k a b ha hb = record {
  long = length_join profile a b (ha.long ∙ sym hb.long) ∙ ha.long;
  plain = join_plain profile a b ha.plain hb.plain;
  cells = join_cells profile a b ha.cells hb.cells;
  unset = λ r u. ⊎_elim (λ e. ha.unset r e) (λ e. hb.unset r e) (unset_of_one profile a b r ha.plain hb.plain u);
}

joined_plain : (profile : Profile) (code : List Insn) (k : ℕ) (o : Option Row) (row : Row) → PlainIfAny profile code k o → IsPlainAt profile code k row → PlainIfAny profile code k (joined profile o row)
joined_plain profile code k None row h g = g
joined_plain profile code k (Some old) row h g = joined_rows profile code k old row h g

abbrev AllPlain : Profile → List Insn → List Edge → Type 0
AllPlain profile code [] = Unit {0}
AllPlain profile code (e ∷ es) = IsPlainAt profile code e.0 e.1 × AllPlain profile code es

into_plain : (profile : Profile) (code : List Insn) (k : ℕ) (es : List Edge) (o : Option Row) → AllPlain profile code es → PlainIfAny profile code k o → PlainIfAny profile code k (into profile k es o)
into_plain profile code k [] o a h = h
into_plain profile code k (e ∷ es) o a h =
    into_plain profile code k es _ a.1
    (cond_both (eqb e.0 k) _ _ (PlainIfAny profile code k) (λ t. joined_plain profile code k o e.1 h (subst (λ n. IsPlainAt profile code n e.1) (eqb-true e.0 k t) a.0)) (λ _. h))

all_append : (profile : Profile) (code : List Insn) (es fs : List Edge) → AllPlain profile code es → AllPlain profile code fs → AllPlain profile code (es ++ fs)
all_append profile code [] fs a b = b
all_append profile code (e ∷ es) fs a b = (a.0, all_append profile code es fs a.1 b)

next_plain : (profile : Profile) (code : List Insn) (o : Option ℕ) (row : Row) → ((k : ℕ) → o ≡ Some k → IsPlainAt profile code k row) → AllPlain profile code (next_edge o row)
next_plain profile code None row h = tt
next_plain profile code (Some k) row h = (h k refl, tt)

target_plain : (profile : Profile) (code : List Insn) (o : Option ℤ) (row : Row) → ((k : ℕ) → o ≡ Some (pos k) → IsPlainAt profile code k row) → AllPlain profile code (target_edge o row)
target_plain profile code None row h = tt
target_plain profile code (Some (pos k)) row h = (h k refl, tt)
target_plain profile code (Some (negsuc k)) row h = tt

-- ---- the entry

entry_plain : (p : Program) → PlainRow (entry p)
entry_plain p R0 = tt
entry_plain p R1 = refl
entry_plain p R2 = plain_number R2 _ refl (left_number _)
entry_plain p R3 = refl
entry_plain p R4 = plain_number R4 _ refl (left_number _)
entry_plain p R5 = tt
entry_plain p R6 = tt
entry_plain p R7 = tt
entry_plain p R8 = tt
entry_plain p R9 = tt
entry_plain p R10 = refl

entry_cells : (p : Program) → PlainCells (entry p)
entry_cells p = zeros (cell_count p.profile)
  where
    zeros : (n : ℕ) → AllNum (replicate n (one_number p.profile 0))
    zeros zero = tt
    zeros (suc n) = (num_held _ (left_number _), zeros n)

entry_unset : (p : Program) (r : Register) → kind_at (entry p) r ≡ Unset → SetAtStart r → ⊥
entry_unset p R0 u s = s
entry_unset p R1 u s = cc
entry_unset p R2 u s = not_number _ (left_number _) u
entry_unset p R3 u s = cc
entry_unset p R4 u s = not_number _ (left_number _) u
entry_unset p R5 u s = s
entry_unset p R6 u s = s
entry_unset p R7 u s = s
entry_unset p R8 u s = s
entry_unset p R9 u s = s
entry_unset p R10 u s = cc

entry_at : (p : Program) (k : ℕ) → k ≡ 0 → IsPlainAt p.profile p.code k (entry p)
entry_at p k e = record {
  long = let l = length-replicate {A = Kind} (cell_count p.profile) (one_number p.profile 0) in omega (arith, l);
  plain = entry_plain p;
  cells = entry_cells p;
  unset = λ r u. ([], e, (λ w. w), entry_unset p r u);
}

same_insn : (o : Option Insn) (x y : Insn) → o ≡ Some x → o ≡ Some y → x ≡ y
same_insn o x y e f = cc

-- an edge carries on what is known
carried : (profile : Profile) (code : List Insn) (i k : ℕ) (x : Insn) (row next : Row) → slice_get code i ≡ Some x → IsPlainAt profile code i row → IsSuccessor code i k → IsLong profile next → Follows row next x → IsPlainAt profile code k next
carried profile code i k x row next at here leads long follows = record {
  long = long;
  plain = follows.plain;
  cells = follows.cells;
  unset = λ r u.
      let before = follows.unset r u in
      let path = here.unset r before.0 in
      (i ∷ path.0, (leads, path.1), ⊎_elim (λ w. before.1 (ap writes (same_insn (slice_get code i) x w.0 at w.1) ∙ w.2)) path.2, path.3);
}

module _ (p : Program) (some : 1 ≤ length p.code) (formed : IsFormed p.code) (starts : NextStarts p.code) (plain : IsPlain p.code) (reads_set : (i : ℕ) (x : Insn) (row : Row) → slice_get p.code i ≡ Some x → slice_get (table p) i ≡ Some (Some row) → IsPlainAt p.profile p.code i row → any_unset row (reads no_calls x) ≡ false) where
  successor : (i k : ℕ) (x : Insn) → slice_get p.code i ≡ Some x → GoesTo i x k → Leads p.code i k → IsSuccessor p.code i k
  successor i k x at goes l = (x, at, goes, l.above, (l.to, l.there, l.starts))

  same_slot : (j k : ℕ) → pos k ≡ pos j → j ≡ k
  same_slot j k e = cc

  edges_plain : (i : ℕ) (names : Names) (pairs : Pairs) (x : Insn) (row : Row) → slice_get p.code i ≡ Some x → slice_get (table p) i ≡ Some (Some row) → IsPlainAt p.profile p.code i row → AllPlain p.profile p.code (narrowed_edges p.profile (callee_in p.sigs x) (sums_at p.code i) pairs names i row x)
  edges_plain i names pairs x row at here is =
      let set = reads_set i x row at here is in
      let on = row_on p.profile (callee_in p.sigs x) (sums_at p.code i) pairs row x in
      let taken = row_taken p.profile row x in
      all_append p.profile p.code _ _
      (next_plain p.profile p.code (next_of i x) (narrowed x p.profile names pairs on) (λ k e. carried p.profile p.code i k x row (narrowed x p.profile names pairs on) at is (successor i k x at (inl e) (next_leads p.code i x k formed starts at e))
      (narrowed_long names x p.profile pairs p.profile on (told_long p.profile x (sums_at p.code i) _ (summed_long p.profile x pairs _ (after_is_long p.profile (callee_in p.sigs x) row x is.long))))
      (narrowed_follows p.profile row on x names pairs (told_follows p.profile row _ x (sums_at p.code i) (summed_follows p.profile row _ x pairs (after_follows p.profile (callee_in p.sigs x) row x is.long is.plain is.cells (plain i x at) set))))))
      (target_plain p.profile p.code (target_of i x) (narrowed x p.profile names pairs taken) (λ k e. let l = target_leads p.code i x (pos k) formed at e in
      carried p.profile p.code i k x row (narrowed x p.profile names pairs taken) at is (successor i k x at (inr e) (subst (Leads p.code i) (same_slot l.0 k l.1) l.2))
      (narrowed_long names x p.profile pairs p.profile taken (taken_is_long p.profile row x is.long))
      (narrowed_follows p.profile row taken x names pairs (taken_follows p.profile row x (pos k) i e is.long is.plain is.cells (plain i x at) set))))

  edges_of_plain : (i : ℕ) (names : Names) (pairs : Pairs) (x : Option Insn) (o : Option (Option Row)) → slice_get p.code i ≡ x → slice_get (table p) i ≡ o → PlainSlot p.profile p.code i o → AllPlain p.profile p.code (edges_of p names pairs i x o)
  edges_of_plain i names pairs None o at here h = tt
  edges_of_plain i names pairs (Some x) None at here h = tt
  edges_of_plain i names pairs (Some x) (Some None) at here h = tt
  edges_of_plain i names pairs (Some x) (Some (Some row)) at here h = edges_plain i names pairs x row at here h

  first_plain : (k : ℕ) → PlainIfAny p.profile p.code k (cond (eqb k 0) (Some (entry p)) None)
  first_plain k = cond_both (eqb k 0) _ _ (PlainIfAny p.profile p.code k) (λ t. entry_at p k (eqb-true k 0 t)) (λ _. tt)

  arrivals_plain : (n k : ℕ) → ((i : ℕ) → i < n → PlainSlot p.profile p.code i (slice_get (table p) i)) → PlainIfAny p.profile p.code k (arrivals p (table p) n k)
  arrivals_plain zero k h = first_plain k
  arrivals_plain (suc n) k h =
      into_plain p.profile p.code k _ _ (edges_of_plain n (names_in p (table p) n) (pairs_at p (table p) n) (slice_get p.code n) (slice_get (table p) n) refl refl (h n (omega arith))) (arrivals_plain n k (λ i lt. h i (omega arith)))

  pub table_plain : (n k : ℕ) → k < n → PlainSlot p.profile p.code k (slice_get (table p) k)
  table_plain zero k h = absurd (omega arith)
  table_plain (suc n) k h =
      ⊎_elim
      (λ lt. subst (PlainSlot p.profile p.code k) (sym (table_at p k lt)) (arrivals_plain k k (λ i l. table_plain n i (omega arith))))
      (λ le. subst (PlainSlot p.profile p.code k) (sym (slice_get_past (table p) k (omega (arith, length_rows p (length p.code))))) tt)
      (cases_lt k (length p.code))

-- ---- no rule is broken

some_unset : (row : Row) (rs : List Register) → any_unset row rs ≡ true → (r : Register) × IsIn r rs × (kind_at row r ≡ Unset)
some_unset row [] h = cc
some_unset row (r ∷ rs) h =
    ⊎_elim
    (λ t. (r, inl refl, unset_kind (kind_at row r) t))
    (λ f. let more = some_unset row rs (or_rest (is_unset (kind_at row r)) (any_unset row rs) f h) in (more.0, inr more.1, more.2))
    (cases_Bool (is_unset (kind_at row r)))
  where
    unset_kind : (k : Kind) → is_unset k ≡ true → k ≡ Unset
    unset_kind Unset t = refl
    unset_kind Dead t = cc
    unset_kind (Num a) t = cc
    unset_kind (Ptr q lo hi) t = cc
    unset_kind (Halves l h) t = cc

    or_rest : (a b : Bool) → a ≡ false → (a || b) ≡ true → b ≡ true
    or_rest true b f h = cc
    or_rest false b f h = h

is_le : (a b : ℤ) → a ≤ℤ b → int_le a b ≡ true
is_le a b h = grind (arith, ints)

inside_true : (p : Program) (q : Region) (offset : ℤ) (size : ℕ) → first_offset q ≤ℤ offset → (offset +ℤ pos size) ≤ℤ end_offset p q → is_inside p (Ptr q (pos 0) (pos 0)) offset size ≡ true
inside_true p q offset size h g =
    and_from (int_le (first_offset q) (pos 0 +ℤ offset)) (int_le (pos 0 +ℤ offset +ℤ pos size) (end_offset p q)) (is_le _ _ (low (first_offset q) offset h)) (is_le _ _ (high offset size (end_offset p q) g))
  where
    low : (a o : ℤ) → a ≤ℤ o → a ≤ℤ (pos 0 +ℤ o)
    low a o h = omega (arith, ints)

    high : (o : ℤ) (n : ℕ) (b : ℤ) → (o +ℤ pos n) ≤ℤ b → (pos 0 +ℤ o +ℤ pos n) ≤ℤ b
    high o n b h = omega (arith, ints)

inside_at : (p : Program) (r : Register) (k : Kind) (offset : ℤ) (size : ℕ) → PlainAt r k → InWindow p r offset size → is_inside p k offset size ≡ true
inside_at p R0 k offset size h w = absurd w
inside_at p R1 k offset size h w = ap (λ y. is_inside p y offset size) h ∙ inside_true p Input offset size w.0 w.1
inside_at p R2 k offset size h w = absurd w
inside_at p R3 k offset size h w = ap (λ y. is_inside p y offset size) h ∙ inside_true p Output offset size w.0 w.1
inside_at p R4 k offset size h w = absurd w
inside_at p R5 k offset size h w = absurd w
inside_at p R6 k offset size h w = absurd w
inside_at p R7 k offset size h w = absurd w
inside_at p R8 k offset size h w = absurd w
inside_at p R9 k offset size h w = absurd w
inside_at p R10 k offset size h w = ap (λ y. is_inside p y offset size) h ∙ inside_true p Stack offset size w.0 w.1

not_input_at : (p : Program) (r : Register) (k : Kind) (offset : ℤ) (size : ℕ) → PlainAt r k → InWindow p r offset size → r ≢ R1 → is_input_pointer k ≡ false
not_input_at p R0 k offset size h w n = absurd w
not_input_at p R1 k offset size h w n = absurd (n refl)
not_input_at p R2 k offset size h w n = absurd w
not_input_at p R3 k offset size h w n = ap is_input_pointer h
not_input_at p R4 k offset size h w n = absurd w
not_input_at p R5 k offset size h w n = absurd w
not_input_at p R6 k offset size h w n = absurd w
not_input_at p R7 k offset size h w n = absurd w
not_input_at p R8 k offset size h w n = absurd w
not_input_at p R9 k offset size h w n = absurd w
not_input_at p R10 k offset size h w n = ap is_input_pointer h

no_pointer : (k : Kind) → IsNum k → is_pointer k ≡ false
no_pointer Unset h = absurd h
no_pointer Dead h = refl
no_pointer (Num a) h = refl
no_pointer (Ptr q lo hi) h = absurd h
no_pointer (Halves l u) h = absurd h

no_compared : (profile : Profile) (j k : Kind) → IsNum j → IsNum k → compares_pointer profile j k ≡ false
no_compared First j k h g = ap₂ (λ s t. s || t) (no_pointer j h) (no_pointer k g)
no_compared Second j k h g = refl

not_told : (b : Bool) (rule : KindRule) → b ≡ false → broken_if b rule ≡ None
not_told b rule e = ap (λ t. broken_if t rule) e

no_bad : (r : _) → GivesNumber r → bad_result r ≡ None
no_bad r h = ap bad_result h.1

not_frame : (d : Register) → window_of d ≡ None → is_frame (Some d) ≡ false
not_frame R0 e = refl
not_frame R1 e = refl
not_frame R2 e = refl
not_frame R3 e = refl
not_frame R4 e = refl
not_frame R5 e = refl
not_frame R6 e = refl
not_frame R7 e = refl
not_frame R8 e = refl
not_frame R9 e = refl
not_frame R10 e = cc

no_frame : (x : Insn) → IsPlainInsn x → is_frame (writes x) ≡ false
no_frame (insn.Alu o w dst src) is = not_frame dst (is.no_address dst (inl refl))
no_frame (insn.Swap kind n dst) is = not_frame dst (is.no_address dst (inl refl))
no_frame (insn.Load size extend dst base offset) is = not_frame dst (is.no_address dst (inl refl))
no_frame (insn.Store size base offset src) is = refl
no_frame (insn.Jump d) is = refl
no_frame (insn.JumpIf c w left right o) is = refl
no_frame (insn.Call h) is = refl
no_frame insn.Exit is = refl
no_frame (insn.Wide dst n) is = not_frame dst (is.no_address dst (inl refl))
no_frame insn.Tail is = refl

not_true : (t : Bool) → t ≡ true → not t ≡ false
not_true t e = ap not e

kind_no_pointer : (k : Kind) → IsNumOrUnset k → is_pointer k ≡ false
kind_no_pointer Unset h = refl
kind_no_pointer Dead h = refl
kind_no_pointer (Num a) h = refl
kind_no_pointer (Ptr q lo hi) h = absurd h
kind_no_pointer (Halves l u) h = absurd h

no_store : (k : Kind) (b : Bool) → IsNum k → (is_pointer k && b) ≡ false
no_store k b h = ap (λ t. t && b) (no_pointer k h)

class_kept : (p : Program) (callee : Callee) (pairs : Pairs) (row : Row) (x : Insn) → IsLong p.profile row → PlainCells row → PlainRow row → IsPlainInsn x → StaysInside p x → any_unset row (reads no_calls x) ≡ false → AllNone (class_rules p callee pairs row x)
class_kept p callee pairs row (insn.Alu o w dst src) long cells plain is inside u = (no_bad _ (alu_number p.profile row plain w dst src is.no_address o u), tt)
class_kept p callee pairs row (insn.Swap kind n dst) long cells plain is inside u = (no_bad _ (swap_result p.profile kind n (kind_at row dst) (register_number row dst [] plain (is.no_address dst (inl refl)) u)), tt)
class_kept p callee pairs row (insn.Load size extend dst base offset) long cells plain is inside u = (not_told _ OutsideWindow (not_true _ (inside_at p base (kind_at row base) offset (size_bytes size) (plain base) inside)), (not_told _ StackRead (not_true _ (readable p.profile row (kind_at row base) offset (size_bytes size) (part_at p.profile (kind_at row base) offset (size_bytes size)) (span_of (kind_at row base) offset (size_bytes size)) long refl cells)), tt))
class_kept p callee pairs row (insn.Store size base offset src) long cells plain is inside u = (
  not_told _ OutsideWindow (not_true _ (inside_at p base (kind_at row base) offset (size_bytes size) (plain base) inside.0)),
  (
    not_told _ InputStored (not_input_at p base (kind_at row base) offset (size_bytes size) (plain base) inside.0 inside.1),
    (not_told _ PointerStored (no_store _ _ (operand_number p.profile row src plain is.no_address (or_right (is_unset (kind_at row base)) (any_unset row (operand_reads src)) u))), tt),
  ),
)
class_kept p callee pairs row (insn.Jump d) long cells plain is inside u = tt
class_kept p callee pairs row (insn.JumpIf c w left right o) long cells plain is inside u = (
  not_told _ PointerOperand
      (no_compared p.profile _ _ (register_number row left (operand_reads right) plain (is.no_address left (inl refl)) u) (operand_number p.profile row right plain (λ r h. is.no_address r (inr h)) (or_right (is_unset (kind_at row left)) (any_unset row (operand_reads right)) u))),
  tt,
)
class_kept p callee pairs row (insn.Call h) long cells plain is inside u = absurd (is.no_call h refl)
class_kept p callee pairs row insn.Exit long cells plain is inside u = (not_told _ PointerAnswer (kind_no_pointer (kind_at row R0) (plain R0)), tt)
class_kept p callee pairs row (insn.Wide dst n) long cells plain is inside u = tt
class_kept p callee pairs row insn.Tail long cells plain is inside u = tt

none_first : {A : Type 0} (xs : List (Option A)) → AllNone xs → first_of xs ≡ None
none_first [] h = refl
none_first (None ∷ xs) h = none_first xs h.1
none_first (Some x ∷ xs) h = cc

-- ---- the theorem

module _ (p : Program) (some : 1 ≤ length p.code) (starts : NextStarts p.code) (plain : IsPlain p.code) (good : IsWellBehaved p) where
  reads_are_set : (i : ℕ) (x : Insn) (row : Row) → slice_get p.code i ≡ Some x → slice_get (table p) i ≡ Some (Some row) → IsPlainAt p.profile p.code i row → any_unset row (reads no_calls x) ≡ false
  reads_are_set i x row at here is =
      ⊎_elim
      (λ t. let r = some_unset row (reads no_calls x) t in
      let path = is.unset r.0 r.2 in
      absurd (⊎_elim path.2 path.3 (good.set i path.0 path.1 x at r.0 r.1)))
      (λ f. f)
      (cases_Bool (any_unset row (reads no_calls x)))

  kept_here : (k : ℕ) (x : Option Insn) (o : Option (Option Row)) → slice_get p.code k ≡ x → slice_get (table p) k ≡ o → PlainSlot p.profile p.code k o → broken_with p (pairs_at p (table p) k) x o ≡ None
  kept_here k None o at here h = refl
  kept_here k (Some x) None at here h = refl
  kept_here k (Some x) (Some None) at here h = refl
  kept_here k (Some x) (Some (Some row)) at here h =
      let u = reads_are_set k x row at here h in
      none_first (rules_of p (pairs_at p (table p) k) row x) (not_told _ UnsetRead (ap (any_unset row) (reads_plain (callee_in p.sigs x) x (plain k x at).no_call) ∙ u), (not_told _ FrameWritten (no_frame x (plain k x at)), class_kept p (callee_in p.sigs x) (pairs_at p (table p) k) row x h.long h.cells h.plain (plain k x at) (good.inside k x at) u))

  pub well_behaved_accepted : IsAccepted p
  well_behaved_accepted = record {
    formed = good.formed;
    unbroken = λ k. kept_here k (slice_get p.code k) (slice_get (table p) k) refl refl (table_plain p some good.formed starts plain reads_are_set (suc k) k (omega arith));
  }
