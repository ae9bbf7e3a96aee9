-- A formed program of which no slot breaks a rule is safe.
use Rattle.std.proofs.Common.{◌≡◌, ◌≢◌, ℕ, zero, suc, ℤ, pos, negsuc, ◌*◌, ◌<◌, ◌≤◌, true, false, eqb, List, [], ◌∷◌, ◌++◌, length, take, drop, Option, Some, None, refl, sym, ap, ◌∙◌, subst, inl, inr, ⊎_elim, arith, length-set, length-drop}
use Rattle.std.specs.Prelude.{slice_get, slice_index_or, replicate}
use Rattle.std.proofs.lemmas.List.{length-replicate}
use Rattle.std.proofs.lemmas.Int.{ints}
use Rattle.std.proofs.lemmas.Bool.{cond_both, cases_lt, cases_eq}
use Rattle.std.proofs.lemmas.Option.{slice_get_within, slice_get_past, same_Some}
use Rattle.bpf_alu.specs.Value.{wrapped}
use Rattle.bpf_insn.specs.Encoding.{number, size_bytes, IsInstruction}
use Rattle.bpf_insn.specs.declared.Size.{Size}
use Rattle.bpf_insn.specs.declared.Extend.{Extend}
use Rattle.bpf_insn.specs.declared.Extend.TheVariants.{Zero, Sign}
use Rattle.bpf_insn.specs.declared.Operand.{Operand}
use Rattle.bpf_insn.specs.declared.Operand.TheVariants as operand
use Rattle.bpf_insn.specs.declared.Insn.{Insn}
use Rattle.bpf_insn.specs.declared.Insn.TheVariants as insn
use Rattle.std.proofs.lemmas.Nat.{pow_pos}
use Rattle.bpf_semantics.specs.State.{State, number_in, Row as Row_of}
use Rattle.bpf_semantics.specs.Step.{Step, Faults, Runs, IsInput, start, instruction_at, starting, instruction_count}
use Rattle.bpf_semantics.specs.declared.Fault.{Fault}
use Rattle.bpf_semantics.specs.declared.profile.Profile.{Profile}
use Rattle.bpf_semantics.specs.declared.profile.Profile.TheVariants.{Second}
use Rattle.bpf_ranges.specs.declared.kind.Kind.{Kind}
use Rattle.bpf_ranges.specs.declared.kind.Kind.TheVariants.{Unset}
use Rattle.bpf_ranges.specs.Kinds.{IsKind}
use Rattle.bpf_ranges.specs.Numbers.{range, single, up_to, full}
use Rattle.bpf_ranges.specs.Transfer.{transfer_of, swap_of}
use Rattle.bpf_ranges.specs.Laws.{IsSoundTable}
use Rattle.bpf_image.specs.Form.{next_of, target_of}
use Rattle.bpf_helpers.specs.Calls.{Callee, Copy, Fill, Same, Helper, Unknown, calls_of}
use Rattle.bpf_copies.specs.Names.{Names}
use Rattle.bpf_copies.specs.declared.bounds.Bounds.{Bounds}
use Rattle.bpf_copies.proofs.NamedRuns.{Stand, IsWithin, new_stand, names_hold}
use Rattle.bpf_verifier.specs.Program.{Program, HasLimits, IsSafeProgram}
use Rattle.bpf_verifier.specs.Registers.{Row, cell_count, IsLong, kind_at, kind_from, one_number, entry}
use Rattle.bpf_verifier.specs.Cells.{span_of, part_at, row_written}
use Rattle.bpf_verifier.specs.Answered.{answer_kind}
use Rattle.bpf_verifier.specs.PairSteps.{pairs_at}
use Rattle.bpf_verifier.proofs.Together.{HoldPairs}
use Rattle.bpf_verifier.proofs.PairRuns.{pairs_held}
use Rattle.bpf_verifier.specs.Rules.{callee_in, loaded, row_after, row_taken, rules_of}
use Rattle.bpf_verifier.specs.Sums.{least, most, sums_at, row_on}
use Rattle.bpf_verifier.specs.Naming.{bounds_of, bounds_at, names_in}
use Rattle.bpf_verifier.specs.Paired.{narrowed}
use Rattle.bpf_verifier.specs.Table.{Edge, next_edge, target_edge, narrowed_edges, edges_of, arrivals, table, broken_with, IsAccepted, AreKinds}
use Rattle.bpf_verifier.proofs.Words.{wrapped_below, size_fits, bytes_zero}
use Rattle.bpf_verifier.proofs.RowSteps.{kinds_set, kinds_drop}
use Rattle.bpf_verifier.proofs.StackCells.{values, has_eleven, stored_long, written_long, stored_kinds, written_kinds, read_kinds, zero_cells, zero_bytes}
use Rattle.bpf_verifier.proofs.Fits.{FitsRow, IsRow, IsRowIfAny, AreRows, FitsSome, SomeEdge, into_is_row, into_old, into_new}
use Rattle.bpf_verifier.proofs.Refined.{refined_is_long, refined_kinds}
use Rattle.bpf_verifier.proofs.SumSteps.{AllHold, told_long, told_kinds, least_of, most_of, at_register}
use Rattle.bpf_verifier.specs.declared.pair.Pairs.{Pairs}
use Rattle.bpf_verifier.proofs.SumRuns.{none_hold, held_at}
use Rattle.bpf_verifier.proofs.Summed.{summed_long, summed_kinds}
use Rattle.bpf_verifier.proofs.Shape.{IsPaired, Leads, AllLead, paired_starts, edges_lead, target_leads}
use Rattle.bpf_verifier.proofs.Places.{IsMemory}
use Rattle.bpf_verifier.proofs.Classes.{AllNone, none_each, result_is_kind, at_number, no_fault, lands}
use Rattle.bpf_verifier.proofs.PairRows.{narrowed_long, narrowed_kinds}
use Rattle.bpf_verifier.proofs.NarrowedEdges.{narrowed_lands}
use Rattle.bpf_verifier.proofs.Counting.{starts_there, counted, counted_all}
use Rattle.bpf_verifier.proofs.Tables.{length_rows, table_at}

-- ---- rows of the table

pub after_is_long : (profile : Profile) (callee : Callee) (row : Row) (x : Insn) → IsLong profile row → IsLong profile (row_after profile callee row x)
after_is_long profile callee row (insn.Alu o w d src) h = length-set _ _ _ ∙ h
after_is_long profile callee row (insn.Swap k n d) h = length-set _ _ _ ∙ h
after_is_long profile callee row (insn.Load size x d r o) h = length-set _ _ _ ∙ h
after_is_long profile callee row (insn.Store size r o src) h = stored_long profile (part_at profile (kind_at row r) o (size_bytes size)) (span_of (kind_at row r) o (size_bytes size)) (kind_from profile row src) row ∙ h
after_is_long profile callee row (insn.Jump d) h = h
after_is_long profile callee row (insn.JumpIf c w l r o) h = refined_is_long profile c w l r false row h
after_is_long profile callee row (insn.Call n) h = let e = length-drop 6 (row_written profile callee row) in let w = written_long profile callee row in omega (arith, h, e, w)
after_is_long profile callee row insn.Exit h = h
after_is_long profile callee row (insn.Wide d n) h = length-set _ _ _ ∙ h
after_is_long profile callee row insn.Tail h = h

pub taken_is_long : (profile : Profile) (row : Row) (x : Insn) → IsLong profile row → IsLong profile (row_taken profile row x)
taken_is_long profile row (insn.Alu o w d src) h = h
taken_is_long profile row (insn.Swap k n d) h = h
taken_is_long profile row (insn.Load size x d r o) h = h
taken_is_long profile row (insn.Store size r o src) h = h
taken_is_long profile row (insn.Jump d) h = h
taken_is_long profile row (insn.JumpIf c w l r o) h = refined_is_long profile c w l r true row h
taken_is_long profile row (insn.Call n) h = h
taken_is_long profile row insn.Exit h = h
taken_is_long profile row (insn.Wide d n) h = h
taken_is_long profile row insn.Tail h = h

module _ (profile : Profile) (sound : IsSoundTable profile) where
  from_kind : (row : Row) (src : Operand) → AreKinds row → IsKind (kind_from profile row src)
  from_kind row (operand.Register r) h = h (number r)
  from_kind row (operand.Immediate n) h = sound.range_kind (single (wrapped 64 n)) (omega arith) (wrapped_below 64 n)

  loaded_kind : (size : Size) (extend : Extend) → IsKind (loaded profile size extend)
  loaded_kind size Zero = let fits = size_fits size in let some = pow_pos (8 * size_bytes size) in sound.range_kind (full (8 * size_bytes size)) (omega arith) (omega arith)
  loaded_kind size Sign = sound.range_kind (full 64) (omega arith) (omega arith)

  answer_is_kind : (callee : Callee) → IsKind (answer_kind profile callee)
  answer_is_kind Copy = sound.range_kind (single 0) (omega arith) (omega arith)
  answer_is_kind Fill = sound.range_kind (single 0) (omega arith) (omega arith)
  answer_is_kind Same = sound.range_kind (range 0 1) (omega arith) (omega arith)
  answer_is_kind (Helper sig) = sound.range_kind (range sig.lo sig.hi) sig.ordered sig.word
  answer_is_kind Unknown = tt

  call_kinds : (k : Kind) (row : Row) → IsKind k → AreKinds row → AreKinds (k ∷ Unset ∷ Unset ∷ Unset ∷ Unset ∷ Unset ∷ drop 6 row)
  call_kinds k row hk h zero = hk
  call_kinds k row hk h (suc zero) = tt
  call_kinds k row hk h (suc (suc zero)) = tt
  call_kinds k row hk h (suc (suc (suc zero))) = tt
  call_kinds k row hk h (suc (suc (suc (suc zero)))) = tt
  call_kinds k row hk h (suc (suc (suc (suc (suc zero))))) = tt
  call_kinds k row hk h (suc (suc (suc (suc (suc (suc r)))))) = kinds_drop 6 row h r

  after_kinds : (callee : Callee) (row : Row) (x : Insn) → (x ≢ insn.Tail → IsInstruction x) → AreKinds row → AreKinds (row_after profile callee row x)
  after_kinds callee row (insn.Alu o w d src) is h =
      kinds_set row (number d) _ h (result_is_kind (transfer_of profile o w (kind_at row d) (kind_from profile row src)) (sound.operation_kind o w (kind_at row d) (kind_from profile row src) (h (number d)) (from_kind row src h)))
  after_kinds callee row (insn.Swap k n d) is h = kinds_set row (number d) _ h (result_is_kind (swap_of profile k n (kind_at row d)) (sound.swap_kind k n (kind_at row d)))
  after_kinds callee row (insn.Load size x d r o) is h = kinds_set row (number d) _ h (read_kinds profile sound x (part_at profile (kind_at row r) o (size_bytes size)) (loaded profile size x) row h (loaded_kind size x))
  after_kinds callee row (insn.Store size r o src) is h = stored_kinds profile sound (part_at profile (kind_at row r) o (size_bytes size)) (span_of (kind_at row r) o (size_bytes size)) (kind_from profile row src) row h (from_kind row src h)
  after_kinds callee row (insn.Jump d) is h = h
  after_kinds callee row (insn.JumpIf c w l r o) is h = refined_kinds profile sound c w l r false row h
  after_kinds callee row (insn.Call n) is h = call_kinds (answer_kind profile callee) (row_written profile callee row) (answer_is_kind callee) (written_kinds profile callee row h)
  after_kinds callee row insn.Exit is h = h
  after_kinds callee row (insn.Wide d n) is h = kinds_set row (number d) _ h (sound.range_kind (single n) (omega arith) (is (λ e. cc)))
  after_kinds callee row insn.Tail is h = h

  taken_kinds : (row : Row) (x : Insn) → AreKinds row → AreKinds (row_taken profile row x)
  taken_kinds row (insn.Alu o w d src) h = h
  taken_kinds row (insn.Swap k n d) h = h
  taken_kinds row (insn.Load size x d r o) h = h
  taken_kinds row (insn.Store size r o src) h = h
  taken_kinds row (insn.Jump d) h = h
  taken_kinds row (insn.JumpIf c w l r o) h = refined_kinds profile sound c w l r true row h
  taken_kinds row (insn.Call n) h = h
  taken_kinds row insn.Exit h = h
  taken_kinds row (insn.Wide d n) h = h
  taken_kinds row insn.Tail h = h

rows_append : (profile : Profile) (es fs : List Edge) → AreRows profile es → AreRows profile fs → AreRows profile (es ++ fs)
rows_append profile [] fs a b = b
rows_append profile (e ∷ es) fs a b = (a.0, rows_append profile es fs a.1 b)

next_rows : (profile : Profile) (o : Option ℕ) (row : Row) → IsRow profile row → AreRows profile (next_edge o row)
next_rows profile None row h = tt
next_rows profile (Some k) row h = (h, tt)

target_rows : (profile : Profile) (o : Option ℤ) (row : Row) → IsRow profile row → AreRows profile (target_edge o row)
target_rows profile None row h = tt
target_rows profile (Some (pos k)) row h = (h, tt)
target_rows profile (Some (negsuc k)) row h = tt

abbrev IsRowAt : Profile → Option (Option Row) → Type 0
IsRowAt profile None = Unit {0}
IsRowAt profile (Some o) = IsRowIfAny profile o

module _ (sound : (profile : Profile) → IsSoundTable profile) (p : Program) (limits : HasLimits p) (paired : IsPaired p.code) where
  pub on_row : (pairs : Pairs) (i : ℕ) (row : Row) (x : Insn) → (x ≢ insn.Tail → IsInstruction x) → IsRow p.profile row → IsRow p.profile (row_on p.profile (callee_in p.sigs x) (sums_at p.code i) pairs row x)
  on_row pairs i row x is h =
      let after = row_after p.profile (callee_in p.sigs x) row x in
      record {
        long = told_long p.profile x (sums_at p.code i) _ (summed_long p.profile x pairs after (after_is_long p.profile (callee_in p.sigs x) row x h.long));
        kinds = told_kinds (sound Second) p.profile x (sums_at p.code i) _ (summed_kinds (sound Second) p.profile x pairs after (after_kinds p.profile (sound p.profile) (callee_in p.sigs x) row x is h.kinds));
      }

  pub taken_row : (row : Row) (x : Insn) → IsRow p.profile row → IsRow p.profile (row_taken p.profile row x)
  taken_row row x h = record { long = taken_is_long p.profile row x h.long; kinds = taken_kinds p.profile (sound p.profile) row x h.kinds }

  narrowed_row : (names : Names) (pairs : Pairs) (x : Insn) (row : Row) → IsRow p.profile row → IsRow p.profile (narrowed x p.profile names pairs row)
  narrowed_row names pairs x row h = record { long = narrowed_long names x p.profile pairs p.profile row h.long; kinds = narrowed_kinds (sound Second) names x p.profile pairs row h.kinds }

  edge_rows : (i : ℕ) (names : Names) (pairs : Pairs) (row : Row) (x : Insn) → (x ≢ insn.Tail → IsInstruction x) → IsRow p.profile row → AreRows p.profile (narrowed_edges p.profile (callee_in p.sigs x) (sums_at p.code i) pairs names i row x)
  edge_rows i names pairs row x is h =
      rows_append p.profile _ _
      (next_rows p.profile (next_of i x) (narrowed x p.profile names pairs (row_on p.profile (callee_in p.sigs x) (sums_at p.code i) pairs row x)) (narrowed_row names pairs x _ (on_row pairs i row x is h)))
      (target_rows p.profile (target_of i x) (narrowed x p.profile names pairs (row_taken p.profile row x)) (narrowed_row names pairs x _ (taken_row row x h)))

  edges_are_rows : (i : ℕ) (names : Names) (pairs : Pairs) (x : Option Insn) (row : Option (Option Row)) → slice_get p.code i ≡ x → IsRowAt p.profile row → AreRows p.profile (edges_of p names pairs i x row)
  edges_are_rows i names pairs None row at h = tt
  edges_are_rows i names pairs (Some x) None at h = tt
  edges_are_rows i names pairs (Some x) (Some None) at h = tt
  edges_are_rows i names pairs (Some x) (Some (Some row)) at h = edge_rows i names pairs row x (paired.instructions i x at) h

  entry_is_row : IsRow p.profile (entry p)
  entry_is_row = record { long = let e = length-replicate {A = Kind} (cell_count p.profile) (one_number p.profile 0) in omega (arith, e); kinds = from }
    where
      from : AreKinds (entry p)
      from zero = tt
      from (suc zero) = (omega (arith, ints), omega (arith, ints), omega (arith, ints))
      from (suc (suc zero)) = (sound p.profile).range_kind (up_to p.in_len) (omega arith) (omega (arith, limits.input))
      from (suc (suc (suc zero))) = (omega (arith, ints), omega (arith, ints), omega (arith, ints))
      from (suc (suc (suc (suc zero)))) = (sound p.profile).range_kind (single p.out_len) (omega arith) (omega (arith, limits.output))
      from (suc (suc (suc (suc (suc zero))))) = tt
      from (suc (suc (suc (suc (suc (suc zero)))))) = tt
      from (suc (suc (suc (suc (suc (suc (suc zero))))))) = tt
      from (suc (suc (suc (suc (suc (suc (suc (suc zero)))))))) = tt
      from (suc (suc (suc (suc (suc (suc (suc (suc (suc zero))))))))) = tt
      from (suc (suc (suc (suc (suc (suc (suc (suc (suc (suc zero)))))))))) = (omega (arith, ints), omega (arith, ints), omega (arith, ints))
      from (suc (suc (suc (suc (suc (suc (suc (suc (suc (suc (suc r))))))))))) = cells (cell_count p.profile) r
        where
          cells : (n r : ℕ) → IsKind (slice_index_or (replicate n (one_number p.profile 0)) r Unset)
          cells zero r = tt
          cells (suc n) zero = (sound p.profile).range_kind (single 0) (omega arith) (omega arith)
          cells (suc n) (suc r) = cells n r

  arrival_rows : (rows : List (Option Row)) (n k : ℕ) → ((i : ℕ) → i < n → IsRowAt p.profile (slice_get rows i)) → IsRowIfAny p.profile (arrivals p rows n k)
  arrival_rows rows zero k h = cond_both (eqb k 0) _ _ (IsRowIfAny p.profile) (λ _. entry_is_row) (λ _. tt)
  arrival_rows rows (suc n) k h =
      into_is_row p.profile (sound p.profile) k _ _ (edges_are_rows n (names_in p rows n) (pairs_at p rows n) (slice_get p.code n) (slice_get rows n) refl (h n (omega arith))) (arrival_rows rows n k (λ i lt. h i (omega arith)))

  table_rows : (n k : ℕ) → k < n → IsRowAt p.profile (slice_get (table p) k)
  table_rows zero k h = absurd (omega arith)
  table_rows (suc n) k h =
      ⊎_elim
      (λ lt. subst (IsRowAt p.profile) (sym (table_at p k lt)) (arrival_rows (table p) k k (λ i l. table_rows n i (omega arith))))
      (λ le. subst (IsRowAt p.profile) (sym (slice_get_past (table p) k (omega (arith, length_rows p (length p.code))))) tt)
      (cases_lt k (length p.code))

  pub row_kinds : (k : ℕ) (row : Row) → slice_get (table p) k ≡ Some (Some row) → AreKinds row
  row_kinds k row e = let h : IsRowAt p.profile (Some (Some row)) = subst (IsRowAt p.profile) e (table_rows (suc k) k (omega arith)) in h.kinds

  pub row_long : (k : ℕ) (row : Row) → slice_get (table p) k ≡ Some (Some row) → IsLong p.profile row
  row_long k row e = let h : IsRowAt p.profile (Some (Some row)) = subst (IsRowAt p.profile) e (table_rows (suc k) k (omega arith)) in h.long

  -- ---- an edge is joined into its slot's row

  arrives : (i n k : ℕ) (x : Insn) (row : Row) (vs : List (Option ℕ)) → i < n → slice_get p.code i ≡ Some x → slice_get (table p) i ≡ Some (Some row) → SomeEdge (pos k) vs (narrowed_edges p.profile (callee_in p.sigs x) (sums_at p.code i) (pairs_at p (table p) i) (names_in p (table p) i) i row x) → FitsSome (arrivals p (table p) n k) vs
  arrives i zero k x row vs lt at here e = absurd (omega arith)
  arrives i (suc n) k x row vs lt at here e =
      let all : (m : ℕ) → IsRowAt p.profile (slice_get (table p) m) = λ m. table_rows (suc m) m (omega arith) in
      let edges = edges_are_rows n (names_in p (table p) n) (pairs_at p (table p) n) (slice_get p.code n) (slice_get (table p) n) refl (all n) in
      let before = arrival_rows (table p) n k (λ m _. all m) in
      ⊎_elim
      (λ same. let at' = ap (slice_get p.code) (sym same) ∙ at in
      let here' = ap (slice_get (table p)) (sym same) ∙ here in
      into_new p.profile (sound p.profile) k _ _ vs edges before
      (subst (λ o. SomeEdge (pos k) vs (edges_of p (names_in p (table p) n) (pairs_at p (table p) n) n o (slice_get (table p) n))) (sym at') (subst (λ o. SomeEdge (pos k) vs (edges_of p (names_in p (table p) n) (pairs_at p (table p) n) n (Some x) o)) (sym here') (subst (λ j. SomeEdge (pos k) vs (narrowed_edges p.profile (callee_in p.sigs x) (sums_at p.code j) (pairs_at p (table p) j) (names_in p (table p) j) j row x)) same e))))
      (λ other. into_old p.profile (sound p.profile) k _ _ vs edges before (arrives i n k x row vs (omega arith) at here e))
      (cases_eq i n)

-- ---- one state

-- what is known of a state that a run reaches
pub record Stands (p : Program) (n : ℕ) (s : State) : Type 0 where
  pub at : ℕ
  pub slot : s.slot ≡ pos at
  pub here : Insn
  pub found : slice_get p.code at ≡ Some here
  pub starts : here ≢ insn.Tail
  pub row : Row
  pub kinds : slice_get (table p) at ≡ Some (Some row)
  pub fits : FitsRow row (values p.profile s)
  pub holds : AllHold (sums_at p.code at) s
  pub together : HoldPairs (pairs_at p (table p) at) s
  pub names : Stand at (names_in p (table p) at) s
  pub memory : IsMemory p s.memory
  pub steps : n ≤ instruction_count (take at p.code)

lead_any : (p : Program) (i : ℕ) (es : List Edge) (z : ℤ) (vs : List (Option ℕ)) → AllLead p.code i es → SomeEdge z vs es → (k : ℕ) × (z ≡ pos k) × Leads p.code i k
lead_any p i [] z vs a e = absurd e
lead_any p i (x ∷ es) z vs a (inl e) = (x.0, sym e.0, a.0)
lead_any p i (x ∷ es) z vs a (inr e) = lead_any p i es z vs a.1 e

-- a row that admits the registers, where there is one
stand_at : (p : Program) (k : ℕ) (o : Option Row) (vs : List (Option ℕ)) → slice_get (table p) k ≡ Some o → FitsSome o vs → (row : Row) × (slice_get (table p) k ≡ Some (Some row)) × FitsRow row vs
stand_at p k None vs e f = absurd f
stand_at p k (Some row) vs e f = (row, e, f)

found_first : (code : List Insn) → 1 ≤ length code → (x : Insn) × (slice_get code 0 ≡ Some x)
found_first [] h = absurd (omega arith)
found_first (x ∷ code) h = (x, refl)

module _ (sound : (profile : Profile) → IsSoundTable profile) (p : Program) (limits : HasLimits p) (paired : IsPaired p.code) (some : 1 ≤ length p.code) (accepted : IsAccepted p) where
  pub rules_kept : (n : ℕ) (s : State) (g : Stands p n s) → AllNone (rules_of p (pairs_at p (table p) g.at) g.row g.here)
  rules_kept n s g =
      none_each (rules_of p (pairs_at p (table p) g.at) g.row g.here) (subst (λ o. broken_with p (pairs_at p (table p) g.at) (Some g.here) o ≡ None) g.kinds (subst (λ o. broken_with p (pairs_at p (table p) g.at) o (slice_get (table p) g.at) ≡ None) g.found (accepted.unbroken g.at)))

  there : (n : ℕ) (s : State) (g : Stands p n s) → instruction_at p.code s.slot ≡ Some g.here
  there n s g = ap (instruction_at p.code) g.slot ∙ ap starting g.found ∙ starts_there g.here g.starts

  faultless : (n : ℕ) (s : State) → Stands p n s → (f : Fault) → ¬ Faults (calls_of p.sigs) p.code s f
  faultless n s g f (inl e) = none_there (instruction_at p.code s.slot) g.here e.0 (there n s g)
    where
      none_there : (o : Option Insn) (x : Insn) → o ≡ None → o ≡ Some x → ⊥
      none_there o x e h = cc
  faultless n s g f (inr e) =
      let same : e.0 ≡ g.here = same_Some _ _ (sym e.1 ∙ there n s g) in
      no_fault sound p g.at g.row s limits (row_kinds sound p limits paired g.at g.row g.kinds) (row_long sound p limits paired g.at g.row g.kinds) g.fits g.slot g.memory (sums_at p.code g.at) g.holds (pairs_at p (table p) g.at) g.together e.0 (subst (λ x. AllNone (rules_of p (pairs_at p (table p) g.at) g.row x)) (sym same) (rules_kept n s g)) f e.2.stands

  goes_on : (n : ℕ) (s : State) (g : Stands p n s) (t : State) → SomeEdge t.slot (values p.profile t) (narrowed_edges p.profile (callee_in p.sigs g.here) (sums_at p.code g.at) (pairs_at p (table p) g.at) (names_in p (table p) g.at) g.at g.row g.here) → IsMemory p t.memory → ((k : ℕ) → g.at < k → t.slot ≡ pos k → AllHold (sums_at p.code k) t) → ((k : ℕ) → g.at < k → t.slot ≡ pos k → HoldPairs (pairs_at p (table p) k) t) → ((k : ℕ) → g.at < k → t.slot ≡ pos k → Stand k (names_in p (table p) k) t) → Stands p (suc n) t
  goes_on n s g t e m held paired_up stand =
      let to = lead_any p g.at (narrowed_edges p.profile (callee_in p.sigs g.here) (sums_at p.code g.at) (pairs_at p (table p) g.at) (names_in p (table p) g.at) g.at g.row g.here) t.slot (values p.profile t) (edges_lead p.profile (callee_in p.sigs g.here) (sums_at p.code g.at) (pairs_at p (table p) g.at) (names_in p (table p) g.at) p.code g.at g.here g.row accepted.formed (paired_starts p.code paired) g.found) e in
      let k = to.0 in
      let l = to.2 in
      let within = slice_get_within p.code k l.to l.there in
      let arrived = arrives sound p limits paired g.at k k g.here g.row (values p.profile t) l.above g.found g.kinds (subst (λ z. SomeEdge z (values p.profile t) (narrowed_edges p.profile (callee_in p.sigs g.here) (sums_at p.code g.at) (pairs_at p (table p) g.at) (names_in p (table p) g.at) g.at g.row g.here)) to.1 e) in
      let next = stand_at p k (arrivals p (table p) k k) (values p.profile t) (table_at p k within) arrived in
      record {
        at = k;
        slot = to.1;
        here = l.to;
        found = l.there;
        starts = l.starts;
        row = next.0;
        kinds = next.1;
        fits = next.2;
        holds = held k l.above to.1;
        together = paired_up k l.above to.1;
        names = stand k l.above to.1;
        memory = m;
        steps = omega (arith, counted p.code g.at k g.here g.found g.starts l.above, g.steps);
      }

  -- the number in a register that is an operand is within what its kind allows
  bounds_hold : (n : ℕ) (s : State) (g : Stands p n s) → IsWithin g.here (bounds_at p (table p) g.at) s
  bounds_hold n s g o w dst src e =
      let kinds = row_kinds sound p limits paired g.at g.row g.kinds in
      let x = at_register (sound Second) p.profile s g.row (row_long sound p limits paired g.at g.row g.kinds) kinds g.fits src in
      let is : bounds_at p (table p) g.at ≡ record { least = least (kind_at g.row src); most = most (kind_at g.row src) } =
      ap (λ y. bounds_of y (slice_get (table p) g.at)) g.found ∙ ap (bounds_of (Some g.here)) g.kinds ∙ ap (λ y. bounds_of (Some y) (Some (Some g.row))) e in
      subst (λ (b : Bounds). (b.least ≤ number_in s src) × (number_in s src ≤ b.most)) (sym is)
      (least_of (kind_at g.row src) (number_in s src) (kinds (number src)) x.0, most_of (kind_at g.row src) (number_in s src) (kinds (number src)) x.1 x.0)

  one_step : (n : ℕ) (s t : State) → Stands p n s → Step (calls_of p.sigs) p.code s t → Stands p (suc n) t
  one_step n s t g d =
      let same : d.0 ≡ g.here = same_Some _ _ (sym d.1 ∙ there n s g) in
      let row = subst (λ x. Row_of (calls_of p.sigs) x s t) same d.2.row in
      let long = row_long sound p limits paired g.at g.row g.kinds in
      let number_word = at_number sound p g.at g.row s limits (row_kinds sound p limits paired g.at g.row g.kinds) long g.fits g.slot g.memory (sums_at p.code g.at) g.holds (pairs_at p (table p) g.at) g.together in
      let to : (z : ℤ) → target_of g.at g.here ≡ Some z → (k : ℕ) × (z ≡ pos k) = λ z e. let l = target_leads p.code g.at g.here z accepted.formed g.found e in (l.0, l.1) in
      let l = lands sound p g.at g.row s limits (row_kinds sound p limits paired g.at g.row g.kinds) (row_long sound p limits paired g.at g.row g.kinds) g.fits g.slot g.memory (sums_at p.code g.at) g.holds (pairs_at p (table p) g.at) g.together g.here t (paired.instructions g.at g.here g.found g.starts) to (rules_kept n s g) row in
      let is_row : IsRow p.profile g.row = record { long = long; kinds = row_kinds sound p limits paired g.at g.row g.kinds } in
      goes_on n s g t
      (narrowed_lands (sound Second) p.profile (calls_of p.sigs) (callee_in p.sigs g.here) (sums_at p.code g.at) (pairs_at p (table p) g.at) (names_in p (table p) g.at) g.at g.row s t g.names.named g.together g.here row
      (on_row sound p limits paired (pairs_at p (table p) g.at) g.at g.row g.here (paired.instructions g.at g.here g.found) is_row) (taken_row sound p limits paired g.row g.here is_row) l.0)
      l.1
      (λ k above slot. held_at (calls_of p.sigs) p.code s g.at g.slot (has_eleven p.profile g.row s long g.fits) (λ r. (number_word r).1) g.holds (λ dst n. paired.after_wide g.at n dst) k g.here t above g.found slot row)
      (λ k above slot. pairs_held sound p (table p) s g.at g.slot (has_eleven p.profile g.row s long g.fits) (λ r. (number_word r).1) g.row g.kinds long (row_kinds sound p limits paired g.at g.row g.kinds) g.fits g.together g.holds (λ dst n. paired.after_wide g.at n dst) k g.here t above g.found slot l.0 row)
      (λ k above slot. names_hold (calls_of p.sigs) p.code (bounds_at p (table p)) s g.at g.slot (has_eleven p.profile g.row s long g.fits) (λ r. (number_word r).1) g.names (λ dst n. paired.after_wide g.at n dst) k g.here t above g.found slot (bounds_hold n s g) row)

  -- the state before the first slot
  stands_first : (input : List ℕ) (used : ℕ) → IsInput p.in_len input used → Stands p 0 (start input used p.out_len)
  stands_first input used h =
      let first = found_first p.code some in
      let fit = limits.input in
      let fit' = limits.output in
      record {
        at = 0;
        slot = refl;
        here = first.0;
        found = first.1;
        starts = λ tail. paired.no_tail_first (first.1 ∙ ap Some tail);
        row = entry p;
        kinds = table_at p 0 some;
        fits = (tt, tt, ((omega (arith, ints), omega (arith, ints)), omega arith, ((sound p.profile).range (up_to p.in_len) used (omega arith) (omega arith, h.within), omega (arith, h.within), ((omega (arith, ints), omega (arith, ints)), omega arith, ((sound p.profile).range (single p.out_len) p.out_len (omega arith) (omega arith, omega arith), omega arith, (tt, tt, (tt, tt, (tt, tt, (tt, tt, (tt, tt, ((omega (arith, ints), omega (arith, ints)), omega arith, zero_cells (cell_count p.profile) (one_number p.profile 0) (replicate 512 0) ((sound p.profile).range (single 0) 0 (omega arith) (omega arith, omega arith)) (zero_bytes 512))))))))))));
        holds = none_hold (start input used p.out_len);
        together = record { first = tt; second = tt; third = tt; fourth = tt };
        names = new_stand 0 _;
        memory = record { stack_length = length-replicate {A = ℕ} 512 0; input_length = h.whole; output_length = length-replicate {A = ℕ} p.out_len 0; stack_bytes = bytes_zero 512; input_bytes = h.bytes; output_bytes = bytes_zero p.out_len };
        steps = omega arith;
      }

  pub all_stand : (input : List ℕ) (used : ℕ) → IsInput p.in_len input used → (n : ℕ) (t : State) → Runs (calls_of p.sigs) p.code n (start input used p.out_len) t → Stands p n t
  all_stand input used h zero t e = subst (Stands p 0) e (stands_first input used h)
  all_stand input used h (suc n) t (u, before, last) = one_step n u t (all_stand input used h n u before) last

  pub safe : IsSafeProgram p
  safe input used n t h runs =
      let g = all_stand input used h n t runs in
      (faultless n t g, omega (arith, counted_all p.code g.at g.here g.found g.starts, g.steps))
