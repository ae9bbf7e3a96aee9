-- Accepted plain programs read what was written on every path, and stay in their windows.
use Rattle.std.proofs.Common.{◌≡◌, ◌≢◌, ℕ, zero, suc, ℤ, pos, ◌<◌, ◌≤◌, Bool, true, false, cond, eqb, List, [], ◌∷◌, ◌++◌, length, get_or, set, Option, Some, None, refl, sym, ap, ◌∙◌, subst, inl, inr, ⊎_elim, arith}
use Rattle.std.specs.Prelude.{◌⊎◌, ◌≤ℤ◌, ◌+ℤ◌, int_le, slice_get}
use Rattle.std.proofs.lemmas.Int.{ints}
use Rattle.std.proofs.lemmas.Bool.{cond_both, cases_eq, eq-eqb, and_parts}
use Rattle.std.proofs.lemmas.Option.{slice_get_within, same_Some}
use Rattle.bpf_alu.specs.declared.Cond.{Cond}
use Rattle.bpf_alu.specs.declared.Width.{Width}
use Rattle.bpf_insn.specs.Encoding.{number, size_bytes}
use Rattle.bpf_insn.specs.declared.Register.{Register}
use Rattle.bpf_insn.specs.declared.Register.TheVariants.{R0, R1, R2, R3, R4, R5, R6, R7, R8, R9, R10}
use Rattle.bpf_insn.specs.declared.Operand.{Operand}
use Rattle.bpf_insn.specs.declared.Operand.TheVariants as operand
use Rattle.bpf_insn.specs.declared.Insn.{Insn}
use Rattle.bpf_insn.specs.declared.Insn.TheVariants as insn
use Rattle.bpf_semantics.specs.State.{no_calls, reads, writes, operand_reads}
use Rattle.bpf_semantics.specs.declared.Region.{Region}
use Rattle.bpf_semantics.specs.declared.Region.TheVariants.{Stack, Input, Output}
use Rattle.bpf_ranges.specs.declared.kind.Kind.{Kind}
use Rattle.bpf_ranges.specs.declared.kind.Kind.TheVariants.{Unset, Dead, Num, Ptr, Halves}
use Rattle.bpf_semantics.specs.declared.profile.Profile.{Profile}
use Rattle.bpf_ranges.specs.Transfer.{join_of}
use Rattle.bpf_image.specs.declared.form.FormRule.TheVariants.{Unreachable}
use Rattle.bpf_image.specs.Form.{next_of, GoesTo, IsPath}
use Rattle.bpf_copies.specs.Names.{Names}
use Rattle.bpf_verifier.specs.Program.{Program}
use Rattle.bpf_verifier.specs.declared.rule.KindRule.TheVariants.{UnsetRead, OutsideWindow, InputStored}
use Rattle.bpf_verifier.specs.Cells.{span_of, part_at}
use Rattle.bpf_verifier.specs.Registers.{Row, kind_at, kind_from, with_kind, entry, is_unset, is_input_pointer, any_unset, first_offset, end_offset, is_inside}
use Rattle.bpf_helpers.specs.Calls.{Callee}
use Rattle.bpf_verifier.specs.PairSteps.{pairs_at}
use Rattle.bpf_verifier.specs.declared.pair.Pairs.{Pairs}
use Rattle.bpf_verifier.specs.Rules.{callee_in, rules_of, class_rules, refined, row_after, row_taken}
use Rattle.bpf_verifier.specs.Sums.{KnownSums, sums_at, row_on}
use Rattle.bpf_verifier.specs.Naming.{names_in}
use Rattle.bpf_verifier.specs.Paired.{narrowed}
use Rattle.bpf_verifier.specs.Table.{Edge, next_edge, target_edge, narrowed_edges, join_rows, joined, into, edges_of, arrivals, table, broken_with, IsAccepted}
use Rattle.bpf_verifier.specs.Plain.{IsIn, WrittenOn, SetAtStart, SetOnPaths, IsPlain, InWindow, StaysInside, IsWellBehaved}
use Rattle.bpf_verifier.proofs.Shape.{keeps, NextStarts}
use Rattle.bpf_verifier.proofs.StackCells.{stored_register}
use Rattle.bpf_verifier.proofs.Classes.{AllNone, none_each, untold, untold_not, or_left, or_right}
use Rattle.bpf_verifier.proofs.SameReads.{reads_less}
use Rattle.bpf_verifier.proofs.Tables.{table_at}
use Rattle.bpf_verifier.proofs.PlainSums.{told_unset, summed_unset}
use Rattle.bpf_verifier.proofs.PlainNames.{narrowed_unset}
use Rattle.bpf_verifier.proofs.PlainRows.{IsNumOrUnset, PlainAt, PlainRow, same_register, at_join, join_unset, unset_join}
use Rattle.bpf_verifier.proofs.PlainPrograms.{IsPlainAt, PlainSlot, table_plain}

-- ---- what an edge brings stays through joins

-- some row, of which this holds
abbrev Holds : (Row → Type 0) → Option Row → Type 0
Holds P None = ⊥
Holds P (Some row) = P row

abbrev SomeEdge : (Row → Type 0) → ℕ → List Edge → Type 0
SomeEdge P k [] = ⊥
SomeEdge P k (e ∷ es) = ((e.0 ≡ k) × P e.1) ⊎ SomeEdge P k es

module _ (p : Program) (P : Row → Type 0) (left : (a b : Row) → P a → P (join_rows p.profile a b)) (right : (a b : Row) → P b → P (join_rows p.profile a b)) where
  joined_old : (o : Option Row) (row : Row) → Holds P o → Holds P (joined p.profile o row)
  joined_old None row h = absurd h
  joined_old (Some old) row h = left old row h

  joined_new : (o : Option Row) (row : Row) → P row → Holds P (joined p.profile o row)
  joined_new None row h = h
  joined_new (Some old) row h = right old row h

  into_old : (k : ℕ) (es : List Edge) (o : Option Row) → Holds P o → Holds P (into p.profile k es o)
  into_old k [] o h = h
  into_old k (e ∷ es) o h = into_old k es _ (cond_both (eqb e.0 k) _ _ (Holds P) (λ _. joined_old o e.1 h) (λ _. h))

  into_new : (k : ℕ) (es : List Edge) (o : Option Row) → SomeEdge P k es → Holds P (into p.profile k es o)
  into_new k [] o s = absurd s
  into_new k (e ∷ es) o (inr s) = into_new k es _ s
  into_new k (e ∷ es) o (inl s) =
      into_old k es _ (subst (λ b. Holds P (cond b (joined p.profile o e.1) o)) (sym (eq-eqb e.0 k s.0)) (joined_new o e.1 s.1))

  arrives : (i n k : ℕ) (x : Insn) (row : Row) → i < n → slice_get p.code i ≡ Some x → slice_get (table p) i ≡ Some (Some row) → SomeEdge P k (narrowed_edges p.profile (callee_in p.sigs x) (sums_at p.code i) (pairs_at p (table p) i) (names_in p (table p) i) i row x) → Holds P (arrivals p (table p) n k)
  arrives i zero k x row lt at here e = absurd (omega arith)
  arrives i (suc n) k x row lt at here e =
      ⊎_elim
      (λ same. let at' = ap (slice_get p.code) (sym same) ∙ at in
      let here' = ap (slice_get (table p)) (sym same) ∙ here in
      into_new k (edges_of p (names_in p (table p) n) (pairs_at p (table p) n) n (slice_get p.code n) (slice_get (table p) n)) (arrivals p (table p) n k)
      (subst (λ o. SomeEdge P k (edges_of p (names_in p (table p) n) (pairs_at p (table p) n) n o (slice_get (table p) n))) (sym at') (subst (λ o. SomeEdge P k (edges_of p (names_in p (table p) n) (pairs_at p (table p) n) n (Some x) o)) (sym here') (subst (λ j. SomeEdge P k (narrowed_edges p.profile (callee_in p.sigs x) (sums_at p.code j) (pairs_at p (table p) j) (names_in p (table p) j) j row x)) same e))))
      (λ other. into_old k (edges_of p (names_in p (table p) n) (pairs_at p (table p) n) n (slice_get p.code n) (slice_get (table p) n)) (arrivals p (table p) n k) (arrives i n k x row (omega arith) at here e))
      (cases_eq i n)

some_left : (P : Row → Type 0) (k : ℕ) (es fs : List Edge) → SomeEdge P k es → SomeEdge P k (es ++ fs)
some_left P k [] fs h = absurd h
some_left P k (e ∷ es) fs (inl h) = inl h
some_left P k (e ∷ es) fs (inr h) = inr (some_left P k es fs h)

some_right : (P : Row → Type 0) (k : ℕ) (es fs : List Edge) → SomeEdge P k fs → SomeEdge P k (es ++ fs)
some_right P k [] fs h = h
some_right P k (e ∷ es) fs h = inr (some_right P k es fs h)

-- the edge by which an instruction goes to a slot
edge_to : (profile : Profile) (callee : Callee) (sums : KnownSums) (pairs : Pairs) (names : Names) (P : Row → Type 0) (i k : ℕ) (row : Row) (x : Insn) → GoesTo i x k → P (narrowed x profile names pairs (row_on profile callee sums pairs row x)) → P (narrowed x profile names pairs (row_taken profile row x)) → SomeEdge P k (narrowed_edges profile callee sums pairs names i row x)
edge_to profile callee sums pairs names P i k row x (inl e) a t =
    let next = narrowed x profile names pairs (row_on profile callee sums pairs row x) in
    some_left P k (next_edge (next_of i x) next) _ (subst (λ o. SomeEdge P k (next_edge o next)) (sym e) (inl (refl, a)))
edge_to profile callee sums pairs names P i k row x (inr e) a t =
    some_right P k (next_edge (next_of i x) (narrowed x profile names pairs (row_on profile callee sums pairs row x))) _ (subst (λ o. SomeEdge P k (target_edge o (narrowed x profile names pairs (row_taken profile row x)))) (sym e) (inl (refl, t)))

some_row : (o : Option Row) (P : Row → Type 0) → Holds P o → (row : Row) × (o ≡ Some row) × P row
some_row None P h = absurd h
some_row (Some row) P h = (row, refl, h)

-- ---- what is unset, and not written, stays unset

unset_left : (profile : Profile) (r : Register) (a b : Row) → kind_at a r ≡ Unset → kind_at (join_rows profile a b) r ≡ Unset
unset_left profile r a b h = at_join profile a b (number r) ∙ ap (λ k. join_of profile k (kind_at b r)) h ∙ unset_join profile (kind_at b r)

unset_right : (profile : Profile) (r : Register) (a b : Row) → kind_at b r ≡ Unset → kind_at (join_rows profile a b) r ≡ Unset
unset_right profile r a b h = at_join profile a b (number r) ∙ ap (join_of profile (kind_at a r)) h ∙ join_unset profile (kind_at a r)

set_aside : (row : Row) (i j : ℕ) (k : Kind) → j ≢ i → get_or (set row i k) j Unset ≡ get_or row j Unset
set_aside [] i j k ne = refl
set_aside (x ∷ row) zero zero k ne = absurd (ne refl)
set_aside (x ∷ row) zero (suc j) k ne = refl
set_aside (x ∷ row) (suc i) zero k ne = refl
set_aside (x ∷ row) (suc i) (suc j) k ne = set_aside row i j k (λ e. ne (ap suc e))

still_unset : (row : Row) (d r : Register) (k : Kind) → number r ≢ number d → kind_at row r ≡ Unset → kind_at (with_kind row d k) r ≡ Unset
still_unset row d r k ne u = set_aside row (number d) (number r) k ne ∙ u

written_or_unset : (row : Row) (x : Insn) (d r : Register) (k : Kind) → writes x ≡ Some d → kind_at row r ≡ Unset → (writes x ≡ Some r) ⊎ (kind_at (with_kind row d k) r ≡ Unset)
written_or_unset row x d r k w u =
    ⊎_elim (λ same. inl (w ∙ ap Some (sym (same_register r d same)))) (λ other. inr (still_unset row d r k other u)) (cases_eq (number r) (number d))

-- a register of which the rule on reads holds is not unset
read_set : (row : Row) (rs : List Register) (r : Register) → any_unset row rs ≡ false → IsIn r rs → kind_at row r ≡ Unset → ⊥
read_set row [] r h i u = i
read_set row (q ∷ rs) r h (inl e) u = let t : is_unset (kind_at row q) ≡ true = ap (λ y. is_unset (kind_at row y)) (sym e) ∙ ap is_unset u in let f = or_left (is_unset (kind_at row q)) (any_unset row rs) h in both_ways (is_unset (kind_at row q)) t f
  where
    both_ways : (b : Bool) → b ≡ true → b ≡ false → ⊥
    both_ways b t f = cc
read_set row (q ∷ rs) r h (inr i) u = read_set row rs r (or_right (is_unset (kind_at row q)) (any_unset row rs) h) i u

other_register : (row : Row) (rs : List Register) (q r : Register) → any_unset row rs ≡ false → IsIn q rs → kind_at row r ≡ Unset → number r ≢ number q
other_register row rs q r h i u e = read_set row rs q h i (ap (kind_at row) (sym (same_register r q e)) ∙ u)

refined_unset : (profile : Profile) (row : Row) (c : Cond) (w : Width) (left : Register) (right : Operand) (t : Bool) (r : Register) → any_unset row (left ∷ operand_reads right) ≡ false → kind_at row r ≡ Unset → kind_at (refined profile c w left right t row) r ≡ Unset
refined_unset profile row c w left (operand.Register right) t r h u =
    cond_both (eqb (number left) (number right)) _ _ (λ q. kind_at q r ≡ Unset) (λ _. u)
    (λ _. still_unset _ right r _ (other_register row (left ∷ right ∷ []) right r h (inr (inl refl)) u) (still_unset row left r _ (other_register row (left ∷ right ∷ []) left r h (inl refl) u) u))
refined_unset profile row c w left (operand.Immediate n) t r h u = still_unset row left r _ (other_register row (left ∷ []) left r h (inl refl) u) u

after_unset : (profile : Profile) (callee : Callee) (row : Row) (x : Insn) (r : Register) → ((n : ℕ) → x ≢ insn.Call n) → any_unset row (reads no_calls x) ≡ false → kind_at row r ≡ Unset → (writes x ≡ Some r) ⊎ (kind_at (row_after profile callee row x) r ≡ Unset)
after_unset profile callee row (insn.Alu o w dst src) r other h u = written_or_unset row (insn.Alu o w dst src) dst r _ refl u
after_unset profile callee row (insn.Swap kind n dst) r other h u = written_or_unset row (insn.Swap kind n dst) dst r _ refl u
after_unset profile callee row (insn.Load size extend dst base offset) r other h u = written_or_unset row (insn.Load size extend dst base offset) dst r _ refl u
after_unset profile callee row (insn.Store size base offset src) r other h u =
    inr (stored_register profile (part_at profile (kind_at row base) offset (size_bytes size)) (span_of (kind_at row base) offset (size_bytes size)) (kind_from profile row src) row r ∙ u)
after_unset profile callee row (insn.Jump d) r other h u = inr u
after_unset profile callee row (insn.JumpIf c w left right o) r other h u = inr (refined_unset profile row c w left right false r h u)
after_unset profile callee row (insn.Call n) r other h u = absurd (other n refl)
after_unset profile callee row insn.Exit r other h u = inr u
after_unset profile callee row (insn.Wide dst n) r other h u = written_or_unset row (insn.Wide dst n) dst r _ refl u
after_unset profile callee row insn.Tail r other h u = inr u

taken_unset : (profile : Profile) (row : Row) (x : Insn) (r : Register) → any_unset row (reads no_calls x) ≡ false → kind_at row r ≡ Unset → kind_at (row_taken profile row x) r ≡ Unset
taken_unset profile row (insn.Alu o w dst src) r h u = u
taken_unset profile row (insn.Swap kind n dst) r h u = u
taken_unset profile row (insn.Load size extend dst base offset) r h u = u
taken_unset profile row (insn.Store size base offset src) r h u = u
taken_unset profile row (insn.Jump d) r h u = u
taken_unset profile row (insn.JumpIf c w left right o) r h u = refined_unset profile row c w left right true r h u
taken_unset profile row (insn.Call n) r h u = u
taken_unset profile row insn.Exit r h u = u
taken_unset profile row (insn.Wide dst n) r h u = u
taken_unset profile row insn.Tail r h u = u

start_or_unset : (p : Program) (r : Register) → SetAtStart r ⊎ (kind_at (entry p) r ≡ Unset)
start_or_unset p R0 = inr refl
start_or_unset p R1 = inl tt
start_or_unset p R2 = inl tt
start_or_unset p R3 = inl tt
start_or_unset p R4 = inl tt
start_or_unset p R5 = inr refl
start_or_unset p R6 = inr refl
start_or_unset p R7 = inr refl
start_or_unset p R8 = inr refl
start_or_unset p R9 = inr refl
start_or_unset p R10 = inl tt

abbrev Something : Row → Type 0
Something row = Unit {0}

same_rows : (o : Option (Option Row)) (a b : Option Row) → o ≡ Some a → o ≡ Some b → a ≡ b
same_rows o a b e f = cc

module _ (p : Program) (some : 1 ≤ length p.code) (accepted : IsAccepted p) where
  rules_at : (i : ℕ) (x : Insn) (row : Row) → slice_get p.code i ≡ Some x → slice_get (table p) i ≡ Some (Some row) → AllNone (rules_of p (pairs_at p (table p) i) row x)
  rules_at i x row at here =
      none_each (rules_of p (pairs_at p (table p) i) row x) (subst (λ o. broken_with p (pairs_at p (table p) i) (Some x) o ≡ None) here (subst (λ o. broken_with p (pairs_at p (table p) i) o (slice_get (table p) i) ≡ None) at (accepted.unbroken i)))

  reads_set : (i : ℕ) (x : Insn) (row : Row) → slice_get p.code i ≡ Some x → slice_get (table p) i ≡ Some (Some row) → any_unset row (reads no_calls x) ≡ false
  reads_set i x row at here = reads_less (callee_in p.sigs x) row x (untold _ UnsetRead (rules_at i x row at here).0)

  within : (i : ℕ) (x : Insn) → slice_get p.code i ≡ Some x → i < length p.code
  within i x at = slice_get_within p.code i x at

  -- a path leads to a slot with a row
  reached : (j : ℕ) (path : List ℕ) → IsPath p.code (j ∷ path) → (row : Row) × (slice_get (table p) j ≡ Some (Some row))
  reached j [] h = (entry p, subst (λ k. slice_get (table p) k ≡ Some (Some (entry p))) (sym h) (table_at p 0 some))
  reached j (i ∷ path) h =
      let before = reached i path h.1 in
      let s = h.0 in
      let edge = edge_to p.profile (callee_in p.sigs s.0) (sums_at p.code i) (pairs_at p (table p) i) (names_in p (table p) i) Something i j before.0 s.0 s.2 tt tt in
      let row = some_row (arrivals p (table p) j j) Something (arrives p Something (λ a b t. tt) (λ a b t. tt) i j j s.0 before.0 s.3 s.1 before.1 edge) in
      (row.0, table_at p j (within j s.4.0 s.4.1) ∙ ap Some row.1)

  -- and a register that is not written on it is unset there, unless it is set at the start
  walked : IsPlain p.code → (r : Register) (j : ℕ) (path : List ℕ) → IsPath p.code (j ∷ path) → (row : Row) → slice_get (table p) j ≡ Some (Some row) → (WrittenOn p.code path r ⊎ SetAtStart r) ⊎ (kind_at row r ≡ Unset)
  walked plain r j [] h row here =
      let is = same_rows (slice_get (table p) j) (Some row) (Some (entry p)) here (subst (λ k. slice_get (table p) k ≡ Some (Some (entry p))) (sym h) (table_at p 0 some)) in
      ⊎_elim (λ s. inl (inr s)) (λ u. inr (ap (λ q. kind_at q r) (same_Some _ _ is) ∙ u)) (start_or_unset p r)
  walked plain r j (i ∷ path) h row here =
      let s = h.0 in
      let before = reached i path h.1 in
      let set = reads_set i s.0 before.0 s.1 before.1 in
      let P : Row → Type 0 = λ q. kind_at q r ≡ Unset in
      ⊎_elim
      (λ done. inl (⊎_elim (λ w. inl (inr w)) (λ t. inr t) done))
      (λ u. ⊎_elim
      (λ w. inl (inl (inl (s.0, s.1, w))))
      (λ a. let edge = edge_to p.profile (callee_in p.sigs s.0) (sums_at p.code i) (pairs_at p (table p) i) (names_in p (table p) i) P i j before.0 s.0 s.2 (narrowed_unset p.profile s.0 (names_in p (table p) i) (pairs_at p (table p) i) _ r (told_unset p.profile s.0 (sums_at p.code i) _ r (summed_unset p.profile s.0 (pairs_at p (table p) i) _ r a))) (narrowed_unset p.profile s.0 (names_in p (table p) i) (pairs_at p (table p) i) _ r (taken_unset p.profile before.0 s.0 r set u)) in
      let here' = some_row (arrivals p (table p) j j) P (arrives p P (unset_left p.profile r) (unset_right p.profile r) i j j s.0 before.0 s.3 s.1 before.1 edge) in
      let is = same_rows (slice_get (table p) j) (Some row) (Some here'.0) here (table_at p j (within j s.4.0 s.4.1) ∙ ap Some here'.1) in
      inr (ap (λ q. kind_at q r) (same_Some _ _ is) ∙ here'.2))
      (after_unset p.profile (callee_in p.sigs s.0) before.0 s.0 r (plain i s.0 s.1).no_call set u))
      (walked plain r i path h.1 before.0 before.1)

  -- accepted plain programs read what was written on every path
  pub set_on_paths : IsPlain p.code → SetOnPaths p.code
  set_on_paths plain j path h x at r i =
      let row = reached j path h in
      ⊎_elim (λ done. done) (λ u. absurd (read_set row.0 (reads no_calls x) r (reads_set j x row.0 at row.1) i u)) (walked plain r j path h row.0 row.1)

  -- each instruction has a row
  row_of : (k : ℕ) (x : Insn) → slice_get p.code k ≡ Some x → x ≢ insn.Tail → (row : Row) × (slice_get (table p) k ≡ Some (Some row))
  row_of k x at starts = from (slice_get (table p) k) refl
    where
      none_there : (o : Option (Option Row)) (row : Row) → o ≡ None → o ≡ Some (Some row) → ⊥
      none_there o row e f = cc

      empty_there : (o : Option (Option Row)) (row : Row) → o ≡ Some None → o ≡ Some (Some row) → ⊥
      empty_there o row e f = cc

      from : (o : Option (Option Row)) → slice_get (table p) k ≡ o → (row : Row) × (slice_get (table p) k ≡ Some (Some row))
      from None e = absurd (keeps p.code k x Unreachable accepted.formed at (starts, λ path h. let row = reached k path h in none_there (slice_get (table p) k) row.0 e row.1))
      from (Some None) e = absurd (keeps p.code k x Unreachable accepted.formed at (starts, λ path h. let row = reached k path h in empty_there (slice_get (table p) k) row.0 e row.1))
      from (Some (Some row)) e = (row, e)

-- ---- windows

int_le_true : (a b : ℤ) → int_le a b ≡ true → a ≤ℤ b
int_le_true a b t = grind (arith, ints)

window_from : (p : Program) (q : Region) (k : Kind) (offset : ℤ) (size : ℕ) → k ≡ Ptr q (pos 0) (pos 0) → is_inside p k offset size ≡ true → (first_offset q ≤ℤ offset) × ((offset +ℤ pos size) ≤ℤ end_offset p q)
window_from p q k offset size e t =
    let t' : is_inside p (Ptr q (pos 0) (pos 0)) offset size ≡ true = ap (λ y. is_inside p y offset size) (sym e) ∙ t in
    let parts = and_parts (int_le (first_offset q) (pos 0 +ℤ offset)) (int_le (pos 0 +ℤ offset +ℤ pos size) (end_offset p q)) t' in
    (low (first_offset q) offset (int_le_true _ _ parts.0), high offset size (end_offset p q) (int_le_true _ _ parts.1))
  where
    low : (a o : ℤ) → a ≤ℤ (pos 0 +ℤ o) → a ≤ℤ o
    low a o h = omega (arith, ints)

    high : (o : ℤ) (n : ℕ) (b : ℤ) → (pos 0 +ℤ o +ℤ pos n) ≤ℤ b → (o +ℤ pos n) ≤ℤ b
    high o n b h = omega (arith, ints)

no_window : (p : Program) (k : Kind) (offset : ℤ) (size : ℕ) → IsNumOrUnset k → is_inside p k offset size ≡ true → ⊥
no_window p Unset offset size h t = cc
no_window p Dead offset size h t = cc
no_window p (Num a) offset size h t = cc
no_window p (Ptr q lo hi) offset size h t = h
no_window p (Halves l u) offset size h t = h

window_at : (p : Program) (r : Register) (k : Kind) (offset : ℤ) (size : ℕ) → PlainAt r k → is_inside p k offset size ≡ true → InWindow p r offset size
window_at p R0 k offset size h t = no_window p k offset size h t
window_at p R1 k offset size h t = window_from p Input k offset size h t
window_at p R2 k offset size h t = no_window p k offset size h t
window_at p R3 k offset size h t = window_from p Output k offset size h t
window_at p R4 k offset size h t = no_window p k offset size h t
window_at p R5 k offset size h t = no_window p k offset size h t
window_at p R6 k offset size h t = no_window p k offset size h t
window_at p R7 k offset size h t = no_window p k offset size h t
window_at p R8 k offset size h t = no_window p k offset size h t
window_at p R9 k offset size h t = no_window p k offset size h t
window_at p R10 k offset size h t = window_from p Stack k offset size h t

input_pointer : (k : Kind) → k ≡ Ptr Input (pos 0) (pos 0) → is_input_pointer k ≡ false → ⊥
input_pointer k e f = let t : is_input_pointer k ≡ true = ap is_input_pointer e in both_ways (is_input_pointer k) t f
  where
    both_ways : (b : Bool) → b ≡ true → b ≡ false → ⊥
    both_ways b t f = cc

stays : (p : Program) (callee : Callee) (pairs : Pairs) (row : Row) (x : Insn) → PlainRow row → AllNone (class_rules p callee pairs row x) → StaysInside p x
stays p callee pairs row (insn.Alu o w dst src) plain h = tt
stays p callee pairs row (insn.Swap kind n dst) plain h = tt
stays p callee pairs row (insn.Load size extend dst base offset) plain h = window_at p base (kind_at row base) offset (size_bytes size) (plain base) (untold_not _ OutsideWindow h.0)
stays p callee pairs row (insn.Store size base offset src) plain h =
    (window_at p base (kind_at row base) offset (size_bytes size) (plain base) (untold_not _ OutsideWindow h.0), λ e. input_pointer (kind_at row base) (subst (λ r. PlainAt r (kind_at row base)) e (plain base)) (untold _ InputStored h.1.0))
stays p callee pairs row (insn.Jump d) plain h = tt
stays p callee pairs row (insn.JumpIf c w left right o) plain h = tt
stays p callee pairs row (insn.Call n) plain h = tt
stays p callee pairs row insn.Exit plain h = tt
stays p callee pairs row (insn.Wide dst n) plain h = tt
stays p callee pairs row insn.Tail plain h = tt

module _ (p : Program) (some : 1 ≤ length p.code) (starts : NextStarts p.code) (plain : IsPlain p.code) (accepted : IsAccepted p) where
  inside_of : (k : ℕ) (x : Insn) → slice_get p.code k ≡ Some x → x ≢ insn.Tail → StaysInside p x
  inside_of k x at begins =
      let row = row_of p some accepted k x at begins in
      let known = table_plain p some accepted.formed starts plain (λ i y q at' here is. reads_set p some accepted i y q at' here) (suc k) k (omega arith) in
      let is : IsPlainAt p.profile p.code k row.0 = subst (PlainSlot p.profile p.code k) row.1 known in
      stays p (callee_in p.sigs x) (pairs_at p (table p) k) row.0 x is.plain (rules_at p some accepted k x row.0 at row.1).1.1

  inside_each : (k : ℕ) (x : Insn) → slice_get p.code k ≡ Some x → StaysInside p x
  inside_each k (insn.Alu o w dst src) at = tt
  inside_each k (insn.Swap kind n dst) at = tt
  inside_each k (insn.Load size extend dst base offset) at = inside_of k (insn.Load size extend dst base offset) at (λ e. cc)
  inside_each k (insn.Store size base offset src) at = inside_of k (insn.Store size base offset src) at (λ e. cc)
  inside_each k (insn.Jump d) at = tt
  inside_each k (insn.JumpIf c w left right o) at = tt
  inside_each k (insn.Call n) at = tt
  inside_each k insn.Exit at = tt
  inside_each k (insn.Wide dst n) at = tt
  inside_each k insn.Tail at = tt

  pub accepted_well_behaved : IsWellBehaved p
  accepted_well_behaved = record { formed = accepted.formed; set = set_on_paths p some accepted plain; inside = inside_each }
