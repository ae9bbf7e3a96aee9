-- Calls: what is given to one that breaks no rule fits, and what it answers is admitted.
use Rattle.std.proofs.Common.{◌≡◌, ◌≢◌, ℕ, zero, suc, pos, ◌+◌, ◌-◌, ◌%◌, ◌^◌, ◌<◌, ◌≤◌, true, false, cond, not, leb, List, [], ◌∷◌, ◌++◌, length, drop, replicate, Option, Some, None, refl, sym, ap, ◌∙◌, subst, inl, inr, ⊎_elim, arith, length-take, length-drop}
use Rattle.std.specs.Prelude.{◌⊎◌, ◌+ℤ◌, int_le, map, slice_get}
use Rattle.std.proofs.Math.Nat.{mod-lt}
use Rattle.std.proofs.lemmas.Int.{ints}
use Rattle.std.proofs.lemmas.Bool.{cases_eq, cases_Bool, and_parts, not-true, leb-true}
use Rattle.std.proofs.lemmas.List.{length-replicate, drop-append-le}
use Rattle.bpf_alu.specs.Value.{wrapped}
use Rattle.bpf_insn.specs.declared.Register.{Register}
use Rattle.bpf_insn.specs.declared.Register.TheVariants.{R1, R2, R3, R4, R5}
use Rattle.bpf_semantics.specs.Windows.{Memory, Covers, base, window, written}
use Rattle.bpf_semantics.specs.State.{State, number_in}
use Rattle.bpf_semantics.specs.Step.{AreBytes}
use Rattle.bpf_semantics.specs.declared.Region.{Region}
use Rattle.bpf_semantics.specs.declared.Region.TheVariants.{Stack, Input, Output}
use Rattle.bpf_ranges.specs.declared.kind.Kind.{Kind}
use Rattle.bpf_ranges.specs.declared.kind.Kind.TheVariants.{Unset, Dead, Num, Ptr, Halves}
use Rattle.bpf_semantics.specs.declared.profile.Profile.{Profile}
use Rattle.bpf_ranges.specs.Kinds.{Admits}
use Rattle.bpf_ranges.specs.Numbers.{range, single}
use Rattle.bpf_ranges.specs.Laws.{IsSoundTable}
use Rattle.bpf_helpers.specs.declared.sig.ArgRule.{ArgRule}
use Rattle.bpf_helpers.specs.declared.sig.ArgRule.TheVariants as rule
use Rattle.bpf_helpers.specs.declared.sig.Sig.{Sig}
use Rattle.bpf_helpers.specs.Rules.{reads_of}
use Rattle.bpf_helpers.specs.Answers.{Given, FitsRules, FitsReads, Fits}
use Rattle.bpf_helpers.specs.Calls.{argument_registers, Spans, bytes_at, Copies, Fills, Compares, HasAnswer, numbers_of, places_of, HoldsAll, Gives, Callee, Copy, Fill, Same, Helper, Unknown, fits_with, answers_with}
use Rattle.bpf_verifier.specs.Program.{Program, HasLimits}
use Rattle.bpf_verifier.specs.Registers.{Row, cell_count, IsLong, kind_at, is_inside, is_input_pointer}
use Rattle.bpf_verifier.specs.Pairs.{most_together, argument_ends}
use Rattle.bpf_verifier.specs.CallKinds.{number_up_to, ends_inside, has_bytes, reaches, first_end, later_ends, is_number, is_within, are_arguments, argument_kinds, is_read, is_written, is_given}
use Rattle.bpf_verifier.specs.Cells.{span_of, row_touched, bytes_named, span_given, row_written}
use Rattle.bpf_verifier.specs.Answered.{answer_kind, row_after_call}
use Rattle.bpf_verifier.specs.Lowered.{pieces_of, LiesIn, HasPieces, read_kinds, piece_kinds, region_of, region_at}
use Rattle.bpf_lowering.specs.Lows.{first_of, second_of}
use Rattle.bpf_lowering.specs.declared.pieces.Pieces.{Pieces}
use Rattle.bpf_verifier.proofs.Words.{wrapped_small, bytes_take, bytes_drop, bytes_replicate}
use Rattle.bpf_verifier.proofs.Fits.{FitsRow}
use Rattle.bpf_verifier.proofs.StackCells.{words, values_of, values, has_eleven}
use Rattle.bpf_verifier.proofs.CellSteps.{touched_fits}
use Rattle.bpf_verifier.specs.declared.pair.Pairs.{Pairs}
use Rattle.bpf_verifier.proofs.Together.{HoldPairs, IsEnd, Ended, or_cases, together, arguments_ended}
use Rattle.bpf_verifier.proofs.Places.{int_le_true, IsMemory, place_in, covers_less, not_input, window_bytes, written_kept}

-- ---- kinds and numbers

-- the kinds of a list admit the numbers of another, which may have more of them
abbrev pub Fitting : List Kind → List ℕ → Type 0
Fitting [] ns = Unit {0}
Fitting (k ∷ ks) [] = ⊥
Fitting (k ∷ ks) (n ∷ ns) = Admits k (Some n) × (n < 2 ^ 64) × Fitting ks ns

abbrev pub FitsAt : Row → State → Register → Type 0
FitsAt row s r = Admits (kind_at row r) (Some (number_in s r)) × (number_in s r < 2 ^ 64)

arguments_fit : (row : Row) (s : State) → ((r : Register) → FitsAt row s r) → Fitting (argument_kinds row) (map (number_in s) argument_registers)
arguments_fit [] s at = tt
arguments_fit (k ∷ []) s at = tt
arguments_fit (k ∷ a ∷ []) s at = ((at R1).0, (at R1).1, tt)
arguments_fit (k ∷ a ∷ b ∷ []) s at = ((at R1).0, (at R1).1, ((at R2).0, (at R2).1, tt))
arguments_fit (k ∷ a ∷ b ∷ c ∷ []) s at = ((at R1).0, (at R1).1, ((at R2).0, (at R2).1, ((at R3).0, (at R3).1, tt)))
arguments_fit (k ∷ a ∷ b ∷ c ∷ d ∷ []) s at = ((at R1).0, (at R1).1, ((at R2).0, (at R2).1, ((at R3).0, (at R3).1, ((at R4).0, (at R4).1, tt))))
arguments_fit (k ∷ a ∷ b ∷ c ∷ d ∷ e ∷ row) s at =
    ((at R1).0, (at R1).1, ((at R2).0, (at R2).1, ((at R3).0, (at R3).1, ((at R4).0, (at R4).1, ((at R5).0, (at R5).1, tt)))))

in_range : (lo hi : ℕ) (k : Kind) (n : ℕ) → Admits k (Some n) → is_within lo hi k ≡ true → (lo ≤ n) × (n ≤ hi)
in_range lo hi Unset n a t = cc
in_range lo hi Dead n a t = absurd a
in_range lo hi (Num b) n a t =
    let parts = and_parts (leb lo b.range.lo) (leb b.range.hi hi) t in
    let below = leb-true lo b.range.lo parts.0 in
    let above = leb-true b.range.hi hi parts.1 in
    (omega (arith, a.within.0), omega (arith, a.within.1))
in_range lo hi (Ptr q low high) n a t = cc
in_range lo hi (Halves l h) n a t = cc

-- ---- places

-- where the bytes of each Read stand, and that they are few enough
abbrev pub Places : Memory → List ℕ → List (ℕ × ℕ) → Type 0
Places m [] [] = Unit {0}
Places m [] (q ∷ places) = ⊥
Places m (max ∷ maxes) [] = ⊥
Places m (max ∷ maxes) (q ∷ places) = ((region : Region) × Covers m region q.0 q.1 × (q.1 ≤ max)) × Places m maxes places

length_bytes : (m : Memory) (region : Region) (a n : ℕ) → Covers m region a n → length (bytes_at m region a n) ≡ n
length_bytes m region a n c = simp (length-take, length-drop) (omega (arith, c.0, c.1))

few_bytes : (m : Memory) (region : Region) (a n max : ℕ) → Covers m region a n → n ≤ max → length (bytes_at m region a n) ≤ max
few_bytes m region a n max c h = let e = length_bytes m region a n c in omega (arith, e, h)

-- the bytes that a call gives
bytes_of : (m : Memory) (maxes : List ℕ) (places : List (ℕ × ℕ)) → Places m maxes places → (first : List ℕ) × (second : List ℕ) × HoldsAll m places first second × FitsReads maxes first second
bytes_of m [] [] h = ([], [], (refl, refl), (refl, refl))
bytes_of m [] (q ∷ places) h = absurd h
bytes_of m (max ∷ maxes) [] h = absurd h
bytes_of m (max ∷ []) (q ∷ []) h = let a = h.0 in
    (bytes_at m a.0 q.0 q.1, [], ((a.0, a.1, refl), refl), (few_bytes m a.0 q.0 q.1 max a.1 a.2, refl))
bytes_of m (max ∷ []) (q ∷ r ∷ places) h = absurd h.1
bytes_of m (max ∷ more ∷ maxes) (q ∷ []) h = absurd h.1
bytes_of m (max ∷ more ∷ maxes) (q ∷ r ∷ places) h =
    let a = h.0 in
    let b = h.1.0 in
    (bytes_at m a.0 q.0 q.1, bytes_at m b.0 r.0 r.1, ((a.0, a.1, refl), (b.0, b.1, refl)), (few_bytes m a.0 q.0 q.1 max a.1 a.2, few_bytes m b.0 r.0 r.1 more b.1 b.2))

same_or_not : (xs ys : List ℕ) → (xs ≡ ys) ⊎ ((xs ≡ ys) → ⊥)
same_or_not [] [] = inl refl
same_or_not [] (y ∷ ys) = inr (λ e. cc)
same_or_not (x ∷ xs) [] = inr (λ e. cc)
same_or_not (x ∷ xs) (y ∷ ys) =
    ⊎_elim
    (λ e. ⊎_elim (λ f. inl (ap (λ n. n ∷ xs) e ∙ ap (λ zs. y ∷ zs) f)) (λ g. inr (λ q. g (tails x y xs ys q))) (same_or_not xs ys))
    (λ g. inr (λ q. g (heads x y xs ys q)))
    (cases_eq x y)
  where
    tails : (x y : ℕ) (xs ys : List ℕ) → x ∷ xs ≡ y ∷ ys → xs ≡ ys
    tails x y xs ys q = cc

    heads : (x y : ℕ) (xs ys : List ℕ) → x ∷ xs ≡ y ∷ ys → x ≡ y
    heads x y xs ys q = cc

fits_drop : (n : ℕ) (row : Row) (vs : List (Option ℕ)) → FitsRow row vs → FitsRow (drop n row) (drop n vs)
fits_drop zero row vs h = h
fits_drop (suc n) [] [] h = tt
fits_drop (suc n) [] (v ∷ vs) h = absurd h
fits_drop (suc n) (k ∷ row) [] h = absurd h
fits_drop (suc n) (k ∷ row) (v ∷ vs) h = fits_drop n row vs h.2

-- what is Dead admits no argument: of any others bytes of a window are asked for
reaches_bytes : (p : Program) (limit : ℕ) (k len : Kind) (end : Option ℕ) (a n : ℕ) → Admits k (Some a) → Admits len (Some n) → reaches p limit k len end ≡ has_bytes p k (number_up_to limit len) end
reaches_bytes p limit Dead len end a n h l = absurd h
reaches_bytes p limit k Dead end a n h l = absurd l
reaches_bytes p limit Unset Unset end a n h l = refl
reaches_bytes p limit Unset (Num b) end a n h l = refl
reaches_bytes p limit Unset (Ptr r lo hi) end a n h l = refl
reaches_bytes p limit (Num b) Unset end a n h l = refl
reaches_bytes p limit (Num b) (Num c) end a n h l = refl
reaches_bytes p limit (Num b) (Ptr r lo hi) end a n h l = refl
reaches_bytes p limit (Ptr q low high) Unset end a n h l = refl
reaches_bytes p limit (Ptr q low high) (Num b) end a n h l = refl
reaches_bytes p limit (Ptr q low high) (Ptr r lo hi) end a n h l = refl
reaches_bytes p limit (Halves low high) Unset end a n h l = refl
reaches_bytes p limit (Halves low high) (Num b) end a n h l = refl
reaches_bytes p limit (Halves low high) (Ptr r lo hi) end a n h l = refl
reaches_bytes p limit (Halves low high) (Halves l' h') end a n h l = refl
reaches_bytes p limit Unset (Halves l' h') end a n h l = refl
reaches_bytes p limit (Num b) (Halves l' h') end a n h l = refl
reaches_bytes p limit (Ptr q lo hi) (Halves l' h') end a n h l = refl

never : false ≡ true → ⊥
never e = cc

-- a length is asked for
no_length : (p : Program) (limit : ℕ) (k : Kind) (end : Option ℕ) (a : ℕ) → Admits k (Some a) → reaches p limit k Unset end ≡ true → ⊥
no_length p limit k end a h t = never (sym (reaches_bytes p limit k Unset end a a h tt) ∙ t)

module _ (sound : (profile : Profile) → IsSoundTable profile) (p : Program) (row : Row) (s : State) (limits : HasLimits p) (long : IsLong p.profile row) (fits : FitsRow row (values p.profile s)) (memory : IsMemory p s.memory) (at : (r : Register) → FitsAt row s r) (pairs : Pairs) (hold : HoldPairs pairs s) where
  -- a place that is known to lie in a window
  inside : (k : Kind) (a n size : ℕ) → Admits k (Some a) → a < 2 ^ 64 → n ≤ size → is_inside p k (pos 0) size ≡ true → (region : Region) × Covers s.memory region a n × (is_input_pointer k ≡ false → region ≢ Input)
  inside Unset a n size h w le t = cc
  inside Dead a n size h w le t = cc
  inside (Halves l u) a n size h w le t = cc
  inside (Num b) a n size h w le t = cc
  inside (Ptr region lo hi) a n size h w le t =
      let c = place_in p s.memory region lo hi a (pos 0) size limits memory h t in
      let e : wrapped 64 (pos a +ℤ pos 0) ≡ a = ap (wrapped 64) (plus_zero a) ∙ wrapped_small 64 a w in
      (region, covers_less s.memory region a n size le (subst (λ x. Covers s.memory region x size) e c), not_input region lo hi)
    where
      plus_zero : (a : ℕ) → (pos a +ℤ pos 0) ≡ pos a
      plus_zero a = omega (arith, ints)

  -- the bytes from a pointer of the input or the output on, up to an end that its window has
  own_ended : (k : Kind) (a n : ℕ) (end : Option ℕ) → Admits k (Some a) → IsEnd end a n → ends_inside p k end ≡ true → Covers s.memory (region_of k) a n
  own_ended Unset a n end h e t = cc
  own_ended Dead a n end h e t = cc
  own_ended (Num b) a n end h e t = cc
  own_ended (Halves l u) a n end h e t = cc
  own_ended (Ptr Stack lo hi) a n end h e t = cc
  own_ended (Ptr Input lo hi) a n None h e t = cc
  own_ended (Ptr Output lo hi) a n None h e t = cc
  own_ended (Ptr Input lo hi) a n (Some end) h e t =
      let parts = and_parts (int_le (pos 0) lo) (leb end (2 ^ 41 + p.in_len)) t in
      let low = int_le_true (pos 0) lo parts.0 in
      let last = leb-true end (2 ^ 41 + p.in_len) parts.1 in
      let len = memory.input_length in
      (omega (arith, ints, low, h.0), omega (arith, e, last, len))
  own_ended (Ptr Output lo hi) a n (Some end) h e t =
      let parts = and_parts (int_le (pos 0) lo) (leb end (2 ^ 42 + p.out_len)) t in
      let low = int_le_true (pos 0) lo parts.0 in
      let last = leb-true end (2 ^ 42 + p.out_len) parts.1 in
      let len = memory.output_length in
      (omega (arith, ints, low, h.0), omega (arith, e, last, len))

  ended : (k : Kind) (a n : ℕ) (end : Option ℕ) → Admits k (Some a) → IsEnd end a n → ends_inside p k end ≡ true → (region : Region) × Covers s.memory region a n × (is_input_pointer k ≡ false → region ≢ Input)
  ended Unset a n end h e t = cc
  ended Dead a n end h e t = cc
  ended (Num b) a n end h e t = cc
  ended (Halves l u) a n end h e t = cc
  ended (Ptr region lo hi) a n end h e t = (region, own_ended (Ptr region lo hi) a n end h e t, not_input region lo hi)

  place : (limit : ℕ) (k len : Kind) (end : Option ℕ) (a n : ℕ) → Admits k (Some a) → a < 2 ^ 64 → Admits len (Some n) → IsEnd end a n → reaches p limit k len end ≡ true → (region : Region) × Covers s.memory region a n × (n ≤ limit) × (is_input_pointer k ≡ false → region ≢ Input)
  place limit k Dead end a n h w l e t = absurd l
  place limit k Unset end a n h w l e t = absurd (no_length p limit k end a h t)
  place limit k (Halves m u) end a n h w l e t = absurd (never (sym (reaches_bytes p limit k (Halves m u) end a n h l) ∙ t))
  place limit k (Ptr q lo hi) end a n h w l e t = absurd (never (sym (reaches_bytes p limit k (Ptr q lo hi) end a n h l) ∙ t))
  place limit k (Num c) end a n h w l e t =
      let hi = c.range.hi in
      let u = sym (reaches_bytes p limit k (Num c) end a n h l) ∙ t in
      ⊎_elim
      (λ yes. let le = leb-true hi limit yes in
      ⊎_elim
      (λ i. let q = inside k a n hi h w l.within.1 i in (q.0, q.1, omega (arith, l.within.1), q.2))
      (λ i. let q = ended k a n end h e i in (q.0, q.1, omega (arith, l.within.1), q.2))
      (or_cases (is_inside p k (pos 0) hi) (ends_inside p k end) (ap (λ b. has_bytes p k (cond b (Some hi) None) end) (sym yes) ∙ u)))
      (λ no. absurd (never (ap (λ b. has_bytes p k (cond b (Some hi) None) end) (sym no) ∙ u)))
      (cases_Bool (leb hi limit))

  -- the same, of the region to which the pointer's kind leads
  own_inside : (k : Kind) (a n size : ℕ) → Admits k (Some a) → a < 2 ^ 64 → n ≤ size → is_inside p k (pos 0) size ≡ true → Covers s.memory (region_of k) a n
  unfolding inside
  own_inside Unset a n size h w le t = cc
  own_inside (Halves l u) a n size h w le t = cc
  own_inside Dead a n size h w le t = cc
  own_inside (Num b) a n size h w le t = cc
  own_inside (Ptr region lo hi) a n size h w le t = (inside (Ptr region lo hi) a n size h w le t).1

  own_place : (limit : ℕ) (k len : Kind) (end : Option ℕ) (a n : ℕ) → Admits k (Some a) → a < 2 ^ 64 → Admits len (Some n) → IsEnd end a n → reaches p limit k len end ≡ true → Covers s.memory (region_of k) a n
  own_place limit k Dead end a n h w l e t = absurd l
  own_place limit k Unset end a n h w l e t = absurd (no_length p limit k end a h t)
  own_place limit k (Halves m u) end a n h w l e t = absurd (never (sym (reaches_bytes p limit k (Halves m u) end a n h l) ∙ t))
  own_place limit k (Ptr q lo hi) end a n h w l e t = absurd (never (sym (reaches_bytes p limit k (Ptr q lo hi) end a n h l) ∙ t))
  own_place limit k (Num c) end a n h w l e t =
      let hi = c.range.hi in
      let u = sym (reaches_bytes p limit k (Num c) end a n h l) ∙ t in
      ⊎_elim
      (λ yes.
      ⊎_elim
      (λ i. own_inside k a n hi h w l.within.1 i)
      (λ i. own_ended k a n end h e i)
      (or_cases (is_inside p k (pos 0) hi) (ends_inside p k end) (ap (λ b. has_bytes p k (cond b (Some hi) None) end) (sym yes) ∙ u)))
      (λ no. absurd (never (ap (λ b. has_bytes p k (cond b (Some hi) None) end) (sym no) ∙ u)))
      (cases_Bool (leb hi limit))

  own_read : (r : Register) → is_read p pairs row r ≡ true → Covers s.memory (region_of (kind_at row r)) (number_in s r) (number_in s R3)
  own_read r t = own_place 65536 (kind_at row r) (kind_at row R3) (most_together pairs r R3) (number_in s r) (number_in s R3) (at r).0 (at r).1 (at R3).0 (together pairs s r R3 hold) t

  later : (ns : List ℕ) (n : ℕ) (es : List (Option ℕ)) → Ended (n ∷ ns) es → Ended ns (later_ends es)
  later [] n es d = tt
  later (m ∷ ns) n es d = d.1

  own_arguments : (rules : List ArgRule) (ks : List Kind) (ns : List ℕ) (es : List (Option ℕ)) → Fitting ks ns → Ended ns es → are_arguments p rules ks es ≡ true → (j : ℕ) → LiesIn s.memory (region_at (read_kinds rules ks) j) (slice_get (places_of rules ns) j)
  own_arguments [] ks ns es h d t j = tt
  own_arguments (r ∷ rules) [] ns es h d t j = cc
  own_arguments (r ∷ rules) (k ∷ ks) [] es h d t j = absurd h
  own_arguments (rule.Unused ∷ rules) (k ∷ ks) (n ∷ ns) es h d t j = own_arguments rules ks ns (later_ends es) h.2 (later ns n es d) (and_parts true (are_arguments p rules ks (later_ends es)) t).1 j
  own_arguments (rule.Num lo hi ∷ rules) (k ∷ ks) (n ∷ ns) es h d t j = own_arguments rules ks ns (later_ends es) h.2 (later ns n es d) (and_parts (is_within lo hi k) (are_arguments p rules ks (later_ends es)) t).1 j
  own_arguments (rule.Read max ∷ rules) (k ∷ []) (n ∷ ns) es h d t j = let parts = and_parts (reaches p max k Unset (first_end es)) (are_arguments p rules [] (later_ends es)) t in absurd (no_length p max k (first_end es) n h.0 parts.0)
  own_arguments (rule.Read max ∷ rules) (k ∷ l ∷ ks) (n ∷ []) es h d t j = absurd h.2
  own_arguments (rule.Read max ∷ rules) (k ∷ l ∷ ks) (n ∷ len ∷ ns) es h d t zero =
      own_place max k l (first_end es) n len h.0 h.1 h.2.0 d.0 (and_parts (reaches p max k l (first_end es)) (are_arguments p rules (l ∷ ks) (later_ends es)) t).0
  own_arguments (rule.Read max ∷ rules) (k ∷ l ∷ ks) (n ∷ len ∷ ns) es h d t (suc j) =
      own_arguments rules (l ∷ ks) (len ∷ ns) (later_ends es) h.2 d.1 (and_parts (reaches p max k l (first_end es)) (are_arguments p rules (l ∷ ks) (later_ends es)) t).1 j
  own_arguments (rule.Len ∷ rules) (k ∷ ks) (n ∷ ns) es h d t j = own_arguments rules ks ns (later_ends es) h.2 (later ns n es d) (and_parts true (are_arguments p rules ks (later_ends es)) t).1 j

  own_pieces : (callee : Callee) → is_given p callee pairs row ≡ true → (j : ℕ) → LiesIn s.memory (region_at (piece_kinds callee row) j) (slice_get (pieces_of callee s) j)
  own_pieces Copy t zero =
      own_read R1 (and_parts (is_read p pairs row R1) (not (is_input_pointer (kind_at row R1))) (and_parts (is_written p pairs row R1) (is_read p pairs row R2) t).0).0
  own_pieces Copy t (suc zero) = own_read R2 (and_parts (is_written p pairs row R1) (is_read p pairs row R2) t).1
  own_pieces Copy t (suc (suc j)) = tt
  own_pieces Fill t zero =
      own_read R1 (and_parts (is_read p pairs row R1) (not (is_input_pointer (kind_at row R1))) (and_parts (is_written p pairs row R1) (is_number (kind_at row R2)) t).0).0
  own_pieces Fill t (suc j) = tt
  own_pieces Same t zero = own_read R1 (and_parts (is_read p pairs row R1) (is_read p pairs row R2) t).0
  own_pieces Same t (suc zero) = own_read R2 (and_parts (is_read p pairs row R1) (is_read p pairs row R2) t).1
  own_pieces Same t (suc (suc j)) = tt
  own_pieces (Helper sig) t j = own_arguments sig.args (argument_kinds row) (map (number_in s) argument_registers) (argument_ends pairs) (arguments_fit row s at) (arguments_ended pairs s hold) t j
  own_pieces Unknown t j = tt

  -- the bytes that a call is given lie where its slot says
  pub has_pieces : (callee : Callee) (pieces : Pieces) → is_given p callee pairs row ≡ true → first_of pieces ≡ region_at (piece_kinds callee row) 0 → second_of pieces ≡ region_at (piece_kinds callee row) 1 → HasPieces callee pieces s
  has_pieces callee pieces t e f = (
    subst (λ q. LiesIn s.memory q (slice_get (pieces_of callee s) 0)) (sym e) (own_pieces callee t 0),
    subst (λ q. LiesIn s.memory q (slice_get (pieces_of callee s) 1)) (sym f) (own_pieces callee t 1),
  )

  -- ---- the machine's own calls
  read_place : (r : Register) → is_read p pairs row r ≡ true → (region : Region) × Spans s.memory region (number_in s r) (number_in s R3) × (is_input_pointer (kind_at row r) ≡ false → region ≢ Input)
  read_place r t =
      let q = place 65536 (kind_at row r) (kind_at row R3) (most_together pairs r R3) (number_in s r) (number_in s R3) (at r).0 (at r).1 (at R3).0 (together pairs s r R3 hold) t in
      (q.0, (q.1, q.2), q.3)

  written_place : (r : Register) → is_written p pairs row r ≡ true → (region : Region) × Spans s.memory region (number_in s r) (number_in s R3) × (region ≢ Input)
  written_place r t =
      let parts = and_parts (is_read p pairs row r) (not (is_input_pointer (kind_at row r))) t in
      let q = read_place r parts.0 in
      (q.0, q.1, q.2 (not-true _ parts.1))

  fits_copy : is_given p Copy pairs row ≡ true → HasAnswer (Copies s)
  fits_copy t =
      let parts = and_parts (is_written p pairs row R1) (is_read p pairs row R2) t in
      let to = written_place R1 parts.0 in
      let from = read_place R2 parts.1 in
      (0, written s.memory to.0 (number_in s R1 - base to.0) (bytes_at s.memory from.0 (number_in s R2) (number_in s R3)), (to.0, from.0, to.1, from.1, to.2, refl, refl))

  fits_fill : is_given p Fill pairs row ≡ true → HasAnswer (Fills s)
  fits_fill t =
      let parts = and_parts (is_written p pairs row R1) (is_number (kind_at row R2)) t in
      let to = written_place R1 parts.0 in
      (0, written s.memory to.0 (number_in s R1 - base to.0) (replicate (number_in s R3) (number_in s R2 % 256)), (to.0, to.1, to.2, refl, refl))

  fits_same : is_given p Same pairs row ≡ true → HasAnswer (Compares s)
  fits_same t =
      let parts = and_parts (is_read p pairs row R1) (is_read p pairs row R2) t in
      let left = read_place R1 parts.0 in
      let right = read_place R2 parts.1 in
      ⊎_elim
      (λ yes. (1, s.memory, (left.0, right.0, left.1, right.1, refl, inl (yes, refl))))
      (λ no. (0, s.memory, (left.0, right.0, left.1, right.1, refl, inr (no, refl))))
      (same_or_not (bytes_at s.memory left.0 (number_in s R1) (number_in s R3)) (bytes_at s.memory right.0 (number_in s R2) (number_in s R3)))

  -- ---- the calls of helpers
  arguments : (rules : List ArgRule) (ks : List Kind) (ns : List ℕ) (es : List (Option ℕ)) → Fitting ks ns → Ended ns es → are_arguments p rules ks es ≡ true → FitsRules rules (numbers_of rules ns) × Places s.memory (reads_of rules) (places_of rules ns)
  arguments [] ks ns es h d t = (tt, tt)
  arguments (r ∷ rules) [] ns es h d t = cc
  arguments (r ∷ rules) (k ∷ ks) [] es h d t = absurd h
  arguments (rule.Unused ∷ rules) (k ∷ ks) (n ∷ ns) es h d t =
      let more = arguments rules ks ns (later_ends es) h.2 (later ns n es d) (and_parts true (are_arguments p rules ks (later_ends es)) t).1 in
      ((refl, more.0), more.1)
  arguments (rule.Num lo hi ∷ rules) (k ∷ ks) (n ∷ ns) es h d t =
      let parts = and_parts (is_within lo hi k) (are_arguments p rules ks (later_ends es)) t in
      let more = arguments rules ks ns (later_ends es) h.2 (later ns n es d) parts.1 in
      ((in_range lo hi k n h.0 parts.0, more.0), more.1)
  arguments (rule.Read max ∷ rules) (k ∷ []) (n ∷ ns) es h d t = let parts = and_parts (reaches p max k Unset (first_end es)) (are_arguments p rules [] (later_ends es)) t in absurd (no_length p max k (first_end es) n h.0 parts.0)
  arguments (rule.Read max ∷ rules) (k ∷ l ∷ ks) (n ∷ []) es h d t = absurd h.2
  arguments (rule.Read max ∷ rules) (k ∷ l ∷ ks) (n ∷ len ∷ ns) es h d t =
      let parts = and_parts (reaches p max k l (first_end es)) (are_arguments p rules (l ∷ ks) (later_ends es)) t in
      let q = place max k l (first_end es) n len h.0 h.1 h.2.0 d.0 parts.0 in
      let more = arguments rules (l ∷ ks) (len ∷ ns) (later_ends es) h.2 d.1 parts.1 in
      ((refl, more.0), ((q.0, q.1, q.2), more.1))
  arguments (rule.Len ∷ rules) (k ∷ ks) (n ∷ ns) es h d t =
      let more = arguments rules ks ns (later_ends es) h.2 (later ns n es d) (and_parts true (are_arguments p rules ks (later_ends es)) t).1 in
      ((refl, more.0), more.1)

  fits_helper : (sig : Sig) → are_arguments p sig.args (argument_kinds row) (argument_ends pairs) ≡ true → (g : Given) × Gives s sig.args g × Fits sig.args g
  fits_helper sig t =
      let ns = map (number_in s) argument_registers in
      let a = arguments sig.args (argument_kinds row) ns (argument_ends pairs) (arguments_fit row s at) (arguments_ended pairs s hold) t in
      let b = bytes_of s.memory (reads_of sig.args) (places_of sig.args ns) a.1 in
      (record { numbers = numbers_of sig.args ns; first = b.0; second = b.1 }, record { numbers = refl; reads = b.2 }, record { numbers = a.0; reads = b.3 })

  pub given_fits : (callee : Callee) → is_given p callee pairs row ≡ true → fits_with callee s
  given_fits Copy t = fits_copy t
  given_fits Fill t = fits_fill t
  given_fits Same t = fits_same t
  given_fits (Helper sig) t = fits_helper sig t
  given_fits Unknown t = cc

  -- ---- answers
  abbrev pub Answered : Callee → ℕ → Memory → Type 0
  Answered callee answer after = Admits (answer_kind p.profile callee) (Some answer) × (answer < 2 ^ 64) × IsMemory p after

  bytes_there : (region : Region) (a n : ℕ) → AreBytes (bytes_at s.memory region a n)
  bytes_there region a n =
      bytes_take n (drop (a - base region) (window s.memory region)) (bytes_drop (a - base region) (window s.memory region) (window_bytes p s.memory region memory))

  memory_after : (region : Region) (a n : ℕ) (new : List ℕ) (after : Memory) → Covers s.memory region a n → length new ≡ n → AreBytes new → after ≡ written s.memory region (a - base region) new → IsMemory p after
  memory_after region a n new after c len h e = subst (IsMemory p) (sym e) (written_kept p s.memory region a new memory (subst (Covers s.memory region a) (sym len) c) h)

  pub answered : (n : ℕ) (callee : Callee) (answer : ℕ) (after : Memory) → answers_with n callee s answer after → Answered callee answer after
  answered n Copy answer after h = (
    (sound p.profile).range (single 0) answer (omega arith) (omega arith, omega (arith, h.5)),
    omega (arith, h.5),
    memory_after h.0 (number_in s R1) (number_in s R3) (bytes_at s.memory h.1 (number_in s R2) (number_in s R3)) after h.2.0 (length_bytes s.memory h.1 (number_in s R2) (number_in s R3) h.3.0) (bytes_there h.1 (number_in s R2) (number_in s R3)) h.6,
  )
  answered n Fill answer after h = (
    (sound p.profile).range (single 0) answer (omega arith) (omega arith, omega (arith, h.3)),
    omega (arith, h.3),
    memory_after h.0 (number_in s R1) (number_in s R3) (replicate (number_in s R3) (number_in s R2 % 256)) after h.1.0 (length-replicate {A = ℕ} (number_in s R3) (number_in s R2 % 256)) (bytes_replicate (number_in s R3) (number_in s R2 % 256) (mod-lt (number_in s R2) (omega arith))) h.4,
  )
  answered n Same answer after h =
      ⊎_elim
      (λ yes. ((sound p.profile).range (range 0 1) answer (omega arith) (omega arith, omega (arith, yes.1)), omega (arith, yes.1), subst (IsMemory p) (sym h.4) memory))
      (λ no. ((sound p.profile).range (range 0 1) answer (omega arith) (omega arith, omega (arith, no.1)), omega (arith, no.1), subst (IsMemory p) (sym h.4) memory))
      h.5
  answered n (Helper sig) answer after h =
      ((sound p.profile).range (range sig.lo sig.hi) answer sig.word (h.3.0, h.3.1), omega (arith, h.3.1, sig.word), subst (IsMemory p) (sym h.4) memory)
  answered n Unknown answer after h = absurd h

  -- the cells after a call's writes
  ended_fits : (k : Kind) (a n size : ℕ) (end : Option ℕ) (to : Region) (new : List ℕ) → Admits k (Some a) → ends_inside p k end ≡ true → Covers s.memory to a n → FitsRow (row_touched p.profile (span_of k (pos 0) size) row) (values_of p.profile s.registers (written s.memory to (a - base to) new).stack)
  ended_fits Unset a n size end to new h t c = cc
  ended_fits Dead a n size end to new h t c = cc
  ended_fits (Num b) a n size end to new h t c = cc
  ended_fits (Halves l u) a n size end to new h t c = cc
  ended_fits (Ptr Stack lo hi) a n size end to new h t c = cc
  ended_fits (Ptr Input lo hi) a n size None to new h t c = cc
  ended_fits (Ptr Output lo hi) a n size None to new h t c = cc
  ended_fits (Ptr Input lo hi) a n size (Some end) Input new h t c = fits
  ended_fits (Ptr Input lo hi) a n size (Some end) Output new h t c = fits
  ended_fits (Ptr Output lo hi) a n size (Some end) Input new h t c = fits
  ended_fits (Ptr Output lo hi) a n size (Some end) Output new h t c = fits
  ended_fits (Ptr Input lo hi) a n size (Some end) Stack new h t c =
      let low = int_le_true (pos 0) lo (and_parts (int_le (pos 0) lo) (leb end (2 ^ 41 + p.in_len)) t).0 in
      let len = memory.stack_length in
      absurd (omega (arith, ints, low, h.0, c.1, len))
  ended_fits (Ptr Output lo hi) a n size (Some end) Stack new h t c =
      let low = int_le_true (pos 0) lo (and_parts (int_le (pos 0) lo) (leb end (2 ^ 42 + p.out_len)) t).0 in
      let len = memory.stack_length in
      absurd (omega (arith, ints, low, h.0, c.1, len))

  span_fits : (limit : ℕ) (k len : Kind) (end : Option ℕ) (a n : ℕ) (to : Region) (new : List ℕ) → Admits k (Some a) → a < 2 ^ 64 → Admits len (Some n) → reaches p limit k len end ≡ true → Covers s.memory to a n → length new ≡ n → AreBytes new → FitsRow (row_touched p.profile (span_given limit k len) row) (values_of p.profile s.registers (written s.memory to (a - base to) new).stack)
  span_fits limit k Dead end a n to new h w l t c e bytes = absurd l
  span_fits limit k Unset end a n to new h w l t c e bytes = absurd (no_length p limit k end a h t)
  span_fits limit k (Halves m u) end a n to new h w l t c e bytes = absurd (never (sym (reaches_bytes p limit k (Halves m u) end a n h l) ∙ t))
  span_fits limit k (Ptr q lo hi) end a n to new h w l t c e bytes = absurd (never (sym (reaches_bytes p limit k (Ptr q lo hi) end a n h l) ∙ t))
  span_fits limit k (Num b) end a n to new h w l t c e bytes =
      let hi = b.range.hi in
      let u = sym (reaches_bytes p limit k (Num b) end a n h l) ∙ t in
      let same : wrapped 64 (pos a +ℤ pos 0) ≡ a = ap (wrapped 64) (plus_none a) ∙ wrapped_small 64 a w in
      let V : ℕ → List (Option ℕ) = λ x. values_of p.profile s.registers (written s.memory to (x - base to) new).stack in
      ⊎_elim
      (λ yes. subst (λ t'. FitsRow (row_touched p.profile (bytes_named k (cond t' (Some hi) None)) row) (V a)) (sym yes)
      (⊎_elim
      (λ i. subst (λ x. FitsRow (row_touched p.profile (span_of k (pos 0) hi) row) (V x)) same
      (touched_fits sound p row s limits long fits memory k a (pos 0) hi to new h i (subst (λ x. Covers s.memory to x (length new)) (sym same) (subst (Covers s.memory to a) (sym e) c)) (omega (arith, e, l.within.1)) bytes))
      (λ i. ended_fits k a n hi end to new h i c)
      (or_cases (is_inside p k (pos 0) hi) (ends_inside p k end) (ap (λ t'. has_bytes p k (cond t' (Some hi) None) end) (sym yes) ∙ u))))
      (λ no. absurd (never (ap (λ t'. has_bytes p k (cond t' (Some hi) None) end) (sym no) ∙ u)))
      (cases_Bool (leb hi limit))
    where
      plus_none : (a : ℕ) → (pos a +ℤ pos 0) ≡ pos a
      plus_none a = omega (arith, ints)

  write_fits : (to : Region) (new : List ℕ) → is_written p pairs row R1 ≡ true → Covers s.memory to (number_in s R1) (number_in s R3) → length new ≡ number_in s R3 → AreBytes new → FitsRow (row_touched p.profile (span_given 65536 (kind_at row R1) (kind_at row R3)) row) (values_of p.profile s.registers (written s.memory to (number_in s R1 - base to) new).stack)
  write_fits to new t c e bytes =
      span_fits 65536 (kind_at row R1) (kind_at row R3) (most_together pairs R1 R3) (number_in s R1) (number_in s R3) to new (at R1).0 (at R1).1 (at R3).0 (and_parts (is_read p pairs row R1) (not (is_input_pointer (kind_at row R1))) t).0 c e bytes

  cells_after : (n : ℕ) (callee : Callee) (answer : ℕ) (after : Memory) → is_given p callee pairs row ≡ true → answers_with n callee s answer after → FitsRow (row_written p.profile callee row) (values_of p.profile s.registers after.stack)
  cells_after n Copy answer after t h =
      subst (λ (m : Memory). FitsRow (row_written p.profile Copy row) (values_of p.profile s.registers m.stack)) (sym h.6)
      (write_fits h.0 (bytes_at s.memory h.1 (number_in s R2) (number_in s R3)) (and_parts (is_written p pairs row R1) (is_read p pairs row R2) t).0 h.2.0 (length_bytes s.memory h.1 (number_in s R2) (number_in s R3) h.3.0) (bytes_there h.1 (number_in s R2) (number_in s R3)))
  cells_after n Fill answer after t h =
      subst (λ (m : Memory). FitsRow (row_written p.profile Fill row) (values_of p.profile s.registers m.stack)) (sym h.4)
      (write_fits h.0 (replicate (number_in s R3) (number_in s R2 % 256)) (and_parts (is_written p pairs row R1) (is_number (kind_at row R2)) t).0 h.1.0 (length-replicate {A = ℕ} (number_in s R3) (number_in s R2 % 256)) (bytes_replicate (number_in s R3) (number_in s R2 % 256) (mod-lt (number_in s R2) (omega arith))))
  cells_after n Same answer after t h = subst (λ (m : Memory). FitsRow row (values_of p.profile s.registers m.stack)) (sym h.4) fits
  cells_after n (Helper sig) answer after t h = subst (λ (m : Memory). FitsRow row (values_of p.profile s.registers m.stack)) (sym h.4) fits
  cells_after n Unknown answer after t h = absurd h

  -- the registers and the cells after a call
  pub row_fits : (n : ℕ) (callee : Callee) (answer : ℕ) (after : Memory) → is_given p callee pairs row ≡ true → answers_with n callee s answer after → FitsRow (row_after_call p.profile callee row) (values_of p.profile (Some answer ∷ None ∷ None ∷ None ∷ None ∷ None ∷ drop 6 s.registers) after.stack)
  row_fits n callee answer after t h =
      let a = answered n callee answer after h in
      let cells = words (cell_count p.profile) after.stack in
      let row' = row_written p.profile callee row in
      let kept = fits_drop 6 row' (s.registers ++ cells) (cells_after n callee answer after t h) in
      let rest = subst (FitsRow (drop 6 row')) (drop-append-le 6 s.registers cells (omega (arith, has_eleven p.profile row s long fits))) kept in
      (a.0, a.1, (tt, tt, (tt, tt, (tt, tt, (tt, tt, (tt, tt, rest))))))
