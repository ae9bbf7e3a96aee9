-- Where the instructions of formed code lead.
use Rattle.std.proofs.Common.{◌≡◌, ◌≢◌, ℕ, zero, suc, ℤ, pos, negsuc, ◌+◌, ◌<◌, ◌≤◌, List, [], ◌∷◌, ◌++◌, length, Option, Some, None, refl, sym, ap, ◌∙◌, subst, inl, inr, ⊎_elim, arith}
use Rattle.std.specs.Prelude.{◌⊎◌, slice_get, IsSomeAnd, ◌≤ℤ◌}
use Rattle.std.proofs.lemmas.Int.{ints}
use Rattle.std.proofs.lemmas.Bool.{cases_lt}
use Rattle.std.proofs.lemmas.Option.{same_Some, slice_get_within}
use Rattle.bpf_insn.specs.Encoding.{IsCode, IsInstruction}
use Rattle.bpf_insn.specs.declared.Insn.{Insn}
use Rattle.bpf_insn.specs.declared.Insn.TheVariants as insn
use Rattle.bpf_insn.specs.declared.Register.{Register}
use Rattle.bpf_image.specs.declared.form.FormRule.{FormRule}
use Rattle.bpf_image.specs.declared.form.FormRule.TheVariants.{TargetOutside, TargetTail, TargetBack, RunsPast}
use Rattle.bpf_image.specs.Form.{target_of, next_of, slot_at, BreaksRule, IsFormed}
use Rattle.bpf_semantics.specs.declared.profile.Profile.{Profile}
use Rattle.bpf_helpers.specs.Calls.{Callee}
use Rattle.bpf_verifier.specs.Registers.{Row}
use Rattle.bpf_verifier.specs.Rules.{row_taken}
use Rattle.bpf_verifier.specs.Sums.{KnownSums, row_on}
use Rattle.bpf_verifier.specs.declared.pair.Pairs.{Pairs}
use Rattle.bpf_verifier.specs.Rows.{LeadBelow}
use Rattle.bpf_copies.specs.Names.{Names}
use Rattle.bpf_verifier.specs.Paired.{narrowed}
use Rattle.bpf_verifier.specs.Table.{Edge, next_edge, target_edge, narrowed_edges}

-- an instruction of formed code keeps each rule
pub keeps : (code : List Insn) (i : ℕ) (x : Insn) (rule : FormRule) → IsFormed code → slice_get code i ≡ Some x → ¬ BreaksRule rule code i x
keeps code i x rule formed at b = formed i rule (subst (λ o. IsSomeAnd o (BreaksRule rule code i)) (sym at) b)

some_from : {A : Type 0} (o : Option A) (a : A) (P : A → Type 0) → o ≡ Some a → P a → IsSomeAnd o P
some_from o a P e h = subst (λ q. IsSomeAnd q P) (sym e) h

-- a higher slot that starts an instruction
pub record Leads (code : List Insn) (i k : ℕ) : Type 0 where
  pub above : i < k
  pub to : Insn
  pub there : slice_get code k ≡ Some to
  pub starts : to ≢ insn.Tail

found_at : (code : List Insn) (k : ℕ) → k < length code → (y : Insn) × (slice_get code k ≡ Some y)
found_at code k h = from code k h
  where
    from : (code : List Insn) (k : ℕ) → k < length code → (y : Insn) × (slice_get code k ≡ Some y)
    from [] k h = absurd (omega arith)
    from (x ∷ code) zero h = (x, refl)
    from (x ∷ code) (suc k) h = from code k (omega arith)

-- ---- the target of a jump

target_named : (code : List Insn) (i : ℕ) (x : Insn) (z : ℤ) (o : Option Insn) → IsFormed code → slice_get code i ≡ Some x → target_of i x ≡ Some z → slot_at code z ≡ o → (y : Insn) × (o ≡ Some y) × (y ≢ insn.Tail)
target_named code i x z None formed at e s = absurd (keeps code i x TargetOutside formed at (some_from (target_of i x) z _ e s))
target_named code i x z (Some y) formed at e s =
    (y, refl, λ tail. keeps code i x TargetTail formed at (some_from (target_of i x) z _ e (s ∙ ap Some tail)))

not_below : (i k : ℕ) → (pos k ≤ℤ pos i → ⊥) → i < k
not_below i k h = ⊎_elim (λ lt. lt) (λ le. absurd (h (omega (arith, ints)))) (cases_lt i k)

pub target_leads : (code : List Insn) (i : ℕ) (x : Insn) (z : ℤ) → IsFormed code → slice_get code i ≡ Some x → target_of i x ≡ Some z → (k : ℕ) × (z ≡ pos k) × Leads code i k
target_leads code i x (pos k) formed at e =
    let there = target_named code i x (pos k) (slice_get code k) formed at e refl in
    let above = not_below i k (λ le. keeps code i x TargetBack formed at (some_from (target_of i x) (pos k) _ e le)) in
    (k, refl, record { above = above; to = there.0; there = there.1; starts = there.2 })
target_leads code i x (negsuc k) formed at e = absurd (keeps code i x TargetOutside formed at (some_from (target_of i x) (negsuc k) _ e refl))

-- ---- the next slot

one_on : (i k : ℕ) → Some (i + 1) ≡ Some k → k ≡ i + 1
one_on i k e = sym (same_Some _ _ e)

two_on : (i k : ℕ) → Some (i + 2) ≡ Some k → k ≡ i + 1 + 1
two_on i k e = let h : i + 2 ≡ k = same_Some _ _ e in omega arith

-- the next slot is one on, or two on after a wide instruction
next_cases : (i : ℕ) (x : Insn) (k : ℕ) → next_of i x ≡ Some k → ((k ≡ i + 1) × ((d : _) (n : ℕ) → x ≢ insn.Wide d n)) ⊎ ((k ≡ i + 1 + 1) × (d : _) × (n : ℕ) × (x ≡ insn.Wide d n))
next_cases i (insn.Alu op w d src) k e = inl (one_on i k e, λ a n q. cc)
next_cases i (insn.Swap a b d) k e = inl (one_on i k e, λ a n q. cc)
next_cases i (insn.Load a b c d f) k e = inl (one_on i k e, λ a n q. cc)
next_cases i (insn.Store a b c d) k e = inl (one_on i k e, λ a n q. cc)
next_cases i (insn.Jump d) k e = cc
next_cases i (insn.JumpIf c w l r o) k e = inl (one_on i k e, λ a n q. cc)
next_cases i (insn.Call h) k e = inl (one_on i k e, λ a n q. cc)
next_cases i insn.Exit k e = cc
next_cases i (insn.Wide d n) k e = inr (two_on i k e, d, n, refl)
next_cases i insn.Tail k e = cc

none_some : {A : Type 0} (o : Option A) (a : A) → o ≡ None → o ≡ Some a → ⊥
none_some o a p q = cc

same_some : {A : Type 0} (o : Option A) (a b : A) → o ≡ Some a → o ≡ Some b → a ≡ b
same_some o a b p q = cc

-- what a slot of code tells of the one after it and the one before it
pub record IsPaired (code : List Insn) : Type 0 where
  pub after_wide : (k n : ℕ) (dst : Register) → slice_get code k ≡ Some (insn.Wide dst n) → slice_get code (k + 1) ≡ Some insn.Tail
  pub before_tail : (k : ℕ) → slice_get code (k + 1) ≡ Some insn.Tail → (dst : Register) × (n : ℕ) × (slice_get code k ≡ Some (insn.Wide dst n))
  pub no_tail_first : slice_get code 0 ≢ Some insn.Tail
  pub instructions : (k : ℕ) (i : Insn) → slice_get code k ≡ Some i → i ≢ insn.Tail → IsInstruction i

-- what is told of all code, of this
pub paired_by : ((code : List Insn) (k n : ℕ) (dst : Register) → IsCode code → slice_get code k ≡ Some (insn.Wide dst n) → slice_get code (k + 1) ≡ Some insn.Tail) → ((code : List Insn) (k : ℕ) → IsCode code → slice_get code (k + 1) ≡ Some insn.Tail → (dst : Register) × (n : ℕ) × (slice_get code k ≡ Some (insn.Wide dst n))) → ((code : List Insn) → IsCode code → slice_get code 0 ≢ Some insn.Tail) → ((code : List Insn) (k : ℕ) (i : Insn) → IsCode code → slice_get code k ≡ Some i → i ≢ insn.Tail → IsInstruction i) → (code : List Insn) → IsCode code → IsPaired code
paired_by after before first instructions code is = record {
  after_wide = λ k n dst. after code k n dst is;
  before_tail = λ k. before code k is;
  no_tail_first = first code is;
  instructions = λ k i. instructions code k i is;
}

next_starts : (code : List Insn) (i k : ℕ) (x y : Insn) → IsPaired code → slice_get code i ≡ Some x → next_of i x ≡ Some k → slice_get code k ≡ Some y → y ≢ insn.Tail
next_starts code i k x y paired at e there tail =
    ⊎_elim
    (λ one. let wide = paired.before_tail i (ap (slice_get code) (sym one.0) ∙ there ∙ ap Some tail) in
    one.1 wide.0 wide.1 (same_some (slice_get code i) x _ at wide.2))
    (λ two. let wide = paired.before_tail (i + 1) (ap (slice_get code) (sym two.0) ∙ there ∙ ap Some tail) in
    let half = paired.after_wide i two.2 two.1 (at ∙ ap Some two.3) in
    tail_wide wide.0 wide.1 (same_some (slice_get code (i + 1)) _ _ half wide.2))
    (next_cases i x k e)
  where
    tail_wide : (d : _) (n : ℕ) → insn.Tail ≡ insn.Wide d n → ⊥
    tail_wide d n q = cc

-- the next slot of an instruction is no second half
abbrev pub NextStarts : List Insn → Type 0
NextStarts code = (i k : ℕ) (x y : Insn) → slice_get code i ≡ Some x → next_of i x ≡ Some k → slice_get code k ≡ Some y → y ≢ insn.Tail

pub paired_starts : (code : List Insn) → IsPaired code → NextStarts code
paired_starts code paired i k x y at e there = next_starts code i k x y paired at e there

next_above : (i : ℕ) (x : Insn) (k : ℕ) → next_of i x ≡ Some k → i < k
next_above i x k e = ⊎_elim (λ one. omega (arith, one.0)) (λ two. omega (arith, two.0)) (next_cases i x k e)

pub next_leads : (code : List Insn) (i : ℕ) (x : Insn) (k : ℕ) → IsFormed code → NextStarts code → slice_get code i ≡ Some x → next_of i x ≡ Some k → Leads code i k
next_leads code i x k formed starts at e =
    let within : k < length code = ⊎_elim (λ lt. lt) (λ le. absurd (keeps code i x RunsPast formed at (some_from (next_of i x) k _ e le))) (cases_lt k (length code)) in
    let there = found_at code k within in
    record { above = next_above i x k e; to = there.0; there = there.1; starts = starts i k x there.0 at e there.1 }

-- ---- edges

abbrev pub AllLead : List Insn → ℕ → List Edge → Type 0
AllLead code i [] = Unit {0}
AllLead code i (e ∷ es) = Leads code i e.0 × AllLead code i es

all_append : (code : List Insn) (i : ℕ) (es fs : List Edge) → AllLead code i es → AllLead code i fs → AllLead code i (es ++ fs)
all_append code i [] fs a b = b
all_append code i (e ∷ es) fs a b = (a.0, all_append code i es fs a.1 b)

next_all : (code : List Insn) (i : ℕ) (o : Option ℕ) (row : Row) → ((k : ℕ) → o ≡ Some k → Leads code i k) → AllLead code i (next_edge o row)
next_all code i None row h = tt
next_all code i (Some k) row h = (h k refl, tt)

target_all : (code : List Insn) (i : ℕ) (o : Option ℤ) (row : Row) → ((z : ℤ) → o ≡ Some z → (k : ℕ) × (z ≡ pos k) × Leads code i k) → AllLead code i (target_edge o row)
target_all code i None row h = tt
target_all code i (Some (pos k)) row h = let l = h (pos k) refl in (subst (Leads code i) (same l.0 k l.1) l.2, tt)
  where
    same : (j k : ℕ) → pos k ≡ pos j → j ≡ k
    same j k e = cc
target_all code i (Some (negsuc k)) row h = tt

-- every edge of an instruction leads to a higher slot that starts one
pub edges_lead : (profile : Profile) (callee : Callee) (sums : KnownSums) (pairs : Pairs) (names : Names) (code : List Insn) (i : ℕ) (x : Insn) (row : Row) → IsFormed code → NextStarts code → slice_get code i ≡ Some x → AllLead code i (narrowed_edges profile callee sums pairs names i row x)
edges_lead profile callee sums pairs names code i x row formed starts at =
    all_append code i _ _ (next_all code i (next_of i x) (narrowed x profile names pairs (row_on profile callee sums pairs row x)) (λ k e. next_leads code i x k formed starts at e)) (target_all code i (target_of i x) (narrowed x profile names pairs (row_taken profile row x)) (λ z e. target_leads code i x z formed at e))

pub target_edge_at : (z : ℤ) (k : ℕ) (row : Row) → z ≡ pos k → target_edge (Some z) row ≡ (k, row) ∷ []
target_edge_at z k row e = ap (λ y. target_edge (Some y) row) e

-- ---- what needs no pairs

same_pos : (j k : ℕ) → pos k ≡ pos j → j ≡ k
same_pos j k e = cc

pub next_within : (code : List Insn) (i : ℕ) (x : Insn) (k : ℕ) → IsFormed code → slice_get code i ≡ Some x → next_of i x ≡ Some k → k < length code
next_within code i x k formed at e = ⊎_elim (λ lt. lt) (λ le. absurd (keeps code i x RunsPast formed at (some_from (next_of i x) k _ e le))) (cases_lt k (length code))

pub target_within : (code : List Insn) (i : ℕ) (x : Insn) (z : ℤ) → IsFormed code → slice_get code i ≡ Some x → target_of i x ≡ Some z → (k : ℕ) × (z ≡ pos k) × (k < length code)
target_within code i x z formed at e = let l = target_leads code i x z formed at e in (l.0, l.1, slice_get_within code l.0 l.2.to l.2.there)

pub target_below : (code : List Insn) (i : ℕ) (x : Insn) (row : Row) (n : ℕ) → IsFormed code → slice_get code i ≡ Some x → length code ≤ n → LeadBelow n (target_edge (target_of i x) row)
target_below code i x row n formed at le = below (target_of i x) (λ k e. let h = target_within code i x (pos k) formed at e in omega (arith, h.2, same_pos h.0 k h.1, le))
  where
    below : (o : Option ℤ) → ((k : ℕ) → o ≡ Some (pos k) → k < n) → LeadBelow n (target_edge o row)
    below None h = tt
    below (Some (pos k)) h = (h k refl, tt)
    below (Some (negsuc k)) h = tt
