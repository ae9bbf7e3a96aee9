-- A walk over the slots in their order, which marks where each can go, finds the slots to which paths lead.
use Rattle.std.proofs.Common.{◌≡◌, ◌≢◌, ℕ, zero, suc, ◌+◌, ◌<◌, ◌≤◌, ◌⊎◌, inl, inr, ⊎_elim, ℤ, pos, negsuc, Bool, List, [], ◌∷◌, length, Some, None, true, false, refl, sym, subst, arith}
use Rattle.std.specs.Prelude.{slice_get, slice_index_or, slice_set, replicate, IsSomeAnd}
use Rattle.std.proofs.lemmas.Bool.{cases_lt, cases_eq}
use Rattle.bpf_insn.specs.declared.Insn.{Insn}
use Rattle.bpf_insn.specs.declared.Insn.TheVariants as insn
use Rattle.bpf_image.specs.declared.form.FormRule.{FormRule}
use Rattle.bpf_image.specs.declared.form.FormRule.TheVariants.{TargetOutside, TargetTail, TargetBack, RunsPast, Unreachable}
use Rattle.bpf_image.specs.Form.{target_of, next_of, GoesTo, IsPath, BreaksRule, BreaksForm, ComesTo, IsWalked, IsFirstBroken, IsKept, rank}
use Rattle.bpf_image.proofs.Rules.{the_some, some_from}

goes_on : (i : ℕ) (x : Insn) (j : ℕ) → GoesTo i x j → x ≢ insn.Tail
goes_on i x j (inl g) e = let h : next_of i insn.Tail ≡ Some j = subst (λ y. next_of i y ≡ Some j) e g in cc
goes_on i x j (inr g) e = let h : target_of i insn.Tail ≡ Some (pos j) = subst (λ y. target_of i y ≡ Some (pos j)) e g in cc

-- a path leads to a slot that is marked
pub path_to : (code : List Insn) (i : ℕ) (x : Insn) → slice_get code i ≡ Some x → x ≢ insn.Tail → ((j : ℕ) → j < i → (rule : FormRule) → ¬ BreaksForm rule code j) → ComesTo code i i → ¬ ((path : List ℕ) → ¬ IsPath code (i ∷ path))
path_to code i x at starts formed (inl first) none = none [] first
path_to code i x at starts formed (inr (j, y, lt, there, goes)) none =
    let broken : BreaksForm Unreachable code j =
    subst (λ o. IsSomeAnd o (BreaksRule Unreachable code j)) (sym there) (goes_on j y i goes, λ path is. none (j ∷ path) ((y, there, goes, lt, (x, at, starts)), is)) in
    formed j lt Unreachable broken

-- and to no other
pub no_path_to : (code : List Insn) (i : ℕ) → (ComesTo code i i → ⊥) → (path : List ℕ) → ¬ IsPath code (i ∷ path)
no_path_to code i none [] is = none (inl is)
no_path_to code i none (j ∷ path) is = none (inr (j, is.0.0, is.0.3, is.0.1, is.0.2))

-- one slot more
pub formed_more : (code : List Insn) (i : ℕ) (x : Insn) → slice_get code i ≡ Some x → ((j : ℕ) → j < i → (rule : FormRule) → ¬ BreaksForm rule code j) → ((rule : FormRule) → ¬ BreaksRule rule code i x) → (j : ℕ) → j < i + 1 → (rule : FormRule) → ¬ BreaksForm rule code j
formed_more code i x at below here j lt rule b =
    ⊎_elim
    (λ same. here rule (the_some (slice_get code i) x (BreaksRule rule code i) at (subst (BreaksForm rule code) same b)))
    (λ other. below j (omega arith) rule b)
    (cases_eq j i)

past_end : (code : List Insn) (i : ℕ) → length code ≤ i → slice_get code i ≡ None
past_end [] i h = refl
past_end (x ∷ code) zero h = absurd (omega arith)
past_end (x ∷ code) (suc i) h = past_end code i (omega arith)

pub formed_all : (code : List Insn) (n : ℕ) → length code ≤ n → ((j : ℕ) → j < n → (rule : FormRule) → ¬ BreaksForm rule code j) → (i : ℕ) (rule : FormRule) → ¬ BreaksForm rule code i
formed_all code n long below i rule b =
    ⊎_elim (λ lt. below i lt rule b) (λ le. subst (λ o. IsSomeAnd o (BreaksRule rule code i)) (past_end code i (omega arith)) b) (cases_lt i n)

pub comes_more : (code : List Insn) (i k : ℕ) (x : Insn) → slice_get code i ≡ Some x → ComesTo code i k ⊎ GoesTo i x k → ComesTo code (i + 1) k
comes_more code i k x at (inl (inl z)) = inl z
comes_more code i k x at (inl (inr (j, y, lt, there, goes))) = inr (j, y, omega arith, there, goes)
comes_more code i k x at (inr goes) = inr (i, x, omega arith, at, goes)

pub comes_less : (code : List Insn) (i k : ℕ) (x : Insn) → slice_get code i ≡ Some x → ComesTo code (i + 1) k → ComesTo code i k ⊎ GoesTo i x k
comes_less code i k x at (inl z) = inl (inl z)
comes_less code i k x at (inr (j, y, lt, there, goes)) =
    ⊎_elim
    (λ same. let there' : slice_get code i ≡ Some y = subst (λ n. slice_get code n ≡ Some y) same there in
    let e : y ≡ x = cc in
    inr (subst (λ n. GoesTo n x k) same (subst (λ z. GoesTo j z k) e goes)))
    (λ other. inl (inr (j, y, omega arith, there, goes)))
    (cases_eq j i)

-- before the first slot
pub none_walked : (code : List Insn) (reached : List Bool) → ((k : ℕ) → k < length code → k ≡ 0 → slice_index_or reached k false ≡ true) → ((k : ℕ) → slice_index_or reached k false ≡ true → k ≡ 0) → IsWalked code 0 reached
none_walked code reached first only = record {
  formed = λ j h rule b. omega arith;
  marked = λ k h come. ⊎_elim (λ z. first k h z) (λ w. absurd (omega (arith, w.2))) come;
  only = λ k t. inl (only k t);
}

-- the first slot that breaks a rule
pub first_broken : (code : List Insn) (i : ℕ) (x : Insn) (rule : FormRule) (reached : List Bool) → slice_get code i ≡ Some x → IsWalked code i reached → BreaksRule rule code i x → IsKept code i x (rank rule) → IsFirstBroken code i rule
first_broken code i x rule reached at walked broken kept = record {
  broken = some_from (slice_get code i) x (BreaksRule rule code i) at broken;
  lowest = λ other less b. kept other less (the_some (slice_get code i) x (BreaksRule other code i) at b);
  before = walked.formed;
}

reached_true : (b : Bool) (A : Type 0) → (b ≡ false → ¬ A) → A → b ≡ true
reached_true true A h a = refl
reached_true false A h a = absurd (h refl a)

-- the mark of a slot tells whether a path leads to it
pub mark_tells : (code : List Insn) (i : ℕ) (x : Insn) (reached : List Bool) → slice_get code i ≡ Some x → i < length code → IsWalked code i reached → x ≢ insn.Tail → (slice_index_or reached i false ≡ true → ¬ ((path : List ℕ) → ¬ IsPath code (i ∷ path))) × (¬ ((path : List ℕ) → ¬ IsPath code (i ∷ path)) → slice_index_or reached i false ≡ true)
mark_tells code i x reached at lt walked starts = (
  λ t. path_to code i x at starts walked.formed (walked.only i t),
  reached_true (slice_index_or reached i false) (¬ ((path : List ℕ) → ¬ IsPath code (i ∷ path))) (λ f some. some (no_path_to code i (λ come. let t = walked.marked i lt come in false_true (slice_index_or reached i false) f t))),
)
  where
    false_true : (b : Bool) → b ≡ false → b ≡ true → ⊥
    false_true b f t = cc

all_rules : (code : List Insn) (i : ℕ) (x : Insn) → IsKept code i x 5 → (rule : FormRule) → ¬ BreaksRule rule code i x
all_rules code i x kept TargetOutside = kept TargetOutside (omega arith)
all_rules code i x kept TargetTail = kept TargetTail (omega arith)
all_rules code i x kept TargetBack = kept TargetBack (omega arith)
all_rules code i x kept RunsPast = kept RunsPast (omega arith)
all_rules code i x kept Unreachable = kept Unreachable (omega arith)

-- one slot more is walked
pub walked_more : (code : List Insn) (i : ℕ) (x : Insn) (old new : List Bool) → slice_get code i ≡ Some x → IsWalked code i old → IsKept code i x 5 → ((k : ℕ) → slice_index_or old k false ≡ true → slice_index_or new k false ≡ true) → ((k : ℕ) → GoesTo i x k → slice_index_or new k false ≡ true) → ((k : ℕ) → slice_index_or new k false ≡ true → (slice_index_or old k false ≡ true) ⊎ GoesTo i x k) → IsWalked code (i + 1) new
walked_more code i x old new at walked kept still marks only = record {
  formed = formed_more code i x at walked.formed (all_rules code i x kept);
  marked = λ k h come. ⊎_elim (λ before. still k (walked.marked k h before)) (λ goes. marks k goes) (comes_less code i k x at come);
  only = λ k t. comes_more code i k x at (⊎_elim (λ before. inl (walked.only k before)) (λ goes. inr goes) (only k t));
}

-- where an instruction that keeps the rules goes is a slot of the code
pub next_within : (code : List Insn) (i : ℕ) (x : Insn) (k : ℕ) → IsKept code i x 5 → next_of i x ≡ Some k → k < length code
next_within code i x k kept e = ⊎_elim (λ lt. lt) (λ le. absurd (kept RunsPast (omega arith) (some_from (next_of i x) k _ e le))) (cases_lt k (length code))

get_within : (code : List Insn) (k : ℕ) → length code ≤ k ⊎ (k < length code)
get_within code k = ⊎_elim (λ lt. inr lt) (λ le. inl le) (cases_lt k (length code))

pub target_within : (code : List Insn) (i : ℕ) (x : Insn) (z : ℤ) → IsKept code i x 5 → target_of i x ≡ Some z → (k : ℕ) × (z ≡ pos k) × (k < length code)
target_within code i x (pos k) kept e =
    ⊎_elim (λ le. absurd (kept TargetOutside (omega arith) (some_from (target_of i x) (pos k) _ e (past_end code k le)))) (λ lt. (k, refl, lt)) (get_within code k)
target_within code i x (negsuc k) kept e = absurd (kept TargetOutside (omega arith) (some_from (target_of i x) (negsuc k) _ e refl))

pub clear : (n k : ℕ) → slice_index_or (replicate n false) k false ≡ false
clear zero k = refl
clear (suc n) zero = refl
clear (suc n) (suc k) = clear n k

first_set : (reached : List Bool) (k : ℕ) → 1 ≤ length reached → k ≡ 0 → slice_index_or (slice_set reached 0 true) k false ≡ true
first_set [] k h e = absurd (omega arith)
first_set (b ∷ reached) zero h e = refl
first_set (b ∷ reached) (suc k) h e = absurd (omega arith)

set_first : (reached : List Bool) (k : ℕ) → ((j : ℕ) → slice_index_or reached j false ≡ false) → slice_index_or (slice_set reached 0 true) k false ≡ true → k ≡ 0
set_first reached zero h e = refl
set_first [] (suc k) h e = cc
set_first (b ∷ reached) (suc k) h e = let f = h (suc k) in cc

-- with the first slot marked alone
pub walked_none : (code : List Insn) (reached : List Bool) → 1 ≤ length reached → ((k : ℕ) → slice_index_or reached k false ≡ false) → IsWalked code 0 (slice_set reached 0 true)
walked_none code reached some h = none_walked code (slice_set reached 0 true) (λ k lt e. first_set reached k some e) (λ k. set_first reached k h)
