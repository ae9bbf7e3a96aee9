-- The heads of journals, and the next of them.
use Rattle.std.proofs.Common.{◌≡◌, ◌≢◌, ℕ, suc, ◌+◌, ◌<◌, ◌≤◌, List, [], ◌∷◌, length, get_or, set, sym, subst, ◌∙◌, inl, inr, ap, arith, refl, Option, None, Some}
use Rattle.std.specs.Prelude.{All, Contains, MatchOption, IsPermutation, ◌==◌, if◌then◌else◌, Bool, slice_get}
use Rattle.std.proofs.lemmas.Bool.{cases_eq}
use Rattle.std.proofs.lemmas.Bool.Decides.{eqb_tells}
use Rattle.std.proofs.lemmas.Option.{same_Some}
use Rattle.std.proofs.lemmas.List.{get_or-set_other}
use Rattle.std.proofs.lemmas.List.Elements.{All-contains, All-head, All-tail, All-cons, All-nil}
use Rattle.std.proofs.lemmas.List.Sums.{sum_by-cons}
use Rattle.std.proofs.lemmas.List.Sorted.{All-permutation, sum_by_pushed, sum_by_popped}
use Rattle.journal.specs.Entry.{Entry}
use Rattle.journal.specs.Logs.{Log}
use Rattle.world.specs.Represents.{log_at}
use Rattle.journal.specs.Stamps.{stamp_of}
use Rattle.audit_replay.specs.declared.heads.Head.{Head}
use Rattle.audit_replay.specs.Turns.{IsHead, IsHeadOf, IsHeadNotAfter, IsNotAfter, IsNextBelow, NoneBelow, AreHeads, AreHeadsBelow, Joins, Leaves, heads_at, due, count_at}

pub not_after_trans : (s v t w u x : ℕ) → IsNotAfter s v t w → IsNotAfter t w u x → IsNotAfter s v u x
not_after_trans s v t w u x (inl a) (inl b) = inl (omega arith)
not_after_trans s v t w u x (inl a) (inr b) = inl (omega (arith, b.0))
not_after_trans s v t w u x (inr a) (inl b) = inl (omega (arith, a.0))
not_after_trans s v t w u x (inr a) (inr b) = inr (a.0 ∙ b.0, omega (arith, a.1, b.1))

abbrev one_at : ℕ → Head → ℕ
one_at index head = if head.index == index then 1 else 0

is_one : (index : ℕ) (head : Head) → head.index ≡ index → one_at index head ≡ 1
is_one index head same = elim (eqb_tells head.index index) [
  | inl is ↦ ap (λ (b : Bool). if b then 1 else 0) is.0
  | inr not ↦ absurd (not.1 same)
]

is_none : (index : ℕ) (head : Head) → head.index ≢ index → one_at index head ≡ 0
is_none index head other = elim (eqb_tells head.index index) [
  | inl is ↦ absurd (other is.1)
  | inr not ↦ ap (λ (b : Bool). if b then 1 else 0) not.0
]

-- where there are none of a journal, each is another's
no_head : (index : ℕ) (heads : List Head) → heads_at index heads ≡ 0 → All (λ head. head.index ≢ index) heads
no_head index [] none = All-nil (λ (h : Head). h.index ≢ index)
no_head index (head ∷ heads) none = All-cons (λ (h : Head). h.index ≢ index) head heads (λ same. let one = is_one index head same in omega (arith, one, none, sum_by-cons (one_at index) head heads)) (no_head index heads (omega (arith, none, sum_by-cons (one_at index) head heads)))

-- where there is one, it is found
some_head : (index : ℕ) (heads : List Head) → heads_at index heads ≡ 1 → (head : Head) × Contains heads head × (head.index ≡ index)
some_head index [] one = absurd (omega (arith, one))
some_head index (head ∷ heads) one = elim (cases_eq head.index index) [
  | inl same ↦ (head, (0, omega arith, refl), same)
  | inr other ↦
      (let none = is_none index head other in
      let rest = some_head index heads (omega (arith, none, one, sum_by-cons (one_at index) head heads)) in
      (rest.0, (suc rest.1.0, omega (arith, rest.1.1), rest.1.2), rest.2))
]

-- a head that isn't after what is told of a journal's isn't after that journal's
not_after_told : (logs : List Log) (counts : List ℕ) (h g : Head) (index : ℕ) (e : Entry) → g.index ≡ index → IsHeadOf logs counts g.index g → IsHeadNotAfter h g → IsHead logs counts index e → IsNotAfter h.stamp h.vnode (stamp_of e) (log_at logs index).vnode
not_after_told logs counts h g index e at told first is =
    let here : IsHeadOf logs counts index g = subst (λ (i : ℕ). IsHeadOf logs counts i g) at told in
    let same : here.2.0 ≡ e = same_Some here.2.0 e (sym here.2.1.1 ∙ is.1) in
    let stamp : g.stamp ≡ stamp_of e = here.2.2 ∙ ap stamp_of same in
    subst (λ (v : ℕ). IsNotAfter h.stamp h.vnode (stamp_of e) v) here.1 (subst (λ (t : ℕ). IsNotAfter h.stamp h.vnode t g.vnode) stamp first)

-- the first of all heads is the next one
pub next_is_first : (logs : List Log) (counts : List ℕ) (old new : List Head) (h : Head) → AreHeads logs counts old → Leaves old h new → IsNextBelow logs counts (length logs) h
next_is_first logs counts old new h are leaves = (own.0, own.1, firsts)
  where
    own : (h.index < length logs) × IsHeadOf logs counts h.index h
    own = All-head (λ (g : Head). (g.index < length logs) × IsHeadOf logs counts g.index g) h new (All-permutation (λ (g : Head). (g.index < length logs) × IsHeadOf logs counts g.index g) old (h ∷ new) leaves.0 are.each)

    firsts : (index : ℕ) (e : Entry) → index < length logs → IsHead logs counts index e → IsNotAfter h.stamp h.vnode (stamp_of e) (log_at logs index).vnode
    firsts index e lt is =
        let g = some_head index old (are.all index lt ∙ ap due is.1) in
        not_after_told logs counts h g.0 index e g.2 (All-contains (λ (f : Head). (f.index < length logs) × IsHeadOf logs counts f.index f) old g.0 are.each g.1).1 (All-contains (λ (f : Head). IsHeadNotAfter h f) old g.0 leaves.1 g.1) is

-- where there are no heads, nothing is to come
pub none_left : (logs : List Log) (counts : List ℕ) (heads : List Head) → AreHeads logs counts heads → heads ≡ [] → NoneBelow logs counts (length logs)
none_left logs counts heads are none index e lt is =
    let one = are.all index lt ∙ ap due is.1 in
    let zero : heads_at index heads ≡ 0 = ap (heads_at index) none in
    omega (arith, one, zero)

-- a told head of another journal stays told where one journal's count changes
told_still : (logs : List Log) (counts : List ℕ) (index count : ℕ) (end : ℕ) (heads : List Head) → All (λ h. h.index ≢ index) heads → All (λ h. (h.index < end) × IsHeadOf logs counts h.index h) heads → All (λ h. (h.index < end) × IsHeadOf logs (set counts index count) h.index h) heads
told_still logs counts index count end heads others told k d lt =
    let h = get_or heads k d in
    let t = told k d lt in
    (t.0, subst (λ (n : ℕ). (h.index ≡ h.index) × (h.vnode ≡ (log_at logs h.index).vnode) × ((e : Entry) × ((h.index < length logs) × (slice_get (log_at logs h.index).entries n ≡ Some e)) × (h.stamp ≡ stamp_of e))) (sym (get_or-set_other counts index h.index count 0 (others k d lt))) t.1)

-- at most one is due
due_most : (e : Option Entry) → due e ≤ 1
due_most None = omega arith
due_most (Some e) = omega arith

-- the heads of all journals stay those where the next one's journal goes on
pub heads_go_on : (logs : List Log) (counts : List ℕ) (count : ℕ) (old mid new : List Head) (h : Head) → length counts ≡ length logs → AreHeads logs counts old → Leaves old h mid → Joins logs (set counts h.index count) h.index mid new → AreHeads logs (set counts h.index count) new
heads_go_on logs counts count old mid new h size are leaves joins = record { each = each; all = all }
  where
    k : ℕ
    k = h.index

    after : List ℕ
    after = set counts k count

    own : (k < length logs) × IsHeadOf logs counts k h
    own = All-head (λ (g : Head). (g.index < length logs) × IsHeadOf logs counts g.index g) h mid (All-permutation (λ (g : Head). (g.index < length logs) × IsHeadOf logs counts g.index g) old (h ∷ mid) leaves.0 are.each)

    popped : (i : ℕ) → heads_at i mid + one_at i h ≡ heads_at i old
    popped i = sum_by_popped (one_at i) h old mid leaves.0

    none : heads_at k mid ≡ 0
    none = omega (arith, popped k, is_one k h refl, are.all k own.0, due_most (slice_get (log_at logs k).entries (count_at counts k)))

    others : All (λ g. g.index ≢ k) mid
    others = no_head k mid none

    told : All (λ g. (g.index < length logs) × IsHeadOf logs after g.index g) mid
    told = told_still logs counts k count (length logs) mid others (All-tail (λ (g : Head). (g.index < length logs) × IsHeadOf logs counts g.index g) h mid (All-permutation (λ (g : Head). (g.index < length logs) × IsHeadOf logs counts g.index g) old (h ∷ mid) leaves.0 are.each))

    same_due : (i : ℕ) → i ≢ k → due (slice_get (log_at logs i).entries (count_at counts i)) ≡ due (slice_get (log_at logs i).entries (count_at after i))
    same_due i other = ap (λ (n : ℕ). due (slice_get (log_at logs i).entries n)) (sym (get_or-set_other counts k i count 0 other))

    before : (i : ℕ) → i < length logs → i ≢ k → heads_at i mid ≡ due (slice_get (log_at logs i).entries (count_at after i))
    before i lt other = omega (arith, popped i, is_none i h (λ same. other (sym same)), are.all i lt, same_due i other)

    joined : (o : Option Entry) → slice_get (log_at logs k).entries (count_at after k) ≡ o → MatchOption o (new ≡ mid) (λ e. (g : Head) × IsHeadOf logs after k g × IsPermutation (g ∷ mid) new) → AreHeads logs after new
    joined None is same = record {
      each = subst (λ (gs : List Head). All (λ g. (g.index < length logs) × IsHeadOf logs after g.index g) gs) (sym same) told;
      all = λ i lt. ap (heads_at i) same ∙ elim (cases_eq i k) [
        | inl at ↦ ap (λ (j : ℕ). heads_at j mid) at ∙ none ∙ sym (ap (λ (j : ℕ). due (slice_get (log_at logs j).entries (count_at after j))) at ∙ ap due is)
        | inr other ↦ before i lt other
      ];
    }
    joined (Some e) is (g, of, more) = record {
      each = All-permutation (λ (f : Head). (f.index < length logs) × IsHeadOf logs after f.index f) (g ∷ mid) new more (All-cons (λ (f : Head). (f.index < length logs) × IsHeadOf logs after f.index f) g mid (subst (λ (i : ℕ). (i < length logs) × IsHeadOf logs after i g) (sym of.0) (own.0, of)) told);
      all = λ i lt. sum_by_pushed (one_at i) g mid new more ∙ elim (cases_eq i k) [
        | inl at ↦ omega (arith, is_one i g (of.0 ∙ sym at), ap (λ (j : ℕ). heads_at j mid) at, none, ap (λ (j : ℕ). due (slice_get (log_at logs j).entries (count_at after j))) at, ap due is)
        | inr other ↦ omega (arith, is_none i g (λ same. other (sym same ∙ of.0)), before i lt other)
      ];
    }

    is : AreHeads logs after new
    is = joined (slice_get (log_at logs k).entries (count_at after k)) refl joins

    each : All (λ g. (g.index < length logs) × IsHeadOf logs after g.index g) new
    each = is.each

    all : (i : ℕ) → i < length logs → heads_at i new ≡ due (slice_get (log_at logs i).entries (count_at after i))
    all = is.all

-- one journal more
pub heads_more : (logs : List Log) (counts : List ℕ) (end : ℕ) (old new : List Head) → AreHeadsBelow logs counts end old → Joins logs counts end old new → AreHeadsBelow logs counts (end + 1) new
heads_more logs counts end old new are joins = joined (slice_get (log_at logs end).entries (count_at counts end)) refl joins
  where
    none : (heads : List Head) → All (λ g. (g.index < end) × IsHeadOf logs counts g.index g) heads → heads_at end heads ≡ 0
    none [] told = refl
    none (g ∷ heads) told =
        let lt = (All-head (λ (f : Head). (f.index < end) × IsHeadOf logs counts f.index f) g heads told).0 in
        omega (arith, sum_by-cons (one_at end) g heads, is_none end g (λ same. omega (arith, same, lt)), none heads (All-tail (λ (f : Head). (f.index < end) × IsHeadOf logs counts f.index f) g heads told))

    wider : All (λ g. (g.index < end + 1) × IsHeadOf logs counts g.index g) old
    wider n d lt = let t = are.each n d lt in (omega (arith, t.0), t.1)

    joined : (o : Option Entry) → slice_get (log_at logs end).entries (count_at counts end) ≡ o → MatchOption o (new ≡ old) (λ e. (g : Head) × IsHeadOf logs counts end g × IsPermutation (g ∷ old) new) → AreHeadsBelow logs counts (end + 1) new
    joined None is same = record {
      each = subst (λ (gs : List Head). All (λ g. (g.index < end + 1) × IsHeadOf logs counts g.index g) gs) (sym same) wider;
      all = λ i lt. ap (heads_at i) same ∙ elim (cases_eq i end) [
        | inl at ↦ ap (λ (j : ℕ). heads_at j old) at ∙ none old are.each ∙ sym (ap (λ (j : ℕ). due (slice_get (log_at logs j).entries (count_at counts j))) at ∙ ap due is)
        | inr other ↦ are.all i (omega arith)
      ];
    }
    joined (Some e) is (g, of, more) = record {
      each = All-permutation (λ (f : Head). (f.index < end + 1) × IsHeadOf logs counts f.index f) (g ∷ old) new more (All-cons (λ (f : Head). (f.index < end + 1) × IsHeadOf logs counts f.index f) g old (subst (λ (i : ℕ). (i < end + 1) × IsHeadOf logs counts i g) (sym of.0) (omega arith, of)) wider);
      all = λ i lt. sum_by_pushed (one_at i) g old new more ∙ elim (cases_eq i end) [
        | inl at ↦ omega (arith, is_one i g (of.0 ∙ sym at), ap (λ (j : ℕ). heads_at j old) at, none old are.each, ap (λ (j : ℕ). due (slice_get (log_at logs j).entries (count_at counts j))) at, ap due is)
        | inr other ↦ omega (arith, is_none i g (λ same. other (sym same ∙ of.0)), are.all i (omega arith))
      ];
    }

-- the next one, as it was told of counts that were read
pub next_read : (logs : List Log) (told counts : List ℕ) (h : Head) (place : ℕ) (old new : List Head) → told ≡ counts → (IsNextBelow logs told (length logs) h × (place ≡ count_at told h.index) × Leaves old h new) → IsNextBelow logs counts (length logs) h × (place ≡ count_at counts h.index) × Leaves old h new
next_read logs told counts h place old new same is = subst (λ (cs : List ℕ). IsNextBelow logs cs (length logs) h × (place ≡ count_at cs h.index) × Leaves old h new) same is
