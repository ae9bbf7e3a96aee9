-- Each journal has as many entries as there are receipts for it.
use Rattle.std.proofs.Common.{◌≡◌, ◌≢◌, ℕ, zero, suc, ◌+◌, ◌≤◌, ◌==◌, if◌then◌else◌, true, false, List, [], ◌∷◌, ◌++◌, length, map, ◌<◌, slice_index, Ok, Err, refl, sym, ap, ◌∙◌, subst, arith, eq-eqb}
use Rattle.std.specs.List.{sum_by}
use Rattle.std.specs.List.Sorted.{IsPermutation, IsStrictlyIncreasing}
use Rattle.std.proofs.lemmas.List.Sorted.{sum_by-IsPermutation}
use Rattle.std.proofs.lemmas.List.Sums.{sum_by-cons}
use mathlib.Core.Option.{some, some-injective, some-ne-none}
use lib.ListN.{get_elem?}
use Rattle.std.proofs.lemmas.Bool.Decides.{nat_tests}
use Rattle.cluster_stamps.specs.declared.view.News.{News}
use Rattle.cluster_stamps.specs.declared.view.News.TheVariants as news
use Rattle.cluster_stamps.specs.declared.view.Told.{Told}
use Rattle.cluster_stamps.specs.declared.view.History.{History}
use Rattle.cluster_stamps.specs.Rule.{total, times, entry_count, entries, seen, InOrder, AreInOrder, IsWhole, all_told}
use Rattle.cluster_stamps.proofs.Sums.{total-append}
use Rattle.cluster_stamps.proofs.Known.{ordered_at}
use Rattle.cluster_stamps.proofs.Orders.{map_append}
use Rattle.journal.specs.Entry.{Entry}
use Rattle.journal.specs.Logs.{Log}
use Rattle.cluster_stamps.specs.declared.request.Reply.{Reply}
use Rattle.cluster_stamps.specs.declared.request.Request.{Request}
use Rattle.cluster_stamps.specs.declared.request.Request.TheVariants as request
use Rattle.cluster_stamps.specs.Answered.{entry_of}
use Rattle.cluster_vnode.specs.Answers.{entries_of, entries_made}
use Rattle.journal.specs.Stamps.{stamp_of}
use Rattle.cluster_vnode.specs.Gathers.{AreVnodes, receipts_of, AreCounted, journal_stamps}
use Rattle.cluster_vnode.proofs.Calls.{length_entries}

total_sum : {A : Type 0} (f : A → ℕ) (xs : List A) → total f xs ≡ sum_by f xs
total_sum f [] = refl
total_sum f (x ∷ xs) = ap (λ n. f x + n) (total_sum f xs) ∙ sym (sum_by-cons f x xs)

total_moved : {A : Type 0} (f : A → ℕ) (xs ys : List A) → IsPermutation xs ys → total f xs ≡ total f ys
total_moved f xs ys p = total_sum f xs ∙ sym (sum_by-IsPermutation f xs ys p) ∙ sym (total_sum f ys)

abbrev weight : ℕ → Told → ℕ
weight number t = if t.vnode == number then entry_count t.news else 0

-- in one vnode's history all are its own
mine : (number vnode at low : ℕ) (ts : List Told) → InOrder vnode at low ts → vnode ≡ number → total (weight number) ts ≡ entries ts
mine number vnode at low [] o e = refl
mine number vnode at low (t ∷ ts) o e = let yes : (t.vnode == number) ≡ true = eq-eqb t.vnode number (o.0 ∙ e) in let r = mine number vnode (seen t) (suc t.stamp) ts o.3 e in rw yes (omega arith)

others : (number vnode at low : ℕ) (ts : List Told) → InOrder vnode at low ts → vnode ≢ number → total (weight number) ts ≡ 0
others number vnode at low [] o ne = refl
others number vnode at low (t ∷ ts) o ne = let no : (t.vnode == number) ≡ false = grind (arith, nat_tests) in let r = others number vnode (seen t) (suc t.stamp) ts o.3 ne in rw no (omega arith)

-- an entry has the stamp of its call
pub stamp_entry : (s : ℕ) (q : Request) (a : Reply) → stamp_of (entry_of s q a) ≡ s
stamp_entry s (request.Put key seen content) a = refl
stamp_entry s (request.Merge key from at state) a = refl
stamp_entry s (request.Read key) a = refl
stamp_entry s (request.Summary key) a = refl
stamp_entry s (request.Part key from at part) a = refl
stamp_entry s request.Restart a = refl

-- the stamps rise from low on
abbrev Rise : ℕ → List Entry → Type 0
Rise low [] = Unit {0}
Rise low (e ∷ es) = (low ≤ stamp_of e) × Rise (suc (stamp_of e)) es

increasing : (low : ℕ) (es : List Entry) → Rise low es → IsStrictlyIncreasing (map stamp_of es)
increasing low [] r k h = absurd (omega arith)
increasing low (x ∷ []) r k h = absurd (omega arith)
increasing low (x ∷ y ∷ es) r zero h = let le = r.1.0 in omega arith
increasing low (x ∷ y ∷ es) r (suc k) h =
    let next : suc (k + 1) ≡ suc k + 1 = omega arith in
    let rest : slice_index (map stamp_of (y ∷ es)) k < slice_index (map stamp_of (y ∷ es)) (k + 1) = increasing (suc (stamp_of x)) (y ∷ es) r.1 k (let l = h in omega arith) in
    subst (λ n. slice_index (map stamp_of (y ∷ es)) k < slice_index (map stamp_of (x ∷ y ∷ es)) n) next rest

rises : (vnode at low : ℕ) (ts : List Told) → InOrder vnode at low ts → (bottom : ℕ) → bottom ≤ low → Rise bottom (entries_of ts)
rises vnode at low [] o bottom le = tt
rises vnode at low (t ∷ ts) o bottom le = by t.news (λ b h. rises vnode (seen t) (suc t.stamp) ts o.3 b h)
  where
    by : (n : News) → ((b : ℕ) → b ≤ suc t.stamp → Rise b (entries_of ts)) → Rise bottom (entries_made t.stamp n ++ entries_of ts)
    by (news.Call q (Ok a)) rest = subst (λ n. (bottom ≤ n) × Rise (suc n) (entries_of ts)) (sym (stamp_entry t.stamp q a)) ((let p = o.2 in omega arith), rest (suc t.stamp) (omega arith))
    by (news.Call q (Err f)) rest = rest bottom (let p = o.2 in omega arith)
    by (news.HandOut first entries) rest = rest bottom (let p = o.2 in omega arith)

abbrev numbers : List History → List ℕ
numbers hs = map (λ h. h.vnode) hs

none_of : (number : ℕ) (hs : List History) → AreInOrder [] hs → times number (numbers hs) ≡ 0 → total (weight number) (all_told hs) ≡ 0
none_of number [] o z = refl
none_of number (h ∷ hs) o z =
    let ne : h.vnode ≢ number = λ e. (let yes : (h.vnode == number) ≡ true = eq-eqb h.vnode number e in let k : 1 + times number (numbers hs) ≡ 0 = rw yes at z in absurd (omega arith)) in
    let no : (h.vnode == number) ≡ false = grind (arith, nat_tests) in
    let rest : times number (numbers hs) ≡ 0 = (let k : 0 + times number (numbers hs) ≡ 0 = rw no at z in omega arith) in
    omega (arith, total-append (weight number) h.told (all_told hs), others number h.vnode 0 0 h.told o.0 ne, none_of number hs o.2 rest)

one_of : (number : ℕ) (hs : List History) (i : ℕ) (h : History) → AreInOrder [] hs → times number (numbers hs) ≤ 1 → get_elem? hs i ≡ some h → h.vnode ≡ number → total (weight number) (all_told hs) ≡ entries h.told
one_of number [] i h o few at e = absurd (some-ne-none h (sym at))
one_of number (x ∷ xs) zero h o few at e =
    let is : x ≡ h = some-injective x h at in
    let same : x.vnode ≡ number = ap (λ (y : History). y.vnode) is ∙ e in
    let yes : (x.vnode == number) ≡ true = eq-eqb x.vnode number same in
    let rest : times number (numbers xs) ≡ 0 = (let k : 1 + times number (numbers xs) ≤ 1 = rw yes at few in omega arith) in
    let told = ap (λ (y : History). entries y.told) is in
    omega (arith, total-append (weight number) x.told (all_told xs), mine number x.vnode 0 0 x.told o.0 same, none_of number xs o.2 rest)
one_of number (x ∷ xs) (suc i) h o few at e =
    let some_there : 1 ≤ times number (numbers xs) = there number xs i h at e in
    let ne : x.vnode ≢ number = λ e. (let yes : (x.vnode == number) ≡ true = eq-eqb x.vnode number e in let k : 1 + times number (numbers xs) ≤ 1 = rw yes at few in absurd (omega arith)) in
    let no : (x.vnode == number) ≡ false = grind (arith, nat_tests) in
    let rest : times number (numbers xs) ≤ 1 = (let k : 0 + times number (numbers xs) ≤ 1 = rw no at few in omega arith) in
    omega (arith, total-append (weight number) x.told (all_told xs), others number x.vnode 0 0 x.told o.0 ne, one_of number xs i h o.2 rest at e)
  where
    there : (number : ℕ) (xs : List History) (i : ℕ) (h : History) → get_elem? xs i ≡ some h → h.vnode ≡ number → 1 ≤ times number (numbers xs)
    there number [] i h at e = absurd (some-ne-none h (sym at))
    there number (x ∷ xs) zero h at e = let yes : (x.vnode == number) ≡ true = eq-eqb x.vnode number (ap (λ (y : History). y.vnode) (some-injective x h at) ∙ e) in rw yes (omega arith)
    there number (x ∷ xs) (suc i) h at e = omega (arith, there number xs i h at e)

pub counted : (ts : List Told) (all : List History) → IsWhole ts all → (vs : List Log) (hs : List History) → AreVnodes vs hs → ((i : ℕ) (h : History) → get_elem? hs i ≡ some h → (j : ℕ) × (get_elem? all j ≡ some h)) → AreCounted ts vs
counted ts all w [] hs a at = tt
counted ts all w (v ∷ vs) [] a at = absurd a
counted ts all w (v ∷ vs) (h ∷ hs) a at =
    let here = at 0 h refl in
    let whole : total (weight v.vnode) (all_told all) ≡ entries h.told = one_of v.vnode all here.0 h w.ordered (w.alone v.vnode) here.1 a.0.number_is in
    let count : length v.entries ≡ receipts_of v.vnode ts = sym (ap length a.0.journal_is) ∙ length_entries h.told ∙ sym whole ∙ sym (total_moved (weight v.vnode) ts (all_told all) w.told) in
    (count, increasing 0 v.entries (subst (λ es. Rise 0 es) a.0.journal_is (rises h.vnode 0 0 h.told (in_order here.0 here.1) 0 (omega arith))), counted ts all w vs hs a.1 (λ i g e. at (suc i) g e))
  where
    in_order : (j : ℕ) → get_elem? all j ≡ some h → InOrder h.vnode 0 0 h.told
    in_order j e = ordered_at [] all j h w.ordered e

times_map : (x : ℕ) (ts : List Told) → times x (map (λ t. t.stamp) ts) ≡ total (λ t. if t.stamp == x then 1 else 0) ts
times_map x [] = refl
times_map x (t ∷ ts) = ap (λ n. (if t.stamp == x then 1 else 0) + n) (times_map x ts)

-- no stamp was told twice
pub told_apart : (ts : List Told) (all : List History) → IsWhole ts all → (x : ℕ) → times x (map (λ t. t.stamp) ts) ≤ 1
told_apart ts all w x = omega (arith, times_map x ts, total_moved (λ t. if t.stamp == x then 1 else 0) ts (all_told all) w.told, times_map x (all_told all), w.once x)

times_append : (x : ℕ) (xs ys : List ℕ) → times x (xs ++ ys) ≡ times x xs + times x ys
times_append x xs ys = total-append (λ y. if y == x then 1 else 0) xs ys

fewer : (x : ℕ) (ts : List Told) → times x (map stamp_of (entries_of ts)) ≤ times x (map (λ t. t.stamp) ts)
fewer x [] = omega arith
fewer x (t ∷ ts) = by t.news (fewer x ts)
  where
    by : (n : News) → times x (map stamp_of (entries_of ts)) ≤ times x (map (λ t. t.stamp) ts) → times x (map stamp_of (entries_made t.stamp n ++ entries_of ts)) ≤ times x (map (λ t. t.stamp) (t ∷ ts))
    by (news.Call q (Ok a)) r = subst (λ n. (if n == x then 1 else 0) + times x (map stamp_of (entries_of ts)) ≤ times x (map (λ u. u.stamp) (t ∷ ts))) (sym (stamp_entry t.stamp q a)) (omega arith)
    by (news.Call q (Err f)) r = omega arith
    by (news.HandOut first entries) r = omega arith

-- no stamp stands twice over all journals
pub stamps_apart : (x : ℕ) (vs : List Log) (hs : List History) → AreVnodes vs hs → times x (journal_stamps vs) ≤ times x (map (λ t. t.stamp) (all_told hs))
stamps_apart x [] [] a = omega arith
stamps_apart x [] (h ∷ hs) a = absurd a
stamps_apart x (v ∷ vs) [] a = absurd a
stamps_apart x (v ∷ vs) (h ∷ hs) a =
    let s : List Entry → List ℕ = map stamp_of in
    let one : times x (s v.entries) ≤ times x (map (λ t. t.stamp) h.told) = subst (λ es. times x (s es) ≤ times x (map (λ t. t.stamp) h.told)) a.0.journal_is (fewer x h.told) in
    let left : times x (journal_stamps (v ∷ vs)) ≡ times x (s v.entries) + times x (journal_stamps vs) = times_append x (s v.entries) (journal_stamps vs) in
    let right : times x (map (λ t. t.stamp) (all_told (h ∷ hs))) ≡ times x (map (λ t. t.stamp) h.told) + times x (map (λ t. t.stamp) (all_told hs)) = ap (times x) (map_append (λ (t : Told). t.stamp) h.told (all_told hs)) ∙ times_append x _ _ in
    omega (arith, stamps_apart x vs hs a.1)
