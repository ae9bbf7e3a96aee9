-- Vnodes and their histories, one more.
use Rattle.std.proofs.Common.{◌≡◌, ℕ, ◌+◌, List, [], ◌∷◌, ◌++◌, ap, ◌∙◌, arith, add-zero, suc, ◌-◌, ◌<◌}
use Rattle.std.proofs.lemmas.List.{append-nil}
use Rattle.cluster_stamps.specs.declared.view.History.{History}
use Rattle.cluster_stamps.specs.declared.view.View.{View}
use Rattle.cluster_stamps.specs.Rule.{together, fresh, first_history, less_history}
use Rattle.cluster_vnode.specs.Calls.{undealt}
use Rattle.journal.specs.Logs.{Log}
use Rattle.cluster_vnode.specs.Answers.{IsVnodes}
use Rattle.cluster_vnode.specs.Gathers.{IsHistory, AreVnodes}

pub vnodes_push : (vs : List Log) (hs : List History) (v : Log) (h : History) → AreVnodes vs hs → IsHistory v h → AreVnodes (vs ++ v ∷ []) (hs ++ h ∷ [])
vnodes_push [] [] v h a i = (i, tt)
vnodes_push [] (k ∷ ks) v h a i = absurd a
vnodes_push (u ∷ us) [] v h a i = absurd a
vnodes_push (u ∷ us) (k ∷ ks) v h a i = (a.0, vnodes_push us ks v h a.1 i)

pub history_of : (v : Log) (w : View) (is : IsVnodes v w) → IsHistory v is.history
history_of v w is = record { number_is = is.number_is; journal_is = is.journal_is; answered = is.answered }

-- the view that takes in a vnode's
abbrev pub with_history : View → History → View
with_history v h = record { parts = v.parts; drawn = v.drawn; pending = v.pending; told = v.told; owed = v.owed; histories = v.histories ++ h ∷ [] }

pub takes_in : (v w : View) (h : History) → w ≡ record { parts = 0; drawn = 0; pending = []; told = []; owed = []; histories = h ∷ [] } → together v w ≡ with_history v h
takes_in v w h e = ap (λ (y : View). together v y) e ∙ (λ i. record { parts = add-zero v.parts i; drawn = add-zero v.drawn i; pending = append-nil v.pending i; told = append-nil v.told i; owed = append-nil v.owed i; histories = v.histories ++ h ∷ [] })

pub fresh_more : (low i n : ℕ) → i < n → fresh (low + i) (n - i) ≡ record { vnode = low + i; told = [] } ∷ fresh (low + (i + 1)) (n - (i + 1))
fresh_more low i n h =
    let e : n - i ≡ suc (n - (i + 1)) = omega arith in
    let next : suc (low + i) ≡ low + (i + 1) = omega arith in
    ap (fresh (low + i)) e ∙ ap (λ k. record { vnode = low + i; told = [] } ∷ fresh k (n - (i + 1))) next

-- what a vnode's card has at the start, and what is left
pub first_of_fresh : (low i n : ℕ) (v : View) → i < n → v ≡ undealt 0 (fresh (low + i) (n - i)) → first_history v ≡ undealt 0 (record { vnode = low + i; told = [] } ∷ [])
first_of_fresh low i n v h e = ap first_history (e ∙ ap (undealt 0) (fresh_more low i n h))

pub rest_of_fresh : (low i n : ℕ) (v : View) → i < n → v ≡ undealt 0 (fresh (low + i) (n - i)) → less_history v ≡ undealt 0 (fresh (low + (i + 1)) (n - (i + 1)))
rest_of_fresh low i n v h e = ap less_history (e ∙ ap (undealt 0) (fresh_more low i n h))
