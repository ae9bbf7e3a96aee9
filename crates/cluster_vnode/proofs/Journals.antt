-- What is gathered are journals.
use Rattle.std.proofs.Common.{◌≡◌, ◌⊎◌, inl, inr, ℕ, zero, suc, ◌<◌, get_or, List, [], ◌∷◌, ◌++◌, length, sym, subst, arith, append_assoc, append-nil, ⊎_elim, Result, Ok, Err, ◌↔◌}
use Rattle.std.specs.List.{Contains}
use Rattle.journal.specs.Entry.{Entry}
use Rattle.journal.specs.Journals.{IsJournal, MayFollow}
use Rattle.journal.specs.Logs.{Log}
use Rattle.cluster_stamps.specs.Rule.{AreInOrder, InOrder, seen}
use Rattle.cluster_stamps.specs.declared.view.History.{History}
use Rattle.cluster_stamps.specs.declared.view.News.{News}
use Rattle.cluster_stamps.specs.declared.view.News.TheVariants as news
use Rattle.cluster_stamps.specs.declared.view.Told.{Told}
use Rattle.cluster_vnode.specs.Answers.{AreAnswered, IsSaid, entries_made, entries_of, entry_of_call, log_of}
use Rattle.cluster_vnode.specs.Gathers.{AreVnodes, Differ, IsGathered, IsHistory}
use Rattle.cluster_vnode.proofs.Differ.{differ}

module _ (none : (vnode : ℕ) → IsJournal vnode []) (more : (vnode : ℕ) (journal : List Entry) (e : Entry) → IsJournal vnode (journal ++ e ∷ []) ↔ (IsJournal vnode journal × MayFollow vnode journal e)) where
  said : (vnode stamp : ℕ) (front : List Entry) (n : News) → IsSaid (log_of vnode front) stamp n → IsJournal vnode front → IsJournal vnode (front ++ entries_made stamp n)
  said vnode stamp front (news.Call asked (Ok told)) h legal = (more vnode front _).1 (legal, h.0)
  said vnode stamp front (news.Call asked (Err why)) h legal = subst (IsJournal vnode) (sym (append-nil front)) legal
  said vnode stamp front (news.HandOut first entries) h legal = subst (IsJournal vnode) (sym (append-nil front)) legal

  goes : (vnode at low : ℕ) (front : List Entry) (ts : List Told) → InOrder vnode at low ts → AreAnswered front ts → IsJournal vnode front → IsJournal vnode (front ++ entries_of ts)
  goes vnode at low front [] order answered legal = subst (IsJournal vnode) (sym (append-nil front)) legal
  goes vnode at low front (t ∷ ts) order answered legal =
      let here = said vnode t.stamp front t.news (subst (λ n. IsSaid (log_of n front) t.stamp t.news) order.0 answered.0) legal in
      subst (IsJournal vnode) (append_assoc front (entry_of_call t) (entries_of ts)) (goes vnode (seen t) (suc t.stamp) (front ++ entry_of_call t) ts order.3 answered.1 here)

  of_history : (v : Log) (h : History) → IsHistory v h → InOrder h.vnode 0 0 h.told → IsJournal v.vnode v.entries
  of_history v h is order = subst (λ es. IsJournal v.vnode es) is.journal_is (subst (λ n. IsJournal n (entries_of h.told)) is.number_is (goes h.vnode 0 0 [] h.told order is.answered (none h.vnode)))

  each : (vs : List Log) (hs : List History) → AreVnodes vs hs → AreInOrder [] hs → (v : Log) → Contains vs v → IsJournal v.vnode v.entries
  each [] hs are order v c = absurd (let h = c.1 in omega arith)
  each (u ∷ us) [] are order v c = absurd are
  each (u ∷ us) (h ∷ hs) are order v c =
      ⊎_elim (λ (here : u ≡ v). subst (λ (y : Log). IsJournal y.vnode y.entries) here (of_history u h are.0 order.0)) (λ (there : Contains us v). each us hs are.1 order.2 v there) (log_cases u us v c)
    where
      log_cases : (u : Log) (us : List Log) (v : Log) → Contains (u ∷ us) v → (u ≡ v) ⊎ Contains us v
      log_cases u us v c = at c.0 c.1 c.2
        where
          at : (k : ℕ) → k < length (u ∷ us) → get_or (u ∷ us) k v ≡ v → (u ≡ v) ⊎ Contains us v
          at zero h e = inl e
          at (suc k) h e = inr (k, (let l = h in omega arith), e)

  pub are_journals : (told : List Told) (logs : List Log) → IsGathered told logs → (log : Log) → Contains logs log → IsJournal log.vnode log.entries
  are_journals told logs (hs, are, whole) log c = each logs hs are whole.ordered log c

pub differ_all : (told : List Told) (logs : List Log) → IsGathered told logs → Differ logs
differ_all told logs (hs, are, whole) = differ logs hs are whole.alone
