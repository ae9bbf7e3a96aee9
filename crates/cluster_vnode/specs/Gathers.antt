-- What a gathered cluster shows.
use Rattle.std.specs.Prelude.{◌≡◌, ℕ, ◌<◌, ◌+◌, ◌==◌, if◌then◌else◌, List, [], ◌∷◌, ◌++◌, length, map, slice_index_or}
use Rattle.std.specs.List.{Contains, flat_map}
use Rattle.std.specs.List.Sorted.{IsStrictlyIncreasing}
use Rattle.journal.specs.Entry.{Entry}
use Rattle.journal.specs.Stamps.{stamp_of}
use Rattle.journal.specs.Logs.{Log}
use Rattle.cluster_stamps.specs.Rule.{IsWhole, total, entry_count}
use Rattle.cluster_stamps.specs.declared.view.News.{News}
use Rattle.cluster_stamps.specs.declared.view.News.TheVariants as news
use Rattle.cluster_stamps.specs.declared.view.Told.{Told}
use Rattle.cluster_stamps.specs.declared.view.History.{History}
use Rattle.cluster_vnode.specs.Answers.{IsAnswered, entry_of_call, entries_of, AreAnswered}

-- the history is that of the vnode: its journal has the entries of the accepted calls, and each call was answered as one thread answers it there
pub record IsHistory (v : Log) (h : History) : Type 0 where
  pub number_is : h.vnode ≡ v.vnode
  pub journal_is : entries_of h.told ≡ v.entries
  pub answered : AreAnswered [] h.told

-- the histories are those of the vnodes
abbrev pub AreVnodes : List Log → List History → Type 0
AreVnodes [] [] = Unit {0}
AreVnodes [] (h ∷ hs) = ⊥
AreVnodes (v ∷ vs) [] = ⊥
AreVnodes (v ∷ vs) (h ∷ hs) = IsHistory v h × AreVnodes vs hs

-- what these vnodes told is what was told, each once
abbrev pub IsGathered : List Told → List Log → Type 0
IsGathered ts vs = (hs : List History) × AreVnodes vs hs × IsWhole ts hs

-- The journal is a front, the entry of the call where it has one, and a rest. The front has as many entries as the call says. One thread answers so after it,
-- and what was handed out stands there.
abbrev pub FitsIn : List Entry → Told → Type 0
FitsIn journal t =
    (front : List Entry) × (rest : List Entry) × (journal ≡ front ++ (entry_of_call t ++ rest)) × (length front ≡ t.at) × IsAnswered front t

-- what was told stands in the journal of its vnode
abbrev pub Stands : List Log → Told → Type 0
Stands vs t = (v : Log) × Contains vs v × (v.vnode ≡ t.vnode) × FitsIn v.entries t

-- how many of these calls made an entry of this vnode
abbrev pub receipts_of : ℕ → List Told → ℕ
receipts_of number ts = total (λ t. if t.vnode == number then entry_count t.news else 0) ts

-- each journal has as many entries as there are receipts for it, and its stamps rise
abbrev pub AreCounted : List Told → List Log → Type 0
AreCounted ts [] = Unit {0}
AreCounted ts (v ∷ vs) = (length v.entries ≡ receipts_of v.vnode ts) × IsStrictlyIncreasing (map stamp_of v.entries) × AreCounted ts vs

-- the stamps of all journals
abbrev pub journal_stamps : List Log → List ℕ
journal_stamps vs = flat_map (λ v. map stamp_of v.entries) vs

-- the identifiers of vnodes
abbrev pub numbers_of : List Log → List ℕ
numbers_of vs = map (λ v. v.vnode) vs

-- no two vnodes have one identifier
abbrev pub Differ : List Log → Type 0
Differ vs = (i j : ℕ) → i < length (numbers_of vs) → j < length (numbers_of vs) → slice_index_or (numbers_of vs) i 0 ≡ slice_index_or (numbers_of vs) j 0 → i ≡ j

-- the entries that were handed out
abbrev pub handed : News → List Entry
handed (news.Call request outcome) = []
handed (news.HandOut first entries) = entries

-- a part of the journal was handed out, from this place on
abbrev pub BeginsAt : ℕ → News → Type 0
BeginsAt place (news.Call request outcome) = ⊥
BeginsAt place (news.HandOut first entries) = first ≡ place

-- parts of one vnode's journal were handed out, the first from this place on, and each other from where the one before it ended
abbrev pub AreInTurn : ℕ → ℕ → List Told → Type 0
AreInTurn vnode place [] = Unit {0}
AreInTurn vnode place (t ∷ ts) = (t.vnode ≡ vnode) × BeginsAt place t.news × AreInTurn vnode (place + length (handed t.news)) ts

-- all that was handed out
abbrev pub all_handed : List Told → List Entry
all_handed ts = flat_map (λ t. handed t.news) ts
