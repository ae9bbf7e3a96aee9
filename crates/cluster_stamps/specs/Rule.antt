-- The rule of the stamp word: what each pass was told is what the vnodes have told, each once, and no stamp stands twice.
use Rattle.std.specs.Prelude.{◌≡◌, ℕ, zero, suc, ◌+◌, ◌-◌, ◌*◌, ◌<◌, ◌≤◌, ◌==◌, List, [], ◌∷◌, ◌++◌, length, map, slice_index, if◌then◌else◌, Result, Ok, Err}
use Rattle.std.specs.List.{AllPairs, flat_map, Contains}
use Rattle.std.specs.List.Sorted.{IsPermutation}
use mathlib.Core.Option.{some}
use lib.ListN.{get_elem?}
use Rattle.atomic_table.specs.Table.{State}
use Rattle.vnode.specs.declared.fault.PartFault.{PartFault}
use Rattle.cluster_stamps.specs.declared.request.Request.{Request}
use Rattle.cluster_stamps.specs.declared.request.Request.TheVariants as request
use Rattle.cluster_stamps.specs.declared.request.Reply.{Reply}
use Rattle.cluster_stamps.specs.declared.request.Reply.TheVariants as reply
use Rattle.journal.specs.Entry.{Entry}
use Rattle.cluster_stamps.specs.declared.view.News.{News}
use Rattle.cluster_stamps.specs.declared.view.News.TheVariants as news
use Rattle.cluster_stamps.specs.declared.view.Told.{Told}
use Rattle.cluster_stamps.specs.declared.view.History.{History}
use Rattle.cluster_stamps.specs.declared.view.View.{View}
use Rattle.cluster_stamps.specs.declared.view.Size.{Size}

-- f of each, added up
abbrev pub total : {A : Type 0} → (A → ℕ) → List A → ℕ
total f [] = 0
total f (x ∷ xs) = f x + total f xs

-- how often the number stands in the list
abbrev pub times : ℕ → List ℕ → ℕ
times x ys = total (λ y. if y == x then 1 else 0) ys

-- 1 for an accepted call, which has an entry, and 0 for a refused one
abbrev pub outcome_count : Result Reply PartFault → ℕ
outcome_count (Ok a) = 1
outcome_count (Err f) = 0

-- how many entries were made: one by an accepted call, and none where a part of the journal was handed out
abbrev pub entry_count : News → ℕ
entry_count (news.Call request outcome) = outcome_count outcome
entry_count (news.HandOut first entries) = 0

-- how many entries these made
abbrev pub entries : List Told → ℕ
entries ts = total (λ t. entry_count t.news) ts

-- the length that the journal has after this at least
abbrev pub seen : Told → ℕ
seen t = t.at + entry_count t.news

-- of one vnode; each at the length that the journal then has; stamps rise from low on
abbrev pub InOrder : ℕ → ℕ → ℕ → List Told → Type 0
InOrder vnode at low [] = Unit {0}
InOrder vnode at low (t ∷ ts) = (t.vnode ≡ vnode) × (t.at ≡ at) × (low ≤ t.stamp) × InOrder vnode (seen t) (suc t.stamp) ts

-- the least number above the stamps, which rise from low on
abbrev pub above : ℕ → List Told → ℕ
above low [] = low
above low (t ∷ ts) = above (suc t.stamp) ts

-- all that these histories tell
abbrev pub all_told : List History → List Told
all_told hs = flat_map (λ h. h.told) hs

-- the stamps that a seat answers for: of its histories, and the one that is pending
abbrev pub stamps : View → List ℕ
stamps v = v.pending ++ map (λ t. t.stamp) (all_told v.histories)

-- no pending stamp is below n
abbrev pub NoneBelow : ℕ → List ℕ → Type 0
NoneBelow n [] = Unit {0}
NoneBelow n (p ∷ ps) = (n ≤ p) × NoneBelow n ps

-- each history is in order, and its stamps are below what is pending
abbrev pub AreInOrder : List ℕ → List History → Type 0
AreInOrder pending [] = Unit {0}
AreInOrder pending (h ∷ hs) = InOrder h.vnode 0 0 h.told × NoneBelow (above 0 h.told) pending × AreInOrder pending hs

-- 1 where x is below n
abbrev pub once_below : ℕ → ℕ → ℕ
once_below x zero = 0
once_below x (suc n) = if n == x then 1 else once_below x n

-- the most stamps that one pass draws
abbrev pub stamps_each : ℕ
stamps_each = 281474976710656

-- what is so of each view by itself
pub record IsSound (v : View) : Type 0 where
  pub bounded : v.drawn ≤ stamps_each * v.parts
  pub idle : v.parts ≡ 0 → (v.told ≡ []) × (v.owed ≡ [])
  pub ordered : AreInOrder v.pending v.histories

-- the word is the number of stamps drawn; each stamp was drawn and stands once; each vnode has one history; what was told is what the histories tell
pub record IsKept (size : Size) (word : ℕ) (views : List View) : Type 0 where
  pub few : size.passes ≤ 64
  pub parts : total (λ v. v.parts) views ≡ size.passes
  pub vnodes : total (λ v. length v.histories) views ≡ size.vnodes
  pub drawn : total (λ v. v.drawn) views ≡ word
  pub once : (x : ℕ) → total (λ v. times x (stamps v)) views ≤ once_below x word
  pub alone : (x : ℕ) → total (λ v. times x (map (λ h. h.vnode) v.histories)) views ≤ 1
  pub told : IsPermutation (flat_map (λ v. v.told ++ v.owed) views) (flat_map (λ v. all_told v.histories) views)
  pub sound : (i : ℕ) (v : View) → get_elem? views i ≡ some v → IsSound v

-- the rule of the table, which has one word and no slot
abbrev pub Rules : Size → State (Unit {0}) View → Type 0
Rules size s = (s.words ≡ slice_index s.words 0 ∷ []) × IsKept size (slice_index s.words 0) s.views

-- what two seats know together
abbrev pub together : View → View → View
together v w = record { parts = v.parts + w.parts; drawn = v.drawn + w.drawn; pending = v.pending ++ w.pending; told = v.told ++ w.told; owed = v.owed ++ w.owed; histories = v.histories ++ w.histories }

abbrev pub nothing : View
nothing = record { parts = 0; drawn = 0; pending = []; told = []; owed = []; histories = [] }

-- v in two pieces
pub record IsCut (v l r : View) : Type 0 where
  pub parts : v.parts ≡ l.parts + r.parts
  pub drawn : v.drawn ≡ l.drawn + r.drawn
  pub pending : v.pending ≡ l.pending ++ r.pending
  pub told : v.told ≡ l.told ++ r.told
  pub owed : (v.owed ≡ []) × (l.owed ≡ []) × (r.owed ≡ [])
  pub histories : v.histories ≡ l.histories ++ r.histories

-- the view with one more stamp drawn, which is pending
abbrev pub drew : View → ℕ → View
drew v n = record { parts = v.parts; drawn = v.drawn + 1; pending = n ∷ []; told = v.told; owed = v.owed; histories = v.histories }

-- the view with nothing pending
abbrev pub dropped : View → View
dropped v = record { parts = v.parts; drawn = v.drawn; pending = []; told = v.told; owed = v.owed; histories = v.histories }

-- the view after a call was told of, by the one vnode whose history it has
abbrev pub learned : View → History → Told → View
learned v h t = record { parts = v.parts; drawn = v.drawn; pending = []; told = v.told ++ t ∷ []; owed = []; histories = record { vnode = h.vnode; told = h.told ++ t ∷ [] } ∷ [] }

-- what was told of this vnode lies within a journal of this length
abbrev pub IsWithin : ℕ → ℕ → List Told → Type 0
IsWithin vnode n ts = (t : Told) → Contains ts t → t.vnode ≡ vnode → seen t ≤ n

-- a stamp is above those of all that was told
abbrev pub IsAboveAll : ℕ → List Told → Type 0
IsAboveAll stamp ts = (t : Told) → Contains ts t → t.stamp < stamp

-- of any two of these the later one has the greater stamp
abbrev pub StampsRise : List Told → Type 0
StampsRise ts = AllPairs (λ t u. t.stamp < u.stamp) ts

-- all that was told is all that these histories tell, each once; they are in order, of different vnodes, and no stamp stands twice
pub record IsWhole (ts : List Told) (hs : List History) : Type 0 where
  pub told : IsPermutation ts (all_told hs)
  pub ordered : AreInOrder [] hs
  pub alone : (x : ℕ) → times x (map (λ h. h.vnode) hs) ≤ 1
  pub once : (x : ℕ) → times x (map (λ t. t.stamp) (all_told hs)) ≤ 1

-- a history with nothing in it for each of n vnodes, from low on
abbrev pub fresh : ℕ → ℕ → List History
fresh low zero = []
fresh low (suc n) = record { vnode = low; told = [] } ∷ fresh (suc low) n

-- the first seat has all parts, and the histories of all vnodes
abbrev pub newcomer : Size → View
newcomer size = record { parts = size.passes; drawn = 0; pending = []; told = []; owed = []; histories = fresh size.first size.vnodes }

-- what is left when a pass goes: the histories
abbrev pub without_pass : View → View
without_pass v = record { parts = 0; drawn = 0; pending = v.pending; told = []; owed = []; histories = v.histories }

-- the pass: its parts, how many stamps it drew, and what it was told
abbrev pub pass_of : View → View
pass_of v = record { parts = v.parts; drawn = v.drawn; pending = []; told = v.told; owed = []; histories = [] }

-- one part less
abbrev pub less_one : View → View
less_one v = record { parts = v.parts - 1; drawn = v.drawn; pending = v.pending; told = v.told; owed = []; histories = v.histories }

-- a pass that has drawn and was told nothing
abbrev pub one_part : View
one_part = record { parts = 1; drawn = 0; pending = []; told = []; owed = []; histories = [] }

abbrev pub rest_of : List History → List History
rest_of [] = []
rest_of (h ∷ hs) = hs

abbrev pub first_of : List History → List History
first_of [] = []
first_of (h ∷ hs) = h ∷ []

-- the first history alone, and the view without it
abbrev pub less_history : View → View
less_history v = record { parts = v.parts; drawn = v.drawn; pending = v.pending; told = v.told; owed = []; histories = rest_of v.histories }

abbrev pub first_history : View → View
first_history v = record { parts = 0; drawn = 0; pending = []; told = []; owed = []; histories = first_of v.histories }

-- no request
abbrev pub no_request : Request
no_request = request.Restart

-- no call
abbrev pub no_call : Told
no_call = record { vnode = 0; at = 0; stamp = 0; news = news.Call no_request (Ok reply.Done) }

-- a stamp was drawn, which is pending, and above all that the pass was told
abbrev pub Draws : View → ℕ → View → Type 0
Draws v n w = (w ≡ drew v n) × IsAboveAll n v.told

-- the pending stamp was dropped
abbrev pub Drops : View → ℕ → View → Type 0
Drops v n w = w ≡ dropped v

-- the one vnode of the view told its pass of the call
abbrev pub TellsOf : Told → View → View → Type 0
TellsOf t v w = (h : History) → v.histories ≡ h ∷ [] → (w ≡ learned v h t) × IsWithin h.vnode (entries h.told) v.told

-- the view is as it was, and what its pass was told of its one vnode lies within the journal
abbrev pub Looks : View → View → Type 0
Looks v w = (w ≡ v) × ((h : History) → v.histories ≡ h ∷ [] → IsWithin h.vnode (entries h.told) v.told)

-- the vnode has a further entry, of which its pass is still to be told
abbrev pub appended : View → History → Told → View
appended v h t = record { parts = v.parts; drawn = v.drawn; pending = []; told = v.told; owed = t ∷ []; histories = record { vnode = h.vnode; told = h.told ++ t ∷ [] } ∷ [] }

-- the pass was told
abbrev pub settled : View → View
settled v = record { parts = v.parts; drawn = v.drawn; pending = v.pending; told = v.told ++ v.owed; owed = []; histories = v.histories }

-- the one vnode of the view has a further entry, and shows how long its journal was
abbrev pub AppendsOf : Told → View → View → Type 0
AppendsOf t v w = (h : History) → v.histories ≡ h ∷ [] → (w ≡ appended v h t) × IsWithin h.vnode (entries h.told) v.told

-- the pass was told of what it was owed
abbrev pub Settles : View → View → Type 0
Settles v w = w ≡ settled v

-- a call of a vnode: the length of its journal before it, its stamp, what was asked, and what came of it
abbrev pub call_of : ℕ → ℕ → ℕ → Request → Result Reply PartFault → Told
call_of vnode at stamp asked outcome = record { vnode = vnode; at = at; stamp = stamp; news = news.Call asked outcome }

-- a part of a vnode's journal was handed out: the length of the journal, the stamp, the place of the first entry, and the entries
abbrev pub hand_out_of : ℕ → ℕ → ℕ → ℕ → List Entry → Told
hand_out_of vnode at stamp first entries = record { vnode = vnode; at = at; stamp = stamp; news = news.HandOut first entries }
