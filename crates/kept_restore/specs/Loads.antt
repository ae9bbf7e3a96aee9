-- What a pass is told while a vnode takes records over.
use Rattle.std.specs.Prelude.{◌≡◌, ℕ, ◌+◌, Bool, List, [], ◌∷◌, ◌++◌, length}
use Rattle.cluster_stamps.specs.declared.request.Request.TheVariants as request
use Rattle.cluster_stamps.specs.declared.request.Reply.TheVariants as reply
use Rattle.cluster_stamps.specs.Rule.{call_of}
use Rattle.cluster_stamps.specs.declared.view.Told.{Told}
use Rattle.cluster_stamps.specs.declared.view.View.{View}
use Rattle.cluster_vnode.specs.Calls.{IsNews, outcome_ok}
use Rattle.record_codec.specs.declared.record.Record.{Record}

-- the stamp that a merge drew, and whether it changed something
pub record Mark : Type 0 where
  pub stamp : ℕ
  pub changed : Bool

-- a record was merged at a place of a vnode's journal
abbrev pub merge_told : ℕ → ℕ → Record → Mark → Told
merge_told id place r m = call_of id place m.stamp (request.Merge r.key r.from r.at r.state) (outcome_ok (reply.Changed m.changed))

-- a pass was told, and of nothing else, that a record was merged at a place of a vnode's journal
abbrev pub IsMerged : View → View → ℕ → ℕ → Record → Type 0
IsMerged old new id place r = (changed : Bool) × (stamp : ℕ) × IsNews old new (call_of id place stamp (request.Merge r.key r.from r.at r.state) (outcome_ok (reply.Changed changed)))

-- records were merged one behind another, the first of them at a place
abbrev pub merges_told : ℕ → ℕ → List Record → List Mark → List Told
merges_told id place [] marks = []
merges_told id place (r ∷ records) [] = []
merges_told id place (r ∷ records) (m ∷ marks) = merge_told id place r m ∷ merges_told id (place + 1) records marks

-- a pass was told that all these records were merged, in order, from the first entry of a vnode on, and nothing else
abbrev pub HasLoaded : View → View → ℕ → List Record → Type 0
HasLoaded old new id records = (marks : List Mark) × (length marks ≡ length records) × (new.told ≡ old.told ++ merges_told id 0 records marks)
