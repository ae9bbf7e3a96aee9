-- What who runs a store has written into its folder (this store's profile).
use Rattle.std.specs.Prelude.{◌≡◌, ◌≢◌, ◌<◌, ◌≤◌, ◌++◌, ℕ, List, [], ◌∷◌, Option, None, Some, codes, unwrap_or}
use Rattle.std.specs.List.{flat_map}
use Rattle.kept_folder.specs.Numbers.{line_of, number_text}
use Rattle.kept_folder.specs.declared.settings.Line.{Line}
use Rattle.kept_folder.specs.declared.settings.Line.TheVariants.{Snapshot, Number, Copies, Sync}
use Rattle.kept_folder.specs.declared.settings.Settings.{Settings}
use Rattle.kept_folder.specs.declared.settings.SyncPolicy.{SyncPolicy}
use Rattle.kept_folder.specs.declared.settings.SyncPolicy.TheVariants.{Always, EverySecond, Never}

-- a line: so many seconds after a snapshot the next one begins
abbrev pub snapshot_text : ℕ → List ℕ
snapshot_text every = line_of (codes "snapshot ") every

-- a line: so many copies of each key are wanted
abbrev pub copies_text : ℕ → List ℕ
copies_text copies = line_of (codes "copies ") copies

-- a line: when the log is forced to the device: before a write is acknowledged, once a second, or when the system likes
abbrev pub sync_text : SyncPolicy → List ℕ
sync_text Always = codes "sync always" ++ 10 ∷ []
sync_text EverySecond = codes "sync everysec" ++ 10 ∷ []
sync_text Never = codes "sync never" ++ 10 ∷ []

-- a line of what is set
abbrev pub text_of : Line → List ℕ
text_of (Snapshot every) = snapshot_text every
text_of (Number least) = number_text least
text_of (Copies copies) = copies_text copies
text_of (Sync sync) = sync_text sync

-- what the first line of each kind says, if there is one
abbrev pub every_in : List Line → Option ℕ
every_in [] = None
every_in (Snapshot every ∷ lines) = Some every
every_in (Number least ∷ lines) = every_in lines
every_in (Copies copies ∷ lines) = every_in lines
every_in (Sync sync ∷ lines) = every_in lines

abbrev pub least_in : List Line → Option ℕ
least_in [] = None
least_in (Snapshot every ∷ lines) = least_in lines
least_in (Number least ∷ lines) = Some least
least_in (Copies copies ∷ lines) = least_in lines
least_in (Sync sync ∷ lines) = least_in lines

abbrev pub copies_in : List Line → Option ℕ
copies_in [] = None
copies_in (Snapshot every ∷ lines) = copies_in lines
copies_in (Number least ∷ lines) = copies_in lines
copies_in (Copies copies ∷ lines) = Some copies
copies_in (Sync sync ∷ lines) = copies_in lines

abbrev pub sync_in : List Line → Option SyncPolicy
sync_in [] = None
sync_in (Snapshot every ∷ lines) = sync_in lines
sync_in (Number least ∷ lines) = sync_in lines
sync_in (Copies copies ∷ lines) = sync_in lines
sync_in (Sync sync ∷ lines) = Some sync

-- where no line says it, the log is forced before a write is acknowledged
abbrev pub sync_or : Option SyncPolicy → SyncPolicy
sync_or None = Always
sync_or (Some sync) = sync

-- a line may stand beside others: none of these is of its kind, and copies are 1 to 3
abbrev pub MayStand : Line → List Line → Type 0
MayStand (Snapshot every) lines = every_in lines ≡ None
MayStand (Number least) lines = least_in lines ≡ None
MayStand (Copies copies) lines = (copies_in lines ≡ None) × (0 < copies) × (copies ≤ 3)
MayStand (Sync sync) lines = sync_in lines ≡ None

-- lines of different kinds
abbrev pub AreLines : List Line → Type 0
AreLines [] = Unit {0}
AreLines (line ∷ lines) = MayStand line lines × AreLines lines

-- lines are of different kinds, and say this
abbrev pub Says : List Line → Option ℕ → Option ℕ → Option ℕ → Option SyncPolicy → Type 0
Says lines every least copies sync = AreLines lines × (every ≡ every_in lines) × (least ≡ least_in lines) × (copies ≡ copies_in lines) × (sync ≡ sync_in lines)

-- this is set by a line or more, of different kinds, in any order; what no line says is 60 seconds, the number 0, one copy, and a log that is forced before a write is
-- acknowledged
abbrev pub IsSetBy : Option (List ℕ) → Settings → Type 0
IsSetBy None s = (s.every ≡ 60) × (s.least ≡ 0) × (s.copies ≡ 1) × (s.sync ≡ Always)
IsSetBy (Some bytes) s = (lines : List Line) × (bytes ≡ flat_map text_of lines) × (lines ≢ []) × AreLines lines
    × (s.every ≡ unwrap_or (every_in lines) 60) × (s.least ≡ unwrap_or (least_in lines) 0) × (s.copies ≡ unwrap_or (copies_in lines) 1) × (s.sync ≡ sync_or (sync_in lines))
