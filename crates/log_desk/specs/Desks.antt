-- What a desk is set to.
use Rattle.kept_folder.specs.declared.settings.SyncPolicy.{SyncPolicy}
use Rattle.log_desk.specs.declared.desk.Desk.{Desk}

-- when what was written is forced
abbrev pub sync_of : {F L J : Type 0} → Desk F L J → SyncPolicy
sync_of desk = desk.sync
