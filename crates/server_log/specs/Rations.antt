-- How often troubles are told: at most once a second and kind (this store's profile).
use Rattle.std.specs.Prelude.{ℕ, ◌+◌, ◌-◌, ◌^◌, min, Bool, true, List, Option, None, Some, nat_le, cond, get_or}
use Rattle.server_log.specs.declared.ration.Kept.{Kept}
use Rattle.server_log.specs.declared.trouble.HookTrouble.{HookTrouble}
use Rattle.server_log.specs.declared.trouble.HookTrouble.TheVariants.{Unseen, Disagrees, TooLarge, BadAnswer}
use Rattle.server_log.specs.declared.trouble.Trouble.{Trouble}
use Rattle.server_log.specs.declared.trouble.Trouble.TheVariants.{NoMemory, PreCommit, Resolver, Unwritten}

-- each kind has a place of its own
abbrev pub hook_place : HookTrouble → ℕ
hook_place Unseen = 0
hook_place Disagrees = 1
hook_place TooLarge = 2
hook_place BadAnswer = 3

abbrev pub place_of : Trouble → ℕ
place_of NoMemory = 0
place_of Unwritten = 1
place_of (PreCommit why) = 2 + hook_place why
place_of (Resolver why) = 6 + hook_place why

-- none was told, and none left out
abbrev pub untold : Kept
untold = record { last = None; left_out = 0 }

-- what is kept of a trouble's kind
abbrev pub kept_of : List Kept → Trouble → Kept
kept_of kinds trouble = get_or kinds (place_of trouble) untold

-- the first is told, and then what comes a second or more after the last that was, in milliseconds
abbrev pub is_due : Option ℕ → ℕ → Bool
is_due None now = true
is_due (Some last) now = nat_le 1000 (now - last)

module _ (kept : Kept) (now : ℕ) where
  -- where one that comes now is told, how many were left out
  abbrev pub told_by : Option ℕ
  told_by = cond (is_due kept.last now) (Some kept.left_out) None

  -- what is kept then
  abbrev pub left_by : Kept
  left_by = cond (is_due kept.last now) (record { last = Some now; left_out = 0 }) (record { last = kept.last; left_out = min (kept.left_out + 1) (2 ^ 64 - 1) })
