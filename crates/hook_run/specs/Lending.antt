-- What a room is once the verdict that borrowed it has ended (this store's profile).
use Rattle.std.specs.Prelude.{◌≡◌, Result, Ok, Err, ⊤}
use Rattle.std.specs.Borrow.{Fml, MutBor, follows_so}
use mathlib.Core.Option.{none}
use Rattle.bpf_verifier.specs.Program.{Program}
use Rattle.hook_run.specs.contracts.deciding.Room.{the_row}
use Rattle.hook_run.specs.declared.deciding.RunFault.{RunFault}
use Rattle.hook_run.specs.declared.deciding.RunFault.TheVariants.{Disagrees, TooLarge, Bad, NoMemory}
use Rattle.hook_run.specs.Rooms.{Lengths, HasRoomFor, IsKept, IsPartlyGrown, grown}

-- The table agreed with the hook, and memory sufficed for its windows.
abbrev pub HadWindows : {V : Type 0} → Result V RunFault → Type 0
HadWindows (Ok verdict) = Unit {0}
HadWindows (Err Disagrees) = ⊥
HadWindows (Err TooLarge) = Unit {0}
HadWindows (Err (Bad bad)) = Unit {0}
HadWindows (Err NoMemory) = ⊥

-- What a run leaves of a room's windows: as they were where the table disagrees, grown in part where memory ran out, and else grown to
-- the hook's.
abbrev pub AreLeft : {V : Type 0} → Program → Result V RunFault → Lengths → Lengths → Type 0
AreLeft hook (Ok verdict) old new = new ≡ grown old hook
AreLeft hook (Err Disagrees) old new = new ≡ old
AreLeft hook (Err TooLarge) old new = new ≡ grown old hook
AreLeft hook (Err (Bad bad)) old new = new ≡ grown old hook
AreLeft hook (Err NoMemory) old new = IsPartlyGrown old hook new

-- the room's windows have not shrunk, once they were grown to the hook's they stay so, and that is all that they were grown to
abbrev pub IsLeft : {V : Type 0} → Program → Result V RunFault → Lengths → Lengths → Type 0
IsLeft hook told old new = IsKept old new × (HadWindows told → HasRoomFor new hook) × AreLeft hook told old new

-- how a room that a verdict borrows is left, once the verdict has ended
abbrev pub LeavesRoom : {V : Type 0} → Program → Result V RunFault → MutBor Lengths → Fml
LeavesRoom hook told room = follows_so the_row the_row room.ghost_name none (λ _ _. ⊤) (λ after. IsLeft hook told room.now after)
