-- What is known of a log's file.
use Rattle.std.specs.Prelude.{ℕ, Bool, List}
use Rattle.log_system.specs.Calls.{has_failed_no_force, standing}
use Rattle.log_system.specs.declared.system.SystemLog.{SystemLog}

-- what stands in it
abbrev pub bytes_of : SystemLog → List ℕ
bytes_of log = standing log.history.calls

-- no force has failed
abbrev pub is_trusted : SystemLog → Bool
is_trusted log = has_failed_no_force log.history.calls
