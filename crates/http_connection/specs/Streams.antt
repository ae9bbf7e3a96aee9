-- How the calls of a reader and a writer come back, and which of these are failures.
use Rattle.std.specs.Prelude.{◌≢◌, ℕ, Result, Ok, Err}
use Rattle.std.specs.IoError.{error_kind}
use Rattle.std.specs.declared.io.Error.{Error}
use Rattle.std.specs.declared.io.ErrorKind.TheVariants.{Interrupted}

-- what a call comes back with
abbrev pub Back : Type 0
Back = Result ℕ Error

-- calls come back so, from one state of the device to another
module _ {D : Type 0} (comes_back : D → Back → D → Type 0) where
  -- a call that ended so has failed, and not since it was interrupted
  abbrev pub EndsInFailure : D → Type 0
  EndsInFailure new = (old : D) × (error : Error) × comes_back old (Err error) new × (error_kind error ≢ Interrupted)

  -- a call that ended so took nothing
  abbrev pub EndsInNothing : D → Type 0
  EndsInNothing new = (old : D) × comes_back old (Ok 0) new
