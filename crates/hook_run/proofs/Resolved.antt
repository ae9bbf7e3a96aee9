-- What comes of a run that gave no verdict.
use Rattle.std.proofs.Common.{◌≡◌, List, None, Err, Result, refl, sym, subst}
use Rattle.std.specs.Prelude.{◌≢◌, IfErr, MatchResult, OnOk}
use Rattle.hook_abi.specs.declared.answer.Verdict.{Verdict}
use Rattle.hook_run.specs.Lending.{HadWindows}
use Rattle.bpf_semantics.specs.State.{Calls}
use Rattle.bpf_helpers.specs.declared.sig.Entry.{Entry}
use Rattle.bpf_verifier.specs.Program.{Program}
use Rattle.key_state.specs.declared.content.Sibling.{Sibling}
use Rattle.hook_run.specs.declared.deciding.RunFault.{RunFault}
use Rattle.hook_run.specs.declared.deciding.RunFault.TheVariants.{Disagrees, TooLarge, Bad, NoMemory}
use Rattle.hook_run.specs.declared.resolving.Resolution.{Resolution}
use Rattle.hook_run.specs.declared.resolving.Unresolved.{Unresolved}
use Rattle.hook_run.specs.Decisions.{IsDecisionBy}
use Rattle.hook_run.specs.Resolving.{IsResolutionBy, IsUnresolved, resolution_of}

as_told : (calls : Calls) (listed : List Entry) (hook : Program) (siblings : List Sibling) (fault : RunFault) → IsDecisionBy calls hook None siblings listed (Err fault) → MatchResult (resolution_of (Err fault)) (IsResolutionBy calls listed hook siblings) (IsUnresolved listed hook siblings)
as_told calls listed hook siblings Disagrees d = d
as_told calls listed hook siblings TooLarge d = (Err TooLarge, d, refl)
as_told calls listed hook siblings (Bad bad) d = (Err (Bad bad), d, refl)
as_told calls listed hook siblings NoMemory d = d

none_told : (fault : RunFault) (P : Type 0) → fault ≢ NoMemory → IfErr (resolution_of (Err fault)) (λ u. u ≡ Unresolved.NoMemory → P)
none_told Disagrees P fits = λ e. cc
none_told TooLarge P fits = tt
none_told (Bad bad) P fits = tt
none_told NoMemory P fits = absurd (fits refl)

windows_told : (fault : RunFault) (P : Type 0) → (HadWindows {V = Verdict} (Err fault) → P) → OnOk (resolution_of (Err fault)) P
windows_told Disagrees P fits = tt
windows_told TooLarge P fits = fits tt
windows_told (Bad bad) P fits = fits tt
windows_told NoMemory P fits = tt

pub came_to : (calls : Calls) (listed : List Entry) (hook : Program) (siblings : List Sibling) (fault : RunFault) (result : Result Resolution Unresolved) → result ≡ resolution_of (Err fault) → IsDecisionBy calls hook None siblings listed (Err fault)
    → MatchResult result (IsResolutionBy calls listed hook siblings) (IsUnresolved listed hook siblings)
came_to calls listed hook siblings fault result is d = subst (λ (r : Result Resolution Unresolved). MatchResult r (IsResolutionBy calls listed hook siblings) (IsUnresolved listed hook siblings)) (sym is) (as_told calls listed hook siblings fault d)

-- a room that fits: want of memory is not told
pub bounded : (fault : RunFault) (P : Type 0) (result : Result Resolution Unresolved) → result ≡ resolution_of (Err fault) → fault ≢ NoMemory → IfErr result (λ u. u ≡ Unresolved.NoMemory → P)
bounded fault P result is fits = subst (λ (r : Result Resolution Unresolved). IfErr r (λ u. u ≡ Unresolved.NoMemory → P)) (sym is) (none_told fault P fits)

-- a resolution without a verdict is of a run that had windows
pub had_windows : (fault : RunFault) (P : Type 0) (result : Result Resolution Unresolved) → result ≡ resolution_of (Err fault) → (HadWindows {V = Verdict} (Err fault) → P) → OnOk result P
had_windows fault P result is fits = subst (λ (r : Result Resolution Unresolved). OnOk r P) (sym is) (windows_told fault P fits)
