-- What a command leaves on its output (this store's profile).
use Rattle.std.specs.Prelude.{◌≡◌, ℕ, List, ◌++◌, codes, decimal, Option, IfSome, Result}
use Rattle.bpf_admission.specs.Admissions.{refusal_text}
use Rattle.bpf_admission.specs.declared.refusal.Refusal.{Refusal}
use Rattle.bpf_explain.specs.Explained.{IsExplained, IsUnexplained}
use Rattle.bpf_explain.specs.Texts.{explanation_text}
use Rattle.bpf_explain.specs.declared.explanation.Explanation.{Explanation}
use Rattle.bpf_explain.specs.declared.explanation.Explanation.TheVariants.{Accepted, Broken}
use Rattle.std.specs.Io.KnownBytes.{Appends}
use Rattle.audit_faults.specs.declared.fault.WatchFault.{WatchFault}
use Rattle.bpf_helpers.specs.declared.sig.Entry.{Entry}
use Rattle.script_run.specs.Printing.{Simulated}
use Rattle.commands.specs.Audited.{audit_text, audit_status}
use Rattle.commands.specs.Help.{help_text}
use Rattle.commands.specs.Version.{version_text}
use Rattle.commands.specs.declared.outcome.Outcome.{Outcome}
use Rattle.commands.specs.declared.server.Ended.{Ended}
use Rattle.commands.specs.declared.server.Ended.TheVariants.{Kept, Unkept}
use Rattle.commands.specs.declared.verify.Verdict.{Verdict}
use Rattle.commands.specs.Outcome.{line, text_of, status_of}
use Rattle.commands.specs.Run.{ComesTo}
use Rattle.commands.specs.Verdict.{IsVerdict, verdict_text, verdict_status}

-- The program in a file ran on the bytes of another, and its outcome was told. What is known of the files is what was run, and what is known of
-- the output grew by the text.
pub record Ran (sigs : List Entry) (held_image held_input before after : Option (List ℕ)) (status : ℕ) : Type 0 where
  pub image : List ℕ
  pub input : List ℕ
  pub outcome : Outcome
  pub from_image : IfSome held_image (λ known. image ≡ known)
  pub from_input : IfSome held_input (λ known. input ≡ known)
  pub came_to : ComesTo sigs image input outcome
  pub told : Appends before after (text_of outcome)
  pub status_is : status ≡ status_of outcome

-- The verdict on the program in a file was told.
pub record Judged (sigs : List Entry) (held_image before after : Option (List ℕ)) (status : ℕ) : Type 0 where
  pub image : List ℕ
  pub verdict : Verdict
  pub from_image : IfSome held_image (λ known. image ≡ known)
  pub is_verdict : IsVerdict sigs image verdict
  pub told : Appends before after (verdict_text verdict)
  pub status_is : status ≡ verdict_status verdict

-- the status that goes with an explanation
abbrev pub explanation_status : Explanation → ℕ
explanation_status (Accepted slots answers) = 0
explanation_status (Broken refused x facts together) = 1

-- What the verifier says of the program in a file, and what it looked at, was told; or that the bytes are no program, or that memory ran out.
pub data Explained (sigs : List Entry) (held_image before after : Option (List ℕ)) (status : ℕ) : Type 0 where
  explained : (image : List ℕ) (explanation : Explanation) → IfSome held_image (λ known. image ≡ known) → IsExplained image sigs explanation → Appends before after (explanation_text explanation) → status ≡ explanation_status explanation → Explained sigs held_image before after status
  unexplained : (image : List ℕ) (why : Refusal) → IfSome held_image (λ known. image ≡ known) → IsUnexplained image why → Appends before after (line (codes "refused " ++ refusal_text why)) → status ≡ 1 → Explained sigs held_image before after status

-- The script in a file was run, and what its lines print was told: at status 2 what the lines before the bad one print, and which it is.
pub record SimulatedFile (sigs : List Entry) (held_script before after : Option (List ℕ)) (status : ℕ) : Type 0 where
  pub script : List ℕ
  pub from_script : IfSome held_script (λ known. script ≡ known)
  pub simulated : Simulated sigs script before after status

-- the address at which connections are answered was told
abbrev pub Listened : Option (List ℕ) → Option (List ℕ) → Type 0
Listened before after = (bound : List ℕ) × Appends before after (line (codes "listening " ++ bound))

-- how many records a store that is kept begins with, and the address at which connections are answered
abbrev pub begun : ℕ → List ℕ → List ℕ
begun loaded bound = line (codes "loaded " ++ decimal loaded) ++ line (codes "listening " ++ bound)

-- how a store that is kept began was told, and then how it ended: how many records were written, or why they weren't
abbrev pub HasKept : {V : Type 0} → Option (List ℕ) → Option (List ℕ) → Ended V → Type 0
HasKept before after (Kept said) = (loaded kept : ℕ) × (bound : List ℕ) × Appends before after (begun loaded bound ++ line (codes "kept " ++ decimal kept))
HasKept before after (Unkept said) = (loaded : ℕ) × (bound why : List ℕ) × Appends before after (begun loaded bound ++ line (codes "not kept " ++ why))

-- why a folder isn't taken was told
abbrev pub HasRefused : Option (List ℕ) → Option (List ℕ) → Type 0
HasRefused before after = (why : List ℕ) × Appends before after (line (codes "refused " ++ why))

-- a store that is kept was served: how it began, how it ended, and what is said of the journals was told; or why its folder isn't taken; or memory was refused
-- for it, and that alone was told
pub data KeptFolder (before after : Option (List ℕ)) (status : ℕ) : Type 0 where
  kept : (loaded kept : ℕ) (bound : List ℕ) (audited : Result (Unit {0}) WatchFault) → status ≡ audit_status audited → Appends before after (begun loaded bound ++ line (codes "kept " ++ decimal kept) ++ audit_text audited) → KeptFolder before after status
  unkept : (loaded : ℕ) (bound why : List ℕ) (audited : Result (Unit {0}) WatchFault) → status ≡ 1 → Appends before after (begun loaded bound ++ line (codes "not kept " ++ why) ++ audit_text audited) → KeptFolder before after status
  refused : status ≡ 1 → HasRefused before after → KeptFolder before after status
  no_memory : status ≡ 1 → Appends before after (line (codes "E1")) → KeptFolder before after status

-- connections were answered at an address that was told, and then what is said of the journals; or memory was refused for the store,
-- and that alone was told
pub data Served (before after : Option (List ℕ)) (status : ℕ) : Type 0 where
  listened : (bound : List ℕ) (audited : Result (Unit {0}) WatchFault) → status ≡ audit_status audited → Appends before after (line (codes "listening " ++ bound) ++ audit_text audited) → Served before after status
  no_memory : status ≡ 1 → Appends before after (line (codes "E1")) → Served before after status

-- the commands were told
pub record Helped (before after : Option (List ℕ)) (status : ℕ) : Type 0 where
  pub told : Appends before after help_text
  pub status_is : status ≡ 0

-- the version was told
pub record Versioned (before after : Option (List ℕ)) (status : ℕ) : Type 0 where
  pub told : Appends before after version_text
  pub status_is : status ≡ 0
