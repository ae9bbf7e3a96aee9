-- What the first bytes of files come to is what all of them come to.
use Rattle.std.proofs.Common.{◌≡◌, ℕ, ◌<◌, ◌≤◌, inl, inr, List, ◌++◌, length, take, arith, refl, sym, ap, subst, ◌∙◌}
use Rattle.std.specs.Prelude.{Bool, MatchBool, true, false, Option, None, Some, IfSome, Result, Ok, Err, OnOk, IfOk, codes}
use Rattle.std.specs.Io.KnownBytes.{Appends}
use Rattle.std.proofs.lemmas.List.{take_all, take-take, length-take}
use Rattle.bpf_image.specs.Image.{number_at, IsImage, IsRaw, is_marked}
use Rattle.bpf_image.specs.declared.image.ImageFault.TheVariants.{Window, NoMemory}
use Rattle.bpf_helpers.specs.declared.sig.Entry.{Entry}
use Rattle.bpf_verifier.specs.Program.{Program}
use Rattle.bpf_admission.specs.Enough.{AreReadAlike}
use Rattle.bpf_admission.specs.Admissions.{IsProgramOf, IsNotRun, refusal_text}
use Rattle.bpf_admission.specs.declared.refusal.Refusal.{Refusal}
use Rattle.bpf_admission.specs.declared.refusal.Refusal.TheVariants as refusal
use Rattle.bpf_explain.specs.Explained.{IsExplained, IsUnexplained}
use Rattle.bpf_explain.specs.Texts.{explanation_text}
use Rattle.bpf_explain.specs.declared.explanation.Explanation.{Explanation}
use Rattle.commands.specs.Command.{Ran, Judged, Explained, explained, unexplained, explanation_status}
use Rattle.commands.specs.declared.failure.Failure.{Failure}
use Rattle.commands.specs.Outcome.{line, text_of, status_of}
use Rattle.commands.specs.Run.{IsLetIn, IsRunOf, ComesTo}
use Rattle.commands.specs.Verdict.{IsVerdict, verdict_text, verdict_status}
use Rattle.commands.specs.declared.outcome.Outcome.{Outcome}
use Rattle.commands.specs.declared.outcome.Outcome.TheVariants as outcome
use Rattle.commands.specs.declared.verify.Verdict.{Verdict}
use Rattle.commands.specs.declared.verify.Verdict.TheVariants.{Accepted, Refused}

-- ---- programs

program_of_all : (some all : List ℕ) (sigs : List Entry) (p : Program) → AreReadAlike some all → IsProgramOf some sigs p → IsProgramOf all sigs p
program_of_all some all sigs p alike x = record { program = (alike.programs p.kind p.profile p.in_len p.out_len p.code).0 x.program; sigs_are = x.sigs_are }

let_in_of_all : (some all : List ℕ) (sigs : List Entry) (p : Program) → AreReadAlike some all → IsLetIn sigs some p → IsLetIn sigs all p
let_in_of_all some all sigs p alike x = (program_of_all some all sigs p alike x.0, x.1)

not_run_of_all : (some all : List ℕ) (sigs : List Entry) (r : Refusal) → AreReadAlike some all → IsNotRun some sigs r → IsNotRun all sigs r
not_run_of_all some all sigs (refusal.Image fault) alike x = (x.0, (alike.no_programs fault).0 x.1)
not_run_of_all some all sigs (refusal.Rule refused) alike (told, (p, of, broken)) = (told, (p, program_of_all some all sigs p alike of, broken))
not_run_of_all some all sigs refusal.OtherKind alike x = absurd x
not_run_of_all some all sigs refusal.NoMemory alike (inl read) = inl ((alike.no_programs NoMemory).0 read)
not_run_of_all some all sigs refusal.NoMemory alike (inr (p, of, verified)) = inr (p, program_of_all some all sigs p alike of, verified)

verdict_of_all : (sigs : List Entry) (some all : List ℕ) (v : Verdict) → AreReadAlike some all → IsVerdict sigs some v → IsVerdict sigs all v
unfolding IsVerdict
verdict_of_all sigs some all (Accepted slots) alike x = (x.0, let_in_of_all some all sigs x.0 alike x.1, x.2)
verdict_of_all sigs some all (Refused r) alike x = not_run_of_all some all sigs r alike x

-- ---- inputs

image_window : (bytes : List ℕ) (p : Program) → IsImage bytes p.kind p.profile p.in_len p.out_len p.code → p.in_len ≤ 65536
image_window bytes p x =
    let small : ¬ (65536 < number_at bytes 8) = λ past. x.head Window (omega arith) (inl past) in
    let is : p.in_len ≡ number_at bytes 8 = x.in_len_is in
    omega arith

raw_window : (bytes : List ℕ) (p : Program) → IsRaw bytes p.kind p.profile p.in_len p.out_len p.code → p.in_len ≤ 65536
raw_window bytes p x = let is : p.in_len ≡ 4096 = x.in_len_is in omega arith

either : (b : Bool) {X Y Z : Type 0} → (X → Z) → (Y → Z) → MatchBool b X Y → Z
either true f g x = f x
either false f g y = g y

window : (bytes : List ℕ) (sigs : List Entry) (p : Program) → IsLetIn sigs bytes p → p.in_len ≤ 65536
window bytes sigs p x =
    either (is_marked bytes) (image_window bytes p) (raw_window bytes p) x.0.program

-- an input that has room is not cut
whole_input : (part input : List ℕ) (in_len : ℕ) → part ≡ take 65537 input → length part ≤ in_len → in_len ≤ 65536 → part ≡ input
whole_input part input in_len e room small =
    let long : length part ≡ length (take 65537 input) = ap length e in
    let short : length input ≤ 65537 = omega (arith, length-take 65537 input) in
    e ∙ take_all 65537 input short

-- ---- what a run comes to, and what is told

image_of_all : (sigs : List Entry) (some all input : List ℕ) (o : Outcome) → AreReadAlike some all → ComesTo sigs some input o → ComesTo sigs all input o
unfolding ComesTo
image_of_all sigs some all input (outcome.Refused r) alike x = not_run_of_all some all sigs r alike x
image_of_all sigs some all input outcome.RefusedInput alike x = (x.0, let_in_of_all some all sigs x.0 alike x.1, x.2)
image_of_all sigs some all input outcome.NoMemory alike x = (x.0, let_in_of_all some all sigs x.0 alike x.1, x.2)
image_of_all sigs some all input (outcome.Exit answer steps output) alike x = (x.0, x.1, let_in_of_all some all sigs x.0 alike x.2, x.3, x.4, x.5)

input_of_all : (sigs : List Entry) (image part input : List ℕ) (o : Outcome) → part ≡ take 65537 input → ComesTo sigs image part o → ComesTo sigs image input o
unfolding ComesTo
input_of_all sigs image part input (outcome.Refused r) e x = x
input_of_all sigs image part input outcome.RefusedInput e x =
    let long : length part ≡ length (take 65537 input) = ap length e in
    let past : x.0.in_len < length part = x.2 in
    (x.0, x.1, omega (arith, length-take 65537 input))
input_of_all sigs image part input outcome.NoMemory e x =
    let whole : part ≡ input = whole_input part input x.0.in_len e x.2 (window image sigs x.0 x.1) in
    (x.0, x.1, subst (λ xs. length xs ≤ x.0.in_len) whole x.2)
input_of_all sigs image part input (outcome.Exit answer steps output) e x =
    let whole : part ≡ input = whole_input part input x.0.in_len e x.3 (window image sigs x.0 x.2) in
    (x.0, x.1, x.2, subst (λ xs. length xs ≤ x.0.in_len) whole x.3, subst (λ xs. IsRunOf x.0 xs answer steps x.1) whole x.4, x.5)

-- all of a file, where it is known
abbrev all_of : List ℕ → Option (List ℕ) → List ℕ
all_of some None = some
all_of some (Some known) = known

all_known : (some : List ℕ) (held : Option (List ℕ)) → IfSome held (λ known. all_of some held ≡ known)
all_known some None = tt
all_known some (Some known) = refl

image_of_held : (sigs : List Entry) (some input : List ℕ) (held : Option (List ℕ)) (o : Outcome) → IfSome held (λ known. AreReadAlike some known) → ComesTo sigs some input o → ComesTo sigs (all_of some held) input o
image_of_held sigs some input None o alike x = x
image_of_held sigs some input (Some known) o alike x = image_of_all sigs some known input o alike x

input_of_held : (sigs : List Entry) (image part : List ℕ) (held : Option (List ℕ)) (o : Outcome) → IfSome held (λ known. part ≡ take 65537 known) → ComesTo sigs image part o → ComesTo sigs image (all_of part held) o
input_of_held sigs image part None o e x = x
input_of_held sigs image part (Some known) o e x = input_of_all sigs image part known o e x

pub ran : (sigs : List Entry) (held_image held_input before after : Option (List ℕ)) (status : ℕ) (some part : List ℕ) (o : Outcome) → IfSome held_image (λ known. AreReadAlike some known) → IfSome held_input (λ known. part ≡ take 65537 known) → ComesTo sigs some part o → Appends before after (text_of o) → status ≡ status_of o → Ran sigs held_image held_input before after status
ran sigs held_image held_input before after status some part o alike e x told is = record {
  image = all_of some held_image;
  input = all_of part held_input;
  outcome = o;
  from_image = all_known some held_image;
  from_input = all_known part held_input;
  came_to = input_of_held sigs (all_of some held_image) part held_input o e (image_of_held sigs some part held_image o alike x);
  told = told;
  status_is = is;
}

verdict_of_held : (sigs : List Entry) (some : List ℕ) (held : Option (List ℕ)) (v : Verdict) → IfSome held (λ known. AreReadAlike some known) → IsVerdict sigs some v → IsVerdict sigs (all_of some held) v
verdict_of_held sigs some None v alike x = x
verdict_of_held sigs some (Some known) v alike x = verdict_of_all sigs some known v alike x

pub judged : (sigs : List Entry) (held_image before after : Option (List ℕ)) (status : ℕ) (some : List ℕ) (v : Verdict) → IfSome held_image (λ known. AreReadAlike some known) → IsVerdict sigs some v → Appends before after (verdict_text v) → status ≡ verdict_status v → Judged sigs held_image before after status
judged sigs held_image before after status some v alike x told is = record {
  image = all_of some held_image;
  verdict = v;
  from_image = all_known some held_image;
  is_verdict = verdict_of_held sigs some held_image v alike x;
  told = told;
  status_is = is;
}

-- ---- explanations

explained_of_all : (some all : List ℕ) (sigs : List Entry) (e : Explanation) → AreReadAlike some all → IsExplained some sigs e → IsExplained all sigs e
explained_of_all some all sigs e alike (p, of, is) = (p, program_of_all some all sigs p alike of, is)

explained_of_held : (sigs : List Entry) (some : List ℕ) (held : Option (List ℕ)) (e : Explanation) → IfSome held (λ known. AreReadAlike some known) → IsExplained some sigs e → IsExplained (all_of some held) sigs e
explained_of_held sigs some None e alike x = x
explained_of_held sigs some (Some known) e alike x = explained_of_all some known sigs e alike x

unexplained_of_all : (some all : List ℕ) (why : Refusal) → AreReadAlike some all → IsUnexplained some why → IsUnexplained all why
unexplained_of_all some all (refusal.Image fault) alike x = (x.0, (alike.no_programs fault).0 x.1)
unexplained_of_all some all (refusal.Rule refused) alike x = absurd x
unexplained_of_all some all refusal.OtherKind alike x = absurd x
unexplained_of_all some all refusal.NoMemory alike x = x

unexplained_of_held : (some : List ℕ) (held : Option (List ℕ)) (why : Refusal) → IfSome held (λ known. AreReadAlike some known) → IsUnexplained some why → IsUnexplained (all_of some held) why
unexplained_of_held some None why alike x = x
unexplained_of_held some (Some known) why alike x = unexplained_of_all some known why alike x

pub explained_by : (sigs : List Entry) (held_image before after : Option (List ℕ)) (status : ℕ) (some : List ℕ) (e : Explanation) → IfSome held_image (λ known. AreReadAlike some known) → IsExplained some sigs e → Appends before after (explanation_text e) → status ≡ explanation_status e → Explained sigs held_image before after status
explained_by sigs held_image before after status some e alike x told is =
    explained (all_of some held_image) e (all_known some held_image) (explained_of_held sigs some held_image e alike x) told is

unexplained_by : (sigs : List Entry) (held_image before after : Option (List ℕ)) (status : ℕ) (some : List ℕ) (why : Refusal) → IfSome held_image (λ known. AreReadAlike some known) → IsUnexplained some why → Appends before after (line (codes "refused " ++ refusal_text why)) → status ≡ 1 → Explained sigs held_image before after status
unexplained_by sigs held_image before after status some why alike x told is =
    unexplained (all_of some held_image) why (all_known some held_image) (unexplained_of_held some held_image why alike x) told is

-- where it was told that there is none
pub unexplained_told : (sigs : List Entry) (held_image before after : Option (List ℕ)) (told : Result ℕ Failure) (some : List ℕ) (why : Refusal) → IfSome held_image (λ known. AreReadAlike some known) → IsUnexplained some why → OnOk told (Appends before after (line (codes "refused " ++ refusal_text why))) → IfOk told (λ status. status ≡ 1) → IfOk told (Explained sigs held_image before after)
unexplained_told sigs held_image before after (Ok status) some why alike x told is = unexplained_by sigs held_image before after status some why alike x told is
unexplained_told sigs held_image before after (Err failure) some why alike x told is = is

-- ---- the part of a file that is kept

pub kept : (held : Option (List ℕ)) (read some : List ℕ) (len n : ℕ) → IfSome held (λ known. read ≡ take 32792 known) → IfSome held (λ known. len ≡ length known) → n ≤ 32792 → ((bytes : List ℕ) → length bytes ≡ len → AreReadAlike (take n bytes) bytes) → some ≡ take n read → IfSome held (λ known. AreReadAlike some known)
kept None read some len n e long few alike is = tt
kept (Some known) read some len n e long few alike is =
    let same : some ≡ take n known = is ∙ ap (take n) e ∙ take-take n 32792 known few in
    subst (λ xs. AreReadAlike xs known) (sym same) (alike known (sym long))
