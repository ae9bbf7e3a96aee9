-- What a script that begins with records comes to.
use Rattle.std.proofs.Common.{◌≡◌, ℕ, List, [], ◌∷◌, ◌++◌, length, refl, sym, subst, append_assoc}
use Rattle.std.specs.Prelude.{codes, decimal, Option, Some, None, MatchOption, Result, Ok, Err, IfOk, IfSome}
use Rattle.std.specs.Io.KnownBytes.{Appends}
use Rattle.bpf_helpers.specs.declared.sig.Entry.{Entry}
use Rattle.record_codec.specs.declared.fault.WireFault.{WireFault}
use Rattle.record_codec.specs.declared.record.Record.{Record}
use Rattle.script_run.specs.Loading.{PrintsAllFrom, PrintsUpToFrom}
use Rattle.commands.specs.declared.failure.Failure.{Failure}
use Rattle.record_codec.specs.declared.lists.Unread.{Unread}
use Rattle.record_codec.specs.declared.lists.Unread.TheVariants as unread
use Rattle.commands.specs.Dumped.{Loads, LoadedFile, whole, up_to, faulty}
use Rattle.commands.specs.Outcome.{line}
use Rattle.record_codec.specs.Lists.{AreSpelledBy, FaultAt, IsUnread}
use Rattle.commands.specs.Records.{fault_text}

-- every line was read
pub all_loaded : {X : Type 0} (sigs listed : List Entry) (incarnation : ℕ) (records : List Record) (bytes script text : List ℕ) (why : Option X) (Q : X → Type 0) (before after : Option (List ℕ))
    → AreSpelledBy records bytes → sigs ≡ listed → why ≡ None → MatchOption why (PrintsAllFrom listed incarnation records script text) Q
    → Appends before after (line (codes "loaded " ++ decimal (length records)) ++ text) → Loads sigs bytes incarnation script before after 0
all_loaded sigs listed incarnation records bytes script text why Q before after spelt same is printed told =
    whole records text refl spelt (subst (λ (ls : List Entry). PrintsAllFrom ls incarnation records script text) (sym same) (subst (λ v. MatchOption v (PrintsAllFrom listed incarnation records script text) Q) is printed)) told

-- a line is bad
pub loaded_up_to : {X : Type 0} (sigs listed : List Entry) (incarnation : ℕ) (records : List Record) (bytes script text : List ℕ) (why : Option X) (reason : X) (P : Type 0) (before after : Option (List ℕ))
    → AreSpelledBy records bytes → sigs ≡ listed → why ≡ Some reason → MatchOption why P (λ reason. PrintsUpToFrom listed incarnation records script text)
    → Appends before after (line (codes "loaded " ++ decimal (length records)) ++ text) → Loads sigs bytes incarnation script before after 2
loaded_up_to sigs listed incarnation records bytes script text why reason P before after spelt same is printed told =
    up_to records text refl spelt (subst (λ (ls : List Entry). PrintsUpToFrom ls incarnation records script text) (sym same) (subst (λ v. MatchOption v P (λ reason. PrintsUpToFrom listed incarnation records script text)) is printed)) told

-- how many records were loaded, and what the lines print
pub told_loaded : (before after : Option (List ℕ)) (n : ℕ) (text : List ℕ) → Appends before after (codes "loaded " ++ (decimal n ++ (codes "\n" ++ text))) → Appends before after (line (codes "loaded " ++ decimal n) ++ text)
told_loaded before after n text told = subst (λ (ns : List ℕ). Appends before after (codes "loaded " ++ ns)) (sym (append_assoc (decimal n) (10 ∷ []) text)) told

-- what was told, if it could be
pub told_then : {A : Type 0} {P : ℕ → Type 0} (told : Result ℕ Failure) → IfOk told (λ status. status ≡ 1) → IfOk told (λ _. A) → ((status : ℕ) → status ≡ 1 → A → P status) → IfOk told P
told_then (Ok status) one is then_ = then_ status one is
told_then (Err why) one is then_ = tt

-- which record isn't taken, and why, by the number of its fault
pub told_named : (before after : Option (List ℕ)) (number why : List ℕ) (given place : ℕ) → number ≡ why → given ≡ place → Appends before after (line (codes "refused " ++ number ++ codes " " ++ decimal given))
    → Appends before after (line (codes "refused " ++ why ++ codes " " ++ decimal place))
told_named before after number why given place is same told =
    subst (λ (n : ℕ). Appends before after (line (codes "refused " ++ why ++ codes " " ++ decimal n))) same
    (subst (λ (ns : List ℕ). Appends before after (line (codes "refused " ++ ns ++ codes " " ++ decimal given))) is told)

-- the bytes and the script are those of files
pub loaded_file : (sigs : List Entry) (incarnation : ℕ) (bytes file lines script : List ℕ) (given records : List Record) (held_file held_script before after : Option (List ℕ)) (told : Result ℕ Failure)
    → given ≡ records → bytes ≡ file → lines ≡ script → IfSome held_file (λ known. file ≡ known) → IfSome held_script (λ known. script ≡ known) → AreSpelledBy records bytes
    → ((bs : List ℕ) → AreSpelledBy given bs → IfOk told (Loads sigs bs incarnation lines before after)) → IfOk told (LoadedFile sigs incarnation held_file held_script before after)
loaded_file sigs incarnation bytes file lines script given records held_file held_script before after (Ok status) same read are from_file from_script spelt loads = record {
  file = file;
  script = script;
  from_file = from_file;
  from_script = from_script;
  loads = subst (λ (bs : List ℕ). Loads sigs bs incarnation script before after status) read
      (subst (λ (ls : List ℕ). Loads sigs bytes incarnation ls before after status) are (loads bytes (subst (λ (rs : List Record). AreSpelledBy rs bytes) (sym same) spelt)));
}
loaded_file sigs incarnation bytes file lines script given records held_file held_script before after (Err why) same read are from_file from_script spelt loads = tt

-- a record in the file has a fault
pub faulty_file : (sigs : List Entry) (incarnation : ℕ) (bytes file script number : List ℕ) (held_file held_script before after : Option (List ℕ)) (given place : ℕ) (fault : WireFault) (why : Unread) (told : Result ℕ Failure)
    → why ≡ unread.Faulty place fault → IsUnread bytes why → bytes ≡ file → IfSome held_file (λ known. file ≡ known) → IfSome held_script (λ known. script ≡ known) → number ≡ fault_text fault → given ≡ place
    → IfOk told (λ status. status ≡ 1) → IfOk told (λ _. Appends before after (line (codes "refused " ++ number ++ codes " " ++ decimal given)))
    → IfOk told (LoadedFile sigs incarnation held_file held_script before after)
faulty_file sigs incarnation bytes file script number held_file held_script before after given place fault why told is told_why read from_file from_script named same one refused =
    told_then told one refused (λ status is_one appended. record {
      file = file;
      script = script;
      from_file = from_file;
      from_script = from_script;
      loads = faulty place fault is_one (subst (λ (bs : List ℕ). FaultAt bs place fault) read (subst (IsUnread bytes) is told_why))
          (told_named before after number (fault_text fault) given place named same appended);
    })
