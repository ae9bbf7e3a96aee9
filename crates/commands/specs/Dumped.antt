-- What the commands of dumps leave on their output and in their file (this store's profile).
use Rattle.std.specs.Prelude.{◌≡◌, ℕ, List, [], ◌∷◌, ◌++◌, length, codes, decimal, Option, IfSome}
use Rattle.std.specs.Io.KnownBytes.{Appends}
use Rattle.bpf_helpers.specs.declared.sig.Entry.{Entry}
use Rattle.script_replies.specs.Numbers.{refusal_number}
use Rattle.vnode.specs.declared.fault.VnodeFault.{VnodeFault}
use Rattle.record_codec.specs.declared.fault.WireFault.{WireFault}
use Rattle.record_codec.specs.declared.record.Record.{Record}
use Rattle.world.specs.declared.beginning.BeginFault.TheVariants as begin
use Rattle.world.specs.declared.event.Copies.{Copies}
use Rattle.world.specs.declared.event.Reply.{Reply}
use Rattle.world.specs.declared.event.Reply.TheVariants.{Dumped, Refused}
use Rattle.world.specs.Beginning.{RefusesRecords}
use Rattle.world.specs.Knowledge.{id_under}
use Rattle.world.specs.Running.{Ran}
use Rattle.script_run.specs.Dumping.{PrintsAndDumps}
use Rattle.script_run.specs.Loading.{PrintsAllFrom, PrintsUpToFrom}
use Rattle.script_run.specs.Printing.{PrintsUpTo}
use Rattle.commands.specs.Outcome.{line}
use Rattle.record_codec.specs.Lists.{AreSpelledBy, FaultAt}
use Rattle.commands.specs.Records.{records_of, fault_text}

-- replies end with this one
abbrev pub EndsWith : List Reply → Reply → Type 0
EndsWith replies last = (before : List Reply) × (replies ≡ before ++ last ∷ [])

-- What came of copies: a file that holds their records, or want of memory for these, which was told.
pub data WroteCopies (copies : Copies) (written before after : Option (List ℕ)) (status : ℕ) : Type 0 where
  whole : (bytes : List ℕ) → status ≡ 0 → AreSpelledBy (records_of copies) bytes → IfSome written (λ known. bytes ≡ known) → after ≡ before → WroteCopies copies written before after status
  no_memory : status ≡ 1 → Appends before after (line (codes "E1")) → WroteCopies copies written before after status

-- What came of the dump with whose reply these end: its copies were written, or why it was refused was told.
pub data Wrote (replies : List Reply) (written before after : Option (List ℕ)) (status : ℕ) : Type 0 where
  copied : (copies : Copies) → EndsWith replies (Dumped copies) → WroteCopies copies written before after status → Wrote replies written before after status
  refused : (why : VnodeFault) → status ≡ 1 → EndsWith replies (Refused why) → Appends before after (line (refusal_number why)) → Wrote replies written before after status

module _ (sigs : List Entry) where
  -- What came of a dump behind the lines of a script: what these print was told, and then the dump's file was written or why there is none was told. At status 2 what
  -- the lines before a bad one print was told, and which it is; at 1 memory may have been refused for the script as a whole. Then no file was written.
  pub data Dumps (bytes : List ℕ) (vnode : ℕ) (written before after : Option (List ℕ)) (status : ℕ) : Type 0 where
    done : (text : List ℕ) (ran : Ran) (told : Option (List ℕ)) → PrintsAndDumps sigs bytes vnode text ran → Appends before told text → Wrote ran.replies written told after status
        → Dumps bytes vnode written before after status
    up_to : (text : List ℕ) → status ≡ 2 → PrintsUpTo sigs bytes text → Appends before after text → Dumps bytes vnode written before after status
    no_memory : status ≡ 1 → Appends before after (line (codes "E1")) → Dumps bytes vnode written before after status

  -- the same, of the script in a file
  pub record DumpedFile (vnode : ℕ) (held_script written before after : Option (List ℕ)) (status : ℕ) : Type 0 where
    pub script : List ℕ
    pub from_script : IfSome held_script (λ known. script ≡ known)
    pub dumps : Dumps script vnode written before after status

  -- What came of a script whose first vnode begins with the records of some bytes. At status 0 how many they are was told, and then what the script's lines
  -- print, and at 2 what those before a bad one print, and which it is. At 1 nothing was run: a record has a fault or is refused, and which was told, or memory
  -- was refused for the script as a whole.
  pub data Loads (bytes : List ℕ) (incarnation : ℕ) (script : List ℕ) (before after : Option (List ℕ)) (status : ℕ) : Type 0 where
    whole : (records : List Record) (text : List ℕ) → status ≡ 0 → AreSpelledBy records bytes → PrintsAllFrom sigs incarnation records script text
        → Appends before after (line (codes "loaded " ++ decimal (length records)) ++ text) → Loads bytes incarnation script before after status
    up_to : (records : List Record) (text : List ℕ) → status ≡ 2 → AreSpelledBy records bytes → PrintsUpToFrom sigs incarnation records script text
        → Appends before after (line (codes "loaded " ++ decimal (length records)) ++ text) → Loads bytes incarnation script before after status
    faulty : (number : ℕ) (fault : WireFault) → status ≡ 1 → FaultAt bytes number fault
        → Appends before after (line (codes "refused " ++ fault_text fault ++ codes " " ++ decimal number)) → Loads bytes incarnation script before after status
    refused : (records : List Record) (place : ℕ) (why : VnodeFault) → status ≡ 1 → AreSpelledBy records bytes → RefusesRecords (id_under incarnation 0) records (begin.Record place why)
        → Appends before after (line (codes "refused " ++ refusal_number why ++ codes " " ++ decimal place)) → Loads bytes incarnation script before after status
    no_memory : status ≡ 1 → Appends before after (line (codes "E1")) → Loads bytes incarnation script before after status

  -- the same, of the bytes of a file and the script in another
  pub record LoadedFile (incarnation : ℕ) (held_file held_script before after : Option (List ℕ)) (status : ℕ) : Type 0 where
    pub file : List ℕ
    pub script : List ℕ
    pub from_file : IfSome held_file (λ known. file ≡ known)
    pub from_script : IfSome held_script (λ known. script ≡ known)
    pub loads : Loads file incarnation script before after status
