-- What comes of a dump behind a script's lines.
use Rattle.std.proofs.Common.{◌≡◌, ℕ, List, refl, subst, ◌∙◌, Option}
use Rattle.std.specs.Prelude.{Result, Ok, Err, IfOk, IfSome}
use Rattle.std.specs.Io.KnownBytes.{Appends}
use Rattle.bpf_helpers.specs.declared.sig.Entry.{Entry}
use Rattle.world.specs.declared.event.Reply.{Reply}
use Rattle.world.specs.Running.{Ran}
use Rattle.script_lines.specs.declared.bad.BadLine.{BadLine}
use Rattle.script_run.specs.Dumping.{Dumps as Comes, IsDumpReply, PrintsAndDumps}
use Rattle.script_run.specs.Printing.{PrintsUpTo}
use Rattle.script_run.specs.declared.dumping.Dumping.{Dumping}
use Rattle.script_run.specs.declared.dumping.Dumping.TheVariants as dumping
use Rattle.commands.specs.declared.failure.Failure.{Failure}
use Rattle.commands.specs.Dumped.{DumpedFile, EndsWith, Wrote, done, up_to}

whole_run : (sigs : List Entry) (bytes : List ℕ) (vnode : ℕ) (text : List ℕ) (came : Dumping) (ran : Ran) → came ≡ dumping.Done ran → Comes sigs bytes vnode text came → PrintsAndDumps sigs bytes vnode text ran
whole_run sigs bytes vnode text came ran is comes = subst (λ (d : Dumping). Comes sigs bytes vnode text d) is comes

pub last_reply : (sigs : List Entry) (bytes : List ℕ) (vnode : ℕ) (text : List ℕ) (came : Dumping) (ran : Ran) (replies : List Reply) → came ≡ dumping.Done ran → Comes sigs bytes vnode text came → replies ≡ ran.replies
    → (last : Reply) × IsDumpReply last × EndsWith replies last
last_reply sigs bytes vnode text came ran replies is comes same =
    let run = (whole_run sigs bytes vnode text came ran is comes).dumps in
    (run.last, run.dumped, (run.replies, same ∙ run.split))

written : (sigs : List Entry) (bytes script : List ℕ) (vnode : ℕ) (text : List ℕ) (ran : Ran) (replies : List Reply) (held_script file before told after : Option (List ℕ)) (status : ℕ)
    → PrintsAndDumps sigs bytes vnode text ran → bytes ≡ script → IfSome held_script (λ known. script ≡ known) → Appends before told text → replies ≡ ran.replies → Wrote replies file told after status
    → DumpedFile sigs vnode held_script file before after status
written sigs bytes script vnode text ran replies held_script file before told after status run read from appends same wrote = record {
  script = script;
  from_script = from;
  dumps = done text ran told (subst (λ (bs : List ℕ). PrintsAndDumps sigs bs vnode text ran) read run) appends (subst (λ (rs : List Reply). Wrote rs file told after status) same wrote);
}

pub all_written : (sigs : List Entry) (bytes script : List ℕ) (vnode : ℕ) (text : List ℕ) (came : Dumping) (ran : Ran) (replies : List Reply) (held_script file before told after : Option (List ℕ)) (told_status : Result ℕ Failure)
    → came ≡ dumping.Done ran → Comes sigs bytes vnode text came → bytes ≡ script → IfSome held_script (λ known. script ≡ known) → Appends before told text → replies ≡ ran.replies
    → IfOk told_status (Wrote replies file told after) → IfOk told_status (DumpedFile sigs vnode held_script file before after)
all_written sigs bytes script vnode text came ran replies held_script file before told after (Ok status) is comes read from appends same wrote =
    written sigs bytes script vnode text ran replies held_script file before told after status (whole_run sigs bytes vnode text came ran is comes) read from appends same wrote
all_written sigs bytes script vnode text came ran replies held_script file before told after (Err why) is comes read from appends same wrote = tt

pub up_to_bad : (sigs : List Entry) (bytes script : List ℕ) (vnode : ℕ) (text : List ℕ) (came : Dumping) (why : BadLine) (held_script file before after : Option (List ℕ))
    → came ≡ dumping.BadLine why → Comes sigs bytes vnode text came → bytes ≡ script → IfSome held_script (λ known. script ≡ known) → Appends before after text
    → DumpedFile sigs vnode held_script file before after 2
up_to_bad sigs bytes script vnode text came why held_script file before after is comes read from appends = record {
  script = script;
  from_script = from;
  dumps = up_to text refl (subst (λ (bs : List ℕ). PrintsUpTo sigs bs text) read (subst (λ (d : Dumping). Comes sigs bytes vnode text d) is comes)) appends;
}
