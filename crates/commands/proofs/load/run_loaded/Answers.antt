use Rattle.std.proofs.Common.{ap, ◌∙◌, subst, string_bytes, length}
use Rattle.script_replies.specs.Numbers.{refusal_number}
use Rattle.world.specs.Beginning.{RefusesRecords}
use Rattle.world.specs.Knowledge.{id_under}
use Rattle.commands.specs.Dumped.{refused}
use Rattle.commands.proofs.Loading.{all_loaded, loaded_up_to, told_loaded, told_named, told_then}
use Rattle.commands.proofs.load.run_loaded.Goals as goal

pub returns-in-None-clause-loaded : goal.returns-in-None-clause-loaded
returns-in-None-clause-loaded g c = λ bytes spelt. all_loaded _ _ _ _ _ _ (string_bytes c.in-Ok.text) c.in-Ok.why _ _ _ spelt c.requires c.in-None.is c.in-Ok.ensures.printed
    (told_loaded _ _ (length c.args.loaded.records.now) (string_bytes c.in-Ok.text) c.in_ok-write-in-Ok.ensures.bytes)

pub returns-in-Ok-clause-loaded : goal.returns-in-Ok-clause-loaded
returns-in-Ok-clause-loaded g c = λ bytes spelt. loaded_up_to _ _ _ _ _ _ (string_bytes c.in-Ok.text) c.in-Ok.why c.in-Some.why _ _ _ spelt c.requires c.in-Some.is c.in-Ok.ensures.printed
    (told_loaded _ _ (length c.args.loaded.records.now) (string_bytes c.in-Ok.text) c.in_ok-write-in-Ok.ensures.bytes)

pub returns-in-Err-Record-clause-loaded : goal.returns-in-Err-Record-clause-loaded
returns-in-Err-Record-clause-loaded g c = λ bytes spelt. told_then c.tell_refused.result c.tell_refused.ensures.status c.tell_refused.ensures.told
    (λ status one told. refused c.args.loaded.records.now c.in-Err-Record.place c.in-Err-Record.fault one spelt
    (subst (RefusesRecords (id_under c.args.loaded.incarnation 0) c.args.loaded.records.now) c.in-Err-Record.field-0-is c.in-Err-Record.ensures.refused)
    (told_named _ _ _ _ _ c.in-Err-Record.place (c.refusal_number.ensures ∙ ap refusal_number c.in-Err-Record.fault-is) c.in-Err-Record.place-is told))
