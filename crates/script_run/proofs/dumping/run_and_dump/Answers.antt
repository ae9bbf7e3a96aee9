use Rattle.std.proofs.Common.{List, rules, arith, sym, subst, string_bytes}
use Rattle.bpf_helpers.specs.declared.sig.Entry.{Entry}
use Rattle.script_events.specs.Scripts.{IsRunnable}
use Rattle.script_run.specs.Dumping.{DumpsBehind}
use Rattle.script_run.specs.Printing.{Prints}
use Rattle.script_run.proofs.Clauses.{at_some, at_none}
use Rattle.script_run.proofs.dumping.run_and_dump.Goals as goal

pub text_of-requires : goal.text_of-requires
text_of-requires g c = subst (λ (ls : List Entry). IsRunnable ls c.in_ok-script.script) (sym c.requires) c.in_ok-script.ensures.runnable

pub returns-in-Some : goal.returns-in-Some
returns-in-Some g c = record {
  script = c.in_ok-script.script;
  number = c.in-Some.field-0.line;
  front = string_bytes c.in_ok-text.text;
  read = at_some _ _ _ _ c.in-Some.is c.in_ok-script.ensures.read;
  prints = subst (λ (ls : List Entry). Prints ls c.in_ok-script.script (string_bytes c.in_ok-text.text)) c.requires c.in_ok-text.ensures;
  told = search rules;
}

pub returns-then-vnode-script : goal.returns-then-vnode-script
returns-then-vnode-script g c = record {
  prints = record {
    script = c.in_ok-script.script;
    read = at_none _ _ _ c.in_default.is c.in_ok-script.ensures.read;
    prints = subst (λ (ls : List Entry). Prints ls c.in_ok-script.script (string_bytes c.in_ok-text_of.field-0)) c.requires c.in_ok-text_of.ensures;
  };
  without = let past = c.if-vnode-script.true in omega (arith, past);
}

pub returns : goal.returns
returns g c = record {
  script = c.in_ok-script.script;
  read = at_none _ _ _ c.in_default.is c.in_ok-script.ensures.read;
  dumps = subst (λ (ls : List Entry). DumpsBehind ls c.in_ok-script.script c.args.vnode (string_bytes c.in_ok-text-2.text) c.in_ok-text-2.world) c.requires c.in_ok-text-2.ensures;
}
