use Rattle.std.proofs.Common.{List, [], ◌∷◌, rules, sym, subst, string_bytes}
use Rattle.bpf_helpers.specs.declared.sig.Entry.{Entry}
use Rattle.script_events.specs.Scripts.{IsRunnableFrom}
use Rattle.script_run.specs.Loading.{PrintsFrom}
use Rattle.script_run.proofs.Clauses.{at_some, at_none}
use Rattle.script_run.proofs.loading.run_from.Goals as goal

pub text_from-requires : goal.text_from-requires
text_from-requires g c = subst (λ (ls : List Entry). IsRunnableFrom (0 ∷ c.args.incarnation ∷ []) ls c.in_ok-script.script) (sym c.requires) c.in_ok-script.ensures.runnable

pub returns-in-Some-clause-printed : goal.returns-in-Some-clause-printed
returns-in-Some-clause-printed g c = record {
  script = c.in_ok-script.script;
  number = c.in-Some.field-0.line;
  front = string_bytes c.in_ok-text.text;
  read = at_some _ _ _ _ c.in-Some.is c.in_ok-script.ensures.read;
  prints = subst (λ (ls : List Entry). PrintsFrom ls c.args.incarnation c.args.records.now c.in_ok-script.script (string_bytes c.in_ok-text.text)) c.requires c.in_ok-text.ensures.printed;
  told = search rules;
}

pub returns-clause-printed : goal.returns-clause-printed
returns-clause-printed g c = record {
  script = c.in_ok-script.script;
  read = at_none _ _ _ c.in-None.is c.in_ok-script.ensures.read;
  prints = subst (λ (ls : List Entry). PrintsFrom ls c.args.incarnation c.args.records.now c.in_ok-script.script (string_bytes c.in_ok-text.text)) c.requires c.in_ok-text.ensures.printed;
}
