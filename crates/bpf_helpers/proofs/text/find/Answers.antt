use Rattle.bpf_helpers.proofs.Places.{first_place, no_place}
use Rattle.bpf_helpers.proofs.text.find.Goals as goal

pub returns-in-Some-clause-value : goal.returns-in-Some-clause-value
returns-in-Some-clause-value c = first_place c.args.text.now c.args.needle.now c.in-Some.place c.in-Some.ensures

pub returns-in-None-clause-value : goal.returns-in-None-clause-value
returns-in-None-clause-value c = no_place c.args.text.now c.args.needle.now c.in-None.ensures
