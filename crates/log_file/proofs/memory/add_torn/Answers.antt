use Rattle.log_file.proofs.Outcomes.{adds_none, adds_one}
use Rattle.std.proofs.Common.{refl}
use Rattle.log_file.proofs.memory.add_torn.Goals as goal

pub returns : goal.returns
returns c = adds_one c.args.bytes.now c.args.others.now.items c.args.others.now.items c.push.new.self.items c.in_ok-torn.field-0 (adds_none c.args.bytes.now c.args.others.now.items c.args.others.now.items refl) c.in_ok-push.ensures.items c.in_ok-torn.ensures
