use Rattle.std.proofs.Common.{◌≡◌, ◌++◌, rules}
use Rattle.log_file.proofs.Outcomes.{time_forced}
use Rattle.log_file.proofs.memory.MemoryDevice.force.Goals as goal

pub returns-clause-time : goal.returns-clause-time
returns-clause-time c =
    let both : c.append.new.self.items ≡ c.args.self.now.past.items ++ c.args.self.now.others.items = search rules in
    time_forced c.args.self.now.past.items c.append.new.self.items c.args.self.now.bytes.items c.args.self.now.others.items c.append.new.other.items both
