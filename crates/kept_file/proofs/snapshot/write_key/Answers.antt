use Rattle.std.proofs.Common.{refl}
use Rattle.peers.specs.Calls.{StateOf}
use Rattle.kept_file.proofs.Asked.{asked_one}
use Rattle.kept_file.proofs.snapshot.write_key.Goals as goal

pub returns-in-Err-clause-asked : goal.returns-in-Err-clause-asked
returns-in-Err-clause-asked g c = asked_one g.P.Peers.happens c.args.peers.now c.state_of.new.self c.args.index (StateOf c.args.index c.args.key.now c.state_of.result) refl c.state_of.ensures

pub returns-clause-asked : goal.returns-clause-asked
returns-clause-asked g c = asked_one g.P.Peers.happens c.args.peers.now c.state_of.new.self c.args.index (StateOf c.args.index c.args.key.now c.state_of.result) refl c.state_of.ensures

pub returns-in_err-write_record-clause-asked : goal.returns-in_err-write_record-clause-asked
returns-in_err-write_record-clause-asked g c = asked_one g.P.Peers.happens c.args.peers.now c.state_of.new.self c.args.index (StateOf c.args.index c.args.key.now c.state_of.result) refl c.state_of.ensures
