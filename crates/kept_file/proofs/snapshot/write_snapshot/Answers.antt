use Rattle.std.proofs.Common.{rules, refl, subst}
use Rattle.peers.specs.Calls.{KeysOf}
use Rattle.kept_file.proofs.Asked.{asked_one, asked_then}
use Rattle.kept_file.proofs.Made.{whole_snapshot}
use Rattle.kept_file.proofs.snapshot.write_snapshot.Goals as goal

pub returns-in-Err-clause-asked : goal.returns-in-Err-clause-asked
returns-in-Err-clause-asked g c = asked_one g.P.Peers.happens c.args.peers.now c.keys_of.new.self c.args.subject.index (KeysOf c.args.subject.index c.keys_of.result) refl c.keys_of.ensures

pub returns-in_err-write_keys-clause-asked : goal.returns-in_err-write_keys-clause-asked
returns-in_err-write_keys-clause-asked g c = asked_then g.P.Peers.happens c.args.peers.now c.keys_of.new.self c.write_keys.new.peers c.args.subject.index
    (asked_one g.P.Peers.happens c.args.peers.now c.keys_of.new.self c.args.subject.index (KeysOf c.args.subject.index c.keys_of.result) refl c.keys_of.ensures) c.write_keys.ensures.asked

pub returns-in_err-write_end-clause-asked : goal.returns-in_err-write_end-clause-asked
returns-in_err-write_end-clause-asked g c = asked_then g.P.Peers.happens c.args.peers.now c.keys_of.new.self c.write_keys.new.peers c.args.subject.index
    (asked_one g.P.Peers.happens c.args.peers.now c.keys_of.new.self c.args.subject.index (KeysOf c.args.subject.index c.keys_of.result) refl c.keys_of.ensures) c.write_keys.ensures.asked

pub returns : goal.returns
returns g c = record {
  asked = asked_then g.P.Peers.happens c.args.peers.now c.keys_of.new.self c.write_keys.new.peers c.args.subject.index
      (asked_one g.P.Peers.happens c.args.peers.now c.keys_of.new.self c.args.subject.index (KeysOf c.args.subject.index c.keys_of.result) refl c.keys_of.ensures) c.write_keys.ensures.asked;
  calls = whole_snapshot g.P.Peers.happens c.args.peers.now c.keys_of.new.self c.write_keys.new.peers c.args.subject.index c.args.subject.id c.in-Ok.keys _ _ c.len-2.result (g.W.Write.contents c.args.out.now) (g.W.Write.contents c.write_keys.new.out) (g.W.Write.contents c.write_end.new.out)
      (subst (λ b. g.P.Peers.happens c.args.peers.now (KeysOf c.args.subject.index b) c.keys_of.new.self) c.in-Ok.is c.keys_of.ensures) (search rules) c.in_ok-write_keys.ensures.read (search rules) c.in_ok-write_end.ensures.written (search rules);
}
