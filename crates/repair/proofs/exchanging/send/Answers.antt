use Rattle.std.proofs.Common.{refl, sym}
use Rattle.repair.specs.Exchanges.{AtOnce}
use Rattle.repair.proofs.exchanging.send.Goals as goal

pub returns-in-Err : goal.returns-in-Err
returns-in-Err g c = let s = c.send_whole.ensures in (AtOnce s.0, (c.send_whole.new.peers, s.1, refl), s.2, refl)

pub returns-in-Ok : goal.returns-in-Ok
returns-in-Ok g c = let s = c.send_part.ensures in (s.0, s.1, s.2, sym s.3)
