use Rattle.dvvstore.proofs.Told.{begun_where_told}
use Rattle.dvvstore.proofs.keeper.tell_begun.Goals as goal

pub returns : goal.returns
returns g c = record {
  told = begun_where_told (g.O.Write.contents c.args.out.now) (g.O.Write.contents c.writeln.new.self) (g.O.Write.contents c.tell_listening.new.out) c.args.loaded c.tell_listening.result c.in_ok-writeln.ensures.bytes
      c.tell_listening.ensures;
}
