use Rattle.http_parse.proofs.EndLemmas.{sized_is}
use Rattle.http_parse.proofs.request.body_at.Goals as goal

pub returns-in-Sized : goal.returns-in-Sized
returns-in-Sized c =
    rw (c.sized_at.ensures, c.in-Sized.is)
    (sized_is c.args.bytes.now c.args.start c.requires.start c.requires.head c.args.read.now c.in-Sized.len (rw c.in-Sized.is at c.requires.small) c.requires.read)
