use Rattle.dvvstore.proofs.Putting.{whole_list}
use Rattle.dvvstore.proofs.crew.signs.Signs.requests.Goals as goal

pub returns : goal.returns
returns g c = whole_list (λ b. b.items) c.deref.result.now c.bytes.result c.bytes.ensures.some
