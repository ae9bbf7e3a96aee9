use Rattle.peer_hmac.proofs.Bits.{none_differing, still_none}
use Rattle.peer_hmac.proofs.comparing.with_difference.Goals as goal

pub returns : goal.returns
returns c = (λ none. none_differing c.args.differing c.args.one c.args.other none, λ h. still_none c.args.differing c.args.one c.args.other h.0 h.1)
