use Rattle.server_receipts.proofs.GatheredLemmas.{go_on}
use Rattle.server_receipts.proofs.laws.later_fronts_go_on.Goals as goal

pub returns : goal.returns
returns c = go_on
