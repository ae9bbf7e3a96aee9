use Rattle.http_response.proofs.Ends.{least_free}
use Rattle.http_response.proofs.laws.least_boundary.Goals as goal

pub returns : goal.returns
returns c siblings fits = least_free siblings fits
