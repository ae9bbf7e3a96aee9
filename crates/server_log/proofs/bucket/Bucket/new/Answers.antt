use Rattle.std.proofs.Common.{ap, ◌∙◌, List, ℕ, ◌++◌, drop, length, replicate}
use Rattle.std.proofs.lemmas.List.{drop-replicate}
use Rattle.server_log.specs.declared.bucket.Bucket.{Bucket}
use Rattle.server_log.proofs.bucket.Bucket.new.Goals as goal

-- a bucket of these bytes, and those behind them
abbrev made : ℕ → List ℕ → List ℕ → Bucket
made len front rest = record { bytes = front ++ rest; len = len }

pub returns : goal.returns
returns c =
    let name = c.args.name.now in
    let len = length name in
    ap (λ l. made len l (drop len (replicate 64 0))) c.copy_from_slice.ensures.after ∙ ap (λ l. made len name l) (drop-replicate len 64 0)
