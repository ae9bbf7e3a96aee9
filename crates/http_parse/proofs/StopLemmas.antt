-- A run of the decoder of chunks that stopped gives no more data.
use Rattle.std.proofs.Common.{◌≡◌, ℕ, List, [], ◌∷◌, ◌++◌, refl, ap}
use Rattle.http1.specs.declared.chunked.ChunkedDecoder.{ChunkedDecoder}
use Rattle.http1.specs.ChunkedDecoder.{step, Use, skips, yields, stops, use_of, Run, run_on, run}
use Rattle.http1.proofs.RunLemmas.{run_stops}

run_on_gives : (u : Use) (d : ChunkedDecoder) (b : ℕ) (bs ys : List ℕ) (part whole : Run) → use_of (run_on u d b bs part).ends.state ≡ stops
    → (use_of part.ends.state ≡ stops → whole.body ≡ part.body) → (run_on u d b (bs ++ ys) whole).body ≡ (run_on u d b bs part).body
run_on_gives skips d b bs ys part whole stopped later = later stopped
run_on_gives yields d b bs ys part whole stopped later = ap (λ l. (b ∷ []) ++ l) (later stopped)
run_on_gives stops d b bs ys part whole stopped later = refl

-- the same data of a longer input
pub run_gives : (d : ChunkedDecoder) (xs ys : List ℕ) → use_of (run d xs).ends.state ≡ stops → (run d (xs ++ ys)).body ≡ (run d xs).body
unfolding run
run_gives d [] ys stopped = ap (λ r. r.body) (run_stops d ys stopped)
run_gives d (b ∷ bs) ys stopped =
    run_on_gives (use_of d.state) d b bs ys (run (step d b) bs) (run (step d b) (bs ++ ys)) stopped (run_gives (step d b) bs ys)
