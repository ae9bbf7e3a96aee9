-- What was told on the output.
use Rattle.std.proofs.Common.{◌++◌, ℕ, List, Option, Some, None, Result, Ok, Err, OnOk, IfOk, codes, decimal, ap, ◌∙◌, append_assoc}
use Rattle.std.specs.Io.KnownBytes.{Appends}
use Rattle.commands.specs.Command.{HasKept, begun}
use Rattle.commands.specs.declared.server.Ended.{Ended}
use Rattle.commands.specs.declared.server.Unserved.{Unserved}
use Rattle.commands.specs.declared.server.Ended.TheVariants as ended
use Rattle.commands.specs.Outcome.{line}
use Rattle.dvvstore.specs.Keeping.{HasBegun, HasEnded}

-- a text was told
pub some_told : {T E : Type 0} (r : Result T E) (P : List ℕ → Type 0) (text : List ℕ) → OnOk r (P text) → OnOk r ((x : List ℕ) × P x)
some_told (Ok v) P text h = (text, h)
some_told (Err e) P text h = h

appends_then : (before mid after : Option (List ℕ)) (s t : List ℕ) → Appends before mid s → Appends mid after t → Appends before after (s ++ t)
appends_then None mid after s t first then = tt
appends_then (Some xs) None after s t first then = absurd first
appends_then (Some xs) (Some ms) None s t first then = absurd then
appends_then (Some xs) (Some ms) (Some zs) s t first then = then ∙ ap (λ (l : List ℕ). l ++ t) first ∙ append_assoc xs s t

-- how many records there are was told, and then an address
begun_told : (before mid after : Option (List ℕ)) (loaded : ℕ) → Appends before mid (line (codes "loaded " ++ decimal loaded)) → (bound : List ℕ) × Appends mid after (line (codes "listening " ++ bound))
    → (loaded : ℕ) × (bound : List ℕ) × Appends before after (begun loaded bound)
begun_told before mid after loaded first (bound, then) = (loaded, bound, appends_then before mid after (line (codes "loaded " ++ decimal loaded)) (line (codes "listening " ++ bound)) first then)

-- the same, where the address was told
pub begun_where_told : {T E : Type 0} (before mid after : Option (List ℕ)) (loaded : ℕ) (told : Result T E) → Appends before mid (line (codes "loaded " ++ decimal loaded))
    → OnOk told ((bound : List ℕ) × Appends mid after (line (codes "listening " ++ bound))) → OnOk told (HasBegun before after)
begun_where_told before mid after loaded (Ok v) first then = begun_told before mid after loaded first then
begun_where_told before mid after loaded (Err e) first then = tt

-- how it began was told, and then how it ended
pub kept_told : {V : Type 0} → (before mid after : Option (List ℕ)) (said : Ended V) → HasBegun before mid → HasEnded mid after said → HasKept before after said
kept_told before mid after (ended.Kept followed) (loaded, bound, first) (kept, then) = (loaded, kept, bound, appends_then before mid after (begun loaded bound) (line (codes "kept " ++ decimal kept)) first then)
kept_told before mid after (ended.Unkept followed) (loaded, bound, first) (why, then) = (loaded, bound, why, appends_then before mid after (begun loaded bound) (line (codes "not kept " ++ why)) first then)

-- the same, where it was told how it ended
pub kept_where_told : {V : Type 0} → (before mid after : Option (List ℕ)) (told : Result (Ended V) Unserved) → HasBegun before mid → IfOk told (HasEnded mid after) → IfOk told (HasKept before after)
kept_where_told before mid after (Ok said) began so = kept_told before mid after said began so
kept_where_told before mid after (Err why) began so = so
