-- Reading one after another, as a loop does.
use Rattle.std.proofs.Common.{◌≡◌, ℕ, suc, ◌-◌, ◌+◌, ◌≤◌, ◌<◌, List, [], ◌∷◌, ◌++◌, Option, Some, None, refl, sym, ap, ◌∙◌, append_assoc, arith}
use Rattle.std.proofs.lemmas.List.{append-nil}
use Rattle.record_codec.specs.declared.fault.WireFault.{WireFault}
use Rattle.record_codec.specs.declared.fault.WireFault.TheVariants.{Cut, Mark, Digest, NotCanonical, NoMemory}
use Rattle.record_codec.specs.Reading.{Reader, ◌>>=◌, Fails, chain_at}

-- what was read before, and what is still read
abbrev pub with_front : {A : Type 0} → List A → Option (List A × List ℕ) → Option (List A × List ℕ)
with_front front read = read >>= λ x. Some (front ++ x.0, x.1)

regrouped : {A : Type 0} (front : List A) (x : A) (read : Option (List A × List ℕ)) → with_front front (read >>= λ y. Some (x ∷ y.0, y.1)) ≡ with_front (front ++ x ∷ []) read
regrouped front x (Some y) = ap (λ xs. Some (xs, y.1)) (simp append_assoc)
regrouped front x None = refl

pub chain-more : {S A : Type 0} (item : Reader A) (next : S → A → Option S) (front : List A) (count i : ℕ) (before after : S) (bytes : List ℕ) (x : A) (rest : List ℕ) (total : Option (List A × List ℕ)) → i < count
    → item bytes ≡ Some (x, rest) → next before x ≡ Some after
    → with_front front (chain_at item next (count - i) before bytes) ≡ total → with_front (front ++ x ∷ []) (chain_at item next (count - (i + 1)) after rest) ≡ total
unfolding chain_at
chain-more item next front count i before after bytes x rest total lt read follows so_far =
    let k : count - i ≡ suc (count - (i + 1)) = omega arith in
    let one : with_front front (chain_at item next (count - i) before bytes) ≡ with_front (front ++ x ∷ []) (chain_at item next (count - (i + 1)) after rest) = rw (k, read, follows) (regrouped front x (chain_at item next (count - (i + 1)) after rest)) in
    sym one ∙ so_far

-- the next one isn't read
pub chain-unread : {S A : Type 0} (item : Reader A) (next : S → A → Option S) (fault : WireFault) (front : List A) (count i : ℕ) (before : S) (bytes : List ℕ) (total : Option (List A × List ℕ)) → i < count
    → Fails fault (item bytes) → with_front front (chain_at item next (count - i) before bytes) ≡ total → Fails fault total
unfolding chain_at
chain-unread item next NoMemory front count i before bytes total lt fails so_far = tt
chain-unread item next Cut front count i before bytes total lt fails so_far = fails
chain-unread item next Mark front count i before bytes total lt fails so_far = fails
chain-unread item next Digest front count i before bytes total lt fails so_far = fails
chain-unread item next NotCanonical front count i before bytes total lt fails so_far =
    let k : count - i ≡ suc (count - (i + 1)) = omega arith in
    let one : with_front front (chain_at item next (count - i) before bytes) ≡ None = rw (k, fails) refl in
    sym so_far ∙ one

-- the next one may not follow
pub chain-barred : {S A : Type 0} (item : Reader A) (next : S → A → Option S) (fault : WireFault) (front : List A) (count i : ℕ) (before : S) (bytes : List ℕ) (x : A) (rest : List ℕ) (total : Option (List A × List ℕ)) → i < count
    → item bytes ≡ Some (x, rest) → Fails fault (next before x) → with_front front (chain_at item next (count - i) before bytes) ≡ total → Fails fault total
unfolding chain_at
chain-barred item next NoMemory front count i before bytes x rest total lt read fails so_far = tt
chain-barred item next Cut front count i before bytes x rest total lt read fails so_far = fails
chain-barred item next Mark front count i before bytes x rest total lt read fails so_far = fails
chain-barred item next Digest front count i before bytes x rest total lt read fails so_far = fails
chain-barred item next NotCanonical front count i before bytes x rest total lt read fails so_far =
    let k : count - i ≡ suc (count - (i + 1)) = omega arith in
    let one : with_front front (chain_at item next (count - i) before bytes) ≡ None = rw (k, read, fails) refl in
    sym so_far ∙ one

pub chain-done : {S A : Type 0} (item : Reader A) (next : S → A → Option S) (front : List A) (count i : ℕ) (before : S) (bytes : List ℕ) (total : Option (List A × List ℕ)) → count ≤ i
    → with_front front (chain_at item next (count - i) before bytes) ≡ total → total ≡ Some (front, bytes)
unfolding chain_at
chain-done item next front count i before bytes total le so_far =
    let k : count - i ≡ 0 = omega arith in
    let one : with_front front (chain_at item next (count - i) before bytes) ≡ Some (front, bytes) = rw k (ap (λ xs. Some (xs, bytes)) (append-nil front)) in
    sym so_far ∙ one

-- what was not read before anything is in front
pub with_front-nil : {A : Type 0} (read : Option (List A × List ℕ)) → with_front [] read ≡ read
with_front-nil (Some x) = refl
with_front-nil None = refl
