-- Reads of all keys at one of the vnodes, and merges of copies under a new identifier.
use Rattle.std.proofs.Common.{◌≡◌, ℕ, ◌+◌, ◌<◌, ◌≤◌, List, [], ◌∷◌, ◌++◌, length, get_or, sym, ap, subst, ◌∙◌, arith}
use Rattle.std.specs.Prelude.{◌↔◌, Result, Err, slice_set}
use Rattle.std.specs.List.{All}
use Rattle.std.proofs.lemmas.List.{get_or_default, length-map}
use Rattle.key_state.specs.declared.content.Key.{Key}
use Rattle.journal.specs.Journals.{IsJournal}
use Rattle.journal.specs.Logs.{Log, with_entries, max_entries}
use Rattle.journal.specs.Replay.{IsReplay}
use Rattle.vnode.specs.declared.fault.VnodeFault.{VnodeFault}
use Rattle.vnode.specs.declared.fault.VnodeFault.TheVariants.{JournalFull}
use Rattle.vnode.specs.declared.steps.Copied.{Copied as Held}
use Rattle.vnode.specs.Keys.{AreKeys, reads_of}
use Rattle.vnode.specs.States.{keys_of}
use Rattle.vnode.proofs.ReadLemmas.{length-reads}
use Rattle.world.specs.declared.event.Copies.{Copies}
use Rattle.world.specs.Appending.{AreCopies, CopiesAll, LoadsAll, merges_of_copies}
use Rattle.world.specs.Represents.{log_at}
use Rattle.world.specs.Stamped.{AreStamped}
use Rattle.world.proofs.LoadRuns.{merges_count}
use Rattle.world.proofs.StampRows.{stamped_row, stamped_loaded, reads_in_row, merges_in_row}

-- what a vnode read is read at its index
pub copied_all : (logs : List Log) (at stamp : ℕ) (x new : Log) (copies : Copies) → at < length logs → x ≡ get_or logs at x → AreKeys x (keys_of copies.held.items) → All (λ c. IsReplay x.entries c.key c.state) copies.held.items
    → copies.from ≡ x.vnode → copies.first ≡ length x.entries → new ≡ with_entries x (reads_of stamp (keys_of copies.held.items)) → IsJournal new.vnode new.entries
    → length x.entries + length (keys_of copies.held.items) ≤ max_entries → CopiesAll logs (slice_set logs at new) at stamp copies
copied_all logs at stamp x new copies inside there keys states from first entries legal places =
    let e : x ≡ log_at logs at = there ∙ get_or_default logs at x (record { vnode = 0; entries = [] }) inside in
    let is : new ≡ with_entries (log_at logs at) (reads_of stamp (keys_of copies.held.items)) = entries ∙ ap (λ (l : Log). with_entries l (reads_of stamp (keys_of copies.held.items))) e in
    record {
      keys = subst (λ (l : Log). AreKeys l (keys_of copies.held.items)) e keys;
      states = subst (λ (l : Log). All (λ (c : Held). IsReplay l.entries c.key c.state) copies.held.items) e states;
      from = from ∙ ap (λ (l : Log). l.vnode) e;
      first = first ∙ ap (λ (l : Log). length l.entries) e;
      entries = ap (slice_set logs at) is;
      legal = subst (λ (l : Log). IsJournal l.vnode l.entries) is legal;
      places = subst (λ (l : Log). length l.entries + length (keys_of copies.held.items) ≤ max_entries) e places;
    }

-- they are of rising keys, and have places
pub copies_are : (old new : List Log) (at stamp : ℕ) (copies : Copies) → CopiesAll old new at stamp copies → AreCopies copies
copies_are old new at stamp copies all = record {
  rising = all.keys.rising;
  places =
      let first = all.first in
      let count : length (keys_of copies.held.items) ≡ length copies.held.items = length-map copies.held.items (λ (c : Held). c.key) in
      let places = all.places in
      omega (arith, first, count, places);
}

pub copies_stamped : (logs : List Log) (made at n : ℕ) (x new : Log) (keys : List Key) → at < length logs → x ≡ get_or logs at x → new ≡ with_entries x (reads_of made keys) → n ≡ length keys → AreStamped logs made → AreStamped (slice_set logs at new) (made + n)
copies_stamped logs made at n x new keys inside there is count h =
    subst (λ (l : Log). AreStamped (slice_set logs at l) (made + n)) (sym (is ∙ ap (λ (l : Log). with_entries l (reads_of made keys)) (there ∙ get_or_default logs at x (record { vnode = 0; entries = [] }) inside)))
    (subst (λ (k : ℕ). AreStamped (slice_set logs at (with_entries (log_at logs at) (reads_of made keys))) (made + k)) (length-reads made keys ∙ sym count)
    (stamped_row logs made at (reads_of made keys) inside (reads_in_row made keys) h))

-- why reads of all keys are refused
pub full_at : {X : Type 0} (logs : List Log) (at : ℕ) (x : Log) (r : Result X VnodeFault) (fault : VnodeFault) → at < length logs → x ≡ get_or logs at x → r ≡ Err fault → (keys : List Key) × AreKeys x keys × (r ≡ Err JournalFull ↔ (max_entries < length x.entries + length keys))
    → (keys : List Key) × AreKeys (log_at logs at) keys × (fault ≡ JournalFull ↔ (max_entries < length (log_at logs at).entries + length keys))
full_at logs at x r fault inside there is full =
    let e : x ≡ log_at logs at = there ∙ get_or_default logs at x (record { vnode = 0; entries = [] }) inside in (
      full.0,
      subst (λ (l : Log). AreKeys l full.0) e full.1,
      (
        λ same. subst (λ (l : Log). max_entries < length l.entries + length full.0) e (full.2.0 (is ∙ ap Err same)),
        λ many. let told = sym is ∙ full.2.1 (subst (λ (l : Log). max_entries < length l.entries + length full.0) (sym e) many) in cc,
      ),
    )

-- an index goes on under a new identifier
pub loads_all : (logs new : List Log) (at id stamp : ℕ) (copies : Copies) (x fresh closed : Log) → at < length logs → fresh ≡ record { vnode = id; entries = merges_of_copies stamp copies.from copies.first copies.held.items } → IsJournal fresh.vnode fresh.entries
    → closed ≡ get_or logs at x → new ≡ slice_set logs at fresh ++ closed ∷ [] → LoadsAll logs new at id stamp copies
loads_all logs new at id stamp copies x fresh closed inside fresh_is legal closed_is is = record {
  entries = is ∙ ap (λ (l : Log). slice_set logs at l ++ closed ∷ []) fresh_is
      ∙ ap (λ (l : Log). slice_set logs at (let new : Log = record { vnode = id; entries = merges_of_copies stamp copies.from copies.first copies.held.items } in new) ++ l ∷ []) (closed_is ∙ get_or_default logs at x (record { vnode = 0; entries = [] }) inside);
  legal = subst (λ (l : Log). IsJournal l.vnode l.entries) fresh_is legal;
}

-- merges under a new identifier, with the vnode of before behind the others
pub loads_stamped : (logs new : List Log) (made at id n : ℕ) (copies : Copies) → at < length logs → LoadsAll logs new at id made copies → n ≡ length copies.held.items → AreStamped logs made → AreStamped new (made + n)
loads_stamped logs new made at id n copies inside loads count h =
    subst (λ (k : ℕ). AreStamped new (made + k)) (merges_count made copies.from copies.first copies.held.items ∙ sym count)
    (stamped_loaded logs new made at id (merges_of_copies made copies.from copies.first copies.held.items) inside (merges_in_row made copies.from copies.first copies.held.items) loads.entries h)
