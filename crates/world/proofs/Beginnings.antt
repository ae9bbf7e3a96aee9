-- Vnodes of an incarnation, and merges of records at the first.
use Rattle.std.proofs.Common.{◌≡◌, ℕ, zero, suc, ◌+◌, ◌<◌, ◌≤◌, List, [], ◌∷◌, ◌++◌, length, get_or, take, refl, sym, ap, subst, ◌∙◌, arith, append_assoc, length-set}
use Rattle.std.specs.Prelude.{slice_set}
use Rattle.std.proofs.Math.ListN.{get_or-append}
use Rattle.std.proofs.lemmas.List.{get_or-set_same, take_more, length-take-le, length-map}
use Rattle.journal.specs.Entry.{Entry, Merge}
use Rattle.journal.specs.Logs.{Log, with_entry, with_entries}
use Rattle.record_codec.specs.declared.record.Record.{Record}
use Rattle.world.specs.declared.event.Event.{Event}
use Rattle.world.specs.declared.event.Reply.{Reply}
use Rattle.world.specs.Beginning.{merges_of, first_logs}
use Rattle.world.specs.Knowledge.{below, id_under, ids_under}
use Rattle.world.specs.Represents.{empty_logs, log_at}
use Rattle.world.specs.Sources.{GoOnBy, IsFrontOf}
use Rattle.world.specs.Stamped.{AreStamped}
use Rattle.world.proofs.Renamed.{below_len}
use Rattle.world.proofs.Runs.{opened_more}
use Rattle.world.proofs.Stamped.{none_stamped}
use Rattle.world.proofs.StampRows.{AreInRow, stamped_row}

-- a merge for each record
pub length-merges : (stamp : ℕ) (records : List Record) → length (merges_of stamp records) ≡ length records
length-merges stamp [] = refl
length-merges stamp (r ∷ records) = ap suc (length-merges (stamp + 1) records)

in_row : (stamp : ℕ) (records : List Record) → AreInRow stamp (merges_of stamp records)
in_row stamp [] = tt
in_row stamp (r ∷ records) = (refl, in_row (stamp + 1) records)

-- one merge more
merges-push : (stamp : ℕ) (records : List Record) (r : Record) → merges_of stamp (records ++ r ∷ []) ≡ merges_of stamp records ++ Merge (stamp + length records) r.key r.from r.at r.state ∷ []
merges-push stamp [] r = ap (λ (n : ℕ). Merge n r.key r.from r.at r.state ∷ []) (omega arith)
merges-push stamp (first ∷ records) r =
    ap (λ (es : List Entry). Merge stamp first.key first.from first.at first.state ∷ es) (merges-push (stamp + 1) records r
    ∙ ap (λ (n : ℕ). merges_of (stamp + 1) records ++ Merge n r.key r.from r.at r.state ∷ []) (omega arith))

pub merged_more : (log : Log) (records : List Record) (i : ℕ) (r : Record) → i < length records → r ≡ get_or records i r → with_entry (with_entries log (merges_of 0 (take i records))) (Merge i r.key r.from r.at r.state) ≡ with_entries log (merges_of 0 (take (i + 1) records))
merged_more log records i r lt is = ap (λ (es : List Entry). let l : Log = record { vnode = log.vnode; entries = es } in l)
    (append_assoc log.entries (merges_of 0 (take i records)) (Merge i r.key r.from r.at r.state ∷ []) ∙ ap (λ (es : List Entry). log.entries ++ es) (sym one))
  where
    one : merges_of 0 (take (i + 1) records) ≡ merges_of 0 (take i records) ++ Merge i r.key r.from r.at r.state ∷ []
    one = ap (merges_of 0) (take_more records i r lt ∙ ap (λ (e : Record). take i records ++ e ∷ []) (sym is)) ∙ merges-push 0 (take i records) r
        ∙ ap (λ (n : ℕ). merges_of 0 (take i records) ++ Merge n r.key r.from r.at r.state ∷ []) (let l : length (take i records) ≡ i = length-take-le i records (omega (arith, lt)) in let n : 0 + length (take i records) ≡ i = omega (arith, l) in n)

-- how many vnodes there are
pub length-empty : (incarnation n : ℕ) → length (empty_logs (ids_under incarnation n)) ≡ n
length-empty incarnation n = length-map (ids_under incarnation n) (λ (id : ℕ). let l : Log = record { vnode = id; entries = [] } in l) ∙ length-map (below n) (id_under incarnation) ∙ below_len n

-- the first of them
first_log : (incarnation n : ℕ) (d : Log) → 1 ≤ n → get_or (empty_logs (ids_under incarnation n)) 0 d ≡ record { vnode = id_under incarnation 0; entries = [] }
first_log incarnation zero d le = absurd (omega (arith, le))
first_log incarnation (suc zero) d le = refl
first_log incarnation (suc (suc n)) d le =
    ap (λ (k : ℕ). get_or (empty_logs (ids_under incarnation k)) 0 d) (let k : suc (suc n) ≡ suc n + 1 = omega arith in k) ∙ ap (λ (ls : List Log). get_or ls 0 d) (opened_more incarnation (suc n))
    ∙ get_or-append (empty_logs (ids_under incarnation (suc n))) (record { vnode = id_under incarnation (suc n); entries = [] } ∷ []) d 0 (let l = length-empty incarnation (suc n) in omega (arith, l))
    ∙ first_log incarnation (suc n) d (omega arith)

pub first_is : (incarnation n : ℕ) (logs : List Log) (d : Log) → 1 ≤ n → logs ≡ empty_logs (ids_under incarnation n) → d ≡ get_or logs 0 d → d ≡ record { vnode = id_under incarnation 0; entries = [] }
first_is incarnation n logs d le are is = is ∙ ap (λ (ls : List Log). get_or ls 0 d) are ∙ first_log incarnation n d le

-- records merged there
pub first_new : (incarnation n : ℕ) (records : List Record) (logs : List Log) (d new : Log) → 1 ≤ n → logs ≡ empty_logs (ids_under incarnation n) → d ≡ get_or logs 0 d → new ≡ with_entries d (merges_of 0 records) → new ≡ record { vnode = id_under incarnation 0; entries = merges_of 0 records }
first_new incarnation n records logs d new le are is merged = merged ∙ ap (λ (l : Log). with_entries l (merges_of 0 records)) (first_is incarnation n logs d le are is)

pub first_merged : (incarnation n : ℕ) (records : List Record) (logs : List Log) (d new : Log) → 1 ≤ n → logs ≡ empty_logs (ids_under incarnation n) → d ≡ get_or logs 0 d → new ≡ with_entries d (merges_of 0 records) → slice_set logs 0 new ≡ first_logs incarnation n records
first_merged incarnation n records logs d new le are is merged =
    ap (λ (l : Log). slice_set logs 0 l) (first_new incarnation n records logs d new le are is merged)
    ∙ ap (λ (ls : List Log). slice_set ls 0 (let l : Log = record { vnode = id_under incarnation 0; entries = merges_of 0 records } in l)) are

pub length-first : (incarnation n : ℕ) (records : List Record) → length (first_logs incarnation n records) ≡ n
length-first incarnation n records = length-set (empty_logs (ids_under incarnation n)) 0 (record { vnode = id_under incarnation 0; entries = merges_of 0 records }) ∙ length-empty incarnation n

pub first_stamped : (incarnation n : ℕ) (records : List Record) → 1 ≤ n → AreStamped (first_logs incarnation n records) (length records)
first_stamped incarnation n records le =
    subst (λ (k : ℕ). AreStamped (first_logs incarnation n records) k) (let l = length-merges 0 records in let k : 0 + length (merges_of 0 records) ≡ length records = omega (arith, l) in k)
    (subst (λ (l : Log). AreStamped (slice_set (empty_logs (ids_under incarnation n)) 0 (with_entries l (merges_of 0 records))) (0 + length (merges_of 0 records))) (first_log incarnation n (record { vnode = 0; entries = [] }) le)
    (stamped_row (empty_logs (ids_under incarnation n)) 0 0 (merges_of 0 records) (let l = length-empty incarnation n in omega (arith, l, le)) (in_row 0 records) (none_stamped (ids_under incarnation n))))

-- the journal that the records began still stands
pub first_stands : (incarnation n : ℕ) (records : List Record) (events : List Event) (replies : List Reply) (new : List Log) → 1 ≤ n → GoOnBy events replies (first_logs incarnation n records) new
    → (place : ℕ) × (place < length new) × IsFrontOf (record { vnode = id_under incarnation 0; entries = merges_of 0 records }) (log_at new place)
first_stands incarnation n records events replies new le go =
    let h = go.stand 0 (let l = length-first incarnation n records in omega (arith, l, le)) in
    let is : log_at (first_logs incarnation n records) 0 ≡ record { vnode = id_under incarnation 0; entries = merges_of 0 records } =
    get_or-set_same (empty_logs (ids_under incarnation n)) 0 (record { vnode = id_under incarnation 0; entries = merges_of 0 records }) (record { vnode = 0; entries = [] }) (let l = length-empty incarnation n in omega (arith, l, le)) in
    (h.0, h.1, subst (λ (l : Log). IsFrontOf l (log_at new h.0)) is h.2)
