-- How many entries a vnode's journal has, as the view of its seat tells.
use Rattle.std.proofs.Common.{◌≡◌, ℕ, ◌+◌, length, Result, Ok, Err, is_ok, if◌then◌else◌, refl, sym, ap, ◌∙◌, arith}
use Rattle.journal.specs.Logs.{Log}
use Rattle.vnode.specs.declared.fault.PartFault.{PartFault}
use Rattle.cluster_stamps.specs.declared.request.Reply.{Reply}
use Rattle.cluster_stamps.specs.declared.view.View.{View}
use Rattle.cluster_stamps.specs.Rule.{outcome_count}
use Rattle.cluster_vnode.specs.Answers.{IsVnodes, entries_told}
use Rattle.cluster_vnode.proofs.Calls.{length_entries}

seat_counts : (log : Log) (v : View) → IsVnodes log v → entries_told v ≡ length log.entries
seat_counts log v is = omega (arith, ap entries_told is.view, length_entries is.history.told, ap length is.journal_is)

pub told_at : (old same : Log) (v : View) (at : ℕ) → same ≡ old → IsVnodes old v → at ≡ length same.entries → at ≡ entries_told v
told_at old same v at e is h = h ∙ ap (λ (l : Log). length l.entries) e ∙ sym (seat_counts old v is)

pub told_more : (old same new : Log) (v w : View) (n : ℕ) → same ≡ old → IsVnodes old v → IsVnodes new w → length new.entries ≡ length same.entries + n → entries_told w ≡ entries_told v + n
told_more old same new v w n e before behind more = seat_counts new w behind ∙ more ∙ ap (λ (l : Log). length l.entries + n) e ∙ ap (λ k. k + n) (sym (seat_counts old v before))

-- a call that was answered made one entry, and one that was refused none
pub one_made : {A F : Type 0} (out : Result Reply PartFault) (back : Result A F) → is_ok back ≡ is_ok out → outcome_count out ≡ (if is_ok back then 1 else 0)
one_made (Ok reply) (Ok made) same = refl
one_made (Ok reply) (Err fault) same = absurd cc
one_made (Err why) (Ok made) same = absurd cc
one_made (Err why) (Err fault) same = refl
