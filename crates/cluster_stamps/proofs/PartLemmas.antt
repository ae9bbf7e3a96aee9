-- What a part came to, and that a refusal is told exactly.
use Rattle.std.proofs.Common.{◌≡◌, ◌≢◌, ℕ, Bool, false, List, [], ◌∷◌, ◌++◌, Result, Ok, Err, refl, sym, ap, ◌∙◌, subst}
use Rattle.key_state.specs.declared.content.Key.{Key}
use Rattle.key_state.specs.State.{State}
use Rattle.key_state.specs.Parts.{Partial, lacks_some, whole_of}
use Rattle.journal.specs.Answers.{TellsChange}
use Rattle.journal.specs.Entry.{Entry, Merge}
use Rattle.journal.specs.Limits.{AcceptsMerge}
use Rattle.journal.specs.Logs.{Log, with_entry}
use Rattle.journal.specs.Replay.{Leaves}
use Rattle.vnode.specs.declared.fault.PartFault.{PartFault}
use Rattle.vnode.specs.declared.fault.PartFault.TheVariants.{Missing, Refused}
use Rattle.vnode.specs.declared.fault.VnodeFault.{VnodeFault}
use Rattle.vnode.specs.declared.fault.VnodeFault.TheVariants.{NoMemory}
use Rattle.vnode.proofs.Refused.{at_hand}
use Rattle.cluster_stamps.specs.declared.request.Reply.TheVariants.{Built}
use Rattle.cluster_stamps.specs.declared.request.Request.TheVariants.{Part}
use Rattle.cluster_stamps.specs.Answered.{IsReply, RefusesWhole, with_made}
use Rattle.cluster_stamps.specs.Wholes.{merged_by, last_merged}

-- a refusal of what is no part is told exactly
pub told_exactly : {A : Type 0} (Why : VnodeFault → Type 0) (told : VnodeFault) (result : Result A VnodeFault) → result ≡ Err told → ((f : VnodeFault) → f ≢ NoMemory → Why f → result ≡ Err f)
    → (fault : PartFault) → fault ≢ Refused NoMemory → RefusesWhole Why fault → Refused told ≡ fault
told_exactly Why told result is exact Missing other why = absurd why
told_exactly Why told result is exact (Refused f) other why =
    let e = exact f (λ n. other (ap (λ x. Refused x) n)) why in
    let same : told ≡ f = cc in
    ap (λ x. Refused x) same

-- and none where it was accepted
pub none_told : {A B : Type 0} (Why : VnodeFault → Type 0) (answer : A) (result : Result A VnodeFault) → result ≡ Ok answer → ((f : VnodeFault) → f ≢ NoMemory → Why f → result ≡ Err f)
    → (fault : PartFault) → fault ≢ Refused NoMemory → RefusesWhole Why fault → B
none_told Why answer result is exact Missing other why = absurd why
none_told Why answer result is exact (Refused f) other why = let e = exact f (λ n. other (ap (λ x. Refused x) n)) why in absurd (cc)

last_push : (es : List Entry) (e : Entry) → last_merged (es ++ e ∷ []) ≡ merged_by e
last_push [] e = refl
last_push (x ∷ []) e = refl
last_push (x ∷ y ∷ es) e = last_push (y ∷ es) e

-- the state that the last entry merged is the whole one
whole_is : (old new : Log) (entry : Entry) → new ≡ with_entry old entry → last_merged new.entries ≡ merged_by entry
whole_is old new entry e = ap (λ (l : Log). last_merged l.entries) e ∙ last_push old.entries entry

-- the vnode's entry is that of what was replied
pub part_made : (old new : Log) (key : Key) (stamp from at : ℕ) (part : Partial) (changes : Bool) (whole : State) → whole ≡ last_merged new.entries
    → Leaves old.entries key (λ own. new ≡ with_entry old (Merge stamp key from at (whole_of part own))) → new ≡ with_made old stamp (Part key from at part) (Ok (Built changes whole))
part_made old new key stamp from at part changes whole e entry =
    entry.2 ∙ ap (λ s. with_entry old (Merge stamp key from at s)) (sym (e ∙ whole_is old new _ entry.2))

-- what was replied is what one thread is answered
pub part_replied : (old new : Log) (key : Key) (stamp from at : ℕ) (part : Partial) (changes : Bool) (whole : State) → whole ≡ last_merged new.entries
    → Leaves old.entries key (λ own. new ≡ with_entry old (Merge stamp key from at (whole_of part own))) → Leaves old.entries key (λ own. lacks_some own part ≡ false)
    → Leaves old.entries key (λ own. TellsChange old.entries (Merge stamp key from at (whole_of part own)) key changes) → Leaves old.entries key (λ own. AcceptsMerge old.entries key (whole_of part own))
    → IsReply old stamp (Part key from at part) (Built changes whole)
part_replied old new key stamp from at part changes whole e entry held changed accepts =
    let own = entry.0 in
    let is : whole ≡ whole_of part own = e ∙ whole_is old new _ entry.2 in
    let none = at_hand old.entries key own (λ s. lacks_some s part ≡ false) entry.1 held in
    let tells = at_hand old.entries key own (λ s. TellsChange old.entries (Merge stamp key from at (whole_of part s)) key changes) entry.1 changed in
    let taken = at_hand old.entries key own (λ s. AcceptsMerge old.entries key (whole_of part s)) entry.1 accepts in (
      subst (AcceptsMerge old.entries key) (sym is) taken,
      ((own, entry.1, (none, is)), subst (λ s. TellsChange old.entries (Merge stamp key from at s) key changes) (sym is) tells),
    )
