-- What is told line by line.
use Rattle.std.proofs.Common.{◌≡◌, ◌<◌, ℕ, List, ◌++◌, Bor, ap, sym, subst, ◌∙◌, append_assoc, refl, Option, Some, None}
use Rattle.std.specs.Prelude.{codes, decimal, Result, Ok, Err, OnOk, IfOk}
use Rattle.std.specs.Io.KnownBytes.{Appends}
use Rattle.audit_faults.specs.declared.fault.WatchFault.{WatchFault}
use Rattle.bpf_helpers.specs.declared.sig.Entry.{Entry}
use Rattle.commands.specs.declared.failure.Failure.{Failure}
use Rattle.commands.specs.Outcome.{line}
use Rattle.commands.specs.Audited.{audit_text, audit_status}
use Rattle.commands.specs.declared.server.Ended.TheVariants.{Kept, Unkept}
use Rattle.commands.specs.declared.words.Request.{Request}
use Rattle.commands.specs.declared.words.Request.TheVariants.{Explain}
use Rattle.commands.specs.Command.{Explained, HasKept, KeptFolder, Listened, Served, begun, kept, listened, unkept}

appends_then : (before mid after : Option (List ℕ)) (s t : List ℕ) → Appends before mid s → Appends mid after t → Appends before after (s ++ t)
appends_then None mid after s t first then = tt
appends_then (Some xs) None after s t first then = absurd first
appends_then (Some xs) (Some ms) None s t first then = absurd then
appends_then (Some xs) (Some ms) (Some zs) s t first then = then ∙ ap (λ (l : List ℕ). l ++ t) first ∙ append_assoc xs s t

-- the address, and then what is said of the journals
pub served_then : (before mid after : Option (List ℕ)) (status : ℕ) (audited : Result (Unit {0}) WatchFault) → Listened before mid → Appends mid after (audit_text audited) → status ≡ audit_status audited → Served before after status
served_then before mid after status audited told then is = listened told.0 audited is (appends_then before mid after (line (codes "listening " ++ told.0)) (audit_text audited) told.1 then)

pub served_told : (before mid after : Option (List ℕ)) (audited : Result (Unit {0}) WatchFault) (told : Result ℕ Failure) → Listened before mid → OnOk told (Appends mid after (audit_text audited)) → IfOk told (λ status. status ≡ audit_status audited) → IfOk told (Served before after)
served_told before mid after audited (Ok status) listen then is = served_then before mid after status audited listen then is
served_told before mid after audited (Err why) listen then is = is

-- it holds below 2 too
pub served_below : (before after : Option (List ℕ)) (told : Result ℕ Failure) → IfOk told (Served before after) → IfOk told (λ status. status < 2 → Served before after status)
served_below before after (Ok status) so = λ below. so
served_below before after (Err why) so = so

-- how a store that is kept began and ended, and then what is said of the journals
pub kept_told : {V : Type 0} → (before mid after : Option (List ℕ)) (said : V) (audited : Result (Unit {0}) WatchFault) (told : Result ℕ Failure) → HasKept before mid (Kept said) → OnOk told (Appends mid after (audit_text audited)) → IfOk told (λ status. status ≡ audit_status audited) → IfOk told (KeptFolder before after)
kept_told before mid after said audited (Ok status) (loaded, count, bound, written) then is = kept loaded count bound audited is (appends_then before mid after (begun loaded bound ++ line (codes "kept " ++ decimal count)) (audit_text audited) written then)
kept_told before mid after said audited (Err why) has then is = is

-- the same where not all was written
pub unkept_told : {V : Type 0} → (before mid after : Option (List ℕ)) (said : V) (audited : Result (Unit {0}) WatchFault) → HasKept before mid (Unkept said) → Appends mid after (audit_text audited) → KeptFolder before after 1
unkept_told before mid after said audited (loaded, bound, why, written) then = unkept loaded bound why audited refl (appends_then before mid after (begun loaded bound ++ line (codes "not kept " ++ why)) (audit_text audited) written then)

pub kept_below : (before after : Option (List ℕ)) (told : Result ℕ Failure) → IfOk told (KeptFolder before after) → IfOk told (λ status. status < 2 → KeptFolder before after status)
kept_below before after (Ok status) so = λ below. so
kept_below before after (Err why) so = so

-- the image that is to be explained, if one is
abbrev image_asked : Option Request → Bor (List ℕ) → Bor (List ℕ)
image_asked (Some (Explain image)) other = image
image_asked request other = other

-- what was found to be asked for is what was asked for
pub explained_below : (request : Option Request) (found asked : Bor (List ℕ)) (sigs : List Entry) (held : List ℕ → Option (List ℕ)) (before after : Option (List ℕ)) (told : Result ℕ Failure) → request ≡ Some (Explain found) → request ≡ Some (Explain asked)
    → IfOk told (Explained sigs (held found.now) before after) → IfOk told (λ status. status < 2 → Explained sigs (held asked.now) before after status)
explained_below request found asked sigs held before after (Ok status) is was so =
    λ below. subst (λ (image : Bor (List ℕ)). Explained sigs (held image.now) before after status) (ap (λ (it : Option Request). image_asked it asked) (sym is ∙ was)) so
explained_below request found asked sigs held before after (Err why) is was so = so
