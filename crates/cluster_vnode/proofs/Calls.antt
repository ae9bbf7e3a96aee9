-- One call more.
use Rattle.std.proofs.Common.{◌≡◌, ℕ, ◌+◌, List, [], ◌∷◌, ◌++◌, length, Bool, true, false, if◌then◌else◌, Result, Ok, Err, refl, sym, ap, ◌∙◌, subst, arith, append_assoc, length-append, zero-add}
use Rattle.std.proofs.lemmas.List.{append-nil}
use Rattle.journal.specs.Entry.{Entry}
use Rattle.journal.specs.Logs.{Log}
use Rattle.journal.specs.Journals.{IsJournal}
use Rattle.std.specs.Prelude.{IfOk}
use Rattle.vnode.specs.Keys.{AreUnsorted}
use Rattle.vnode.specs.Names.{Listed}
use Rattle.vnode.specs.declared.fault.PartFault.{PartFault}
use Rattle.cluster_stamps.specs.declared.request.Reply.{Reply}
use Rattle.cluster_stamps.specs.declared.request.Request.{Request}
use Rattle.cluster_stamps.specs.Answered.{made, with_made}
use Rattle.cluster_stamps.specs.declared.view.News.{News}
use Rattle.cluster_stamps.specs.declared.view.News.TheVariants as news
use Rattle.cluster_stamps.specs.declared.view.Told.{Told}
use Rattle.cluster_stamps.specs.declared.view.History.{History}
use Rattle.cluster_stamps.specs.declared.view.View.{View}
use Rattle.cluster_stamps.specs.Rule.{together, drew, dropped, learned, without_pass, entries, entry_count, outcome_count, IsAboveAll, IsWithin, TellsOf}
use Rattle.cluster_vnode.specs.Answers.{IsAnswered, entry_of_call, entries_made, entries_of, AreAnswered, IsVnodes, log_of, lacks, lacks_memory}
use Rattle.cluster_vnode.specs.Calls.{pass_view, told_then}

pub entries_of-push : (ts : List Told) (t : Told) → entries_of (ts ++ t ∷ []) ≡ entries_of ts ++ entry_of_call t
entries_of-push [] t = append-nil _
entries_of-push (u ∷ us) t = ap (λ es. entry_of_call u ++ es) (entries_of-push us t) ∙ sym (append_assoc _ (entries_of us) _)

pub length_made : (s : ℕ) (n : News) → length (entries_made s n) ≡ entry_count n
length_made s (news.Call q o) = by o
  where
    by : (o : Result Reply PartFault) → length (made s q o) ≡ outcome_count o
    by (Ok a) = refl
    by (Err f) = refl
length_made s (news.HandOut first entries) = refl

pub length_entries : (ts : List Told) → length (entries_of ts) ≡ entries ts
length_entries [] = refl
length_entries (t ∷ ts) = omega (arith, length-append (entry_of_call t) (entries_of ts), length_made t.stamp t.news, length_entries ts)

pub answered-push : (front : List Entry) (ts : List Told) (t : Told) → AreAnswered front ts → IsAnswered (front ++ entries_of ts) t → AreAnswered front (ts ++ t ∷ [])
answered-push front [] t a b = (subst (λ es. IsAnswered es t) (append-nil front) b, tt)
answered-push front (u ∷ us) t a b = (a.0, answered-push _ us t a.1 (subst (λ es. IsAnswered es t) (sym (append_assoc front _ (entries_of us))) b))

abbrev pub lent : ℕ → List Told → History → ℕ → View
lent drawn ts h stamp = record { parts = 1; drawn = drawn + 1; pending = stamp ∷ []; told = ts; owed = []; histories = h ∷ [] }

abbrev pub back : ℕ → List Told → History → Told → View
back drawn ts h t = record { parts = 1; drawn = drawn + 1; pending = []; told = ts ++ t ∷ []; owed = []; histories = record { vnode = h.vnode; told = h.told ++ t ∷ [] } ∷ [] }

-- the vnode's seat with the pass and a stamp
pub lent_is : (v p w : View) (h : History) (drawn : ℕ) (ts : List Told) (stamp : ℕ) → v ≡ record { parts = 0; drawn = 0; pending = []; told = []; owed = []; histories = h ∷ [] } → p ≡ pass_view drawn ts → w ≡ drew (together v p) stamp → w ≡ lent drawn ts h stamp
lent_is v p w h drawn ts stamp ev ep ew =
    ew ∙ ap (λ (x : View). drew (together x p) stamp) ev ∙ ap (λ (x : View). drew (together record { parts = 0; drawn = 0; pending = []; told = []; owed = []; histories = h ∷ [] } x) stamp) ep ∙ ap (λ (d : ℕ). record { parts = 1; drawn = d + 1; pending = stamp ∷ []; told = ts; owed = []; histories = h ∷ [] }) (zero-add drawn)

-- the same after the call
pub back_is : (w x : View) (h : History) (drawn : ℕ) (ts : List Told) (stamp : ℕ) (t : Told) → w ≡ lent drawn ts h stamp → TellsOf t w x → x ≡ back drawn ts h t
back_is w x h drawn ts stamp t ew told = (told h (ap (λ (y : View). y.histories) ew)).0 ∙ ap (λ (y : View). learned y h t) ew

pub within_is : (w x : View) (h : History) (drawn : ℕ) (ts : List Told) (stamp : ℕ) (t : Told) → w ≡ lent drawn ts h stamp → TellsOf t w x → IsWithin h.vnode (entries h.told) ts
within_is w x h drawn ts stamp t ew told = subst (λ (y : View). IsWithin h.vnode (entries h.told) y.told) ew (told h (ap (λ (y : View). y.histories) ew)).1

-- a stamp that the seat with the pass draws is above all that the pass was told
pub above_is : (v p w : View) (h : History) (drawn : ℕ) (ts : List Told) (stamp : ℕ) → v ≡ record { parts = 0; drawn = 0; pending = []; told = []; owed = []; histories = h ∷ [] } → p ≡ pass_view drawn ts → w ≡ together v p → IsAboveAll stamp w.told → IsAboveAll stamp ts
above_is v p w h drawn ts stamp ev ep ew above =
    subst (λ (y : View). IsAboveAll stamp y.told) (ew ∙ ap (λ (x : View). together x p) ev ∙ ap (λ (x : View). together record { parts = 0; drawn = 0; pending = []; told = []; owed = []; histories = h ∷ [] } x) ep) above

-- the vnode's seat is that of the vnode after one call more
pub vnodes_more : (old new : Log) (x : View) (h : History) (drawn : ℕ) (ts : List Told) (t : Told) → h.vnode ≡ old.vnode → t.vnode ≡ old.vnode → entries_of h.told ≡ old.entries → AreAnswered [] h.told → x ≡ back drawn ts h t
    → IsAnswered old.entries t → new ≡ record { vnode = old.vnode; entries = old.entries ++ entry_of_call t } → IsVnodes new (without_pass x)
vnodes_more old new x h drawn ts t n tn j a ex answer more = record {
  history = record { vnode = h.vnode; told = h.told ++ t ∷ [] };
  view = ap without_pass ex;
  number_is = n ∙ ap (λ (l : Log). l.vnode) (sym more);
  journal_is = entries_of-push h.told t ∙ ap (λ es. es ++ entry_of_call t) j ∙ ap (λ (l : Log). l.entries) (sym more);
  answered = answered-push [] h.told t a (subst (λ es. IsAnswered es t) (sym j) answer);
}

-- and after one that was refused for memory
pub vnodes_same : (old new : Log) (w x : View) (h : History) (drawn : ℕ) (ts : List Told) (stamp s : ℕ) (q : Request) (out : Result Reply PartFault) → h.vnode ≡ old.vnode → entries_of h.told ≡ old.entries → AreAnswered [] h.told → w ≡ lent drawn ts h stamp
    → x ≡ dropped w → lacks_memory out ≡ true → new ≡ with_made old s q out → IsVnodes new (without_pass x)
vnodes_same old new w x h drawn ts stamp s q out n j a ew ex lacks more = record {
  history = h;
  view = ap without_pass (ex ∙ ap dropped ew);
  number_is = n ∙ ap (λ (l : Log). l.vnode) (sym more);
  journal_is = j ∙ sym (append-nil old.entries) ∙ ap (λ es. old.entries ++ es) (sym (none out lacks)) ∙ ap (λ (l : Log). l.entries) (sym more);
  answered = a;
}
  where
    none : (o : Result Reply PartFault) → lacks_memory o ≡ true → made s q o ≡ []
    none (Ok r) e = absurd (cc)
    none (Err f) e = refl

pub told_more : (ts : List Told) (t : Told) → lacks t.news ≡ false → ts ++ t ∷ [] ≡ told_then ts t
told_more ts t e = ap (λ (b : Bool). if b then ts else (ts ++ t ∷ [])) (sym e)

pub told_same : (ts : List Told) (t : Told) → lacks t.news ≡ true → ts ≡ told_then ts t
told_same ts t e = ap (λ (b : Bool). if b then ts else (ts ++ t ∷ [])) (sym e)

-- what was told of the vnode lies within its journal
pub look_within : (v p w : View) (h : History) (drawn : ℕ) (ts : List Told) (log : Log) → v ≡ record { parts = 0; drawn = 0; pending = []; told = []; owed = []; histories = h ∷ [] } → p ≡ pass_view drawn ts → w ≡ together v p
    → ((g : History) → w.histories ≡ g ∷ [] → IsWithin g.vnode (entries g.told) w.told) → h.vnode ≡ log.vnode → entries_of h.told ≡ log.entries → IsWithin log.vnode (length log.entries) ts
look_within v p w h drawn ts log ev ep ew within n j =
    let seat : View = record { parts = 0; drawn = 0; pending = []; told = []; owed = []; histories = h ∷ [] } in
    let e : w ≡ together seat (pass_view drawn ts) = ew ∙ ap (λ (x : View). together x p) ev ∙ ap (λ (x : View). together seat x) ep in
    let i : IsWithin h.vnode (entries h.told) ts = subst (λ (y : View). IsWithin h.vnode (entries h.told) y.told) e (within h (ap (λ (y : View). y.histories) e)) in
    let long : entries h.told ≡ length log.entries = sym (length_entries h.told) ∙ ap length j in
    subst (λ k. IsWithin log.vnode k ts) long (subst (λ m. IsWithin m (entries h.told) ts) n i)

pub keys_ok : {E : Type 0} (r : Result Listed E) (log : Log) (id : ℕ) (ts : List Told) → IfOk r (λ names. AreUnsorted log names.keys) → IsJournal log.vnode log.entries → log.vnode ≡ id → IsWithin log.vnode (length log.entries) ts
    → IfOk r (λ names. (front : List Entry) × IsJournal id front × AreUnsorted (log_of id front) names.keys × IsWithin id (length front) ts)
keys_ok (Ok names) log id ts are legal is within = (log.entries, subst (λ i. IsJournal i log.entries) is legal, subst (λ i. AreUnsorted (log_of i log.entries) names.keys) is are, subst (λ i. IsWithin i (length log.entries) ts) is within)
keys_ok (Err e) log id ts are legal is within = tt
