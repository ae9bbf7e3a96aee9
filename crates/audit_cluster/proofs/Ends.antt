-- All that was taken, and then what was left of the journals.
use Rattle.std.proofs.Common.{◌≡◌, ℕ, zero, suc, ◌+◌, ◌<◌, ◌==◌, ◌&&◌, Bool, true, false, cond, List, [], ◌∷◌, ◌++◌, length, get_or, drop, refl, sym, ap, subst, ◌∙◌, inl, inr, arith, length-append, append_assoc}
use Rattle.std.proofs.lemmas.List.{append-nil}
use Rattle.std.proofs.Math.Seq.{drop-append_seam}
use Rattle.std.proofs.lemmas.Option.{same_Some}
use Rattle.std.specs.Prelude.{slice_get, None, Some, Contains, Result, Ok, Err, IfOk, is_ok, is_err}
use Rattle.std.proofs.lemmas.List.Elements.{Contains-append_left, Contains-append_right}
use Rattle.journal.specs.Entry.{Entry}
use Rattle.journal.specs.Logs.{Log}
use Rattle.cluster_stamps.specs.declared.view.Told.{Told}
use Rattle.cluster_stamps.specs.declared.view.View.{View}
use Rattle.std.specs.List.{flat_map}
use Rattle.std.proofs.lemmas.Grind.{flat_map-append}
use Rattle.cluster_vnode.specs.Gathers.{IsGathered, Stands, Differ, AreInTurn, all_handed}
use Rattle.world.specs.Represents.{log_at}
use Rattle.world.proofs.Lists.{Contains-nil, Contains-cases, Contains-first, Contains-later}
use Rattle.audit_replay.specs.Runs.{IsRunFrom}
use Rattle.audit_replay.specs.Wrong.{IsToldOf}
use Rattle.audit_replay.specs.declared.kept.Recent.{Recent}
use Rattle.audit_replay.proofs.Faultless.{faultless}
use Rattle.audit_faults.specs.declared.fault.AuditFault.{AuditFault}
use Rattle.audit_faults.specs.declared.fault.WatchFault.{WatchFault}
use Rattle.audit_faults.specs.declared.fault.WatchFault.TheVariants.{Found, Lost, NoMemory}
use Rattle.audit_follower.specs.Stops.{IsStop}
use Rattle.audit_follower.specs.Waiting.{Taken, AreTakenAlike, IsNext, taken_at, waiting_at}
use Rattle.audit_cluster.specs.Following.{told_of, is_hand_out, all_taken, answers_kept, AreFronts, HasStopped, HasTaken, IsFollowedTo, IsSaidOf, IsTakenTo, StopsIn}

-- what holds anyhow holds of a yes
pub if_any : {T E : Type 0} (r : Result T E) (P : Type 0) → P → IfOk r (λ v. P)
if_any (Ok v) P p = p
if_any (Err e) P p = tt

-- ---- what was taken are fronts

-- what was told of one vnode was told
told_also : (vnode : ℕ) (ts : List Told) (t : Told) → Contains (told_of vnode ts) t → Contains ts t
told_also vnode [] t c = absurd (Contains-nil t c)
told_also vnode (u ∷ us) t c = go (λ h. told_also vnode us t h) ((u.vnode == vnode) && is_hand_out u.news) c
  where
    go : (Contains (told_of vnode us) t → Contains us t) → (b : Bool) → Contains (cond b (u ∷ told_of vnode us) (told_of vnode us)) t → Contains (u ∷ us) t
    go later true h = elim (Contains-cases u (told_of vnode us) t h) [
      | inl is ↦ subst (λ (x : Told). Contains (u ∷ us) x) is (Contains-first u us)
      | inr rest ↦ Contains-later u us t (later rest)
    ]
    go later false h = Contains-later u us t (later h)

-- one of the journals
stands_at : (logs : List Log) (index : ℕ) → index < length logs → Contains logs (log_at logs index)
stands_at [] index inside = absurd (omega (arith, inside))
stands_at (log ∷ logs) zero inside = Contains-first log logs
stands_at (log ∷ logs) (suc index) inside = Contains-later log logs (log_at logs index) (stands_at logs index (omega (arith, inside)))

-- parts of a journal that were handed out in turn are a front of it
abbrev Law : Type 0
Law = (vs : List Log) (v : Log) (ts : List Told) → Differ vs → Contains vs v → ((t : Told) → Contains ts t → Stands vs t) → AreInTurn v.vnode 0 ts → (rest : List Entry) × (v.entries ≡ all_handed ts ++ rest)

fronts_of : (first : ℕ) (told : List Told) (taken : Taken) (logs : List Log) → HasTaken first told taken → Differ logs → ((t : Told) → Contains told t → Stands logs t) → Law → AreFronts taken logs
fronts_of first told taken logs has differ stand law index inside within same =
    let h = has index inside in
    let id : (log_at logs index).vnode ≡ first + index = sym same ∙ h.0 in
    let v = log_at logs index in
    let ts = told_of (first + index) told in
    let front = law logs v ts differ (stands_at logs index within) (λ t c. stand t (told_also (first + index) told t c)) (subst (λ (n : ℕ). AreInTurn n 0 ts) (sym id) h.1.0) in
    (front.0, front.1 ∙ ap (λ (es : List Entry). es ++ front.0) h.1.1)

-- what is told last stands there, as all does
stands_last : (before told all : List Told) (logs : List Log) → all ≡ before ++ told → ((t : Told) → Contains all t → Stands logs t) → (t : Told) → Contains told t → Stands logs t
stands_last before told all logs is stand t c = stand t (subst (λ (xs : List Told). Contains xs t) (sym is) (Contains-append_right before told t c))

pub are_fronts : (first : ℕ) (told before all : List Told) (taken : Taken) (logs : List Log) → HasTaken first told taken → all ≡ before ++ told → Differ logs → ((t : Told) → Contains all t → Stands logs t) → Law → AreFronts taken logs
are_fronts first told before all taken logs has is differ stand law = fronts_of first told taken logs has differ (stands_last before told all logs is stand) law

-- ---- where it stopped

-- a list is its first one and the others
split_first : (queue : List Entry) (e : Entry) → slice_get queue 0 ≡ Some e → queue ≡ e ∷ drop 1 queue
split_first [] e is = absurd (let none : None ≡ Some e = is in cc)
split_first (x ∷ queue) e is = ap (λ (y : Entry). y ∷ queue) (same_Some x e is)

-- so much was followed, and what waits stands behind it
stop_in : (fronts : List ℕ) (followed logs : List Log) (waiting : List (List Entry)) (index : ℕ) (entry : Entry) (fault : AuditFault) → length followed ≡ length logs → ((i : ℕ) → i < length logs → (log_at followed i).vnode ≡ (log_at logs i).vnode)
    → ((i : ℕ) → i < length logs → (rest : List Entry) × ((log_at logs i).entries ≡ ((log_at followed i).entries ++ waiting_at waiting i) ++ rest)) → IsRunFrom fronts followed → index < length logs → IsNext waiting index entry → IsToldOf fronts followed answers_kept index entry fault
    → StopsIn fronts logs fault
stop_in fronts followed logs waiting index entry fault size ids goes run inside next told =
    let here = goes index inside in
    let queue = waiting_at waiting index in
    record {
      followed = followed;
      size = size;
      each = λ i within. record { vnode = ids i within; rest = waiting_at waiting i ++ (goes i within).0; goes_on = (goes i within).1 ∙ append_assoc (log_at followed i).entries (waiting_at waiting i) (goes i within).0 };
      run = run;
      index = index;
      inside = inside;
      entry = entry;
      behind = drop 1 queue ++ here.0;
      next = here.1 ∙ append_assoc (log_at followed index).entries queue here.0 ∙ ap (λ (es : List Entry). (log_at followed index).entries ++ (es ++ here.0)) (split_first queue entry next);
      told = told;
    }

-- the watch noticed it while the cluster served
pub stopped_in : (first n : ℕ) (told before all : List Told) (fronts : List ℕ) (logs : List Log) (fault : AuditFault) → HasStopped first n told fronts fault → all ≡ before ++ told → Differ logs → ((t : Told) → Contains all t → Stands logs t) → Law → length logs ≡ n
    → ((i : ℕ) → i < length logs → (log_at logs i).vnode ≡ first + i) → StopsIn fronts logs fault
stopped_in first n told before all fronts logs fault was is differ stand law long numbers =
    stop_in fronts taken.followed logs taken.waiting was.index was.entry fault size ids goes was.run (let i = was.inside in omega (arith, i, long)) was.next was.is_wrong
  where
    taken : Taken
    taken = was.taken

    size : length taken.followed ≡ length logs
    size = was.size ∙ sym long

    within : (i : ℕ) → i < length logs → i < length taken.followed
    within i inside = omega (arith, inside, size)

    ids : (i : ℕ) → i < length logs → (log_at taken.followed i).vnode ≡ (log_at logs i).vnode
    ids i inside = (was.has i (within i inside)).0 ∙ sym (numbers i inside)

    heard_stand : (t : Told) → Contains was.heard t → Stands logs t
    heard_stand t c = stands_last before told all logs is stand t (subst (λ (xs : List Told). Contains xs t) (sym was.all) (Contains-append_left was.heard was.unheard t c))

    goes : (i : ℕ) → i < length logs → (rest : List Entry) × ((log_at logs i).entries ≡ ((log_at taken.followed i).entries ++ waiting_at taken.waiting i) ++ rest)
    goes i inside = fronts_of first was.heard taken logs was.has differ heard_stand law i (within i inside) inside (ids i inside)

-- ---- what was followed are the journals

-- where the rest is nothing
no_rest : (xs ys zs : List Entry) → xs ++ ys ≡ zs → length xs ≡ length zs → xs ≡ zs
no_rest xs [] zs is long = sym (append-nil xs) ∙ is
no_rest xs (y ∷ ys) zs is long = let all = length-append xs (y ∷ ys) in let same = ap length is in absurd (omega (arith, all, same, long))

-- lists with the same elements
same_lists : {A : Type 0} (xs ys : List A) (d : A) → length xs ≡ length ys → ((i : ℕ) → i < length ys → get_or xs i d ≡ get_or ys i d) → xs ≡ ys
same_lists [] [] d size each = refl
same_lists [] (y ∷ ys) d size each = absurd (omega arith)
same_lists (x ∷ xs) [] d size each = absurd (omega arith)
same_lists (x ∷ xs) (y ∷ ys) d size each = ap (λ z. z ∷ xs) (each 0 (omega arith)) ∙ ap (λ zs. y ∷ zs) (same_lists xs ys d (omega arith) (λ i lt. each (suc i) (omega arith)))

-- what was taken, and then the rest, is the journal
whole_taken : (old new : Taken) (logs followed : List Log) (waiting : List (List Entry)) → AreFronts old logs → IsTakenTo old new logs (length logs) → AreTakenAlike new.followed new.waiting followed waiting → (i : ℕ) → i < length logs
    → ((log_at followed i).vnode ≡ (log_at logs i).vnode) × ((log_at followed i).entries ++ waiting_at waiting i ≡ (log_at logs i).entries)
whole_taken old new logs followed waiting fronts taken alike i inside =
    let within : i < length old.followed = (let n = taken.inside in omega (arith, n, inside)) in
    let whole = (log_at logs i).entries in
    let front = fronts i within inside (taken.ids i inside) in
    let seam : drop (taken_at old i) whole ≡ front.0 =
    ap (λ (n : ℕ). drop n whole) (sym (length-append (log_at old.followed i).entries (waiting_at old.waiting i))) ∙ ap (λ (es : List Entry). drop (length (all_taken old i)) es) front.1 ∙ drop-append_seam (all_taken old i) front.0 in (
      alike.vnodes i ∙ ap (λ (ls : List Log). (log_at ls i).vnode) taken.followed ∙ taken.ids i inside,
      alike.entries i ∙ ap (λ (ls : List Log). (log_at ls i).entries ++ waiting_at new.waiting i) taken.followed ∙ ap (λ (es : List Entry). (log_at old.followed i).entries ++ es) (taken.waits i inside)
          ∙ sym (append_assoc (log_at old.followed i).entries (waiting_at old.waiting i) (drop (taken_at old i) whole)) ∙ ap (λ (es : List Entry). all_taken old i ++ es) seam ∙ sym front.1,
    )

-- all that was taken, and then the rest, is what was followed: the journals
all_followed : (old new : Taken) (logs followed : List Log) (waiting : List (List Entry)) → AreFronts old logs → IsTakenTo old new logs (length logs) → AreTakenAlike new.followed new.waiting followed waiting → length followed ≡ length logs
    → ((index : ℕ) → index < length logs → length (log_at followed index).entries ≡ length (log_at logs index).entries) → followed ≡ logs
all_followed old new logs followed waiting fronts taken alike size long =
    same_lists followed logs (record { vnode = 0; entries = [] }) size one
  where
    one : (i : ℕ) → i < length logs → log_at followed i ≡ log_at logs i
    one i inside =
        let whole = whole_taken old new logs followed waiting fronts taken alike i inside in
        ap (λ (v : ℕ). let l : Log = record { vnode = v; entries = (log_at followed i).entries } in l) whole.0
        ∙ ap (λ (es : List Entry). let l : Log = record { vnode = (log_at logs i).vnode; entries = es } in l) (no_rest (log_at followed i).entries (waiting_at waiting i) (log_at logs i).entries whole.1 (long i inside))

-- or it stopped there
pub a_stop : (fronts : List ℕ) (old new : Taken) (logs : List Log) (below : ℕ) (recent : Recent) (fault : AuditFault) → AreFronts old logs → IsTakenTo old new logs (length logs) → length old.followed ≡ length logs → recent ≡ answers_kept
    → IsStop fronts new.followed new.waiting below recent fault → StopsIn fronts logs fault
a_stop fronts old new logs below recent fault are taken size kept stop =
    let whole = whole_taken old new logs stop.logs stop.waiting are taken stop.alike in
    let long : length stop.logs ≡ length logs = stop.alike.size ∙ ap length taken.followed ∙ size in
    stop_in fronts stop.logs logs stop.waiting stop.index stop.entry fault long (λ i inside. (whole i inside).0) (λ i inside. ([], sym (whole i inside).1 ∙ sym (append-nil ((log_at stop.logs i).entries ++ waiting_at stop.waiting i)))) stop.run
    (let i = stop.inside in omega (arith, i, long)) stop.next (subst (λ (r : Recent). IsToldOf fronts stop.logs r stop.index stop.entry fault) kept stop.told)

-- so they are one run
pub a_yes : (fronts : List ℕ) (old new : Taken) (logs followed : List Log) (waiting : List (List Entry)) → AreFronts old logs → IsTakenTo old new logs (length logs) → AreTakenAlike new.followed new.waiting followed waiting → length followed ≡ length logs
    → ((index : ℕ) → index < length logs → length (log_at followed index).entries ≡ length (log_at logs index).entries) → IsRunFrom fronts followed → IsRunFrom fronts logs
a_yes fronts old new logs followed waiting are taken alike size long run = subst (λ (ls : List Log). IsRunFrom fronts ls) (all_followed old new logs followed waiting are taken alike size long) run

-- ---- step by step

-- one entry, and those behind it
drop_one : (n m : ℕ) (es : List Entry) (e : Entry) → m ≡ n + 1 → slice_get es n ≡ Some e → drop n es ≡ e ∷ drop m es
drop_one n m [] e is at = absurd (let none : None ≡ Some e = at in cc)
drop_one zero m (x ∷ es) e is at = ap (λ (y : Entry). y ∷ es) (same_Some x e at) ∙ ap (λ (k : ℕ). e ∷ drop k (x ∷ es)) (sym is)
drop_one (suc n) zero (x ∷ es) e is at = absurd (omega (arith, is))
drop_one (suc n) (suc m) (x ∷ es) e is at = drop_one n m es e (omega (arith, is)) at

-- one copy more
pub copied_more : (rest new : List Entry) (copy : Entry) (first place : ℕ) (entries : List Entry) (e : Entry) → rest ++ drop place entries ≡ drop first entries → slice_get entries place ≡ Some e → copy ≡ e → new ≡ rest ++ copy ∷ []
    → new ++ drop (place + 1) entries ≡ drop first entries
copied_more rest new copy first place entries e all at is pushed =
    ap (λ (es : List Entry). es ++ drop (place + 1) entries) pushed ∙ append_assoc rest (copy ∷ []) (drop (place + 1) entries) ∙ ap (λ (x : Entry). rest ++ (x ∷ drop (place + 1) entries)) is
    ∙ ap (λ (es : List Entry). rest ++ es) (sym (drop_one place (place + 1) entries e refl at)) ∙ all

-- what was pushed, where that was not refused
pub pushed : {E : Type 0} (passes all : List View) (pass : View) (r : Result (Unit {0}) E) (refused : Bool) → refused ≡ is_err r → refused ≡ false → all ≡ cond (is_ok r) (passes ++ pass ∷ []) passes → all ≡ passes ++ pass ∷ []
pushed passes all pass (Ok done) refused told is all_is = all_is
pushed passes all pass (Err e) refused told is all_is = absurd (let clash : false ≡ true = sym is ∙ told in cc)

-- what all passes were told, the watch's last
pub told_last : (passes all : List View) (pass : View) (told : List Told) → all ≡ passes ++ pass ∷ [] → pass.told ≡ told → flat_map (λ (p : View). p.told) all ≡ flat_map (λ (p : View). p.told) passes ++ told
told_last passes all pass told is same =
    ap (λ (ps : List View). flat_map (λ (p : View). p.told) ps) is ∙ flat_map-append (λ (p : View). p.told) passes (pass ∷ []) ∙ ap (λ (ts : List Told). flat_map (λ (p : View). p.told) passes ++ ts) (append-nil pass.told ∙ same)

-- what is said of gathered journals of which nothing was there before
pub said_at_end : (told : List Told) (vnodes : ℕ) (logs : List Log) (r : Result (Unit {0}) WatchFault) → IsGathered told logs → length logs ≡ vnodes → IsSaidOf [] logs r → IsFollowedTo told vnodes r
said_at_end told vnodes logs (Ok done) gathered size said = (logs, gathered, size, said.whole refl, faultless logs said)
said_at_end told vnodes logs (Err (Found fault)) gathered size said = (logs, gathered, size, said)
said_at_end told vnodes logs (Err Lost) gathered size said = tt
said_at_end told vnodes logs (Err NoMemory) gathered size said = tt
