-- What was handed out and waits to be taken.
use Rattle.std.proofs.Common.{◌≡◌, ◌≢◌, ℕ, zero, suc, ◌+◌, ◌<◌, List, [], ◌∷◌, ◌++◌, length, set, refl, sym, ap, subst, ◌∙◌, inl, inr, arith, append_assoc, Option, Some, None}
use Rattle.std.specs.Prelude.{Result, Ok, Err, OnOk, IfErr, is_some, slice_get, true, false}
use Rattle.std.specs.Global.{Vec}
use Rattle.std.proofs.lemmas.Bool.{cases_eq}
use Rattle.std.proofs.lemmas.List.{append-nil}
use Rattle.journal.specs.Blocks.{all_of}
use Rattle.journal.specs.Entry.{Entry}
use Rattle.journal.specs.Logs.{Log}
use Rattle.cluster_stamps.specs.declared.view.Told.{Told}
use Rattle.world.specs.Represents.{log_at}
use Rattle.audit_faults.specs.declared.fault.AuditFault.{AuditFault}
use Rattle.audit_replay.specs.declared.kept.Recent.{Recent}
use Rattle.audit_follower.specs.Stops.{IsStop}
use Rattle.audit_follower.specs.Waiting.{Taken, AreTakenAlike, IsNext, taken_at, waiting_at}
use Rattle.audit_cluster.specs.declared.watch.Left.{Left}
use Rattle.audit_cluster.specs.Following.{IsHandedAmiss, IsNotNext, IsTakenMore, Watches, answers_kept, append_at, waiting_with, with_left, with_more}
use Rattle.cluster_stamps.specs.Rule.{hand_out_of}
use Rattle.cluster_stamps.specs.declared.view.View.{View}
use Rattle.cluster_vnode.specs.Calls.{IsHandedOut}
use Rattle.audit_cluster.proofs.Taken.{watches_followed, watches_more}

-- ---- more of one vnode

here_more : (w : List (List Entry)) (i : ℕ) (more : List Entry) → waiting_at (append_at w i more) i ≡ waiting_at w i ++ more
here_more [] zero more = refl
here_more [] (suc i) more = here_more [] i more
here_more (q ∷ qs) zero more = refl
here_more (q ∷ qs) (suc i) more = here_more qs i more

others_more : (w : List (List Entry)) (i j : ℕ) (more : List Entry) → j ≢ i → waiting_at (append_at w i more) j ≡ waiting_at w j
others_more [] zero zero more apart = absurd (apart refl)
others_more [] zero (suc j) more apart = refl
others_more [] (suc i) zero more apart = refl
others_more [] (suc i) (suc j) more apart = others_more [] i j more (λ is. apart (ap suc is))
others_more (q ∷ qs) zero zero more apart = absurd (apart refl)
others_more (q ∷ qs) zero (suc j) more apart = refl
others_more (q ∷ qs) (suc i) zero more apart = refl
others_more (q ∷ qs) (suc i) (suc j) more apart = others_more qs i j more (λ is. apart (ap suc is))

length_more : (w : List (List Entry)) (i : ℕ) (more : List Entry) → i < length w → length (append_at w i more) ≡ length w
length_more [] i more inside = absurd (omega (arith, inside))
length_more (q ∷ qs) zero more inside = refl
length_more (q ∷ qs) (suc i) more inside = ap suc (length_more qs i more (omega (arith, inside)))

none_more : (w : List (List Entry)) (i : ℕ) → i < length w → append_at w i [] ≡ w
none_more [] i inside = absurd (omega (arith, inside))
none_more (q ∷ qs) zero inside = ap (λ (x : List Entry). x ∷ qs) (append-nil q)
none_more (q ∷ qs) (suc i) inside = ap (λ (xs : List (List Entry)). q ∷ xs) (none_more qs i (omega (arith, inside)))

set_more : (w : List (List Entry)) (i : ℕ) (block rest : List Entry) → i < length w → append_at (set w i (waiting_at w i ++ block)) i rest ≡ append_at w i (block ++ rest)
set_more [] i block rest inside = absurd (omega (arith, inside))
set_more (q ∷ qs) zero block rest inside = ap (λ (x : List Entry). x ∷ qs) (append_assoc q block rest)
set_more (q ∷ qs) (suc i) block rest inside = ap (λ (xs : List (List Entry)). q ∷ xs) (set_more qs i block rest (omega (arith, inside)))

-- one block of those that wait was taken
pub block_taken : (first old new : Taken) (i : ℕ) (all rest : List Entry) (block : List Entry) → i < length old.waiting → with_more old i all ≡ first → all ≡ block ++ rest
    → new ≡ (record old { waiting = set old.waiting i (waiting_at old.waiting i ++ block) }) → with_more new i rest ≡ first
block_taken first old new i all rest block inside so_far is taken =
    ap (λ (t : Taken). with_more t i rest) taken ∙ ap (λ (w : List (List Entry)). let t : Taken = record old { waiting = w } in t) (set_more old.waiting i block rest inside) ∙ ap (λ (es : List Entry). with_more old i es) (sym is) ∙ so_far

-- none is left
pub all_taken_of : (first new : Taken) (i : ℕ) (rest : List Entry) → i < length new.waiting → rest ≡ [] → with_more new i rest ≡ first → new ≡ first
all_taken_of first new i rest inside none same =
    sym (ap (λ (es : List Entry). with_more new i es) none ∙ ap (λ (w : List (List Entry)). let t : Taken = record new { waiting = w } in t) (none_more new.waiting i inside)) ∙ same

-- what was handed out and is left is taken more
pub more_left : (taken : Taken) (i first : ℕ) (more : List Entry) → i < length taken.followed → i < length taken.waiting → first ≡ taken_at taken i → IsTakenMore taken (with_more taken i more) i first more
more_left taken i first more inside waits place = record {
  inside = (inside, waits);
  place = place;
  followed = refl;
  size = length_more taken.waiting i more waits;
  here = here_more taken.waiting i more;
  others = λ other apart. others_more taken.waiting i other more apart;
}

-- ---- following leaves what is left

left_alike : (old : List Log) (waited : List (List Entry)) (new : List Log) (waiting : List (List Entry)) (left : Option Left) → AreTakenAlike old waited new waiting → AreTakenAlike old (waiting_with waited left) new (waiting_with waiting left)
left_alike old waited new waiting None alike = alike
left_alike old waited new waiting (Some left) alike = record { size = alike.size; vnodes = alike.vnodes; entries = entries }
  where
    more : List Entry
    more = all_of left.blocks.items

    entries : (i : ℕ) → (log_at new i).entries ++ waiting_at (append_at waiting left.index more) i ≡ (log_at old i).entries ++ waiting_at (append_at waited left.index more) i
    entries i = elim (cases_eq i left.index) [
      | inl same ↦ subst (λ (j : ℕ). (log_at new j).entries ++ waiting_at (append_at waiting left.index more) j ≡ (log_at old j).entries ++ waiting_at (append_at waited left.index more) j) (sym same)
          (ap (λ (es : List Entry). (log_at new left.index).entries ++ es) (here_more waiting left.index more) ∙ sym (append_assoc (log_at new left.index).entries (waiting_at waiting left.index) more)
          ∙ ap (λ (es : List Entry). es ++ more) (alike.entries left.index)
          ∙ append_assoc (log_at old left.index).entries (waiting_at waited left.index) more ∙ ap (λ (es : List Entry). (log_at old left.index).entries ++ es) (sym (here_more waited left.index more)))
      | inr other ↦ ap (λ (es : List Entry). (log_at new i).entries ++ es) (others_more waiting left.index i more other) ∙ alike.entries i ∙ ap (λ (es : List Entry). (log_at old i).entries ++ es) (sym (others_more waited left.index i more other))
    ]

first_still : (xs ys : List Entry) (e : Entry) → slice_get xs 0 ≡ Some e → slice_get (xs ++ ys) 0 ≡ Some e
first_still [] ys e is = absurd (let none : None ≡ Some e = is in cc)
first_still (x ∷ xs) ys e is = is

next_still : (waiting : List (List Entry)) (left : Option Left) (i : ℕ) (e : Entry) → IsNext waiting i e → IsNext (waiting_with waiting left) i e
next_still waiting None i e next = next
next_still waiting (Some left) i e next = elim (cases_eq i left.index) [
  | inl same ↦ subst (λ (j : ℕ). IsNext (append_at waiting left.index more) j e) (sym same)
      (subst (λ (es : List Entry). slice_get es 0 ≡ Some e) (sym (here_more waiting left.index more)) (first_still (waiting_at waiting left.index) more e (subst (λ (j : ℕ). IsNext waiting j e) same next)))
  | inr other ↦ subst (λ (es : List Entry). slice_get es 0 ≡ Some e) (sym (others_more waiting left.index i more other)) next
]
  where
    more : List Entry
    more = all_of left.blocks.items

left_stop : (fronts : List ℕ) (followed : List Log) (waited : List (List Entry)) (below : ℕ) (recent : Recent) (fault : AuditFault) (left : Option Left) → IsStop fronts followed waited below recent fault → IsStop fronts followed (waiting_with waited left) below recent fault
left_stop fronts followed waited below recent fault left stop = record {
  logs = stop.logs;
  waiting = waiting_with stop.waiting left;
  alike = left_alike followed waited stop.logs stop.waiting left stop.alike;
  run = stop.run;
  index = stop.index;
  entry = stop.entry;
  inside = stop.inside;
  next = next_still stop.waiting left stop.index stop.entry stop.next;
  bound = stop.bound;
  told = stop.told;
}

on_ok_to : {T E : Type 0} (r : Result T E) (P Q : Type 0) → (P → Q) → OnOk r P → OnOk r Q
on_ok_to (Ok x) P Q f h = f h
on_ok_to (Err e) P Q f h = tt

if_err_to : {T E : Type 0} (r : Result T E) (P Q : E → Type 0) → ((e : E) → P e → Q e) → IfErr r P → IfErr r Q
if_err_to (Ok x) P Q f h = tt
if_err_to (Err e) P Q f h = f e h

-- so it was followed, with what is left
pub left_followed : (first n : ℕ) (told : List Told) (old new : Taken) (left : Option Left) (below : ℕ) (r : Result (Unit {0}) AuditFault) → Watches first n told (with_left old left) → old.recent ≡ answers_kept → OnOk r (AreTakenAlike old.followed old.waiting new.followed new.waiting) → OnOk r (new.fault ≡ None)
    → IfErr r (λ fault. new.fault ≡ Some fault) → (old.fault ≡ None → IfErr r (λ fault. IsStop old.fronts old.followed old.waiting below old.recent fault)) → ((fault : AuditFault) → old.fault ≡ Some fault → (r ≡ Err fault) × (new ≡ old)) → new.fronts ≡ old.fronts
    → Watches first n told (with_left new left)
left_followed first n told old new left below r was recent alike none found stop again fronts =
    watches_followed first n told (with_left old left) (with_left new left) below r was recent
    (on_ok_to r (AreTakenAlike old.followed old.waiting new.followed new.waiting) (AreTakenAlike old.followed (waiting_with old.waiting left) new.followed (waiting_with new.waiting left)) (left_alike old.followed old.waiting new.followed new.waiting left) alike) none found
    (λ is. if_err_to r (λ fault. IsStop old.fronts old.followed old.waiting below old.recent fault) (λ fault. IsStop old.fronts old.followed (waiting_with old.waiting left) below old.recent fault)
    (λ fault h. left_stop old.fronts old.followed old.waiting below old.recent fault left h) (stop is))
    (λ fault is. ((again fault is).0, ap (λ (t : Taken). with_left t left) (again fault is).1)) fronts

-- after a fault it is let go
pub let_go : (first n : ℕ) (told : List Told) (taken : Taken) (left : Option Left) → (taken.fault ≡ None → ⊥) → Watches first n told (with_left taken left) → Watches first n told taken
let_go first n told taken left found was = record {
  size = λ none. absurd (found none);
  has = λ none. absurd (found none);
  stopped = λ fault is. was.stopped fault is;
}

-- what a vnode handed out is what is left, where nothing was
pub heard_left : (first n : ℕ) (old_pass new_pass : View) (taken : Taken) (before : Option Left) (left : Left) (index id place : ℕ) (blocks : List (Vec Entry)) → Watches first n old_pass.told (with_left taken before) → before ≡ None → index < length taken.followed
    → index < length taken.waiting → place ≡ taken_at taken index → left.index ≡ index → left.blocks.items ≡ blocks → id ≡ first + index → IsHandedOut old_pass new_pass id place blocks → Watches first n new_pass.told (with_left taken (Some left))
heard_left first n old_pass new_pass taken before left index id place blocks was none inside waits at is_index is_blocks is out =
    let now : Watches first n old_pass.told taken = subst (λ (l : Option Left). Watches first n old_pass.told (with_left taken l)) none was in
    let same : with_left taken (Some left) ≡ with_more taken index (all_of blocks) = ap (λ (i : ℕ). with_more taken i (all_of left.blocks.items)) is_index ∙ ap (λ (bs : List (Vec Entry)). with_more taken index (all_of bs)) is_blocks in
    let more : IsTakenMore taken (with_left taken (Some left)) index place (all_of blocks) = subst (λ (t : Taken). IsTakenMore taken t index place (all_of blocks)) (sym same) (more_left taken index place (all_of blocks) inside waits at) in
    watches_more first n old_pass new_pass taken (with_left taken (Some left)) index id place blocks now refl refl more is out

-- a hand-out that isn't what is next was told
pub amiss : (vnode index place : ℕ) (taken : Taken) (blocks : List (Vec Entry)) (old_pass new_pass : View) (old : List Told) → IsHandedOut old_pass new_pass vnode place blocks → old_pass.told ≡ old → IsNotNext taken index place → IsHandedAmiss vnode index taken old new_pass.told
amiss vnode index place taken blocks old_pass new_pass old (at, stamp, news, full, few) was next = (at, stamp, place, all_of blocks, news.0 ∙ ap (λ (ts : List Told). ts ++ hand_out_of vnode at stamp place (all_of blocks) ∷ []) was, next)

-- all that was left was taken
pub left_taken : (first n : ℕ) (told : List Told) (old new : Taken) (before after : Option Left) (left : Left) (rest : List Entry) → Watches first n told (with_left old before) → before ≡ Some left → after ≡ None → left.index < length new.waiting → rest ≡ []
    → with_more new left.index rest ≡ with_more old left.index (all_of left.blocks.items) → Watches first n told (with_left new after)
left_taken first n told old new before after left rest was is none inside empty same =
    let now : Watches first n told (with_left old (Some left)) = subst (λ (l : Option Left). Watches first n told (with_left old l)) is was in
    let all : new ≡ with_left old (Some left) = all_taken_of (with_left old (Some left)) new left.index rest inside empty same in
    subst (λ (l : Option Left). Watches first n told (with_left new l)) (sym none) (subst (λ (t : Taken). Watches first n told t) (sym all) now)

-- what isn't some is none
pub not_some : {T : Type 0} (o : Option T) → is_some o ≡ false → o ≡ None
not_some None e = refl
not_some (Some x) e = absurd (let clash : true ≡ false = e in cc)

-- where nothing is left, all that was handed out was taken
pub none_left : (first n : ℕ) (told : List Told) (taken : Taken) (left : Option Left) → Watches first n told (with_left taken left) → left ≡ None → Watches first n told taken
none_left first n told taken left was none = subst (λ (l : Option Left). Watches first n told (with_left taken l)) none was
