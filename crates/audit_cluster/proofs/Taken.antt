-- What a watch has taken is what its pass was told.
use Rattle.std.proofs.Common.{◌≡◌, ◌≢◌, ℕ, zero, suc, ◌+◌, ◌<◌, ◌==◌, Bool, true, false, ◌&&◌, ◌*◌, ◌≤◌, cond, List, [], ◌∷◌, ◌++◌, length, get_or, replicate, refl, sym, ap, subst, ◌∙◌, inl, inr, arith, append_assoc, length-append, length-set, eq-eqb, Option, Some, None}
use Rattle.std.specs.Prelude.{is_some, All, Contains, MatchBool, Result, Ok, Err, OnOk, IfErr, slice_set}
use Rattle.std.specs.Global.{Vec}
use Rattle.std.proofs.lemmas.Bool.{cases_eq}
use Rattle.std.proofs.lemmas.Bool.Decides.{nat_tests}
use Rattle.std.proofs.lemmas.Option.{same_Some}
use Rattle.std.proofs.lemmas.Grind.{flat_map-append}
use Rattle.std.proofs.lemmas.List.{append-nil, length_push, get_or-set_same, get_or-set_other}
use Rattle.std.proofs.lemmas.List.Elements.{filter-append, All-append, All-cons, All-contains, All-head, All-nil, All-push, All-tail, All-weaker, Contains-append_right}
use Rattle.journal.specs.Blocks.{all_of}
use Rattle.journal.specs.Entry.{Entry}
use Rattle.journal.specs.Logs.{Log}
use Rattle.cluster_stamps.specs.declared.request.Reply.{Reply}
use Rattle.cluster_stamps.specs.declared.request.Request.{Request}
use Rattle.cluster_stamps.specs.declared.request.Request.TheVariants as request
use Rattle.cluster_stamps.specs.Rule.{call_of, hand_out_of}
use Rattle.cluster_stamps.specs.declared.view.News.{News}
use Rattle.cluster_stamps.specs.declared.view.News.TheVariants as news
use Rattle.cluster_stamps.specs.declared.view.Told.{Told}
use Rattle.cluster_stamps.specs.declared.view.View.{View}
use Rattle.vnode.specs.declared.fault.PartFault.{PartFault}
use Rattle.vnode.specs.declared.fault.PartFault.TheVariants as part
use Rattle.cluster_vnode.specs.declared.fault.CallFault.{CallFault}
use Rattle.cluster_vnode.specs.declared.fault.CallFault.TheVariants.{PassSpent, Missing, Refused}
use Rattle.cluster_vnode.specs.Answers.{is_want_of_memory}
use Rattle.cluster_vnode.specs.Calls.{IsFault, IsHandedOut, IsRefusal, outcome_ok, pass_view}
use Rattle.cluster_vnode.specs.Gathers.{handed, BeginsAt, AreInTurn, all_handed}
use Rattle.world.specs.Represents.{AreDistinct, log_at, empty_logs}
use Rattle.audit_faults.specs.declared.fault.AuditFault.{AuditFault}
use Rattle.audit_replay.specs.declared.kept.Recent.{Recent}
use Rattle.audit_replay.specs.Wrong.{IsToldOf}
use Rattle.audit_follower.specs.Stops.{IsStop}
use Rattle.audit_follower.specs.Waiting.{Taken, AreTakenAlike, taken_at, waiting_at}
use Rattle.audit_cluster.specs.Following.{told_of, is_hand_out, all_taken, answers_kept, AreRestarts, HasStopped, IsHandedTo, HasTaken, IsIdle, IsOfWatch, IsRestart, IsTakenMore, IsToldMore, Rouses, Watches}

-- ---- one hand-out more

turn-push : (vnode place : ℕ) (ts : List Told) (t : Told) → AreInTurn vnode place ts → t.vnode ≡ vnode → BeginsAt (place + length (all_handed ts)) t.news → AreInTurn vnode place (ts ++ t ∷ [])
turn-push vnode place [] t turn of begins = (of, subst (λ (n : ℕ). BeginsAt n t.news) (omega arith) begins, tt)
turn-push vnode place (u ∷ us) t turn of begins = (
  turn.0,
  turn.1,
  turn-push vnode (place + length (handed u.news)) us t turn.2 of (subst (λ (n : ℕ). BeginsAt n t.news) (omega (arith, length-append (handed u.news) (all_handed us))) begins),
)

-- what one vnode was told to have handed out, one more
told_own : (vnode : ℕ) (ts : List Told) (t : Told) → t.vnode ≡ vnode → is_hand_out t.news ≡ true → told_of vnode (ts ++ t ∷ []) ≡ told_of vnode ts ++ t ∷ []
told_own vnode ts t of handed_out = filter-append (λ (u : Told). (u.vnode == vnode) && is_hand_out u.news) ts (t ∷ []) ∙ ap (λ (b : Bool). told_of vnode ts ++ cond (b && is_hand_out t.news) (t ∷ []) []) (eq-eqb t.vnode vnode of)
    ∙ ap (λ (b : Bool). told_of vnode ts ++ cond b (t ∷ []) []) handed_out

told_other : (vnode : ℕ) (ts : List Told) (t : Told) → t.vnode ≢ vnode → told_of vnode (ts ++ t ∷ []) ≡ told_of vnode ts
told_other vnode ts t other =
    let no : (t.vnode == vnode) ≡ false = grind (arith, nat_tests) in
    filter-append (λ (u : Told). (u.vnode == vnode) && is_hand_out u.news) ts (t ∷ []) ∙ ap (λ (b : Bool). told_of vnode ts ++ cond (b && is_hand_out t.news) (t ∷ []) []) no ∙ append-nil (told_of vnode ts)

-- a restart is no hand-out
no_hand_out : (n : News) → IsRestart n → is_hand_out n ≡ false
no_hand_out (news.Call asked outcome) is = refl
no_hand_out (news.HandOut first entries) is = absurd is

and_false : (b : Bool) → (b && false) ≡ false
and_false true = refl
and_false false = refl

none_of : (vnode : ℕ) (more : List Told) → All (λ t. IsRestart t.news) more → told_of vnode more ≡ []
none_of vnode [] all = refl
none_of vnode (t ∷ ts) all =
    let none = no_hand_out t.news (All-head (λ (u : Told). IsRestart u.news) t ts all) in
    ap (λ (b : Bool). cond ((t.vnode == vnode) && b) (t ∷ told_of vnode ts) (told_of vnode ts)) none ∙ ap (λ (b : Bool). cond b (t ∷ told_of vnode ts) (told_of vnode ts)) (and_false (t.vnode == vnode))
    ∙ none_of vnode ts (All-tail (λ (u : Told). IsRestart u.news) t ts all)

-- what was handed out stays so where vnodes are started again
pub taken_still : (first : ℕ) (old new : List Told) (taken : Taken) → HasTaken first old taken → (more : List Told) → new ≡ old ++ more → All (λ t. IsRestart t.news) more → HasTaken first new taken
taken_still first old new taken was more is all index inside =
    let h = was index inside in
    let same : told_of (first + index) new ≡ told_of (first + index) old =
    ap (told_of (first + index)) is ∙ filter-append (λ (u : Told). (u.vnode == (first + index)) && is_hand_out u.news) old more ∙ ap (λ (ts : List Told). told_of (first + index) old ++ ts) (none_of (first + index) more all) ∙ append-nil (told_of (first + index) old) in
    (h.0, (subst (λ (ts : List Told). AreInTurn (first + index) 0 ts) (sym same) h.1.0, ap all_handed same ∙ h.1.1))

own_more : (vnode : ℕ) (told new : List Told) (entries : List Entry) (at stamp first : ℕ) (more : List Entry) → IsHandedTo told vnode entries → first ≡ length entries → new ≡ told ++ hand_out_of vnode at stamp first more ∷ [] → IsHandedTo new vnode (entries ++ more)
own_more vnode told new entries at stamp first more was place told_more =
    let t : Told = hand_out_of vnode at stamp first more in
    let here : told_of vnode new ≡ told_of vnode told ++ t ∷ [] = ap (told_of vnode) told_more ∙ told_own vnode told t refl refl in
    let begins : BeginsAt (0 + length (all_handed (told_of vnode told))) t.news = (let e : first ≡ length (all_handed (told_of vnode told)) = place ∙ ap length (sym was.1) in omega (arith, e)) in (
      subst (λ (ts : List Told). AreInTurn vnode 0 ts) (sym here) (turn-push vnode 0 (told_of vnode told) t was.0 refl begins),
      ap all_handed here ∙ flat_map-append (λ (u : Told). handed u.news) (told_of vnode told) (t ∷ []) ∙ ap (λ (es : List Entry). es ++ (more ++ [])) was.1 ∙ ap (λ (es : List Entry). entries ++ es) (append-nil more),
    )

-- what was handed out was told and taken
pub taken_more : (first : ℕ) (told new : List Told) (old taken : Taken) (index at stamp place : ℕ) (more : List Entry) → HasTaken first told old → IsTakenMore old taken index place more → new ≡ told ++ hand_out_of (first + index) at stamp place more ∷ [] → HasTaken first new taken
taken_more first told new old taken index at stamp place more was m told_more i inside = elim (cases_eq i index) [
  | inl same ↦ (
    id,
    (let now : all_taken taken i ≡ all_taken old i ++ more =
        ap (λ (ls : List Log). (log_at ls i).entries ++ waiting_at taken.waiting i) m.followed ∙ ap (λ (es : List Entry). (log_at old.followed i).entries ++ es) (ap (waiting_at taken.waiting) same ∙ m.here ∙ ap (λ (j : ℕ). waiting_at old.waiting j ++ more) (sym same))
        ∙ sym (append_assoc (log_at old.followed i).entries (waiting_at old.waiting i) more) in
        let long : place ≡ length (all_taken old i) = m.place ∙ ap (taken_at old) (sym same) ∙ sym (length-append (log_at old.followed i).entries (waiting_at old.waiting i)) in
        let told_here : new ≡ told ++ hand_out_of (first + i) at stamp place more ∷ [] = told_more ∙ ap (λ (j : ℕ). told ++ hand_out_of (first + j) at stamp place more ∷ []) (sym same) in
        subst (λ (es : List Entry). IsHandedTo new (first + i) es) (sym now) (own_more (first + i) told new (all_taken old i) at stamp place more (was i within).1 long told_here)),
  )
  | inr other ↦ (
    id,
    (let now : all_taken taken i ≡ all_taken old i = ap (λ (ls : List Log). (log_at ls i).entries ++ waiting_at taken.waiting i) m.followed ∙ ap (λ (es : List Entry). (log_at old.followed i).entries ++ es) (m.others i other) in
        let apart : first + index ≢ first + i = λ e. other (omega (arith, e)) in
        let same_told : told_of (first + i) new ≡ told_of (first + i) told = ap (told_of (first + i)) told_more ∙ told_other (first + i) told (hand_out_of (first + index) at stamp place more) apart in
        let h = (was i within).1 in
        (subst (λ (ts : List Told). AreInTurn (first + i) 0 ts) (sym same_told) h.0, ap all_handed same_told ∙ h.1 ∙ sym now)),
  )
]
  where
    within : i < length old.followed
    within = subst (λ (ls : List Log). i < length ls) m.followed inside

    id : (log_at taken.followed i).vnode ≡ first + i
    id = ap (λ (ls : List Log). (log_at ls i).vnode) m.followed ∙ (was i within).0

-- the same, as the pass was told
pub handed_more : (first : ℕ) (old_pass new_pass : View) (old taken : Taken) (index id place : ℕ) (blocks : List (Vec Entry)) → HasTaken first old_pass.told old → IsTakenMore old taken index place (all_of blocks) → id ≡ first + index → IsHandedOut old_pass new_pass id place blocks
    → HasTaken first new_pass.told taken
handed_more first old_pass new_pass old taken index id place blocks was m is (at, stamp, news, full, few) =
    taken_more first old_pass.told new_pass.told old taken index at stamp place (all_of blocks) was m (subst (λ (v : ℕ). new_pass.told ≡ old_pass.told ++ hand_out_of v at stamp place (all_of blocks) ∷ []) is news.0)

-- ---- entries that were taken

-- none were taken yet
pub none_more : (old new : Taken) (index first : ℕ) → index < length old.followed → index < length old.waiting → first ≡ taken_at old index → new ≡ (record old { waiting = slice_set old.waiting index (waiting_at old.waiting index ++ []) }) → IsTakenMore old new index first []
none_more old new index first inside waits place is = record {
  inside = (inside, waits);
  place = place;
  followed = ap (λ (t : Taken). t.followed) is;
  size = ap (λ (t : Taken). length t.waiting) is ∙ length-set old.waiting index (waiting_at old.waiting index ++ []);
  here = ap (λ (t : Taken). waiting_at t.waiting index) is ∙ get_or-set_same old.waiting index (waiting_at old.waiting index ++ []) [] waits;
  others = λ other apart. ap (λ (t : Taken). waiting_at t.waiting other) is ∙ get_or-set_other old.waiting index other (waiting_at old.waiting index ++ []) [] apart;
}

-- and so many more
pub more_taken : (old mid new : Taken) (index first : ℕ) (so_far more all : List Entry) → IsTakenMore old mid index first so_far → new ≡ (record mid { waiting = slice_set mid.waiting index (waiting_at mid.waiting index ++ more) }) → all ≡ so_far ++ more → IsTakenMore old new index first all
more_taken old mid new index first so_far more all m is both = record {
  inside = m.inside;
  place = m.place;
  followed = ap (λ (t : Taken). t.followed) is ∙ m.followed;
  size = ap (λ (t : Taken). length t.waiting) is ∙ length-set mid.waiting index (waiting_at mid.waiting index ++ more) ∙ m.size;
  here = ap (λ (t : Taken). waiting_at t.waiting index) is ∙ get_or-set_same mid.waiting index (waiting_at mid.waiting index ++ more) [] (let n = m.size in let i = m.inside.1 in omega (arith, n, i)) ∙ ap (λ (es : List Entry). es ++ more) m.here ∙ append_assoc (waiting_at old.waiting index) so_far more
      ∙ ap (λ (es : List Entry). waiting_at old.waiting index ++ es) (sym both);
  others = λ other apart. ap (λ (t : Taken). waiting_at t.waiting other) is ∙ get_or-set_other mid.waiting index other (waiting_at mid.waiting index ++ more) [] apart ∙ m.others other apart;
}

-- the entries of one block more
pub all_of-push : (blocks : List (Vec Entry)) (block : Vec Entry) → all_of (blocks ++ block ∷ []) ≡ all_of blocks ++ block.items
all_of-push blocks block = flat_map-append (λ (b : Vec Entry). b.items) blocks (block ∷ []) ∙ ap (λ (es : List Entry). all_of blocks ++ es) (append-nil block.items)

-- ---- following leaves what was taken

pub taken_alike : (first : ℕ) (told : List Told) (old new : Taken) → HasTaken first told old → AreTakenAlike old.followed old.waiting new.followed new.waiting → HasTaken first told new
taken_alike first told old new was alike i inside =
    let h = was i (omega (arith, alike.size, inside)) in
    (alike.vnodes i ∙ h.0, subst (λ (es : List Entry). IsHandedTo told (first + i) es) (sym (alike.entries i)) h.1)

-- ---- what a watch keeps

-- a fault that was found stays found, whatever is told behind it
pub stopped_on : (first n : ℕ) (old new more : List Told) (fronts : List ℕ) (fault : AuditFault) → HasStopped first n old fronts fault → new ≡ old ++ more → HasStopped first n new fronts fault
stopped_on first n old new more fronts fault was is = record {
  heard = was.heard;
  unheard = was.unheard ++ more;
  all = is ∙ ap (λ (ts : List Told). ts ++ more) was.all ∙ append_assoc was.heard was.unheard more;
  taken = was.taken;
  size = was.size;
  has = was.has;
  run = was.run;
  index = was.index;
  inside = was.inside;
  entry = was.entry;
  next = was.next;
  is_wrong = was.is_wrong;
}

-- nothing was taken, and no fault was found
pub watches_none : (first n : ℕ) (told : List Told) (taken : Taken) → taken.fault ≡ None → length taken.followed ≡ n → HasTaken first told taken → Watches first n told taken
watches_none first n told taken none size has = record { size = λ is. size; has = λ is. has; stopped = λ fault is. absurd (let clash : Some fault ≡ None = sym is ∙ none in cc) }

-- vnodes were started again
pub watches_still : (first n : ℕ) (old new more : List Told) (taken : Taken) → Watches first n old taken → new ≡ old ++ more → All (λ t. IsRestart t.news) more → Watches first n new taken
watches_still first n old new more taken was is all = record {
  size = was.size;
  has = λ none. taken_still first old new taken (was.has none) more is all;
  stopped = λ fault found. stopped_on first n old new more taken.fronts fault (was.stopped fault found) is;
}

-- after a fault what is handed out is let go
pub watches_let_go : (first n : ℕ) (old new : View) (taken : Taken) (id place : ℕ) (blocks : List (Vec Entry)) → Watches first n old.told taken → is_some taken.fault ≡ true → IsHandedOut old new id place blocks → Watches first n new.told taken
watches_let_go first n old new taken id place blocks was some (at, stamp, news, full, few) = record {
  size = λ none. absurd (found none);
  has = λ none. absurd (found none);
  stopped = λ fault is. stopped_on first n old.told new.told (hand_out_of id at stamp place (all_of blocks) ∷ []) taken.fronts fault (was.stopped fault is) news.0;
}
  where
    found : taken.fault ≡ None → ⊥
    found none = let clash : false ≡ true = sym (ap is_some none) ∙ some in cc

-- what was handed out was taken
pub watches_more : (first n : ℕ) (old_pass new_pass : View) (old taken : Taken) (index id place : ℕ) (blocks : List (Vec Entry)) → Watches first n old_pass.told old → taken.fault ≡ old.fault → taken.fronts ≡ old.fronts → IsTakenMore old taken index place (all_of blocks) → id ≡ first + index
    → IsHandedOut old_pass new_pass id place blocks → Watches first n new_pass.told taken
watches_more first n old_pass new_pass old taken index id place blocks was same fronts m is (at, stamp, news, full, few) = record {
  size = λ none. ap length m.followed ∙ was.size (sym same ∙ none);
  has = λ none. handed_more first old_pass new_pass old taken index id place blocks (was.has (sym same ∙ none)) m is (at, stamp, news, full, few);
  stopped = λ fault found. subst (λ (ns : List ℕ). HasStopped first n new_pass.told ns fault) (sym fronts)
      (stopped_on first n old_pass.told new_pass.told (hand_out_of id at stamp place (all_of blocks) ∷ []) old.fronts fault (was.stopped fault (sym same ∙ found)) news.0);
}

-- the follower stopped at what waited
stopped_at : (first n : ℕ) (told : List Told) (old : Taken) (below : ℕ) (fault : AuditFault) → HasTaken first told old → length old.followed ≡ n → old.recent ≡ answers_kept → IsStop old.fronts old.followed old.waiting below old.recent fault → HasStopped first n told old.fronts fault
stopped_at first n told old below fault has size recent stop =
    let then : Taken = record { fronts = old.fronts; followed = stop.logs; waiting = stop.waiting; fault = None; recent = old.recent } in
    record {
      heard = told;
      unheard = [];
      all = sym (append-nil told);
      taken = then;
      size = stop.alike.size ∙ size;
      has = taken_alike first told old then has stop.alike;
      run = stop.run;
      index = stop.index;
      inside = (let i = stop.inside in let s = stop.alike.size in omega (arith, i, s, size));
      entry = stop.entry;
      next = stop.next;
      is_wrong = subst (λ (r : Recent). IsToldOf old.fronts stop.logs r stop.index stop.entry fault) recent stop.told;
    }

-- so it was followed
pub watches_followed : (first n : ℕ) (told : List Told) (old new : Taken) (below : ℕ) (r : Result (Unit {0}) AuditFault) → Watches first n told old → old.recent ≡ answers_kept → OnOk r (AreTakenAlike old.followed old.waiting new.followed new.waiting) → OnOk r (new.fault ≡ None)
    → IfErr r (λ fault. new.fault ≡ Some fault) → (old.fault ≡ None → IfErr r (λ fault. IsStop old.fronts old.followed old.waiting below old.recent fault)) → ((fault : AuditFault) → old.fault ≡ Some fault → (r ≡ Err fault) × (new ≡ old)) → new.fronts ≡ old.fronts → Watches first n told new
watches_followed first n told old new below r was recent alike none found stop again fronts = by old.fault refl r refl
  where
    by : (f : Option AuditFault) → old.fault ≡ f → (q : Result (Unit {0}) AuditFault) → r ≡ q → Watches first n told new
    by (Some why) is q same = subst (λ (t : Taken). Watches first n told t) (sym (again why is).1) was
    by None is (Ok done) same =
        let ok : AreTakenAlike old.followed old.waiting new.followed new.waiting = subst (λ (x : Result (Unit {0}) AuditFault). OnOk x (AreTakenAlike old.followed old.waiting new.followed new.waiting)) same alike in
        watches_none first n told new (subst (λ (x : Result (Unit {0}) AuditFault). OnOk x (new.fault ≡ None)) same none) (ok.size ∙ was.size is) (taken_alike first told old new (was.has is) ok)
    by None is (Err why) same =
        let told_fault : new.fault ≡ Some why = subst (λ (x : Result (Unit {0}) AuditFault). IfErr x (λ fault. new.fault ≡ Some fault)) same found in
        let at : IsStop old.fronts old.followed old.waiting below old.recent why = subst (λ (x : Result (Unit {0}) AuditFault). IfErr x (λ fault. IsStop old.fronts old.followed old.waiting below old.recent fault)) same (stop is) in
        record {
          size = λ no. absurd (let clash : Some why ≡ None = sym told_fault ∙ no in cc);
          has = λ no. absurd (let clash : Some why ≡ None = sym told_fault ∙ no in cc);
          stopped = λ fault is_found. subst (λ (ns : List ℕ). HasStopped first n told ns fault) (sym fronts)
              (subst (λ (f : AuditFault). HasStopped first n told old.fronts f) (same_Some why fault (sym told_fault ∙ is_found)) (stopped_at first n told old below why (was.has is) (was.size is) recent at));
        }

-- ---- nothing was taken yet

fresh_at : (ids : List ℕ) (index : ℕ) → index < length ids → log_at (empty_logs ids) index ≡ (let l : Log = record { vnode = get_or ids index 0; entries = [] } in l)
fresh_at [] index inside = absurd (omega (arith, inside))
fresh_at (id ∷ ids) zero inside = refl
fresh_at (id ∷ ids) (suc index) inside = fresh_at ids index (omega (arith, inside))

as_many : (ids : List ℕ) → length (empty_logs ids) ≡ length ids
as_many [] = refl
as_many (id ∷ ids) = ap suc (as_many ids)

none_waits : (n index : ℕ) → waiting_at (replicate n []) index ≡ []
none_waits zero index = refl
none_waits (suc n) zero = refl
none_waits (suc n) (suc index) = none_waits n index

-- these are numbered from the first on
abbrev pub AreNumbered : ℕ → List ℕ → Type 0
AreNumbered first ids = (index : ℕ) → index < length ids → get_or ids index 0 ≡ first + index

pub numbered_push : (first : ℕ) (ids new : List ℕ) (id : ℕ) → AreNumbered first ids → id ≡ first + length ids → new ≡ ids ++ id ∷ [] → AreNumbered first new
numbered_push first ids new id were is pushed = subst (λ (xs : List ℕ). AreNumbered first xs) (sym pushed) (go ids first were is)
  where
    go : (xs : List ℕ) (low : ℕ) → AreNumbered low xs → id ≡ low + length xs → AreNumbered low (xs ++ id ∷ [])
    go [] low all at zero inside = omega (arith, at)
    go [] low all at (suc index) inside = absurd (omega (arith, inside))
    go (x ∷ xs) low all at zero inside = all 0 (omega arith)
    go (x ∷ xs) low all at (suc index) inside =
        let rest = go xs (suc low) (λ i lt. (let h = all (suc i) (omega (arith, lt)) in omega (arith, h))) (omega (arith, at)) index (omega (arith, inside)) in
        omega (arith, rest)

pub numbers_differ : (first : ℕ) (ids : List ℕ) → AreNumbered first ids → AreDistinct ids
numbers_differ first ids are u v lu lv same = let a = are u lu in let b = are v lv in omega (arith, a, b, same)

pub nothing_taken : (first : ℕ) (told : List Told) (ids : List ℕ) (taken : Taken) → AreNumbered first ids → told ≡ [] → taken.followed ≡ empty_logs ids → taken.waiting ≡ replicate (length ids) [] → HasTaken first told taken
nothing_taken first told ids taken are untold followed waiting index inside =
    let within : index < length ids = (let n : length taken.followed ≡ length ids = ap length followed ∙ as_many ids in omega (arith, inside, n)) in
    let log : log_at taken.followed index ≡ (let l : Log = record { vnode = get_or ids index 0; entries = [] } in l) = ap (λ (ls : List Log). log_at ls index) followed ∙ fresh_at ids index within in
    let none : all_taken taken index ≡ [] = ap (λ (l : Log). l.entries ++ waiting_at taken.waiting index) log ∙ ap (λ (qs : List (List Entry)). waiting_at qs index) waiting ∙ none_waits (length ids) index in (
      ap (λ (l : Log). l.vnode) log ∙ are index within,
      (
        subst (λ (ts : List Told). AreInTurn (first + index) 0 (told_of (first + index) ts)) (sym untold) tt,
        ap (λ (ts : List Told). all_handed (told_of (first + index) ts)) untold ∙ sym none,
      ),
    )

pub followed_long : (ids : List ℕ) (taken : Taken) → taken.followed ≡ empty_logs ids → length taken.followed ≡ length ids
followed_long ids taken is = ap length is ∙ as_many ids

-- ---- what the pass is told

pub told_same : (old new : List Told) → new ≡ old → IsToldMore old new
told_same old new is = ([], is ∙ sym (append-nil old), All-nil IsOfWatch)

pub told_on : (first old new : List Told) → IsToldMore first old → IsToldMore old new → IsToldMore first new
told_on first old new a b = (a.0 ++ b.0, b.1 ∙ ap (λ (ts : List Told). ts ++ b.0) a.1 ∙ append_assoc first a.0 b.0, All-append IsOfWatch a.0 b.0 a.2 b.2)

-- what was handed out was told
pub told_handed : (old new : View) (was : List Told) (id first : ℕ) (blocks : List (Vec Entry)) → IsHandedOut old new id first blocks → old.told ≡ was → IsToldMore was new.told
told_handed old new was id first blocks (at, stamp, news_are, full, few) is =
    let t : Told = hand_out_of id at stamp first (all_of blocks) in
    (t ∷ [], news_are.0 ∙ ap (λ (ts : List Told). ts ++ t ∷ []) is, All-cons IsOfWatch t [] (inl refl) (All-nil IsOfWatch))

-- so were restarts
pub told_roused : (first : ℕ) (taken : Taken) (old new : List Told) → Rouses first taken old new → IsToldMore old new
told_roused first taken old new (more, is, all, few) = (more, is, All-weaker (λ (t : Told). IsIdle first taken t.vnode × IsRestart t.news) IsOfWatch (λ t h. inr h.1) more all)

-- ---- restarts

pub no_restarts : (vnode : ℕ) (told : List Told) → AreRestarts vnode 0 told told
no_restarts vnode told = ([], sym (append-nil told), All-nil (λ (t : Told). (t.vnode ≡ vnode) × IsRestart t.news), omega arith)

one_restart : (vnode most next : ℕ) (first old new : List Told) (t : Told) → AreRestarts vnode most first old → most < next → new ≡ old ++ t ∷ [] → t.vnode ≡ vnode → IsRestart t.news → AreRestarts vnode next first new
one_restart vnode most next first old new t (more, is, all, few) less pushed of restart = (
  more ++ t ∷ [],
  pushed ∙ ap (λ (ts : List Told). ts ++ t ∷ []) is ∙ append_assoc first more (t ∷ []),
  All-push (λ (u : Told). (u.vnode ≡ vnode) × IsRestart u.news) more t all (of, restart),
  (let n = length_push more t in omega (arith, n, few, less)),
)

same_restarts : (vnode most next : ℕ) (first old new : List Told) → AreRestarts vnode most first old → most ≤ next → new ≡ old → AreRestarts vnode next first new
same_restarts vnode most next first old new (more, is, all, few) less same = (more, same ∙ is, all, omega (arith, few, less))

-- one that was made
pub made_restart : (vnode most next at stamp : ℕ) (reply : Reply) (asked : Request) (first old new : List Told) → AreRestarts vnode most first old → most < next → new ≡ old ++ call_of vnode at stamp asked (outcome_ok reply) ∷ [] → asked ≡ request.Restart → AreRestarts vnode next first new
made_restart vnode most next at stamp reply asked first old new were less pushed is = one_restart vnode most next first old new (call_of vnode at stamp asked (outcome_ok reply)) were less pushed refl is

-- one that was refused
refused_restart : (vnode most next : ℕ) (fault : PartFault) (asked : Request) (first : List Told) (old new : View) → AreRestarts vnode most first old.told → most < next → IsRefusal old new vnode asked fault → asked ≡ request.Restart → AreRestarts vnode next first new.told
refused_restart vnode most next fault asked first old new were less (t, told, of, is) asks =
    let restart : IsRestart t.news = subst (λ (n : News). IsRestart n) (sym is) asks in
    one_restart vnode most next first old.told new.told t were less told.0 of restart

pub no_restart : (vnode most next : ℕ) (fault : CallFault) (asked : Request) (first : List Told) (old new : View) → AreRestarts vnode most first old.told → most < next → IsFault old new vnode asked fault → asked ≡ request.Restart → AreRestarts vnode next first new.told
no_restart vnode most next PassSpent asked first old new were less h is = same_restarts vnode most next first old.told new.told were (omega (arith, less)) h.0
no_restart vnode most next Missing asked first old new were less h is = refused_restart vnode most next part.Missing asked first old new were less h is
no_restart vnode most next (Refused fault) asked first old new were less h is = go (is_want_of_memory fault) h
  where
    go : (b : Bool) → MatchBool b (new.told ≡ old.told) (IsRefusal old new vnode asked (part.Refused fault)) → AreRestarts vnode next first new.told
    go true same = same_restarts vnode most next first old.told new.told were (omega (arith, less)) same
    go false refusal = refused_restart vnode most next (part.Refused fault) asked first old new were less refusal is

pub most_restarts : (vnode most next : ℕ) (old new : List Told) → AreRestarts vnode most old new → most ≤ next → AreRestarts vnode next old new
most_restarts vnode most next old new were less = same_restarts vnode most next old new new were less refl

-- so many vnodes at the most
abbrev pub RousesUpTo : ℕ → ℕ → Taken → List Told → List Told → Type 0
RousesUpTo n first taken old new = (more : List Told) × (new ≡ old ++ more) × All (λ t. IsIdle first taken t.vnode × IsRestart t.news) more × (length more ≤ 1025 * n)

-- none were roused
pub rouses_none : (n first : ℕ) (taken : Taken) (told : List Told) → RousesUpTo n first taken told told
rouses_none n first taken told = ([], sym (append-nil told), All-nil (λ (t : Told). IsIdle first taken t.vnode × IsRestart t.news), omega arith)

-- where none waits
pub nothing_waits : (entries : List Entry) → length entries ≡ 0 → entries ≡ []
nothing_waits [] none = refl
nothing_waits (e ∷ es) none = absurd (omega (arith, none))

pub restarts_alone : (first : ℕ) (taken : Taken) (more : List Told) → All (λ t. IsIdle first taken t.vnode × IsRestart t.news) more → All (λ t. IsRestart t.news) more
restarts_alone first taken more all = All-weaker (λ (t : Told). IsIdle first taken t.vnode × IsRestart t.news) (λ (t : Told). IsRestart t.news) (λ t h. h.1) more all

pub rouses_more : (n first : ℕ) (taken : Taken) (old now new : List Told) (vnode : ℕ) → RousesUpTo n first taken old now → AreRestarts vnode 1025 now new → IsIdle first taken vnode → RousesUpTo (n + 1) first taken old new
rouses_more n first taken old now new vnode a b idle = (
  a.0 ++ b.0,
  b.1 ∙ ap (λ (ts : List Told). ts ++ b.0) a.1 ∙ append_assoc old a.0 b.0,
  All-append (λ (t : Told). IsIdle first taken t.vnode × IsRestart t.news) a.0 b.0 a.2
      (All-weaker (λ (t : Told). (t.vnode ≡ vnode) × IsRestart t.news) (λ (t : Told). IsIdle first taken t.vnode × IsRestart t.news) (λ t h. (subst (λ (v : ℕ). IsIdle first taken v) (sym h.0) idle, h.1)) b.0 b.2),
  (let n_more = length-append a.0 b.0 in let few = a.3 in let fewer = b.3 in omega (arith, n_more, few, fewer)),
)

pub rouses_on : (n first : ℕ) (taken : Taken) (old now : List Told) → RousesUpTo n first taken old now → RousesUpTo (n + 1) first taken old now
rouses_on n first taken old now (more, is, all, few) = (more, is, all, omega (arith, few))

pub rouses_all : (n first : ℕ) (taken : Taken) (old now : List Told) → RousesUpTo n first taken old now → n ≤ length taken.followed → Rouses first taken old now
rouses_all n first taken old now (more, is, all, few) less = (more, is, all, omega (arith, few, less))

-- the last of some passes that were told nothing
pub last_untold : (passes rest : List View) (pass : View) → All (λ (p : View). p ≡ pass_view 0 []) passes → passes ≡ rest ++ pass ∷ [] → pass.told ≡ []
last_untold passes rest pass fresh is =
    let there : Contains passes pass = subst (λ (ps : List View). Contains ps pass) (sym is) (Contains-append_right rest (pass ∷ []) pass (0, omega arith, refl)) in
    ap (λ (v : View). v.told) (All-contains (λ (p : View). p ≡ pass_view 0 []) passes pass fresh there)

-- ---- what the pass of a watch is told is its own

pub still_own : (old new : List Told) → All IsOfWatch old → IsToldMore old new → All IsOfWatch new
still_own old new all (more, is, own) = subst (λ (ts : List Told). All IsOfWatch ts) (sym is) (All-append IsOfWatch old more all own)

pub roused_own : (first : ℕ) (taken : Taken) (more : List Told) → All (λ t. IsIdle first taken t.vnode × IsRestart t.news) more → All IsOfWatch more
roused_own first taken more all = All-weaker (λ (t : Told). IsIdle first taken t.vnode × IsRestart t.news) IsOfWatch (λ t h. inr h.1) more all
