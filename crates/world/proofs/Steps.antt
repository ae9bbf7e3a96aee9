-- One entry more at a vnode is one event more of the world.
use Rattle.std.proofs.Common.{◌≡◌, ◌≢◌, ℕ, zero, suc, ◌+◌, ◌<◌, ◌≤◌, ◌&&◌, Bool, true, false, cond, List, [], ◌∷◌, ◌++◌, length, get_or, refl, sym, ap, subst, ◌∙◌, inl, inr, arith, MatchBool, append_assoc, length-append, length-set, replicate}
use Rattle.std.proofs.lemmas.List.{length-replicate, length-map}
use Rattle.std.specs.Prelude.{Contains, ◌↔◌, nat_le, nat_lt, Option}
use Rattle.std.proofs.lemmas.Bool.{cases_eq, and_parts, and_from, both_ways, le-leb, lt-ltb, leb-true, ltb-true}
use Rattle.std.proofs.lemmas.List.{append-nil, get_or-set_same, get_or-set_other}
use Rattle.std.proofs.lemmas.List.Elements.{Contains-append_cases, Contains-push, Contains-push_cases}
use Rattle.dvv.specs.declared.Dot.{Dot}
use Rattle.dvv.specs.Clock.{covers, counter, HasRoom, vnodes_together}
use Rattle.key_state.specs.declared.content.Content.{Content}
use Rattle.key_state.specs.declared.content.Key.{Key}
use Rattle.key_state.specs.State.{State, next, kept}
use Rattle.key_state.specs.Known.{Write, IsCurrent, AreUnique}
use Rattle.journal.specs.Keys.{same_key}
use Rattle.journal.specs.Entry.{Entry, Put, Merge, Read, Restart}
use Rattle.journal.specs.Logs.{Log, max_entries, with_entry}
use Rattle.journal.specs.Replay.{sibling_in, known_in, IsReplay, IsNextDot, LeaveAlike, Knows, Leaves}
use Rattle.journal.specs.Limits.{TakesEntry, TakesClock, AcceptsPut}
use Rattle.journal.specs.Journals.{MayFollow, IsJournal}
use Rattle.key_state.specs.Known.{ShowsKnown}
use Rattle.journal.specs.Brought.{Brings, BringsAll, nothing, one_more}
use Rattle.journal.proofs.Keyed.{one_key}
use Rattle.journal.proofs.Replayed.{journal_end}
use Rattle.world.specs.Knowledge.{Knowledge, opened, KeyedWrite, Copied, known_at, of_key, under, learns, accepts, accepted_at, id_of, next_dot, write_of, left_by, IsStateOf, after_refusal, after_put, after_copy, after_part, after_delivery, after_restart, after_run, after_nothing}
use Rattle.world.specs.Happening.{MayPut, IsKnown, MayDeliver, LookAlike, HasPlace}
use Rattle.vnode.specs.declared.fault.VnodeFault.{VnodeFault}
use Rattle.world.specs.Numbering.{IsLawful, KnowOwn, WerePut}
use Rattle.world.specs.Represents.{ShowsAt, Represents, AreDistinct, log_at, with_entry_at, empty_logs}
use Rattle.world.proofs.Lists.{same_key-same, Contains-nil}
use Rattle.world.proofs.Causal.{lawful_put, lawful_copy, lawful_part, lawful_delivery, lawful_restart, lawful_refusal, lawful_run, lawful_nothing, lawful_opened, none_known, known_put}
use Rattle.world.proofs.Shown.{shows_at, replay_is, shows_known, same_options, same_tests}
use Rattle.world.proofs.Numbers.{next_is, known_unique, none_itself, one_write, learned, known_other, grows}

-- what entries bring, with one more at the end
pub brings_end : (key : Key) (e : Entry) (some : List Write) {es : List Entry} {known : List Write} → BringsAll key es known → Brings key e some → BringsAll key (es ++ e ∷ []) (known ++ some)
brings_end key e some nothing b = subst (λ (ws : List Write). BringsAll key (e ∷ []) ws) (append-nil some) (one_more e [] some [] b nothing)
brings_end key e some (one_more f es first more h t) b = subst (λ (ws : List Write). BringsAll key (f ∷ (es ++ e ∷ [])) ws) (sym (append_assoc first more some)) (one_more f (es ++ e ∷ []) first (more ++ some) h (brings_end key e some t b))

-- what a vnode's journal shows it knows
pub shown : (logs : List Log) (w : Knowledge) (v : ℕ) (key : Key) → Represents logs w → v < length logs → ShowsAt (log_at logs v).entries key (known_at w v key)
shown logs w v key rep inside = shows_at (id_of w v) (log_at logs v).entries key (known_at w v key) (rep.legal v inside) (rep.brings v key inside) (known_unique w v key rep.lawful) (none_itself w key (known_at w v key) rep.lawful (known_put w v key rep.lawful))

-- so the state that it leaves is theirs
pub state_shown : (logs : List Log) (w : Knowledge) (v : ℕ) (key : Key) (state : State) → Represents logs w → v < length logs → IsReplay (log_at logs v).entries key state → IsStateOf (known_at w v key) state
state_shown logs w v key state rep inside replay = replay_is (log_at logs v).entries key (known_at w v key) state (shown logs w v key rep inside) replay

-- the world after one entry more
grown : (logs : List Log) (w new : Knowledge) (v : ℕ) (e : Entry) → Represents logs w → v < length logs → MayFollow (id_of w v) (log_at logs v).entries e
    → IsLawful new → KnowOwn new → new.ids ≡ w.ids → new.accepted ≡ accepts w v → length new.known ≡ length w.known
    → ((k : Key) → (some : List Write) × Brings k e some × (known_at new v k ≡ known_at w v k ++ some))
    → ((u : ℕ) (k : Key) → u ≢ v → known_at new u k ≡ known_at w u k)
    → Represents (with_entry_at logs v e) new
grown logs w new v e rep inside follows lawful own ids counts size here others = record {
  lawful = lawful;
  own = own;
  distinct = λ a b la lb same. rep.distinct a b (omega (arith, len, la)) (omega (arith, len, lb)) (ap (λ (xs : List ℕ). get_or xs a 0) (sym ids) ∙ same ∙ ap (λ (xs : List ℕ). get_or xs b 0) ids);
  size = size ∙ rep.size ∙ sym len;
  counts = ap length counts ∙ length-set w.accepted v (accepted_at w v + 1) ∙ rep.counts ∙ sym len;
  ids = λ u lu. elim (cases_eq u v) [
    | inl is ↦ subst (λ (a : ℕ). (log_at (with_entry_at logs v e) a).vnode ≡ id_of new a) (sym is) (ap (λ (l : Log). l.vnode) at_v ∙ rep.ids v inside ∙ sym (id_is v))
    | inr other ↦ ap (λ (l : Log). l.vnode) (at_other u other) ∙ rep.ids u (omega (arith, len, lu)) ∙ sym (id_is u)
  ];
  accepted = λ u lu. elim (cases_eq u v) [
    | inl is ↦ subst (λ (a : ℕ). length (log_at (with_entry_at logs v e) a).entries ≡ accepted_at new a) (sym is) (ap (λ (l : Log). length l.entries) at_v ∙ length-append (log_at logs v).entries (e ∷ []) ∙ ap (λ (n : ℕ). n + 1) (rep.accepted v inside) ∙ sym (get_or-set_same w.accepted v (accepted_at w v + 1) 0 (omega (arith, rep.counts))) ∙ ap (λ (xs : List ℕ). get_or xs v 0) (sym counts))
    | inr other ↦ ap (λ (l : Log). length l.entries) (at_other u other) ∙ rep.accepted u (omega (arith, len, lu)) ∙ sym (get_or-set_other w.accepted v u (accepted_at w v + 1) 0 other) ∙ ap (λ (xs : List ℕ). get_or xs u 0) (sym counts)
  ];
  legal = λ u lu. elim (cases_eq u v) [
    | inl is ↦ subst (λ (a : ℕ). IsJournal (id_of new a) (log_at (with_entry_at logs v e) a).entries) (sym is) (subst (λ (i : ℕ). IsJournal i (log_at (with_entry_at logs v e) v).entries) (sym (id_is v)) (subst (λ (l : Log). IsJournal (id_of w v) l.entries) (sym at_v) (journal_end (id_of w v) (log_at logs v).entries e (rep.legal v inside) follows)))
    | inr other ↦ subst (λ (i : ℕ). IsJournal i (log_at (with_entry_at logs v e) u).entries) (sym (id_is u)) (subst (λ (l : Log). IsJournal (id_of w u) l.entries) (sym (at_other u other)) (rep.legal u (omega (arith, len, lu))))
  ];
  brings = λ u k lu. elim (cases_eq u v) [
    | inl is ↦ subst (λ (a : ℕ). BringsAll k (log_at (with_entry_at logs v e) a).entries (known_at new a k)) (sym is)
        (subst (λ (l : Log). BringsAll k l.entries (known_at new v k)) (sym at_v) (let h = here k in subst (λ (ws : List Write). BringsAll k ((log_at logs v).entries ++ e ∷ []) ws) (sym h.2) (brings_end k e h.0 (rep.brings v k inside) h.1)))
    | inr other ↦ subst (λ (l : Log). BringsAll k l.entries (known_at new u k)) (sym (at_other u other)) (subst (λ (ws : List Write). BringsAll k (log_at logs u).entries ws) (sym (others u k other)) (rep.brings u k (omega (arith, len, lu))))
  ];
}
  where
    none : Log
    none = record { vnode = 0; entries = [] }

    len : length (with_entry_at logs v e) ≡ length logs
    len = length-set logs v (with_entry (log_at logs v) e)

    at_v : log_at (with_entry_at logs v e) v ≡ with_entry (log_at logs v) e
    at_v = get_or-set_same logs v (with_entry (log_at logs v) e) (record { vnode = 0; entries = [] }) inside

    at_other : (u : ℕ) → u ≢ v → log_at (with_entry_at logs v e) u ≡ log_at logs u
    at_other u other = get_or-set_other logs v u (with_entry (log_at logs v) e) (record { vnode = 0; entries = [] }) other

    id_is : (a : ℕ) → id_of new a ≡ id_of w a
    id_is a = ap (λ (xs : List ℕ). get_or xs a 0) ids

-- a vnode that learns writes of a key: those are what it knows more, at that key alone
learns_more : (w : Knowledge) (v : ℕ) (key : Key) (ws : List Write) → v < length w.known → (k : Key) → of_key k (get_or (learns w v (under key ws)) v []) ≡ known_at w v k ++ cond (same_key key k) ws []
learns_more w v key ws inside k = go (same_key key k) refl
  where
    go : (b : Bool) → same_key key k ≡ b → of_key k (get_or (learns w v (under key ws)) v []) ≡ known_at w v k ++ cond b ws []
    go true t = subst (λ (q : Key). of_key q (get_or (learns w v (under key ws)) v []) ≡ known_at w v q ++ ws) (one_key key k t) (learned w v key ws inside)
    go false t = known_other w v v key k ws (λ _ e. both_ways _ t (same_key-same key k (sym e))) ∙ sym (append-nil (known_at w v k))

-- it keeps to know its own puts
own_learns : (w new : Knowledge) (v : ℕ) (more : List KeyedWrite) → KnowOwn w → new.ids ≡ w.ids → new.puts ≡ w.puts → new.known ≡ learns w v more → length new.known ≡ length w.known → KnowOwn new
own_learns w new v more own ids puts known size u p lu c e =
    subst (λ (ks : List (List KeyedWrite)). Contains (get_or ks u []) p) (sym known) (grows w v u more p (own u p (omega (arith, lu, size)) (subst (λ (ps : List KeyedWrite). Contains ps p) puts c) (e ∙ ap (λ (xs : List ℕ). get_or xs u 0) ids)))

-- the next dot of a state that a journal leaves is the journal's
state_next : (id : ℕ) (journal : List Entry) (key : Key) (state : State) → IsReplay journal key state → IsNextDot journal key id (next state id)
state_next id journal key state replay = (
  refl,
  omega arith,
  λ n. sym (replay.clock (record { vnode = id; n = n })) ∙ same_tests (nat_le 1 n && nat_le n (counter state.clock id)) (nat_le 1 n && nat_lt n (counter state.clock id + 1))
      (λ t. let p = and_parts _ _ t in and_from _ _ p.0 (lt-ltb n (counter state.clock id + 1) (let h : n ≤ counter state.clock id = leb-true _ _ p.1 in omega arith)))
      (λ t. let p = and_parts _ _ t in and_from _ _ p.0 (le-leb n (counter state.clock id) (let h : n < counter state.clock id + 1 = ltb-true _ _ p.1 in omega arith))),
)

-- What stands at a vnode's journal, as what is known there.
pub known_seen : (logs : List Log) (w : Knowledge) (v : ℕ) (key : Key) (seen : List Dot) → Represents logs w → v < length logs → Knows (log_at logs v).entries key seen → IsKnown (known_at w v key) seen
known_seen logs w v key seen rep inside knows d h = ((shown logs w v key rep inside).clock d).0 (knows d h)

pub state_next_is : (logs : List Log) (w : Knowledge) (v : ℕ) (key : Key) (state : State) → Represents logs w → v < length logs → IsReplay (log_at logs v).entries key state → next state (id_of w v) ≡ next_dot w v key
state_next_is logs w v key state rep inside replay = next_is w v key (log_at logs v).entries (next state (id_of w v)) (omega (arith, rep.size)) rep.lawful rep.own (shown logs w v key rep inside) (state_next (id_of w v) (log_at logs v).entries key state replay)

pub may_put : (logs : List Log) (w : Knowledge) (v : ℕ) (key : Key) (seen : List Dot) → Represents logs w → v < length logs → AcceptsPut (id_of w v) (log_at logs v).entries key seen → MayPut w v key seen
may_put logs w v key seen rep inside accepted =
    let r = accepted.state in
    let is : IsStateOf (known_at w v key) r.0 = state_shown logs w v key r.0 rep inside r.1 in
    record {
      context = known_seen logs w v key seen rep inside accepted.knows;
      siblings = (length (kept seen r.0.siblings), (r.0, is, refl), r.2.0);
      clock = (r.0.clock, (is.clock, is.shows.clock), subst (HasRoom r.0.clock) (state_next_is logs w v key r.0 rep inside r.1) r.2.1);
      journal = subst (λ (n : ℕ). n < max_entries) (rep.accepted v inside) accepted.place;
    }

-- An entry of a put is the put of the world.
pub put_step : (logs : List Log) (w : Knowledge) (v stamp : ℕ) (key : Key) (seen : List Dot) (content : Content) (dot : Dot) → Represents logs w → v < length logs → MayFollow (id_of w v) (log_at logs v).entries (Put stamp key seen content dot)
    → (dot ≡ next_dot w v key) × MayPut w v key seen × Represents (with_entry_at logs v (Put stamp key seen content dot)) (after_put w v key (write_of w v key seen content))
put_step logs w v stamp key seen content dot rep inside follows = (is, may_put logs w v key seen rep inside follows.0, grown logs w new v (Put stamp key seen content dot) rep inside follows (lawful_put w v key seen content rep.lawful known) own refl refl (length-set w.known v (get_or w.known v [] ++ under key (write ∷ []))) here (λ u k other. known_other w v u key k (write ∷ []) (λ e _. other e)))
  where
    inside_known : v < length w.known
    inside_known = omega (arith, rep.size)

    write : Write
    write = write_of w v key seen content

    new : Knowledge
    new = after_put w v key (write_of w v key seen content)

    at : ShowsAt (log_at logs v).entries key (known_at w v key)
    at = shown logs w v key rep inside

    is : dot ≡ next_dot w v key
    is = next_is w v key (log_at logs v).entries dot inside_known rep.lawful rep.own at follows.1

    known : IsKnown (known_at w v key) seen
    known = known_seen logs w v key seen rep inside follows.0.knows

    learned_len : length (learns w v (under key (write_of w v key seen content ∷ []))) ≡ length w.known
    learned_len = length-set w.known v (get_or w.known v [] ++ under key (write_of w v key seen content ∷ []))

    own : KnowOwn (after_put w v key (write_of w v key seen content))
    own u p lu c e = elim (Contains-push_cases w.puts (record { key = key; write = write_of w v key seen content }) p c) [
      | inl old ↦ grows w v u (under key (write_of w v key seen content ∷ [])) p (rep.own u p (omega (arith, lu, learned_len)) old e)
      | inr same ↦ let at_one : v ≡ u = rep.distinct v u inside (omega (arith, rep.size, lu, learned_len)) (ap (λ (x : KeyedWrite). x.write.dot.vnode) same ∙ e) in
          subst (λ (a : ℕ). Contains (get_or (learns w v (under key (write_of w v key seen content ∷ []))) a []) p) at_one (subst (λ (xs : List KeyedWrite). Contains xs p) (sym (get_or-set_same w.known v (get_or w.known v [] ++ under key (write_of w v key seen content ∷ [])) [] inside_known)) (subst (λ (x : KeyedWrite). Contains (get_or w.known v [] ++ under key (write_of w v key seen content ∷ [])) x) same (Contains-push (get_or w.known v []) (record { key = key; write = write_of w v key seen content }))))
    ]

    here : (k : Key) → (some : List Write) × Brings k (Put stamp key seen content dot) some × (known_at (after_put w v key (write_of w v key seen content)) v k ≡ known_at w v k ++ some)
    here k = (cond (same_key key k) (write_of w v key seen content ∷ []) [], ap (λ (d : Dot). let x : Write = record { dot = d; content = content; seen = covers seen } in cond (same_key key k) (x ∷ []) []) (sym is), learns_more w v key (write_of w v key seen content ∷ []) inside_known k)

-- a copy is what its event left: the vnode's entry of a read
pub copy_step : (logs : List Log) (w : Knowledge) (v stamp : ℕ) (key : Key) → Represents logs w → v < length logs → TakesEntry (log_at logs v).entries → HasPlace w v × Represents (with_entry_at logs v (Read stamp key)) (after_copy w v key)
copy_step logs w v stamp key rep inside place = (
  subst (λ (n : ℕ). n < max_entries) (rep.accepted v inside) place,
  grown logs w (after_copy w v key) v (Read stamp key) rep inside place (lawful_copy w v key rep.lawful) rep.own refl refl refl (λ k. ([], refl, sym (append-nil (known_at w v k)))) (λ u k other. refl),
)

-- so is a part
pub part_step : (logs : List Log) (w : Knowledge) (v stamp : ℕ) (key : Key) (held : List Write) → Represents logs w → v < length logs → TakesEntry (log_at logs v).entries → HasPlace w v × Represents (with_entry_at logs v (Read stamp key)) (after_part w v key held)
part_step logs w v stamp key held rep inside place = (
  subst (λ (n : ℕ). n < max_entries) (rep.accepted v inside) place,
  grown logs w (after_part w v key held) v (Read stamp key) rep inside place (lawful_part w v key held rep.lawful) rep.own refl refl refl (λ k. ([], refl, sym (append-nil (known_at w v k)))) (λ u k other. refl),
)

pub restart_step : (logs : List Log) (w : Knowledge) (v stamp : ℕ) → Represents logs w → v < length logs → TakesEntry (log_at logs v).entries → HasPlace w v × Represents (with_entry_at logs v (Restart stamp)) (after_restart w v)
restart_step logs w v stamp rep inside place = (
  subst (λ (n : ℕ). n < max_entries) (rep.accepted v inside) place,
  grown logs w (after_restart w v) v (Restart stamp) rep inside place (lawful_restart w v rep.lawful) rep.own refl refl refl (λ k. ([], refl, sym (append-nil (known_at w v k)))) (λ u k other. refl),
)

-- a refused event changes nothing but what it left
pub refusal_step : (logs : List Log) (w : Knowledge) (r : VnodeFault) → Represents logs w → Represents logs (after_refusal w r)
refusal_step logs w r rep = record { lawful = lawful_refusal w r rep.lawful; own = rep.own; distinct = rep.distinct; size = rep.size; counts = rep.counts; ids = rep.ids; accepted = rep.accepted; legal = rep.legal; brings = rep.brings }

-- nor what a run chose, or nothing, left for later events
pub run_step : (logs : List Log) (w : Knowledge) (key : Key) (writes : List Write) (content : Option Content) → Represents logs w → Represents logs (after_run w key writes content)
run_step logs w key writes content rep = record { lawful = lawful_run w key writes content rep.lawful; own = rep.own; distinct = rep.distinct; size = rep.size; counts = rep.counts; ids = rep.ids; accepted = rep.accepted; legal = rep.legal; brings = rep.brings }

pub nothing_step : (logs : List Log) (w : Knowledge) → Represents logs w → Represents logs (after_nothing w)
nothing_step logs w rep = record { lawful = lawful_nothing w rep.lawful; own = rep.own; distinct = rep.distinct; size = rep.size; counts = rep.counts; ids = rep.ids; accepted = rep.accepted; legal = rep.legal; brings = rep.brings }

-- what was put and known stays a put, when something is left
pub were_put : (w : Knowledge) (message : ℕ) (key : Key) (writes : List Write) → IsLawful w → left_by w message ≡ Copied key writes → WerePut w key writes
were_put w message key writes lawful left x c = lawful.copied message key writes left x c

-- writes of a key that were put, of two lists
pub one_of : (w : Knowledge) (key : Key) (xs ys : List Write) → IsLawful w → WerePut w key xs → WerePut w key ys → (a b : Write) → Contains xs a → Contains ys b → a.dot ≡ b.dot → a ≡ b
one_of w key xs ys lawful pa pb a b ca cb d = one_write w key a b lawful (pa a ca) (pb b cb) d

pub together : (w : Knowledge) (key : Key) (xs ys : List Write) → WerePut w key xs → WerePut w key ys → WerePut w key (xs ++ ys)
together w key xs ys px py a c = elim (Contains-append_cases xs ys a c) [ inl x ↦ px a x | inr y ↦ py a y ]

-- two journals that show writes leave alike exactly where these look alike
alike : (a b : List Entry) (key : Key) (xs ys : List Write) → ShowsAt a key xs → ShowsAt b key ys → ((x y : Write) → Contains xs x → Contains ys y → x.dot ≡ y.dot → x ≡ y) → LeaveAlike a b key ↔ LookAlike xs ys
alike a b key xs ys sa sb one = (
  λ h. record {
    current = λ w. (
      λ c. let e = sym (h w.dot).0 ∙ (sa.siblings w.dot w.content).1 (w, c, refl, refl) in
          let r = (sb.siblings w.dot w.content).0 e in
          subst (IsCurrent ys) (sym (one w r.0 c.is_known r.1.is_known (sym r.2))) r.1,
      λ c. let e = (h w.dot).0 ∙ (sb.siblings w.dot w.content).1 (w, c, refl, refl) in
          let r = (sa.siblings w.dot w.content).0 e in
          subst (IsCurrent xs) (one r.0 w r.1.is_known c.is_known r.2) r.1,
    );
    context = λ d. (
      λ c. (sb.clock d).0 (sym (h d).1 ∙ (sa.clock d).1 c),
      λ c. (sa.clock d).0 ((h d).1 ∙ (sb.clock d).1 c),
    );
  },
  λ h d. (
    same_options (sibling_in a key d) (sibling_in b key d)
        (λ c e. let r = (sa.siblings d c).0 e in (sb.siblings d c).1 (r.0, (h.current r.0).0 r.1, r.2, r.3))
        (λ c e. let r = (sb.siblings d c).0 e in (sa.siblings d c).1 (r.0, (h.current r.0).1 r.1, r.2, r.3)),
    same_tests (known_in a key d) (known_in b key d)
        (λ t. (sb.clock d).1 ((h.context d).0 ((sa.clock d).0 t)))
        (λ t. (sa.clock d).1 ((h.context d).1 ((sb.clock d).0 t))),
  ),
)

pub may_deliver : (logs : List Log) (w : Knowledge) (v : ℕ) (key : Key) (state : State) (writes : List Write) → Represents logs w → v < length logs → Leaves (log_at logs v).entries key (λ s. TakesClock state.clock s) → TakesEntry (log_at logs v).entries → IsStateOf writes state → MayDeliver w v key writes
may_deliver logs w v key state writes rep inside r room is =
    let own = state_shown logs w v key r.0 rep inside r.1 in
    record {
      clock = (vnodes_together r.0.clock state.clock, (r.0.clock, state.clock, (own.clock, own.shows.clock), (is.clock, is.shows.clock), refl), r.2);
      journal = subst (λ (n : ℕ). n < max_entries) (rep.accepted v inside) room;
    }

-- An entry of a merge is the delivery of the writes that its state shows.
pub delivery_step : (logs : List Log) (w : Knowledge) (v stamp : ℕ) (key : Key) (from at : ℕ) (state : State) (writes : List Write) → Represents logs w → v < length logs → MayFollow (id_of w v) (log_at logs v).entries (Merge stamp key from at state) → WerePut w key writes → IsStateOf writes state
    → MayDeliver w v key writes
    × Represents (with_entry_at logs v (Merge stamp key from at state)) (after_delivery w v key writes)
    × (LeaveAlike (log_at logs v).entries ((log_at logs v).entries ++ Merge stamp key from at state ∷ []) key ↔ LookAlike (known_at w v key) (known_at w v key ++ writes))
delivery_step logs w v stamp key from at state writes rep inside follows put is =
    (may_deliver logs w v key state writes rep inside follows.state follows.place is, after, looks)
  where
    inside_known : v < length w.known
    inside_known = omega (arith, rep.size)

    unique : AreUnique writes
    unique a b ca cb d = one_of w key writes writes rep.lawful put put a b ca cb d

    brought : (k : Key) (b : Bool) → same_key key k ≡ b → MatchBool b (ShowsKnown state (cond b writes [])) (cond b writes [] ≡ [])
    brought k true e = shows_known writes state unique (none_itself w key writes rep.lawful put) is
    brought k false e = refl

    after : Represents (with_entry_at logs v (Merge stamp key from at state)) (after_delivery w v key writes)
    after = grown logs w (after_delivery w v key writes) v (Merge stamp key from at state) rep inside follows (lawful_delivery w v key writes rep.lawful put)
        (own_learns w (after_delivery w v key writes) v (under key writes) rep.own refl refl refl (length-set w.known v (get_or w.known v [] ++ under key writes)))
        refl refl (length-set w.known v (get_or w.known v [] ++ under key writes))
        (λ k. (cond (same_key key k) writes [], brings_it k (same_key key k) refl, learns_more w v key writes inside_known k))
        (λ u k other. known_other w v u key k writes (λ e _. other e))
      where
        brings_it : (k : Key) (b : Bool) → same_key key k ≡ b → MatchBool b (ShowsKnown state (cond b writes [])) (cond b writes [] ≡ [])
        brings_it k b e = brought k b e

    looks : LeaveAlike (log_at logs v).entries ((log_at logs v).entries ++ Merge stamp key from at state ∷ []) key ↔ LookAlike (known_at w v key) (known_at w v key ++ writes)
    looks = alike (log_at logs v).entries ((log_at logs v).entries ++ Merge stamp key from at state ∷ []) key (known_at w v key) (known_at w v key ++ writes) (shown logs w v key rep inside) shows_after
        (one_of w key (known_at w v key) (known_at w v key ++ writes) rep.lawful (known_put w v key rep.lawful) (together w key (known_at w v key) writes (known_put w v key rep.lawful) put))
      where
        shows_after : ShowsAt ((log_at logs v).entries ++ Merge stamp key from at state ∷ []) key (known_at w v key ++ writes)
        shows_after = subst (λ (l : Log). ShowsAt l.entries key (known_at w v key ++ writes)) (get_or-set_same logs v (with_entry (log_at logs v) (Merge stamp key from at state)) (record { vnode = 0; entries = [] }) inside)
            (subst (λ (ws : List Write). ShowsAt (log_at (with_entry_at logs v (Merge stamp key from at state)) v).entries key ws) (learned w v key writes inside_known)
            (shown (with_entry_at logs v (Merge stamp key from at state)) (after_delivery w v key writes) v key after (omega (arith, length-set logs v (with_entry (log_at logs v) (Merge stamp key from at state))))))

-- vnodes at which nothing happened know nothing
pub opened_represents : (ids : List ℕ) → AreDistinct ids → Represents (empty_logs ids) (opened ids)
opened_represents ids distinct = record {
  lawful = lawful_opened ids;
  own = λ v p lu c e. absurd (Contains-nil p c);
  distinct = λ u v lu lv e. distinct u v (omega (arith, lu, len)) (omega (arith, lv, len)) e;
  size = length-replicate (length ids) (let x : List KeyedWrite = [] in x) ∙ sym len;
  counts = length-replicate (length ids) 0 ∙ sym len;
  ids = λ v lv. ap (λ (l : Log). l.vnode) (log_is ids v (omega (arith, lv, len)));
  accepted = λ v lv. ap (λ (l : Log). length l.entries) (log_is ids v (omega (arith, lv, len))) ∙ sym (zero_at (length ids) v);
  legal = λ v lv. subst (λ (l : Log). IsJournal (get_or ids v 0) l.entries) (sym (log_is ids v (omega (arith, lv, len)))) (λ place e h. absurd (cc));
  brings = λ v key lv. subst (λ (l : Log). BringsAll key l.entries (known_at (opened ids) v key)) (sym (log_is ids v (omega (arith, lv, len)))) (subst (λ (ks : List KeyedWrite). BringsAll key [] (of_key key ks)) (sym (none_known (length ids) v)) nothing);
}
  where
    len : length (empty_logs ids) ≡ length ids
    len = length-map ids (λ (id : ℕ). let l : Log = record { vnode = id; entries = [] } in l)

    log_is : (xs : List ℕ) (v : ℕ) → v < length xs → log_at (empty_logs xs) v ≡ record { vnode = get_or xs v 0; entries = [] }
    log_is [] v lt = absurd (omega arith)
    log_is (x ∷ xs) zero lt = refl
    log_is (x ∷ xs) (suc v) lt = log_is xs v (omega arith)

    zero_at : (n v : ℕ) → get_or (replicate n (let z : ℕ = 0 in z)) v 0 ≡ 0
    zero_at zero v = refl
    zero_at (suc n) zero = refl
    zero_at (suc n) (suc v) = zero_at n v
