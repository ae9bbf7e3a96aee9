-- Parts of states of a world's writes: beside a vnode's own state each stands for its state, or lacks a content.
use Rattle.std.proofs.Common.{◌≡◌, ℕ, ◌<◌, ◌||◌, Bool, true, false, cond, List, [], ◌∷◌, ◌++◌, length, map, get_or, Option, Some, None, refl, sym, ap, subst, ◌∙◌}
use Rattle.std.specs.Prelude.{IsTrue, is_some, slice_set}
use Rattle.std.specs.List.{list_any}
use Rattle.std.proofs.lemmas.Bool.{both_ways}
use Rattle.std.proofs.lemmas.List.{get_or_default}
use Rattle.dvv.specs.declared.Dot.{Dot}
use Rattle.key_state.specs.declared.content.Content.{Content}
use Rattle.key_state.specs.declared.content.Key.{Key}
use Rattle.key_state.specs.declared.content.Sibling.{Sibling}
use Rattle.key_state.specs.Known.{Write, AreUnique}
use Rattle.key_state.specs.Parts.{Partial, summary_of, whole_of, lacks_some}
use Rattle.key_state.specs.State.{State, content_at, is_dot}
use Rattle.key_state.proofs.Exchanged.{whole_in_world, lacking_to, lacking_from}
use Rattle.journal.specs.Answers.{TellsChange}
use Rattle.journal.specs.Entry.{Merge}
use Rattle.journal.specs.Limits.{AcceptsMerge}
use Rattle.journal.specs.Logs.{Log, with_entry}
use Rattle.journal.specs.Replay.{IsReplay, Leaves}
use Rattle.journal.proofs.Unique.{one_replay}
use Rattle.world.specs.declared.event.PartMessage.{PartMessage}
use Rattle.world.specs.Appending.{MergesPart}
use Rattle.world.specs.Happening.{HasCurrent, HoldsLeftOut, LacksLeftOut}
use Rattle.world.specs.Knowledge.{Knowledge, known_at, IsStateOf, IsPartOf}
use Rattle.world.specs.Numbering.{IsLawful, WerePut}
use Rattle.world.specs.Represents.{log_at}
use Rattle.world.proofs.Causal.{known_put}
use Rattle.world.proofs.Equal.{whole_state}
use Rattle.world.proofs.Steps.{one_of, together}

-- a state of some writes has a sibling for each current one
current_at : (known : List Write) (state : State) (d : Dot) → IsStateOf known state → IsTrue (is_some (content_at state.siblings d)) → HasCurrent known d
current_at known state d is t = go (content_at state.siblings d) refl t
  where
    go : (o : Option Content) → content_at state.siblings d ≡ o → IsTrue (is_some o) → HasCurrent known d
    go (Some c) e h = let r = (is.shows.siblings d c).0 e in (r.0, r.1, r.2)
    go None e h = absurd (cc)

sibling_at : (known : List Write) (state : State) (d : Dot) → IsStateOf known state → HasCurrent known d → (c : Content) × (content_at state.siblings d ≡ Some c)
sibling_at known state d is h = (h.0.content, (is.shows.siblings d h.0.content).1 (h.0, h.1, h.2, refl))

some_at : (known : List Write) (state : State) (d : Dot) → IsStateOf known state → HasCurrent known d → is_some (content_at state.siblings d) ≡ true
some_at known state d is h = ap (λ (o : Option Content). is_some o) (sibling_at known state d is h).1

-- a summary holds the dots of the siblings
held_is : (xs : List Sibling) (d : Dot) → list_any (λ (e : Dot). is_dot e d) (map (λ (s : Sibling). s.dot) xs) ≡ is_some (content_at xs d)
held_is [] d = refl
held_is (x ∷ xs) d = go (is_dot x.dot d) (held_is xs d)
  where
    go : (b : Bool) → list_any (λ (e : Dot). is_dot e d) (map (λ (s : Sibling). s.dot) xs) ≡ is_some (content_at xs d) → (b || list_any (λ (e : Dot). is_dot e d) (map (λ (s : Sibling). s.dot) xs)) ≡ is_some (cond b (Some x.content) (content_at xs d))
    go true rest = refl
    go false rest = rest

-- a part that lacks a content beside a state of known writes lacks the one of a dot that is current there no more
pub lacks_there : (known writes held : List Write) (own : State) (part : Partial) → IsStateOf known own → IsPartOf writes held part → lacks_some own part ≡ true → LacksLeftOut known writes held
lacks_there known writes held own part is (state, told, shows, tells, is_part) t =
    let r = lacking_to own.siblings (summary_of told) state.siblings (subst (λ (p : Partial). lacks_some own p ≡ true) is_part t) in (
      r.0,
      (current_at writes state r.0 shows r.2, current_at held told r.0 tells (sym (held_is told.siblings r.0) ∙ r.1)),
      λ h. let e = sibling_at known own r.0 is h in let clash : None ≡ Some e.0 = sym r.3 ∙ e.1 in cc,
    )

pub lacks_so : (known writes held : List Write) (own : State) (part : Partial) → IsStateOf known own → IsPartOf writes held part → LacksLeftOut known writes held → lacks_some own part ≡ true
lacks_so known writes held own part is (state, told, shows, tells, is_part) (d, out, none) =
    subst (λ (p : Partial). lacks_some own p ≡ true) (sym is_part)
    (lacking_from own.siblings (summary_of told) state.siblings d (held_is told.siblings d ∙ some_at held told d tells out.1) (some_at writes state d shows out.0) (go (content_at own.siblings d) refl))
  where
    go : (o : Option Content) → content_at own.siblings d ≡ o → content_at own.siblings d ≡ None
    go None e = e
    go (Some c) e = absurd (none (let r = (is.shows.siblings d c).0 e in (r.0, r.1, r.2)))

-- one that lacks none has each that was left out
pub holds_there : (known writes held : List Write) (own : State) (part : Partial) → IsStateOf known own → IsPartOf writes held part → lacks_some own part ≡ false → HoldsLeftOut known writes held
holds_there known writes held own part is (state, told, shows, tells, is_part) none d out = go (content_at own.siblings d) refl
  where
    go : (o : Option Content) → content_at own.siblings d ≡ o → HasCurrent known d
    go (Some c) e = let r = (is.shows.siblings d c).0 e in (r.0, r.1, r.2)
    go None e = absurd (both_ways _ (subst (λ (p : Partial). lacks_some own p ≡ false) is_part none) (lacking_from own.siblings (summary_of told) state.siblings d (held_is told.siblings d ∙ some_at held told d tells out.1) (some_at writes state d shows out.0) e))

-- and beside it the part stands for the state of the writes, since an identifier of a key stands for one write
pub stands_for : (w : Knowledge) (v : ℕ) (key : Key) (writes held : List Write) (own : State) (part : Partial) → IsLawful w → WerePut w key writes → IsStateOf (known_at w v key) own → IsPartOf writes held part → lacks_some own part ≡ false → IsStateOf writes (whole_of part own)
stands_for w v key writes held own part lawful put is (state, told, shows, tells, is_part) none =
    subst (IsStateOf writes) (sym (ap (λ (p : Partial). whole_of p own) is_part ∙ whole_in_world (known_at w v key) writes own state (summary_of told) (whole_state writes state shows) is.shows shows.shows unique (subst (λ (p : Partial). lacks_some own p ≡ false) is_part none))) shows
  where
    all : WerePut w key (known_at w v key ++ writes)
    all = together w key (known_at w v key) writes (known_put w v key lawful) put

    unique : AreUnique (known_at w v key ++ writes)
    unique a b ca cb d = one_of w key (known_at w v key ++ writes) (known_at w v key ++ writes) lawful all all a b ca cb d

-- what a vnode merged of a part is merged at its index
pub part_merged : (logs : List Log) (at stamp : ℕ) (x new : Log) (message : PartMessage) (changed : Bool) → at < length logs → x ≡ get_or logs at x
    → Leaves x.entries message.key (λ own. lacks_some own message.part ≡ false)
    → Leaves x.entries message.key (λ own. TellsChange x.entries (Merge stamp message.key message.from message.at (whole_of message.part own)) message.key changed)
    → Leaves x.entries message.key (λ own. new ≡ with_entry x (Merge stamp message.key message.from message.at (whole_of message.part own)))
    → Leaves x.entries message.key (λ own. AcceptsMerge x.entries message.key (whole_of message.part own))
    → (own : State) × MergesPart logs (slice_set logs at new) at stamp message changed own
part_merged logs at stamp x new message changed inside there (own, replay, none) (a, ra, tells) (b, rb, entry) (c, rc, accepts) = (
  own,
  record {
    own_is = subst (λ (l : Log). IsReplay l.entries message.key own) e replay;
    held = none;
    entry = record {
      entries = ap (slice_set logs at) (subst (λ (s : State). new ≡ with_entry x (Merge stamp message.key message.from message.at (whole_of message.part s))) (one_replay _ message.key b own rb replay) entry
          ∙ ap (λ (l : Log). with_entry l (Merge stamp message.key message.from message.at (whole_of message.part own))) e);
      follows = subst (λ (l : Log). AcceptsMerge l.entries message.key (whole_of message.part own)) e (subst (λ (s : State). AcceptsMerge x.entries message.key (whole_of message.part s)) (one_replay _ message.key c own rc replay) accepts);
    };
    tells = subst (λ (l : Log). TellsChange l.entries (Merge stamp message.key message.from message.at (whole_of message.part own)) message.key changed) e
        (subst (λ (s : State). TellsChange x.entries (Merge stamp message.key message.from message.at (whole_of message.part s)) message.key changed) (one_replay _ message.key a own ra replay) tells);
  },
)
  where
    e : x ≡ log_at logs at
    e = there ∙ get_or_default logs at x (record { vnode = 0; entries = [] }) inside
