-- Worked rows, and wrong answers that are refused.
use Rattle.std.proofs.Common.{◌≡◌, ℕ, ◌+◌, ◌<◌, ◌≤◌, true, List, [], ◌∷◌, ◌++◌, length, drop, get_or, length-append, ap, ◌∙◌, sym, subst, refl, arith, inl, inr, Option, Some, None, Result, Ok, Err}
use Rattle.std.specs.List.{AllZip, Contains}
use Rattle.std.proofs.lemmas.List.Elements.{Contains-append_right}
use Rattle.bpf_image.specs.declared.image.ImageKind.{ImageKind}
use Rattle.bpf_verifier.specs.Program.{Program}
use Rattle.dvv.specs.declared.Dot.{Dot}
use Rattle.key_state.specs.declared.content.Content.{Content}
use Rattle.key_state.specs.declared.content.Key.{Key}
use Rattle.key_state.specs.Known.{Write, current_among}
use Rattle.key_state.specs.State.{State, content_at}
use Rattle.hook_registry.specs.declared.fault.NotSeen.{NotSeen}
use Rattle.journal.specs.Brought.{BringsAll, all_writes}
use Rattle.journal.specs.Logs.{Log}
use Rattle.journal.specs.Replay.{known_in}
use Rattle.vnode.specs.declared.fault.PartFault.{PartFault}
use Rattle.cluster_stamps.specs.Rule.{call_of, seen}
use Rattle.cluster_stamps.specs.declared.request.Reply.TheVariants as reply
use Rattle.cluster_stamps.specs.declared.request.Request.{Request}
use Rattle.cluster_stamps.specs.declared.request.Request.TheVariants as request
use Rattle.cluster_stamps.specs.declared.view.News.TheVariants as news
use Rattle.cluster_stamps.specs.declared.view.Size.{Size}
use Rattle.cluster_stamps.specs.declared.view.Told.{Told}
use Rattle.cluster_stamps.specs.declared.view.View.{View}
use Rattle.cluster_vnode.specs.Gathers.{Stands}
use Rattle.ring.specs.Places.{PlacementView}
use Rattle.server_store.specs.Calls.{coordinator, list, the_others}
use Rattle.server_store.specs.View.{StoreView}
use Rattle.server_one_thread.specs.Passes.{Passing}
use Rattle.server_one_thread.specs.Reads.{ShowsCurrent}
use Rattle.server_receipts.specs.Receipts.{AreBehind, IsCurrentBy, IsResolvedBy, IsStoredBy, KnowAt, ReadAt, all_asked, answered, front_of, knows, may_not, nobody, refused, silent, up_to}

-- ---- rows

-- three vnodes from 256 on, where every key's place is set to 1
abbrev three : Size
three = record { first = 256; vnodes = 3; passes = 1 }

abbrev placement : ℕ → PlacementView
placement copies = record { vnodes = 3; copies = copies; first = Some 1 }

module _ {H : Type 0} (pass : View) (hooks : H) (logs : List Log) (key : Key) where
  abbrev store : ℕ → StoreView Passing H
  store copies = record { peers = record { size = three; pass = pass; failures = 0; origin = 0 }; hooks = hooks; listed = []; placement = placement copies; noted = [] }

  -- a read of two vnodes: the list of two copies is 1 and 2, whose identifiers are 257 and 258
  module _ (one two : State) where
    abbrev first_read : Told
    first_read = call_of 257 4 9 (request.Read key) (Ok (reply.State one))

    abbrev second_read : Told
    second_read = call_of 258 7 11 (request.Read key) (Ok (reply.State two))

    read_of_two : (up : Stands logs first_read) (there : Stands logs second_read)
        → ReadAt three logs key (list (store 2) key) (first_read ∷ second_read ∷ []) (front_of logs first_read up ∷ front_of logs second_read there ∷ [])
    read_of_two up there = answered 1 (2 ∷ []) first_read (second_read ∷ []) (front_of logs second_read there ∷ []) one (refl, refl) up (answered 2 [] second_read [] [] two (refl, refl) there all_asked)

    -- where the second refused, one was read
    refused_by_one : (why : PartFault) (up : Stands logs first_read)
        → ReadAt three logs key (list (store 2) key) (first_read ∷ call_of 258 7 11 (request.Read key) (Err why) ∷ []) (front_of logs first_read up ∷ [])
    refused_by_one why up = answered 1 (2 ∷ []) first_read (call_of 258 7 11 (request.Read key) (Err why) ∷ []) [] one (refl, refl) up (refused 2 [] (call_of 258 7 11 (request.Read key) (Err why)) [] [] why (refl, refl) all_asked)

  module _ (seen : List Dot) (content : Content) (dot : Dot) (state : State) where
    abbrev put : Told
    put = call_of 258 7 20 (request.Put key seen content) (Ok (reply.Dot dot))

    abbrev own_read : Told
    own_read = call_of 258 8 21 (request.Read key) (Ok (reply.State state))

    abbrev merge : Told
    merge = call_of 256 3 22 (request.Merge key 258 8 state) (Ok (reply.Changed true))

    -- a write of two of three: the coordinator is the second of the list of three copies, 2; the others are 1, whose merge was lost, and 0
    put_of_two : (up : Stands logs put) (there : Stands logs merge) → known_in (up_to logs put up) key dot ≡ true → known_in (up_to logs merge there) key dot ≡ true
        → KnowAt three logs key dot (put ∷ own_read ∷ merge ∷ []) (coordinator (store 3) key 1 ∷ the_others (store 3) key 1) 2
    put_of_two up there known merged = knows 2 (1 ∷ 0 ∷ []) 1 put (0, omega arith, refl) refl up known (may_not 1 (0 ∷ []) 1 (knows 0 [] 0 merge (2, omega arith, refl) refl there merged nobody))

    -- a write of one copy: the coordinator is the only one of the list
    put_of_one : (up : Stands logs put) → known_in (up_to logs put up) key dot ≡ true → KnowAt three logs key dot (put ∷ []) (2 ∷ the_others (store 1) key 0) 1
    put_of_one up known = knows 2 [] 0 put (0, omega arith, refl) refl up known nobody

-- ---- wrong answers

none_before : {A : Type 0} (before : List A) (x : A) (rest : List A) → [] ≡ before ++ x ∷ rest → ⊥
none_before [] x rest e = cc
none_before (y ∷ before) x rest e = cc

only_one : {A : Type 0} (y : A) (before : List A) (x : A) (rest : List A) → y ∷ [] ≡ before ++ x ∷ rest → x ≡ y
only_one y [] x rest e = sym (ap (λ l. get_or l 0 y) e)
only_one y (z ∷ before) x rest e = absurd (none_before before x rest (ap (drop 1) e))

module _ (logs : List Log) (key : Key) where
  few_fronts : (size : Size) (vnodes : List ℕ) (own : List Told) (fronts : List Log) → ReadAt size logs key vnodes own fronts → length fronts ≤ length own
  few_fronts size vnodes own fronts all_asked = omega arith
  few_fronts size vnodes own fronts (answered i more t rest journals state told up read) = let h = few_fronts size more rest journals read in omega (arith, h)
  few_fronts size vnodes own fronts (refused i more t rest journals why told read) = let h = few_fronts size more rest journals read in omega (arith, h)
  few_fronts size vnodes own fronts (silent i more rest journals read) = few_fronts size more rest journals read

  module _ {H : Type 0} (finds : H → List ℕ → ImageKind → Result (Option Program) NotSeen → H → Type 0) (old new : StoreView Passing H) (at : ℕ) where
    -- two were asked for, and one receipt was had
    one_of_two : (t : Told) (state : State) → IsCurrentBy finds logs old new key 2 at (t ∷ []) state → ⊥
    one_of_two t state h =
        let few = few_fronts old.peers.size (list old key) h.asked h.fronts h.theirs in
        let enough = h.enough in
        let parts : 1 ≡ length h.asked + length (h.repairs ++ h.last) = ap length h.parts ∙ length-append h.asked (h.repairs ++ h.last) in
        omega (arith, few, enough, parts)

    -- what is shown lacks a write that is current among those of the fronts: as where the state of one of two vnodes is answered
    lacks_one : (fronts : List Log) (state : State) (knowns : List (List Write)) (d : Dot) (content : Content) → AllZip (λ log known. BringsAll key log.entries known) fronts knowns
        → current_among (all_writes knowns) d ≡ Some content → content_at state.siblings d ≡ None → ShowsCurrent key fronts state → ⊥
    lacks_one fronts state knowns d content bring current lacks shows = let e : None ≡ Some content = sym lacks ∙ (shows knowns bring).siblings d ∙ current in cc

    -- the resolver wrote nothing
    unwritten : (merged state : State) → IsResolvedBy finds logs old new key at merged [] state → ⊥
    unwritten merged state h = none_before h.before h.put (h.read ∷ []) h.parts

    -- what is answered isn't the merge of what came, and nothing was put
    put_nowhere : (r : ℕ) (own : List Told) (state : State) → ((t : Told) (seen : List Dot) (content : Content) (dot : Dot) → Contains own t → t.news ≡ news.Call (request.Put key seen content) (Ok (reply.Dot dot)) → ⊥)
        → (h : IsCurrentBy finds logs old new key r at own state) → (state ≡ h.merged → ⊥) → ⊥
    put_nowhere r own state none h other = elim h.answer [
      | inl is ↦ other is
      | inr by ↦
          (let last : Contains h.last by.put = subst (λ (ts : List Told). Contains ts by.put) (sym by.parts) (Contains-append_right by.before (by.put ∷ by.read ∷ []) by.put (0, omega arith, refl)) in
          let there : Contains own by.put = subst (λ (ts : List Told). Contains ts by.put) (sym h.parts) (Contains-append_right h.asked (h.repairs ++ h.last) by.put (Contains-append_right h.repairs h.last by.put last)) in
          none by.put h.merged.clock by.content by.dot there by.written.1)
    ]

    -- what the resolver put was not read behind it
    not_read : (t : Told) (merged state : State) → IsResolvedBy finds logs old new key at merged (t ∷ []) state → ⊥
    not_read t merged state h =
        let parts : 1 ≡ length h.before + 2 = ap length h.parts ∙ length-append h.before (h.put ∷ h.read ∷ []) in
        omega (arith, parts)

    -- the dot of another put
    another_dot : (vnode place stamp : ℕ) (asked : Request) (dot other : Dot) (seen : List Dot) (w : ℕ) → (dot ≡ other → ⊥)
        → IsStoredBy logs old key seen w at (call_of vnode place stamp asked (Ok (reply.Dot other)) ∷ []) dot → ⊥
    another_dot vnode place stamp asked dot other seen w apart h =
        let t = call_of vnode place stamp asked (Ok (reply.Dot other)) in
        let put : news.Call asked (Ok (reply.Dot other)) ≡ news.Call (request.Put key seen h.content) (Ok (reply.Dot dot)) = sym (ap (λ (u : Told). u.news) (only_one t h.before h.put h.behind h.parts)) ∙ h.written.1 in
        apart (cc)

  -- a front before the receipt, as one without the pass's own entry of before
  earlier_front : (size : Size) (i : ℕ) (t : Told) (f : Log) → (length f.entries ≡ t.at → ⊥) → ReadAt size logs key (i ∷ []) (t ∷ []) (f ∷ []) → ⊥
  earlier_front size i t f apart read = at (i ∷ []) (t ∷ []) (f ∷ []) read refl refl
    where
      at : (vnodes : List ℕ) (own : List Told) (fronts : List Log) → ReadAt size logs key vnodes own fronts → own ≡ t ∷ [] → fronts ≡ f ∷ [] → ⊥
      at vnodes own fronts all_asked e k = cc
      at vnodes own fronts (answered j more u rest journals state told up read) e k =
          let one : front_of logs u up ≡ f = ap (λ l. get_or l 0 f) k in
          let same : u ≡ t = ap (λ l. get_or l 0 t) e in
          apart (sym (ap (λ (l : Log). length l.entries) one) ∙ up.3.3 ∙ ap (λ (v : Told). v.at) same)
      at vnodes own fronts (refused j more u rest journals why told read) e k =
          let none : rest ≡ [] = ap (drop 1) e in
          let few = few_fronts size more rest journals read in
          omega (arith, few, ap length none, ap length k)
      at vnodes own fronts (silent j more rest journals read) e k = at more rest journals read e k

-- a call of which the vnode tells that its journal had no entry of a write that the pass had been told of before
stale : (before : List Told) (write t : Told) → Contains before write → write.vnode ≡ t.vnode → t.at < seen write → AreBehind before (t ∷ []) → ⊥
stale before write t told same early behind = let h = behind.0.within write told same in omega (arith, h, early)

-- a call whose stamp is not above that of one that the pass had been told of before, at whatever vnode
not_above : (before : List Told) (earlier t : Told) → Contains before earlier → t.stamp ≤ earlier.stamp → AreBehind before (t ∷ []) → ⊥
not_above before earlier t told low behind = let h = behind.0.above earlier told in omega (arith, h, low)
