-- One delivery more, and one sender more; and none where all states are alike.
use Rattle.std.proofs.Common.{◌≡◌, ℕ, ◌+◌, ◌<◌, List, [], ◌∷◌, ◌++◌, length, length-append, take, get_or, map, Some, refl, ap, sym, ◌∙◌, subst, arith, Result, Ok, Err, count_by, is_ok, cond, Bool, true, false}
use Rattle.std.specs.List.{All, AllByRecursion, list_any, filter, flat_map}
use Rattle.std.specs.Prelude.{not, ◌&&◌, ◌||◌, is_some}
use Rattle.std.proofs.lemmas.List.{map-append, take_more, append-nil}
use Rattle.std.proofs.lemmas.List.Elements.{filter-append, recursion_from_All}
use Rattle.std.proofs.lemmas.Grind.{flat_map-append}
use Rattle.std.proofs.lemmas.List.Sums.{sum_by-append}
use Rattle.key_state.specs.declared.content.Key.{Key}
use Rattle.key_state.specs.declared.content.Sibling.{Sibling}
use Rattle.key_state.specs.State.{State, content_at, is_dot, has_dropped, is_within, is_changed_by}
use Rattle.key_state.specs.Parts.{summary_of, Summarized}
use Rattle.key_state.proofs.Siblings.{is_dot-same}
use Rattle.key_state.proofs.Same.{within_to}
use Rattle.dvv.specs.declared.Dot.{Dot}
use Rattle.dvv.specs.Clock.{IsClock, covers}
use Rattle.peers.specs.declared.peers.Answer.{Answer}
use Rattle.peers.specs.declared.fault.PeerFault.{PeerFault}
use Rattle.peers.specs.Calls.{Call, MergeAt, Made}
use Rattle.peers.proofs.CallLemmas.{made_append}
use Rattle.repair.specs.Repairs.{Delivery, index_of, deliveries_of, deliveries, tries}

tries_append : (key : Key) (ds es : List Delivery) (backs more : List (Result Bool PeerFault)) → length backs ≡ length ds → tries key (ds ++ es) (backs ++ more) ≡ tries key ds backs ++ tries key es more
tries_append key [] es [] more h = refl
tries_append key [] es (b ∷ backs) more h = absurd (omega arith)
tries_append key (d ∷ ds) es [] more h = absurd (omega arith)
tries_append key (d ∷ ds) es (b ∷ backs) more h = ap (λ c. MergeAt d.receiver key d.answer.from d.answer.at d.answer.state b ∷ c) (tries_append key ds es backs more (omega arith))

count_append : (backs more : List (Result Bool PeerFault)) → count_by is_ok (backs ++ more) ≡ count_by is_ok backs + count_by is_ok more
count_append backs more = sum_by-append (λ b. cond (is_ok b) 1 0) backs more

-- what was tried so far: deliveries, what came back and how many were taken
pub record Tried {S : Type 0} (happens : S → Call → S → Type 0) (old new : S) (key : Key) (ds : List Delivery) (delivered : ℕ) : Type 0 where
  pub backs : List (Result Bool PeerFault)
  pub made : Made happens old (tries key ds backs) new
  pub each : length backs ≡ length ds
  pub taken : delivered ≡ count_by is_ok backs

pub tried_more : {S : Type 0} (happens : S → Call → S → Type 0) (old mid new : S) (key : Key) (ds es : List Delivery) (n m : ℕ) → Tried happens old mid key ds n → Tried happens mid new key es m → Tried happens old new key (ds ++ es) (n + m)
tried_more happens old mid new key ds es n m h k = record {
  backs = h.backs ++ k.backs;
  made = subst (λ calls. Made happens old calls new) (sym (tries_append key ds es h.backs k.backs h.each)) (made_append happens old mid new (tries key ds h.backs) (tries key es k.backs) h.made k.made);
  each = simp length-append (let a = h.each in let b = k.each in omega arith);
  taken = let a = h.taken in let b = k.taken in let c = count_append h.backs k.backs in omega arith;
}

pub tried_one : {S : Type 0} (happens : S → Call → S → Type 0) (old new : S) (key : Key) (d : Delivery) (back : Result Bool PeerFault) → happens old (MergeAt d.receiver key d.answer.from d.answer.at d.answer.state back) new
    → Tried happens old new key (d ∷ []) (cond (is_ok back) 1 0)
tried_one happens old new key d (Ok x) h = record { backs = Ok x ∷ []; made = (new, h, refl); each = refl; taken = refl }
tried_one happens old new key d (Err e) h = record { backs = Err e ∷ []; made = (new, h, refl); each = refl; taken = refl }

pub tried_none : {S : Type 0} (happens : S → Call → S → Type 0) (s : S) (key : Key) → Tried happens s s key [] 0
tried_none happens s key = record { backs = []; made = refl; each = refl; taken = refl }

-- the deliveries to one receiver more
pub deliveries_more : (answers : List Answer) (i : ℕ) (receiver sender : Answer) → i < length answers → receiver ≡ get_or answers i receiver
    → deliveries_of (take (i + 1) answers) sender ≡ deliveries_of (take i answers) sender ++ cond (is_changed_by receiver.state sender.state) ((record { receiver = index_of receiver.from; answer = sender }) ∷ []) []
deliveries_more answers i receiver sender lt is =
    ap (λ l. deliveries_of l sender) (take_more answers i receiver lt ∙ ap (λ r. take i answers ++ r ∷ []) (sym is))
    ∙ ap (map {B = Delivery} (λ r. record { receiver = index_of r.from; answer = sender })) (filter-append (λ r. is_changed_by r.state sender.state) (take i answers) (receiver ∷ []))
    ∙ map-append {B = Delivery} (λ r. record { receiver = index_of r.from; answer = sender }) (filter (λ r. is_changed_by r.state sender.state) (take i answers)) (filter (λ r. is_changed_by r.state sender.state) (receiver ∷ []))
    ∙ ap (λ l. deliveries_of (take i answers) sender ++ l) (one (is_changed_by receiver.state sender.state))
  where
    one : (b : Bool) → map {B = Delivery} (λ (r : Answer). record { receiver = index_of r.from; answer = sender }) (cond b (receiver ∷ []) []) ≡ cond b ((record { receiver = index_of receiver.from; answer = sender }) ∷ []) []
    one true = refl
    one false = refl

-- the deliveries of one sender more
pub senders_more : (answers : List Answer) (i : ℕ) (sender : Answer) → i < length answers → sender ≡ get_or answers i sender
    → flat_map (deliveries_of answers) (take (i + 1) answers) ≡ flat_map (deliveries_of answers) (take i answers) ++ deliveries_of answers sender
senders_more answers i sender lt is =
    ap (flat_map (deliveries_of answers)) (take_more answers i sender lt ∙ ap (λ r. take i answers ++ r ∷ []) (sym is))
    ∙ flat_map-append (deliveries_of answers) (take i answers) (sender ∷ []) ∙ ap (λ l. flat_map (deliveries_of answers) (take i answers) ++ l) (append-nil (deliveries_of answers sender))

module _ {S : Type 0} (happens : S → Call → S → Type 0) (start now next : S) (key : Key) (answers : List Answer) (sender : Answer) (i : ℕ) (receiver : Answer) (delivered count : ℕ)
    (lt : i < length answers) (is : receiver ≡ get_or answers i receiver) (h : Tried happens start now key (deliveries_of (take i answers) sender) delivered) where
  one_to : Delivery
  one_to = record { receiver = index_of receiver.from; answer = sender }

  longer : (b : Bool) → is_changed_by receiver.state sender.state ≡ b → deliveries_of (take i answers) sender ++ cond b (one_to ∷ []) [] ≡ deliveries_of (take (i + 1) answers) sender
  unfolding one_to
  longer b e = ap (λ x. deliveries_of (take i answers) sender ++ cond x ((record { receiver = index_of receiver.from; answer = sender }) ∷ []) []) (sym e) ∙ sym (deliveries_more answers i receiver sender lt is)

  pub was_tried : (back : Result Bool PeerFault) → is_changed_by receiver.state sender.state ≡ true → happens now (MergeAt (index_of receiver.from) key sender.from sender.at sender.state back) next
      → delivered + cond (is_ok back) 1 0 ≡ count → Tried happens start next key (deliveries_of (take (i + 1) answers) sender) count
  unfolding one_to
  was_tried back changed made counted =
      subst (λ ds. Tried happens start next key ds count) (longer true changed)
      (subst (Tried happens start next key (deliveries_of (take i answers) sender ++ one_to ∷ [])) counted
      (tried_more happens start now next key (deliveries_of (take i answers) sender) (one_to ∷ []) delivered (cond (is_ok back) 1 0) h (tried_one happens now next key one_to back made)))

  pub was_passed : is_changed_by receiver.state sender.state ≡ false → now ≡ next → delivered ≡ count → Tried happens start next key (deliveries_of (take (i + 1) answers) sender) count
  was_passed kept same counted =
      subst (λ ds. Tried happens start next key ds count) (sym (append-nil (deliveries_of (take i answers) sender)) ∙ longer false kept)
      (subst (λ s. Tried happens start s key (deliveries_of (take i answers) sender) count) same (subst (Tried happens start now key (deliveries_of (take i answers) sender)) counted h))

-- the dots of siblings
abbrev dots_of : List Sibling → List Dot
dots_of = map (λ (s : Sibling). s.dot)

-- each dot of some siblings is held by siblings of the same dots
held_each : (own others : List Sibling) → dots_of own ≡ dots_of others → AllByRecursion (λ s. is_some (content_at others s.dot) ≡ true) own
held_each [] others same = tt
held_each (x ∷ xs) [] same = absurd (cc)
held_each (x ∷ xs) (y ∷ ys) same =
    let heads : x.dot ≡ y.dot = cc in
    let tails : dots_of xs ≡ dots_of ys = cc in
    (rw (is_dot-same y.dot x.dot (sym heads)) refl, later xs (held_each xs ys tails))
  where
    later : (zs : List Sibling) → AllByRecursion (λ s. is_some (content_at ys s.dot) ≡ true) zs → AllByRecursion (λ s. is_some (content_at (y ∷ ys) s.dot) ≡ true) zs
    later [] each = tt
    later (z ∷ zs) each = (go (is_dot y.dot z.dot), later zs each.1)
      where
        go : (b : Bool) → is_some (cond b (Some y.content) (content_at ys z.dot)) ≡ true
        go true = refl
        go false = each.0

-- a state of the same dots and the same clock changes nothing
alike_unchanged : (own other : State) → IsClock other.clock → summary_of own ≡ summary_of other → is_changed_by own other ≡ false
alike_unchanged own other good same =
    rw (ap (is_within other.clock) clocks ∙ within_to other.clock other.clock good (λ d h. h)) (none own.siblings (held_each own.siblings other.siblings (ap (λ (s : Summarized). s.dots) same)))
  where
    clocks : own.clock ≡ other.clock
    clocks = ap (λ (s : Summarized). s.clock) same

    held : (covered found : Bool) → found ≡ true → (covered && not found) ≡ false
    held true found is = rw is refl
    held false found is = refl

    none : (xs : List Sibling) → AllByRecursion (λ s. is_some (content_at other.siblings s.dot) ≡ true) xs → list_any (λ s. has_dropped other s.dot) xs ≡ false
    none [] each = refl
    none (x ∷ xs) each = ap (λ b. b || list_any (λ (s : Sibling). has_dropped other s.dot) xs) (held (covers other.clock x.dot) (is_some (content_at other.siblings x.dot)) each.0) ∙ none xs each.1

-- where each other answered state has the dots and the clock of the first one, nothing is delivered
pub none_delivered : (answers : List Answer) (first : Answer) (others : List Answer) → answers ≡ first ∷ others → IsClock first.state.clock → All (λ a. summary_of a.state ≡ summary_of first.state) others → deliveries answers ≡ []
none_delivered answers first others is good same = senders answers alike
  where
    alike : AllByRecursion (λ a. summary_of a.state ≡ summary_of first.state) answers
    alike = rw is (refl, recursion_from_All (λ a. summary_of a.state ≡ summary_of first.state) others same)

    receivers : (sender : Answer) → summary_of sender.state ≡ summary_of first.state → (rs : List Answer) → AllByRecursion (λ a. summary_of a.state ≡ summary_of first.state) rs → deliveries_of rs sender ≡ []
    receivers sender is [] each = refl
    receivers sender is (r ∷ rs) each =
        rw (alike_unchanged r.state sender.state (subst IsClock (ap (λ (s : Summarized). s.clock) (sym is)) good) (each.0 ∙ sym is)) (receivers sender is rs each.1)

    senders : (ss : List Answer) → AllByRecursion (λ a. summary_of a.state ≡ summary_of first.state) ss → flat_map (deliveries_of answers) ss ≡ []
    senders [] each = refl
    senders (s ∷ ss) each = rw (receivers s each.0 answers alike, senders ss each.1) refl
