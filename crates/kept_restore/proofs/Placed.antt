-- What was acknowledged stays known where a vnode takes over records that were placed.
use Rattle.std.proofs.Common.{◌≡◌, ℕ, ◌∙◌, ◌++◌, ◌||◌, ◌&&◌, Bool, true, false, List, [], ◌∷◌, refl, sym, ap, subst}
use Rattle.std.specs.Prelude.{Contains}
use Rattle.std.specs.List.{list_any}
use Rattle.std.proofs.lemmas.Bool.{and_from, and_parts}
use Rattle.dvv.specs.declared.Dot.{Dot}
use Rattle.dvv.specs.Clock.{covers}
use Rattle.key_state.specs.Limits.{IsKey}
use Rattle.key_state.specs.declared.content.Content.{Content}
use Rattle.key_state.specs.declared.content.Key.{Key}
use Rattle.key_state.specs.State.{State}
use Rattle.journal.specs.Entry.{Entry, Put}
use Rattle.journal.specs.Keys.{same_key}
use Rattle.journal.specs.Replay.{IsReplay, Knows, LeaveAlike, known_in}
use Rattle.journal.proofs.Dots.{true_covers}
use Rattle.journal.proofs.Keyed.{one_key, same_itself}
use Rattle.kept_file.specs.Placed.{IsPlacedAt, stands}
use Rattle.kept_file.specs.declared.file.KeptFile.{KeptFile}
use Rattle.record_codec.specs.declared.record.Record.{Record}
use Rattle.ring.specs.Places.{PlacementView}
use Rattle.world.specs.Records.{AreMergesOf, nothing, one_more}
use Rattle.world.proofs.Lists.{Contains-first, Contains-later}
use Rattle.kept_restore.proofs.Acknowledged.{any_from, known_front, put_known}

-- ---- what records tell

-- a record tells of a dot of a key: it is the key's, and its clock counts the dot
abbrev record_tells : Key → Dot → Record → Bool
record_tells k d r = same_key r.key k && covers r.state.clock d

-- merges tell of what their records do
merges_tell : {es : List Entry} {records : List Record} (k : Key) (d : Dot) → AreMergesOf es records → known_in es k d ≡ list_any (record_tells k d) records
merges_tell k d nothing = refl
merges_tell k d (one_more stamp r es records merges) = ap (λ (b : Bool). (same_key r.key k && covers r.state.clock d) || b) (merges_tell k d merges)

-- where some element passes a test, there is one
some_of : {X : Type 0} (test : X → Bool) (xs : List X) → list_any test xs ≡ true → (x : X) × Contains xs x × (test x ≡ true)
some_of test [] is = absurd (let e : false ≡ true = is in cc)
some_of {X} test (x ∷ xs) is = by_test (test x) refl is (some_of test xs)
  where
    by_test : (b : Bool) → test x ≡ b → (b || list_any test xs) ≡ true → (list_any test xs ≡ true → (y : X) × Contains xs y × (test y ≡ true)) → (y : X) × Contains (x ∷ xs) y × (test y ≡ true)
    by_test true e is others = (x, Contains-first x xs, e)
    by_test false e is others = let r = others is in (r.0, Contains-later x xs r.0 r.1, r.2)

-- ---- at a vnode of the key's list

module _ (placement : PlacementView) (files : List KeptFile) (file : KeptFile) (vnode : ℕ) (placed : List Record) (es rest : List Entry) where
  -- what a record of a file tells is known where its key stands
  record_known : (r : Record) (d : Dot) → IsPlacedAt placement files vnode placed → Contains files file → AreMergesOf es placed → Contains file.records.items r → covers r.state.clock d ≡ true
      → IsKey r.key → stands placement r.key vnode ≡ true → known_in (es ++ rest) r.key d ≡ true
  record_known r d at among merges is_there told is_key stands_there =
      let same = at.all file among r is_there is_key stands_there in
      let key : same_key same.0.key r.key ≡ true = ap (λ (k : Key). same_key k r.key) same.2 ∙ same_itself r.key in
      let clock : covers same.0.state.clock d ≡ true = ap (λ (s : State). covers s.clock d) same.3 ∙ told in
      known_front es rest r.key d (merges_tell r.key d merges ∙ any_from (record_tells r.key d) placed same.0 same.1 (and_from (same_key same.0.key r.key) (covers same.0.state.clock d) key clock))

  -- so is what merges of all of the file's records tell
  pub file_known : (own : List Entry) (key : Key) (d : Dot) → IsPlacedAt placement files vnode placed → Contains files file → AreMergesOf es placed → AreMergesOf own file.records.items
      → IsKey key → stands placement key vnode ≡ true → known_in own key d ≡ true → known_in (es ++ rest) key d ≡ true
  file_known own key d at among merges owned is_key stands_there known =
      let one = some_of (record_tells key d) file.records.items (sym (merges_tell key d owned) ∙ known) in
      let parts = and_parts (same_key one.0.key key) (covers one.0.state.clock d) one.2 in
      subst (λ (k : Key). IsKey k → stands placement k vnode ≡ true → known_in (es ++ rest) k d ≡ true) (one_key one.0.key key parts.0)
      (record_known one.0 d at among merges one.1 parts.1) is_key stands_there

  pub put_placed : (old own : List Entry) (stamp : ℕ) (key : Key) (seen : List Dot) (content : Content) (dot : Dot) → IsPlacedAt placement files vnode placed → Contains files file → AreMergesOf es placed
      → AreMergesOf own file.records.items → LeaveAlike old own key → IsKey key → stands placement key vnode ≡ true → Contains old (Put stamp key seen content dot) → known_in (es ++ rest) key dot ≡ true
  put_placed old own stamp key seen content dot at among merges owned alike is_key stands_there put =
      file_known own key dot at among merges owned is_key stands_there (sym (alike dot).1 ∙ put_known old stamp key seen content dot put)

  pub context_placed : (before after own : List Entry) (key : Key) (state : State) → IsPlacedAt placement files vnode placed → Contains files file → AreMergesOf es placed → AreMergesOf own file.records.items
      → LeaveAlike (before ++ after) own key → IsKey key → stands placement key vnode ≡ true → IsReplay before key state → Knows (es ++ rest) key state.clock
  context_placed before after own key state at among merges owned alike is_key stands_there left = λ d covered.
      file_known own key d at among merges owned is_key stands_there (sym (alike d).1 ∙ known_front before after key d (sym (left.clock d) ∙ true_covers state.clock d covered))
