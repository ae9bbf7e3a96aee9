-- What lines ask for: names in maps, what a put had seen, and what is known of files.
use Rattle.std.proofs.Common.{◌≡◌, ℕ, List, [], ◌∷◌, ◌++◌, refl, sym, ap, subst, ◌∙◌}
use Rattle.std.specs.Prelude.{Option, None, Some, Result, cond, Bool, true, false, codes, MatchOption}
use Rattle.std.specs.Borrow.{Bor}
use Rattle.std.specs.BTreeMap as tree
use Rattle.std.specs.BTreeMap.{BTreeMap}
use Rattle.std.specs.Map.{lookup, update}
use Rattle.std.specs.Option.{option_copied}
use Rattle.std.specs.Str.{bytes_eq}
use Rattle.std.specs.Cmp.Lexicographic.{slice_cmp}
use Rattle.std.specs.Ordering.{nat_cmp}
use Rattle.std.proofs.lemmas.Map.Text.{btree_map_updates_str}
use Rattle.std.proofs.lemmas.Slice.Eq.{bytes_eq-Decides}
use Rattle.bpf_admission.specs.declared.refusal.Refusal.{Refusal}
use Rattle.bpf_helpers.specs.declared.sig.Entry.{Entry}
use Rattle.bpf_image.specs.declared.image.ImageKind.{ImageKind}
use Rattle.bpf_verifier.specs.Program.{Program}
use Rattle.script_lines.specs.declared.line.Context.{Context}
use Rattle.script_lines.specs.declared.line.Context.TheVariants as context
use Rattle.key_state.specs.declared.content.Content.TheVariants.{Value}
use Rattle.key_state.specs.declared.content.Key.{Key}
use Rattle.script_lines.specs.Spelling.{IsSpelling}
use Rattle.script_lines.specs.declared.bad.BadLine.{BadLine as Bad}
use Rattle.script_lines.specs.declared.line.Line.{Line}
use Rattle.script_lines.specs.declared.line.Spelling.TheVariants as spelling
use Rattle.script_events.specs.Asking.{Reading, AddsCheck, AreAnsweredBy, Asks, ComeTo, asked, IsSeen, IsKnown, AreKept, AreKnown, StandsFor, at_name, sim_key}
use Rattle.script_events.specs.Scripts.{IsOneMore}
use Rattle.script_events.specs.declared.check.Check.{Check}
use Rattle.script_events.specs.declared.script.Answered.TheVariants as answered
use Rattle.script_events.specs.declared.script.Script.{Script}
use Rattle.world.specs.declared.event.Event.TheVariants as event
use Rattle.script_events.specs.declared.images.NoHook.{NoHook}
use Rattle.world.specs.Running.{IsEarlierContext}
use Rattle.world.specs.declared.event.Seen.{Seen}

-- names that are alike are one
bytes_eq_same : (xs ys : List ℕ) → bytes_eq xs ys ≡ true → xs ≡ ys
bytes_eq_same xs ys same = (bytes_eq-Decides xs ys).0 same

-- what was put into a map under a name stands there, and all else as before
pub stands_so : (name : List ℕ) {X : Type 0} (old new : BTreeMap (Bor (List ℕ)) X) (place : Option X) → tree.UpdatesBy (λ x y. slice_cmp nat_cmp x.now y.now) (λ k. slice_cmp nat_cmp name k.now) old new place
    → (other : List ℕ) → at_name new other ≡ update bytes_eq (at_name old) name place other
stands_so name old new place updates = btree_map_updates_str name old new place updates

-- what a put had seen is a clock, or an earlier get's context
pub seen_earlier : (word : Context) (old : Reading) (it : Seen) → IsSeen word old it → IsEarlierContext old.script.events.items it
seen_earlier context.Nothing old it is = subst (IsEarlierContext old.script.events.items) (sym is) tt
seen_earlier (context.OfGet name) old it is = subst (IsEarlierContext old.script.events.items) (sym is.3) is.2
seen_earlier (context.Token text) old it is = subst (IsEarlierContext old.script.events.items) (sym is.2) tt

module _ (found : List ℕ → ImageKind → Result Program NoHook → Type 0) (listed : List Entry) (kind : ImageKind) where
  -- nothing is kept, and so all of it is known
  pub nothing_known : (kept : BTreeMap (Bor (List ℕ)) (Result Program Refusal)) → kept.entries ≡ [] → AreKnown found listed kind kept
  nothing_known kept none file answer at = absurd (let is : at_name kept file ≡ None = ap (λ (es : List (Bor (List ℕ) × Result Program Refusal)). lookup (tree.is_at (λ other. slice_cmp nat_cmp file other.now)) es) none in cc)

  -- what is kept stays known
  pub known_still : (kept new : BTreeMap (Bor (List ℕ)) (Result Program Refusal)) → AreKept (at_name kept) (at_name new) → AreKnown found listed kind kept → AreKnown found listed kind new
  known_still kept new same known file answer at = known file answer (sym (same file) ∙ at)

  -- what is answered of a file is known, too
  pub one_more_known : (kept new : BTreeMap (Bor (List ℕ)) (Result Program Refusal)) (file : List ℕ) (answer : Result Program Refusal) → AreKnown found listed kind kept
      → StandsFor (at_name kept) file (Some answer) (at_name new) → IsKnown found listed kind file answer → AreKnown found listed kind new
  one_more_known kept new file answer known updates is other told at = by_name (bytes_eq file other) refl
    where
      after : at_name new other ≡ cond (bytes_eq file other) (Some answer) (at_name kept other)
      after = updates other

      by_name : (b : Bool) → bytes_eq file other ≡ b → IsKnown found listed kind other told
      by_name true same =
          let one : Some answer ≡ Some told = sym (ap (λ (b : Bool). cond b (Some answer) (at_name kept other)) same) ∙ sym after ∙ at in
          let both : answer ≡ told = cc in
          let names : file ≡ other = bytes_eq_same file other same in
          subst (λ (it : Result Program Refusal). IsKnown found listed kind other it) both (subst (λ (it : List ℕ). IsKnown found listed kind it answer) names is)
      by_name false apart = known other told (sym (ap (λ (b : Bool). cond b (Some answer) (at_name kept other)) apart) ∙ sym after ∙ at)

-- what a map answers for bytes stands there
pub kept_at : {X : Type 0} (map : BTreeMap (Bor (List ℕ)) X) (key file : List ℕ) (result : Option (Bor X)) (it : Bor X) (x : X) → key ≡ file → option_copied result ≡ tree.get_by (λ other. slice_cmp nat_cmp key other.now) map → result ≡ Some it → it.now ≡ x
    → at_name map file ≡ Some x
kept_at {X} map key file result it x same value is holds = ap (λ (k : List ℕ). at_name map k) (sym same) ∙ sym value ∙ ap (λ (o : Option (Bor X)). option_copied o) is ∙ ap (λ (y : X). Some y) holds

-- nothing stands in an empty map
pub nothing_stands : {X : Type 0} (map : BTreeMap (Bor (List ℕ)) X) → map.entries ≡ [] → (name : List ℕ) → at_name map name ≡ None
nothing_stands {X} map none name = ap (λ (es : List (Bor (List ℕ) × X)). lookup (tree.is_at (λ other. slice_cmp nat_cmp name other.now)) es) none

-- a get, and what a hook says of a new value
pub adds_check : (vnode : ℕ) (key value : List ℕ) (made : Key) (check : Check) (old new : Script) → made ≡ sim_key key → check.new ≡ Value (codes "text/plain") value → IsOneMore old (event.Get vnode made) (answered.Checked check) new
    → AddsCheck vnode key value check.hook old new
adds_check vnode key value made check old new key_is value_is more = (check, refl, value_is, subst (λ (k : Key). IsOneMore old (event.Get vnode k) (answered.Checked check) new) key_is more)

module _ (found : List ℕ → ImageKind → Result Program NoHook → Type 0) where
  -- one line more: it is passed over, or it asks for what it spells
  pub asks_more : (bytes : List ℕ) (it : Line) (old new : Reading) → IsSpelling bytes (spelling.Line it) → (bad : Option Bad) → MatchOption bad (Asks found it old new) (λ _. new.script ≡ old.script)
      → MatchOption bad ((lines : List (List ℕ)) → ComeTo found lines old → ComeTo found (lines ++ bytes ∷ []) new) (λ _. new.script ≡ old.script)
  asks_more bytes it old new spelled None asks = λ lines come. asked lines bytes it old new come spelled asks
  asks_more bytes it old new spelled (Some bad) same = same

  -- the lines so far, where the next is bad
  pub come_up_to : (lines : List (List ℕ)) (old : Reading) (new : Script) → ComeTo found lines old → new ≡ old.script → AreAnsweredBy found new lines
  come_up_to lines old new come same = (old, come, sym same)
