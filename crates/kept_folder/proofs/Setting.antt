-- What lines set, with one more behind others.
use Rattle.std.proofs.Common.{◌≡◌, ◌≢◌, ◌<◌, ◌≤◌, ℕ, List, [], ◌∷◌, ◌++◌, Option, None, Some, refl, sym, ap, subst, ◌∙◌, arith, append_assoc}
use Rattle.std.specs.Prelude.{unwrap_or}
use Rattle.std.specs.List.{flat_map}
use Rattle.std.specs.Option.{option_or}
use Rattle.std.proofs.lemmas.List.{append-nil}
use Rattle.std.proofs.lemmas.List.Concat.{flat_map-append}
use Rattle.kept_folder.specs.declared.settings.Line.{Line}
use Rattle.kept_folder.specs.declared.settings.Line.TheVariants.{Snapshot, Number, Copies, Sync}
use Rattle.kept_folder.specs.declared.settings.Settings.{Settings}
use Rattle.kept_folder.specs.declared.settings.SyncPolicy.{SyncPolicy}
use Rattle.kept_folder.specs.Settings.{AreLines, IsSetBy, MayStand, Says, copies_in, every_in, least_in, sync_in, text_of}

pub every_both : (xs ys : List Line) → every_in (xs ++ ys) ≡ option_or (every_in xs) (every_in ys)
every_both [] ys = refl
every_both (Snapshot every ∷ xs) ys = refl
every_both (Number least ∷ xs) ys = every_both xs ys
every_both (Copies copies ∷ xs) ys = every_both xs ys
every_both (Sync sync ∷ xs) ys = every_both xs ys

pub least_both : (xs ys : List Line) → least_in (xs ++ ys) ≡ option_or (least_in xs) (least_in ys)
least_both [] ys = refl
least_both (Snapshot every ∷ xs) ys = least_both xs ys
least_both (Number least ∷ xs) ys = refl
least_both (Copies copies ∷ xs) ys = least_both xs ys
least_both (Sync sync ∷ xs) ys = least_both xs ys

pub copies_both : (xs ys : List Line) → copies_in (xs ++ ys) ≡ option_or (copies_in xs) (copies_in ys)
copies_both [] ys = refl
copies_both (Snapshot every ∷ xs) ys = copies_both xs ys
copies_both (Number least ∷ xs) ys = copies_both xs ys
copies_both (Copies copies ∷ xs) ys = refl
copies_both (Sync sync ∷ xs) ys = copies_both xs ys

pub sync_both : (xs ys : List Line) → sync_in (xs ++ ys) ≡ option_or (sync_in xs) (sync_in ys)
sync_both [] ys = refl
sync_both (Snapshot every ∷ xs) ys = sync_both xs ys
sync_both (Number least ∷ xs) ys = sync_both xs ys
sync_both (Copies copies ∷ xs) ys = sync_both xs ys
sync_both (Sync sync ∷ xs) ys = refl

or_none : {T : Type 0} (o : Option T) → option_or o None ≡ o
or_none None = refl
or_none (Some n) = refl

-- a line that may stand beside some, and beside others, may stand beside both
stand_both : (l : Line) (xs ys : List Line) → MayStand l xs → MayStand l ys → MayStand l (xs ++ ys)
stand_both (Snapshot every) xs ys p q = every_both xs ys ∙ ap (λ o. option_or o (every_in ys)) p ∙ q
stand_both (Number least) xs ys p q = least_both xs ys ∙ ap (λ o. option_or o (least_in ys)) p ∙ q
stand_both (Copies copies) xs ys (p, some, few) (q, some_too, few_too) = (copies_both xs ys ∙ ap (λ o. option_or o (copies_in ys)) p ∙ q, some, few)
stand_both (Sync sync) xs ys p q = sync_both xs ys ∙ ap (λ o. option_or o (sync_in ys)) p ∙ q

-- so may each beside the other
apart : (l line : Line) (lines : List Line) → MayStand l lines → MayStand line (l ∷ lines) → MayStand l (line ∷ [])
apart (Snapshot every) (Snapshot other) lines p h = absurd cc
apart (Snapshot every) (Number least) lines p h = refl
apart (Snapshot every) (Copies copies) lines p h = refl
apart (Snapshot every) (Sync sync) lines p h = refl
apart (Number least) (Snapshot every) lines p h = refl
apart (Number least) (Number other) lines p h = absurd cc
apart (Number least) (Copies copies) lines p h = refl
apart (Number least) (Sync sync) lines p h = refl
apart (Copies copies) (Snapshot every) lines (p, some, few) h = (refl, some, few)
apart (Copies copies) (Number least) lines (p, some, few) h = (refl, some, few)
apart (Copies copies) (Copies other) lines (p, some, few) (h, some_too, few_too) = absurd cc
apart (Copies copies) (Sync sync) lines (p, some, few) h = (refl, some, few)
apart (Sync sync) (Snapshot every) lines p h = refl
apart (Sync sync) (Number least) lines p h = refl
apart (Sync sync) (Copies copies) lines p h = refl
apart (Sync sync) (Sync other) lines p h = absurd cc

-- a line may stand beside fewer
fewer : (l line : Line) (lines : List Line) → MayStand line (l ∷ lines) → MayStand line lines
fewer (Snapshot every) (Snapshot other) lines h = absurd cc
fewer (Snapshot every) (Number least) lines h = h
fewer (Snapshot every) (Copies copies) lines h = h
fewer (Snapshot every) (Sync sync) lines h = h
fewer (Number least) (Snapshot every) lines h = h
fewer (Number least) (Number other) lines h = absurd cc
fewer (Number least) (Copies copies) lines h = h
fewer (Number least) (Sync sync) lines h = h
fewer (Copies copies) (Snapshot every) lines h = h
fewer (Copies copies) (Number least) lines h = h
fewer (Copies copies) (Copies other) lines (h, some, few) = absurd cc
fewer (Copies copies) (Sync sync) lines h = h
fewer (Sync sync) (Snapshot every) lines h = h
fewer (Sync sync) (Number least) lines h = h
fewer (Sync sync) (Copies copies) lines h = h
fewer (Sync sync) (Sync other) lines h = absurd cc

lines_end : (lines : List Line) (line : Line) → AreLines lines → MayStand line lines → AreLines (lines ++ line ∷ [])
lines_end [] line are stand = (stand, tt)
lines_end (l ∷ lines) line (first, are) stand = (stand_both l lines (line ∷ []) first (apart l line lines first stand), lines_end lines line are (fewer l line lines stand))

-- what lines say with one more behind them
pub snapshot_added : (lines : List Line) (e : ℕ) (every least copies : Option ℕ) (sync : Option SyncPolicy) → Says lines None least copies sync → every ≡ Some e
    → Says (lines ++ Snapshot e ∷ []) every least copies sync
snapshot_added lines e every least copies sync (are, none, l, c, s) is = (
  lines_end lines (Snapshot e) are (sym none),
  is ∙ ap (λ o. option_or o (Some e)) none ∙ sym (every_both lines (Snapshot e ∷ [])),
  l ∙ sym (or_none (least_in lines)) ∙ sym (least_both lines (Snapshot e ∷ [])),
  c ∙ sym (or_none (copies_in lines)) ∙ sym (copies_both lines (Snapshot e ∷ [])),
  s ∙ sym (or_none (sync_in lines)) ∙ sym (sync_both lines (Snapshot e ∷ [])),
)

pub number_added : (lines : List Line) (n : ℕ) (every least copies : Option ℕ) (sync : Option SyncPolicy) → Says lines every None copies sync → least ≡ Some n
    → Says (lines ++ Number n ∷ []) every least copies sync
number_added lines n every least copies sync (are, e, none, c, s) is = (
  lines_end lines (Number n) are (sym none),
  e ∙ sym (or_none (every_in lines)) ∙ sym (every_both lines (Number n ∷ [])),
  is ∙ ap (λ o. option_or o (Some n)) none ∙ sym (least_both lines (Number n ∷ [])),
  c ∙ sym (or_none (copies_in lines)) ∙ sym (copies_both lines (Number n ∷ [])),
  s ∙ sym (or_none (sync_in lines)) ∙ sym (sync_both lines (Number n ∷ [])),
)

pub copies_added : (lines : List Line) (n : ℕ) (every least copies : Option ℕ) (sync : Option SyncPolicy) → 0 < n → n ≤ 3 → Says lines every least None sync → copies ≡ Some n
    → Says (lines ++ Copies n ∷ []) every least copies sync
copies_added lines n every least copies sync some few (are, e, l, none, s) is = (
  lines_end lines (Copies n) are (sym none, some, few),
  e ∙ sym (or_none (every_in lines)) ∙ sym (every_both lines (Copies n ∷ [])),
  l ∙ sym (or_none (least_in lines)) ∙ sym (least_both lines (Copies n ∷ [])),
  is ∙ ap (λ o. option_or o (Some n)) none ∙ sym (copies_both lines (Copies n ∷ [])),
  s ∙ sym (or_none (sync_in lines)) ∙ sym (sync_both lines (Copies n ∷ [])),
)

pub sync_added : (lines : List Line) (p : SyncPolicy) (every least copies : Option ℕ) (sync : Option SyncPolicy) → Says lines every least copies None → sync ≡ Some p
    → Says (lines ++ Sync p ∷ []) every least copies sync
sync_added lines p every least copies sync (are, e, l, c, none) is = (
  lines_end lines (Sync p) are (sym none),
  e ∙ sym (or_none (every_in lines)) ∙ sym (every_both lines (Sync p ∷ [])),
  l ∙ sym (or_none (least_in lines)) ∙ sym (least_both lines (Sync p ∷ [])),
  c ∙ sym (or_none (copies_in lines)) ∙ sym (copies_both lines (Sync p ∷ [])),
  is ∙ ap (λ o. option_or o (Some p)) none ∙ sym (sync_both lines (Sync p ∷ [])),
)

-- what stands where nothing did
pub first_of : {T : Type 0} (known : Option T) (P : Option T → Type 0) → known ≡ None → P known → P None
first_of known P is p = subst P is p

-- so it is where the last line is one of a kind
pub says_as : (lines : List Line) (line same : Line) (every least copies : Option ℕ) (sync : Option SyncPolicy) → line ≡ same → Says (lines ++ same ∷ []) every least copies sync
    → Says (lines ++ line ∷ []) every least copies sync
says_as lines line same every least copies sync is says = subst (λ (x : Line). Says (lines ++ x ∷ []) every least copies sync) (sym is) says

-- a line of copies says how many, 1 to 3
pub right_copies : (line : Line) (n : ℕ) → line ≡ Copies n → MayStand line [] → (0 < n) × (n ≤ 3)
right_copies line n is right = let (none, some, few) = subst (λ (x : Line). MayStand x []) is right in (some, few)

-- a line that bytes begin with is behind those before
pub line_more : (lines : List Line) (line : Line) (bytes left front rest : List ℕ) → bytes ≡ flat_map text_of lines ++ left → left ≡ front ++ rest → front ≡ text_of line → bytes ≡ flat_map text_of (lines ++ line ∷ []) ++ rest
line_more lines line bytes left front rest so parts is =
    so ∙ ap (λ (l : List ℕ). flat_map text_of lines ++ l) (parts ∙ ap (λ (l : List ℕ). l ++ rest) is)
    ∙ sym (append_assoc (flat_map text_of lines) (text_of line) rest)
    ∙ ap (λ (l : List ℕ). l ++ rest) (ap (λ (l : List ℕ). flat_map text_of lines ++ l) (sym (append-nil (text_of line))) ∙ sym (flat_map-append text_of lines (line ∷ [])))

-- lines that bytes are, of which there is one
pub some_lines : (lines : List Line) (bytes : List ℕ) → bytes ≡ flat_map text_of lines → (bytes ≡ [] → ⊥) → lines ≢ []
some_lines lines bytes is some none = some (is ∙ ap (λ l. flat_map text_of l) none)

copies_of : (lines : List Line) → AreLines lines → (0 < unwrap_or (copies_in lines) 1) × (unwrap_or (copies_in lines) 1 ≤ 3)
copies_of [] are = (omega arith, omega arith)
copies_of (Snapshot every ∷ lines) (first, are) = copies_of lines are
copies_of (Number least ∷ lines) (first, are) = copies_of lines are
copies_of (Copies copies ∷ lines) ((none, some, few), are) = (some, few)
copies_of (Sync sync ∷ lines) (first, are) = copies_of lines are

-- so many copies are set
pub copies_set : (found : Option (List ℕ)) (s : Settings) → IsSetBy found s → (0 < s.copies) × (s.copies ≤ 3)
copies_set None s (every, least, copies, sync) = (omega (arith, copies), omega (arith, copies))
copies_set (Some bytes) s (lines, is, some, are, every, least, copies, sync) = subst (λ n. (0 < n) × (n ≤ 3)) (sym copies) (copies_of lines are)
