-- Files of vnodes, read one after another, and the logs behind them.
use Rattle.std.proofs.Common.{◌≡◌, ℕ, ◌+◌, ◌<◌, ◌≤◌, ◌%◌, List, [], ◌∷◌, ◌++◌, true, false, Option, None, Some, refl, sym, ap, subst, ◌∙◌, arith, get_or, if◌then◌else◌, length, take, ⊎_elim, ◌⊎◌, inl, inr, eq-eqb, option_to_list}
use Rattle.std.specs.Prelude.{IsSome, max}
use Rattle.std.specs.List.{AllByRecursion}
use Rattle.std.proofs.lemmas.Bool.{cases_lt, ne_eqb}
use Rattle.std.proofs.lemmas.List.{append-nil, take_more}
use Rattle.kept_file.specs.Files.{IsFileOf, is_of, records_at}
use Rattle.kept_file.specs.declared.file.KeptFile.{KeptFile}
use Rattle.kept_file.specs.declared.file.Source.{Source}
use Rattle.kept_file.specs.declared.file.Source.TheVariants.{Log, Vnode}
use Rattle.record_codec.specs.declared.record.Record.{Record}
use Rattle.kept_folder.specs.declared.logs.Logs.{Logs}
use Rattle.kept_folder.specs.Numbers.{IsFiled}
use Rattle.kept_folder.specs.Reads.{AreEnded, AreLogs, IsFileIn, IsFoundAt, IsReadAt, IsThere, IsVnodeIn, name_of, vnodes_in, vnodes_of}

-- a file is that of a vnode with an index below a number
abbrev IsBelow : ℕ → KeptFile → Type 0
IsBelow n file = (id : ℕ) × (file.from ≡ Vnode id) × (id % 256 < n)

-- so are files
abbrev pub AreBelow : ℕ → List KeptFile → Type 0
AreBelow n files = AllByRecursion (IsBelow n) files

-- where a file is of another vnode, the others are looked at
other : (f : KeptFile) (files : List KeptFile) (id i : ℕ) → f.from ≡ Vnode id → (id % 256 ≡ i → ⊥) → records_at (f ∷ files) i ≡ records_at files i
other f files id i is ne = let no : is_of f.from i ≡ false = ap (λ (s : Source). is_of s i) is ∙ ne_eqb (id % 256) i ne in rw no refl

this : (f : KeptFile) (files : List KeptFile) (id i : ℕ) → f.from ≡ Vnode id → id % 256 ≡ i → records_at (f ∷ files) i ≡ f.records.items
this f files id i is own =
    let yes : is_of f.from i ≡ true = ap (λ (s : Source). is_of s i) is ∙ subst (λ (k : ℕ). is_of (Vnode id) k ≡ true) own (eq-eqb (id % 256) (id % 256) refl) in
    rw yes refl

none_there : (files : List KeptFile) (n : ℕ) → AreBelow n files → records_at files n ≡ []
none_there [] n below = refl
none_there (f ∷ files) n ((id, is, lt), below) = other f files id n is (λ own. omega (arith, lt, own)) ∙ none_there files n below

-- one more file changes nothing for the vnodes before
kept_there : (files : List KeptFile) (f : KeptFile) (id i : ℕ) → f.from ≡ Vnode id → (id % 256 ≡ i → ⊥) → records_at (files ++ f ∷ []) i ≡ records_at files i
kept_there [] f id i is ne = other f [] id i is ne
kept_there (g ∷ files) f id i is ne = ap (λ (rs : List Record). if is_of g.from i then g.records.items else rs) (kept_there files f id i is ne)

-- and is that of its own
found_there : (files : List KeptFile) (f : KeptFile) (id n : ℕ) → AreBelow n files → f.from ≡ Vnode id → id % 256 ≡ n → records_at (files ++ f ∷ []) n ≡ f.records.items
found_there [] f id n below is own = this f [] id n is own
found_there (g ∷ files) f id n ((i, at, lt), below) is own = other g (files ++ f ∷ []) i n at (λ same. omega (arith, lt, same)) ∙ found_there files f id n below is own

raised : (files : List KeptFile) (n : ℕ) → AreBelow n files → AreBelow (n + 1) files
raised [] n below = tt
raised (f ∷ files) n ((id, is, lt), below) = ((id, is, omega (arith, lt)), raised files n below)

-- one more at the end
all_then : (P : KeptFile → Type 0) (files : List KeptFile) (f : KeptFile) → AllByRecursion P files → P f → AllByRecursion P (files ++ f ∷ [])
all_then P [] f are is = (is, tt)
all_then P (g ∷ files) f are is = (are.0, all_then P files f are.1 is)

module _ (finds : List ℕ → Option (List ℕ) → Type 0) where
  -- the files of so many vnodes were read
  pub record AreRead (files : List KeptFile) (n : ℕ) : Type 0 where
    pub below : AreBelow n files
    pub each : (index : ℕ) → index < n → IsReadAt finds files index
    pub all : AllByRecursion (IsVnodeIn finds) files

  none_read : AreRead [] 0
  none_read = record { below = tt; each = λ index lt. absurd (omega (arith, lt)); all = tt }

  -- as a clause says of these records
  abbrev IsRead : List Record → ℕ → Type 0
  IsRead rs index = (finds (name_of index) None × (rs ≡ [])) ⊎ ((bytes : List ℕ) × (from : ℕ) × finds (name_of index) (Some bytes) × IsFileOf from rs bytes × (from % 256 ≡ index))

  one_more : (files : List KeptFile) (bytes : Option (List ℕ)) (found : Option KeptFile) (n : ℕ) → n < 16 → AreRead files n → finds (name_of n) bytes → IsFileIn bytes n found → AreRead (files ++ option_to_list found) (n + 1)
  one_more files None (Some f) n few so is in_ = absurd in_
  one_more files (Some bytes) None n few so is in_ = absurd in_
  one_more files None None n few so is in_ =
      subst (λ (fs : List KeptFile). AreRead fs (n + 1)) (sym (append-nil files)) (record {
        below = raised files n so.below;
        each = λ index lt.
            ⊎_elim (λ (less : index < n). so.each index less)
            (λ (past : n ≤ index). let same : n ≡ index = omega (arith, lt, past) in subst (λ (k : ℕ). IsReadAt finds files k) same (inl (is, none_there files n so.below))) (cases_lt index n);
        all = so.all;
      })
  one_more files (Some bytes) (Some f) n few so has (id, from, whole, own) = record {
    below = all_then (IsBelow (n + 1)) files f (raised files n so.below) (id, from, omega (arith, own));
    each = λ index lt.
        ⊎_elim
        (λ (less : index < n). subst (λ (rs : List Record). IsRead rs index) (sym (kept_there files f id index from (λ is. omega (arith, less, own, is)))) (so.each index less))
        (λ (past : n ≤ index). let same : n ≡ index = omega (arith, lt, past) in
        subst (λ (k : ℕ). IsReadAt finds (files ++ f ∷ []) k) same
        (inr (bytes, id, has, subst (λ (rs : List Record). IsFileOf id rs bytes) (sym (found_there files f id n so.below from own)) whole, own))) (cases_lt index n);
    all = all_then (IsVnodeIn finds) files f so.all (n, bytes, few, has, (id, from, whole, own));
  }

  -- one vnode more
  pub read_more : (files new : List KeptFile) (found : Option KeptFile) (n : ℕ) → n < 16 → new ≡ files ++ option_to_list found → AreRead files n → IsFoundAt finds n found → AreRead new (n + 1)
  read_more files new found n few more so (bytes, is, in_) = subst (λ (fs : List KeptFile). AreRead fs (n + 1)) (sym more) (one_more files bytes found n few so is in_)

  -- the first vnode
  pub read_first : (none files : List KeptFile) (found : Option KeptFile) → none ≡ [] → files ≡ none ++ option_to_list found → IsFoundAt finds 0 found → AreRead files 1
  read_first none files found is0 is in_ =
      read_more none files found 0 (omega arith) is (subst (λ (fs : List KeptFile). AreRead fs 0) (sym is0) none_read) in_

  -- there is a file of each of the first vnodes that have one, as is told
  abbrev pub AreThereTo : Option ℕ → ℕ → Type 0
  AreThereTo filed n = (index : ℕ) → index < n → IsFiled filed index → IsThere finds index

  found_is : (index : ℕ) (found : Option KeptFile) → IsFoundAt finds index found → IsSome found → IsThere finds index
  found_is index (Some f) (Some bytes, is, in_) some = (bytes, is)
  found_is index (Some f) (None, is, in_) some = absurd in_
  found_is index None (bytes, is, in_) some = absurd cc

  -- and of one vnode more
  pub there_more : (filed : Option ℕ) (found : Option KeptFile) (n : ℕ) → AreThereTo filed n → IsFoundAt finds n found → (IsFiled filed n → IsSome found) → AreThereTo filed (n + 1)
  there_more filed found n so is some index lt has =
      ⊎_elim (λ (less : index < n). so index less has)
      (λ (past : n ≤ index). let same : n ≡ index = omega (arith, lt, past) in
      subst (λ (k : ℕ). IsThere finds k) same (found_is n found is (some (subst (λ (k : ℕ). IsFiled filed k) (sym same) has)))) (cases_lt index n)

  pub there_first : (filed : Option ℕ) (found : Option KeptFile) → IsFoundAt finds 0 found → (IsFiled filed 0 → IsSome found) → AreThereTo filed 1
  there_first filed found is some = there_more filed found 0 (λ index lt has. absurd (omega (arith, lt))) is some

-- ---- logs behind them

-- files are logs
abbrev AreOfLogs : List KeptFile → Type 0
AreOfLogs files = AllByRecursion (λ (f : KeptFile). (number : ℕ) × (f.from ≡ Log number)) files

no_records : (more : List KeptFile) (i : ℕ) → AreOfLogs more → records_at more i ≡ []
no_records [] i are = refl
no_records (f ∷ more) i ((number, is), are) = let no : is_of f.from i ≡ false = ap (λ (s : Source). is_of s i) is in rw no (no_records more i are)

records_behind : (files more : List KeptFile) (i : ℕ) → AreOfLogs more → records_at (files ++ more) i ≡ records_at files i
records_behind [] more i are = no_records more i are
records_behind (f ∷ files) more i are = ap (λ (rs : List Record). if is_of f.from i then f.records.items else rs) (records_behind files more i are)

no_vnodes : (more : List KeptFile) → AreOfLogs more → vnodes_of more ≡ 0
no_vnodes [] are = refl
no_vnodes (f ∷ more) ((number, is), are) =
    let none : vnodes_in f.from ≡ 0 = ap vnodes_in is in
    let rest = no_vnodes more are in
    omega (arith, none, rest)

vnodes_behind : (files more : List KeptFile) → AreOfLogs more → vnodes_of (files ++ more) ≡ vnodes_of files
vnodes_behind [] more are = no_vnodes more are
vnodes_behind (f ∷ files) more are = ap (max (vnodes_in f.from)) (vnodes_behind files more are)

-- one file more
pub vnodes_more : (files : List KeptFile) (i : ℕ) (f : KeptFile) (now new : ℕ) → i < length files → f ≡ get_or files i f → now ≡ vnodes_of (take i files) → new ≡ max now (vnodes_in f.from) → new ≡ vnodes_of (take (i + 1) files)
vnodes_more files i f now new lt is so step =
    step ∙ ap (λ n. max n (vnodes_in f.from)) so ∙ sym (ap vnodes_of (take_more files i f lt ∙ ap (λ (x : KeptFile). take i files ++ x ∷ []) (sym is)) ∙ at_end (take i files) f)
  where
    at_end : (xs : List KeptFile) (f : KeptFile) → vnodes_of (xs ++ f ∷ []) ≡ max (vnodes_of xs) (vnodes_in f.from)
    at_end [] f = omega arith
    at_end (x ∷ xs) f = let rest = at_end xs f in omega (arith, rest)

module _ (finds : List ℕ → Option (List ℕ) → Type 0) where
  few_vnodes : (files : List KeptFile) → AllByRecursion (IsVnodeIn finds) files → vnodes_of files ≤ 16
  few_vnodes [] all = omega arith
  few_vnodes (f ∷ files) ((index, bytes, few, has, (id, from, whole, own)), all) =
      let here : vnodes_in f.from ≡ id % 256 + 1 = ap vnodes_in from in
      let rest = few_vnodes files all in
      omega (arith, few, own, here, rest)

  are_ended : (number : ℕ) (files : List KeptFile) → AreEnded finds number files → AreOfLogs files
  are_ended number [] are = tt
  are_ended number (f ∷ files) (is, read, are) = ((number, is), are_ended (number + 1) files are)

  pub are_logs : (logs : Option Logs) (more : List KeptFile) → AreLogs finds logs more → AreOfLogs more
  are_logs None more (is, none) = subst AreOfLogs (sym is) tt
  are_logs (Some logs) more (ended, newest, is, are, count, last, others) =
      subst AreOfLogs (sym is) (all_then (λ (f : KeptFile). (number : ℕ) × (f.from ≡ Log number)) ended newest (are_ended logs.first ended are) (logs.last, last.0))

  -- what was read of vnodes stays where logs stand behind it
  pub read_behind : (files more new : List KeptFile) (logs : Option Logs) (index : ℕ) → new ≡ files ++ more → AreLogs finds logs more → IsReadAt finds files index → IsReadAt finds new index
  read_behind files more new logs index is are read =
      subst (λ (fs : List KeptFile). IsReadAt finds fs index) (sym is) (subst (λ (rs : List Record). IsRead finds rs index) (sym (records_behind files more index (are_logs logs more are))) read)

  pub few_behind : (files more new : List KeptFile) (logs : Option Logs) → new ≡ files ++ more → AreLogs finds logs more → AllByRecursion (IsVnodeIn finds) files → vnodes_of new ≤ 16
  few_behind files more new logs is are all =
      let few = few_vnodes files all in
      let same : vnodes_of new ≡ vnodes_of files = ap vnodes_of is ∙ vnodes_behind files more (are_logs logs more are) in
      omega (arith, few, same)
