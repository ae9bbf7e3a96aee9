-- What has happened stays where an entry is refused.
use Rattle.std.proofs.Common.{◌≡◌, ◌≢◌, ℕ, ◌<◌, List, [], ◌∷◌, ◌++◌, length, get_or, set, refl, sym, ap, subst, ◌∙◌, inl, inr, append_assoc}
use Rattle.std.specs.Prelude.{Result, Ok, Err, OnErr}
use Rattle.std.proofs.lemmas.Bool.{cases_eq}
use Rattle.std.proofs.lemmas.List.{append-nil, get_or-set_same, get_or-set_other}
use Rattle.journal.specs.Entry.{Entry}
use Rattle.journal.specs.Logs.{Log, with_entries, with_entry}
use Rattle.world.specs.Represents.{log_at, with_entry_at}
use Rattle.world.specs.Sources.{IsFrontOf}
use Rattle.audit_replay.specs.Reran.{GoOnFrom, HasOneMore, MayHaveOneMore}

abbrev nothing : Log
nothing = record { vnode = 0; entries = [] }

-- a log that may have one entry more, in its place
pub one_more_at : (logs : List Log) (i : ℕ) (old new : Log) → i < length logs → old ≡ log_at logs i → HasOneMore old new → MayHaveOneMore i logs (set logs i new)
one_more_at logs i old new inside is more = (
  λ other apart. get_or-set_other logs i other new nothing apart,
  subst (λ (l : Log). HasOneMore (log_at logs i) l) (sym (get_or-set_same logs i new nothing inside)) (subst (λ (l : Log). HasOneMore l new) is more),
)

-- nothing has changed
pub none_more : (i : ℕ) (old new : List Log) → new ≡ old → MayHaveOneMore i old new
none_more i old new same = subst (λ (ls : List Log). MayHaveOneMore i old ls) (sym same) (λ other apart. refl, inl refl)

same_front : (log : Log) → IsFrontOf log log
same_front log = ([], ap (λ (es : List Entry). let l : Log = record { vnode = log.vnode; entries = es } in l) (sym (append-nil log.entries)))

front_of : (old new : Log) → HasOneMore old new → IsFrontOf old new
front_of old new (inl same) = subst (λ (l : Log). IsFrontOf old l) (sym same) (same_front old)
front_of old new (inr (e, is)) = subst (λ (l : Log). IsFrontOf old l) (sym is) (e ∷ [], refl)

-- all logs go on with what there was of them
pub goes_on_same : (logs : List Log) → GoOnFrom logs logs
goes_on_same logs index = same_front (log_at logs index)

pub goes_on_more : (i : ℕ) (old new : List Log) → MayHaveOneMore i old new → GoOnFrom old new
goes_on_more i old new more index = elim (cases_eq index i) [
  | inl same ↦ subst (λ (j : ℕ). IsFrontOf (log_at old j) (log_at new j)) (sym same) (front_of (log_at old i) (log_at new i) more.1)
  | inr other ↦ subst (λ (l : Log). IsFrontOf (log_at old index) l) (sym (more.0 index other)) (same_front (log_at old index))
]

pub goes_on_entry : (i : ℕ) (old new : List Log) (e : Entry) → i < length old → new ≡ with_entry_at old i e → GoOnFrom old new
goes_on_entry i old new e inside is =
    goes_on_more i old new (subst (λ (ls : List Log). MayHaveOneMore i old ls) (sym is) (one_more_at old i (log_at old i) (with_entry (log_at old i) e) inside refl (inr (e, refl))))

pub goes_on_then : (old mid new : List Log) → GoOnFrom old mid → GoOnFrom mid new → GoOnFrom old new
goes_on_then old mid new a b index =
    let x = a index in
    let y = b index in (
      x.0 ++ y.0,
      y.1 ∙ ap (λ (l : Log). with_entries l y.0) x.1 ∙ ap (λ (es : List Entry). let l : Log = record { vnode = (log_at old index).vnode; entries = es } in l) (append_assoc (log_at old index).entries x.0 y.0),
    )

-- so they do where it is so after a fault
pub stays_on : {T E : Type 0} (r : Result T E) (i : ℕ) (old new : List Log) → OnErr r (MayHaveOneMore i old new) → OnErr r (GoOnFrom old new)
stays_on (Ok x) i old new h = tt
stays_on (Err e) i old new h = goes_on_more i old new h
