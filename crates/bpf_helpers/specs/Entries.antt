-- What a list of Sigs says of a number (this store's profile).
use Rattle.std.specs.Prelude.{ℕ, ◌≡◌, List, [], ◌∷◌, suc, Option, Some, None, true, false, ◌==◌, if◌then◌else◌, IsSome, IsNone, All}
use Rattle.std.specs.Option.{option_map}
use Rattle.bpf_helpers.specs.declared.sig.Sig.{Sig}
use Rattle.bpf_helpers.specs.declared.sig.Entry.{Entry}
use Rattle.bpf_helpers.specs.declared.table.HelperFault.{HelperFault}
use Rattle.bpf_helpers.specs.declared.table.HelperFault.TheVariants.{Taken, Number, Signature, NoMemory}
use Rattle.bpf_helpers.specs.Rules.{is_helper_number}
use Rattle.bpf_helpers.specs.Shapes.{IsAsWritten}

-- the Sig of a number, if there is one
abbrev pub sig_of : List Entry → ℕ → Option Sig
sig_of [] number = None
sig_of (e ∷ entries) number = if e.number == number then Some e.sig else sig_of entries number

-- where the entry of a number stands, if there is one
unfoldable pub place_of : List Entry → ℕ → Option ℕ
place_of [] number = None
place_of (e ∷ entries) number = if e.number == number then Some 0 else option_map suc (place_of entries number)

-- a table's Sigs agree with others: each number of these stands in the table with that same Sig
abbrev pub AgreesWith : List Entry → List Entry → Type 0
AgreesWith listed sigs = All (λ e. sig_of listed e.number ≡ Some e.sig) sigs

-- a helper that may be added: its number is free and a helper's, and its Sig is the written one where one is written
pub record IsAdmitted (entries : List Entry) (e : Entry) : Type 0 where
  pub free : sig_of entries e.number ≡ None
  pub numbered : is_helper_number e.number ≡ true
  pub as_written : IsAsWritten e.number e.sig

-- why a helper is not added, the first of these
abbrev pub Refuses : List Entry → Entry → HelperFault → Type 0
Refuses entries e Taken = IsSome (sig_of entries e.number)
Refuses entries e Number = IsNone (sig_of entries e.number) × (is_helper_number e.number ≡ false)
Refuses entries e Signature = IsNone (sig_of entries e.number) × (is_helper_number e.number ≡ true) × ¬ IsAsWritten e.number e.sig
Refuses entries e NoMemory = IsAdmitted entries e
