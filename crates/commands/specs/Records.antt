-- The records of a dump in a file, one after another (this store's profile).
use Rattle.std.specs.Prelude.{ℕ, ◌+◌, ◌/◌, ◌==◌, ◌||◌, Bool, List, [], ◌∷◌, codes}
use Rattle.std.specs.List.{list_any}
use Rattle.vnode.specs.declared.steps.Copied.{Copied}
use Rattle.record_codec.specs.declared.fault.WireFault.{WireFault}
use Rattle.record_codec.specs.declared.fault.WireFault.TheVariants.{Cut, Mark, Digest, NotCanonical, NoMemory}
use Rattle.record_codec.specs.declared.record.Record.{Record}
use Rattle.world.specs.declared.event.Copies.{Copies}

-- the records of copies: of the key and state of each, the vnode's identifier, and the place of the copy's entry
abbrev pub record_of : ℕ → ℕ → Copied → Record
record_of from at one = record { key = one.key; from = from; at = at; state = one.state }

abbrev pub records_from : ℕ → ℕ → List Copied → List Record
records_from from at [] = []
records_from from at (one ∷ held) = record_of from at one ∷ records_from from (at + 1) held

abbrev pub records_of : Copies → List Record
records_of copies = records_from copies.from copies.first copies.held.items

-- the numbers of the faults
abbrev pub fault_text : WireFault → List ℕ
fault_text Cut = codes "W1"
fault_text Mark = codes "W2"
fault_text Digest = codes "W3"
fault_text NotCanonical = codes "W4"
fault_text NoMemory = codes "E1"

-- an identifier is one of an incarnation
abbrev pub is_of : ℕ → ℕ → Bool
is_of vnode incarnation = vnode / 65536 == incarnation

-- a record is of a vnode of an incarnation, or its clock counts writes of one
abbrev pub names_incarnation : ℕ → Record → Bool
names_incarnation incarnation one = is_of one.from incarnation || list_any (λ entry. is_of entry.vnode incarnation) one.state.clock
