-- The properties that a body sets (Riak KV, bucket properties; JSON, RFC 8259).
use Rattle.std.specs.Prelude.{ℕ, Bool, true, false, not, ◌==◌, if◌then◌else◌, List, codes, Option, Some, None, option_and_then, Result, Ok, Err}
use Rattle.std.specs.Str.{is_utf8}
use Rattle.serde_json.specs.Data.{Data, Members, null, boolean, number, string, array, object}
use Rattle.serde_json.specs.Find.{get, get_member, as_number, as_u64}
use Rattle.serde_json.specs.Read.{read}
use Rattle.http_request.specs.declared.ask.Change.{Change}
use Rattle.http_request.specs.declared.ask.Change.TheVariants.{Kept, Unbound, Bound}
use Rattle.http_request.specs.declared.ask.Property.{Property}
use Rattle.http_request.specs.declared.ask.Property.TheVariants.{AllowMult, LastWriteWins, NVal, PostCommit}
use Rattle.http_request.specs.declared.ask.Refusal.{Refusal}
use Rattle.http_request.specs.declared.ask.Refusal.TheVariants.{BadProps, FixedProperty}

-- the change that a member asks for: none where it is absent, unbinding for null, and a name for a text
abbrev pub change_of : Option Data → Option Change
change_of None = Some Kept
change_of (Some null) = Some Unbound
change_of (Some (string name)) = Some (Bound name)
change_of (Some (boolean b)) = None
change_of (Some (number n)) = None
change_of (Some (array _)) = None
change_of (Some (object _)) = None

-- siblings are always allowed
abbrev pub allows_siblings : Option Data → Bool
allows_siblings None = true
allows_siblings (Some (boolean b)) = b
allows_siblings (Some null) = false
allows_siblings (Some (string s)) = false
allows_siblings (Some (number n)) = false
allows_siblings (Some (array _)) = false
allows_siblings (Some (object _)) = false

-- the last write never wins
abbrev pub keeps_siblings : Option Data → Bool
keeps_siblings None = true
keeps_siblings (Some (boolean b)) = not b
keeps_siblings (Some null) = false
keeps_siblings (Some (string s)) = false
keeps_siblings (Some (number n)) = false
keeps_siblings (Some (array _)) = false
keeps_siblings (Some (object _)) = false

abbrev pub is_number_of : ℕ → Option ℕ → Bool
is_number_of n None = false
is_number_of n (Some m) = m == n

-- there are n copies
abbrev pub has_copies : ℕ → Option Data → Bool
has_copies n None = true
has_copies n (Some d) = is_number_of n (option_and_then as_u64 (as_number d))

-- nothing runs after a write
abbrev pub runs_nothing : Option Data → Bool
runs_nothing None = true
runs_nothing (Some null) = true
runs_nothing (Some (array _)) = false
runs_nothing (Some (boolean b)) = false
runs_nothing (Some (number n)) = false
runs_nothing (Some (string s)) = false
runs_nothing (Some (object _)) = false

-- the first property that the members want otherwise than it is, of n copies
abbrev pub fixed_in : ℕ → Members → Option Property
fixed_in n members =
    if not (allows_siblings (get_member (codes "allow_mult") members)) then Some AllowMult
    else (if not (keeps_siblings (get_member (codes "last_write_wins") members)) then Some LastWriteWins
    else (if not (has_copies n (get_member (codes "n_val") members)) then Some NVal
    else (if not (runs_nothing (get_member (codes "postcommit") members)) then Some PostCommit
    else None)))

-- the changes, where no property is wanted otherwise than it is and both are some
abbrev pub changes_or : Option Property → Option Change → Option Change → Result (Change × Change) Refusal
changes_or (Some property) p r = Err (FixedProperty property)
changes_or None (Some p) (Some r) = Ok (p, r)
changes_or None None r = Err BadProps
changes_or None (Some p) None = Err BadProps

-- the changes that an object of properties asks for
abbrev pub changes_of : ℕ → Data → Result (Change × Change) Refusal
changes_of n (object members) =
    changes_or (fixed_in n members) (change_of (get_member (codes "precommit") members)) (change_of (get_member (codes "resolver") members))
changes_of n null = Err BadProps
changes_of n (boolean b) = Err BadProps
changes_of n (number m) = Err BadProps
changes_of n (string s) = Err BadProps
changes_of n (array _) = Err BadProps

-- the same, where there are some
abbrev pub changes_at : ℕ → Option Data → Result (Change × Change) Refusal
changes_at n None = Err BadProps
changes_at n (Some d) = changes_of n d

-- the changes that a body asks for
abbrev pub changes_in : ℕ → List ℕ → Result (Change × Change) Refusal
changes_in n body = if is_utf8 body then changes_at n (option_and_then (get (codes "props")) (read body)) else Err BadProps
