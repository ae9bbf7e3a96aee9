-- What a bucket's resolver makes of a get that found several siblings (this store's profile).
use Rattle.std.specs.Prelude.{◌≡◌, ℕ, ◌%◌, ◌<◌, ◌⊎◌, ◌==◌, not, Bool, List, [], ◌∷◌, ◌++◌, Option, Some, None, Result, Ok, Err, map, filter, length, nat_le, MatchBool, MatchResult}
use Rattle.dvv.specs.declared.Dot.{Dot}
use Rattle.key_state.specs.declared.content.Key.{Key}
use Rattle.key_state.specs.declared.content.Content.{Content}
use Rattle.key_state.specs.declared.content.Sibling.{Sibling}
use Rattle.key_state.specs.State.{State}
use Rattle.bpf_verifier.specs.Program.{Program}
use Rattle.bpf_helpers.specs.declared.sig.Entry.{Entry}
use Rattle.hook_run.specs.declared.resolving.Resolution.{Resolution}
use Rattle.hook_run.specs.declared.resolving.Resolution.TheVariants as resolution
use Rattle.hook_run.specs.declared.resolving.Unresolved.{Unresolved}
use Rattle.hook_run.specs.Resolving.{IsResolution, IsUnresolved, chosen_by}
use Rattle.hook_registry.specs.declared.fault.NotSeen.{NotSeen}
use Rattle.peers.specs.declared.peers.Answer.{Answer}
use Rattle.peers.specs.declared.fault.PeerFault.{PeerFault}
use Rattle.quorum.specs.declared.fault.ResolveFault.{ResolveFault}
use Rattle.quorum.specs.declared.fault.ResolveFault.TheVariants.{Unseen, Undecided, Cut}
use Rattle.quorum.specs.declared.fault.Unfit.{Unfit}
use Rattle.quorum.specs.declared.fault.Unfit.TheVariants.{TooLarge, Bad}
use Rattle.peers.specs.Calls.{Call, PutAt, MergeAt, StateOf}

-- whether an answer is another vnode's: an identifier's index is what it leaves of 256
abbrev pub is_others : ℕ → Answer → Bool
is_others coordinator answer = not ((answer.from % 256) == coordinator)

-- the answers of other vnodes
abbrev pub others_of : ℕ → List Answer → List Answer
others_of coordinator answers = filter (is_others coordinator) answers

-- these states are merged into the coordinator, in order, with what came back
abbrev pub brings : ℕ → Key → List Answer → List (Result Bool PeerFault) → List Call
brings coordinator key answers [] = []
brings coordinator key [] (back ∷ backs) = []
brings coordinator key (answer ∷ answers) (back ∷ backs) = MergeAt coordinator key answer.from answer.at answer.state back ∷ brings coordinator key answers backs

-- each of these states was taken
abbrev pub AllTaken : List Answer → List (Result Bool PeerFault) → Type 0
AllTaken answers backs = (changes : List Bool) × (backs ≡ map Ok changes) × (length changes ≡ length answers)

-- some were taken, and the next was not, for this
abbrev pub OneFailed : List Answer → List (Result Bool PeerFault) → PeerFault → Type 0
OneFailed answers backs fault = (changes : List Bool) × (backs ≡ map Ok changes ++ Err fault ∷ []) × (length changes < length answers)

-- what the coordinator's read after the put tells
abbrev pub told_of : Result Answer PeerFault → Result State PeerFault
told_of (Ok answer) = Ok answer.state
told_of (Err fault) = Err fault

-- what a resolve comes to, by what its calls told
abbrev pub end_of : Result State PeerFault → Result (Option State) ResolveFault
end_of (Ok state) = Ok (Some state)
end_of (Err fault) = Err (Cut fault)

-- no further call is made, and that is what it comes to
abbrev pub EndsAt : List Call → Result (Option State) ResolveFault → Result (Option State) ResolveFault → Type 0
EndsAt calls told end = (calls ≡ []) × (told ≡ end)

module _ (coordinator : ℕ) (key : Key) where
  -- what follows the put
  abbrev pub AfterCommit : Result Dot PeerFault → List Call → Result State PeerFault → Type 0
  AfterCommit (Ok dot) calls told = (own : Result Answer PeerFault) × (calls ≡ StateOf coordinator key own ∷ []) × (told ≡ told_of own)
  AfterCommit (Err fault) calls told = (calls ≡ []) × (told ≡ Err fault)

  module _ (answers : List Answer) (seen : List Dot) where
    -- each other vnode's answered state is merged into the coordinator, and then the content is put there; where one of the
    -- merges failed, nothing follows it
    abbrev pub Commits : Content → List Call → Result State PeerFault → Type 0
    Commits content calls told =
        ((backs : List (Result Bool PeerFault)) × (back : Result Dot PeerFault) × (rest : List Call) × AllTaken (others_of coordinator answers) backs
        × (calls ≡ brings coordinator key (others_of coordinator answers) backs ++ PutAt coordinator key seen content back ∷ rest) × AfterCommit back rest told)
        ⊎ ((backs : List (Result Bool PeerFault)) × (fault : PeerFault) × OneFailed (others_of coordinator answers) backs fault × (calls ≡ brings coordinator key (others_of coordinator answers) backs) × (told ≡ Err fault))

    -- what follows the resolver's choice of a content, or of none
    abbrev pub AfterChoice : Option Content → List Call → Result (Option State) ResolveFault → Type 0
    AfterChoice (Some content) calls told = (back : Result State PeerFault) × Commits content calls back × (told ≡ end_of back)
    AfterChoice None calls told = EndsAt calls told (Ok None)

    -- what follows the resolver's run on these siblings
    abbrev pub AfterRun : List Sibling → Result Resolution Unresolved → List Call → Result (Option State) ResolveFault → Type 0
    AfterRun siblings (Ok resolution) calls told = AfterChoice (chosen_by resolution siblings) calls told
    AfterRun siblings (Err fault) calls told = EndsAt calls told (Err (Undecided fault))

    -- what follows the look-up of the resolver: it is run on the siblings of the merged answer
    abbrev pub AfterLookUp : List Entry → List Sibling → Result (Option Program) NotSeen → List Call → Result (Option State) ResolveFault → Type 0
    AfterLookUp listed siblings (Ok (Some hook)) calls told = (ran : Result Resolution Unresolved) × MatchResult ran (IsResolution listed hook siblings) (IsUnresolved listed hook siblings) × AfterRun siblings ran calls told
    AfterLookUp listed siblings (Ok None) calls told = EndsAt calls told (Ok None)
    AfterLookUp listed siblings (Err fault) calls told = EndsAt calls told (Err Unseen)

    -- the calls of a resolve, and what it comes to: the coordinator's state where all went through, nothing where nothing was to be
    -- written, or what cut it short; the resolver is looked up just where there are two siblings or more
    abbrev pub IsResolve : {H : Type 0} → (H → Result (Option Program) NotSeen → H → Type 0) → H → H → List Entry → List Sibling → List Call → Result (Option State) ResolveFault → Type 0
    IsResolve finds old new listed siblings calls told = MatchBool (nat_le 2 (length siblings))
        ((found : Result (Option Program) NotSeen) × finds old found new × AfterLookUp listed siblings found calls told) ((new ≡ old) × EndsAt calls told (Ok None))

-- the state that is answered: the coordinator's, or the get's own
abbrev pub state_told : State → Result (Option State) ResolveFault → State
state_told got (Ok (Some state)) = state
state_told got (Ok None) = got
state_told got (Err fault) = got

-- what cut it short, if anything did
abbrev pub cut_of : Result (Option State) ResolveFault → Option ResolveFault
cut_of (Ok told) = None
cut_of (Err fault) = Some fault

-- why a run of a resolver chose nothing, where it failed: it was shown too much, or its answer has no meaning
abbrev pub unfit_by : Result Resolution Unresolved → Option Unfit
unfit_by (Ok resolution.Keep) = None
unfit_by (Ok (resolution.Take place)) = None
unfit_by (Ok (resolution.Write content)) = None
unfit_by (Ok resolution.Delete) = None
unfit_by (Ok resolution.TooLarge) = Some TooLarge
unfit_by (Ok (resolution.Bad bad)) = Some (Bad bad)
unfit_by (Err fault) = None

-- why the resolver that a look-up found chose nothing
abbrev pub UnfitOf : List Entry → List Sibling → Result (Option Program) NotSeen → Option Unfit → Type 0
UnfitOf listed siblings (Ok (Some hook)) unfit = (ran : Result Resolution Unresolved) × MatchResult ran (IsResolution listed hook siblings) (IsUnresolved listed hook siblings) × (unfit ≡ unfit_by ran)
UnfitOf listed siblings (Ok None) unfit = unfit ≡ None
UnfitOf listed siblings (Err fault) unfit = unfit ≡ None

-- why the resolver of a get's siblings chose nothing: it is looked up just where there are two or more
abbrev pub IsUnfit : {H : Type 0} → (H → Result (Option Program) NotSeen → H → Type 0) → H → H → List Entry → List Sibling → Option Unfit → Type 0
IsUnfit finds old new listed siblings unfit = MatchBool (nat_le 2 (length siblings))
    ((found : Result (Option Program) NotSeen) × finds old found new × UnfitOf listed siblings found unfit) (unfit ≡ None)
