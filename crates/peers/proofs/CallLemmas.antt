-- Calls after calls.
use Rattle.std.proofs.Common.{◌≡◌, ℕ, List, [], ◌∷◌, ◌++◌, refl, ap, ◌∙◌, subst}
use Rattle.peers.specs.Calls.{Call, Made}

pub made_end : {S : Type 0} (happens : S → Call → S → Type 0) (a b c : S) (calls : List Call) (call : Call) → Made happens a calls b → happens b call c → Made happens a (calls ++ call ∷ []) c
made_end happens a b c [] call m h = (c, subst (λ s. happens s call c) m h, refl)
made_end happens a b c (x ∷ calls) call m h = (m.0, m.1, made_end happens m.0 b c calls call m.2 h)

pub made_append : {S : Type 0} (happens : S → Call → S → Type 0) (a b c : S) (calls more : List Call) → Made happens a calls b → Made happens b more c → Made happens a (calls ++ more) c
made_append happens a b c [] more m h = subst (λ s. Made happens s more c) m h
made_append happens a b c (x ∷ calls) more m h = (m.0, m.1, made_append happens m.0 b c calls more m.2 h)

-- no call changes what each call leaves
pub made_stays : {S : Type 0} (happens : S → Call → S → Type 0) (origin : S → ℕ) → ((old new : S) (call : Call) → happens old call new → origin new ≡ origin old) → (old new : S) (calls : List Call) → Made happens old calls new → origin new ≡ origin old
made_stays happens origin stays old new [] made = ap origin made
made_stays happens origin stays old new (call ∷ calls) made = made_stays happens origin stays made.0 new calls made.2 ∙ stays old made.0 call made.1
