use Rattle.std.proofs.Common.{ℕ, [], Ok, Err, Some, Result, refl, ap, ◌∙◌}
use Rattle.std.specs.Prelude.{nat_le, if◌then◌else◌}
use Rattle.dvv.specs.declared.Dot.{Dot}
use Rattle.peers.specs.declared.peers.Answer.{Answer}
use Rattle.peers.specs.declared.fault.PeerFault.{PeerFault}
use Rattle.quorum.specs.declared.fault.QuorumFault.{QuorumFault}
use Rattle.quorum.specs.declared.fault.QuorumFault.TheVariants.{TooFew}
use Rattle.quorum.specs.Puts.{merges}
use Rattle.quorum.proofs.PutLemmas.{alone, not_alone}
use Rattle.quorum.proofs.putting.replicate.Goals as goal

told : ℕ → Dot → ℕ → Result Dot QuorumFault
told w dot copies = if nat_le w copies then Ok dot else Err TooFew

pub returns-in-None : goal.returns-in-None
returns-in-None g c =
    let r = c.args.request in
    ([], refl, alone r.coordinator r.others.now r.key.now r.w c.args.dot c.args.own _ c.requires.read c.in-None.is c.enough.ensures)

pub returns-in-Some-Ok : goal.returns-in-Some-Ok
unfolding told
returns-in-Some-Ok g c =
    let r = c.args.request in
    let s = c.spread.ensures in
    let own = c.in-Some-Ok.own in
    let rest = merges r.key.now own r.others.now s.0 in (
      rest,
      s.1,
      not_alone r.coordinator r.others.now r.key.now r.w c.args.dot c.args.own c.enough-in-Some-Ok.result c.requires.read (Ok own) rest (c.in-Some-Ok.is ∙ ap (λ (b : Result Answer PeerFault). Some b) c.in-Some-Ok.field-0-is)
          (s.0, s.2, refl, c.enough-in-Some-Ok.ensures ∙ ap (told r.w c.args.dot) s.3),
    )

pub returns-in-Some-Err : goal.returns-in-Some-Err
returns-in-Some-Err g c =
    let r = c.args.request in
    let fault = c.in-Some-Err.fault in (
      [],
      refl,
      not_alone r.coordinator r.others.now r.key.now r.w c.args.dot c.args.own _ c.requires.read (Err fault) [] (c.in-Some-Err.is ∙ ap (λ (b : Result Answer PeerFault). Some b) c.in-Some-Err.field-0-is) (refl, ap (λ e. Err e) c.quorum_fault.ensures),
    )
