use Rattle.std.proofs.Common.{List, arith, length, ap, ◌∙◌, subst}
use Rattle.journal.specs.Replay.{IsMergeOf}
use Rattle.peers.specs.declared.peers.Answer.{Answer}
use Rattle.quorum.specs.Gets.{reads, states_of, PassesClock}
use Rattle.peers.proofs.CallLemmas.{made_stays}
use Rattle.quorum.proofs.ReadLemmas.{answers_few}
use Rattle.quorum.proofs.RisenLemmas.{made_risen, few_reads}
use Rattle.quorum.proofs.ShowLemmas.{each_shows}
use Rattle.journal.specs.Brought.{all_writes}
use Rattle.quorum.proofs.getting.get.Goals as goal

pub returns-then-len-r-clause-few : goal.returns-then-len-r-clause-few
returns-then-len-r-clause-few g c = λ e le.
    let h = c.read_all.ensures.reads in
    made_risen g.P.Peers.happens g.P.Peers.failures g.met.P.Peers.counted c.args.peers.now c.read_all.new.peers (reads c.args.key.now c.args.vnodes.now h.0) h.1 (few_reads c.args.key.now c.args.vnodes.now h.0 c.args.r h.2 (let n = ap length h.3 in omega (arith, n, c.len.ensures, c.read_all.new.found.ok.0)) le)

pub returns-then-len-r-clause-origin : goal.returns-then-len-r-clause-origin
returns-then-len-r-clause-origin g c = made_stays g.P.Peers.happens g.P.Peers.origin g.met.P.Peers.stays _ _ _ c.read_all.ensures.reads.1

pub returns-in-Ok-clause-origin : goal.returns-in-Ok-clause-origin
returns-in-Ok-clause-origin g c = made_stays g.P.Peers.happens g.P.Peers.origin g.met.P.Peers.stays _ _ _ c.read_all.ensures.reads.1

pub returns-in-Err-clause-origin : goal.returns-in-Err-clause-origin
returns-in-Err-clause-origin g c = made_stays g.P.Peers.happens g.P.Peers.origin g.met.P.Peers.stays _ _ _ c.read_all.ensures.reads.1

pub returns-in-Ok-clause-calls : goal.returns-in-Ok-clause-calls
returns-in-Ok-clause-calls g c =
    let h = c.read_all.ensures.reads in
    let same = c.deref.ensures.value ∙ h.3 in
    (h.0, h.1, ((h.2, let n = ap length h.3 in omega (arith, n, c.len.ensures, c.read_all.new.found.ok.0)), subst (λ (found : List Answer). IsMergeOf c.args.key.now (states_of found) c.in-Ok.merged) same (c.in-Ok.ensures.merge c.args.key.now), subst (λ (found : List Answer). PassesClock c.args.key.now (states_of found) → ⊥) same (c.in-Ok.ensures.fits c.args.key.now), h.3))

pub returns-in-Ok-clause-within : goal.returns-in-Ok-clause-within
returns-in-Ok-clause-within g c =
    let h = c.read_all.ensures.reads in
    let few = answers_few h.0 in
    let n = ap length h.3 in
    let m = h.2 in
    omega arith

pub returns-in-Ok-clause-current : goal.returns-in-Ok-clause-current
returns-in-Ok-clause-current g c knowns show = c.merges_are_current.ensures c.args.key.now (states_of c.read_all.new.found.items) knowns c.in-Ok.merged show (subst (λ (found : List Answer). IsMergeOf c.args.key.now (states_of found) c.in-Ok.merged) c.deref.ensures.value (c.in-Ok.ensures.merge c.args.key.now))

pub returns-in-Ok-clause-union : goal.returns-in-Ok-clause-union
returns-in-Ok-clause-union g c knowns show unique none =
    (c.forms_agree.ensures.shows (all_writes knowns) c.in-Ok.merged unique none).1
    (c.merges_are_current.ensures c.args.key.now (states_of c.read_all.new.found.items) knowns c.in-Ok.merged (each_shows c.forms_agree.ensures.shows knowns (states_of c.read_all.new.found.items) show unique none)
    (subst (λ (found : List Answer). IsMergeOf c.args.key.now (states_of found) c.in-Ok.merged) c.deref.ensures.value (c.in-Ok.ensures.merge c.args.key.now)))
