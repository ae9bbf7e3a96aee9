use Rattle.std.proofs.Common.{◌≡◌, rules}
use Rattle.std.specs.Prelude.{All, IsTrue}
use Rattle.key_state.specs.Parts.{summary_of}
use Rattle.peers.specs.declared.peers.Answer.{Answer}
use Rattle.repair.proofs.RepairLemmas.{none_delivered}
use Rattle.repair.proofs.repairing.are_alike.Goals as goal

pub returns : goal.returns
returns c = λ alike.
    let same : IsTrue c.all.result → All (λ (a : Answer). summary_of a.state ≡ summary_of c.in-Some.first.now.state) c.in-Some.others.now = search rules in
    none_delivered c.args.answers.now c.in-Some.first.now c.in-Some.others.now c.in-Some.ensures.cases.0 c.siblings-siblings.ensures.state.clock (same alike)
