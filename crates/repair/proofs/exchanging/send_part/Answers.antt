use Rattle.std.proofs.Common.{refl, ap, ◌∙◌, Ok, Err, Result}
use Rattle.peers.specs.declared.fault.PeerFault.{PeerFault}
use Rattle.peers.specs.declared.peers.PartAnswer.{PartAnswer}
use Rattle.peers.specs.declared.peers.PartAnswer.TheVariants.{Merged, Missing}
use Rattle.repair.specs.Exchanges.{InPart, AfterPart}
use Rattle.repair.proofs.ExchangeLemmas.{part_gone}
use Rattle.repair.proofs.exchanging.send_part.Goals as goal

pub returns-in-Ok-Merged : goal.returns-in-Ok-Merged
returns-in-Ok-Merged g c =
    let answer : PartAnswer → Result PartAnswer PeerFault = λ a. Ok a in (
      InPart (Ok c.in-Ok-Merged.field-0-0),
      (
        c.merge_part_at.new.self,
        part_gone g.P.Peers.happens c.args.peers.now c.merge_part_at.new.self c.args.to c.args.key.now c.args.told.now.summary c.args.own.now c.args.part.now c.merge_part_at.result (Ok (Merged c.in-Ok-Merged.field-0-0)) c.requires
            (c.in-Ok-Merged.is ∙ ap answer c.in-Ok-Merged.field-0-is) c.merge_part_at.ensures,
        refl,
      ),
      refl,
      refl,
    )

pub returns-in-Ok-Missing : goal.returns-in-Ok-Missing
returns-in-Ok-Missing g c =
    let answer : PartAnswer → Result PartAnswer PeerFault = λ a. Ok a in
    let s = c.send_whole.ensures in (
      AfterPart s.0,
      (
        c.merge_part_at.new.self,
        part_gone g.P.Peers.happens c.args.peers.now c.merge_part_at.new.self c.args.to c.args.key.now c.args.told.now.summary c.args.own.now c.args.part.now c.merge_part_at.result (Ok Missing) c.requires
            (c.in-Ok-Missing.is ∙ ap answer c.in-Ok-Missing.field-0-is) c.merge_part_at.ensures,
        (c.send_whole.new.peers, s.1, refl),
      ),
      s.2,
      refl,
    )

pub returns-in-Err : goal.returns-in-Err
returns-in-Err g c = (
  InPart (Err c.in-Err.field-0),
  (
    c.merge_part_at.new.self,
    part_gone g.P.Peers.happens c.args.peers.now c.merge_part_at.new.self c.args.to c.args.key.now c.args.told.now.summary c.args.own.now c.args.part.now c.merge_part_at.result (Err c.in-Err.field-0) c.requires c.in-Err.is
        c.merge_part_at.ensures,
    refl,
  ),
  refl,
  refl,
)
