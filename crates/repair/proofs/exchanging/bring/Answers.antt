use Rattle.std.proofs.Common.{refl, subst}
use Rattle.std.proofs.lemmas.Bool.{iff_false}
use Rattle.peers.specs.Calls.{StateOf, SummaryAt}
use Rattle.repair.specs.Exchanges.{Untold, Unread, Alike, Brought}
use Rattle.repair.proofs.exchanging.bring.Goals as goal

pub returns-in-Err : goal.returns-in-Err
returns-in-Err g c = (
  Untold c.in-Err.field-0,
  (c.summary_at.new.self, subst (λ b. g.P.Peers.happens c.args.peers.now (SummaryAt c.args.to c.args.key.now b) c.summary_at.new.self) c.in-Err.is c.summary_at.ensures, refl),
  tt,
  refl,
  refl,
)

pub returns-in-Err-state_of : goal.returns-in-Err-state_of
returns-in-Err-state_of g c = (
  Unread c.in-Ok.told c.in-Err-state_of.field-0,
  (
    c.summary_at.new.self,
    subst (λ b. g.P.Peers.happens c.args.peers.now (SummaryAt c.args.to c.args.key.now b) c.summary_at.new.self) c.in-Ok.is c.summary_at.ensures,
    (c.state_of.new.self, subst (λ b. g.P.Peers.happens c.summary_at.new.self (StateOf c.args.from c.args.key.now b) c.state_of.new.self) c.in-Err-state_of.is c.state_of.ensures, refl),
  ),
  tt,
  refl,
  refl,
)

pub returns-then-is_of : goal.returns-then-is_of
returns-then-is_of g c = (
  Alike c.in-Ok.told c.in-Ok-state_of.own,
  (
    c.summary_at.new.self,
    subst (λ b. g.P.Peers.happens c.args.peers.now (SummaryAt c.args.to c.args.key.now b) c.summary_at.new.self) c.in-Ok.is c.summary_at.ensures,
    (c.state_of.new.self, subst (λ b. g.P.Peers.happens c.summary_at.new.self (StateOf c.args.from c.args.key.now b) c.state_of.new.self) c.in-Ok-state_of.is c.state_of.ensures, refl),
  ),
  c.is_of.ensures.0 c.if-is_of.true,
  refl,
  refl,
)

pub returns : goal.returns
returns g c =
    let s = c.send.ensures in (
      Brought c.in-Ok.told c.in-Ok-state_of.own s.0,
      (
        c.summary_at.new.self,
        subst (λ b. g.P.Peers.happens c.args.peers.now (SummaryAt c.args.to c.args.key.now b) c.summary_at.new.self) c.in-Ok.is c.summary_at.ensures,
        (c.state_of.new.self, subst (λ b. g.P.Peers.happens c.summary_at.new.self (StateOf c.args.from c.args.key.now b) c.state_of.new.self) c.in-Ok-state_of.is c.state_of.ensures, s.1),
      ),
      iff_false c.is_of.ensures c.if-is_of.false,
      s.2,
      s.3,
    )
