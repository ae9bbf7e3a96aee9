use Rattle.std.proofs.Common.{◌+◌, ◌-◌, ◌^◌, Bool, min, if◌then◌else◌, sym, ap, ◌∙◌, subst}
use Rattle.peers.specs.Calls.{Made, puts_and_reads}
use Rattle.peer_routing.specs.declared.router.Router.{Router}
use Rattle.peer_routing.proofs.Both.{by_own, by_others}
use Rattle.peer_routing.proofs.router.RouterPeers.put_and_read_at.Goals.{in-Some, in-None}
use Rattle.peer_routing.proofs.router.RouterPeers.put_and_read_at.Goals as goal

pub returns : goal.returns
returns g c =
    let R = Router g.row.P.Denot g.row.Q.Denot in
    let old : R = c.args.self.now in
    let new : R = c.count_failure.new.self in
    let back = c.match-own_index.back in
    let key = c.args.key.now in
    let seen = c.args.seen.now in
    let content = c.args.content.now in
    elim c.match-own_index.branch [
      | in-Some w ↦
          (let own = w.put_and_read_at-back.new.self in
          let at = w.in-Some.at in
          by_own g.P.Peers.happens g.Q.Peers.happens old new c.args.i key seen content back at own (sym c.own_index.ensures ∙ w.in-Some.is)
          (subst (λ b. Made g.P.Peers.happens old.own (puts_and_reads at key seen content b) own) (sym w.back-is) w.put_and_read_at-back.ensures)
          (c.count_failure.ensures ∙ ap (λ (m : R). record m { failures = if c.fails_within.result then min (m.failures + 1) (2 ^ 64 - 1) else m.failures }) w.self-is
          ∙ ap (λ (b : Bool). record old { own = own; failures = if b then min (old.failures + 1) (2 ^ 64 - 1) else old.failures }) c.fails_within.ensures))
      | in-None w ↦
          (let others = w.put_and_read_at-back-in-None.new.self in
          by_others g.P.Peers.happens g.Q.Peers.happens old new c.args.i key seen content back others (sym c.own_index.ensures ∙ w.in-None.is)
          (subst (λ b. Made g.Q.Peers.happens old.others (puts_and_reads c.args.i key seen content b) others) (sym w.back-is) w.put_and_read_at-back-in-None.ensures)
          (c.count_failure.ensures ∙ ap (λ (m : R). record m { failures = if c.fails_within.result then min (m.failures + 1) (2 ^ 64 - 1) else m.failures }) w.self-is
          ∙ ap (λ (b : Bool). record old { others = others; failures = if b then min (old.failures + 1) (2 ^ 64 - 1) else old.failures }) c.fails_within.ensures))
    ]
