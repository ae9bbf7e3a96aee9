use Rattle.std.proofs.Common.{◌≡◌, sym, subst, arith}
use Rattle.cluster_stamps.specs.declared.view.Told.{Told}
use Rattle.atomic_table.specs.Table.{Allows}
use Rattle.cluster_stamps.specs.Rule.{call_of, Rules, AppendsOf}
use Rattle.cluster_stamps.proofs.Plays.{append_allowed}
use Rattle.cluster_stamps.proofs.word.Stamps.append_as.Goals as goal

pub load-requires : goal.load-requires
load-requires g c =
    let r = c.requires in
    let h = r.5 in (
      r.1,
      omega arith,
      subst (λ (t : Told). Allows (Rules c.args.self.now.table.shared.key) c.args.self.now.table.shared.table_id.slots c.args.card.now.id c.args.card.now.me 0 (λ n. n) (λ n after. AppendsOf t c.args.card.now.me.0 after.0 × (after.1 ≡ c.args.card.now.me.1))) (sym r.0)
          (append_allowed c.args.self.now.table.shared.key c.args.self.now.table.shared.table_id.slots c.args.card.now.id c.args.card.now.me h.0 (call_of c.args.vnode c.args.at c.args.stamp g.Q.Asking.request c.args.outcome.now) r.2 r.3 h.1 r.4 h.2 h.3),
    )
