use Rattle.std.proofs.Common.{◌+◌, [], sym, ap, ◌∙◌}
use Rattle.journal.specs.Logs.{Log}
use Rattle.cluster_vnode.proofs.Vnodes.{first_of_fresh, rest_of_fresh}
use Rattle.cluster_vnode.proofs.dealing.deal_vnodes.Goals as goal

pub new-requires-clause-vnode : goal.new-requires-clause-vnode
new-requires-clause-vnode g c =
    let i = c.loop-number.invariant in record {
      history = record { vnode = c.args.size.now.first + c.loop-number.number; told = [] };
      view = ap (λ m. m.0) c.take_rest-rest.ensures.left.1 ∙ first_of_fresh c.args.size.now.first c.loop-number.number c.args.size.now.vnodes c.loop-number.card.me.0 c.loop-number-test.true (ap (λ m. m.0) i.card);
      number_is = ap (λ (l : Log). l.vnode) (sym c.seeded-vnode.ensures);
      journal_is = ap (λ (l : Log). l.entries) (sym c.seeded-vnode.ensures);
      answered = tt;
    }

pub loop-number-preserved : goal.loop-number-preserved
loop-number-preserved g c =
    let i = c.loop-number.invariant in record {
      table = c.take_rest-rest.ensures.taken.0 ∙ i.table;
      card = c.take_rest-rest.ensures.taken.1 ∙ ap (λ v. (v, [])) (rest_of_fresh c.args.size.now.first c.loop-number.number c.args.size.now.vnodes c.loop-number.card.me.0 c.loop-number-test.true (ap (λ m. m.0) i.card));
      count = c.push_reserved.ensures.len ∙ ap (λ n. n + 1) i.count;
      capacity = c.push_reserved.ensures.capacity ∙ i.capacity;
    }
