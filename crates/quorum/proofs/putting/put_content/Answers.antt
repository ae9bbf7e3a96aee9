use Rattle.std.proofs.Common.{List, ◌∷◌, ◌++◌, refl, sym, ap, ◌∙◌}
use Rattle.peers.specs.Calls.{Call, PutAt}
use Rattle.quorum.specs.Puts.{gathers, put_of, reads_behind}
use Rattle.peers.proofs.CallLemmas.{made_append}
use Rattle.quorum.proofs.PutLemmas.{tries_again, goes_on, ahead_unread}
use Rattle.quorum.proofs.putting.put_content.Goals as goal

pub returns-then-is_ahead : goal.returns-then-is_ahead
returns-then-is_ahead g c =
    let r = c.args.request in
    let b = c.gather.ensures in
    let f = c.finish.ensures in
    let first = c.store-first.result in
    let second = c.store-second.result in
    let put : Call = PutAt r.coordinator r.key.now r.seen.now r.content.now (put_of first) in
    let again : Call = PutAt r.coordinator r.key.now r.seen.now r.content.now (put_of second) in
    let read = reads_behind r.coordinator r.key.now second in
    let brought = gathers r.coordinator r.key.now r.others.now b.0 in
    let more = brought ++ (again ∷ (read ++ f.0)) in
    let ahead = sym c.is_ahead.ensures ∙ c.if-is_ahead.true in
    let rest = reads_behind r.coordinator r.key.now first ++ more in (
      put ∷ rest,
      made_append g.P.Peers.happens c.args.peers.now c.store-first.new.peers c.finish.new.peers (put ∷ reads_behind r.coordinator r.key.now first) more c.store-first.ensures.calls
          (made_append g.P.Peers.happens c.store-first.new.peers c.gather.new.peers c.finish.new.peers brought (again ∷ (read ++ f.0)) b.1
          (made_append g.P.Peers.happens c.gather.new.peers c.store-second.new.peers c.finish.new.peers (again ∷ read) f.0 c.store-second.ensures.calls f.1)),
      (
        put_of first,
        rest,
        refl,
        tries_again r.coordinator r.others.now r.key.now r.w r.seen.now r.content.now (put_of first) rest c.finish.result ahead
            (b.0, put_of second, read ++ f.0, b.2, ap (λ (l : List Call). l ++ more) (ahead_unread r.coordinator r.key.now first ahead), f.2),
      ),
    )

pub returns : goal.returns
returns g c =
    let r = c.args.request in
    let f = c.finish-2.ensures in
    let first = c.store-first.result in
    let put : Call = PutAt r.coordinator r.key.now r.seen.now r.content.now (put_of first) in
    let read = reads_behind r.coordinator r.key.now first in (
      put ∷ (read ++ f.0),
      made_append g.P.Peers.happens c.args.peers.now c.store-first.new.peers c.finish-2.new.peers (put ∷ read) f.0 c.store-first.ensures.calls f.1,
      (put_of first, read ++ f.0, refl, goes_on r.coordinator r.others.now r.key.now r.w r.seen.now r.content.now (put_of first) (read ++ f.0) c.finish-2.result (sym c.is_ahead.ensures ∙ c.if-is_ahead.false) f.2),
    )
