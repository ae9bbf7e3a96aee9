use Rattle.http_connection.proofs.talk.Talk.first_request.Goals as goal

pub invariant_of-self-2 : goal.invariant_of-self-2
invariant_of-self-2 c = (
  rw c.unread.ensures at c.in_ok-asking.ensures.known,
  c.wanted_by-self-inside.ensures c.args.copies _ (rw c.unread.ensures at c.in_ok-asking.ensures.finds),
)
