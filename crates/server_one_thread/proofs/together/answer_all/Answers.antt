use Rattle.std.proofs.Common.{◌≡◌, ℕ, List, Some, arith, length, refl, slice_get, subst}
use Rattle.http_connections.specs.declared.clients.Client.{Client}
use Rattle.http_connections.specs.Halls.{seat_at}
use Rattle.http_connections.specs.Sockets.{unborn}
use Rattle.server_one_thread.specs.Together.{IsDone, Plays}
use Rattle.server_one_thread.proofs.TogetherLemmas.{plays_lead}
use Rattle.server_one_thread.proofs.together.answer_all.Goals as goal

pub returns-then-branch : goal.returns-then-branch
returns-then-branch g c = λ now changes is shows are.
    let start = c.args.store.now in
    let people = c.attend_all.new.ring.clients.items in
    let deliveries = c.args.deliveries.now in
    let began = c.halls_begin.ensures.stands start (λ n. unborn) (seat_at c.in_ok-hall.hall) (λ n. refl) c.in_ok-hall.ensures in
    let came = c.admit_all.ensures (g.B.Backend.copies start) began.log (λ n. unborn) c.in_ok-ring.ensures began.each in
    let first : Plays g.B.Backend.gives g.B.Backend.copies start start c.admit_all.new.ring.clients.items c.admit_all.new.hall =
    (came.0, came.1, record { same = began.same; log = began.log; runs = began.runs; each = came.2 }) in
    let size : length people ≡ c.args.clients = omega (arith, c.if-len-clients.true, c.len.ensures) in
    let done : (n : ℕ) (client : Client) → slice_get people n ≡ Some client → IsDone n deliveries client =
    subst (λ (ls : List Client). (n : ℕ) (client : Client) → slice_get ls n ≡ Some client → IsDone n deliveries client) c.deref.ensures.value (c.in_ok-are_done.ensures c.if-branch.true) in
    plays_lead c.changes_add_up.ensures c.hook_is_of_changes.ensures c.journals_go_on.ensures.more c.siblings_are_current.ensures.siblings c.siblings_are_current.ensures.clock c.merges_are_current.ensures
    g.B.Backend.gives g.B.Backend.copies now is c.args.clients deliveries start c.attend_all.new.store people c.attend_all.new.hall changes shows are
    (c.in_ok-attend_all.ensures start (c.look_at_all.ensures start first)) size done
