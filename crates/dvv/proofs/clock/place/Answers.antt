use Rattle.std.proofs.Common.{rules}
use Rattle.std.proofs.lemmas.List.Sorted.{answers_always}
use Rattle.dvv.proofs.Searches.{searched}
use Rattle.dvv.proofs.clock.place.Goals as goal

-- the closure gives an entry's vnode
pub returns-clause-found : goal.returns-clause-found
returns-clause-found c = (searched c.args.entries.now c.requires.rising c.args.vnode _ c.binary_search_by_key.ensures.bound (c.binary_search_by_key.ensures.position (λ e. e.vnode) (answers_always _ _ _ (λ f a r g called. search rules)))).0

pub returns-clause-gap : goal.returns-clause-gap
returns-clause-gap c = (searched c.args.entries.now c.requires.rising c.args.vnode _ c.binary_search_by_key.ensures.bound (c.binary_search_by_key.ensures.position (λ e. e.vnode) (answers_always _ _ _ (λ f a r g called. search rules)))).1
