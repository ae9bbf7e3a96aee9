use Rattle.std.proofs.Common.{◌∙◌, ◌++◌, ap, sym}
use Rattle.std.proofs.lemmas.Result.{on_ok_weaker}
use Rattle.vnode.specs.Shards.{Shard, known_keys}
use Rattle.vnode.proofs.Entries.{known-zip}
use Rattle.vnode.proofs.shard.Shard.list_keys.Goals as goal

pub returns : goal.returns
returns c =
    on_ok_weaker c.list.result
    (λ listed. listed ∙ ap (λ ks. c.args.names.now.keys ++ ks) (sym (known-zip c.self.inside.keys.keys c.self.inside.states.states c.self.invariant.0.each_stated) ∙ ap (λ (s : Shard). known_keys s.entries) c.self.view_is))
    c.list.ensures
