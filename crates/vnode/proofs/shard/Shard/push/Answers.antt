use Rattle.std.proofs.Common.{◌∙◌, ◌∷◌, ◌++◌, [], ap, refl}
use Rattle.std.specs.Map.{lookup}
use Rattle.vnode.specs.Shards.{Shard, key_eq}
use Rattle.vnode.proofs.Entries.{more_entries, more_zipped, unique_entries, unique_kept}
use Rattle.vnode.proofs.Rings.{more_of}
use Rattle.vnode.proofs.shard.Shard.push.Goals as goal

pub returns-in_err-reserve-clause-unique : goal.returns-in_err-reserve-clause-unique
returns-in_err-reserve-clause-unique c = unique_entries c.self.inside.index.hashes c.self.inside.keys.keys c.self.inside.states.states c.self.invariant.0

pub returns-in_err-reserve-2-clause-unique : goal.returns-in_err-reserve-2-clause-unique
returns-in_err-reserve-2-clause-unique c = unique_kept c.self.inside.index.hashes c.self.inside.keys.keys c.reserve-2.new.self.keys c.self.inside.states.states c.self.inside.states.states c.self.invariant.0 c.reserve-2.ensures.same refl

pub returns-in_err-reserve-3-clause-unique : goal.returns-in_err-reserve-3-clause-unique
returns-in_err-reserve-3-clause-unique c =
    unique_kept c.self.inside.index.hashes c.self.inside.keys.keys c.reserve-2.new.self.keys c.self.inside.states.states c.reserve-3.new.self.states c.self.invariant.0 c.reserve-2.ensures.same c.reserve-3.ensures.same

pub invariant_of-self-2 : goal.invariant_of-self-2
invariant_of-self-2 c = (
  more_entries c.self.inside.index.hashes c.self.inside.keys.keys c.self.inside.states.states c.args.hash c.args.key c.args.state c.push.new.self.hashes c.append.new.self.keys c.append-2.new.self.states
      (c.push.ensures.hashes ∙ ap (λ hs. hs ++ c.args.hash ∷ []) c.reserve.ensures.hashes) (c.append.ensures ∙ ap (λ ks. ks ++ c.args.key ∷ []) c.reserve-2.ensures.same)
      (c.append-2.ensures ∙ ap (λ vs. vs ++ c.args.state ∷ []) c.reserve-3.ensures.same) c.self.invariant.0 (ap (λ (s : Shard). lookup (key_eq c.args.key) s.entries) c.self.view_is ∙ c.requires),
  more_of c.self.inside.ring_places c.self.inside.keys.keys c.append.new.self.keys c.args.key (c.append.ensures ∙ ap (λ ks. ks ++ c.args.key ∷ []) c.reserve-2.ensures.same) c.self.invariant.1,
)

pub returns-clause-entries : goal.returns-clause-entries
returns-clause-entries c =
    more_zipped c.self.inside.index.hashes c.self.inside.keys.keys c.self.inside.states.states c.args.hash c.args.key c.args.state c.push.new.self.hashes c.append.new.self.keys c.append-2.new.self.states
    (c.push.ensures.hashes ∙ ap (λ hs. hs ++ c.args.hash ∷ []) c.reserve.ensures.hashes) (c.append.ensures ∙ ap (λ ks. ks ++ c.args.key ∷ []) c.reserve-2.ensures.same)
    (c.append-2.ensures ∙ ap (λ vs. vs ++ c.args.state ∷ []) c.reserve-3.ensures.same) c.self.invariant.0 ∙ ap (λ (s : Shard). s.entries ++ (c.args.key, c.args.state) ∷ []) c.self.view_is

pub returns-clause-unique : goal.returns-clause-unique
returns-clause-unique c = unique_entries c.push.new.self.hashes c.append.new.self.keys c.append-2.new.self.states (invariant_of-self-2 c).0
