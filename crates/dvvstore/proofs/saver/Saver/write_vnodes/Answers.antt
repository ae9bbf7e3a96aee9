use denote.RattleType.{RattleType}
use denote.Exit.{no}
use denote.Param.Send.{IsSync, arg_send, arg_sync, param_send, param_sync, sendable, shr_sync}
use denote.Struct.Tuple.{TupleAt}
use mir.Syntax.{Sym}
use mathlib.Core.List.{[], ◌∷◌}
use Rattle.std.proofs.Common.{◌≡◌, ◌∙◌, ◌+◌, ℕ, List, Result, Ok, Err, IfOk, ap, length, map, rules, subst, sym}
use Rattle.std.specs.Prelude.{slice_index_or}
use Rattle.cluster_stamps.specs.declared.view.View.{View}
use Rattle.dvvstore.specs.Asides.{AllRead, AreAllKept, IsKeptBy, Reads}
use Rattle.dvvstore.proofs.Growing.{all_read_same}
use Rattle.dvvstore.proofs.Sides.{HasCounted, came_back, all_kept_first, all_read_first, kept_there, reach, read_there}
use Rattle.dvvstore.proofs.Sent.{shelf_sync, side_send, signs_sync}
use Rattle.dvvstore.proofs.saver.Saver.write_vnodes.Goals as goal

-- three captures
captures_sync : (ν : Sym) (A B C : RattleType) → IsSync A → IsSync B → IsSync C → IsSync (TupleAt ν (A ∷ B ∷ C ∷ []))
captures_sync ν A B C a b c = search (sendable) depth 30

pub for_each_mut-requires-sync-F : goal.for_each_mut-requires-sync-F
for_each_mut-requires-sync-F g c κs within =
    param_sync 2 _ (arg_sync _ no _ (captures_sync _ _ _ _ (shr_sync _ _ _ (shelf_sync _ c.type_bounds.sync-F)) (shr_sync _ _ _ c.type_bounds.sync-R) (shr_sync _ _ _ (signs_sync _))))

pub for_each_mut-requires-send-T : goal.for_each_mut-requires-send-T
for_each_mut-requires-send-T g c κs within = param_send 1 _ (arg_send _ no _ (side_send _ _ _ _ c.type_bounds.send-B c.type_bounds.sync-B c.type_bounds.sync-R))

pub returns-in_default-clause-read : goal.returns-in_default-clause-read
returns-in_default-clause-read g c = all_read_same c.args.cluster.now.first c.args.spares.items

pub returns-clause-read : goal.returns-clause-read
returns-clause-read g c =
    let size = c.args.cluster.now in
    let spares = c.args.spares.items in
    let olds = c.deref_mut.result.now in
    let news = c.for_each_mut.new.s in
    let made : map (λ s. s.peers) olds ≡ map (reach size) spares = ap (map (λ s. s.peers)) c.deref_mut.ensures.value ∙ c.sides_of-sides.ensures.each in
    let back : c.passes_of.result.items ≡ map (λ s. s.peers.pass) news =
    c.passes_of.ensures.each ∙ ap (map (λ s. s.peers.pass)) (came_back c.sides_of-sides.result.len news c.sides_of-sides.result.items (c.for_each_mut.auto.s ∙ ap length c.deref_mut.ensures.value) c.sides_of-sides.result.ok.0) in
    subst (AllRead size.first spares) (sym back) (all_read_first (λ s. s.peers) size spares olds news made c.for_each_mut.auto.s (λ i d below.
    let job = (c.for_each_mut.ensures i d below).1 in
    let read : Reads (job.argument.now.peers.size.first + i) job.argument.now.peers.pass job.after_call.now.peers.pass = search rules in
    read_there (λ s. s.peers) size (slice_index_or olds i d) (slice_index_or news i d) job.argument.now job.after_call.now i job.argument_is job.left read))

pub returns-clause-put : goal.returns-clause-put
returns-clause-put g c =
    let does = g.F.Folder.does in
    let shelf = c.args.self.now.shelf in
    let size = c.args.cluster.now in
    let spares = c.args.spares.items in
    let olds = c.deref_mut.result.now in
    let news = c.for_each_mut.new.s in
    let made : map (λ s. s.peers) olds ≡ map (reach size) spares = ap (map (λ s. s.peers)) c.deref_mut.ensures.value ∙ c.sides_of-sides.ensures.each in
    let same = came_back c.sides_of-sides.result.len news c.sides_of-sides.result.items (c.for_each_mut.auto.s ∙ ap length c.deref_mut.ensures.value) c.sides_of-sides.result.ok.0 in
    let back : c.passes_of.result.items ≡ map (λ s. s.peers.pass) news = c.passes_of.ensures.each ∙ ap (map (λ s. s.peers.pass)) same in
    let counted : IfOk c.all_keys-came.result (HasCounted (λ s. s.came) news) =
    subst (λ sides. IfOk c.all_keys-came.result (HasCounted (λ s. s.came) sides)) (c.deref.ensures.value ∙ same) c.all_keys-came.ensures in
    kept_of c.all_keys-came.result counted (λ keys has.
    subst (λ (passes : List View). AreAllKept does shelf.folder shelf.first spares passes keys) (sym back)
    (all_kept_first (λ s. s.peers) size (λ s. s.came) does shelf.folder shelf.first spares olds news keys made c.for_each_mut.auto.s has (λ i d below.
    let job = (c.for_each_mut.ensures i d below).1 in
    let kept : IfOk job.after_call.now.came (IsKeptBy does shelf.folder (shelf.first + i) i job.argument.now.peers.pass job.after_call.now.peers.pass) = search rules in
    kept_there (λ s. s.peers) size (λ s. s.came) does shelf.folder shelf.first (slice_index_or olds i d) (slice_index_or news i d) job.argument.now job.after_call.now i job.argument_is job.left kept)))
  where
    kept_of : {E : Type 0} {P Q : ℕ → Type 0} (came : Result ℕ E) → IfOk came P → ((n : ℕ) → P n → Q n) → IfOk came Q
    kept_of (Ok n) p f = f n p
    kept_of (Err why) p f = p
