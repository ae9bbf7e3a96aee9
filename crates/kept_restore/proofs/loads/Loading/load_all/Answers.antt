use denote.RattleType.{RattleType}
use denote.Exit.{no}
use denote.Param.Send.{IsSend, IsSync, arg_sync, param_sync, sendable, shr_slice_sync, shr_sync}
use denote.Param.SendFields.{declared_sync}
use denote.Struct.Tuple.{TupleAt}
use mir.Syntax.{Sym, erased}
use mathlib.Core.List.{[], ◌∷◌}
use Rattle.std.proofs.Common.{◌≡◌, ◌+◌, None, OnOk, Ok, Err, Result, rules}
use Rattle.std.specs.Prelude.{slice_index_or}
use Rattle.std.proofs.alloc.Global.TheSendSync as heap
use Rattle.cluster.proofs.Sent.{cluster_sync}
use Rattle.cluster_vnode.specs.declared.pass.Room as room
use Rattle.kept_restore.specs.contracts.loads.Loading as Loading
use Rattle.kept_file.specs.Files.{records_at}
use Rattle.kept_restore.specs.Loads.{HasLoaded}
use Rattle.kept_restore.proofs.Loaded.{all_have_loaded, at_place}
use Rattle.kept_restore.proofs.Sent.{file_sync}
use Rattle.kept_restore.proofs.loads.Loading.load_all.Goals as goal

loading_sync : (l : _) (B R T : RattleType) (g : room.Ghosts B.Denot) → IsSend B → IsSync B → IsSync R → IsSync T → IsSync (Loading.the_row l B R T g)
loading_sync l B R T g s y r t =
    declared_sync (Loading.the_type l B R T g) (heap.the_sync, (shr_sync _ _ _ r, (shr_sync _ _ _ (cluster_sync B g s y), (shr_sync _ _ _ t, tt))))

-- two captures
captures_sync : (ν : Sym) (A B : RattleType) → IsSync A → IsSync B → IsSync (TupleAt ν (A ∷ B ∷ []))
captures_sync ν A B a b = search (sendable) depth 30

pub for_each_mut-requires-sync-F : goal.for_each_mut-requires-sync-F
for_each_mut-requires-sync-F g c κs within =
    param_sync 2 _ (arg_sync _ no _ (captures_sync _ _ _ (shr_sync _ _ _ (loading_sync _ _ _ _ _ c.type_bounds.send-B c.type_bounds.sync-B c.type_bounds.sync-R c.type_bounds.sync-T)) (shr_slice_sync _ _ _ file_sync)))

pub returns : goal.returns
returns g c =
    let first = c.args.self.now.cluster.now.first in
    let files = c.args.files.now in
    let olds = c.args.loaders.now in
    let news = c.for_each_mut.new.s in
    record {
      loaded = loaded_if c.all_loaded.result c.all_loaded.ensures
          (all_have_loaded (λ l. l.pass) (λ l. l.fault) first files olds news c.for_each_mut.auto.s (λ i d below.
          let job = (c.for_each_mut.ensures i d below).1 in
          let call : job.after_call.now.fault ≡ None → HasLoaded job.argument.now.pass job.after_call.now.pass (first + i) (records_at files i) = search rules in
          at_place (λ l. l.pass) (λ l. l.fault) first files (slice_index_or olds i d) (slice_index_or news i d) job.argument.now job.after_call.now (first + i) (records_at files i) job.argument_is job.left call));
    }
  where
    loaded_if : {E P Q : Type 0} (r : Result Unit E) → OnOk r P → (P → Q) → OnOk r Q
    loaded_if (Ok done) p f = f p
    loaded_if (Err why) p f = p
