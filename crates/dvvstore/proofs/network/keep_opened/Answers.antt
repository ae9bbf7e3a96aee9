use Rattle.std.proofs.Common.{◌*◌, ◌+◌, ℕ, Ok, Some, ap, map, refl, subst, vec_len}
use Rattle.cluster_stamps.specs.declared.view.Size.{Size}
use Rattle.hook_readers.specs.Edits.{Finds, Names}
use Rattle.hook_sharing.specs.Taking.{Takes}
use Rattle.dvvstore.specs.Keeping.{LeavesFolded}
use Rattle.dvvstore.specs.Visits.{BeginOver}
use Rattle.dvvstore.specs.declared.session.Left.{Left}
use Rattle.dvvstore.proofs.Over.{kept_over, lost_over}
use Rattle.dvvstore.proofs.Staying.{refused_so, unserved_so}
use Rattle.dvvstore.proofs.Told.{kept_where_told}
use Rattle.dvvstore.proofs.network.keep_opened.Goals as goal

pub returns-in-Ok-Kept-clause-told : goal.returns-in-Ok-Kept-clause-told
returns-in-Ok-Kept-clause-told g c =
    kept_where_told (g.O.Write.contents c.args.out.now) (g.O.Write.contents c.live.new.out) (g.O.Write.contents c.finish.new.out) c.finish.result c.in-Ok-Kept.ensures.told c.finish.ensures.told

pub returns-in-Ok-Lost-clause-told : goal.returns-in-Ok-Lost-clause-told
returns-in-Ok-Lost-clause-told g c =
    kept_where_told (g.O.Write.contents c.args.out.now) (g.O.Write.contents c.live.new.out) (g.O.Write.contents c.lose.new.out) c.lose.result c.in-Ok-Lost.ensures.told c.lose.ensures.told

pub returns-in-Err-clause-refused : goal.returns-in-Err-clause-refused
returns-in-Err-clause-refused g c = refused_so c.in-Err.why _ (g.O.Write.contents c.live.new.out) _ _ c.in-Err.ensures.told c.unserved.ensures.refused

pub returns-in-Err-clause-untold : goal.returns-in-Err-clause-untold
returns-in-Err-clause-untold g c = unserved_so c.in-Err.why _ (g.O.Write.contents c.live.new.out) _ _ c.in-Err.ensures.told c.unserved.ensures.memory

pub returns-in-Ok-Kept-clause-kept : goal.returns-in-Ok-Kept-clause-kept
returns-in-Ok-Kept-clause-kept g c = λ minute before opens.
    let finds = g.F.Folder.finds in
    let does = g.F.Folder.does in
    let opened = c.args.opened in
    let spread = c.among-spread.result in
    let held = c.in-Ok.held in
    let tables = map (λ t. t.listed) c.args.keeping.tables.items in
    let size : Size = record { first = opened.number * 256; vnodes = spread.vnodes; passes = 2 * vec_len c.args.keeping.tables + spread.vnodes + 1 } in
    let begins = subst (λ (l : Left). LeavesFolded Finds Names Takes (Some c.args.folder.now) size.first size.vnodes held.files.items (BeginOver Takes size spread.copies tables (Some held.hooks.items)) (Ok l)) c.in-Ok-Kept.field-0-is c.in-Ok-Kept.ensures.kept in
    kept_over finds does minute tables before c.args.folder.now c.finish.new.folder opened size spread.copies held.hooks.items held.files.items c.in-Ok-Kept.served c.finish.result
    opens refl spread.some spread.many c.among-spread.ensures.copies (ap (λ v. v.items) c.in-Ok.ensures.hooks) c.in-Ok.ensures.placed begins c.finish.ensures.says c.finish.ensures.put

pub returns-in-Ok-Lost-clause-kept : goal.returns-in-Ok-Lost-clause-kept
returns-in-Ok-Lost-clause-kept g c = λ minute before opens.
    lost_over g.F.Folder.finds g.F.Folder.does minute (map (λ t. t.listed) c.args.keeping.tables.items) before c.args.folder.now c.lose.result c.lose.ensures.unkept
