use Rattle.kept_folder.specs.Settings.{Says}
use Rattle.kept_folder.proofs.Setting.{copies_added, first_of, number_added, right_copies, says_as, snapshot_added, sync_added}
use Rattle.kept_folder.proofs.settings.Written.add.Goals as goal

pub returns-in-Snapshot : goal.returns-in-Snapshot
returns-in-Snapshot c = λ lines right says yes.
    let first = c.is_first.ensures yes in
    says_as lines c.args.line _ _ _ _ _ c.in-Snapshot.is (snapshot_added lines c.in-Snapshot.every _ _ _ _ (first_of c.args.self.now.every (λ known. Says lines known c.args.self.now.least c.args.self.now.copies c.args.self.now.sync) first.0 says) first.1)

pub returns-in-Number : goal.returns-in-Number
returns-in-Number c = λ lines right says yes.
    let first = c.is_first-in-Number.ensures yes in
    says_as lines c.args.line _ _ _ _ _ c.in-Number.is (number_added lines c.in-Number.least _ _ _ _ (first_of c.args.self.now.least (λ known. Says lines c.args.self.now.every known c.args.self.now.copies c.args.self.now.sync) first.0 says) first.1)

pub returns-in-Copies : goal.returns-in-Copies
returns-in-Copies c = λ lines right says yes.
    let first = c.is_first-in-Copies.ensures yes in
    let few = right_copies c.args.line c.in-Copies.copies c.in-Copies.is right in
    says_as lines c.args.line _ _ _ _ _ c.in-Copies.is (copies_added lines c.in-Copies.copies _ _ _ _ few.0 few.1 (first_of c.args.self.now.copies (λ known. Says lines c.args.self.now.every c.args.self.now.least known c.args.self.now.sync) first.0 says) first.1)

pub returns-in-Sync : goal.returns-in-Sync
returns-in-Sync c = λ lines right says yes.
    let first = c.is_first-in-Sync.ensures yes in
    says_as lines c.args.line _ _ _ _ _ c.in-Sync.is (sync_added lines c.in-Sync.sync _ _ _ _ (first_of c.args.self.now.sync (λ known. Says lines c.args.self.now.every c.args.self.now.least c.args.self.now.copies known) first.0 says) first.1)
