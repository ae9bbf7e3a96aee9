use Rattle.std.proofs.Common.{◌≡◌, ◌∙◌, true, sym, ap, subst, if◌then◌else◌}
use Rattle.std.specs.Prelude.{Some}
use Rattle.std.specs.BTreeMap.{get}
use Rattle.key_state.specs.declared.content.Key.{Key}
use Rattle.journal.specs.Keys.{key_cmp, same_key}
use Rattle.journal.proofs.Keyed.{one_key}
use Rattle.kept_fold.specs.Stale.{fold_in, greatest, number_at}
use Rattle.kept_fold.proofs.Lasts.{kept_greater, put_greater}
use Rattle.kept_fold.proofs.stale.add_fold.Goals as goal

pub returns-in_ok-insert : goal.returns-in_ok-insert
returns-in_ok-insert c = λ key.
    let had : same_key c.args.one.now.key key ≡ true → number_at c.args.last.now key ≡ c.fold_at.result =
    λ t. sym (subst (λ (k : Key). c.fold_at.result ≡ number_at c.args.last.now k) (one_key c.args.one.now.key key t) c.fold_at.ensures) in
    let put : get key_cmp c.insert.new.self key ≡ (if same_key c.args.one.now.key key then Some c.last_fold-number.result else get key_cmp c.args.last.now key) =
    subst (λ (k : Key). get key_cmp c.insert.new.self key ≡ (if same_key k key then Some c.last_fold-number.result else get key_cmp c.args.last.now key)) c.in_ok-copy.ensures (c.in_ok-insert.ensures.updates.0 key) in
    put_greater c.args.one.now key (get key_cmp c.args.last.now key) (get key_cmp c.insert.new.self key) c.last_fold-number.result c.fold_at.result one_key had c.if-number-fold_at.true
    (c.last_fold-number.ensures ∙ ap (greatest fold_in) (c.entries.ensures.all ∙ c.clock.ensures)) put

pub returns-else-number-fold_at : goal.returns-else-number-fold_at
returns-else-number-fold_at c = λ key.
    let had : same_key c.args.one.now.key key ≡ true → number_at c.args.last.now key ≡ c.fold_at.result =
    λ t. sym (subst (λ (k : Key). c.fold_at.result ≡ number_at c.args.last.now k) (one_key c.args.one.now.key key t) c.fold_at.ensures) in
    kept_greater c.args.one.now key (number_at c.args.last.now key) c.last_fold-number.result c.fold_at.result had c.if-number-fold_at.false
    (c.last_fold-number.ensures ∙ ap (greatest fold_in) (c.entries.ensures.all ∙ c.clock.ensures))
