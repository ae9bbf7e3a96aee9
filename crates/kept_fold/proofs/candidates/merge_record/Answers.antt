use Rattle.std.proofs.Common.{◌≡◌, true, sym, subst, if◌then◌else◌}
use Rattle.std.specs.Prelude.{None, Some}
use Rattle.std.specs.BTreeMap.{get}
use Rattle.key_state.specs.declared.content.Key.{Key}
use Rattle.journal.specs.Keys.{key_cmp, same_key}
use Rattle.journal.proofs.Keyed.{one_key}
use Rattle.kept_fold.proofs.Steps.{none_there, one_put}
use Rattle.kept_fold.proofs.candidates.merge_record.Goals as goal

pub returns-in_default : goal.returns-in_default
returns-in_default c = λ key.
    none_there c.args.one.now key (get key_cmp c.args.merges.now key) (λ t. subst (λ (k : Key). get key_cmp c.args.merges.now k ≡ None) (one_key c.args.one.now.key key t) (sym c.in_default.ensures.value))

pub returns : goal.returns
returns c = λ key.
    let found : same_key c.args.one.now.key key ≡ true → get key_cmp c.args.merges.now key ≡ Some c.in-Some.so_far.now =
    λ t. subst (λ (k : Key). get key_cmp c.args.merges.now k ≡ Some c.in-Some.so_far.now) (one_key c.args.one.now.key key t) (sym c.in-Some.ensures.value) in
    let put : get key_cmp c.insert.new.self key ≡ (if same_key c.args.one.now.key key then Some c.in_ok-next.next else get key_cmp c.args.merges.now key) =
    subst (λ (k : Key). get key_cmp c.insert.new.self key ≡ (if same_key k key then Some c.in_ok-next.next else get key_cmp c.args.merges.now key)) c.in_ok-copy.ensures (c.in_ok-insert.ensures.updates.0 key) in
    one_put c.args.one.now key (get key_cmp c.args.merges.now key) (get key_cmp c.insert.new.self key) c.in-Some.so_far.now c.in_ok-next.next one_key c.in_ok-next.ensures found put
