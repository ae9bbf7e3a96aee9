use Rattle.std.proofs.Common.{◌≡◌, ◌++◌, ◌∙◌, List, ℕ, OnOk, ap, subst}
use Rattle.peer_hmac.specs.Hmac.{hmac}
use Rattle.peer_frames.specs.Hellos.{hello_bytes}
use Rattle.peer_frames.proofs.hello.push_hello.Goals as goal

pub returns : goal.returns
returns c =
    let is : c.deref.result.now ≡ hello_bytes c.args.hello.now = c.deref.ensures.value ∙ c.in_ok-push_untagged.ensures ∙ ap (λ (xs : List ℕ). xs ++ hello_bytes c.args.hello.now) c.in_ok-bytes.ensures.items in
    subst (λ (xs : List ℕ). OnOk c.push_tagged.result (c.push_tagged.new.out.items ≡ c.args.out.now.items ++ (xs ++ hmac c.args.secret.now xs))) is c.push_tagged.ensures
