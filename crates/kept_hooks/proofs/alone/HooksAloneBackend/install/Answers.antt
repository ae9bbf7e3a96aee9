use Rattle.std.proofs.Common.{refl, inl, inr}
use Rattle.kept_hooks.proofs.alone.HooksAloneBackend.install.Goals as goal
use Rattle.kept_hooks.proofs.alone.HooksAloneBackend.install.Goals.{in-Ok+in_ok-install_program-in-Ok, in-Err+in_ok-verified-in-Err+in_ok-install_program-in-Err+in_ok-refuse-in-Err}

pub returns : goal.returns
returns g c = elim c.match-admit_image.branch [
  | in-Ok+in_ok-install_program-in-Ok w ↦
      let after = rw w.self-is at c.install.ensures in
      let let_in = rw c.as_slice.ensures at w.in-Ok.ensures.admitted in
      rw w.self-is (refl, refl, (w.in-Ok.verified, inl (let_in, w.let_go.ensures), w.in_ok-install_program-in-Ok.ensures.given, after))
  | in-Err+in_ok-verified-in-Err+in_ok-install_program-in-Err+in_ok-refuse-in-Err w ↦
      let after = rw w.self-is at c.install.ensures in
      let turned_away = rw c.as_slice.ensures at w.in-Err.ensures.refused in
      rw w.self-is (refl, refl, (w.in_ok-verified-in-Err.verified, inr (w.in-Err.refusal, turned_away, w.in_ok-verified-in-Err.ensures, (cc (w.in_ok-refuse-in-Err.ensures, w.let_go-in-Err.ensures))), w.in_ok-install_program-in-Err.ensures.given, after))
]
