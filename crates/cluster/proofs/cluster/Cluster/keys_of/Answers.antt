use Rattle.cluster.proofs.cluster.Cluster.keys_of.Goals as goal

pub returns-clause-ok : goal.returns-clause-ok
returns-clause-ok g c =
    let u = c.in_ok-unsorted.ensures.ok in
    (u.0, (u.1.0, u.1.1, c.in_ok-keys.ensures _ u.1.2, u.1.3))
