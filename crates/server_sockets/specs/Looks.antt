-- How often a worker looks for something to do before it sleeps: this store's profile.
use Rattle.std.specs.Prelude.{ℕ, ◌+◌, ◌/◌, Bool, ◌||◌, ◌==◌, nat_le, if◌then◌else◌}
use Rattle.server_sockets.specs.declared.looks.Looks.{Looks}

-- as often as it may
abbrev pub most_looks : Looks
most_looks = record { count = 256; unlooked = 0 }

-- half as often, and once more where it looked not at all, so many sleeps counted
abbrev pub fewer_looks : Looks → Looks
fewer_looks looks = record { count = looks.count / 2; unlooked = if looks.count == 0 then looks.unlooked + 1 else 0 }

-- where a look found something, or none was made before 64 sleeps, it looks as often as it may
abbrev pub looks_after : Looks → Bool → Looks
looks_after looks found = if found || nat_le 64 looks.unlooked then most_looks else fewer_looks looks
