-- Which calls only read (this store's profile).
use Rattle.std.specs.Prelude.{Bool, IsTrue, false, true}
use Rattle.cluster_stamps.specs.declared.request.Request.{Request}
use Rattle.cluster_stamps.specs.declared.request.Request.TheVariants as request
use Rattle.cluster_stamps.specs.declared.view.News.{News}
use Rattle.cluster_stamps.specs.declared.view.News.TheVariants as news
use Rattle.cluster_stamps.specs.declared.view.Told.{Told}

-- the state of a key is asked for
abbrev pub asks_state : Request → Bool
asks_state (request.Put key seen content) = false
asks_state (request.Merge key from at state) = false
asks_state (request.Read key) = true
asks_state (request.Summary key) = false
asks_state (request.Part key from at part) = false
asks_state request.Restart = false

-- a vnode was asked for the state of a key, whatever it answered
abbrev pub is_read : News → Bool
is_read (news.Call asked came) = asks_state asked
is_read (news.HandOut first entries) = false

abbrev pub IsRead : Told → Type 0
IsRead t = IsTrue (is_read t.news)
