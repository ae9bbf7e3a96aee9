-- The table of routes, as the router reads it.
use Rattle.std.specs.Prelude.{ℕ, List, [], codes, Option, option_map, Result, Ok, Err}
use Rattle.matchit.specs.Rows.{RowsOf}
use Rattle.matchit.specs.Route.{Scan, parse_route}
use Rattle.matchit.specs.Order.{placed}
use Rattle.matchit.specs.Router.{RouteOf, route_from}
use Rattle.matchit.specs.Seek.{first}
use Rattle.matchit.specs.declared.error.InsertError.{InsertError}
use Rattle.http_request.specs.declared.route.Route.{Route}
use Rattle.http_request.specs.declared.route.Route.TheVariants.{Root, Ping, Key, TypedKey, OldKey, Hook, Props, TypedProps}

-- the routes with one more, where its text reads well
abbrev pub with_read : Result Scan InsertError → Route → RowsOf (RouteOf Route) → RowsOf (RouteOf Route)
with_read (Ok s) value rows = placed (s.pattern, route_from s value) rows
with_read (Err e) value rows = rows

-- the routes with the one of this text
abbrev pub with_route : List ℕ → Route → RowsOf (RouteOf Route) → RowsOf (RouteOf Route)
with_route text value rows = with_read (parse_route text) value rows

-- the table (Riak KV, HTTP API; this store's hooks)
unfoldable pub routes : RowsOf (RouteOf Route)
routes =
    with_route (codes "/riak/{bucket}/{key}") OldKey
    (with_route (codes "/types/default/buckets/{bucket}/props") TypedProps
    (with_route (codes "/types/default/buckets/{bucket}/keys/{key}") TypedKey
    (with_route (codes "/") Root
    (with_route (codes "/buckets/{bucket}/props") Props
    (with_route (codes "/hooks/{name}") Hook
    (with_route (codes "/buckets/{bucket}/keys/{key}") Key
    (with_route (codes "/ping") Ping [])))))))

-- the first route that the path matches
abbrev pub route_of : List ℕ → Option Route
route_of path = option_map (λ r. r.value) (first routes path)
