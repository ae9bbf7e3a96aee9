use Rattle.http_request.specs.Table.{routes}
use Rattle.http_parse.proofs.routes.add_routes.Goals as goal

pub returns : goal.returns
unfolding routes
returns c =
    rw (c.in_ok-add_route-7.ensures, c.in_ok-add_route-6.ensures, c.in_ok-add_route-5.ensures, c.in_ok-add_route-4.ensures, c.in_ok-add_route-3.ensures, c.in_ok-add_route-2.ensures, c.in_ok-add_route.ensures, c.requires)
    at c.add_route-8.ensures
