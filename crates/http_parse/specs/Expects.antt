-- What contracts see of what a client expects.
use Rattle.http_request.specs.Fields as spec
use Rattle.http_parse.specs.declared.fields.Expected.{Expected}
use Rattle.http_parse.specs.declared.fields.Expected.TheVariants.{Nothing, GoOn, Other}

abbrev pub expected : Expected → spec.Expected
expected Nothing = spec.nothing
expected GoOn = spec.go_on
expected Other = spec.other
