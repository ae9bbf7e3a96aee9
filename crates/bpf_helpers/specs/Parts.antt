-- The parts of a call.
use Rattle.bpf_helpers.specs.declared.helper.Call.{Call}
use Rattle.bpf_helpers.specs.Answers.{Given}

-- the numbers and the bytes that a call gives
abbrev pub given : Call → Given
given call = record { numbers = call.numbers; first = call.first.now; second = call.second.now }
