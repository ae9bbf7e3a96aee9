use Rattle.bpf_interpreter.specs.Stepped.{state_of}
use Rattle.bpf_interpreter.proofs.Fitting.{placed}
use Rattle.bpf_interpreter.proofs.Ended.{exit_where, fault_where, fuel_where}
use Rattle.bpf_interpreter.proofs.driving.drive.Goals as goal

pub returns-clause-exit_where : goal.returns-clause-exit_where
returns-clause-exit_where g c = λ one.
    exit_where c.args.table.now.listed c.args.code.now one c.args.fuel (state_of c.args.state.now) (state_of c.walk.new.state) c.walk.result c.walk.ensures.stops (placed c.args.state.now.windows)

pub returns-clause-fault_where : goal.returns-clause-fault_where
returns-clause-fault_where g c = λ one.
    fault_where c.args.table.now.listed c.args.code.now one c.args.fuel (state_of c.args.state.now) (state_of c.walk.new.state) c.walk.result c.walk.ensures.stops (placed c.args.state.now.windows)

pub returns-clause-fuel_where : goal.returns-clause-fuel_where
returns-clause-fuel_where g c = λ one.
    fuel_where c.args.table.now.listed c.args.code.now one c.args.fuel (state_of c.args.state.now) (state_of c.walk.new.state) c.walk.result c.walk.ensures.stops (placed c.args.state.now.windows)
