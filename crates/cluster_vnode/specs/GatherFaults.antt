-- Why a cluster isn't gathered.
use Rattle.std.specs.Prelude.{ℕ, ◌<◌, ◌≤◌}
use Rattle.cluster_vnode.specs.declared.fault.GatherFault.{GatherFault}
use Rattle.cluster_vnode.specs.declared.fault.GatherFault.TheVariants.{Missing, NoMemory}

-- a pass is missing where fewer came than there are; memory can lack where all came
abbrev pub IsGatherFault : GatherFault → ℕ → ℕ → Type 0
IsGatherFault Missing came passes = came < passes
IsGatherFault NoMemory came passes = passes ≤ came
