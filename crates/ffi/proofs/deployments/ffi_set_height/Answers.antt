use Rattle.ffi.specs.Answers.{params_of}
use Rattle.ffi.proofs.DeploymentNames.{no-text}
use Rattle.ffi.proofs.deployments.ffi_set_height.Goals as goal

-- src/deployments.rt:17:9
pub returns-in_default : goal.returns-in_default
returns-in_default c = no-text c.args.name.now c.args.height (params_of c.args.heights.now) c.in_default.ensures.cases.0
