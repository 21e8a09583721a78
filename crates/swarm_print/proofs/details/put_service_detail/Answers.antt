use Rattle.std.proofs.Common.{◌∙◌, ap}
use Rattle.serde_json.specs.Written.{has_float}
use Rattle.swarm_print.proofs.Floats.{no_float-service}
use Rattle.swarm_print.proofs.details.put_service_detail.Goals as goal

pub put_json-requires : goal.put_json-requires
put_json-requires c = ap has_float c.in_ok-value.ensures ∙ no_float-service c.args.service.now
