use Rattle.std.proofs.Common.{◌≡◌}
use Rattle.serde_json.specs.View.{members_view}
use Rattle.swarm_print.specs.Details.{label_members}
use Rattle.swarm_print.proofs.Labels.{onto}
use Rattle.swarm_print.proofs.details.labels_value.Given as goal

-- the labels that are left, put to the object so far, give what all of them give
abbrev pub invariant-loop-label : goal.invariant-loop-label
invariant-loop-label l = onto l.label-iterator.iter.rest.now (members_view l.members.entries) ≡ label_members l.fn.labels
