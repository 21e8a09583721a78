use Rattle.std.proofs.Common.{◌≡◌, sym, ap, ◌∙◌, true, false}
use Rattle.std.specs.Str.{bytes_eq}
use Rattle.swarm_objects.specs.Nodes.Constraints.{label_value}
use Rattle.swarm_filters.proofs.Labels.{label_value-found, label_value-passed}
use Rattle.swarm_filters.proofs.matching.value_of.Goals as goal

pub returns-then-eq : goal.returns-then-eq
returns-then-eq c =
    let name : c.as_str.result.now ≡ c.label-item.result.0 = c.as_str.ensures in
    let value : c.as_str-then-eq.result.now ≡ c.label-item.result.1 = c.as_str-then-eq.ensures in
    let is : bytes_eq c.as_str.result.now c.args.name.now ≡ true = cc in
    let items : c.as_slice-label-items.result.now ≡ c.args.labels.now = c.as_slice-label-items.ensures in
    value
    ∙ sym (label_value-found c.as_slice-label-items.result.now c.loop-label.label-index c.args.name.now c.label-item.result c.loop-label-test.true c.label-item.is (rw (← name) is))
    ∙ c.loop-label.invariant ∙ ap (λ ls. label_value ls c.args.name.now) items

pub loop-label-preserved : goal.loop-label-preserved
loop-label-preserved c =
    let name : c.as_str.result.now ≡ c.label-item.result.0 = c.as_str.ensures in
    let is : bytes_eq c.as_str.result.now c.args.name.now ≡ false = cc in
    sym (label_value-passed c.as_slice-label-items.result.now c.loop-label.label-index c.args.name.now c.label-item.result c.loop-label-test.true c.label-item.is (rw (← name) is)) ∙ c.loop-label.invariant
