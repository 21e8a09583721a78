use Rattle.std.proofs.Common.{◌∙◌, ap, ap₂, List, ℕ}
use Rattle.serde_json.specs.Data.{Data, string, object, put}
use Rattle.serde_json.specs.View.{members_view}
use Rattle.serde_json.proofs.Views.{view-Object}
use Rattle.swarm_print.proofs.Labels.{onto-first, onto-next, onto-all}
use Rattle.swarm_print.proofs.details.labels_value.Goals as goal

pub loop-label-init : goal.loop-label-init
loop-label-init c =
    let whole = ap (λ r. r.iter.rest.now) c.into_iter-label-iterator.ensures.into_iter_gives ∙ ap (λ i. i.rest.now) c.rev-label-items.ensures.source ∙ c.iter.ensures.rest in
    onto-first c.args.labels.now c.into_iter-label-iterator.result.iter.rest.now (members_view c.new-members.result.entries) whole (ap members_view c.new-members.ensures.empty)

pub loop-label-preserved : goal.loop-label-preserved
loop-label-preserved c =
    let before = members_view c.loop-label.members.entries in
    let is_put = ap₂ (λ (key : List ℕ) (value : Data). put key value before) c.as_str-in-loop-label.ensures (c.in_ok-value.ensures ∙ ap string c.as_str.ensures) in
    onto-next c.args.labels.now c.loop-label.label-iterator.iter.rest.now c.next.new.self.iter.rest.now c.in-Some.label.now before (members_view c.put.new.map.entries)
    c.loop-label.invariant c.in-Some.ensures.steps (c.in_ok-put.ensures.ok ∙ is_put)

pub returns : goal.returns
returns c =
    let all = onto-all c.args.labels.now c.loop-label.label-iterator.iter.rest.now (members_view c.loop-label.members.entries) c.loop-label.invariant c.in-None.ensures.steps.0 in
    view-Object c.loop-label.members ∙ ap object all
