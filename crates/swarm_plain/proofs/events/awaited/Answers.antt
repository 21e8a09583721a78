use Rattle.std.proofs.Common.{◌∙◌, ap, rules}
use Rattle.std.proofs.lemmas.Fn.{filter_same}
use Rattle.std.specs.Prelude.{filter}
use Rattle.swarm_model.specs.Calls.Watches.{is_waited_for}
use Rattle.swarm_plain.proofs.events.awaited.Goals as goal

pub returns : goal.returns
returns c =
    c.from_vec.ensures
    ∙ filter_same _ (is_waited_for c.args.watchers.now) _ (λ x b f t. (search rules, search rules)) _ _ c.retain.ensures.filtered
    ∙ ap (filter (is_waited_for c.args.watchers.now)) c.into_vec-events.ensures
