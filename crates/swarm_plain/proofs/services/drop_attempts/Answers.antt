use Rattle.std.proofs.Common.{rules, ◌≡◌, ◌∙◌, ap, not}
use Rattle.std.proofs.lemmas.Fn.{filter_same}
use Rattle.std.specs.Prelude.{filter}
use Rattle.swarm_model.specs.Calls.Services.{is_attempt_of}
use Rattle.swarm_objects.specs.declared.tasks.Attempt.{Attempt}
use Rattle.swarm_plain.proofs.services.drop_attempts.Goals as goal

pub returns : goal.returns
returns c =
    let stays = λ (a : Attempt). not (is_attempt_of c.args.service a) in
    let was : c.into_vec-kept.result.items ≡ c.args.attempts.now = search rules in
    c.from_vec.ensures
    ∙ filter_same _ stays _ (λ x b f' k. search rules) _ _ c.retain.ensures.filtered
    ∙ ap (filter stays) was
