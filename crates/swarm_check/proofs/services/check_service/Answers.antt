use Rattle.std.proofs.Common.{◌≡◌, Some, None, find, ap, sym, ◌∙◌, rules}
use Rattle.std.specs.Result.{result_err}
use Rattle.swarm_objects.specs.Rules.Services.{service_breaks, extent_rules, field_rules}
use Rattle.swarm_check.proofs.Rules.{find-front, find-back}
use Rattle.swarm_check.proofs.services.check_service.Goals as goal

pub returns-in_err-check_extent : goal.returns-in_err-check_extent
returns-in_err-check_extent c =
    let broken : Some c.in_err-check_extent.field-0.0 ≡ find (service_breaks c.args.draft.now) extent_rules = sym (ap result_err c.in_err-check_extent.was) ∙ c.check_extent.ensures in
    let same : result_err c.from_residual.result ≡ Some c.in_err-check_extent.field-0.0 = search rules in
    same ∙ find-front (service_breaks c.args.draft.now) extent_rules field_rules c.in_err-check_extent.field-0.0 broken

pub returns : goal.returns
returns c =
    let kept : None ≡ find (service_breaks c.args.draft.now) extent_rules = sym (ap result_err c.in_ok-check_extent.was) ∙ c.check_extent.ensures in
    c.check_fields.ensures ∙ find-back (service_breaks c.args.draft.now) extent_rules field_rules kept
