use Rattle.std.proofs.Common.{sym, ◌∙◌}
use Rattle.tests_calls.proofs.Sent.{is_next, one_more_message}
use Rattle.tests_calls.proofs.assignments.tell.Goals as goal

pub returns : goal.returns
returns c =
    one_more_message c.args.sent.now c.confirm.new.self c.args.due.now c.in-Some.message
    (is_next c.args.sent.now c.args.due.now c.in-Some.message c.requires.rises
    (λ node. sym c.in-Some.is ∙ c.in_ok-message.ensures.message node))
    c.in_ok-confirm.ensures.ok
