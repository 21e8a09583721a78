use Rattle.std.proofs.Common.{◌≡◌, drop, not}
use Rattle.std.specs.List.{list_any}
use Rattle.plain_agents.specs.Inside.News.{is_due_on}
use Rattle.swarm_objects.specs.declared.messages.Assigned.{Assigned}
use Rattle.swarm_plain.specs.Plain.{tables_of}
use Rattle.plain_agents.proofs.news.any_gone.Given as goal

abbrev pub invariant-loop-one : goal.invariant-loop-one
invariant-loop-one l =
    let is_gone = λ (a : Assigned). not (is_due_on (tables_of l.plain) l.node a.task) in
    list_any is_gone (drop l.one-index l.sent) ≡ list_any is_gone l.sent
