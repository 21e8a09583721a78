use Rattle.std.proofs.Common.{None, Option}
use Rattle.std.proofs.lemmas.List.{length-replicate}
use Rattle.std.proofs.lemmas.List.Elements.{All-replicate}
use Rattle.std.specs.Option.{IfSome}
use Rattle.swarm_replicated.proofs.crowds.Crowds.new.Goals as goal
use Rattle.swarm_replicated.specs.Inside.Crowds.{Counted, IsKnown}
use Rattle.swarm_replicated.specs.declared.crowds.Known.{Known}
use Rattle.swarm_replicated.specs.declared.crowds.TheConstants.{SLOTS}

pub invariant_of-result : goal.invariant_of-result
invariant_of-result g c =
    let seen : Counted = record { tables = g.R.Rows.tables c.args.rows.now; service = c.args.service.now } in
    let none : Option Known = None in
    (c.requires, All-replicate (λ o. IfSome o (IsKnown seen)) SLOTS none tt, length-replicate SLOTS none)
