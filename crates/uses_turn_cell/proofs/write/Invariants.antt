use Rattle.std.proofs.Common.{◌≡◌}
use Rattle.turn_cell.specs.Passes.{number_of, IsPassOf}
use Rattle.uses_turn_cell.proofs.write.Given as goal

abbrev pub invariant-loop : goal.invariant-loop
invariant-loop g l = IsPassOf l.cell l.pass × (number_of l.pass ≡ number_of l.initial.pass)
