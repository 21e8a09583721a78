use Rattle.std.proofs.Common.{List, length, ◌≡◌}
use Rattle.swarm_model.specs.History.{replay}
use Rattle.swarm_objects.specs.Duties.{first_duty}
use Rattle.swarm_objects.specs.declared.calls.Entry.{Entry}
use Rattle.swarm_world.specs.Inside.Marks.{IsMarked}
use Rattle.swarm_world.specs.Inside.Parts.{StandsFor}
use Rattle.swarm_world.proofs.marks.Marks.find_among.Given as goal

-- the first duty of the loops that are left is the first of all
abbrev pub invariant-loop-role : goal.invariant-loop-role
invariant-loop-role l = record {
  first : (h : List Entry) → StandsFor l.parts (replay h) → first_duty (replay h) l.rest ≡ first_duty (replay h) l.roles;
  marks : IsMarked l.self l.parts;
}

abbrev pub decreases-loop-role : goal.decreases-loop-role
decreases-loop-role l = length l.rest
