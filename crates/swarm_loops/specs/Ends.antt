-- Why a worker ended.
use Rattle.std.specs.Prelude.{List}
use Rattle.swarm_objects.specs.declared.calls.Entry.{Entry}
use Rattle.swarm_world.specs.Work.{CanGoOn, IsFull, IsHalted}
use Rattle.swarm_loops.specs.declared.ends.WorkEnd.{WorkEnd}
use Rattle.swarm_loops.specs.declared.ends.WorkEnd.TheVariants.{Halted, Full, NoMemory}

-- Halt stands in the history, or there is room for Halt alone; where memory was wanting, neither
abbrev pub EndsWork : WorkEnd → List Entry → Type 0
EndsWork Halted seen = IsHalted seen
EndsWork Full seen = IsFull seen
EndsWork NoMemory seen = CanGoOn seen
