-- What a look gives, and a step of a stretch.
use Rattle.std.specs.Prelude.{◌≡◌, ℕ, List, None, Some}
use Rattle.swarm_model.specs.History.{replay}
use Rattle.swarm_model.specs.Settle.{settle_answer}
use Rattle.swarm_objects.specs.World.{World}
use Rattle.swarm_objects.specs.declared.calls.Entry.{Entry}
use Rattle.swarm_world.specs.Work.{Advances}
use Rattle.swarm_cluster.specs.declared.works.Advance.{Advance}
use Rattle.swarm_cluster.specs.declared.works.Advance.TheVariants.{Idle, Turned}
use Rattle.swarm_cluster.specs.declared.works.Look.{Look}

-- the settle test and the time are those of this one world
abbrev pub Shows : Look → World → Type 0
Shows look w = (look.settle ≡ settle_answer w) × (look.now ≡ w.tables.clock)

-- the duty that the settle test names is done in a turn of its control loop; or it names none, as the look tells
abbrev pub Steps : ℕ → List Entry → List Entry → Advance → Type 0
Steps by before after (Turned turn) = Advances by before after (Some turn)
Steps by before after (Idle look) = Advances by before after None × Shows look (replay after)
