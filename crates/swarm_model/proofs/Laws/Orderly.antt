-- Every world of a legal history is orderly, and each of its steps is a move.
use Rattle.std.proofs.Common.{inl, ◌≡◌, List, true, arith}
use Rattle.swarm_model.proofs.Base.FromLists.{IsDuty-due}
use Rattle.swarm_model.proofs.Base.Histories.{replay-keeps, room_duty}
use Rattle.swarm_model.proofs.Laws.Rises.{rises-moves}
use Rattle.swarm_model.proofs.Laws.Steps.{each-step-kept}
use Rattle.swarm_model.proofs.Moves.Calls.{call-moves}
use Rattle.swarm_model.proofs.Moves.EachDuty.{effect-moves}
use Rattle.swarm_model.proofs.Moves.Worlds.{IsOrderly, Moves, orderly-moves}
use Rattle.swarm_model.specs.History.{IsLegal, may_follow, replay, step}
use Rattle.swarm_model.specs.Laws.Rises.{RisingLaw, StepRises}
use Rattle.swarm_objects.specs.World.{World, empty_world}
use Rattle.swarm_objects.specs.declared.calls.Entry.{Entry}
use Rattle.swarm_objects.specs.declared.calls.What.{What}
use Rattle.swarm_objects.specs.declared.calls.What.TheVariants as what

pub step-moves : (w : World) (e : What) → IsOrderly w → may_follow w e ≡ true → Moves w (step w e).after
step-moves w (what.Call c) is may = call-moves w c is
step-moves w (what.Duty d) is may = effect-moves w d is (IsDuty-due w d (room_duty w d may).2)

pub orderly-step : (w : World) (e : What) → IsOrderly w → may_follow w e ≡ true → IsOrderly (step w e).after
orderly-step w e is may = orderly-moves w (step w e).after is (step-moves w e is may)

pub orderly-empty : IsOrderly empty_world
orderly-empty = record {
  next = omega arith;
  nodes = tt;
  services = tt;
  tasks = tt;
  networks = tt;
  sessions = tt;
  watchers = tt;
  sent = tt;
  agents = tt;
  ids = λ k. inl (omega arith);
  good = λ x h. absurd h;
  subnets = λ n h. absurd h;
}

pub orderly-replay : (h : List Entry) → IsLegal h → IsOrderly (replay h)
orderly-replay h legal = replay-keeps IsOrderly orderly-step empty_world h orderly-empty legal

-- tasks rise, and no id comes back
pub tasks-rise : RisingLaw
tasks-rise h legal =
    each-step-kept IsOrderly StepRises
    (λ w e is may. (rises-moves w (step w e).after is (step-moves w e is may), orderly-step w e is may))
    empty_world h orderly-empty legal
