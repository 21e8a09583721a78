-- A script of five lines: its serial history, which follows the lines, and the size of a world.
use Rattle.std.proofs.Common.{arith}
use Rattle.std.specs.Prelude.{List, [], codes, drop, false, refl, take, ◌∷◌, ◌≡◌}
use Rattle.std.specs.List.{list_all}
use Rattle.swarm_model.proofs.Examples.Words.{create, plain_draft, world_after}
use Rattle.swarm_model.specs.Follows.{Follows, IsCalled, IsSettleLine, IsWaited}
use Rattle.swarm_model.specs.History.{replay}
use Rattle.swarm_model.specs.Laws.Size.{size}
use Rattle.swarm_model.specs.Own.{own, step_at}
use Rattle.swarm_model.specs.Script.{Asked, Asks, Settles, Waits, is_of_a_caller, own_call, own_duty}
use Rattle.swarm_model.specs.Serial.{serial}
use Rattle.swarm_objects.specs.declared.calls.Call.{Call}
use Rattle.swarm_objects.specs.declared.calls.Call.TheVariants as call
use Rattle.swarm_objects.specs.declared.calls.Entry.{Entry}
use Rattle.swarm_objects.specs.declared.calls.Query.TheVariants as query
use Rattle.swarm_objects.specs.declared.calls.What.TheVariants as what
use Rattle.swarm_objects.specs.declared.duties.Duty.TheVariants as duty

abbrev one_service : List Asked
one_service = Asks (create (codes "web") plain_draft) ∷ Settles 72000 ∷ Waits 5 ∷ Asks (call.View query.Clock) ∷ []

abbrev serial_of_one : List Entry
serial_of_one =
    own_call (create (codes "web") plain_draft)
    ∷ own_duty (duty.ReplicatedCreate 1 1)
    ∷ own_duty (duty.Address 2)
    ∷ own_duty (duty.Explain 2)
    ∷ own_call (call.Settle 72000)
    ∷ own_call (call.Tick 5)
    ∷ own_call (call.View query.Clock)
    ∷ own_call call.Halt
    ∷ []

serial_is : serial one_service ≡ serial_of_one
serial_is = refl

-- one service, and four for the place that it wants
size_of_one : size (world_after (create (codes "web") plain_draft ∷ [])) ≡ 6
size_of_one = refl

-- Its pieces, line by line.

waited : IsWaited (replay (take 5 serial_of_one)) 5 (own_call (call.Tick 5) ∷ []) (drop 6 serial_of_one)
waited = record {
  strides = record { stretch = []; ms = 5 } ∷ [];
  tail = [];
  entries = refl;
  ticks = (
    record {
      stretch = (refl, omega arith);
      some = omega arith;
      most = omega arith;
      in_line = omega arith;
      rule = λ _. (refl, refl);
    },
    tt,
  );
  all = refl;
  tail_is = ((refl, omega arith), λ _. refl);
}

settled : IsSettleLine (replay (take 1 serial_of_one)) 72000 (take 4 (drop 1 serial_of_one))
settled = record {
  duties = take 3 (drop 1 serial_of_one);
  entries = refl;
  are_duties = refl;
  most = omega arith;
  busy = λ e. absurd cc;
}

abbrev called : (c : Call) → IsCalled c (own_call c ∷ [])
called c = record { others = []; entries = refl; are_others = (refl, refl) }

it_follows : Follows serial_of_one one_service 0
it_follows = record {
  callers = refl;
  lines_are = (
    own_call (create (codes "web") plain_draft) ∷ [],
    drop 1 serial_of_one,
    refl,
    called (create (codes "web") plain_draft),
    (
      take 4 (drop 1 serial_of_one),
      drop 5 serial_of_one,
      refl,
      settled,
      (
        own_call (call.Tick 5) ∷ [],
        drop 6 serial_of_one,
        refl,
        waited,
        (
          own_call (call.View query.Clock) ∷ [],
          own_call call.Halt ∷ [],
          refl,
          called (call.View query.Clock),
          record { part = []; entries = refl; part_is = (refl, refl) },
        ),
      ),
    ),
  );
}

-- A worker's duty comes between: it is none of caller 0's, and stands in the history before its next entry.

abbrev worked : List Entry
worked =
    own_call (create (codes "web") plain_draft)
    ∷ record { by = 1; what = what.Duty (duty.ReplicatedCreate 1 1) }
    ∷ own_call call.Halt
    ∷ []

worked_follows : Follows worked (Asks (create (codes "web") plain_draft) ∷ []) 1
worked_follows = record {
  callers = refl;
  lines_are = (
    take 1 worked,
    drop 1 worked,
    refl,
    called (create (codes "web") plain_draft),
    record { part = take 1 (drop 1 worked); entries = refl; part_is = (refl, refl) },
  );
}

worked_own : own 0 worked
    ≡ step_at [] (own_call (create (codes "web") plain_draft)) ∷ step_at (take 2 worked) (own_call call.Halt) ∷ []
worked_own = refl

worker_alone : list_all (is_of_a_caller 0) worked ≡ false
worker_alone = refl
