-- A watcher is told how a service comes, is written and goes.
use Rattle.std.specs.Prelude.{List, None, Some, [], codes, refl, true, ◌∷◌, ◌≡◌}
use Rattle.swarm_model.proofs.Examples.Audit.{IsPlayed, Told, asked, entries_of, played}
use Rattle.swarm_model.proofs.Examples.LawTests.{laws_hold}
use Rattle.swarm_model.proofs.Examples.Usual.{draft, made}
use Rattle.swarm_model.proofs.Examples.Words.{one}
use Rattle.swarm_model.specs.Script.{Asked, Asks}
use Rattle.swarm_model.specs.Serial.{serial}
use Rattle.swarm_objects.specs.Defaults.{usual_spec}
use Rattle.swarm_objects.specs.World.{World, empty_tables, empty_world}
use Rattle.swarm_objects.specs.declared.calls.Call.TheVariants as call
use Rattle.swarm_objects.specs.declared.calls.Entry.{Entry}
use Rattle.swarm_objects.specs.declared.calls.Op.TheVariants as op
use Rattle.swarm_objects.specs.declared.ids.Kind.TheVariants as kind
use Rattle.swarm_objects.specs.declared.replies.Reply.TheVariants as reply
use Rattle.swarm_objects.specs.declared.services.Mode.TheVariants as mode
use Rattle.swarm_objects.specs.declared.services.ServiceSpec.{ServiceSpec}
use Rattle.swarm_objects.specs.declared.watches.Verb.TheVariants as verb

abbrev spec_2 : ServiceSpec
spec_2 = record usual_spec { mode = mode.Replicated 3 }

-- the script
abbrev lines : List Asked
lines =
    Asks (call.WatchBegin (record { kind = Some kind.Service; id = None }))
    ∷ Asks (one (op.CreateService (codes "web") (draft usual_spec)))
    ∷ Asks (one (op.UpdateService (codes "web") None (draft spec_2)))
    ∷ Asks (one (op.RemoveService (codes "web")))
    ∷ Asks (call.WatchPoll 1)
    ∷ Asks (call.WatchPoll 1)
    ∷ []

abbrev pub journal : List Told
journal =
    asked 0 (call.WatchBegin (record { kind = Some kind.Service; id = None })) (reply.WatchBegun 1)
    ∷ asked 0 (one (op.CreateService (codes "web") (draft usual_spec))) (made 2)
    ∷ asked 0 (one (op.UpdateService (codes "web") None (draft spec_2))) (made 2)
    ∷ asked 0 (one (op.RemoveService (codes "web"))) (made 2)
    ∷ asked 0 (call.WatchPoll 1) (reply.Events (
    record { entry = 2; verb = verb.Created; kind = kind.Service; id = 2 }
    ∷ record { entry = 3; verb = verb.Updated; kind = kind.Service; id = 2 }
    ∷ record { entry = 4; verb = verb.Deleted; kind = kind.Service; id = 2 }
    ∷ []))
    ∷ asked 0 (call.WatchPoll 1) (reply.Events [])
    ∷ asked 0 call.Halt reply.HaltDone
    ∷ []

abbrev pub world : World
world = record empty_world {
  entries = 7;
  tables = record empty_tables { next_id = 3 };
  watchers = record { id = 1; filter = record { kind = Some kind.Service; id = None }; cursor = 6 } ∷ [];
  halted = true;
}

abbrev pub history : List Entry
history = entries_of journal

it_goes_so : IsPlayed empty_world journal world
it_goes_so = played empty_world journal world refl

it_is_the_serial_one : serial lines ≡ history
it_is_the_serial_one = refl

it_keeps_the_laws : laws_hold empty_world history ≡ true
it_keeps_the_laws = refl
