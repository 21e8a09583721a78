-- A port is given the least number that no service holds.
use Rattle.std.specs.Prelude.{List, None, Some, [], codes, false, refl, true, ◌∷◌, ◌≡◌}
use Rattle.swarm_model.proofs.Examples.Audit.{IsPlayed, Told, asked, did, entries_of, played}
use Rattle.swarm_model.proofs.Examples.LawTests.{laws_hold}
use Rattle.swarm_model.proofs.Examples.Usual.{draft, made, service_row}
use Rattle.swarm_model.proofs.Examples.Words.{one}
use Rattle.swarm_model.specs.Laws.Matches.{Matches}
use Rattle.swarm_model.specs.Script.{Asked, Asks, Settles}
use Rattle.swarm_model.specs.Serial.{serial}
use Rattle.swarm_objects.specs.Defaults.{usual_spec}
use Rattle.swarm_objects.specs.World.{World, empty_tables, empty_world}
use Rattle.swarm_objects.specs.declared.calls.Call.TheVariants as call
use Rattle.swarm_objects.specs.declared.calls.Entry.{Entry}
use Rattle.swarm_objects.specs.declared.calls.Op.TheVariants as op
use Rattle.swarm_objects.specs.declared.calls.Query.TheVariants as query
use Rattle.swarm_objects.specs.declared.duties.Duty.TheVariants as duty
use Rattle.swarm_objects.specs.declared.duties.Settle.TheVariants as settle
use Rattle.swarm_objects.specs.declared.replies.Refusal.TheVariants as refusal
use Rattle.swarm_objects.specs.declared.replies.Reply.TheVariants as reply
use Rattle.swarm_objects.specs.declared.replies.ViewReply.TheVariants as view
use Rattle.swarm_objects.specs.declared.services.Mode.TheVariants as mode
use Rattle.swarm_objects.specs.declared.services.ServiceSpec.{ServiceSpec}

abbrev spec_1 : ServiceSpec
spec_1 = record usual_spec { mode = mode.Replicated 0; ports = record { target = 80; number = None; udp = false } ∷ [] }

abbrev spec_2 : ServiceSpec
spec_2 = record usual_spec {
  mode = mode.Replicated 0;
  ports = record { target = 81; number = Some 30000; udp = false } ∷ [];
}

-- the script
abbrev lines : List Asked
lines =
    Asks (one (op.CreateService (codes "a") (draft spec_1)))
    ∷ Settles 100000
    ∷ Asks (one (op.CreateService (codes "b") (draft spec_2)))
    ∷ Asks (call.View (query.InspectService (codes "a")))
    ∷ []

abbrev pub journal : List Told
journal =
    asked 0 (one (op.CreateService (codes "a") (draft spec_1))) (made 1)
    ∷ did 0 (duty.Port 1 80 false)
    ∷ asked 0 (call.Settle 100000) (reply.Settle 100000 settle.Settled)
    ∷ asked 0 (one (op.CreateService (codes "b") (draft spec_2))) (reply.Refused (refusal.PortTaken 1))
    ∷ asked 0 (call.View (query.InspectService (codes "a"))) (reply.View (view.Service (record {
      id = 1;
      version = 2;
      name = codes "a";
      mode = mode.Replicated 0;
      running = 0;
      wanted = 0;
      update = None;
      ports = record { target = 80; number = Some 30000; udp = false } ∷ [];
    })))
    ∷ asked 0 call.Halt reply.HaltDone
    ∷ []

abbrev pub world : World
world = record empty_world {
  entries = 6;
  tables = record empty_tables {
    next_id = 2;
    services =
        record (service_row 1 2 (codes "a") spec_1) {
          template_version = 1;
          numbers = record { target = 80; udp = false; number = 30000 } ∷ [];
        }
        ∷ [];
  };
  halted = true;
}

abbrev pub history : List Entry
history = entries_of journal

it_goes_so : IsPlayed empty_world journal world
it_goes_so = played empty_world journal world refl

it_is_the_serial_one : serial lines ≡ history
it_is_the_serial_one = refl

it_matches : Matches history
it_matches = refl

it_keeps_the_laws : laws_hold empty_world history ≡ true
it_keeps_the_laws = refl
