-- The world that the plain program's lists are.
use Rattle.std.specs.Prelude.{Result}
use Rattle.swarm_model.specs.Outcome.{Answered, Answers}
use Rattle.swarm_objects.specs.World.{Tables, World}
use Rattle.swarm_objects.specs.declared.replies.Refusal.{Refusal}
use Rattle.swarm_objects.specs.declared.replies.Reply.{Reply}
use Rattle.swarm_plain.specs.declared.Plain.{Plain}

abbrev pub tables_of : Plain → Tables
tables_of p = record {
  clock = p.clock;
  next_id = p.next_id;
  nodes = p.nodes;
  services = p.services;
  tasks = p.tasks;
  networks = p.networks;
  attempts = p.attempts;
  sessions = p.sessions;
  settings = p.settings;
}

abbrev pub world_of : Plain → World
world_of p = record {
  entries = p.entries;
  tables = tables_of p;
  sent = p.sent;
  agents = p.agents;
  watchers = p.watchers;
  events = p.events;
  halted = p.halted;
}

-- a call is answered or refused as it must be, but for the number of its entry and the events
abbrev pub AnswersCall : Answered → Plain → Result Reply Refusal → Plain → Type 0
AnswersCall expected before result after = Answers expected (world_of before) result (world_of after)
