-- What the held places of a service are counted by.
use Rattle.swarm_objects.specs.World.{Tables, empty_tables}

-- the tasks, and no other rows
abbrev pub tasks_alone : Tables → Tables
tasks_alone t = record empty_tables { next_id = t.next_id; tasks = t.tasks }
