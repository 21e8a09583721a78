-- The texts of replies.
use Rattle.std.specs.Prelude.{ℕ, List, [], ◌∷◌, ◌++◌, flat_map, codes, decimal}
use Rattle.swarm_objects.specs.DutyTexts.{duty_text}
use Rattle.swarm_objects.specs.declared.duties.Settle.{Settle}
use Rattle.swarm_objects.specs.declared.duties.Settle.TheVariants.{Busy, Waiting, Held, Paused, Settled}
use Rattle.swarm_objects.specs.declared.replies.Reply.{Reply}
use Rattle.swarm_objects.specs.declared.replies.Reply.TheVariants as reply
use Rattle.swarm_objects.specs.declared.replies.ViewReply.{ViewReply}
use Rattle.swarm_objects.specs.declared.replies.ViewReply.TheVariants.{Nodes, Services, Networks, Tasks, Node, Service, Network, Task, Clock}
use Rattle.swarm_print.specs.Details.{json_line, network_data, node_data, service_data, task_data}
use Rattle.swarm_print.specs.Lines.{line, listing}
use Rattle.swarm_print.specs.Lists.{event_line, message_text, network_line, node_line, service_line, task_line}
use Rattle.swarm_print.specs.Refusals.{refusal_words}
use Rattle.swarm_objects.specs.Values.Texts.{state_text}
use Rattle.swarm_print.specs.Words.{cause_word, report_word}

-- the clock, a list, or an object that was inspected
abbrev pub view_text : ViewReply → List ℕ
view_text (Nodes rows) = listing (codes "nodes") node_line rows
view_text (Services rows) = listing (codes "services") service_line rows
view_text (Networks rows) = listing (codes "networks") network_line rows
view_text (Tasks rows) = listing (codes "tasks") task_line rows
view_text (Node node) = json_line (node_data node)
view_text (Service service) = json_line (service_data service)
view_text (Network network) = json_line (network_data network)
view_text (Task task) = json_line (task_data task)
view_text (Clock now) = line (codes "now" ∷ decimal now ∷ [])

-- what a line with this budget is answered
abbrev pub settle_words : ℕ → Settle → List (List ℕ)
settle_words budget (Busy duty) = codes "unsettled" ∷ decimal budget ∷ duty_text duty ∷ []
settle_words budget (Waiting time cause id) = codes "waiting" ∷ decimal time ∷ cause_word cause ∷ decimal id ∷ []
settle_words budget (Held service task) = codes "held" ∷ decimal service ∷ decimal task ∷ []
settle_words budget (Paused service) = codes "paused" ∷ decimal service ∷ []
settle_words budget Settled = codes "settled" ∷ []

-- an id after a space
abbrev pub id_text : ℕ → List ℕ
id_text id = codes " " ++ decimal id

-- a transaction that was done names the object of each of its operations, in order; a tick, a halt and a duty say
-- nothing
abbrev pub reply_text : Reply → List ℕ
reply_text (reply.Txn ids) = codes "ok" ++ flat_map id_text ids ++ codes "\n"
reply_text (reply.AgentDone node) = line (codes "ok" ∷ decimal node ∷ [])
reply_text (reply.Refused refusal) = codes "refused " ++ line (refusal_words refusal)
reply_text reply.Ticked = []
reply_text reply.HaltDone = []
reply_text (reply.WatchBegun watcher) = line (codes "watcher" ∷ decimal watcher ∷ [])
reply_text (reply.WatchFinished watcher) = line (codes "closed" ∷ decimal watcher ∷ [])
reply_text (reply.Events events) = listing (codes "events") event_line events
reply_text (reply.SessionBegun session deadline) = line (codes "session" ∷ decimal session ∷ decimal deadline ∷ [])
reply_text (reply.Beat deadline) = line (codes "beat" ∷ decimal deadline ∷ [])
reply_text (reply.Pulled message) = message_text message
reply_text (reply.Status raised state) = line (report_word raised ∷ state_text state ∷ [])
reply_text (reply.View view) = view_text view
reply_text (reply.Settle budget settle) = line (settle_words budget settle)
reply_text reply.Did = []
