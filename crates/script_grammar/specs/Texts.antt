-- The words of calls and duties as journals have them, and the text of an entry.
use Rattle.std.specs.Prelude.{ℕ, nat_eq, ◌/◌, ◌%◌, List, [], ◌∷◌, ◌++◌, codes, decimal, map, Bool, true, false, if◌then◌else◌, Option, Some, None}
use Rattle.swarm_objects.specs.DutyTexts.{duty_words, spaced}
use Rattle.swarm_objects.specs.declared.calls.Call.{Call}
use Rattle.swarm_objects.specs.declared.calls.Call.TheVariants as call
use Rattle.swarm_objects.specs.declared.calls.Entry.{Entry}
use Rattle.swarm_objects.specs.declared.calls.Op.{Op}
use Rattle.swarm_objects.specs.declared.calls.Op.TheVariants as op
use Rattle.swarm_objects.specs.declared.calls.Query.{Query}
use Rattle.swarm_objects.specs.declared.calls.Query.TheVariants as query
use Rattle.swarm_objects.specs.declared.calls.What.{What}
use Rattle.swarm_objects.specs.declared.calls.What.TheVariants as what
use Rattle.swarm_objects.specs.declared.ids.Kind.{Kind}
use Rattle.swarm_objects.specs.Values.Texts.{kind_text, state_text}
use Rattle.script_grammar.specs.declared.fields.Field.{Field}
use Rattle.script_grammar.specs.Fields.{field_text}
use Rattle.script_grammar.specs.Pieces.{joined, node_pieces, old_node_pieces, service_pieces, session_pieces, settings_pieces}
use Rattle.swarm_objects.specs.Limits.{largest_budget}

-- ## Operations

abbrev pub version_words : Option ℕ → List (List ℕ)
version_words None = []
version_words (Some v) = (64 ∷ decimal v) ∷ []

abbrev pub force_words : Bool → List (List ℕ)
force_words true = codes "force" ∷ []
force_words false = []

-- the four bytes of an address
abbrev pub address_text : ℕ → List ℕ
address_text base = decimal (base / 16777216) ++ 46
    ∷ (decimal (base / 65536 % 256) ++ 46 ∷ (decimal (base / 256 % 256) ++ 46 ∷ decimal (base % 256)))

abbrev pub subnet_text : ℕ → ℕ → List ℕ
subnet_text base length = codes "subnet=" ++ (address_text base ++ 47 ∷ decimal length)

-- the words of fields, row after row
abbrev pub pieces_words : List (List Field) → List (List ℕ)
pieces_words pieces = map field_text (joined pieces)

abbrev pub op_words : Op → List (List ℕ)
op_words (op.CreateNode n d) = codes "node" ∷ codes "join" ∷ n ∷ pieces_words (node_pieces d)
op_words (op.UpdateNode n v ls r a) =
    codes "node" ∷ codes "update" ∷ n ∷ (version_words v ++ pieces_words (old_node_pieces ls r a))
op_words (op.RemoveNode n force) = codes "node" ∷ codes "remove" ∷ n ∷ force_words force
op_words (op.CreateService n d) = codes "service" ∷ codes "create" ∷ n ∷ pieces_words (service_pieces d)
op_words (op.UpdateService n v d) =
    codes "service" ∷ codes "update" ∷ n ∷ (version_words v ++ pieces_words (service_pieces d))
op_words (op.RemoveService n) = codes "service" ∷ codes "remove" ∷ n ∷ []
op_words (op.RollbackService n v) = codes "service" ∷ codes "rollback" ∷ n ∷ version_words v
op_words (op.CreateNetwork n base length) = codes "network" ∷ codes "create" ∷ n ∷ subnet_text base length ∷ []
op_words (op.RemoveNetwork n) = codes "network" ∷ codes "remove" ∷ n ∷ []
op_words (op.SetCluster s) = codes "cluster" ∷ codes "set" ∷ pieces_words (settings_pieces s)

-- operations with a semicolon between two
abbrev pub ops_words : List Op → List (List ℕ)
ops_words [] = []
ops_words (o ∷ []) = op_words o
ops_words (o ∷ p ∷ ops) = op_words o ++ codes ";" ∷ ops_words (p ∷ ops)

-- ## Calls

abbrev pub service_words : Option (List ℕ) → List (List ℕ)
service_words None = []
service_words (Some n) = n ∷ []

abbrev pub query_words : Query → List (List ℕ)
query_words query.ListNodes = codes "list" ∷ codes "nodes" ∷ []
query_words query.ListServices = codes "list" ∷ codes "services" ∷ []
query_words query.ListNetworks = codes "list" ∷ codes "networks" ∷ []
query_words (query.ListTasks service) = codes "list" ∷ codes "tasks" ∷ service_words service
query_words (query.InspectNode n) = codes "inspect" ∷ codes "node" ∷ n ∷ []
query_words (query.InspectService n) = codes "inspect" ∷ codes "service" ∷ n ∷ []
query_words (query.InspectNetwork n) = codes "inspect" ∷ codes "network" ∷ n ∷ []
query_words (query.InspectTask id) = codes "inspect" ∷ codes "task" ∷ decimal id ∷ []
query_words query.Clock = codes "clock" ∷ []

-- no watcher is watched, so that `watcher` is no word of the grammar
abbrev pub filter_text : Option Kind → List ℕ
filter_text None = codes "all"
filter_text (Some k) = kind_text k

abbrev pub id_words : Option ℕ → List (List ℕ)
id_words None = []
id_words (Some id) = decimal id ∷ []

-- the usual budget is left out
abbrev pub budget_words : ℕ → List (List ℕ)
budget_words n = if nat_eq n largest_budget then [] else decimal n ∷ []

abbrev pub call_words : Call → List (List ℕ)
call_words (call.Txn ops) = ops_words ops
call_words (call.View q) = query_words q
call_words (call.WatchBegin f) = codes "watch" ∷ codes "open" ∷ filter_text f.kind ∷ id_words f.id
call_words (call.WatchPoll id) = codes "watch" ∷ codes "poll" ∷ decimal id ∷ []
call_words (call.WatchFinish id) = codes "watch" ∷ codes "close" ∷ decimal id ∷ []
call_words (call.Tick n) = codes "tick" ∷ decimal n ∷ []
call_words (call.Settle n) = codes "settle" ∷ budget_words n
call_words (call.NodeFail n) = codes "node" ∷ codes "fail" ∷ n ∷ []
call_words (call.NodeStart n) = codes "node" ∷ codes "start" ∷ n ∷ []
call_words (call.AgentStop n) = codes "agent" ∷ codes "stop" ∷ n ∷ []
call_words (call.AgentStart n) = codes "agent" ∷ codes "start" ∷ n ∷ []
call_words (call.RemoteBegin n cpu mem) = codes "remote" ∷ codes "open" ∷ n ∷ pieces_words (session_pieces cpu mem)
call_words (call.RemoteBeat n session) = codes "remote" ∷ codes "beat" ∷ n ∷ decimal session ∷ []
call_words (call.RemotePull n session) = codes "remote" ∷ codes "pull" ∷ n ∷ decimal session ∷ []
call_words (call.RemoteStatus n session task s) =
    codes "remote" ∷ codes "status" ∷ n ∷ decimal session ∷ decimal task ∷ state_text s ∷ []
call_words call.Halt = codes "halt" ∷ []

-- ## Entries

abbrev pub what_words : What → List (List ℕ)
what_words (what.Call c) = call_words c
what_words (what.Duty d) = codes "duty" ∷ duty_words d

-- the caller's number and what the entry is
abbrev pub entry_words : Entry → List (List ℕ)
entry_words e = decimal e.by ∷ what_words e.what

-- the entry's line, with its newline
abbrev pub entry_text : Entry → List ℕ
entry_text e = spaced (entry_words e) ++ codes "\n"
