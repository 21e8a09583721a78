-- Calls as a machine that reads words.
use Rattle.std.specs.Prelude.{ℕ, nat_eq, nat_le, ◌+◌, ◌*◌, List, [], ◌∷◌, ◌++◌, codes, Bool, true, false, not, ◌&&◌, if◌then◌else◌, Option, Some, None, find}
use Rattle.std.specs.Str.{bytes_eq}
use Rattle.swarm_objects.specs.Limits.{largest_budget}
use Rattle.swarm_objects.specs.declared.calls.Op.{Op}
use Rattle.swarm_objects.specs.declared.calls.Op.TheVariants as op
use Rattle.swarm_objects.specs.declared.calls.Call.{Call}
use Rattle.swarm_objects.specs.declared.calls.Call.TheVariants as call
use Rattle.swarm_objects.specs.declared.calls.Query.TheVariants as query
use Rattle.swarm_objects.specs.declared.ids.Kind.{Kind}
use Rattle.swarm_objects.specs.declared.ids.Kind.TheVariants as kind
use Rattle.swarm_objects.specs.declared.tasks.TaskState.{TaskState}
use Rattle.swarm_objects.specs.declared.tasks.TaskState.TheVariants as task_state
use Rattle.swarm_objects.specs.declared.watches.Filter.{Filter}
use Rattle.swarm_objects.specs.Values.Texts.{state_text}
use Rattle.script_grammar.specs.declared.fields.Field.{Field}
use Rattle.script_grammar.specs.declared.fields.NumberField.TheVariants as number
use Rattle.script_grammar.specs.declared.fields.Table.{Table}
use Rattle.script_grammar.specs.declared.fields.Table.TheVariants as table
use Rattle.script_grammar.specs.declared.fields.Head.{Head}
use Rattle.script_grammar.specs.declared.fields.Head.TheVariants as head
use Rattle.script_grammar.specs.declared.states.Form.{Form}
use Rattle.script_grammar.specs.declared.states.Form.TheVariants as form
use Rattle.script_grammar.specs.declared.states.Noun.{Noun}
use Rattle.script_grammar.specs.declared.states.Noun.TheVariants as noun
use Rattle.script_grammar.specs.declared.states.Verb.{Verb}
use Rattle.script_grammar.specs.declared.states.Verb.TheVariants as verb
use Rattle.script_grammar.specs.declared.states.CallNoun.{CallNoun}
use Rattle.script_grammar.specs.declared.states.CallNoun.TheVariants as call_noun
use Rattle.script_grammar.specs.declared.states.CallVerb.{CallVerb}
use Rattle.script_grammar.specs.declared.states.CallVerb.TheVariants as call_verb
use Rattle.script_grammar.specs.declared.states.NumberVerb.{NumberVerb}
use Rattle.script_grammar.specs.declared.states.NumberVerb.TheVariants as number_verb
use Rattle.script_grammar.specs.declared.states.SessionVerb.{SessionVerb}
use Rattle.script_grammar.specs.declared.states.SessionVerb.TheVariants as session_verb
use Rattle.script_grammar.specs.declared.states.State.{State}
use Rattle.script_grammar.specs.declared.states.State.TheVariants as state
use Rattle.script_grammar.specs.Words.{byte_number, name_of, number_of, split_at, ◌>>=◌}
use Rattle.script_grammar.specs.Fields.{field_of}
use Rattle.script_grammar.specs.Tables.{may_stand}
use Rattle.script_grammar.specs.Machines.{Machine}
use Rattle.script_grammar.specs.Drafts.{draft_of, node_draft_of, number_given, settings_of}

abbrev pub is_empty : {A : Type 0} → List A → Bool
is_empty [] = true
is_empty (x ∷ xs) = false

-- ## Inside a word

-- @V
abbrev pub version_of : List ℕ → Option ℕ
version_of [] = None
version_of (b ∷ bs) = if nat_eq b 64 then number_of bs else None

abbrev pub begins_version : List ℕ → Bool
begins_version [] = false
begins_version (b ∷ bs) = nat_eq b 64

-- four bytes as one number, the first highest
abbrev pub address_of : ℕ → ℕ → ℕ → ℕ → ℕ
address_of w x y z = ((w * 256 + x) * 256 + y) * 256 + z

-- A.B.C.D/L
abbrev pub range_of : List ℕ → Option (ℕ × ℕ)
range_of text = do
  a ← split_at 46 text
  b ← split_at 46 a.1
  c ← split_at 46 b.1
  d ← split_at 47 c.1
  w ← byte_number a.0
  x ← byte_number b.0
  y ← byte_number c.0
  z ← byte_number d.0
  l ← byte_number d.1
  Some (address_of w x y z, l)

-- subnet=A.B.C.D/L
abbrev pub subnet_of : List ℕ → Option (ℕ × ℕ)
subnet_of word = do
  parts ← split_at 61 word
  if bytes_eq parts.0 (codes "subnet") then range_of parts.1 else None

-- the turns of a settle line
abbrev pub is_budget : ℕ → Bool
is_budget n = nat_le 1 n && nat_le n largest_budget

-- the largest budget, which holds where no number is given, isn't written in a journal
abbrev pub may_write : Form → ℕ → Bool
may_write form.Script n = is_budget n
may_write form.Journal n = is_budget n && not (nat_eq n largest_budget)

abbrev pub budget_of : Form → List ℕ → Option ℕ
budget_of m word = number_of word >>= λ n. if may_write m n then Some n else None

abbrev pub task_states : List TaskState
task_states =
    task_state.New ∷ task_state.Pending ∷ task_state.Assigned ∷ task_state.Accepted ∷ task_state.Preparing
    ∷ task_state.Ready ∷ task_state.Starting ∷ task_state.Running ∷ task_state.Complete ∷ task_state.Shutdown
    ∷ task_state.Failed ∷ task_state.Rejected ∷ task_state.Remove ∷ task_state.Orphaned ∷ []

abbrev pub state_of : List ℕ → Option TaskState
state_of word = find (λ s. bytes_eq (state_text s) word) task_states

abbrev pub all_of : Option Kind → Filter
all_of k = record { kind = k; id = None }

-- what a new watcher is told: of all, or of one kind
abbrev pub filter_of : List ℕ → Option Filter
filter_of word =
    if bytes_eq word (codes "all") then Some (all_of None)
    else if bytes_eq word (codes "node") then Some (all_of (Some kind.Node))
    else if bytes_eq word (codes "service") then Some (all_of (Some kind.Service))
    else if bytes_eq word (codes "task") then Some (all_of (Some kind.Task))
    else if bytes_eq word (codes "network") then Some (all_of (Some kind.Network))
    else None

-- ## Fields

abbrev pub table_of : Head → Table
table_of (head.CreateNode name) = table.NewNode
table_of (head.UpdateNode name version) = table.OldNode
table_of (head.CreateService name) = table.Service
table_of (head.UpdateService name version) = table.Service
table_of head.SetCluster = table.Cluster

-- the operation of a head and its fields
abbrev pub op_of : Head → List Field → Op
op_of (head.CreateNode name) fs = op.CreateNode name (node_draft_of fs)
op_of (head.UpdateNode name version) fs =
    op.UpdateNode name version (node_draft_of fs).labels (node_draft_of fs).role (node_draft_of fs).availability
op_of (head.CreateService name) fs = op.CreateService name (draft_of fs)
op_of (head.UpdateService name version) fs = op.UpdateService name version (draft_of fs)
op_of head.SetCluster fs = op.SetCluster (settings_of fs)

-- a session begins with the resources that are named
abbrev pub session_call : List ℕ → List Field → Call
session_call name fs = call.RemoteBegin name (number_given number.Cpu fs) (number_given number.Mem fs)

-- a version may come behind the name of an update
abbrev pub takes_version : Head → Bool
takes_version (head.UpdateNode name None) = true
takes_version (head.UpdateService name None) = true
takes_version h = false

abbrev pub set_version : Head → ℕ → Head
set_version (head.UpdateNode name w) v = head.UpdateNode name (Some v)
set_version (head.UpdateService name w) v = head.UpdateService name (Some v)
set_version h v = h

abbrev pub versioned : List Op → Head → List Field → List ℕ → Option State
versioned ops h fs word =
    if is_empty fs && takes_version h
    then (version_of word >>= λ v. Some (state.Fields ops (set_version h v) [])) else None

-- the fields with the one of this word, where it may stand there
abbrev pub next_field : Form → Table → List Field → List ℕ → Option (List Field)
next_field m t fs word = field_of word >>= λ f. if may_stand m t fs f word then Some (fs ++ f ∷ []) else None

-- ## One word more

-- the first word of an operation
abbrev pub noun_of : List ℕ → Option Noun
noun_of word =
    if bytes_eq word (codes "node") then Some noun.Node
    else if bytes_eq word (codes "service") then Some noun.Service
    else if bytes_eq word (codes "network") then Some noun.Network
    else if bytes_eq word (codes "cluster") then Some noun.Cluster
    else None

-- the first word of another call; only a journal has halt
abbrev pub call_opening : Form → List ℕ → Option State
call_opening m word =
    if bytes_eq word (codes "list") then Some (state.CallNoun call_noun.List)
    else if bytes_eq word (codes "inspect") then Some (state.CallNoun call_noun.Inspect)
    else if bytes_eq word (codes "watch") then Some (state.CallNoun call_noun.Watch)
    else if bytes_eq word (codes "agent") then Some (state.CallNoun call_noun.Agent)
    else if bytes_eq word (codes "remote") then Some (state.CallNoun call_noun.Remote)
    else if bytes_eq word (codes "clock") then Some (state.Done (call.View query.Clock))
    else if bytes_eq word (codes "tick") then Some (state.Number number_verb.Tick)
    else if bytes_eq word (codes "settle") then Some state.Settle
    else elim m [
      | form.Script ↦ None
      | form.Journal ↦ if bytes_eq word (codes "halt") then Some (state.Done call.Halt) else None
    ]

-- behind a semicolon only operations come
abbrev pub opening : Form → List Op → List ℕ → Option State
opening m ops word = elim (noun_of word) [
  | Some n ↦ Some (state.Noun ops n)
  | None ↦ if is_empty ops then call_opening m word else None
]

abbrev pub node_call : List ℕ → Option CallVerb
node_call word =
    if bytes_eq word (codes "fail") then Some call_verb.NodeFail
    else if bytes_eq word (codes "start") then Some call_verb.NodeStart
    else None

-- the second word of an operation; two begin with `node` and are calls of their own
abbrev pub second : List Op → Noun → List ℕ → Option State
second ops noun.Node word =
    if bytes_eq word (codes "join") then Some (state.Verb ops verb.NodeJoin)
    else if bytes_eq word (codes "update") then Some (state.Verb ops verb.NodeUpdate)
    else if bytes_eq word (codes "remove") then Some (state.Verb ops verb.NodeRemove)
    else if is_empty ops then (node_call word >>= λ v. Some (state.CallVerb v))
    else None
second ops noun.Service word =
    if bytes_eq word (codes "create") then Some (state.Verb ops verb.ServiceCreate)
    else if bytes_eq word (codes "update") then Some (state.Verb ops verb.ServiceUpdate)
    else if bytes_eq word (codes "remove") then Some (state.Verb ops verb.ServiceRemove)
    else if bytes_eq word (codes "rollback") then Some (state.Verb ops verb.ServiceRollback)
    else None
second ops noun.Network word =
    if bytes_eq word (codes "create") then Some (state.Verb ops verb.NetworkCreate)
    else if bytes_eq word (codes "remove") then Some (state.Verb ops verb.NetworkRemove)
    else None
second ops noun.Cluster word = if bytes_eq word (codes "set") then Some (state.Fields ops head.SetCluster []) else None

-- the second word of another call
abbrev pub call_second : CallNoun → List ℕ → Option State
call_second call_noun.List word =
    if bytes_eq word (codes "nodes") then Some (state.Done (call.View query.ListNodes))
    else if bytes_eq word (codes "services") then Some (state.Done (call.View query.ListServices))
    else if bytes_eq word (codes "networks") then Some (state.Done (call.View query.ListNetworks))
    else if bytes_eq word (codes "tasks") then Some (state.Done (call.View (query.ListTasks None)))
    else None
call_second call_noun.Inspect word =
    if bytes_eq word (codes "node") then Some (state.CallVerb call_verb.InspectNode)
    else if bytes_eq word (codes "service") then Some (state.CallVerb call_verb.InspectService)
    else if bytes_eq word (codes "network") then Some (state.CallVerb call_verb.InspectNetwork)
    else if bytes_eq word (codes "task") then Some (state.Number number_verb.InspectTask)
    else None
call_second call_noun.Watch word =
    if bytes_eq word (codes "open") then Some state.WatchOpen
    else if bytes_eq word (codes "poll") then Some (state.Number number_verb.WatchPoll)
    else if bytes_eq word (codes "close") then Some (state.Number number_verb.WatchClose)
    else None
call_second call_noun.Agent word =
    if bytes_eq word (codes "stop") then Some (state.CallVerb call_verb.AgentStop)
    else if bytes_eq word (codes "start") then Some (state.CallVerb call_verb.AgentStart)
    else None
call_second call_noun.Remote word =
    if bytes_eq word (codes "open") then Some (state.CallVerb call_verb.RemoteOpen)
    else if bytes_eq word (codes "beat") then Some (state.CallVerb call_verb.RemoteBeat)
    else if bytes_eq word (codes "pull") then Some (state.CallVerb call_verb.RemotePull)
    else if bytes_eq word (codes "status") then Some (state.CallVerb call_verb.RemoteStatus)
    else None

-- the name behind two words of an operation
abbrev pub with_name : List Op → Verb → List ℕ → State
with_name ops verb.NodeJoin n = state.Fields ops (head.CreateNode n) []
with_name ops verb.NodeUpdate n = state.Fields ops (head.UpdateNode n None) []
with_name ops verb.NodeRemove n = state.Operation ops (op.RemoveNode n false)
with_name ops verb.ServiceCreate n = state.Fields ops (head.CreateService n) []
with_name ops verb.ServiceUpdate n = state.Fields ops (head.UpdateService n None) []
with_name ops verb.ServiceRemove n = state.Operation ops (op.RemoveService n)
with_name ops verb.ServiceRollback n = state.Operation ops (op.RollbackService n None)
with_name ops verb.NetworkCreate n = state.Subnet ops n
with_name ops verb.NetworkRemove n = state.Operation ops (op.RemoveNetwork n)

-- the name behind two words of another call
abbrev pub call_named : CallVerb → List ℕ → State
call_named call_verb.NodeFail n = state.Done (call.NodeFail n)
call_named call_verb.NodeStart n = state.Done (call.NodeStart n)
call_named call_verb.AgentStop n = state.Done (call.AgentStop n)
call_named call_verb.AgentStart n = state.Done (call.AgentStart n)
call_named call_verb.InspectNode n = state.Done (call.View (query.InspectNode n))
call_named call_verb.InspectService n = state.Done (call.View (query.InspectService n))
call_named call_verb.InspectNetwork n = state.Done (call.View (query.InspectNetwork n))
call_named call_verb.RemoteOpen n = state.SessionFields n []
call_named call_verb.RemoteBeat n = state.Session session_verb.Beat n
call_named call_verb.RemotePull n = state.Session session_verb.Pull n
call_named call_verb.RemoteStatus n = state.Session session_verb.Status n

-- the call of a number
abbrev pub call_numbered : NumberVerb → ℕ → Call
call_numbered number_verb.Tick n = call.Tick n
call_numbered number_verb.InspectTask n = call.View (query.InspectTask n)
call_numbered number_verb.WatchPoll n = call.WatchPoll n
call_numbered number_verb.WatchClose n = call.WatchFinish n

-- the session behind a node's name
abbrev pub with_session : SessionVerb → List ℕ → ℕ → State
with_session session_verb.Beat name n = state.Done (call.RemoteBeat name n)
with_session session_verb.Pull name n = state.Done (call.RemotePull name n)
with_session session_verb.Status name n = state.StatusTask name n

-- a word behind a head and its fields
abbrev pub in_fields : Form → List Op → Head → List Field → List ℕ → Option State
in_fields m ops h fs word =
    if bytes_eq word (codes ";") then Some (state.Opening (ops ++ op_of h fs ∷ []))
    else if begins_version word then versioned ops h fs word
    else (next_field m (table_of h) fs word >>= λ gs. Some (state.Fields ops h gs))

-- what an operation without fields may still take
abbrev pub behind_op : List Op → Op → List ℕ → Option State
behind_op ops (op.RemoveNode n false) word =
    if bytes_eq word (codes "force") then Some (state.Operation ops (op.RemoveNode n true)) else None
behind_op ops (op.RollbackService n None) word =
    version_of word >>= λ v. Some (state.Operation ops (op.RollbackService n (Some v)))
behind_op ops o word = None

abbrev pub in_operation : List Op → Op → List ℕ → Option State
in_operation ops o word =
    if bytes_eq word (codes ";") then Some (state.Opening (ops ++ o ∷ [])) else behind_op ops o word

-- a filter of one object, where it isn't already
abbrev pub with_id : Filter → ℕ → Filter
with_id f n = record { kind = f.kind; id = Some n }

abbrev pub takes_id : Filter → Bool
takes_id f = elim (f.id) [ None ↦ true | Some n ↦ false ]

-- what a whole call may still take: a service whose tasks are listed, an object that is watched
abbrev pub behind_call : Call → List ℕ → Option State
behind_call (call.View (query.ListTasks None)) word =
    name_of word >>= λ n. Some (state.Done (call.View (query.ListTasks (Some n))))
behind_call (call.WatchBegin f) word =
    if takes_id f then (number_of word >>= λ n. Some (state.Done (call.WatchBegin (with_id f n)))) else None
behind_call c word = None

-- one word more
abbrev pub step : Form → State → List ℕ → Option State
step m (state.Opening ops) word = opening m ops word
step m (state.Noun ops n) word = second ops n word
step m (state.Verb ops v) word = name_of word >>= λ name. Some (with_name ops v name)
step m (state.Fields ops h fs) word = in_fields m ops h fs word
step m (state.Subnet ops n) word = subnet_of word >>= λ s. Some (state.Operation ops (op.CreateNetwork n s.0 s.1))
step m (state.Operation ops o) word = in_operation ops o word
step m (state.CallNoun n) word = call_second n word
step m (state.CallVerb v) word = name_of word >>= λ name. Some (call_named v name)
step m (state.Number v) word = number_of word >>= λ n. Some (state.Done (call_numbered v n))
step m state.WatchOpen word = filter_of word >>= λ f. Some (state.Done (call.WatchBegin f))
step m (state.SessionFields name fs) word =
    next_field m table.Session fs word >>= λ gs. Some (state.SessionFields name gs)
step m (state.Session v name) word = number_of word >>= λ n. Some (with_session v name n)
step m (state.StatusTask name session) word = number_of word >>= λ task. Some (state.StatusState name session task)
step m (state.StatusState name session task) word =
    state_of word >>= λ s. Some (state.Done (call.RemoteStatus name session task s))
step m state.Settle word = budget_of m word >>= λ n. Some (state.Done (call.Settle n))
step m (state.Done c) word = behind_call c word

-- the call, where it is whole
abbrev pub whole : State → Option Call
whole (state.Fields ops h fs) = Some (call.Txn (ops ++ op_of h fs ∷ []))
whole (state.Operation ops o) = Some (call.Txn (ops ++ o ∷ []))
whole (state.SessionFields name fs) = Some (session_call name fs)
whole state.Settle = Some (call.Settle largest_budget)
whole (state.Done c) = Some c
whole s = None

-- the grammar of calls
abbrev pub call_grammar : Form → Machine State Call
call_grammar m = record { start = state.Opening []; step = step m; whole = whole }
