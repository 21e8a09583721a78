-- The words of what has a text have bytes that are seen, and no spaces.
use Rattle.std.proofs.Common.{◌≡◌, ℕ, ◌<◌, ◌≤◌, ◌^◌, ◌/◌, ◌%◌, List, [], ◌∷◌, ◌++◌, codes, decimal, map, Bool, true, false, cond, ◌&&◌, refl, Option, Some, None, arith, nat_eq, nat_le}
use Rattle.std.specs.List.{AllByRecursion}
use Rattle.std.proofs.lemmas.Bool.Decides.{nat_tests}
use Rattle.swarm_objects.proofs.Tests.{both_are}
use Rattle.swarm_objects.specs.Kinds.{bit, duty_numbers, role_of}
use Rattle.swarm_objects.specs.DutyTexts.{duty_kind, duty_words, loop_word}
use Rattle.swarm_objects.specs.declared.calls.Call.{Call}
use Rattle.swarm_objects.specs.declared.calls.Call.TheVariants as call
use Rattle.swarm_objects.specs.declared.calls.Entry.{Entry}
use Rattle.swarm_objects.specs.declared.calls.Op.{Op}
use Rattle.swarm_objects.specs.declared.calls.Op.TheVariants as op
use Rattle.swarm_objects.specs.declared.calls.Query.{Query}
use Rattle.swarm_objects.specs.declared.calls.Query.TheVariants as query
use Rattle.swarm_objects.specs.declared.calls.What.{What}
use Rattle.swarm_objects.specs.declared.calls.What.TheVariants as what
use Rattle.swarm_objects.specs.declared.loops.Role.{Role}
use Rattle.swarm_objects.specs.declared.loops.Role.TheVariants as loop
use Rattle.swarm_objects.specs.declared.duties.Duty.{Duty}
use Rattle.swarm_objects.specs.declared.duties.Duty.TheVariants as duty
use Rattle.swarm_objects.specs.declared.nodes.Availability.TheVariants as availability
use Rattle.swarm_objects.specs.declared.ids.Kind.{Kind}
use Rattle.swarm_objects.specs.declared.ids.Kind.TheVariants as kind
use Rattle.swarm_objects.specs.declared.nodes.NodeRole.TheVariants as role
use Rattle.swarm_objects.specs.declared.services.FailureAction.TheVariants as action
use Rattle.swarm_objects.specs.declared.services.Mode.TheVariants as mode
use Rattle.swarm_objects.specs.declared.services.UpdateOrder.TheVariants as order
use Rattle.swarm_objects.specs.declared.tasks.TaskState.{TaskState}
use Rattle.swarm_objects.specs.declared.tasks.TaskState.TheVariants as task_state
use Rattle.swarm_objects.specs.declared.templates.End.TheVariants as end
use Rattle.swarm_objects.specs.declared.templates.Key.{Key}
use Rattle.swarm_objects.specs.declared.templates.Key.TheVariants as key
use Rattle.swarm_objects.specs.declared.templates.RestartCondition.TheVariants as condition
use Rattle.swarm_objects.specs.Values.Texts.{state_text}
use Rattle.script_grammar.specs.declared.fields.Field.{Field}
use Rattle.script_grammar.specs.declared.fields.Field.TheVariants as field
use Rattle.script_grammar.specs.declared.fields.NumberField.{NumberField}
use Rattle.script_grammar.specs.declared.fields.NumberField.TheVariants as number
use Rattle.swarm_filters.specs.Spellings.{key_has_text}
use Rattle.swarm_filters.specs.Grammar.{is_value}
use Rattle.swarm_filters.specs.Grammar.{is_name, sign_of}
use Rattle.swarm_filters.specs.Spellings.{key_text}
use Rattle.swarm_objects.specs.Limits.{largest_budget}
use Rattle.script_grammar.specs.Calls.{is_budget, is_empty}
use Rattle.script_grammar.specs.Fields.{field_text, number_word, port_text, udp_text}
use Rattle.script_grammar.specs.HasText.{call_has_text, draft_has_text, duty_has_text, has_text, has_word, have_words, is_address, is_byte, is_number, is_port, is_watched, keys_rise, node_has_text, op_has_text, query_has_text, what_has_text, where_some}
use Rattle.script_grammar.specs.Pieces.{joined, node_pieces, old_node_pieces, service_pieces, session_pieces, settings_pieces}
use Rattle.script_grammar.specs.Texts.{address_text, budget_words, call_words, entry_words, filter_text, force_words, id_words, op_words, ops_words, pieces_words, query_words, subnet_text, version_words, what_words}
use Rattle.script_grammar.proofs.AllSpelled.{IsPortNumber, IsSpellable}
use Rattle.script_grammar.proofs.HasWord.{Wordy, spellable}
use Rattle.script_grammar.proofs.Numbers.{all_of, below_only, below_yes}
use Rattle.script_grammar.proofs.Spaces.{AllGraphic, Graphic, decimal_graphic, graphic_append, name_graphic, value_graphic, words_append}
use Rattle.script_grammar.proofs.Spelled.{IsKey}

-- ## Fields

small : (n : ℕ) → n < 65536 → Graphic (decimal n)
small n h = decimal_graphic n (omega (arith, h))

key_graphic : (k : Key) → IsKey k → Graphic (key_text k)
key_graphic key.NodeId h = refl
key_graphic key.Hostname h = refl
key_graphic key.Role h = refl
key_graphic key.Os h = refl
key_graphic key.Arch h = refl
key_graphic (key.Label n) h = graphic_append (codes "node.labels.") n refl (name_graphic n h)
key_graphic (key.Engine n) h = graphic_append (codes "engine.labels.") n refl (name_graphic n h)

sign_graphic : (b : Bool) → Graphic (sign_of b)
sign_graphic true = refl
sign_graphic false = refl

udp_graphic : (b : Bool) → Graphic (udp_text b)
udp_graphic true = refl
udp_graphic false = refl

port_graphic : (target : ℕ) (o : Option ℕ) (udp : Bool) → target < 65536 → IsPortNumber o → Graphic (port_text (record { target = target; number = o; udp = udp }))
port_graphic target None udp h k = graphic_append (decimal target) (udp_text udp) (small target h) (udp_graphic udp)
port_graphic target (Some n) udp h k =
    graphic_append (decimal target) (58 ∷ (decimal n ++ udp_text udp)) (small target h) (graphic_append (decimal n) (udp_text udp) (small n k) (udp_graphic udp))

number_graphic : (w : NumberField) (v : List ℕ) → Graphic v → Graphic (number_word w ++ 61 ∷ v)
number_graphic number.Prepare v h = h
number_graphic number.Start v h = h
number_graphic number.Stop v h = h
number_graphic number.Cpu v h = h
number_graphic number.Mem v h = h
number_graphic number.MaxReplicas v h = h
number_graphic number.RestartDelay v h = h
number_graphic number.RestartMax v h = h
number_graphic number.RestartWindow v h = h
number_graphic number.Parallelism v h = h
number_graphic number.UpdateDelay v h = h
number_graphic number.Monitor v h = h
number_graphic number.Ratio v h = h
number_graphic number.Heartbeat v h = h
number_graphic number.Orphan v h = h
number_graphic number.History v h = h

pub field_graphic : (f : Field) → IsSpellable f → Graphic (field_text f)
field_graphic (field.Number w n) h = number_graphic w (decimal n) (decimal_graphic n h)
field_graphic (field.Mode (mode.Replicated n)) h = decimal_graphic n h
field_graphic (field.Mode mode.Global) h = refl
field_graphic (field.Mode (mode.Job c t)) h = graphic_append (decimal c) (47 ∷ decimal t) (decimal_graphic c h.0) (decimal_graphic t h.1)
field_graphic (field.End end.Never) h = absurd h
field_graphic (field.End (end.Exit ms code)) h = graphic_append (decimal ms) (58 ∷ decimal code) (decimal_graphic ms h.0) (decimal_graphic code (omega (arith, h.1)))
field_graphic (field.End end.Reject) h = refl
field_graphic (field.Label k v) h = graphic_append k (58 ∷ v) (name_graphic k h.0) (name_graphic v h.1)
field_graphic (field.Engine k v) h = graphic_append k (58 ∷ v) (name_graphic k h.0) (name_graphic v h.1)
field_graphic (field.Platform p) h = graphic_append p.os (47 ∷ p.arch) (name_graphic p.os h.0) (name_graphic p.arch h.1)
field_graphic (field.Os n) h = name_graphic n h
field_graphic (field.Arch n) h = name_graphic n h
field_graphic (field.Net n) h = name_graphic n h
field_graphic (field.Spread k) h = key_graphic k h
field_graphic (field.Constraint c) h =
    (
    let b = both_are (key_has_text c.key) (is_value c.value) h in
    graphic_append (key_text c.key) (sign_of c.equal ++ c.value) (key_graphic c.key b.0) (graphic_append (sign_of c.equal) c.value (sign_graphic c.equal) (value_graphic c.value b.1)))
field_graphic (field.Port p) h = port_graphic p.target p.number p.udp h.0 h.1
field_graphic (field.Host p) h = port_graphic p.target p.number p.udp h.0.0 h.0.1
field_graphic (field.Role role.Worker) h = refl
field_graphic (field.Role role.Manager) h = refl
field_graphic (field.Availability availability.Active) h = refl
field_graphic (field.Availability availability.Pause) h = refl
field_graphic (field.Availability availability.Drain) h = refl
field_graphic field.Remote h = refl
field_graphic (field.Restart condition.Never) h = refl
field_graphic (field.Restart condition.OnFailure) h = refl
field_graphic (field.Restart condition.Any) h = refl
field_graphic (field.Failure action.Pause) h = refl
field_graphic (field.Failure action.Continue) h = refl
field_graphic (field.Failure action.Rollback) h = refl
field_graphic (field.Order order.StopFirst) h = refl
field_graphic (field.Order order.StartFirst) h = refl

fields_graphic : (fs : List Field) → Wordy fs → AllGraphic (map field_text fs)
fields_graphic [] h = tt
fields_graphic (f ∷ fs) h = (field_graphic f (spellable f h.0), fields_graphic fs h.1)

pieces_graphic : (ps : List (List Field)) → have_words ps ≡ true → AllGraphic (pieces_words ps)
pieces_graphic ps h = fields_graphic (joined ps) (all_of has_word (joined ps) h)

-- ## Operations

number_of_graphic : (n : ℕ) → is_number n ≡ true → Graphic (decimal n)
number_of_graphic n h = decimal_graphic n (below_only n (2 ^ 64) h)

version_graphic : (v : Option ℕ) → where_some is_number v ≡ true → AllGraphic (version_words v)
version_graphic None h = tt
version_graphic (Some v) h = (number_of_graphic v h, tt)

force_graphic : (b : Bool) → AllGraphic (force_words b)
force_graphic true = (refl, tt)
force_graphic false = tt

high_number : (n : ℕ) → n < 2 ^ 32 → n / 16777216 < 2 ^ 64
high_number n h = omega arith

low_number : (n : ℕ) → n % 256 < 2 ^ 64
low_number n = omega arith

subnet_graphic : (base length : ℕ) → base < 2 ^ 32 → length < 256 → Graphic (subnet_text base length)
subnet_graphic base length h k =
    graphic_append (address_text base) (47 ∷ decimal length)
    (graphic_append (decimal (base / 16777216)) _ (decimal_graphic _ (high_number base h))
    (graphic_append (decimal (base / 65536 % 256)) _ (decimal_graphic _ (low_number (base / 65536)))
    (graphic_append (decimal (base / 256 % 256)) _ (decimal_graphic _ (low_number (base / 256))) (decimal_graphic (base % 256) (low_number base)))))
    (decimal_graphic length (omega (arith, k)))

pub op_graphic : (o : Op) → op_has_text o ≡ true → AllGraphic (op_words o)
op_graphic (op.CreateNode n d) h =
    let a = both_are (is_name n) (node_has_text d) h in
    (refl, (refl, (name_graphic n a.0, pieces_graphic (node_pieces d) (both_are (have_words (node_pieces d)) (keys_rise d.labels && keys_rise d.engine) a.1).0)))
op_graphic (op.UpdateNode n v ls r a) h =
    let x = both_are (is_name n) (where_some is_number v && (have_words (old_node_pieces ls r a) && keys_rise ls)) h in
    let y = both_are (where_some is_number v) (have_words (old_node_pieces ls r a) && keys_rise ls) x.1 in
    let z = both_are (have_words (old_node_pieces ls r a)) (keys_rise ls) y.1 in
    (refl, (refl, (name_graphic n x.0, words_append (version_words v) _ (version_graphic v y.0) (pieces_graphic (old_node_pieces ls r a) z.0))))
op_graphic (op.RemoveNode n force) h = (refl, (refl, (name_graphic n h, force_graphic force)))
op_graphic (op.CreateService n d) h =
    let a = both_are (is_name n) (draft_has_text d) h in
    (refl, (refl, (name_graphic n a.0, pieces_graphic (service_pieces d) (both_are (have_words (service_pieces d)) (is_empty d.spec.template.networks) a.1).0)))
op_graphic (op.UpdateService n v d) h =
    let x = both_are (is_name n) (where_some is_number v && draft_has_text d) h in
    let y = both_are (where_some is_number v) (draft_has_text d) x.1 in
    let z = both_are (have_words (service_pieces d)) (is_empty d.spec.template.networks) y.1 in
    (refl, (refl, (name_graphic n x.0, words_append (version_words v) _ (version_graphic v y.0) (pieces_graphic (service_pieces d) z.0))))
op_graphic (op.RemoveService n) h = (refl, (refl, (name_graphic n h, tt)))
op_graphic (op.RollbackService n v) h =
    let x = both_are (is_name n) (where_some is_number v) h in
    (refl, (refl, (name_graphic n x.0, version_graphic v x.1)))
op_graphic (op.CreateNetwork n base length) h =
    let x = both_are (is_name n) (is_address base && is_byte length) h in
    let y = both_are (is_address base) (is_byte length) x.1 in
    (refl, (refl, (name_graphic n x.0, (subnet_graphic base length (below_only base (2 ^ 32) y.0) (below_only length 256 y.1), tt))))
op_graphic (op.RemoveNetwork n) h = (refl, (refl, (name_graphic n h, tt)))
op_graphic (op.SetCluster s) h = (refl, (refl, pieces_graphic (settings_pieces s) h))

ops_graphic : (ops : List Op) → AllByRecursion (λ o. op_has_text o ≡ true) ops → AllGraphic (ops_words ops)
ops_graphic [] h = tt
ops_graphic (o ∷ []) h = op_graphic o h.0
ops_graphic (o ∷ p ∷ ops) h = words_append (op_words o) (codes ";" ∷ ops_words (p ∷ ops)) (op_graphic o h.0) (refl, ops_graphic (p ∷ ops) h.1)

-- ## Calls

query_graphic : (q : Query) → query_has_text q ≡ true → AllGraphic (query_words q)
query_graphic query.ListNodes h = (refl, (refl, tt))
query_graphic query.ListServices h = (refl, (refl, tt))
query_graphic query.ListNetworks h = (refl, (refl, tt))
query_graphic (query.ListTasks None) h = (refl, (refl, tt))
query_graphic (query.ListTasks (Some n)) h = (refl, (refl, (name_graphic n h, tt)))
query_graphic (query.InspectNode n) h = (refl, (refl, (name_graphic n h, tt)))
query_graphic (query.InspectService n) h = (refl, (refl, (name_graphic n h, tt)))
query_graphic (query.InspectNetwork n) h = (refl, (refl, (name_graphic n h, tt)))
query_graphic (query.InspectTask id) h = (refl, (refl, (number_of_graphic id h, tt)))
query_graphic query.Clock h = (refl, tt)

filter_graphic : (k : Option Kind) → Graphic (filter_text k)
filter_graphic None = refl
filter_graphic (Some kind.Node) = refl
filter_graphic (Some kind.Service) = refl
filter_graphic (Some kind.Task) = refl
filter_graphic (Some kind.Network) = refl
filter_graphic (Some kind.Watcher) = refl

id_graphic : (o : Option ℕ) → where_some is_number o ≡ true → AllGraphic (id_words o)
id_graphic None h = tt
id_graphic (Some n) h = (number_of_graphic n h, tt)

budget_small : (n : ℕ) → nat_le n largest_budget ≡ true → n < 2 ^ 64
budget_small n h = let k : n ≤ largest_budget = grind (arith, nat_tests) in omega (arith, k)

budget_graphic : (n : ℕ) → is_budget n ≡ true → AllGraphic (budget_words n)
budget_graphic n h = go (nat_eq n largest_budget) where
  go : (b : Bool) → AllGraphic (cond b [] (decimal n ∷ []))
  go true = tt
  go false = (decimal_graphic n (budget_small n (both_are (nat_le 1 n) (nat_le n largest_budget) h).1), tt)

state_graphic : (s : TaskState) → Graphic (state_text s)
state_graphic task_state.New = refl
state_graphic task_state.Pending = refl
state_graphic task_state.Assigned = refl
state_graphic task_state.Accepted = refl
state_graphic task_state.Preparing = refl
state_graphic task_state.Ready = refl
state_graphic task_state.Starting = refl
state_graphic task_state.Running = refl
state_graphic task_state.Complete = refl
state_graphic task_state.Shutdown = refl
state_graphic task_state.Failed = refl
state_graphic task_state.Rejected = refl
state_graphic task_state.Remove = refl
state_graphic task_state.Orphaned = refl

txn_graphic : (ops : List Op) → call_has_text (call.Txn ops) ≡ true → AllGraphic (ops_words ops)
txn_graphic [] h = tt
txn_graphic (o ∷ ops) h = ops_graphic (o ∷ ops) (all_of op_has_text (o ∷ ops) h)

pub call_graphic : (c : Call) → call_has_text c ≡ true → AllGraphic (call_words c)
call_graphic (call.Txn ops) h = txn_graphic ops h
call_graphic (call.View q) h = query_graphic q h
call_graphic (call.WatchBegin f) h = (refl, (refl, (filter_graphic f.kind, id_graphic f.id (both_are (where_some is_watched f.kind) (where_some is_number f.id) h).1)))
call_graphic (call.WatchPoll id) h = (refl, (refl, (number_of_graphic id h, tt)))
call_graphic (call.WatchFinish id) h = (refl, (refl, (number_of_graphic id h, tt)))
call_graphic (call.Tick n) h = (refl, (number_of_graphic n h, tt))
call_graphic (call.Settle n) h = (refl, budget_graphic n h)
call_graphic (call.NodeFail n) h = (refl, (refl, (name_graphic n h, tt)))
call_graphic (call.NodeStart n) h = (refl, (refl, (name_graphic n h, tt)))
call_graphic (call.AgentStop n) h = (refl, (refl, (name_graphic n h, tt)))
call_graphic (call.AgentStart n) h = (refl, (refl, (name_graphic n h, tt)))
call_graphic (call.RemoteBegin n cpu mem) h =
    let b = both_are (is_name n) (have_words (session_pieces cpu mem)) h in
    (refl, (refl, (name_graphic n b.0, pieces_graphic (session_pieces cpu mem) b.1)))
call_graphic (call.RemoteBeat n session) h = let b = both_are (is_name n) (is_number session) h in (refl, (refl, (name_graphic n b.0, (number_of_graphic session b.1, tt))))
call_graphic (call.RemotePull n session) h = let b = both_are (is_name n) (is_number session) h in (refl, (refl, (name_graphic n b.0, (number_of_graphic session b.1, tt))))
call_graphic (call.RemoteStatus n session task s) h =
    let a = both_are (is_name n) (is_number session && is_number task) h in
    let b = both_are (is_number session) (is_number task) a.1 in
    (refl, (refl, (name_graphic n a.0, (number_of_graphic session b.0, (number_of_graphic task b.1, (state_graphic s, tt))))))
call_graphic call.Halt h = (refl, tt)

-- ## Duties

loop_graphic : (r : Role) → Graphic (loop_word r)
loop_graphic loop.Dispatcher = refl
loop_graphic loop.Enforcer = refl
loop_graphic loop.Restart = refl
loop_graphic loop.Update = refl
loop_graphic loop.Replicated = refl
loop_graphic loop.Global = refl
loop_graphic loop.Job = refl
loop_graphic loop.Allocator = refl
loop_graphic loop.Scheduler = refl
loop_graphic loop.Reaper = refl
loop_graphic loop.Agents = refl

kind_graphic : (d : Duty) → Graphic (duty_kind d)
kind_graphic (duty.Expire n) = refl
kind_graphic (duty.Orphan n) = refl
kind_graphic (duty.Reject n) = refl
kind_graphic (duty.Restart n) = refl
kind_graphic (duty.Raise n) = refl
kind_graphic (duty.Start n) = refl
kind_graphic (duty.Fail n) = refl
kind_graphic (duty.Finish n) = refl
kind_graphic (duty.Gone n) = refl
kind_graphic (duty.Old n) = refl
kind_graphic (duty.Address n) = refl
kind_graphic (duty.Note n) = refl
kind_graphic (duty.Drop n) = refl
kind_graphic (duty.Explain n) = refl
kind_graphic (duty.Delete n) = refl
kind_graphic (duty.Trim n) = refl
kind_graphic (duty.Register n) = refl
kind_graphic (duty.Beat n) = refl
kind_graphic (duty.Apply n) = refl
kind_graphic (duty.Pull n) = refl
kind_graphic (duty.Swap a b) = refl
kind_graphic (duty.Replace a b) = refl
kind_graphic (duty.Down a b) = refl
kind_graphic (duty.ReplicatedCreate a b) = refl
kind_graphic (duty.Leave a b) = refl
kind_graphic (duty.GlobalCreate a b) = refl
kind_graphic (duty.JobCreate a b) = refl
kind_graphic (duty.Place a b) = refl
kind_graphic (duty.Exec a b) = refl
kind_graphic (duty.Report a b) = refl
kind_graphic (duty.Forget a b) = refl
kind_graphic (duty.Port s target udp) = refl

numbers_graphic : (ns : List ℕ) → AllByRecursion (λ n. is_number n ≡ true) ns → AllGraphic (map decimal ns)
numbers_graphic [] h = tt
numbers_graphic (n ∷ ns) h = (number_of_graphic n h.0, numbers_graphic ns h.1)

bit_number : (b : Bool) → is_number (bit b) ≡ true
bit_number true = refl
bit_number false = refl

port_number : (n : ℕ) → is_port n ≡ true → is_number n ≡ true
port_number n h = let k = below_only n 65536 h in below_yes n (2 ^ 64) (omega (arith, k))

duty_has : (d : Duty) → duty_has_text d ≡ true → AllByRecursion (λ n. is_number n ≡ true) (duty_numbers d)
duty_has (duty.Port s target udp) h = let b = both_are (is_number s) (is_port target) h in (b.0, (port_number target b.1, (bit_number udp, tt)))
duty_has (duty.Expire n) h = all_of is_number (n ∷ []) h
duty_has (duty.Orphan n) h = all_of is_number (n ∷ []) h
duty_has (duty.Reject n) h = all_of is_number (n ∷ []) h
duty_has (duty.Restart n) h = all_of is_number (n ∷ []) h
duty_has (duty.Raise n) h = all_of is_number (n ∷ []) h
duty_has (duty.Start n) h = all_of is_number (n ∷ []) h
duty_has (duty.Fail n) h = all_of is_number (n ∷ []) h
duty_has (duty.Finish n) h = all_of is_number (n ∷ []) h
duty_has (duty.Gone n) h = all_of is_number (n ∷ []) h
duty_has (duty.Old n) h = all_of is_number (n ∷ []) h
duty_has (duty.Address n) h = all_of is_number (n ∷ []) h
duty_has (duty.Note n) h = all_of is_number (n ∷ []) h
duty_has (duty.Drop n) h = all_of is_number (n ∷ []) h
duty_has (duty.Explain n) h = all_of is_number (n ∷ []) h
duty_has (duty.Delete n) h = all_of is_number (n ∷ []) h
duty_has (duty.Trim n) h = all_of is_number (n ∷ []) h
duty_has (duty.Register n) h = all_of is_number (n ∷ []) h
duty_has (duty.Beat n) h = all_of is_number (n ∷ []) h
duty_has (duty.Apply n) h = all_of is_number (n ∷ []) h
duty_has (duty.Pull n) h = all_of is_number (n ∷ []) h
duty_has (duty.Swap a b) h = all_of is_number (a ∷ b ∷ []) h
duty_has (duty.Replace a b) h = all_of is_number (a ∷ b ∷ []) h
duty_has (duty.Down a b) h = all_of is_number (a ∷ b ∷ []) h
duty_has (duty.ReplicatedCreate a b) h = all_of is_number (a ∷ b ∷ []) h
duty_has (duty.Leave a b) h = all_of is_number (a ∷ b ∷ []) h
duty_has (duty.GlobalCreate a b) h = all_of is_number (a ∷ b ∷ []) h
duty_has (duty.JobCreate a b) h = all_of is_number (a ∷ b ∷ []) h
duty_has (duty.Place a b) h = all_of is_number (a ∷ b ∷ []) h
duty_has (duty.Exec a b) h = all_of is_number (a ∷ b ∷ []) h
duty_has (duty.Report a b) h = all_of is_number (a ∷ b ∷ []) h
duty_has (duty.Forget a b) h = all_of is_number (a ∷ b ∷ []) h

pub duty_graphic : (d : Duty) → duty_has_text d ≡ true → AllGraphic (duty_words d)
duty_graphic d h = (loop_graphic (role_of d), (kind_graphic d, numbers_graphic (duty_numbers d) (duty_has d h)))

-- ## Entries

what_graphic : (w : What) → what_has_text w ≡ true → AllGraphic (what_words w)
what_graphic (what.Call c) h = call_graphic c h
what_graphic (what.Duty d) h = (refl, duty_graphic d h)

pub entry_graphic : (e : Entry) → has_text e ≡ true → AllGraphic (entry_words e)
entry_graphic e h =
    let b = both_are (is_number e.by) (what_has_text e.what) h in
    (number_of_graphic e.by b.0, what_graphic e.what b.1)
