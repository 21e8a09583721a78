-- Which entries have a text. A number is tested too, though each value that a program has fits its type.
use Rattle.std.specs.Prelude.{ℕ, nat_lt, ◌^◌, List, [], ◌∷◌, Bool, true, false, not, ◌&&◌, Option, Some, None}
use Rattle.std.specs.List.{list_all}
use Rattle.swarm_objects.specs.Kinds.{duty_numbers}
use Rattle.swarm_objects.specs.declared.calls.Call.{Call}
use Rattle.swarm_objects.specs.declared.calls.Call.TheVariants as call
use Rattle.swarm_objects.specs.declared.calls.Entry.{Entry}
use Rattle.swarm_objects.specs.declared.calls.Op.{Op}
use Rattle.swarm_objects.specs.declared.calls.Op.TheVariants as op
use Rattle.swarm_objects.specs.declared.calls.Query.{Query}
use Rattle.swarm_objects.specs.declared.calls.Query.TheVariants as query
use Rattle.swarm_objects.specs.declared.calls.What.{What}
use Rattle.swarm_objects.specs.declared.calls.What.TheVariants as what
use Rattle.swarm_objects.specs.declared.duties.Duty.{Duty}
use Rattle.swarm_objects.specs.declared.duties.Duty.TheVariants as duty
use Rattle.swarm_objects.specs.declared.ids.Kind.{Kind}
use Rattle.swarm_objects.specs.declared.ids.Kind.TheVariants as kind
use Rattle.swarm_objects.specs.declared.nodes.NodeDraft.{NodeDraft}
use Rattle.swarm_objects.specs.declared.services.Draft.{Draft}
use Rattle.swarm_objects.specs.declared.services.Mode.{Mode}
use Rattle.swarm_objects.specs.declared.services.Mode.TheVariants as mode
use Rattle.swarm_objects.specs.declared.templates.End.{End}
use Rattle.swarm_objects.specs.declared.templates.End.TheVariants as end
use Rattle.swarm_objects.specs.declared.templates.Port.{Port}
use Rattle.script_grammar.specs.declared.fields.Field.{Field}
use Rattle.script_grammar.specs.declared.fields.Field.TheVariants as field
use Rattle.script_grammar.specs.declared.lines.Line.{Line}
use Rattle.script_grammar.specs.declared.lines.Line.TheVariants as line
use Rattle.swarm_filters.specs.Grammar.{is_name}
use Rattle.swarm_filters.specs.Spellings.{constraint_has_text, key_has_text}
use Rattle.script_grammar.specs.Tables.{bytes_lt}
use Rattle.script_grammar.specs.Pieces.{joined, node_pieces, old_node_pieces, service_pieces, session_pieces, settings_pieces}
use Rattle.script_grammar.specs.Calls.{is_budget, is_empty}

-- ## Numbers

abbrev pub is_number : ℕ → Bool
is_number n = nat_lt n (2 ^ 64)

abbrev pub is_port : ℕ → Bool
is_port n = nat_lt n 65536

abbrev pub is_byte : ℕ → Bool
is_byte n = nat_lt n 256

abbrev pub is_address : ℕ → Bool
is_address n = nat_lt n (2 ^ 32)

-- the test, of a value that is there
abbrev pub where_some : {A : Type 0} → (A → Bool) → Option A → Bool
where_some test None = true
where_some test (Some x) = test x

-- ## Fields

abbrev pub port_has_text : Port → Bool
port_has_text p = is_port p.target && where_some is_port p.number

abbrev pub has_number : Port → Bool
has_number p = elim (p.number) [ Some n ↦ true | None ↦ false ]

abbrev pub mode_has_text : Mode → Bool
mode_has_text (mode.Replicated n) = is_number n
mode_has_text mode.Global = true
mode_has_text (mode.Job concurrent total) = is_number concurrent && is_number total

-- a workload that runs for ever has no word
abbrev pub end_has_text : End → Bool
end_has_text end.Never = false
end_has_text (end.Exit ms code) = is_number ms && is_byte code
end_has_text end.Reject = true

-- some word is read as this field
abbrev pub has_word : Field → Bool
has_word (field.Mode m) = mode_has_text m
has_word (field.End e) = end_has_text e
has_word (field.Number w n) = is_number n
has_word (field.Label k v) = is_name k && is_name v
has_word (field.Os name) = is_name name
has_word (field.Arch name) = is_name name
has_word (field.Engine k v) = is_name k && is_name v
has_word (field.Constraint c) = constraint_has_text c
has_word (field.Spread k) = key_has_text k
has_word (field.Platform p) = is_name p.os && is_name p.arch
has_word (field.Net name) = is_name name
has_word (field.Port p) = port_has_text p
has_word (field.Host p) = port_has_text p && has_number p
has_word f = true

abbrev pub have_words : List (List Field) → Bool
have_words pieces = list_all has_word (joined pieces)

-- each key stands before all later ones
abbrev pub keys_rise : List (List ℕ × List ℕ) → Bool
keys_rise [] = true
keys_rise (l ∷ ls) = list_all (λ m. bytes_lt l.0 m.0) ls && keys_rise ls

-- ## Operations

abbrev pub node_has_text : NodeDraft → Bool
node_has_text d = have_words (node_pieces d) && (keys_rise d.labels && keys_rise d.engine)

-- the networks of a draft are named, and their ids not yet known
abbrev pub draft_has_text : Draft → Bool
draft_has_text d = have_words (service_pieces d) && is_empty d.spec.template.networks

abbrev pub op_has_text : Op → Bool
op_has_text (op.CreateNode n d) = is_name n && node_has_text d
op_has_text (op.UpdateNode n v ls r a) =
    is_name n && (where_some is_number v && (have_words (old_node_pieces ls r a) && keys_rise ls))
op_has_text (op.RemoveNode n force) = is_name n
op_has_text (op.CreateService n d) = is_name n && draft_has_text d
op_has_text (op.UpdateService n v d) = is_name n && (where_some is_number v && draft_has_text d)
op_has_text (op.RemoveService n) = is_name n
op_has_text (op.RollbackService n v) = is_name n && where_some is_number v
op_has_text (op.CreateNetwork n base length) = is_name n && (is_address base && is_byte length)
op_has_text (op.RemoveNetwork n) = is_name n
op_has_text (op.SetCluster s) = have_words (settings_pieces s)

-- ## Calls, duties and entries

abbrev pub query_has_text : Query → Bool
query_has_text (query.ListTasks service) = where_some is_name service
query_has_text (query.InspectNode n) = is_name n
query_has_text (query.InspectService n) = is_name n
query_has_text (query.InspectNetwork n) = is_name n
query_has_text (query.InspectTask id) = is_number id
query_has_text q = true

abbrev pub is_watched : Kind → Bool
is_watched kind.Watcher = false
is_watched k = true

abbrev pub call_has_text : Call → Bool
call_has_text (call.Txn ops) = not (is_empty ops) && list_all op_has_text ops
call_has_text (call.View q) = query_has_text q
call_has_text (call.WatchBegin f) = where_some is_watched f.kind && where_some is_number f.id
call_has_text (call.WatchPoll id) = is_number id
call_has_text (call.WatchFinish id) = is_number id
call_has_text (call.Tick n) = is_number n
call_has_text (call.Settle n) = is_budget n
call_has_text (call.NodeFail n) = is_name n
call_has_text (call.NodeStart n) = is_name n
call_has_text (call.AgentStop n) = is_name n
call_has_text (call.AgentStart n) = is_name n
call_has_text (call.RemoteBegin n cpu mem) = is_name n && have_words (session_pieces cpu mem)
call_has_text (call.RemoteBeat n session) = is_name n && is_number session
call_has_text (call.RemotePull n session) = is_name n && is_number session
call_has_text (call.RemoteStatus n session task s) = is_name n && (is_number session && is_number task)
call_has_text call.Halt = true

-- every duty has one
abbrev pub duty_has_text : Duty → Bool
duty_has_text (duty.Port s target udp) = is_number s && is_port target
duty_has_text d = list_all is_number (duty_numbers d)

abbrev pub what_has_text : What → Bool
what_has_text (what.Call c) = call_has_text c
what_has_text (what.Duty d) = duty_has_text d

abbrev pub has_text : Entry → Bool
has_text e = is_number e.by && what_has_text e.what

-- the call that the line makes has one
abbrev pub line_has_text : Line → Bool
line_has_text line.Blank = true
line_has_text (line.Call c) = call_has_text c
line_has_text (line.Wait n) = true
line_has_text (line.Settle n) = call_has_text (call.Settle n)
