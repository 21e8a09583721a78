-- The tables of fields: their order, what may repeat, and what is left out.
use Rattle.std.specs.Prelude.{ℕ, nat_eq, nat_lt, List, [], ◌∷◌, Bool, true, false, not, ◌&&◌, ◌||◌}
use Rattle.std.specs.Str.{bytes_eq}
use Rattle.std.specs.List.{list_any, list_all}
use Rattle.swarm_objects.specs.Defaults.{usual_mode, usual_node, usual_restart, usual_settings, usual_template, usual_update, usual_workload}
use Rattle.swarm_objects.specs.declared.services.Mode.{Mode}
use Rattle.swarm_objects.specs.declared.services.Mode.TheVariants as mode
use Rattle.swarm_objects.specs.declared.templates.End.TheVariants as end
use Rattle.swarm_objects.specs.declared.templates.RestartCondition.TheVariants as condition
use Rattle.swarm_objects.specs.declared.services.FailureAction.TheVariants as action
use Rattle.swarm_objects.specs.declared.services.UpdateOrder.TheVariants as order
use Rattle.swarm_objects.specs.declared.nodes.NodeRole.TheVariants as role
use Rattle.swarm_objects.specs.declared.nodes.Availability.TheVariants as availability
use Rattle.script_grammar.specs.declared.fields.NumberField.{NumberField}
use Rattle.script_grammar.specs.declared.fields.NumberField.TheVariants as number
use Rattle.script_grammar.specs.declared.fields.Field.{Field}
use Rattle.script_grammar.specs.declared.fields.Field.TheVariants as field
use Rattle.script_grammar.specs.declared.fields.Table.{Table}
use Rattle.script_grammar.specs.declared.fields.Table.TheVariants as table
use Rattle.script_grammar.specs.declared.states.Form.{Form}
use Rattle.script_grammar.specs.declared.states.Form.TheVariants as form
use Rattle.script_grammar.specs.Fields.{field_text}

-- ## The order of the tables, and what belongs where

abbrev pub number_row : NumberField → ℕ
number_row number.Prepare = 2
number_row number.Start = 3
number_row number.Stop = 4
number_row number.Cpu = 8
number_row number.Mem = 9
number_row number.MaxReplicas = 18
number_row number.RestartDelay = 21
number_row number.RestartMax = 22
number_row number.RestartWindow = 23
number_row number.Parallelism = 26
number_row number.UpdateDelay = 27
number_row number.Monitor = 28
number_row number.Ratio = 30
number_row number.Heartbeat = 32
number_row number.Orphan = 33
number_row number.History = 34

-- a place for each row of all tables, in one order, which is the order of each
abbrev pub row : Field → ℕ
row (field.Mode m) = 0
row (field.End e) = 1
row (field.Number which n) = number_row which
row (field.Label k v) = 5
row (field.Role r) = 6
row (field.Availability a) = 7
row (field.Os name) = 11
row (field.Arch name) = 12
row (field.Engine k v) = 13
row field.Remote = 14
row (field.Constraint c) = 15
row (field.Spread k) = 16
row (field.Platform p) = 17
row (field.Net name) = 19
row (field.Restart c) = 20
row (field.Port p) = 24
row (field.Host p) = 25
row (field.Failure a) = 29
row (field.Order o) = 31

abbrev pub number_belongs : Table → NumberField → Bool
number_belongs table.NewNode w = nat_eq (number_row w) 8 || nat_eq (number_row w) 9
number_belongs table.OldNode w = false
number_belongs table.Service w = nat_lt (number_row w) 32
number_belongs table.Cluster w = nat_lt 31 (number_row w)
number_belongs table.Session w = nat_eq (number_row w) 8 || nat_eq (number_row w) 9

abbrev pub belongs : Table → Field → Bool
belongs t (field.Number w n) = number_belongs t w
belongs table.NewNode (field.Label k v) = true
belongs table.NewNode (field.Role r) = true
belongs table.NewNode (field.Availability a) = true
belongs table.NewNode (field.Os n) = true
belongs table.NewNode (field.Arch n) = true
belongs table.NewNode (field.Engine k v) = true
belongs table.NewNode field.Remote = true
belongs table.OldNode (field.Label k v) = true
belongs table.OldNode (field.Role r) = true
belongs table.OldNode (field.Availability a) = true
belongs table.Service (field.Mode m) = true
belongs table.Service (field.End e) = true
belongs table.Service (field.Constraint c) = true
belongs table.Service (field.Spread k) = true
belongs table.Service (field.Platform p) = true
belongs table.Service (field.Net n) = true
belongs table.Service (field.Restart c) = true
belongs table.Service (field.Port p) = true
belongs table.Service (field.Host p) = true
belongs table.Service (field.Failure a) = true
belongs table.Service (field.Order o) = true
belongs t f = false

-- the rows marked * in the tables
abbrev pub may_repeat : Field → Bool
may_repeat (field.Label k v) = true
may_repeat (field.Engine k v) = true
may_repeat (field.Constraint c) = true
may_repeat (field.Spread k) = true
may_repeat (field.Platform p) = true
may_repeat (field.Net name) = true
may_repeat (field.Port p) = true
may_repeat (field.Host p) = true
may_repeat f = false

-- the key of a label; other fields have none
abbrev pub same_key : Field → Field → Bool
same_key (field.Label k v) (field.Label j u) = bytes_eq k j
same_key (field.Engine k v) (field.Engine j u) = bytes_eq k j
same_key f g = false

-- two fields of one line can't be: one row twice, where it may not repeat, or one label key twice
abbrev pub clashes : Field → Field → Bool
clashes f g = nat_eq (row f) (row g) && (not (may_repeat f) || same_key f g)

-- f, read after the fields fs, may stand there in a script
abbrev pub fits : List Field → Field → Bool
fits fs f = not (list_any (λ g. clashes g f) fs)

-- ## What is left out, and what stands before what

abbrev pub number_default : Table → NumberField → ℕ
number_default table.NewNode number.Cpu = usual_node.cpu
number_default table.NewNode number.Mem = usual_node.mem
number_default t number.Prepare = usual_workload.prepare
number_default t number.Start = usual_workload.start
number_default t number.Stop = usual_workload.stop
number_default t number.Cpu = usual_template.cpu
number_default t number.Mem = usual_template.mem
number_default t number.MaxReplicas = usual_template.max_replicas
number_default t number.RestartDelay = usual_restart.delay
number_default t number.RestartMax = usual_restart.max_attempts
number_default t number.RestartWindow = usual_restart.window
number_default t number.Parallelism = usual_update.parallelism
number_default t number.UpdateDelay = usual_update.delay
number_default t number.Monitor = usual_update.monitor
number_default t number.Ratio = usual_update.ratio
number_default t number.Heartbeat = usual_settings.heartbeat
number_default t number.Orphan = usual_settings.orphan
number_default t number.History = usual_settings.history

abbrev replicas_of : Mode → ℕ
replicas_of (mode.Replicated n) = n
replicas_of m = 0

-- the replicas of a service that names no mode
abbrev pub usual_replicas : ℕ
usual_replicas = replicas_of usual_mode

-- what a session isn't told is left as it is
abbrev pub has_defaults : Table → Bool
has_defaults table.Session = false
has_defaults t = true

-- the field says what holds without it
abbrev pub is_default : Table → Field → Bool
is_default t (field.Number w n) = has_defaults t && nat_eq n (number_default t w)
is_default t (field.Mode (mode.Replicated n)) = nat_eq n usual_replicas
is_default t (field.End end.Never) = true
is_default t (field.Role role.Worker) = true
is_default t (field.Availability availability.Active) = true
is_default t (field.Os name) = bytes_eq name usual_node.os
is_default t (field.Arch name) = bytes_eq name usual_node.arch
is_default t (field.Restart condition.Any) = true
is_default t (field.Failure action.Pause) = true
is_default t (field.Order order.StopFirst) = true
is_default t f = false

-- by bytes
abbrev pub bytes_lt : List ℕ → List ℕ → Bool
bytes_lt xs [] = false
bytes_lt [] (y ∷ ys) = true
bytes_lt (x ∷ xs) (y ∷ ys) = nat_lt x y || (nat_eq x y && bytes_lt xs ys)

-- in one row: keys rise, and other items keep their order
abbrev pub key_rises : Field → Field → Bool
key_rises (field.Label k v) (field.Label j u) = bytes_lt k j
key_rises (field.Engine k v) (field.Engine j u) = bytes_lt k j
key_rises f g = true

abbrev pub comes_before : Field → Field → Bool
comes_before f g = nat_lt (row f) (row g) || (nat_eq (row f) (row g) && (may_repeat f && key_rises f g))

-- f, read after the fields fs, may stand there in a journal
abbrev pub follows : Table → List Field → Field → Bool
follows t fs f = not (is_default t f) && list_all (λ g. comes_before g f) fs

-- the field, read from this word after the fields fs, may stand there
abbrev pub may_stand : Form → Table → List Field → Field → List ℕ → Bool
may_stand form.Script t fs f word = belongs t f && fits fs f
may_stand form.Journal t fs f word = belongs t f && (bytes_eq word (field_text f) && follows t fs f)
