-- No line of a script halts the world.
use Rattle.std.proofs.Common.{◌≡◌, ℕ, ◌+◌, List, [], ◌∷◌, codes, Bool, true, false, cond, not, refl, Option, Some, None, Result, Ok, Err, IfOk, subst}
use Rattle.std.specs.Option.{option_map}
use Rattle.std.specs.Prelude.{⊤}
use Rattle.std.specs.Str.{bytes_eq}
use Rattle.swarm_objects.specs.CallWords.{is_halt}
use Rattle.swarm_objects.specs.declared.calls.Call.{Call}
use Rattle.swarm_objects.specs.declared.calls.Call.TheVariants as call
use Rattle.swarm_objects.specs.declared.calls.Op.{Op}
use Rattle.swarm_objects.specs.declared.calls.Op.TheVariants as op
use Rattle.swarm_objects.specs.declared.calls.Query.TheVariants as query
use Rattle.script_grammar.specs.declared.fields.Field.{Field}
use Rattle.script_grammar.specs.declared.fields.Head.{Head}
use Rattle.script_grammar.specs.declared.fields.Table.TheVariants as table
use Rattle.script_grammar.specs.declared.lines.Line.{Line}
use Rattle.script_grammar.specs.declared.lines.Line.TheVariants as line
use Rattle.script_grammar.specs.declared.lines.LineFault.{LineFault}
use Rattle.script_grammar.specs.declared.lines.LineFault.TheVariants as fault
use Rattle.script_grammar.specs.declared.lines.LineState.{LineState}
use Rattle.script_grammar.specs.declared.lines.LineState.TheVariants as line_state
use Rattle.script_grammar.specs.declared.states.CallNoun.{CallNoun}
use Rattle.script_grammar.specs.declared.states.CallNoun.TheVariants as call_noun
use Rattle.script_grammar.specs.declared.states.CallVerb.{CallVerb}
use Rattle.script_grammar.specs.declared.states.CallVerb.TheVariants as call_verb
use Rattle.script_grammar.specs.declared.states.Form.TheVariants as form
use Rattle.script_grammar.specs.declared.states.Noun.{Noun}
use Rattle.script_grammar.specs.declared.states.Noun.TheVariants as noun
use Rattle.script_grammar.specs.declared.states.NumberVerb.{NumberVerb}
use Rattle.script_grammar.specs.declared.states.NumberVerb.TheVariants as number_verb
use Rattle.script_grammar.specs.declared.states.SessionVerb.{SessionVerb}
use Rattle.script_grammar.specs.declared.states.SessionVerb.TheVariants as session_verb
use Rattle.script_grammar.specs.declared.states.State.{State}
use Rattle.script_grammar.specs.declared.states.State.TheVariants as state
use Rattle.script_grammar.specs.declared.states.Verb.{Verb}
use Rattle.script_grammar.specs.declared.states.Verb.TheVariants as verb
use Rattle.script_grammar.specs.Words.{name_of, number_of, words_of, ◌>>=◌}
use Rattle.script_grammar.specs.Calls.{begins_version, behind_call, behind_op, budget_of, call_named, call_numbered, call_opening, call_second, filter_of, in_fields, is_empty, next_field, node_call, noun_of, opening, second, state_of, step, subnet_of, table_of, takes_id, takes_version, version_of, versioned, whole, with_name, with_session}
use Rattle.script_grammar.specs.Lines.{is_blank, is_long, is_printable, line_of, line_runs, line_step, line_whole, meaning_of, script_grammar, wait_of}
use Rattle.script_grammar.specs.Machines.{Machine, ended, meaning, reads}

-- where there is a value, it passes the test
abbrev pub Passes : {A : Type 0} → (A → Bool) → Option A → Type 0
Passes test None = ⊤
Passes test (Some x) = test x ≡ true

pub passes_if : {A : Type 0} (test : A → Bool) (b : Bool) (x y : Option A) → Passes test x → Passes test y → Passes test (cond b x y)
passes_if test true x y p q = p
passes_if test false x y p q = q

pub passes_bind : {A B : Type 0} (test : B → Bool) (o : Option A) (f : A → Option B) → ((a : A) → Passes test (f a)) → Passes test (o >>= f)
passes_bind test None f q = tt
passes_bind test (Some a) f q = q a

-- a test that each step keeps and that makes what is said good
pub keeps : {S R : Type 0} (m : Machine S R) (state_test : S → Bool) (said_test : R → Bool) →
    ((s : S) (w : List ℕ) → state_test s ≡ true → Passes state_test (m.step s w)) → ((s : S) → state_test s ≡ true → Passes said_test (m.whole s)) →
    (k : ℕ) (s : S) (ws : List (List ℕ)) → state_test s ≡ true → IfOk (reads m k s ws) (λ r. said_test r ≡ true)
keeps {S} {R} m state_test said_test steps wholes k s [] good = go (m.whole s) (wholes s good) where
  go : (o : Option R) → Passes said_test o → IfOk (ended o) (λ r. said_test r ≡ true)
  go None h = tt
  go (Some r) h = h
keeps {S} {R} m state_test said_test steps wholes k s (w ∷ ws) good = go (m.step s w) (steps s w good) (λ t. keeps m state_test said_test steps wholes (k + 1) t ws) where
  go : (o : Option S) → Passes state_test o → ((t : S) → state_test t ≡ true → IfOk (reads m (k + 1) t ws) (λ r. said_test r ≡ true)) →
      IfOk (elim o [ Some next ↦ reads m (k + 1) next ws | None ↦ Err (fault.Word k) ]) (λ r. said_test r ≡ true)
  go None h rest = tt
  go (Some t) h rest = rest t h

-- Calls.

abbrev runs_state : State → Bool
runs_state (state.Done c) = not (is_halt c)
runs_state s = true

call_opening_runs : (w : List ℕ) → Passes runs_state (call_opening form.Script w)
call_opening_runs w =
    passes_if runs_state (bytes_eq w (codes "list")) _ _ refl (
    passes_if runs_state (bytes_eq w (codes "inspect")) _ _ refl (
    passes_if runs_state (bytes_eq w (codes "watch")) _ _ refl (
    passes_if runs_state (bytes_eq w (codes "agent")) _ _ refl (
    passes_if runs_state (bytes_eq w (codes "remote")) _ _ refl (
    passes_if runs_state (bytes_eq w (codes "clock")) _ _ refl (
    passes_if runs_state (bytes_eq w (codes "tick")) _ _ refl (
    passes_if runs_state (bytes_eq w (codes "settle")) _ _ refl tt)))))))

opening_runs : (ops : List Op) (w : List ℕ) → Passes runs_state (opening form.Script ops w)
opening_runs ops w = go (noun_of w) where
  go : (o : Option Noun) → Passes runs_state (elim o [ Some n ↦ Some (state.Noun ops n) | None ↦ cond (is_empty ops) (call_opening form.Script w) None ])
  go (Some n) = refl
  go None = passes_if runs_state (is_empty ops) (call_opening form.Script w) None (call_opening_runs w) tt

second_runs : (ops : List Op) (n : Noun) (w : List ℕ) → Passes runs_state (second ops n w)
second_runs ops noun.Node w =
    passes_if runs_state (bytes_eq w (codes "join")) _ _ refl (
    passes_if runs_state (bytes_eq w (codes "update")) _ _ refl (
    passes_if runs_state (bytes_eq w (codes "remove")) _ _ refl (
    passes_if runs_state (is_empty ops) _ None (passes_bind runs_state (node_call w) (λ v. Some (state.CallVerb v)) (λ v. refl)) tt)))
second_runs ops noun.Service w =
    passes_if runs_state (bytes_eq w (codes "create")) _ _ refl (
    passes_if runs_state (bytes_eq w (codes "update")) _ _ refl (
    passes_if runs_state (bytes_eq w (codes "remove")) _ _ refl (
    passes_if runs_state (bytes_eq w (codes "rollback")) _ None refl tt)))
second_runs ops noun.Network w =
    passes_if runs_state (bytes_eq w (codes "create")) _ _ refl (
    passes_if runs_state (bytes_eq w (codes "remove")) _ None refl tt)
second_runs ops noun.Cluster w = passes_if runs_state (bytes_eq w (codes "set")) _ None refl tt

call_second_runs : (n : CallNoun) (w : List ℕ) → Passes runs_state (call_second n w)
call_second_runs call_noun.List w =
    passes_if runs_state (bytes_eq w (codes "nodes")) _ _ refl (
    passes_if runs_state (bytes_eq w (codes "services")) _ _ refl (
    passes_if runs_state (bytes_eq w (codes "networks")) _ _ refl (
    passes_if runs_state (bytes_eq w (codes "tasks")) _ None refl tt)))
call_second_runs call_noun.Inspect w =
    passes_if runs_state (bytes_eq w (codes "node")) _ _ refl (
    passes_if runs_state (bytes_eq w (codes "service")) _ _ refl (
    passes_if runs_state (bytes_eq w (codes "network")) _ _ refl (
    passes_if runs_state (bytes_eq w (codes "task")) _ None refl tt)))
call_second_runs call_noun.Watch w =
    passes_if runs_state (bytes_eq w (codes "open")) _ _ refl (
    passes_if runs_state (bytes_eq w (codes "poll")) _ _ refl (
    passes_if runs_state (bytes_eq w (codes "close")) _ None refl tt))
call_second_runs call_noun.Agent w =
    passes_if runs_state (bytes_eq w (codes "stop")) _ _ refl (
    passes_if runs_state (bytes_eq w (codes "start")) _ None refl tt)
call_second_runs call_noun.Remote w =
    passes_if runs_state (bytes_eq w (codes "open")) _ _ refl (
    passes_if runs_state (bytes_eq w (codes "beat")) _ _ refl (
    passes_if runs_state (bytes_eq w (codes "pull")) _ _ refl (
    passes_if runs_state (bytes_eq w (codes "status")) _ None refl tt)))

with_name_runs : (ops : List Op) (v : Verb) (n : List ℕ) → runs_state (with_name ops v n) ≡ true
with_name_runs ops verb.NodeJoin n = refl
with_name_runs ops verb.NodeUpdate n = refl
with_name_runs ops verb.NodeRemove n = refl
with_name_runs ops verb.ServiceCreate n = refl
with_name_runs ops verb.ServiceUpdate n = refl
with_name_runs ops verb.ServiceRemove n = refl
with_name_runs ops verb.ServiceRollback n = refl
with_name_runs ops verb.NetworkCreate n = refl
with_name_runs ops verb.NetworkRemove n = refl

call_named_runs : (v : CallVerb) (n : List ℕ) → runs_state (call_named v n) ≡ true
call_named_runs call_verb.NodeFail n = refl
call_named_runs call_verb.NodeStart n = refl
call_named_runs call_verb.AgentStop n = refl
call_named_runs call_verb.AgentStart n = refl
call_named_runs call_verb.InspectNode n = refl
call_named_runs call_verb.InspectService n = refl
call_named_runs call_verb.InspectNetwork n = refl
call_named_runs call_verb.RemoteOpen n = refl
call_named_runs call_verb.RemoteBeat n = refl
call_named_runs call_verb.RemotePull n = refl
call_named_runs call_verb.RemoteStatus n = refl

numbered_runs : (v : NumberVerb) (n : ℕ) → runs_state (state.Done (call_numbered v n)) ≡ true
numbered_runs number_verb.Tick n = refl
numbered_runs number_verb.InspectTask n = refl
numbered_runs number_verb.WatchPoll n = refl
numbered_runs number_verb.WatchClose n = refl

with_session_runs : (v : SessionVerb) (name : List ℕ) (n : ℕ) → runs_state (with_session v name n) ≡ true
with_session_runs session_verb.Beat name n = refl
with_session_runs session_verb.Pull name n = refl
with_session_runs session_verb.Status name n = refl

fields_run : (ops : List Op) (h : Head) (fs : List Field) (w : List ℕ) → Passes runs_state (in_fields form.Script ops h fs w)
fields_run ops h fs w =
    passes_if runs_state (bytes_eq w (codes ";")) _ _ refl (
    passes_if runs_state (begins_version w) (versioned ops h fs w) _ (versioned_runs (is_empty fs) (takes_version h))
    (passes_bind runs_state (next_field form.Script (table_of h) fs w) (λ gs. Some (state.Fields ops h gs)) (λ gs. refl)))
  where
    versioned_runs : (a b : Bool) → Passes runs_state (versioned ops h fs w)
    versioned_runs a b = passes_if runs_state _ _ None (passes_bind runs_state (version_of w) _ (λ v. refl)) tt

behind_op_runs : (ops : List Op) (o : Op) (w : List ℕ) → Passes runs_state (behind_op ops o w)
behind_op_runs ops (op.RemoveNode n false) w = passes_if runs_state (bytes_eq w (codes "force")) _ None refl tt
behind_op_runs ops (op.RollbackService n None) w = passes_bind runs_state (version_of w) (λ v. Some (state.Operation ops (op.RollbackService n (Some v)))) (λ v. refl)
behind_op_runs ops _ w = tt

behind_call_runs : (c : Call) (w : List ℕ) → Passes runs_state (behind_call c w)
behind_call_runs (call.View (query.ListTasks None)) w = passes_bind runs_state (name_of w) (λ n. Some (state.Done (call.View (query.ListTasks (Some n))))) (λ n. refl)
behind_call_runs (call.WatchBegin f) w = passes_if runs_state (takes_id f) _ None (passes_bind runs_state (number_of w) _ (λ n. refl)) tt
behind_call_runs _ w = tt

step_runs : (s : State) (w : List ℕ) → Passes runs_state (step form.Script s w)
step_runs (state.Opening ops) w = opening_runs ops w
step_runs (state.Noun ops n) w = second_runs ops n w
step_runs (state.Verb ops v) w = passes_bind runs_state (name_of w) (λ n. Some (with_name ops v n)) (λ n. with_name_runs ops v n)
step_runs (state.Fields ops h fs) w = fields_run ops h fs w
step_runs (state.Subnet ops n) w = passes_bind runs_state (subnet_of w) (λ s. Some (state.Operation ops (op.CreateNetwork n s.0 s.1))) (λ s. refl)
step_runs (state.Operation ops o) w = passes_if runs_state (bytes_eq w (codes ";")) _ _ refl (behind_op_runs ops o w)
step_runs (state.CallNoun n) w = call_second_runs n w
step_runs (state.CallVerb v) w = passes_bind runs_state (name_of w) (λ n. Some (call_named v n)) (λ n. call_named_runs v n)
step_runs (state.Number v) w = passes_bind runs_state (number_of w) (λ n. Some (state.Done (call_numbered v n))) (λ n. numbered_runs v n)
step_runs state.WatchOpen w = passes_bind runs_state (filter_of w) (λ f. Some (state.Done (call.WatchBegin f))) (λ f. refl)
step_runs (state.SessionFields name fs) w = passes_bind runs_state (next_field form.Script table.Session fs w) (λ gs. Some (state.SessionFields name gs)) (λ gs. refl)
step_runs (state.Session v name) w = passes_bind runs_state (number_of w) (λ n. Some (with_session v name n)) (λ n. with_session_runs v name n)
step_runs (state.StatusTask name session) w = passes_bind runs_state (number_of w) (λ task. Some (state.StatusState name session task)) (λ task. refl)
step_runs (state.StatusState name session task) w = passes_bind runs_state (state_of w) (λ s. Some (state.Done (call.RemoteStatus name session task s))) (λ s. refl)
step_runs state.Settle w = passes_bind runs_state (budget_of form.Script w) (λ n. Some (state.Done (call.Settle n))) (λ n. refl)
step_runs (state.Done c) w = behind_call_runs c w

-- Lines.

abbrev runs_line_state : LineState → Bool
runs_line_state (line_state.Call s) = runs_state s
runs_line_state s = true

held_runs : (o : Option State) → Passes runs_state o → Passes runs_line_state (o >>= λ s. Some (line_state.Call s))
held_runs None h = tt
held_runs (Some s) h = h

line_step_runs : (s : LineState) (w : List ℕ) → runs_line_state s ≡ true → Passes runs_line_state (line_step s w)
line_step_runs line_state.Opening w e =
    passes_if runs_line_state (bytes_eq w (codes "wait")) _ _ refl (held_runs (step form.Script (state.Opening []) w) (step_runs (state.Opening []) w))
line_step_runs (line_state.Call s) w e = held_runs (step form.Script s w) (step_runs s w)
line_step_runs line_state.Wait w e = passes_bind runs_line_state (wait_of w) (λ n. Some (line_state.Waited n)) (λ n. refl)
line_step_runs (line_state.Waited n) w e = tt

line_of_runs : (c : Call) → not (is_halt c) ≡ true → line_runs (line_of c) ≡ true
line_of_runs (call.Settle n) e = refl
line_of_runs call.Halt e = cc
line_of_runs _ e = refl

whole_runs : (s : State) → runs_state s ≡ true → Passes line_runs (option_map line_of (whole s))
whole_runs (state.Fields ops h fs) e = refl
whole_runs (state.Operation ops o) e = refl
whole_runs (state.SessionFields name fs) e = refl
whole_runs state.Settle e = refl
whole_runs (state.Done c) e = line_of_runs c e
whole_runs _ e = tt

line_whole_runs : (s : LineState) → runs_line_state s ≡ true → Passes line_runs (line_whole s)
line_whole_runs line_state.Opening e = tt
line_whole_runs (line_state.Call s) e = whole_runs s e
line_whole_runs line_state.Wait e = tt
line_whole_runs (line_state.Waited n) e = refl

words_run : (words : List (List ℕ)) → IfOk (meaning script_grammar words) (λ l. line_runs l ≡ true)
words_run words = keeps script_grammar runs_line_state line_runs line_step_runs line_whole_runs 1 line_state.Opening words refl

runs_by : (long printed blank : Bool) (r : Result Line LineFault) → IfOk r (λ l. line_runs l ≡ true) →
    IfOk (cond long (Err fault.Long) (cond printed (Err fault.Byte) (cond blank (Ok line.Blank) r))) (λ l. line_runs l ≡ true)
runs_by true printed blank r h = tt
runs_by false true blank r h = tt
runs_by false false true r h = refl
runs_by false false false r h = h

runs_ok : (r : Result Line LineFault) (l : Line) → IfOk r (λ l. line_runs l ≡ true) → r ≡ Ok l → line_runs l ≡ true
runs_ok r l h e = subst (λ (q : Result Line LineFault). IfOk q (λ l. line_runs l ≡ true)) e h

-- no line of a script halts the world
pub line_running : (text : List ℕ) (l : Line) → meaning_of text ≡ Ok l → line_runs l ≡ true
line_running text l e =
    runs_ok (meaning_of text) l (runs_by (is_long text) (not (is_printable text)) (is_blank text) (meaning script_grammar (words_of text)) (words_run (words_of text))) e
