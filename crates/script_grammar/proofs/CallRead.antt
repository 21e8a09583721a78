-- The words of a call that has a text are read back.
use Rattle.std.proofs.Common.{◌≡◌, ℕ, ◌<◌, ◌≤◌, ◌^◌, List, [], ◌∷◌, ◌++◌, codes, decimal, Bool, true, false, cond, ◌&&◌, not, refl, sym, ◌∙◌, ap, Option, Some, None, append_assoc, arith, nat_eq, nat_le}
use Rattle.std.specs.List.{AllByRecursion, list_all}
use Rattle.std.proofs.lemmas.Bool.Decides.{nat_tests}
use Rattle.swarm_objects.proofs.Tests.{both, both_are}
use Rattle.swarm_objects.specs.declared.calls.Op.{Op}
use Rattle.swarm_objects.specs.declared.calls.Op.TheVariants as op
use Rattle.swarm_objects.specs.declared.calls.Call.{Call}
use Rattle.swarm_objects.specs.declared.calls.Call.TheVariants as call
use Rattle.swarm_objects.specs.declared.calls.Query.{Query}
use Rattle.swarm_objects.specs.declared.calls.Query.TheVariants as query
use Rattle.swarm_objects.specs.declared.nodes.Availability.{Availability}
use Rattle.swarm_objects.specs.declared.ids.Kind.{Kind}
use Rattle.swarm_objects.specs.declared.ids.Kind.TheVariants as kind
use Rattle.swarm_objects.specs.declared.nodes.NodeRole.{NodeRole}
use Rattle.swarm_objects.specs.declared.tasks.TaskState.{TaskState}
use Rattle.swarm_objects.specs.declared.tasks.TaskState.TheVariants as task_state
use Rattle.swarm_objects.specs.declared.watches.Filter.{Filter}
use Rattle.swarm_objects.specs.Values.Texts.{state_text}
use Rattle.script_grammar.specs.declared.fields.Field.{Field}
use Rattle.script_grammar.specs.declared.fields.Head.{Head}
use Rattle.script_grammar.specs.declared.fields.Head.TheVariants as head
use Rattle.script_grammar.specs.declared.states.CallVerb.{CallVerb}
use Rattle.script_grammar.specs.declared.states.CallVerb.TheVariants as call_verb
use Rattle.script_grammar.specs.declared.states.Form.TheVariants as form
use Rattle.script_grammar.specs.declared.states.NumberVerb.{NumberVerb}
use Rattle.script_grammar.specs.declared.states.NumberVerb.TheVariants as number_verb
use Rattle.script_grammar.specs.declared.states.SessionVerb.{SessionVerb}
use Rattle.script_grammar.specs.declared.states.SessionVerb.TheVariants as session_verb
use Rattle.script_grammar.specs.declared.states.State.{State}
use Rattle.script_grammar.specs.declared.states.State.TheVariants as state
use Rattle.script_grammar.specs.declared.states.Verb.{Verb}
use Rattle.script_grammar.specs.declared.states.Verb.TheVariants as verb
use Rattle.swarm_filters.specs.Grammar.{is_name}
use Rattle.script_grammar.specs.Words.{◌>>=◌}
use Rattle.swarm_objects.specs.Limits.{largest_budget}
use Rattle.script_grammar.specs.Calls.{call_grammar, call_named, call_numbered, is_budget, is_empty, may_write, op_of, state_of, step, version_of, whole, with_name, with_session}
use Rattle.script_grammar.specs.HasText.{call_has_text, draft_has_text, has_word, have_words, is_address, is_byte, is_number, is_watched, keys_rise, node_has_text, op_has_text, query_has_text, where_some}
use Rattle.script_grammar.specs.Machines.{IsSaid, run}
use Rattle.script_grammar.specs.Pieces.{joined, node_pieces, old_node_pieces, service_pieces, session_pieces, settings_pieces}
use Rattle.script_grammar.specs.Texts.{call_words, op_words, ops_words, pieces_words, subnet_text}
use Rattle.script_grammar.proofs.AllSpelled.{spelled}
use Rattle.script_grammar.proofs.Canonical.{IsSpelled, node_canonical, old_canonical, read_fields, read_session, service_canonical, session_canonical, settings_canonical}
use Rattle.script_grammar.proofs.HasWord.{Wordy, spellable}
use Rattle.script_grammar.proofs.NodeBack.{node_draft, old_availability, old_labels, old_role, rises_by, session_cpu, session_mem, settings_back}
use Rattle.script_grammar.proofs.Nodes.{Labels, Rises}
use Rattle.script_grammar.proofs.Numbers.{all_of, below_only, number_yes}
use Rattle.script_grammar.proofs.SaysLaw.{run-append}
use Rattle.script_grammar.proofs.ServiceBack.{service_draft}
use Rattle.script_grammar.proofs.Spelled.{name_yes}
use Rattle.script_grammar.proofs.Subnets.{subnet_yes}
use Rattle.script_grammar.proofs.DutyLaws.{number_yes_of}

-- a journal's words from a state on
abbrev runs : State → List (List ℕ) → Option State
runs = run (call_grammar form.Journal)

abbrev next_run : List (List ℕ) → Option State → Option State
next_run ws o = o >>= λ s. runs s ws

-- ## Words that lead on

named_run : (ops : List Op) (v : Verb) (n : List ℕ) (ws : List (List ℕ)) → is_name n ≡ true → runs (state.Verb ops v) (n ∷ ws) ≡ runs (with_name ops v n) ws
named_run ops v n ws h = ap (λ (o : Option (List ℕ)). next_run ws (o >>= λ x. Some (with_name ops v x))) (name_yes n h)

call_run : (v : CallVerb) (n : List ℕ) (ws : List (List ℕ)) → is_name n ≡ true → runs (state.CallVerb v) (n ∷ ws) ≡ runs (call_named v n) ws
call_run v n ws h = ap (λ (o : Option (List ℕ)). next_run ws (o >>= λ x. Some (call_named v x))) (name_yes n h)

number_run : (v : NumberVerb) (n : ℕ) → is_number n ≡ true → runs (state.Number v) (decimal n ∷ []) ≡ Some (state.Done (call_numbered v n))
number_run v n h = ap (λ (o : Option ℕ). next_run [] (o >>= λ x. Some (state.Done (call_numbered v x)))) (number_yes_of n h)

session_run : (v : SessionVerb) (name : List ℕ) (n : ℕ) (ws : List (List ℕ)) → is_number n ≡ true → runs (state.Session v name) (decimal n ∷ ws) ≡ runs (with_session v name n) ws
session_run v name n ws h = ap (λ (o : Option ℕ). next_run ws (o >>= λ x. Some (with_session v name x))) (number_yes_of n h)

version_yes : (v : ℕ) → is_number v ≡ true → version_of (64 ∷ decimal v) ≡ Some v
version_yes v h = number_yes_of v h

all_spelled : (fs : List Field) → Wordy fs → AllByRecursion IsSpelled fs
all_spelled [] h = tt
all_spelled (f ∷ fs) h = (spelled f (spellable f h.0), all_spelled fs h.1)

words_spelled : (fs : List Field) → list_all has_word fs ≡ true → AllByRecursion IsSpelled fs
words_spelled fs h = all_spelled fs (all_of has_word fs h)

-- ## Operations

-- the words of an operation lead to it
pub record Leads (ops : List Op) (o : Op) : Type 0 where
  pub to : State
  pub read : runs (state.Opening ops) (op_words o) ≡ Some to
  pub ended : whole to ≡ Some (call.Txn (ops ++ o ∷ []))
  pub more : step form.Journal to (codes ";") ≡ Some (state.Opening (ops ++ o ∷ []))

-- those of a head and fields that say the operation
leads_fields : (ops : List Op) (h : Head) (fs : List Field) (o : Op) → runs (state.Opening ops) (op_words o) ≡ Some (state.Fields ops h fs) → op_of h fs ≡ o → Leads ops o
leads_fields ops h fs o r e = record {
  to = state.Fields ops h fs;
  read = r;
  ended = ap (λ x. Some (call.Txn (ops ++ x ∷ []))) e;
  more = ap (λ x. Some (state.Opening (ops ++ x ∷ []))) e;
}

empty_only : {A : Type 0} (xs : List A) → is_empty xs ≡ true → xs ≡ []
empty_only [] e = refl
empty_only (x ∷ xs) e = cc

update_run : (ops : List Op) (n : List ℕ) (v : ℕ) (ws : List (List ℕ)) → is_number v ≡ true →
    runs (state.Fields ops (head.UpdateService n None) []) ((64 ∷ decimal v) ∷ ws) ≡ runs (state.Fields ops (head.UpdateService n (Some v)) []) ws
update_run ops n v ws h = ap (λ (o : Option ℕ). next_run ws (o >>= λ x. Some (state.Fields ops (head.UpdateService n (Some x)) []))) (version_yes v h)

update_node_run : (ops : List Op) (n : List ℕ) (v : ℕ) (ws : List (List ℕ)) → is_number v ≡ true →
    runs (state.Fields ops (head.UpdateNode n None) []) ((64 ∷ decimal v) ∷ ws) ≡ runs (state.Fields ops (head.UpdateNode n (Some v)) []) ws
update_node_run ops n v ws h = ap (λ (o : Option ℕ). next_run ws (o >>= λ x. Some (state.Fields ops (head.UpdateNode n (Some x)) []))) (version_yes v h)

old_op : (n : List ℕ) (v : Option ℕ) (ls : Labels) (r : NodeRole) (a : Availability) → Rises ls →
    op_of (head.UpdateNode n v) (joined (old_node_pieces ls r a)) ≡ op.UpdateNode n v ls r a
old_op n v ls r a l = let e = old_labels ls r a l in let f = old_role ls r a l in let g = old_availability ls r a l in λ i. op.UpdateNode n v (e i) (f i) (g i)

pub leads : (ops : List Op) (o : Op) → op_has_text o ≡ true → Leads ops o
leads ops (op.CreateNode n d) h =
    let a = both_are (is_name n) (node_has_text d) h in
    let b = both_are (have_words (node_pieces d)) (keys_rise d.labels && keys_rise d.engine) a.1 in
    let c = both_are (keys_rise d.labels) (keys_rise d.engine) b.1 in
    let l = rises_by d.labels c.0 in
    let e = rises_by d.engine c.1 in
    leads_fields ops (head.CreateNode n) (joined (node_pieces d)) (op.CreateNode n d)
    (named_run ops verb.NodeJoin n (pieces_words (node_pieces d)) a.0 ∙ read_fields ops (head.CreateNode n) (joined (node_pieces d)) (words_spelled _ b.0) (node_canonical d l e))
    (ap (op.CreateNode n) (node_draft d l e))
leads ops (op.UpdateNode n None ls r a) h =
    let k = both_are (is_name n) (true && (have_words (old_node_pieces ls r a) && keys_rise ls)) h in
    let b = both_are (have_words (old_node_pieces ls r a)) (keys_rise ls) k.1 in
    let l = rises_by ls b.1 in
    leads_fields ops (head.UpdateNode n None) (joined (old_node_pieces ls r a)) (op.UpdateNode n None ls r a)
    (named_run ops verb.NodeUpdate n (pieces_words (old_node_pieces ls r a)) k.0 ∙ read_fields ops (head.UpdateNode n None) (joined (old_node_pieces ls r a)) (words_spelled _ b.0) (old_canonical ls r a l))
    (old_op n None ls r a l)
leads ops (op.UpdateNode n (Some v) ls r a) h =
    let k = both_are (is_name n) (is_number v && (have_words (old_node_pieces ls r a) && keys_rise ls)) h in
    let u = both_are (is_number v) (have_words (old_node_pieces ls r a) && keys_rise ls) k.1 in
    let b = both_are (have_words (old_node_pieces ls r a)) (keys_rise ls) u.1 in
    let l = rises_by ls b.1 in
    leads_fields ops (head.UpdateNode n (Some v)) (joined (old_node_pieces ls r a)) (op.UpdateNode n (Some v) ls r a)
    (
    named_run ops verb.NodeUpdate n ((64 ∷ decimal v) ∷ pieces_words (old_node_pieces ls r a)) k.0
    ∙ update_node_run ops n v (pieces_words (old_node_pieces ls r a)) u.0
    ∙ read_fields ops (head.UpdateNode n (Some v)) (joined (old_node_pieces ls r a)) (words_spelled _ b.0) (old_canonical ls r a l)
    )
    (old_op n (Some v) ls r a l)
leads ops (op.CreateService n d) h =
    let a = both_are (is_name n) (draft_has_text d) h in
    let b = both_are (have_words (service_pieces d)) (is_empty d.spec.template.networks) a.1 in
    leads_fields ops (head.CreateService n) (joined (service_pieces d)) (op.CreateService n d)
    (named_run ops verb.ServiceCreate n (pieces_words (service_pieces d)) a.0 ∙ read_fields ops (head.CreateService n) (joined (service_pieces d)) (words_spelled _ b.0) (service_canonical d))
    (ap (op.CreateService n) (service_draft d (empty_only d.spec.template.networks b.1)))
leads ops (op.UpdateService n None d) h =
    let a = both_are (is_name n) (true && draft_has_text d) h in
    let b = both_are (have_words (service_pieces d)) (is_empty d.spec.template.networks) a.1 in
    leads_fields ops (head.UpdateService n None) (joined (service_pieces d)) (op.UpdateService n None d)
    (named_run ops verb.ServiceUpdate n (pieces_words (service_pieces d)) a.0 ∙ read_fields ops (head.UpdateService n None) (joined (service_pieces d)) (words_spelled _ b.0) (service_canonical d))
    (ap (op.UpdateService n None) (service_draft d (empty_only d.spec.template.networks b.1)))
leads ops (op.UpdateService n (Some v) d) h =
    let a = both_are (is_name n) (is_number v && draft_has_text d) h in
    let u = both_are (is_number v) (draft_has_text d) a.1 in
    let b = both_are (have_words (service_pieces d)) (is_empty d.spec.template.networks) u.1 in
    leads_fields ops (head.UpdateService n (Some v)) (joined (service_pieces d)) (op.UpdateService n (Some v) d)
    (
    named_run ops verb.ServiceUpdate n ((64 ∷ decimal v) ∷ pieces_words (service_pieces d)) a.0
    ∙ update_run ops n v (pieces_words (service_pieces d)) u.0
    ∙ read_fields ops (head.UpdateService n (Some v)) (joined (service_pieces d)) (words_spelled _ b.0) (service_canonical d)
    )
    (ap (op.UpdateService n (Some v)) (service_draft d (empty_only d.spec.template.networks b.1)))
leads ops (op.RemoveService n) h = record { to = state.Operation ops (op.RemoveService n); read = named_run ops verb.ServiceRemove n [] h; ended = refl; more = refl }
leads ops (op.RemoveNode n false) h = record { to = state.Operation ops (op.RemoveNode n false); read = named_run ops verb.NodeRemove n [] h; ended = refl; more = refl }
leads ops (op.RemoveNode n true) h = record { to = state.Operation ops (op.RemoveNode n true); read = named_run ops verb.NodeRemove n (codes "force" ∷ []) h; ended = refl; more = refl }
leads ops (op.RollbackService n None) h = record {
  to = state.Operation ops (op.RollbackService n None);
  read = named_run ops verb.ServiceRollback n [] (both_are (is_name n) true h).0;
  ended = refl;
  more = refl;
}
leads ops (op.RollbackService n (Some v)) h = record {
  to = state.Operation ops (op.RollbackService n (Some v));
  read =
      named_run ops verb.ServiceRollback n ((64 ∷ decimal v) ∷ []) (both_are (is_name n) (is_number v) h).0
      ∙ ap (λ (o : Option ℕ). next_run [] (o >>= λ x. Some (state.Operation ops (op.RollbackService n (Some x))))) (version_yes v (both_are (is_name n) (is_number v) h).1);
  ended = refl;
  more = refl;
}
leads ops (op.CreateNetwork n base length) h =
    let a = both_are (is_name n) (is_address base && is_byte length) h in
    let b = both_are (is_address base) (is_byte length) a.1 in
    record {
      to = state.Operation ops (op.CreateNetwork n base length);
      read =
          named_run ops verb.NetworkCreate n (subnet_text base length ∷ []) a.0
          ∙ ap (λ (o : Option (ℕ × ℕ)). next_run [] (o >>= λ s. Some (state.Operation ops (op.CreateNetwork n s.0 s.1)))) (subnet_yes base length (below_only base (2 ^ 32) b.0) (below_only length 256 b.1));
      ended = refl;
      more = refl;
    }
leads ops (op.RemoveNetwork n) h = record { to = state.Operation ops (op.RemoveNetwork n); read = named_run ops verb.NetworkRemove n [] h; ended = refl; more = refl }
leads ops (op.SetCluster s) h =
    leads_fields ops head.SetCluster (joined (settings_pieces s)) (op.SetCluster s)
    (read_fields ops head.SetCluster (joined (settings_pieces s)) (words_spelled _ h) (settings_canonical s))
    (ap op.SetCluster (settings_back s))

-- behind some operations, the words of one more
run_op : (m : List Op) (o : Op) (ws : List (List ℕ)) → (l : Leads m o) → runs (state.Opening m) (op_words o ++ ws) ≡ runs l.to ws
run_op m o ws l = run-append (call_grammar form.Journal) (state.Opening m) (op_words o) ws ∙ ap (next_run ws) l.read

read_ops : (done : List Op) (o : Op) (ops : List Op) → op_has_text o ≡ true → AllByRecursion (λ p. op_has_text p ≡ true) ops →
    (runs (state.Opening done) (ops_words (o ∷ ops)) >>= whole) ≡ Some (call.Txn (done ++ o ∷ ops))
read_ops done o [] h hs =
    let l = leads done o h in
    ap (λ (s : Option State). s >>= whole) l.read ∙ l.ended
read_ops done o (p ∷ ops) h hs =
    let l = leads done o h in
    ap (λ (s : Option State). s >>= whole) (run_op done o (codes ";" ∷ ops_words (p ∷ ops)) l ∙ ap (next_run (ops_words (p ∷ ops))) l.more)
    ∙ read_ops (done ++ o ∷ []) p ops hs.0 hs.1
    ∙ ap (λ xs. Some (call.Txn xs)) (append_assoc done (o ∷ []) (p ∷ ops))

-- ## Calls

-- the words of the call say it
abbrev pub IsRead : Call → Type 0
IsRead c = IsSaid (call_grammar form.Journal) (call_words c) c

then_whole : {s : Option State} {t : State} {c : Call} → s ≡ Some t → whole t ≡ Some c → (s >>= whole) ≡ Some c
then_whole e f = ap (λ (o : Option State). o >>= whole) e ∙ f

txn_read : (ops : List Op) → call_has_text (call.Txn ops) ≡ true → IsRead (call.Txn ops)
txn_read [] h = cc
txn_read (o ∷ ops) h = let a = both_are (op_has_text o) (list_all op_has_text ops) h in read_ops [] o ops a.0 (all_of op_has_text ops a.1)

query_read : (q : Query) → query_has_text q ≡ true → IsRead (call.View q)
query_read query.ListNodes h = refl
query_read query.ListServices h = refl
query_read query.ListNetworks h = refl
query_read (query.ListTasks None) h = refl
query_read (query.ListTasks (Some n)) h =
    then_whole (ap (λ (o : Option (List ℕ)). next_run [] (o >>= λ x. Some (state.Done (call.View (query.ListTasks (Some x)))))) (name_yes n h)) refl
query_read (query.InspectNode n) h = then_whole (call_run call_verb.InspectNode n [] h) refl
query_read (query.InspectService n) h = then_whole (call_run call_verb.InspectService n [] h) refl
query_read (query.InspectNetwork n) h = then_whole (call_run call_verb.InspectNetwork n [] h) refl
query_read (query.InspectTask id) h = then_whole (number_run number_verb.InspectTask id h) refl
query_read query.Clock h = refl

abbrev filter : Option Kind → Option ℕ → Filter
filter k i = record { kind = k; id = i }

with_id_run : (k : Option Kind) (n : ℕ) → is_number n ≡ true → runs (state.Done (call.WatchBegin (filter k None))) (decimal n ∷ []) ≡ Some (state.Done (call.WatchBegin (filter k (Some n))))
with_id_run k n h = ap (λ (o : Option ℕ). next_run [] (o >>= λ x. Some (state.Done (call.WatchBegin (filter k (Some x)))))) (number_yes_of n h)

watch_read : (k : Option Kind) (i : Option ℕ) → where_some is_watched k ≡ true → where_some is_number i ≡ true → IsRead (call.WatchBegin (filter k i))
watch_read None None h g = refl
watch_read None (Some n) h g = then_whole (with_id_run None n g) refl
watch_read (Some kind.Node) None h g = refl
watch_read (Some kind.Node) (Some n) h g = then_whole (with_id_run (Some kind.Node) n g) refl
watch_read (Some kind.Service) None h g = refl
watch_read (Some kind.Service) (Some n) h g = then_whole (with_id_run (Some kind.Service) n g) refl
watch_read (Some kind.Task) None h g = refl
watch_read (Some kind.Task) (Some n) h g = then_whole (with_id_run (Some kind.Task) n g) refl
watch_read (Some kind.Network) None h g = refl
watch_read (Some kind.Network) (Some n) h g = then_whole (with_id_run (Some kind.Network) n g) refl
watch_read (Some kind.Watcher) i h g = cc

state_back : (s : TaskState) → state_of (state_text s) ≡ Some s
state_back task_state.New = refl
state_back task_state.Pending = refl
state_back task_state.Assigned = refl
state_back task_state.Accepted = refl
state_back task_state.Preparing = refl
state_back task_state.Ready = refl
state_back task_state.Starting = refl
state_back task_state.Running = refl
state_back task_state.Complete = refl
state_back task_state.Shutdown = refl
state_back task_state.Failed = refl
state_back task_state.Rejected = refl
state_back task_state.Remove = refl
state_back task_state.Orphaned = refl

task_run : (name : List ℕ) (s t : ℕ) (ws : List (List ℕ)) → is_number t ≡ true → runs (state.StatusTask name s) (decimal t ∷ ws) ≡ runs (state.StatusState name s t) ws
task_run name s t ws h = ap (λ (o : Option ℕ). next_run ws (o >>= λ x. Some (state.StatusState name s x))) (number_yes_of t h)

state_run : (name : List ℕ) (s t : ℕ) (x : TaskState) → runs (state.StatusState name s t) (state_text x ∷ []) ≡ Some (state.Done (call.RemoteStatus name s t x))
state_run name s t x = ap (λ (o : Option TaskState). next_run [] (o >>= λ y. Some (state.Done (call.RemoteStatus name s t y)))) (state_back x)

budget_number : (n : ℕ) → is_budget n ≡ true → n < 2 ^ 64
budget_number n h = let b = both_are (nat_le 1 n) (nat_le n largest_budget) h in let k : n ≤ largest_budget = at_most n b.1 in omega (arith, k) where
  at_most : (n : ℕ) → nat_le n largest_budget ≡ true → n ≤ largest_budget
  at_most n e = grind (arith, nat_tests)

settle_read : (n : ℕ) → is_budget n ≡ true → IsRead (call.Settle n)
settle_read n h = go (nat_eq n largest_budget) refl where
  go : (b : Bool) → nat_eq n largest_budget ≡ b → (runs (state.Opening []) (codes "settle" ∷ cond b [] (decimal n ∷ [])) >>= whole) ≡ Some (call.Settle n)
  go true e = ap (λ m. Some (call.Settle m)) (sym (usual n e)) where
    usual : (n : ℕ) → nat_eq n largest_budget ≡ true → n ≡ largest_budget
    usual n e = grind (arith, nat_tests)
  go false e =
      let k = budget_number n h in
      ap (λ (o : Option ℕ). (next_run [] ((o >>= λ m. cond (may_write form.Journal m) (Some m) None) >>= λ m. Some (state.Done (call.Settle m)))) >>= whole) (number_yes (2 ^ 64) n k k)
      ∙ ap (λ b. (next_run [] ((cond b (Some n) None) >>= λ m. Some (state.Done (call.Settle m)))) >>= whole) (both _ _ h (ap not e))

session_read : (n : List ℕ) (cpu mem : Option ℕ) → is_name n ≡ true → list_all has_word (joined (session_pieces cpu mem)) ≡ true → IsRead (call.RemoteBegin n cpu mem)
session_read n cpu mem h w =
    then_whole (call_run call_verb.RemoteOpen n (pieces_words (session_pieces cpu mem)) h ∙ read_session n (joined (session_pieces cpu mem)) (words_spelled _ w) (session_canonical cpu mem))
    (let e = session_cpu cpu mem in let f = session_mem cpu mem in λ i. Some (call.RemoteBegin n (e i) (f i)))

pub call_read : (c : Call) → call_has_text c ≡ true → IsRead c
call_read (call.Txn ops) h = txn_read ops h
call_read (call.View q) h = query_read q h
call_read (call.WatchBegin f) h = let b = both_are (where_some is_watched f.kind) (where_some is_number f.id) h in watch_read f.kind f.id b.0 b.1
call_read (call.WatchPoll id) h = then_whole (number_run number_verb.WatchPoll id h) refl
call_read (call.WatchFinish id) h = then_whole (number_run number_verb.WatchClose id h) refl
call_read (call.Tick n) h = then_whole (number_run number_verb.Tick n h) refl
call_read (call.Settle n) h = settle_read n h
call_read (call.NodeFail n) h = then_whole (call_run call_verb.NodeFail n [] h) refl
call_read (call.NodeStart n) h = then_whole (call_run call_verb.NodeStart n [] h) refl
call_read (call.AgentStop n) h = then_whole (call_run call_verb.AgentStop n [] h) refl
call_read (call.AgentStart n) h = then_whole (call_run call_verb.AgentStart n [] h) refl
call_read (call.RemoteBegin n cpu mem) h = let b = both_are (is_name n) (have_words (session_pieces cpu mem)) h in session_read n cpu mem b.0 b.1
call_read (call.RemoteBeat n session) h =
    let b = both_are (is_name n) (is_number session) h in
    then_whole (call_run call_verb.RemoteBeat n (decimal session ∷ []) b.0 ∙ session_run session_verb.Beat n session [] b.1) refl
call_read (call.RemotePull n session) h =
    let b = both_are (is_name n) (is_number session) h in
    then_whole (call_run call_verb.RemotePull n (decimal session ∷ []) b.0 ∙ session_run session_verb.Pull n session [] b.1) refl
call_read (call.RemoteStatus n session task s) h =
    let a = both_are (is_name n) (is_number session && is_number task) h in
    let b = both_are (is_number session) (is_number task) a.1 in
    then_whole (
    call_run call_verb.RemoteStatus n (decimal session ∷ decimal task ∷ state_text s ∷ []) a.0
    ∙ session_run session_verb.Status n session (decimal task ∷ state_text s ∷ []) b.0
    ∙ task_run n session task (state_text s ∷ []) b.1
    ∙ state_run n session task s
    ) refl
call_read call.Halt h = refl
