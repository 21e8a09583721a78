-- A journal's words of a call are those of what they say.
use Rattle.std.proofs.Common.{◌≡◌, ℕ, ◌^◌, List, [], ◌∷◌, ◌++◌, codes, decimal, map, Bool, true, false, cond, ◌&&◌, not, refl, sym, ◌∙◌, ap, subst, Option, Some, None, nat_eq, append-nil, append_assoc}
use Rattle.std.specs.List.{list_all}
use Rattle.std.specs.Str.{bytes_eq}
use Rattle.std.proofs.lemmas.Option.{same_Some}
use Rattle.std.proofs.lemmas.List.{map-append}
use Rattle.swarm_objects.proofs.Tests.{both_are, not-true}
use Rattle.swarm_objects.specs.declared.calls.Op.{Op}
use Rattle.swarm_objects.specs.declared.calls.Op.TheVariants as op
use Rattle.swarm_objects.specs.declared.calls.Call.{Call}
use Rattle.swarm_objects.specs.declared.calls.Call.TheVariants as call
use Rattle.swarm_objects.specs.declared.calls.Query.TheVariants as query
use Rattle.swarm_objects.specs.declared.ids.Kind.TheVariants as kind
use Rattle.swarm_objects.specs.declared.watches.Filter.{Filter}
use Rattle.swarm_objects.specs.Values.Texts.{state_text}
use Rattle.script_grammar.specs.declared.fields.Field.{Field}
use Rattle.script_grammar.specs.declared.fields.Head.{Head}
use Rattle.script_grammar.specs.declared.fields.Head.TheVariants as head
use Rattle.script_grammar.specs.declared.fields.Table.{Table}
use Rattle.script_grammar.specs.declared.fields.Table.TheVariants as table
use Rattle.script_grammar.specs.declared.states.CallNoun.{CallNoun}
use Rattle.script_grammar.specs.declared.states.CallNoun.TheVariants as call_noun
use Rattle.script_grammar.specs.declared.states.CallVerb.{CallVerb}
use Rattle.script_grammar.specs.declared.states.CallVerb.TheVariants as call_verb
use Rattle.script_grammar.specs.declared.states.Form.TheVariants as form
use Rattle.script_grammar.specs.declared.states.Noun.{Noun}
use Rattle.script_grammar.specs.declared.states.Noun.TheVariants as noun
use Rattle.script_grammar.specs.declared.states.NumberVerb.{NumberVerb}
use Rattle.script_grammar.specs.declared.states.NumberVerb.TheVariants as number_verb
use Rattle.script_grammar.specs.declared.states.SessionVerb.{SessionVerb}
use Rattle.script_grammar.specs.declared.states.SessionVerb.TheVariants as session_verb
use Rattle.script_grammar.specs.declared.states.State.{State}
use Rattle.script_grammar.specs.declared.states.State.TheVariants as state
use Rattle.script_grammar.specs.declared.states.Verb.{Verb}
use Rattle.script_grammar.specs.declared.states.Verb.TheVariants as verb
use Rattle.script_grammar.specs.Words.{name_of, number_of, ◌>>=◌}
use Rattle.swarm_objects.specs.Limits.{largest_budget}
use Rattle.script_grammar.specs.Calls.{all_of, begins_version, behind_call, behind_op, budget_of, call_grammar, call_named, call_numbered, call_opening, call_second, filter_of, in_fields, in_operation, is_budget, is_empty, may_write, next_field, node_call, noun_of, op_of, opening, second, state_of, step, subnet_of, table_of, task_states, version_of, versioned, whole, with_id, with_name, with_session}
use Rattle.script_grammar.specs.Fields.{field_of, field_text}
use Rattle.script_grammar.specs.Machines.{IsSaid, run}
use Rattle.script_grammar.specs.Tables.{belongs, comes_before, follows, is_default, may_stand}
use Rattle.script_grammar.specs.Texts.{call_words, filter_text, id_words, op_words, ops_words, version_words}
use Rattle.script_grammar.proofs.Canonical.{ComesAfter, all_append}
use Rattle.script_grammar.proofs.FieldRows.{number_same}
use Rattle.script_grammar.proofs.Inversions.{bound, choose, found, named_only, never, same, tested}
use Rattle.script_grammar.proofs.Nodes.{node_fields, old_fields, session_fields, settings_fields}
use Rattle.script_grammar.proofs.Numbers.{number_only, test_some}
use Rattle.script_grammar.proofs.Services.{IsCanonical, service_fields}
use Rattle.script_grammar.proofs.Sorted.{Sorted}
use Rattle.script_grammar.proofs.Subnets.{subnet_only}

-- ## The words that lead to a state

abbrev pub before_ops : List Op → List (List ℕ)
before_ops [] = []
before_ops (o ∷ ops) = op_words o ++ codes ";" ∷ before_ops ops

abbrev pub noun_word : Noun → List ℕ
noun_word noun.Node = codes "node"
noun_word noun.Service = codes "service"
noun_word noun.Network = codes "network"
noun_word noun.Cluster = codes "cluster"

abbrev pub verb_words : Verb → List (List ℕ)
verb_words verb.NodeJoin = codes "node" ∷ codes "join" ∷ []
verb_words verb.NodeUpdate = codes "node" ∷ codes "update" ∷ []
verb_words verb.NodeRemove = codes "node" ∷ codes "remove" ∷ []
verb_words verb.ServiceCreate = codes "service" ∷ codes "create" ∷ []
verb_words verb.ServiceUpdate = codes "service" ∷ codes "update" ∷ []
verb_words verb.ServiceRemove = codes "service" ∷ codes "remove" ∷ []
verb_words verb.ServiceRollback = codes "service" ∷ codes "rollback" ∷ []
verb_words verb.NetworkCreate = codes "network" ∷ codes "create" ∷ []
verb_words verb.NetworkRemove = codes "network" ∷ codes "remove" ∷ []

abbrev pub call_noun_word : CallNoun → List ℕ
call_noun_word call_noun.List = codes "list"
call_noun_word call_noun.Inspect = codes "inspect"
call_noun_word call_noun.Watch = codes "watch"
call_noun_word call_noun.Agent = codes "agent"
call_noun_word call_noun.Remote = codes "remote"

abbrev pub call_verb_words : CallVerb → List (List ℕ)
call_verb_words call_verb.NodeFail = codes "node" ∷ codes "fail" ∷ []
call_verb_words call_verb.NodeStart = codes "node" ∷ codes "start" ∷ []
call_verb_words call_verb.AgentStop = codes "agent" ∷ codes "stop" ∷ []
call_verb_words call_verb.AgentStart = codes "agent" ∷ codes "start" ∷ []
call_verb_words call_verb.InspectNode = codes "inspect" ∷ codes "node" ∷ []
call_verb_words call_verb.InspectService = codes "inspect" ∷ codes "service" ∷ []
call_verb_words call_verb.InspectNetwork = codes "inspect" ∷ codes "network" ∷ []
call_verb_words call_verb.RemoteOpen = codes "remote" ∷ codes "open" ∷ []
call_verb_words call_verb.RemoteBeat = codes "remote" ∷ codes "beat" ∷ []
call_verb_words call_verb.RemotePull = codes "remote" ∷ codes "pull" ∷ []
call_verb_words call_verb.RemoteStatus = codes "remote" ∷ codes "status" ∷ []

abbrev pub number_verb_words : NumberVerb → List (List ℕ)
number_verb_words number_verb.Tick = codes "tick" ∷ []
number_verb_words number_verb.InspectTask = codes "inspect" ∷ codes "task" ∷ []
number_verb_words number_verb.WatchPoll = codes "watch" ∷ codes "poll" ∷ []
number_verb_words number_verb.WatchClose = codes "watch" ∷ codes "close" ∷ []

abbrev pub session_word : SessionVerb → List ℕ
session_word session_verb.Beat = codes "beat"
session_word session_verb.Pull = codes "pull"
session_word session_verb.Status = codes "status"

abbrev pub head_words : Head → List (List ℕ)
head_words (head.CreateNode n) = codes "node" ∷ codes "join" ∷ n ∷ []
head_words (head.UpdateNode n v) = codes "node" ∷ codes "update" ∷ n ∷ version_words v
head_words (head.CreateService n) = codes "service" ∷ codes "create" ∷ n ∷ []
head_words (head.UpdateService n v) = codes "service" ∷ codes "update" ∷ n ∷ version_words v
head_words head.SetCluster = codes "cluster" ∷ codes "set" ∷ []

abbrev pub open_words : List ℕ → List (List ℕ)
open_words n = codes "remote" ∷ codes "open" ∷ n ∷ []

abbrev pub written : State → List (List ℕ)
written (state.Opening ops) = before_ops ops
written (state.Noun ops n) = before_ops ops ++ noun_word n ∷ []
written (state.Verb ops v) = before_ops ops ++ verb_words v
written (state.Fields ops h fs) = before_ops ops ++ (head_words h ++ map field_text fs)
written (state.Subnet ops n) = before_ops ops ++ codes "network" ∷ codes "create" ∷ n ∷ []
written (state.Operation ops o) = before_ops ops ++ op_words o
written (state.CallNoun n) = call_noun_word n ∷ []
written (state.CallVerb v) = call_verb_words v
written (state.Number v) = number_verb_words v
written state.WatchOpen = codes "watch" ∷ codes "open" ∷ []
written (state.SessionFields n fs) = open_words n ++ map field_text fs
written (state.Session v n) = codes "remote" ∷ session_word v ∷ n ∷ []
written (state.StatusTask n s) = codes "remote" ∷ codes "status" ∷ n ∷ decimal s ∷ []
written (state.StatusState n s t) = codes "remote" ∷ codes "status" ∷ n ∷ decimal s ∷ decimal t ∷ []
written state.Settle = codes "settle" ∷ []
written (state.Done c) = call_words c

-- what holds of a state that a journal's words lead to
abbrev pub IsRight : State → Type 0
IsRight (state.Fields ops h fs) = IsCanonical (table_of h) fs
IsRight (state.SessionFields n fs) = IsCanonical table.Session fs
IsRight s = Unit {0}

-- one word more is written
pub record Grows (s : State) (word : List ℕ) (next : State) : Type 0 where
  pub words : written next ≡ written s ++ word ∷ []
  pub right : IsRight next

-- ## Fields

all_before : (fs : List Field) (g : Field) → list_all (λ f. comes_before f g) fs ≡ true → ComesAfter fs g
all_before [] g e = tt
all_before (f ∷ fs) g e = let b = both_are (comes_before f g) (list_all (λ x. comes_before x g) fs) e in (b.0, all_before fs g b.1)

sorted_snoc : (fs : List Field) (g : Field) → Sorted fs → ComesAfter fs g → Sorted (fs ++ g ∷ [])
sorted_snoc [] g s f = (tt, tt)
sorted_snoc (x ∷ fs) g s f = (all_append (λ y. comes_before x y ≡ true) fs (g ∷ []) s.0 (f.0, tt), sorted_snoc fs g s.1 f.1)

-- the field of the word behind canonical ones, all of which are canonical
pub record AddsField (t : Table) (fs : List Field) (word : List ℕ) (gs : List Field) : Type 0 where
  pub words : map field_text gs ≡ map field_text fs ++ word ∷ []
  pub right : IsCanonical t gs

pub field_adds : (t : Table) (fs : List Field) (word : List ℕ) (gs : List Field) → IsCanonical t fs → next_field form.Journal t fs word ≡ Some gs → AddsField t fs word gs
field_adds t fs word gs c e =
    let f = bound (field_of word) (λ g. cond (may_stand form.Journal t fs g word) (Some (fs ++ g ∷ [])) None) gs e in
    let g = f.0 in
    let u = test_some (may_stand form.Journal t fs g word) (fs ++ g ∷ []) gs f.2 in
    let a = both_are (belongs t g) (bytes_eq word (field_text g) && follows t fs g) u.0 in
    let b = both_are (bytes_eq word (field_text g)) (follows t fs g) a.1 in
    let k = both_are (not (is_default t g)) (list_all (λ x. comes_before x g) fs) b.1 in
    let spelled = same word (field_text g) b.0 in
    let later = all_before fs g k.1 in
    let made : AddsField t fs word (fs ++ g ∷ []) = record {
      words = map-append field_text fs (g ∷ []) ∙ ap (λ w. map field_text fs ++ w ∷ []) (sym spelled);
      right = record {
        belong = all_append (λ x. belongs t x ≡ true) fs (g ∷ []) c.belong (a.0, tt);
        named = all_append (λ x. is_default t x ≡ false) fs (g ∷ []) c.named (not-true _ k.0, tt);
        sorted = sorted_snoc fs g c.sorted later;
      };
    } in
    subst (AddsField t fs word) u.1 made

pub field_grows : (ops : List Op) (h : Head) (fs : List Field) (word : List ℕ) (next : State) → IsCanonical (table_of h) fs →
    (next_field form.Journal (table_of h) fs word >>= λ gs. Some (state.Fields ops h gs)) ≡ Some next → Grows (state.Fields ops h fs) word next
field_grows ops h fs word next c e =
    let b = bound (next_field form.Journal (table_of h) fs word) (λ gs. Some (state.Fields ops h gs)) next e in
    let a = field_adds (table_of h) fs word b.0 c b.1 in
    let made : Grows (state.Fields ops h fs) word (state.Fields ops h b.0) = record {
      words =
          ap (λ xs. before_ops ops ++ (head_words h ++ xs)) a.words
          ∙ ap (λ xs. before_ops ops ++ xs) (sym (append_assoc (head_words h) (map field_text fs) (word ∷ [])))
          ∙ sym (append_assoc (before_ops ops) (head_words h ++ map field_text fs) (word ∷ []));
      right = a.right;
    } in
    subst (Grows (state.Fields ops h fs) word) (same_Some _ next b.2) made

session_field_grows : (n : List ℕ) (fs : List Field) (word : List ℕ) (next : State) → IsCanonical table.Session fs →
    step form.Journal (state.SessionFields n fs) word ≡ Some next → Grows (state.SessionFields n fs) word next
session_field_grows n fs word next c e =
    let b = bound (next_field form.Journal table.Session fs word) (λ gs. Some (state.SessionFields n gs)) next e in
    let a = field_adds table.Session fs word b.0 c b.1 in
    let made : Grows (state.SessionFields n fs) word (state.SessionFields n b.0) = record {
      words = ap (λ xs. open_words n ++ xs) a.words ∙ sym (append_assoc (open_words n) (map field_text fs) (word ∷ []));
      right = a.right;
    } in
    subst (Grows (state.SessionFields n fs) word) (same_Some _ next b.2) made

-- ## A semicolon and the end

pub before_snoc : (ops : List Op) (o : Op) → before_ops (ops ++ o ∷ []) ≡ before_ops ops ++ (op_words o ++ codes ";" ∷ [])
before_snoc [] o = refl
before_snoc (p ∷ ops) o = ap (λ xs. op_words p ++ codes ";" ∷ xs) (before_snoc ops o) ∙ sym (append_assoc (op_words p) (codes ";" ∷ before_ops ops) (op_words o ++ codes ";" ∷ []))

pub ops_snoc : (ops : List Op) (o : Op) → ops_words (ops ++ o ∷ []) ≡ before_ops ops ++ op_words o
ops_snoc [] o = refl
ops_snoc (p ∷ []) o = sym (append_assoc (op_words p) (codes ";" ∷ []) (op_words o))
ops_snoc (p ∷ q ∷ ops) o = ap (λ xs. op_words p ++ codes ";" ∷ xs) (ops_snoc (q ∷ ops) o) ∙ sym (append_assoc (op_words p) (codes ";" ∷ before_ops (q ∷ ops)) (op_words o))

-- the operation of a head and canonical fields has their words
pub op_written : (h : Head) (fs : List Field) → IsCanonical (table_of h) fs → op_words (op_of h fs) ≡ head_words h ++ map field_text fs
op_written (head.CreateNode n) fs c = ap (λ xs. codes "node" ∷ codes "join" ∷ n ∷ map field_text xs) (node_fields fs c)
op_written (head.UpdateNode n v) fs c = ap (λ xs. codes "node" ∷ codes "update" ∷ n ∷ (version_words v ++ map field_text xs)) (old_fields fs c)
op_written (head.CreateService n) fs c = ap (λ xs. codes "service" ∷ codes "create" ∷ n ∷ map field_text xs) (service_fields fs c)
op_written (head.UpdateService n v) fs c = ap (λ xs. codes "service" ∷ codes "update" ∷ n ∷ (version_words v ++ map field_text xs)) (service_fields fs c)
op_written head.SetCluster fs c = ap (λ xs. codes "cluster" ∷ codes "set" ∷ map field_text xs) (settings_fields fs c)

-- ## First words

noun_only : (w : List ℕ) (n : Noun) → noun_of w ≡ Some n → w ≡ noun_word n
noun_only w n e =
    let P : Noun → Type 0 = λ x. w ≡ noun_word x in
    choose P w (codes "node") noun.Node _ n (λ k. k) (λ e.
    choose P w (codes "service") noun.Service _ n (λ k. k) (λ e.
    choose P w (codes "network") noun.Network _ n (λ k. k) (λ e.
    choose P w (codes "cluster") noun.Cluster None n (λ k. k) (never P n)
    e) e) e) e

-- a word alone
alone : (s : State) (w lit : List ℕ) → written s ≡ lit ∷ [] → IsRight s → w ≡ lit → Grows (state.Opening []) w s
alone s w lit k r e = record { words = k ∙ ap (λ x. x ∷ []) (sym e); right = r }

call_grows : (w : List ℕ) (next : State) → call_opening form.Journal w ≡ Some next → Grows (state.Opening []) w next
call_grows w next e =
    let P : State → Type 0 = Grows (state.Opening []) w in
    choose P w (codes "list") (state.CallNoun call_noun.List) _ next (alone (state.CallNoun call_noun.List) w (codes "list") refl tt) (λ e.
    choose P w (codes "inspect") (state.CallNoun call_noun.Inspect) _ next (alone (state.CallNoun call_noun.Inspect) w (codes "inspect") refl tt) (λ e.
    choose P w (codes "watch") (state.CallNoun call_noun.Watch) _ next (alone (state.CallNoun call_noun.Watch) w (codes "watch") refl tt) (λ e.
    choose P w (codes "agent") (state.CallNoun call_noun.Agent) _ next (alone (state.CallNoun call_noun.Agent) w (codes "agent") refl tt) (λ e.
    choose P w (codes "remote") (state.CallNoun call_noun.Remote) _ next (alone (state.CallNoun call_noun.Remote) w (codes "remote") refl tt) (λ e.
    choose P w (codes "clock") (state.Done (call.View query.Clock)) _ next (alone (state.Done (call.View query.Clock)) w (codes "clock") refl tt) (λ e.
    choose P w (codes "tick") (state.Number number_verb.Tick) _ next (alone (state.Number number_verb.Tick) w (codes "tick") refl tt) (λ e.
    choose P w (codes "settle") state.Settle _ next (alone state.Settle w (codes "settle") refl tt) (λ e.
    choose P w (codes "halt") (state.Done call.Halt) None next (alone (state.Done call.Halt) w (codes "halt") refl tt) (never P next)
    e) e) e) e) e) e) e) e) e

opening_grows : (ops : List Op) (w : List ℕ) (next : State) → opening form.Journal ops w ≡ Some next → Grows (state.Opening ops) w next
opening_grows ops w next e = go (noun_of w) refl e where
  go : (o : Option Noun) → noun_of w ≡ o →
      (elim o [ Some n ↦ Some (state.Noun ops n) | None ↦ cond (is_empty ops) (call_opening form.Journal w) None ]) ≡ Some next → Grows (state.Opening ops) w next
  go (Some n) k d =
      let made : Grows (state.Opening ops) w (state.Noun ops n) = record { words = ap (λ x. before_ops ops ++ x ∷ []) (sym (noun_only w n k)); right = tt } in
      subst (Grows (state.Opening ops) w) (same_Some _ next d) made
  go None k d = none ops d where
    none : (ops : List Op) → cond (is_empty ops) (call_opening form.Journal w) None ≡ Some next → Grows (state.Opening ops) w next
    none [] d = call_grows w next d
    none (o ∷ ops) d = cc

-- ## Second words

-- a verb behind its noun
verb_grows : (ops : List Op) (n : Noun) (v : Verb) (u w : List ℕ) → verb_words v ≡ noun_word n ∷ u ∷ [] → w ≡ u → Grows (state.Noun ops n) w (state.Verb ops v)
verb_grows ops n v u w k e = record {
  words = ap (λ xs. before_ops ops ++ xs) (k ∙ ap (λ x. noun_word n ∷ x ∷ []) (sym e)) ∙ sym (append_assoc (before_ops ops) (noun_word n ∷ []) (w ∷ []));
  right = tt;
}

node_verb : (w : List ℕ) (v : CallVerb) → node_call w ≡ Some v → call_verb_words v ≡ codes "node" ∷ w ∷ []
node_verb w v e =
    let P : CallVerb → Type 0 = λ x. call_verb_words x ≡ codes "node" ∷ w ∷ [] in
    choose P w (codes "fail") call_verb.NodeFail _ v (λ k. ap (λ x. codes "node" ∷ x ∷ []) (sym k)) (λ e.
    choose P w (codes "start") call_verb.NodeStart None v (λ k. ap (λ x. codes "node" ∷ x ∷ []) (sym k)) (never P v)
    e) e

node_call_grows : (ops : List Op) (w : List ℕ) (next : State) → cond (is_empty ops) (node_call w >>= λ v. Some (state.CallVerb v)) None ≡ Some next →
    Grows (state.Noun ops noun.Node) w next
node_call_grows [] w next e =
    let b = bound (node_call w) (λ v. Some (state.CallVerb v)) next e in
    let made : Grows (state.Noun [] noun.Node) w (state.CallVerb b.0) = record { words = node_verb w b.0 b.1; right = tt } in
    subst (Grows (state.Noun [] noun.Node) w) (same_Some _ next b.2) made
node_call_grows (o ∷ ops) w next e = cc

second_grows : (ops : List Op) (n : Noun) (w : List ℕ) (next : State) → second ops n w ≡ Some next → Grows (state.Noun ops n) w next
second_grows ops noun.Node w next e =
    let P : State → Type 0 = Grows (state.Noun ops noun.Node) w in
    choose P w (codes "join") (state.Verb ops verb.NodeJoin) _ next (verb_grows ops noun.Node verb.NodeJoin (codes "join") w refl) (λ e.
    choose P w (codes "update") (state.Verb ops verb.NodeUpdate) _ next (verb_grows ops noun.Node verb.NodeUpdate (codes "update") w refl) (λ e.
    choose P w (codes "remove") (state.Verb ops verb.NodeRemove) _ next (verb_grows ops noun.Node verb.NodeRemove (codes "remove") w refl) (node_call_grows ops w next)
    e) e) e
second_grows ops noun.Service w next e =
    let P : State → Type 0 = Grows (state.Noun ops noun.Service) w in
    choose P w (codes "create") (state.Verb ops verb.ServiceCreate) _ next (verb_grows ops noun.Service verb.ServiceCreate (codes "create") w refl) (λ e.
    choose P w (codes "update") (state.Verb ops verb.ServiceUpdate) _ next (verb_grows ops noun.Service verb.ServiceUpdate (codes "update") w refl) (λ e.
    choose P w (codes "remove") (state.Verb ops verb.ServiceRemove) _ next (verb_grows ops noun.Service verb.ServiceRemove (codes "remove") w refl) (λ e.
    choose P w (codes "rollback") (state.Verb ops verb.ServiceRollback) None next (verb_grows ops noun.Service verb.ServiceRollback (codes "rollback") w refl) (never P next)
    e) e) e) e
second_grows ops noun.Network w next e =
    let P : State → Type 0 = Grows (state.Noun ops noun.Network) w in
    choose P w (codes "create") (state.Verb ops verb.NetworkCreate) _ next (verb_grows ops noun.Network verb.NetworkCreate (codes "create") w refl) (λ e.
    choose P w (codes "remove") (state.Verb ops verb.NetworkRemove) None next (verb_grows ops noun.Network verb.NetworkRemove (codes "remove") w refl) (never P next)
    e) e
second_grows ops noun.Cluster w next e =
    let P : State → Type 0 = Grows (state.Noun ops noun.Cluster) w in
    choose P w (codes "set") (state.Fields ops head.SetCluster []) None next (λ k. record {
      words = ap (λ x. before_ops ops ++ codes "cluster" ∷ x ∷ []) (sym k) ∙ sym (append_assoc (before_ops ops) (codes "cluster" ∷ []) (w ∷ []));
      right = record { belong = tt; named = tt; sorted = tt };
    }) (never P next) e

pair_grows : (n : CallNoun) (s : State) (u w : List ℕ) → written s ≡ call_noun_word n ∷ u ∷ [] → IsRight s → w ≡ u → Grows (state.CallNoun n) w s
pair_grows n s u w k r e = record { words = k ∙ ap (λ x. call_noun_word n ∷ x ∷ []) (sym e); right = r }

call_second_grows : (n : CallNoun) (w : List ℕ) (next : State) → call_second n w ≡ Some next → Grows (state.CallNoun n) w next
call_second_grows call_noun.List w next e =
    let n = call_noun.List in let P : State → Type 0 = Grows (state.CallNoun n) w in
    choose P w (codes "nodes") (state.Done (call.View query.ListNodes)) _ next (pair_grows n (state.Done (call.View query.ListNodes)) (codes "nodes") w refl tt) (λ e.
    choose P w (codes "services") (state.Done (call.View query.ListServices)) _ next (pair_grows n (state.Done (call.View query.ListServices)) (codes "services") w refl tt) (λ e.
    choose P w (codes "networks") (state.Done (call.View query.ListNetworks)) _ next (pair_grows n (state.Done (call.View query.ListNetworks)) (codes "networks") w refl tt) (λ e.
    choose P w (codes "tasks") (state.Done (call.View (query.ListTasks None))) None next (pair_grows n (state.Done (call.View (query.ListTasks None))) (codes "tasks") w refl tt) (never P next)
    e) e) e) e
call_second_grows call_noun.Inspect w next e =
    let n = call_noun.Inspect in let P : State → Type 0 = Grows (state.CallNoun n) w in
    choose P w (codes "node") (state.CallVerb call_verb.InspectNode) _ next (pair_grows n (state.CallVerb call_verb.InspectNode) (codes "node") w refl tt) (λ e.
    choose P w (codes "service") (state.CallVerb call_verb.InspectService) _ next (pair_grows n (state.CallVerb call_verb.InspectService) (codes "service") w refl tt) (λ e.
    choose P w (codes "network") (state.CallVerb call_verb.InspectNetwork) _ next (pair_grows n (state.CallVerb call_verb.InspectNetwork) (codes "network") w refl tt) (λ e.
    choose P w (codes "task") (state.Number number_verb.InspectTask) None next (pair_grows n (state.Number number_verb.InspectTask) (codes "task") w refl tt) (never P next)
    e) e) e) e
call_second_grows call_noun.Watch w next e =
    let n = call_noun.Watch in let P : State → Type 0 = Grows (state.CallNoun n) w in
    choose P w (codes "open") state.WatchOpen _ next (pair_grows n state.WatchOpen (codes "open") w refl tt) (λ e.
    choose P w (codes "poll") (state.Number number_verb.WatchPoll) _ next (pair_grows n (state.Number number_verb.WatchPoll) (codes "poll") w refl tt) (λ e.
    choose P w (codes "close") (state.Number number_verb.WatchClose) None next (pair_grows n (state.Number number_verb.WatchClose) (codes "close") w refl tt) (never P next)
    e) e) e
call_second_grows call_noun.Agent w next e =
    let n = call_noun.Agent in let P : State → Type 0 = Grows (state.CallNoun n) w in
    choose P w (codes "stop") (state.CallVerb call_verb.AgentStop) _ next (pair_grows n (state.CallVerb call_verb.AgentStop) (codes "stop") w refl tt) (λ e.
    choose P w (codes "start") (state.CallVerb call_verb.AgentStart) None next (pair_grows n (state.CallVerb call_verb.AgentStart) (codes "start") w refl tt) (never P next)
    e) e
call_second_grows call_noun.Remote w next e =
    let n = call_noun.Remote in let P : State → Type 0 = Grows (state.CallNoun n) w in
    choose P w (codes "open") (state.CallVerb call_verb.RemoteOpen) _ next (pair_grows n (state.CallVerb call_verb.RemoteOpen) (codes "open") w refl tt) (λ e.
    choose P w (codes "beat") (state.CallVerb call_verb.RemoteBeat) _ next (pair_grows n (state.CallVerb call_verb.RemoteBeat) (codes "beat") w refl tt) (λ e.
    choose P w (codes "pull") (state.CallVerb call_verb.RemotePull) _ next (pair_grows n (state.CallVerb call_verb.RemotePull) (codes "pull") w refl tt) (λ e.
    choose P w (codes "status") (state.CallVerb call_verb.RemoteStatus) None next (pair_grows n (state.CallVerb call_verb.RemoteStatus) (codes "status") w refl tt) (never P next)
    e) e) e) e

-- ## Names

three : (ops : List Op) (a b w : List ℕ) → before_ops ops ++ a ∷ b ∷ w ∷ [] ≡ (before_ops ops ++ a ∷ b ∷ []) ++ w ∷ []
three ops a b w = sym (append_assoc (before_ops ops) (a ∷ b ∷ []) (w ∷ []))

no_fields : (t : Table) → IsCanonical t []
no_fields t = record { belong = tt; named = tt; sorted = tt }

with_name_grows : (ops : List Op) (v : Verb) (w : List ℕ) → Grows (state.Verb ops v) w (with_name ops v w)
with_name_grows ops verb.NodeJoin w = record { words = three ops (codes "node") (codes "join") w; right = no_fields table.NewNode }
with_name_grows ops verb.NodeUpdate w = record { words = three ops (codes "node") (codes "update") w; right = no_fields table.OldNode }
with_name_grows ops verb.NodeRemove w = record { words = three ops (codes "node") (codes "remove") w; right = tt }
with_name_grows ops verb.ServiceCreate w = record { words = three ops (codes "service") (codes "create") w; right = no_fields table.Service }
with_name_grows ops verb.ServiceUpdate w = record { words = three ops (codes "service") (codes "update") w; right = no_fields table.Service }
with_name_grows ops verb.ServiceRemove w = record { words = three ops (codes "service") (codes "remove") w; right = tt }
with_name_grows ops verb.ServiceRollback w = record { words = three ops (codes "service") (codes "rollback") w; right = tt }
with_name_grows ops verb.NetworkCreate w = record { words = three ops (codes "network") (codes "create") w; right = tt }
with_name_grows ops verb.NetworkRemove w = record { words = three ops (codes "network") (codes "remove") w; right = tt }

call_named_grows : (v : CallVerb) (w : List ℕ) → Grows (state.CallVerb v) w (call_named v w)
call_named_grows call_verb.NodeFail w = record { words = refl; right = tt }
call_named_grows call_verb.NodeStart w = record { words = refl; right = tt }
call_named_grows call_verb.AgentStop w = record { words = refl; right = tt }
call_named_grows call_verb.AgentStart w = record { words = refl; right = tt }
call_named_grows call_verb.InspectNode w = record { words = refl; right = tt }
call_named_grows call_verb.InspectService w = record { words = refl; right = tt }
call_named_grows call_verb.InspectNetwork w = record { words = refl; right = tt }
call_named_grows call_verb.RemoteOpen w = record { words = refl; right = no_fields table.Session }
call_named_grows call_verb.RemoteBeat w = record { words = refl; right = tt }
call_named_grows call_verb.RemotePull w = record { words = refl; right = tt }
call_named_grows call_verb.RemoteStatus w = record { words = refl; right = tt }

-- the word is a name, and leads on
name_grows : (s : State) (to : List ℕ → State) (w : List ℕ) (next : State) → ((n : List ℕ) → Grows s n (to n)) → (name_of w >>= λ n. Some (to n)) ≡ Some next → Grows s w next
name_grows s to w next g e =
    let b = bound (name_of w) (λ n. Some (to n)) next e in
    subst (λ x. Grows s x next) (sym (named_only w b.0 b.1)) (subst (Grows s b.0) (same_Some (to b.0) next b.2) (g b.0))

-- the word is a number, and leads on
number_grows : (s : State) (to : ℕ → State) (w : List ℕ) (next : State) → ((n : ℕ) → Grows s (decimal n) (to n)) → (number_of w >>= λ n. Some (to n)) ≡ Some next → Grows s w next
number_grows s to w next g e =
    let b = bound (number_of w) (λ n. Some (to n)) next e in
    subst (λ x. Grows s x next) (sym (number_only (2 ^ 64) b.0 w b.1).0) (subst (Grows s (decimal b.0)) (same_Some (to b.0) next b.2) (g b.0))

numbered_grows : (v : NumberVerb) (n : ℕ) → Grows (state.Number v) (decimal n) (state.Done (call_numbered v n))
numbered_grows number_verb.Tick n = record { words = refl; right = tt }
numbered_grows number_verb.InspectTask n = record { words = refl; right = tt }
numbered_grows number_verb.WatchPoll n = record { words = refl; right = tt }
numbered_grows number_verb.WatchClose n = record { words = refl; right = tt }

with_session_grows : (v : SessionVerb) (name : List ℕ) (n : ℕ) → Grows (state.Session v name) (decimal n) (with_session v name n)
with_session_grows session_verb.Beat name n = record { words = refl; right = tt }
with_session_grows session_verb.Pull name n = record { words = refl; right = tt }
with_session_grows session_verb.Status name n = record { words = refl; right = tt }

-- ## Versions

version_only : (w : List ℕ) (v : ℕ) → version_of w ≡ Some v → w ≡ 64 ∷ decimal v
version_only [] v e = cc
version_only (b ∷ bs) v e =
    let t = tested (nat_eq b 64) (number_of bs) v e in
    ap (λ x. x ∷ bs) (number_same b 64 t.0) ∙ ap (λ xs. 64 ∷ xs) (number_only (2 ^ 64) v bs t.1).0

-- the word is a version, and leads on
version_grows : (s : State) (to : ℕ → State) (w : List ℕ) (next : State) → ((v : ℕ) → Grows s (64 ∷ decimal v) (to v)) → (version_of w >>= λ v. Some (to v)) ≡ Some next → Grows s w next
version_grows s to w next g e =
    let b = bound (version_of w) (λ v. Some (to v)) next e in
    subst (λ x. Grows s x next) (sym (version_only w b.0 b.1)) (subst (Grows s (64 ∷ decimal b.0)) (same_Some (to b.0) next b.2) (g b.0))

versioned_grows : (ops : List Op) (h : Head) (fs : List Field) (w : List ℕ) (next : State) → versioned ops h fs w ≡ Some next → Grows (state.Fields ops h fs) w next
versioned_grows ops h (f ∷ fs) w next e = cc
versioned_grows ops (head.UpdateNode n None) [] w next e =
    version_grows (state.Fields ops (head.UpdateNode n None) []) (λ v. state.Fields ops (head.UpdateNode n (Some v)) []) w next
    (λ v. record { words = sym (append_assoc (before_ops ops) (codes "node" ∷ codes "update" ∷ n ∷ []) ((64 ∷ decimal v) ∷ [])); right = no_fields table.OldNode }) e
versioned_grows ops (head.UpdateService n None) [] w next e =
    version_grows (state.Fields ops (head.UpdateService n None) []) (λ v. state.Fields ops (head.UpdateService n (Some v)) []) w next
    (λ v. record { words = sym (append_assoc (before_ops ops) (codes "service" ∷ codes "update" ∷ n ∷ []) ((64 ∷ decimal v) ∷ [])); right = no_fields table.Service }) e
versioned_grows ops (head.UpdateNode n (Some v)) [] w next e = cc
versioned_grows ops (head.UpdateService n (Some v)) [] w next e = cc
versioned_grows ops (head.CreateNode n) [] w next e = cc
versioned_grows ops (head.CreateService n) [] w next e = cc
versioned_grows ops head.SetCluster [] w next e = cc

-- ## Behind operations

end_grows : (ops : List Op) (o : Op) (s : State) (w : List ℕ) → written s ≡ before_ops ops ++ op_words o → w ≡ codes ";" → Grows s w (state.Opening (ops ++ o ∷ []))
end_grows ops o s w k e = record {
  words = before_snoc ops o ∙ sym (append_assoc (before_ops ops) (op_words o) (codes ";" ∷ [])) ∙ ap (λ xs. xs ++ codes ";" ∷ []) (sym k) ∙ ap (λ x. written s ++ x ∷ []) (sym e);
  right = tt;
}

fields_grow : (ops : List Op) (h : Head) (fs : List Field) (w : List ℕ) (next : State) → IsCanonical (table_of h) fs →
    in_fields form.Journal ops h fs w ≡ Some next → Grows (state.Fields ops h fs) w next
fields_grow ops h fs w next c e =
    choose (Grows (state.Fields ops h fs) w) w (codes ";") (state.Opening (ops ++ op_of h fs ∷ [])) _ next
    (end_grows ops (op_of h fs) (state.Fields ops h fs) w (ap (λ xs. before_ops ops ++ xs) (sym (op_written h fs c))))
    (go (begins_version w)) e
  where
    go : (b : Bool) → cond b (versioned ops h fs w) (next_field form.Journal (table_of h) fs w >>= λ gs. Some (state.Fields ops h gs)) ≡ Some next →
        Grows (state.Fields ops h fs) w next
    go true d = versioned_grows ops h fs w next d
    go false d = field_grows ops h fs w next c d

behind_grows : (ops : List Op) (o : Op) (w : List ℕ) (next : State) → behind_op ops o w ≡ Some next → Grows (state.Operation ops o) w next
behind_grows ops (op.RemoveNode n false) w next e =
    choose (Grows (state.Operation ops (op.RemoveNode n false)) w) w (codes "force") (state.Operation ops (op.RemoveNode n true)) None next
    (λ k. record { words = ap (λ x. before_ops ops ++ codes "node" ∷ codes "remove" ∷ n ∷ x ∷ []) (sym k) ∙ sym (append_assoc (before_ops ops) (codes "node" ∷ codes "remove" ∷ n ∷ []) (w ∷ [])); right = tt })
    (never (Grows (state.Operation ops (op.RemoveNode n false)) w) next) e
behind_grows ops (op.RollbackService n None) w next e =
    version_grows (state.Operation ops (op.RollbackService n None)) (λ v. state.Operation ops (op.RollbackService n (Some v))) w next
    (λ v. record { words = sym (append_assoc (before_ops ops) (codes "service" ∷ codes "rollback" ∷ n ∷ []) ((64 ∷ decimal v) ∷ [])); right = tt }) e
behind_grows ops o w next e = cc

operation_grows : (ops : List Op) (o : Op) (w : List ℕ) (next : State) → in_operation ops o w ≡ Some next → Grows (state.Operation ops o) w next
operation_grows ops o w next e =
    choose (Grows (state.Operation ops o) w) w (codes ";") (state.Opening (ops ++ o ∷ [])) _ next
    (end_grows ops o (state.Operation ops o) w refl) (behind_grows ops o w next) e

subnet_grows : (ops : List Op) (n w : List ℕ) (next : State) → step form.Journal (state.Subnet ops n) w ≡ Some next → Grows (state.Subnet ops n) w next
subnet_grows ops n w next e =
    let b = bound (subnet_of w) (λ s. Some (state.Operation ops (op.CreateNetwork n s.0 s.1))) next e in
    let k = subnet_only w b.0.0 b.0.1 b.1 in
    let made : Grows (state.Subnet ops n) w (state.Operation ops (op.CreateNetwork n b.0.0 b.0.1)) = record {
      words = sym (append_assoc (before_ops ops) (codes "network" ∷ codes "create" ∷ n ∷ []) (w ∷ []) ∙ ap (λ x. before_ops ops ++ codes "network" ∷ codes "create" ∷ n ∷ x ∷ []) k.0);
      right = tt;
    } in
    subst (Grows (state.Subnet ops n) w) (same_Some _ next b.2) made

-- ## Other calls

filter_grows : (w : List ℕ) (next : State) → step form.Journal state.WatchOpen w ≡ Some next → Grows state.WatchOpen w next
filter_grows w next e =
    let b = bound (filter_of w) (λ f. Some (state.Done (call.WatchBegin f))) next e in
    let P : Filter → Type 0 = λ f. Grows state.WatchOpen w (state.Done (call.WatchBegin f)) in
    let made : P b.0 =
    choose P w (codes "all") (all_of None) _ b.0 (λ k. record { words = ap (λ x. codes "watch" ∷ codes "open" ∷ x ∷ []) (sym k); right = tt }) (λ e.
    choose P w (codes "node") (all_of (Some kind.Node)) _ b.0 (λ k. record { words = ap (λ x. codes "watch" ∷ codes "open" ∷ x ∷ []) (sym k); right = tt }) (λ e.
    choose P w (codes "service") (all_of (Some kind.Service)) _ b.0 (λ k. record { words = ap (λ x. codes "watch" ∷ codes "open" ∷ x ∷ []) (sym k); right = tt }) (λ e.
    choose P w (codes "task") (all_of (Some kind.Task)) _ b.0 (λ k. record { words = ap (λ x. codes "watch" ∷ codes "open" ∷ x ∷ []) (sym k); right = tt }) (λ e.
    choose P w (codes "network") (all_of (Some kind.Network)) None b.0 (λ k. record { words = ap (λ x. codes "watch" ∷ codes "open" ∷ x ∷ []) (sym k); right = tt }) (never P b.0)
    e) e) e) e) b.1 in
    subst (Grows state.WatchOpen w) (same_Some _ next b.2) made

state_grows : (name : List ℕ) (s t : ℕ) (w : List ℕ) (next : State) → step form.Journal (state.StatusState name s t) w ≡ Some next → Grows (state.StatusState name s t) w next
state_grows name s t w next e =
    let b = bound (state_of w) (λ x. Some (state.Done (call.RemoteStatus name s t x))) next e in
    let k = same (state_text b.0) w (found (λ x. bytes_eq (state_text x) w) task_states b.0 b.1) in
    let made : Grows (state.StatusState name s t) w (state.Done (call.RemoteStatus name s t b.0)) = record {
      words = ap (λ x. codes "remote" ∷ codes "status" ∷ name ∷ decimal s ∷ decimal t ∷ x ∷ []) k;
      right = tt;
    } in
    subst (Grows (state.StatusState name s t) w) (same_Some _ next b.2) made

settle_grows : (w : List ℕ) (next : State) → step form.Journal state.Settle w ≡ Some next → Grows state.Settle w next
settle_grows w next e =
    let b = bound (budget_of form.Journal w) (λ n. Some (state.Done (call.Settle n))) next e in
    let d = bound (number_of w) (λ n. cond (may_write form.Journal n) (Some n) None) b.0 b.1 in
    let t = test_some (may_write form.Journal d.0) d.0 b.0 d.2 in
    let u = not-true (nat_eq d.0 largest_budget) (both_are (is_budget d.0) (not (nat_eq d.0 largest_budget)) t.0).1 in
    let k = number_only (2 ^ 64) d.0 w d.1 in
    let made : Grows state.Settle w (state.Done (call.Settle d.0)) = record {
      words = ap (λ b. codes "settle" ∷ cond b [] (decimal d.0 ∷ [])) u ∙ ap (λ x. codes "settle" ∷ x ∷ []) (sym k.0);
      right = tt;
    } in
    subst (Grows state.Settle w) (ap (λ n. state.Done (call.Settle n)) t.1 ∙ same_Some _ next b.2) made

watch_grows : (f : Filter) (w : List ℕ) (next : State) → behind_call (call.WatchBegin f) w ≡ Some next → Grows (state.Done (call.WatchBegin f)) w next
watch_grows f w next e = go f.id refl e where
  go : (o : Option ℕ) → f.id ≡ o →
      cond (elim o [ None ↦ true | Some n ↦ false ]) (number_of w >>= λ n. Some (state.Done (call.WatchBegin (with_id f n)))) None ≡ Some next →
      Grows (state.Done (call.WatchBegin f)) w next
  go (Some n) k d = cc
  go None k d =
      number_grows (state.Done (call.WatchBegin f)) (λ n. state.Done (call.WatchBegin (with_id f n))) w next
      (λ n. record { words = ap (λ o. (codes "watch" ∷ codes "open" ∷ filter_text f.kind ∷ id_words o) ++ decimal n ∷ []) (sym k); right = tt }) d

done_grows : (c : Call) (w : List ℕ) (next : State) → behind_call c w ≡ Some next → Grows (state.Done c) w next
done_grows (call.View (query.ListTasks None)) w next e =
    name_grows (state.Done (call.View (query.ListTasks None))) (λ n. state.Done (call.View (query.ListTasks (Some n)))) w next (λ n. record { words = refl; right = tt }) e
done_grows (call.WatchBegin f) w next e = watch_grows f w next e
done_grows c w next e = cc

-- ## All words

-- a journal's word is the next that is written
pub step_grows : (s : State) (w : List ℕ) (next : State) → IsRight s → step form.Journal s w ≡ Some next → Grows s w next
step_grows (state.Opening ops) w next r e = opening_grows ops w next e
step_grows (state.Noun ops n) w next r e = second_grows ops n w next e
step_grows (state.Verb ops v) w next r e = name_grows (state.Verb ops v) (with_name ops v) w next (with_name_grows ops v) e
step_grows (state.Fields ops h fs) w next r e = fields_grow ops h fs w next r e
step_grows (state.Subnet ops n) w next r e = subnet_grows ops n w next e
step_grows (state.Operation ops o) w next r e = operation_grows ops o w next e
step_grows (state.CallNoun n) w next r e = call_second_grows n w next e
step_grows (state.CallVerb v) w next r e = name_grows (state.CallVerb v) (call_named v) w next (call_named_grows v) e
step_grows (state.Number v) w next r e = number_grows (state.Number v) (λ n. state.Done (call_numbered v n)) w next (numbered_grows v) e
step_grows state.WatchOpen w next r e = filter_grows w next e
step_grows (state.SessionFields n fs) w next r e = session_field_grows n fs w next r e
step_grows (state.Session v name) w next r e = number_grows (state.Session v name) (with_session v name) w next (with_session_grows v name) e
step_grows (state.StatusTask name s) w next r e =
    number_grows (state.StatusTask name s) (λ t. state.StatusState name s t) w next (λ t. record { words = refl; right = tt }) e
step_grows (state.StatusState name s t) w next r e = state_grows name s t w next e
step_grows state.Settle w next r e = settle_grows w next e
step_grows (state.Done c) w next r e = done_grows c w next e

run_grows : (ws : List (List ℕ)) (s t : State) → IsRight s → run (call_grammar form.Journal) s ws ≡ Some t → (written t ≡ written s ++ ws) × IsRight t
run_grows [] s t r e = subst (λ u. (written u ≡ written s ++ []) × IsRight u) (same_Some s t e) (sym (append-nil (written s)), r)
run_grows (w ∷ ws) s t r e =
    let b = bound (step form.Journal s w) (λ u. run (call_grammar form.Journal) u ws) t e in
    let g = step_grows s w b.0 r b.1 in
    let h = run_grows ws b.0 t g.right b.2 in
    (h.0 ∙ ap (λ xs. xs ++ ws) g.words ∙ append_assoc (written s) (w ∷ []) ws, h.1)

whole_written : (s : State) (c : Call) → IsRight s → whole s ≡ Some c → call_words c ≡ written s
whole_written (state.Fields ops h fs) c r e =
    sym (ap call_words (same_Some _ c e)) ∙ ops_snoc ops (op_of h fs) ∙ ap (λ xs. before_ops ops ++ xs) (op_written h fs r)
whole_written (state.Operation ops o) c r e = sym (ap call_words (same_Some _ c e)) ∙ ops_snoc ops o
whole_written (state.SessionFields n fs) c r e =
    sym (ap call_words (same_Some _ c e)) ∙ ap (λ xs. codes "remote" ∷ codes "open" ∷ n ∷ map field_text xs) (session_fields fs r)
whole_written state.Settle c r e = sym (ap call_words (same_Some _ c e))
whole_written (state.Done d) c r e = sym (ap call_words (same_Some d c e))
whole_written s c r e = cc

-- the words of a journal's call are the words of what they say
pub call_spelling : (ws : List (List ℕ)) (c : Call) → IsSaid (call_grammar form.Journal) ws c → ws ≡ call_words c
call_spelling ws c h =
    let b = bound (run (call_grammar form.Journal) (state.Opening []) ws) whole c h in
    let g = run_grows ws (state.Opening []) b.0 tt b.1 in
    sym (whole_written b.0 c g.1 b.2 ∙ g.0)
