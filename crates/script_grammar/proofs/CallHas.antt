-- Every call that is read has a text, in either form.
use Rattle.std.proofs.Common.{◌≡◌, ℕ, ◌^◌, List, [], ◌∷◌, ◌++◌, codes, Bool, true, false, cond, ◌&&◌, ◌||◌, not, refl, sym, ◌∙◌, ap, subst, Option, Some, None, nat_eq, append-nil}
use Rattle.std.specs.List.{AllByRecursion, cons_option, filter_map, list_all, list_any}
use Rattle.std.specs.Str.{bytes_eq}
use Rattle.std.proofs.lemmas.Option.{same_Some}
use Rattle.swarm_objects.proofs.Tests.{both, both_are, not-true}
use Rattle.swarm_objects.specs.declared.calls.Call.{Call}
use Rattle.swarm_objects.specs.declared.calls.Call.TheVariants as call
use Rattle.swarm_objects.specs.declared.calls.Op.{Op}
use Rattle.swarm_objects.specs.declared.calls.Op.TheVariants as op
use Rattle.swarm_objects.specs.declared.calls.Query.TheVariants as query
use Rattle.swarm_objects.specs.declared.ids.Kind.TheVariants as kind
use Rattle.swarm_objects.specs.declared.watches.Filter.{Filter}
use Rattle.script_grammar.specs.declared.fields.Field.{Field}
use Rattle.script_grammar.specs.declared.fields.Field.TheVariants as field
use Rattle.script_grammar.specs.declared.fields.Head.{Head}
use Rattle.script_grammar.specs.declared.fields.Head.TheVariants as head
use Rattle.script_grammar.specs.declared.fields.Table.{Table}
use Rattle.script_grammar.specs.declared.fields.Table.TheVariants as table
use Rattle.script_grammar.specs.declared.states.CallNoun.{CallNoun}
use Rattle.script_grammar.specs.declared.states.CallNoun.TheVariants as call_noun
use Rattle.script_grammar.specs.declared.states.CallVerb.{CallVerb}
use Rattle.script_grammar.specs.declared.states.CallVerb.TheVariants as call_verb
use Rattle.script_grammar.specs.declared.states.Form.{Form}
use Rattle.script_grammar.specs.declared.states.Form.TheVariants as form
use Rattle.script_grammar.specs.declared.states.Noun.{Noun}
use Rattle.script_grammar.specs.declared.states.Noun.TheVariants as noun
use Rattle.script_grammar.specs.declared.states.NumberVerb.{NumberVerb}
use Rattle.script_grammar.specs.declared.states.NumberVerb.TheVariants as number_verb
use Rattle.script_grammar.specs.declared.states.SessionVerb.{SessionVerb}
use Rattle.script_grammar.specs.declared.states.SessionVerb.TheVariants as session_verb
use Rattle.script_grammar.specs.declared.states.State.{State}
use Rattle.script_grammar.specs.declared.states.State.TheVariants as state
use Rattle.script_grammar.specs.declared.states.Verb.{Verb}
use Rattle.script_grammar.specs.declared.states.Verb.TheVariants as verb
use Rattle.swarm_filters.specs.Grammar.{is_name}
use Rattle.script_grammar.specs.Words.{name_of, number_of, ◌>>=◌}
use Rattle.swarm_objects.specs.Limits.{largest_budget}
use Rattle.script_grammar.specs.Calls.{all_of, begins_version, behind_call, behind_op, budget_of, call_grammar, call_named, call_numbered, call_opening, call_second, filter_of, in_fields, is_budget, is_empty, may_write, next_field, node_call, noun_of, op_of, opening, second, state_of, step, subnet_of, table_of, version_of, versioned, whole, with_id, with_name, with_session}
use Rattle.script_grammar.specs.Drafts.{engine_in, label_in}
use Rattle.script_grammar.specs.Fields.{field_of, field_text}
use Rattle.script_grammar.specs.HasText.{call_has_text, has_word, is_number, is_watched, op_has_text, where_some}
use Rattle.script_grammar.specs.Machines.{IsSaid, run}
use Rattle.script_grammar.specs.Tables.{belongs, bytes_lt, clashes, comes_before, fits, follows, is_default, may_stand, same_key}
use Rattle.script_grammar.proofs.Canonical.{all_append}
use Rattle.script_grammar.proofs.DraftHas.{HasFields, HasHead, op_of_has, session_wordy}
use Rattle.script_grammar.proofs.HasWord.{of_all, wordy}
use Rattle.script_grammar.proofs.Inversions.{bound, choose, either, never, same, tested}
use Rattle.script_grammar.proofs.Nodes.{Labels, not_above}
use Rattle.script_grammar.proofs.Numbers.{same_bytes, below_yes, number_only, test_some}
use Rattle.script_grammar.proofs.ReadIsRight.{field_right, name_only}
use Rattle.script_grammar.proofs.Rising.{Apart}
use Rattle.script_grammar.proofs.Subnets.{subnet_only}

-- ## One field more

-- a field that may stand there has a key of its own
abbrev OwnKey : List Field → Field → Type 0
OwnKey fs g = AllByRecursion (λ f. same_key g f ≡ false) fs

flipped : (j k : List ℕ) → bytes_eq j k ≡ false → bytes_eq k j ≡ false
flipped j k e = go (bytes_eq k j) refl where
  go : (b : Bool) → bytes_eq k j ≡ b → b ≡ false
  go false t = refl
  go true t = let z : true ≡ false = sym (same_bytes j) ∙ ap (bytes_eq j) (sym (same k j t)) ∙ e in cc

clash_key : (g f : Field) → clashes f g ≡ false → same_key g f ≡ false
clash_key (field.Label k v) (field.Label j u) e = flipped j k e
clash_key (field.Label k v) f e = refl
clash_key (field.Engine k v) (field.Engine j u) e = flipped j k e
clash_key (field.Engine k v) f e = refl
clash_key g f e = refl

not_equal : (j k : List ℕ) → bytes_lt j k ≡ true → bytes_eq k j ≡ false
not_equal j k e = go (bytes_eq k j) refl where
  go : (b : Bool) → bytes_eq k j ≡ b → b ≡ false
  go false t = refl
  go true t =
      let z : true ≡ false = sym e ∙ ap (bytes_lt j) (same k j t) ∙ sym (ap (λ x. bytes_lt x j) (same k j t)) ∙ not_above j k e in
      cc

before_key : (f g : Field) → comes_before f g ≡ true → same_key g f ≡ false
before_key (field.Label j u) (field.Label k v) e = not_equal j k e
before_key f (field.Label k v) e = refl
before_key (field.Engine j u) (field.Engine k v) e = not_equal j k e
before_key f (field.Engine k v) e = refl
before_key f g e = refl

none_clash : (g : Field) (fs : List Field) → list_any (λ f. clashes f g) fs ≡ false → OwnKey fs g
none_clash g [] e = tt
none_clash g (f ∷ fs) e = go (clashes f g) refl e (none_clash g fs) where
  go : (b : Bool) → clashes f g ≡ b → (b || list_any (λ x. clashes x g) fs) ≡ false → (list_any (λ x. clashes x g) fs ≡ false → OwnKey fs g) → OwnKey (f ∷ fs) g
  go true k d ih = cc
  go false k d ih = (clash_key g f k, ih d)

all_before_key : (g : Field) (fs : List Field) → list_all (λ f. comes_before f g) fs ≡ true → OwnKey fs g
all_before_key g [] e = tt
all_before_key g (f ∷ fs) e =
    let b = both_are (comes_before f g) (list_all (λ x. comes_before x g) fs) e in (before_key f g b.0, all_before_key g fs b.1)

own_key : (m : Form) (t : Table) (fs : List Field) (g : Field) (w : List ℕ) → may_stand m t fs g w ≡ true → OwnKey fs g
own_key form.Script t fs g w e = none_clash g fs (not-true _ (both_are (belongs t g) (fits fs g) e).1)
own_key form.Journal t fs g w e =
    let a = both_are (belongs t g) (bytes_eq w (field_text g) && follows t fs g) e in
    let b = both_are (bytes_eq w (field_text g)) (follows t fs g) a.1 in
    all_before_key g fs (both_are (not (is_default t g)) (list_all (λ x. comes_before x g) fs) b.1).1

apart_snoc : (ls : Labels) (l : List ℕ × List ℕ) → Apart ls → AllByRecursion (λ m. bytes_eq l.0 m.0 ≡ false) ls → Apart (ls ++ l ∷ [])
apart_snoc [] l a h = (tt, tt)
apart_snoc (m ∷ ls) l a h = (behind ls a.0, apart_snoc ls l a.1 h.1) where
  behind : (ls : Labels) → AllByRecursion (λ k. bytes_eq k.0 m.0 ≡ false) ls → AllByRecursion (λ k. bytes_eq k.0 m.0 ≡ false) (ls ++ l ∷ [])
  behind [] k = (h.0, tt)
  behind (x ∷ ls) k = (k.0, behind ls k.1)

label_keys : (k v : List ℕ) (fs : List Field) → OwnKey fs (field.Label k v) → AllByRecursion (λ m. bytes_eq k m.0 ≡ false) (filter_map label_in fs)
label_keys k v [] h = tt
label_keys k v (field.Label j u ∷ fs) h = (h.0, label_keys k v fs h.1)
label_keys k v (f ∷ fs) h = label_keys k v fs h.1

engine_keys : (k v : List ℕ) (fs : List Field) → OwnKey fs (field.Engine k v) → AllByRecursion (λ m. bytes_eq k m.0 ≡ false) (filter_map engine_in fs)
engine_keys k v [] h = tt
engine_keys k v (field.Engine j u ∷ fs) h = (h.0, engine_keys k v fs h.1)
engine_keys k v (f ∷ fs) h = engine_keys k v fs h.1

filter_append : {A : Type 0} (p : Field → Option A) (fs gs : List Field) → filter_map p (fs ++ gs) ≡ filter_map p fs ++ filter_map p gs
filter_append p [] gs = refl
filter_append {A} p (f ∷ fs) gs = go (p f) (filter_append p fs gs) where
  go : (o : Option A) → filter_map p (fs ++ gs) ≡ filter_map p fs ++ filter_map p gs → cons_option o (filter_map p (fs ++ gs)) ≡ cons_option o (filter_map p fs) ++ filter_map p gs
  go None ih = ih
  go (Some x) ih = ap (λ xs. x ∷ xs) ih

labels_snoc : (fs : List Field) (g : Field) → Apart (filter_map label_in fs) → OwnKey fs g → Apart (filter_map label_in fs ++ filter_map label_in (g ∷ []))
labels_snoc fs (field.Label k v) a h = apart_snoc (filter_map label_in fs) (k, v) a (label_keys k v fs h)
labels_snoc fs g a h = subst Apart (sym (append-nil (filter_map label_in fs))) a

engines_snoc : (fs : List Field) (g : Field) → Apart (filter_map engine_in fs) → OwnKey fs g → Apart (filter_map engine_in fs ++ filter_map engine_in (g ∷ []))
engines_snoc fs (field.Engine k v) a h = apart_snoc (filter_map engine_in fs) (k, v) a (engine_keys k v fs h)
engines_snoc fs g a h = subst Apart (sym (append-nil (filter_map engine_in fs))) a

no_fields : HasFields []
no_fields = record { words = tt; labels = tt; engines = tt }

next_has : (m : Form) (t : Table) (fs : List Field) (w : List ℕ) (gs : List Field) → HasFields fs → next_field m t fs w ≡ Some gs → HasFields gs
next_has m t fs w gs h e =
    let f = bound (field_of w) (λ g. cond (may_stand m t fs g w) (Some (fs ++ g ∷ [])) None) gs e in
    let g = f.0 in
    let u = test_some (may_stand m t fs g w) (fs ++ g ∷ []) gs f.2 in
    let own = own_key m t fs g w u.0 in
    let made : HasFields (fs ++ g ∷ []) = record {
      words = all_append (λ x. has_word x ≡ true) fs (g ∷ []) h.words (wordy g (field_right w g f.1), tt);
      labels = subst Apart (sym (filter_append label_in fs (g ∷ []))) (labels_snoc fs g h.labels own);
      engines = subst Apart (sym (filter_append engine_in fs (g ∷ []))) (engines_snoc fs g h.engines own);
    } in
    subst HasFields u.1 made

-- ## States

abbrev pub HasOps : List Op → Type 0
HasOps = AllByRecursion (λ o. op_has_text o ≡ true)

-- all that was read has a text
abbrev pub HasState : State → Type 0
HasState (state.Opening ops) = HasOps ops
HasState (state.Noun ops n) = HasOps ops
HasState (state.Verb ops v) = HasOps ops
HasState (state.Fields ops h fs) = HasOps ops × HasHead h × HasFields fs
HasState (state.Subnet ops n) = HasOps ops × (is_name n ≡ true)
HasState (state.Operation ops o) = HasOps ops × (op_has_text o ≡ true)
HasState (state.SessionFields n fs) = (is_name n ≡ true) × HasFields fs
HasState (state.Session v n) = is_name n ≡ true
HasState (state.StatusTask n s) = (is_name n ≡ true) × (is_number s ≡ true)
HasState (state.StatusState n s t) = (is_name n ≡ true) × (is_number s ≡ true) × (is_number t ≡ true)
HasState (state.Done c) = call_has_text c ≡ true
HasState s = Unit {0}

ops_snoc : (ops : List Op) (o : Op) → HasOps ops → op_has_text o ≡ true → HasOps (ops ++ o ∷ [])
ops_snoc [] o h k = (k, tt)
ops_snoc (p ∷ ops) o h k = (h.0, ops_snoc ops o h.1 k)

-- ## Words that lead on

name_has : (to : List ℕ → State) (w : List ℕ) (next : State) → ((n : List ℕ) → is_name n ≡ true → HasState (to n)) → (name_of w >>= λ n. Some (to n)) ≡ Some next → HasState next
name_has to w next g e =
    let b = bound (name_of w) (λ n. Some (to n)) next e in
    subst HasState (same_Some (to b.0) next b.2) (g b.0 (name_only w b.0 b.1))

number_has : (to : ℕ → State) (w : List ℕ) (next : State) → ((n : ℕ) → is_number n ≡ true → HasState (to n)) → (number_of w >>= λ n. Some (to n)) ≡ Some next → HasState next
number_has to w next g e =
    let b = bound (number_of w) (λ n. Some (to n)) next e in
    subst HasState (same_Some (to b.0) next b.2) (g b.0 (below_yes b.0 (2 ^ 64) (number_only (2 ^ 64) b.0 w b.1).1))

version_number : (w : List ℕ) (v : ℕ) → version_of w ≡ Some v → is_number v ≡ true
version_number [] v e = cc
version_number (b ∷ bs) v e = below_yes v (2 ^ 64) (number_only (2 ^ 64) v bs (tested (nat_eq b 64) (number_of bs) v e).1).1

version_has : (to : ℕ → State) (w : List ℕ) (next : State) → ((v : ℕ) → is_number v ≡ true → HasState (to v)) → (version_of w >>= λ v. Some (to v)) ≡ Some next → HasState next
version_has to w next g e =
    let b = bound (version_of w) (λ v. Some (to v)) next e in
    subst HasState (same_Some (to b.0) next b.2) (g b.0 (version_number w b.0 b.1))

-- ## Each word

call_opening_has : (m : Form) (w : List ℕ) (next : State) → call_opening m w ≡ Some next → HasState next
call_opening_has m w next e =
    choose HasState w (codes "list") (state.CallNoun call_noun.List) _ next (λ k. tt) (λ e.
    choose HasState w (codes "inspect") (state.CallNoun call_noun.Inspect) _ next (λ k. tt) (λ e.
    choose HasState w (codes "watch") (state.CallNoun call_noun.Watch) _ next (λ k. tt) (λ e.
    choose HasState w (codes "agent") (state.CallNoun call_noun.Agent) _ next (λ k. tt) (λ e.
    choose HasState w (codes "remote") (state.CallNoun call_noun.Remote) _ next (λ k. tt) (λ e.
    choose HasState w (codes "clock") (state.Done (call.View query.Clock)) _ next (λ k. refl) (λ e.
    choose HasState w (codes "tick") (state.Number number_verb.Tick) _ next (λ k. tt) (λ e.
    choose HasState w (codes "settle") state.Settle _ next (λ k. tt) (last m)
    e) e) e) e) e) e) e) e
  where
    last : (m : Form) → (elim m [ form.Script ↦ None | form.Journal ↦ cond (bytes_eq w (codes "halt")) (Some (state.Done call.Halt)) None ]) ≡ Some next → HasState next
    last form.Script d = cc
    last form.Journal d = choose HasState w (codes "halt") (state.Done call.Halt) None next (λ k. refl) (never HasState next) d

opening_has : (m : Form) (ops : List Op) (w : List ℕ) (next : State) → HasOps ops → opening m ops w ≡ Some next → HasState next
opening_has m ops w next h e = go (noun_of w) e where
  go : (o : Option Noun) → (elim o [ Some n ↦ Some (state.Noun ops n) | None ↦ cond (is_empty ops) (call_opening m w) None ]) ≡ Some next → HasState next
  go (Some n) d = subst HasState (same_Some _ next d) h
  go None d = call_opening_has m w next (tested (is_empty ops) (call_opening m w) next d).1

second_has : (ops : List Op) (n : Noun) (w : List ℕ) (next : State) → HasOps ops → second ops n w ≡ Some next → HasState next
second_has ops noun.Node w next h e =
    choose HasState w (codes "join") (state.Verb ops verb.NodeJoin) _ next (λ k. h) (λ e.
    choose HasState w (codes "update") (state.Verb ops verb.NodeUpdate) _ next (λ k. h) (λ e.
    choose HasState w (codes "remove") (state.Verb ops verb.NodeRemove) _ next (λ k. h) (λ e.
    let t = tested (is_empty ops) (node_call w >>= λ v. Some (state.CallVerb v)) next e in
    let b = bound (node_call w) (λ v. Some (state.CallVerb v)) next t.1 in
    subst HasState (same_Some _ next b.2) tt) e) e) e
second_has ops noun.Service w next h e =
    choose HasState w (codes "create") (state.Verb ops verb.ServiceCreate) _ next (λ k. h) (λ e.
    choose HasState w (codes "update") (state.Verb ops verb.ServiceUpdate) _ next (λ k. h) (λ e.
    choose HasState w (codes "remove") (state.Verb ops verb.ServiceRemove) _ next (λ k. h) (λ e.
    choose HasState w (codes "rollback") (state.Verb ops verb.ServiceRollback) None next (λ k. h) (never HasState next)
    e) e) e) e
second_has ops noun.Network w next h e =
    choose HasState w (codes "create") (state.Verb ops verb.NetworkCreate) _ next (λ k. h) (λ e.
    choose HasState w (codes "remove") (state.Verb ops verb.NetworkRemove) None next (λ k. h) (never HasState next)
    e) e
second_has ops noun.Cluster w next h e =
    choose HasState w (codes "set") (state.Fields ops head.SetCluster []) None next (λ k. (h, tt, no_fields)) (never HasState next) e

call_second_has : (n : CallNoun) (w : List ℕ) (next : State) → call_second n w ≡ Some next → HasState next
call_second_has call_noun.List w next e =
    choose HasState w (codes "nodes") (state.Done (call.View query.ListNodes)) _ next (λ k. refl) (λ e.
    choose HasState w (codes "services") (state.Done (call.View query.ListServices)) _ next (λ k. refl) (λ e.
    choose HasState w (codes "networks") (state.Done (call.View query.ListNetworks)) _ next (λ k. refl) (λ e.
    choose HasState w (codes "tasks") (state.Done (call.View (query.ListTasks None))) None next (λ k. refl) (never HasState next)
    e) e) e) e
call_second_has call_noun.Inspect w next e =
    choose HasState w (codes "node") (state.CallVerb call_verb.InspectNode) _ next (λ k. tt) (λ e.
    choose HasState w (codes "service") (state.CallVerb call_verb.InspectService) _ next (λ k. tt) (λ e.
    choose HasState w (codes "network") (state.CallVerb call_verb.InspectNetwork) _ next (λ k. tt) (λ e.
    choose HasState w (codes "task") (state.Number number_verb.InspectTask) None next (λ k. tt) (never HasState next)
    e) e) e) e
call_second_has call_noun.Watch w next e =
    choose HasState w (codes "open") state.WatchOpen _ next (λ k. tt) (λ e.
    choose HasState w (codes "poll") (state.Number number_verb.WatchPoll) _ next (λ k. tt) (λ e.
    choose HasState w (codes "close") (state.Number number_verb.WatchClose) None next (λ k. tt) (never HasState next)
    e) e) e
call_second_has call_noun.Agent w next e =
    choose HasState w (codes "stop") (state.CallVerb call_verb.AgentStop) _ next (λ k. tt) (λ e.
    choose HasState w (codes "start") (state.CallVerb call_verb.AgentStart) None next (λ k. tt) (never HasState next)
    e) e
call_second_has call_noun.Remote w next e =
    choose HasState w (codes "open") (state.CallVerb call_verb.RemoteOpen) _ next (λ k. tt) (λ e.
    choose HasState w (codes "beat") (state.CallVerb call_verb.RemoteBeat) _ next (λ k. tt) (λ e.
    choose HasState w (codes "pull") (state.CallVerb call_verb.RemotePull) _ next (λ k. tt) (λ e.
    choose HasState w (codes "status") (state.CallVerb call_verb.RemoteStatus) None next (λ k. tt) (never HasState next)
    e) e) e) e

with_name_has : (ops : List Op) (v : Verb) → HasOps ops → (n : List ℕ) → is_name n ≡ true → HasState (with_name ops v n)
with_name_has ops verb.NodeJoin h n k = (h, k, no_fields)
with_name_has ops verb.NodeUpdate h n k = (h, (k, refl), no_fields)
with_name_has ops verb.NodeRemove h n k = (h, k)
with_name_has ops verb.ServiceCreate h n k = (h, k, no_fields)
with_name_has ops verb.ServiceUpdate h n k = (h, (k, refl), no_fields)
with_name_has ops verb.ServiceRemove h n k = (h, k)
with_name_has ops verb.ServiceRollback h n k = (h, both _ _ k refl)
with_name_has ops verb.NetworkCreate h n k = (h, k)
with_name_has ops verb.NetworkRemove h n k = (h, k)

call_named_has : (v : CallVerb) (n : List ℕ) → is_name n ≡ true → HasState (call_named v n)
call_named_has call_verb.NodeFail n k = k
call_named_has call_verb.NodeStart n k = k
call_named_has call_verb.AgentStop n k = k
call_named_has call_verb.AgentStart n k = k
call_named_has call_verb.InspectNode n k = k
call_named_has call_verb.InspectService n k = k
call_named_has call_verb.InspectNetwork n k = k
call_named_has call_verb.RemoteOpen n k = (k, no_fields)
call_named_has call_verb.RemoteBeat n k = k
call_named_has call_verb.RemotePull n k = k
call_named_has call_verb.RemoteStatus n k = k

numbered_has : (v : NumberVerb) (n : ℕ) → is_number n ≡ true → HasState (state.Done (call_numbered v n))
numbered_has number_verb.Tick n k = k
numbered_has number_verb.InspectTask n k = k
numbered_has number_verb.WatchPoll n k = k
numbered_has number_verb.WatchClose n k = k

with_session_has : (v : SessionVerb) (name : List ℕ) → is_name name ≡ true → (n : ℕ) → is_number n ≡ true → HasState (with_session v name n)
with_session_has session_verb.Beat name h n k = both _ _ h k
with_session_has session_verb.Pull name h n k = both _ _ h k
with_session_has session_verb.Status name h n k = (h, k)

versioned_has : (ops : List Op) (h : Head) (fs : List Field) (w : List ℕ) (next : State) → HasState (state.Fields ops h fs) → versioned ops h fs w ≡ Some next → HasState next
versioned_has ops h (f ∷ fs) w next s e = cc
versioned_has ops (head.UpdateNode n None) [] w next s e = version_has (λ v. state.Fields ops (head.UpdateNode n (Some v)) []) w next (λ v k. (s.0, (s.1.0, k), no_fields)) e
versioned_has ops (head.UpdateService n None) [] w next s e = version_has (λ v. state.Fields ops (head.UpdateService n (Some v)) []) w next (λ v k. (s.0, (s.1.0, k), no_fields)) e
versioned_has ops (head.UpdateNode n (Some v)) [] w next s e = cc
versioned_has ops (head.UpdateService n (Some v)) [] w next s e = cc
versioned_has ops (head.CreateNode n) [] w next s e = cc
versioned_has ops (head.CreateService n) [] w next s e = cc
versioned_has ops head.SetCluster [] w next s e = cc

fields_have : (m : Form) (ops : List Op) (h : Head) (fs : List Field) (w : List ℕ) (next : State) → HasState (state.Fields ops h fs) → in_fields m ops h fs w ≡ Some next → HasState next
fields_have m ops h fs w next s e =
    choose HasState w (codes ";") (state.Opening (ops ++ op_of h fs ∷ [])) _ next (λ k. ops_snoc ops (op_of h fs) s.0 (op_of_has h fs s.1 s.2)) (λ e.
    either (begins_version w) (versioned ops h fs w) (next_field m (table_of h) fs w >>= λ gs. Some (state.Fields ops h gs)) next e
    (versioned_has ops h fs w next s)
    (λ d.
    let b = bound (next_field m (table_of h) fs w) (λ gs. Some (state.Fields ops h gs)) next d in
    subst HasState (same_Some _ next b.2) (s.0, s.1, next_has m (table_of h) fs w b.0 s.2 b.1)))
    e

behind_has : (ops : List Op) (o : Op) (w : List ℕ) (next : State) → HasOps ops → op_has_text o ≡ true → behind_op ops o w ≡ Some next → HasState next
behind_has ops (op.RemoveNode n false) w next h k e = choose HasState w (codes "force") (state.Operation ops (op.RemoveNode n true)) None next (λ x. (h, k)) (never HasState next) e
behind_has ops (op.RollbackService n None) w next h k e =
    version_has (λ v. state.Operation ops (op.RollbackService n (Some v))) w next (λ v x. (h, both _ _ (both_are (is_name n) true k).0 x)) e
behind_has ops o w next h k e = cc

filter_has : (w : List ℕ) (f : Filter) → filter_of w ≡ Some f → call_has_text (call.WatchBegin f) ≡ true
filter_has w f e =
    let P : Filter → Type 0 = λ x. call_has_text (call.WatchBegin x) ≡ true in
    choose P w (codes "all") (all_of None) _ f (λ k. refl) (λ e.
    choose P w (codes "node") (all_of (Some kind.Node)) _ f (λ k. refl) (λ e.
    choose P w (codes "service") (all_of (Some kind.Service)) _ f (λ k. refl) (λ e.
    choose P w (codes "task") (all_of (Some kind.Task)) _ f (λ k. refl) (λ e.
    choose P w (codes "network") (all_of (Some kind.Network)) None f (λ k. refl) (never P f)
    e) e) e) e) e

may_write_budget : (m : Form) (n : ℕ) → may_write m n ≡ true → is_budget n ≡ true
may_write_budget form.Script n e = e
may_write_budget form.Journal n e = (both_are (is_budget n) (not (nat_eq n largest_budget)) e).0

settle_has : (m : Form) (w : List ℕ) (next : State) → (budget_of m w >>= λ n. Some (state.Done (call.Settle n))) ≡ Some next → HasState next
settle_has m w next e =
    let b = bound (budget_of m w) (λ n. Some (state.Done (call.Settle n))) next e in
    let d = bound (number_of w) (λ n. cond (may_write m n) (Some n) None) b.0 b.1 in
    let t = test_some (may_write m d.0) d.0 b.0 d.2 in
    subst HasState (same_Some _ next b.2) (subst (λ n. is_budget n ≡ true) t.1 (may_write_budget m d.0 t.0))

done_has : (c : Call) (w : List ℕ) (next : State) → call_has_text c ≡ true → behind_call c w ≡ Some next → HasState next
done_has (call.View (query.ListTasks None)) w next h e = name_has (λ n. state.Done (call.View (query.ListTasks (Some n)))) w next (λ n k. k) e
done_has (call.WatchBegin f) w next h e =
    number_has (λ n. state.Done (call.WatchBegin (with_id f n))) w next (λ n k. both _ _ (both_are (where_some is_watched f.kind) (where_some is_number f.id) h).0 k)
    (tested _ (number_of w >>= λ n. Some (state.Done (call.WatchBegin (with_id f n)))) next e).1
done_has c w next h e = cc

-- ## All words

pub step_has : (m : Form) (s : State) (w : List ℕ) (next : State) → HasState s → step m s w ≡ Some next → HasState next
step_has m (state.Opening ops) w next h e = opening_has m ops w next h e
step_has m (state.Noun ops n) w next h e = second_has ops n w next h e
step_has m (state.Verb ops v) w next h e = name_has (with_name ops v) w next (with_name_has ops v h) e
step_has m (state.Fields ops hd fs) w next h e = fields_have m ops hd fs w next h e
step_has m (state.Subnet ops n) w next h e =
    let b = bound (subnet_of w) (λ s. Some (state.Operation ops (op.CreateNetwork n s.0 s.1))) next e in
    let k = subnet_only w b.0.0 b.0.1 b.1 in
    subst HasState (same_Some _ next b.2) (h.0, both _ _ h.1 (both _ _ (below_yes b.0.0 (2 ^ 32) k.1) (below_yes b.0.1 256 k.2)))
step_has m (state.Operation ops o) w next h e =
    choose HasState w (codes ";") (state.Opening (ops ++ o ∷ [])) _ next (λ k. ops_snoc ops o h.0 h.1) (behind_has ops o w next h.0 h.1) e
step_has m (state.CallNoun n) w next h e = call_second_has n w next e
step_has m (state.CallVerb v) w next h e = name_has (call_named v) w next (call_named_has v) e
step_has m (state.Number v) w next h e = number_has (λ n. state.Done (call_numbered v n)) w next (numbered_has v) e
step_has m state.WatchOpen w next h e =
    let b = bound (filter_of w) (λ f. Some (state.Done (call.WatchBegin f))) next e in
    subst HasState (same_Some _ next b.2) (filter_has w b.0 b.1)
step_has m (state.SessionFields n fs) w next h e =
    let b = bound (next_field m table.Session fs w) (λ gs. Some (state.SessionFields n gs)) next e in
    subst HasState (same_Some _ next b.2) (h.0, next_has m table.Session fs w b.0 h.1 b.1)
step_has m (state.Session v name) w next h e = number_has (with_session v name) w next (with_session_has v name h) e
step_has m (state.StatusTask name s) w next h e = number_has (λ t. state.StatusState name s t) w next (λ t k. (h.0, h.1, k)) e
step_has m (state.StatusState name s t) w next h e =
    let b = bound (state_of w) (λ x. Some (state.Done (call.RemoteStatus name s t x))) next e in
    subst HasState (same_Some _ next b.2) (both _ _ h.0 (both _ _ h.1 h.2))
step_has m state.Settle w next h e = settle_has m w next e
step_has m (state.Done c) w next h e = done_has c w next h e

pub run_has : (m : Form) (ws : List (List ℕ)) (s t : State) → HasState s → run (call_grammar m) s ws ≡ Some t → HasState t
run_has m [] s t h e = subst HasState (same_Some s t e) h
run_has m (w ∷ ws) s t h e =
    let b = bound (step m s w) (λ u. run (call_grammar m) u ws) t e in
    run_has m ws b.0 t (step_has m s w b.0 h b.1) b.2

txn_has : (ops : List Op) (o : Op) → HasOps ops → op_has_text o ≡ true → call_has_text (call.Txn (ops ++ o ∷ [])) ≡ true
txn_has ops o h k = both _ _ (some ops) (of_all op_has_text (ops ++ o ∷ []) (ops_snoc ops o h k)) where
  some : (ops : List Op) → not (is_empty (ops ++ o ∷ [])) ≡ true
  some [] = refl
  some (p ∷ ops) = refl

pub whole_has : (s : State) (c : Call) → HasState s → whole s ≡ Some c → call_has_text c ≡ true
whole_has (state.Fields ops h fs) c s e = subst (λ x. call_has_text x ≡ true) (same_Some _ c e) (txn_has ops (op_of h fs) s.0 (op_of_has h fs s.1 s.2))
whole_has (state.Operation ops o) c s e = subst (λ x. call_has_text x ≡ true) (same_Some _ c e) (txn_has ops o s.0 s.1)
whole_has (state.SessionFields n fs) c s e =
    subst (λ x. call_has_text x ≡ true) (same_Some _ c e) (both _ _ s.0 (of_all has_word _ (session_wordy fs s.1.words)))
whole_has state.Settle c s e = subst (λ x. call_has_text x ≡ true) (same_Some _ c e) refl
whole_has (state.Done d) c s e = subst (λ x. call_has_text x ≡ true) (same_Some d c e) s
whole_has s c h e = cc

-- what words say has a text
pub call_has : (m : Form) (ws : List (List ℕ)) (c : Call) → IsSaid (call_grammar m) ws c → call_has_text c ≡ true
call_has m ws c e =
    let b = bound (run (call_grammar m) (state.Opening []) ws) whole c e in
    whole_has b.0 c (run_has m ws (state.Opening []) b.0 tt b.1) b.2
