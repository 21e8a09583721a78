-- Whatever was read, some words make it whole.
use Rattle.std.proofs.Common.{◌≡◌, ℕ, List, [], ◌∷◌, codes, refl, ap, ◌∙◌, Option, Some, None}
use Rattle.std.specs.Fmt.{digits}
use Rattle.std.specs.Option.{option_map}
use Rattle.swarm_objects.specs.declared.calls.Op.{Op}
use Rattle.swarm_objects.specs.declared.loops.Role.{Role}
use Rattle.swarm_objects.specs.declared.loops.Role.TheVariants as role
use Rattle.script_grammar.specs.declared.duties.DutyState.{DutyState}
use Rattle.script_grammar.specs.declared.duties.DutyState.TheVariants as duty_state
use Rattle.script_grammar.specs.declared.lines.EntryState.{EntryState}
use Rattle.script_grammar.specs.declared.lines.EntryState.TheVariants as entry_state
use Rattle.script_grammar.specs.declared.lines.LineState.{LineState}
use Rattle.script_grammar.specs.declared.lines.LineState.TheVariants as line_state
use Rattle.script_grammar.specs.declared.states.CallNoun.{CallNoun}
use Rattle.script_grammar.specs.declared.states.CallNoun.TheVariants as call_noun
use Rattle.script_grammar.specs.declared.states.CallVerb.{CallVerb}
use Rattle.script_grammar.specs.declared.states.CallVerb.TheVariants as call_verb
use Rattle.script_grammar.specs.declared.states.Form.{Form}
use Rattle.script_grammar.specs.declared.states.Form.TheVariants as form
use Rattle.script_grammar.specs.declared.states.Noun.{Noun}
use Rattle.script_grammar.specs.declared.states.Noun.TheVariants as noun
use Rattle.script_grammar.specs.declared.states.SessionVerb.{SessionVerb}
use Rattle.script_grammar.specs.declared.states.SessionVerb.TheVariants as session_verb
use Rattle.script_grammar.specs.declared.states.State.{State}
use Rattle.script_grammar.specs.declared.states.State.TheVariants as state
use Rattle.script_grammar.specs.declared.states.Verb.{Verb}
use Rattle.script_grammar.specs.declared.states.Verb.TheVariants as verb
use Rattle.script_grammar.specs.Words.{◌>>=◌}
use Rattle.script_grammar.specs.Calls.{call_grammar}
use Rattle.script_grammar.specs.Duties.{duty_grammar}
use Rattle.script_grammar.specs.Entries.{call_entry, duty_entry, journal_grammar}
use Rattle.script_grammar.specs.Lines.{line_of, script_grammar}
use Rattle.script_grammar.specs.Machines.{Machine, run}
use Rattle.script_grammar.proofs.SaysLaw.{Completes}

-- ## Calls

noun_completes : (m : Form) (ops : List Op) (n : Noun) → Completes (call_grammar m) (state.Noun ops n)
unfolding digits
noun_completes m ops noun.Cluster = (codes "set" ∷ [], _, refl)
noun_completes m ops noun.Node = (codes "remove" ∷ codes "n" ∷ [], _, refl)
noun_completes m ops noun.Service = (codes "remove" ∷ codes "n" ∷ [], _, refl)
noun_completes m ops noun.Network = (codes "remove" ∷ codes "n" ∷ [], _, refl)

verb_completes : (m : Form) (ops : List Op) (v : Verb) → Completes (call_grammar m) (state.Verb ops v)
unfolding digits
verb_completes m ops verb.NetworkCreate = (codes "n" ∷ codes "subnet=10.0.0.0/16" ∷ [], _, refl)
verb_completes m ops v = (codes "n" ∷ [], _, refl)

call_noun_completes : (m : Form) (n : CallNoun) → Completes (call_grammar m) (state.CallNoun n)
unfolding digits
call_noun_completes m call_noun.List = (codes "nodes" ∷ [], _, refl)
call_noun_completes m call_noun.Inspect = (codes "node" ∷ codes "n" ∷ [], _, refl)
call_noun_completes m call_noun.Watch = (codes "open" ∷ codes "all" ∷ [], _, refl)
call_noun_completes m call_noun.Agent = (codes "stop" ∷ codes "n" ∷ [], _, refl)
call_noun_completes m call_noun.Remote = (codes "open" ∷ codes "n" ∷ [], _, refl)

call_verb_completes : (m : Form) (v : CallVerb) → Completes (call_grammar m) (state.CallVerb v)
unfolding digits
call_verb_completes m call_verb.RemoteBeat = (codes "n" ∷ codes "1" ∷ [], _, refl)
call_verb_completes m call_verb.RemotePull = (codes "n" ∷ codes "1" ∷ [], _, refl)
call_verb_completes m call_verb.RemoteStatus = (codes "n" ∷ codes "1" ∷ codes "1" ∷ codes "NEW" ∷ [], _, refl)
call_verb_completes m v = (codes "n" ∷ [], _, refl)

session_completes : (m : Form) (v : SessionVerb) (n : List ℕ) → Completes (call_grammar m) (state.Session v n)
unfolding digits
session_completes m session_verb.Status n = (codes "1" ∷ codes "1" ∷ codes "NEW" ∷ [], _, refl)
session_completes m v n = (codes "1" ∷ [], _, refl)

pub call_completes : (m : Form) (s : State) → Completes (call_grammar m) s
unfolding digits
call_completes m (state.Opening ops) = (codes "network" ∷ codes "remove" ∷ codes "n" ∷ [], _, refl)
call_completes m (state.Noun ops n) = noun_completes m ops n
call_completes m (state.Verb ops v) = verb_completes m ops v
call_completes m (state.Fields ops h fs) = ([], _, refl)
call_completes m (state.Subnet ops n) = (codes "subnet=10.0.0.0/16" ∷ [], _, refl)
call_completes m (state.Operation ops o) = ([], _, refl)
call_completes m (state.CallNoun n) = call_noun_completes m n
call_completes m (state.CallVerb v) = call_verb_completes m v
call_completes m (state.Number v) = (codes "1" ∷ [], _, refl)
call_completes m state.WatchOpen = (codes "all" ∷ [], _, refl)
call_completes m (state.SessionFields n fs) = ([], _, refl)
call_completes m (state.Session v n) = session_completes m v n
call_completes m (state.StatusTask n s) = (codes "1" ∷ codes "NEW" ∷ [], _, refl)
call_completes m (state.StatusState n s t) = (codes "NEW" ∷ [], _, refl)
call_completes m state.Settle = ([], _, refl)
call_completes m (state.Done c) = ([], _, refl)

-- ## Duties

loop_completes : (r : Role) → Completes duty_grammar (duty_state.Loop r)
unfolding digits
loop_completes role.Dispatcher = (codes "expire" ∷ codes "1" ∷ [], _, refl)
loop_completes role.Enforcer = (codes "reject" ∷ codes "1" ∷ [], _, refl)
loop_completes role.Restart = (codes "raise" ∷ codes "1" ∷ [], _, refl)
loop_completes role.Update = (codes "start" ∷ codes "1" ∷ [], _, refl)
loop_completes role.Replicated = (codes "gone" ∷ codes "1" ∷ [], _, refl)
loop_completes role.Global = (codes "leave" ∷ codes "1" ∷ codes "1" ∷ [], _, refl)
loop_completes role.Job = (codes "old" ∷ codes "1" ∷ [], _, refl)
loop_completes role.Allocator = (codes "note" ∷ codes "1" ∷ [], _, refl)
loop_completes role.Scheduler = (codes "drop" ∷ codes "1" ∷ [], _, refl)
loop_completes role.Reaper = (codes "trim" ∷ codes "1" ∷ [], _, refl)
loop_completes role.Agents = (codes "beat" ∷ codes "1" ∷ [], _, refl)

pub duty_completes : (s : DutyState) → Completes duty_grammar s
unfolding digits
duty_completes duty_state.Opening = (codes "agents" ∷ codes "beat" ∷ codes "1" ∷ [], _, refl)
duty_completes (duty_state.Loop r) = loop_completes r
duty_completes (duty_state.One k) = (codes "1" ∷ [], _, refl)
duty_completes (duty_state.Two k) = (codes "1" ∷ codes "1" ∷ [], _, refl)
duty_completes (duty_state.Second k a) = (codes "1" ∷ [], _, refl)
duty_completes duty_state.Port = (codes "1" ∷ codes "1" ∷ codes "1" ∷ [], _, refl)
duty_completes (duty_state.PortTarget s) = (codes "1" ∷ codes "1" ∷ [], _, refl)
duty_completes (duty_state.PortProtocol s target) = (codes "1" ∷ [], _, refl)
duty_completes (duty_state.Done d) = ([], _, refl)

-- ## A machine within another

-- the outer machine steps on as the inner one does, from the state that holds its state
abbrev pub Holds : {S T R Q : Type 0} → Machine S R → Machine T Q → (S → T) → Type 0
Holds {S} {T} {R} {Q} inner outer hold = (s : S) (word : List ℕ) → outer.step (hold s) word ≡ (inner.step s word >>= λ t. Some (hold t))

held_step : {S T : Type 0} (o : Option S) (hold : S → T) (f : T → Option T) (g : S → Option S) → ((s : S) → f (hold s) ≡ (g s >>= λ t. Some (hold t))) →
    ((o >>= λ t. Some (hold t)) >>= f) ≡ ((o >>= g) >>= λ t. Some (hold t))
held_step None hold f g e = refl
held_step (Some s) hold f g e = e s

pub run-held : {S T R Q : Type 0} (inner : Machine S R) (outer : Machine T Q) (hold : S → T) → Holds inner outer hold → (s : S) (words : List (List ℕ)) →
    run outer (hold s) words ≡ (run inner s words >>= λ t. Some (hold t))
run-held inner outer hold h s [] = refl
run-held {S} {T} {R} {Q} inner outer hold h s (word ∷ words) =
    ap (λ (o : Option T). o >>= λ t. run outer t words) (h s word)
    ∙ held_step (inner.step s word) hold (λ t. run outer t words) (λ t. run inner t words) (λ t. run-held inner outer hold h t words)

-- a state is completed by the words that complete the state in it
pub held_completes : {S T R Q : Type 0} (inner : Machine S R) (outer : Machine T Q) (hold : S → T) (made : R → Q) → Holds inner outer hold →
    ((s : S) → outer.whole (hold s) ≡ option_map made (inner.whole s)) → (s : S) → Completes inner s → Completes outer (hold s)
held_completes {S} {T} {R} {Q} inner outer hold made h w s (more, r, e) =
    (more, made r, ap (λ (o : Option T). o >>= outer.whole) (run-held inner outer hold h s more) ∙ ends (run inner s more) e)
  where
    ends : (o : Option S) → (o >>= inner.whole) ≡ Some r → ((o >>= λ t. Some (hold t)) >>= outer.whole) ≡ Some (made r)
    ends None e = cc
    ends (Some t) e = w t ∙ ap (option_map made) e

-- ## Lines and entries

pub line_completes : (s : LineState) → Completes script_grammar s
unfolding digits
line_completes line_state.Opening = (codes "wait" ∷ codes "1" ∷ [], _, refl)
line_completes (line_state.Call s) = held_completes (call_grammar form.Script) script_grammar line_state.Call line_of (λ s word. refl) (λ s. refl) s (call_completes form.Script s)
line_completes line_state.Wait = (codes "1" ∷ [], _, refl)
line_completes (line_state.Waited n) = ([], _, refl)

pub entry_completes : (s : EntryState) → Completes journal_grammar s
unfolding digits
entry_completes entry_state.Opening = (codes "1" ∷ codes "halt" ∷ [], _, refl)
entry_completes (entry_state.Caller by) = (codes "halt" ∷ [], _, refl)
entry_completes (entry_state.Call by s) =
    held_completes (call_grammar form.Journal) journal_grammar (entry_state.Call by) (call_entry by) (λ s word. refl) (λ s. refl) s (call_completes form.Journal s)
entry_completes (entry_state.Duty by d) = held_completes duty_grammar journal_grammar (entry_state.Duty by) (duty_entry by) (λ s word. refl) (λ s. refl) d (duty_completes d)
