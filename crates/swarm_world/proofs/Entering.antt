-- A duty of a control loop over the rows as an entry; an entry more in a world with its history.
use Rattle.std.proofs.Common.{◌≡◌, ◌<◌, ◌≤◌, ◌+◌, ℕ, List, [], ◌∷◌, ◌++◌, Option, Some, None, Result, Ok, Err, arith, ap, refl, subst, sym, ◌∙◌, length, true, false, inl}
use Rattle.std.specs.Prelude.{IfSome, map}
use Rattle.swarm_agent.specs.Times.{seen_agent}
use Rattle.swarm_model.proofs.Base.DutyLists.{due-Has}
use Rattle.swarm_model.proofs.Base.FromLists.{role_of-Has}
use Rattle.swarm_model.proofs.Base.Halting.{entries-running, halted-duty}
use Rattle.swarm_model.proofs.Base.Histories.{IsLegalFrom-snoc, admitted, admitted-Halt, duty_admitted, entries-replay, replay-snoc}
use Rattle.swarm_model.proofs.Laws.GivesOutReplay.{IsSound-replay}
use Rattle.swarm_model.proofs.Laws.Small.{IsSmall-replay}
use Rattle.swarm_model.proofs.Watching.Watchers.{duty-watchers}
use Rattle.swarm_model.specs.Changed.{changes_between}
use Rattle.swarm_model.specs.History.{IsLegal, replay, step}
use Rattle.swarm_objects.specs.Bounds.{far_end}
use Rattle.swarm_objects.specs.CallWords.{is_halt}
use Rattle.swarm_objects.specs.Changes.{with_tables}
use Rattle.swarm_objects.specs.Duties.{duties, effect_by, first_duty, is_due}
use Rattle.swarm_objects.specs.Kinds.{role_of}
use Rattle.swarm_objects.specs.Rows.{Has, first_of}
use Rattle.swarm_objects.specs.World.{Tables, World, empty_world}
use Rattle.swarm_objects.specs.declared.calls.Call.{Call}
use Rattle.swarm_objects.specs.declared.calls.Call.TheVariants as call
use Rattle.swarm_objects.specs.declared.calls.Entry.{Entry}
use Rattle.swarm_objects.specs.declared.calls.What.TheVariants as what
use Rattle.swarm_objects.specs.declared.duties.Duty.{Duty}
use Rattle.swarm_objects.specs.declared.loops.Role.{Role}
use Rattle.swarm_objects.specs.declared.loops.Role.TheVariants as role
use Rattle.swarm_objects.specs.declared.rows.Change.{Change}
use Rattle.swarm_objects.proofs.EffectLaws.{tables_law, usable_law}
use Rattle.swarm_objects.specs.ChangeLists.{Makes, apply_changes}
use Rattle.swarm_objects.specs.Effects.{after_duty, is_agents, world_with}
use Rattle.swarm_objects.specs.Usable.{IsUsable}
use Rattle.swarm_watch.specs.Worlds.{NotesLaw}
use Rattle.swarm_watch.specs.Calls.{hears}
use Rattle.swarm_watch.specs.Watchings.{Watchings}
use Rattle.swarm_objects.specs.declared.names.NoMemory.{NoMemory}
use Rattle.swarm_world.specs.Inside.Commits.{Commits}
use Rattle.swarm_world.proofs.Recorded.{tables_are}
use Rattle.swarm_world.specs.Inside.Parts.{Enters, HasHistory, IsAt, StandsFor}
use Rattle.swarm_world.specs.Inside.Records.{AreUsable, HasRecords, tables_of}
use Rattle.swarm_world.specs.Work.{IsFull, call_by, duty_by}
use Rattle.swarm_world.specs.declared.parts.Parts.{Parts}
use Rattle.swarm_world.specs.declared.records.Records.{Records}

-- What the parts of a legal history have.

pub usable-replay : (h : List Entry) → IsLegal h → IsUsable (replay h).tables
usable-replay h legal = usable_law (replay h) (IsSound-replay h legal) (IsSmall-replay h legal)

pub are_usable : (p : Parts) → HasHistory p → AreUsable p.records
are_usable p is = record {
  world = replay is.history;
  has = is.stands.has.records;
  usable = usable-replay is.history is.legal;
}

pub small_heartbeat : (p : Parts) → HasHistory p → p.records.store.tables.settings.heartbeat < far_end
small_heartbeat p is =
    subst (λ k. k < far_end) (sym (ap (λ (t : Tables). t.settings.heartbeat) is.stands.has.records.store))
    (IsSmall-replay is.history is.legal).heartbeat

pub number-is : (version : ℕ) (p : Parts) (h : List Entry) → IsAt version p h → version ≡ (replay h).entries + 1
number-is version p h is = omega (arith, is.number, entries-replay h)

-- A duty over the rows.

-- the world after it, by the changes that it makes
pub effect-is : (version : ℕ) (t : Tables) (w : World) (d : Duty) (cs : List Change) → t ≡ w.tables →
    version ≡ w.entries + 1 → is_agents (role_of d) ≡ false → Makes t cs (after_duty version t d) →
    effect_by (w.entries + 1) w d ≡ with_tables w (apply_changes w.tables cs)
effect-is version t w d cs tables number other makes =
    tables_law (w.entries + 1) w d other
    ∙ ap (with_tables w)
    (ap (λ k. after_duty k w.tables d) (sym number) ∙ ap (λ u. after_duty version u d) (sym tables) ∙ sym makes.gives
    ∙ ap (λ u. apply_changes u cs) tables)

-- the parts after it, of which the rows and the watchers changed
pub by_rows : (notes : NotesLaw) (version : ℕ) (p q : Parts) (h : List Entry) (d : Duty) (cs : List Change) → IsAt version p h →
    is_agents (role_of d) ≡ false → Makes (tables_of p.records) cs (after_duty version (tables_of p.records) d) →
    HasRecords q.records (with_tables (replay h) (apply_changes (replay h).tables cs)) →
    q.watches.watchers
    ≡ map (hears (changes_between version (replay h).tables (apply_changes (replay h).tables cs))) p.watches.watchers →
    q.sent ≡ p.sent → q.agents ≡ p.agents → q.halted ≡ p.halted →
    StandsFor q (step (replay h) (what.Duty d)).after
by_rows notes version p q h d cs is other makes has heard sent agents halted =
    let w = replay h in
    let number = number-is version p h is in
    let came = effect-is version (tables_of p.records) w d cs (tables_are p.records w is.stands.has.records) number other makes in
    let u = with_tables w (apply_changes w.tables cs) in
    let v = effect_by (w.entries + 1) w d in
    let rows : HasRecords q.records v = subst (HasRecords q.records) (sym came) has in
    record {
      has = record {
        records = record { store = rows.store; sessions = rows.sessions };
        sent = sent ∙ is.stands.has.sent ∙ sym (ap (λ (x : World). x.sent) came);
        agents = agents ∙ is.stands.has.agents ∙ sym (ap (λ (x : World). map seen_agent x.agents) came);
        halted = halted ∙ is.stands.has.halted ∙ sym (ap (λ (x : World). x.halted) came);
      };
      watches =
          notes h (what.Duty d) p.watches q.watches is.stands.watches (duty-watchers (w.entries + 1) w d)
          (heard
          ∙ ap (λ k. map (hears (changes_between k w.tables u.tables)) p.watches.watchers) number
          ∙ ap (λ (x : World). map (hears (changes_between (w.entries + 1) w.tables x.tables)) p.watches.watchers)
          (sym came));
    }

-- The first duty of a control loop.

first_has : (ds : List Duty) (d : Duty) → first_of ds ≡ Some d → Has ds d
first_has [] d e = absurd cc
first_has (x ∷ ds) d e = inl cc

pub role_of_first : (r : Role) (w : World) (d : Duty) → first_of (duties r w) ≡ Some d → role_of d ≡ r
role_of_first r w d e = role_of-Has r w d (first_has (duties r w) d e)

pub due_of_first : (r : Role) (w : World) (d : Duty) → first_of (duties r w) ≡ Some d → is_due w d ≡ true
due_of_first r w d e =
    due-Has w d (subst (λ z. Has (duties z w) d) (sym (role_of_first r w d e)) (first_has (duties r w) d e))

-- it is the first one of its own loop
own_first : (r : Role) (w : World) (d : Duty) → first_of (duties r w) ≡ Some d → first_of (duties (role_of d) w) ≡ Some d
own_first r w d e = subst (λ z. first_of (duties z w) ≡ Some d) (sym (role_of_first r w d e)) e

pub own_found : (r : Role) (w : World) (found : Option Duty) → found ≡ first_of (duties r w) →
    IfSome found (λ d. first_of (duties (role_of d) w) ≡ Some d)
own_found r w None e = tt
own_found r w (Some d) e = own_first r w d (sym e)

-- so is what is found first among all loops
pub found_first : (w : World) (rs : List Role) (d : Duty) → first_duty w rs ≡ Some d → first_of (duties (role_of d) w) ≡ Some d
found_first w [] d e = absurd cc
found_first w (r ∷ rs) d e = go (first_of (duties r w)) refl e (found_first w rs d)
  where
    go : (o : Option Duty) → first_of (duties r w) ≡ o → elim o [ Some x ↦ Some x | None ↦ first_duty w rs ] ≡ Some d
        → (first_duty w rs ≡ Some d → first_of (duties (role_of d) w) ≡ Some d) → first_of (duties (role_of d) w) ≡ Some d
    go (Some x) is e below = own_first r w d (is ∙ e)
    go None is e below = below e

pub none_first : (ds : List Duty) → None ≡ first_of ds → ds ≡ []
none_first [] e = refl
none_first (d ∷ ds) e = absurd cc

-- the loops over the rows look at the tables alone
pub by-tables : (r : Role) (w : World) → is_agents r ≡ false → duties r (world_with w.tables) ≡ duties r w
by-tables role.Dispatcher w other = refl
by-tables role.Enforcer w other = refl
by-tables role.Restart w other = refl
by-tables role.Update w other = refl
by-tables role.Replicated w other = refl
by-tables role.Global w other = refl
by-tables role.Job w other = refl
by-tables role.Allocator w other = refl
by-tables role.Scheduler w other = refl
by-tables role.Reaper w other = refl
by-tables role.Agents w other = absurd cc

-- A further entry.

-- where there is no room, there are exactly so many entries
pub full : (h : List Entry) → IsLegal h → (replay h).halted ≡ false → 300000 ≤ length h → IsFull h
full h legal running reached =
    let most = entries-running h legal running in (running, omega (arith, most, reached))

-- the history with a duty that was due
pub record Turned (h : List Entry) (by : ℕ) (d : Duty) : Type 0 where
  pub legal : IsLegal (h ++ duty_by by d ∷ [])
  pub world : replay (h ++ duty_by by d ∷ []) ≡ (step (replay h) (what.Duty d)).after
  pub running : (replay (h ++ duty_by by d ∷ [])).halted ≡ false

pub turning : (h : List Entry) (by : ℕ) (r : Role) (d : Duty) → IsLegal h → (replay h).halted ≡ false →
    length h < 300000 → first_of (duties r (replay h)) ≡ Some d → Turned h by d
turning h by r d legal running room first =
    let w = replay h in
    let due = due_of_first r w d first in
    let few : w.entries < 300000 = omega (arith, room, entries-replay h) in
    let came = replay-snoc empty_world h (duty_by by d) in
    record {
      legal = IsLegalFrom-snoc empty_world h (duty_by by d) legal (duty_admitted w d running few due);
      world = came;
      running = ap (λ (x : World). x.halted) came ∙ halted-duty w d ∙ running;
    }

-- A duty over the rows, whatever became of it.

pub took : (notes : NotesLaw) (version : ℕ) (p : Parts) (r : Records) (m : Watchings) (result : Result (Unit {0}) NoMemory)
    (h : List Entry) (d : Duty) (cs : List Change) → IsAt version p h → is_agents (role_of d) ≡ false →
    Makes (tables_of p.records) cs (after_duty version (tables_of p.records) d) →
    Commits version cs p.records p.watches result r m →
    Enters h (what.Duty d) result (record p { records = r; watches = m })
took notes version p r m (Ok done) h d cs is other makes did =
    let all = did (replay h) is.stands.has.records in
    by_rows notes version p (record p { records = r; watches = m }) h d cs is other makes all.0 all.1 refl refl refl
took notes version p r m (Err e) h d cs is other makes did =
    let kept = did.0 (replay h) is.stands.has.records in
    record {
      has = record {
        records = record { store = kept.store; sessions = kept.sessions };
        sent = is.stands.has.sent;
        agents = is.stands.has.agents;
        halted = is.stands.has.halted;
      };
      watches = did.1 ∙ is.stands.watches;
    }

-- the history with a call
pub record Gone (h : List Entry) (by : ℕ) (c : Call) : Type 0 where
  pub legal : IsLegal (h ++ call_by by c ∷ [])
  pub world : replay (h ++ call_by by c ∷ []) ≡ (step (replay h) (what.Call c)).after

pub going : (h : List Entry) (by : ℕ) (c : Call) → IsLegal h → (replay h).halted ≡ false → length h < 300000 → Gone h by c
going h by c legal running room =
    let few : (replay h).entries < 300000 = omega (arith, room, entries-replay h) in
    record {
      legal = IsLegalFrom-snoc empty_world h (call_by by c) legal (admitted (replay h) c running few);
      world = replay-snoc empty_world h (call_by by c);
    }

pub ending : (h : List Entry) (by : ℕ) → IsLegal h → (replay h).halted ≡ false → Gone h by call.Halt
ending h by legal running = record {
  legal = IsLegalFrom-snoc empty_world h (call_by by call.Halt) legal (admitted-Halt (replay h) running);
  world = replay-snoc empty_world h (call_by by call.Halt);
}

pub not_halt : (c : Call) → (c ≡ call.Halt → ⊥) → is_halt c ≡ false
not_halt (call.Txn ops) e = refl
not_halt (call.View asked) e = refl
not_halt (call.WatchBegin f) e = refl
not_halt (call.WatchPoll id) e = refl
not_halt (call.WatchFinish id) e = refl
not_halt (call.Tick ms) e = refl
not_halt (call.Settle budget) e = refl
not_halt (call.NodeFail name) e = refl
not_halt (call.NodeStart name) e = refl
not_halt (call.AgentStop name) e = refl
not_halt (call.AgentStart name) e = refl
not_halt (call.RemoteBegin name cpu mem) e = refl
not_halt (call.RemoteBeat name session) e = refl
not_halt (call.RemotePull name session) e = refl
not_halt (call.RemoteStatus name session task s) e = refl
not_halt call.Halt e = absurd (e refl)
