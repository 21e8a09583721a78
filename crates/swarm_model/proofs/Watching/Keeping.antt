-- Only a poll and the end of a watcher take events away; any other entry adds its changes to those that are kept.
use Rattle.std.proofs.Common.{◌≡◌, ◌+◌, Bool, true, false, List, [], ◌++◌, append-nil, refl, ap, sym, ◌∙◌, subst, Ok, Err}
use Rattle.std.specs.Prelude.{filter}
use Rattle.swarm_model.proofs.Base.Answers.{OnGiven, given-unless}
use Rattle.swarm_model.proofs.Watching.Changes.{changes-none}
use Rattle.swarm_model.proofs.Watching.Waiting.{IsWatched, kept-stay, unwatched, watched-replay}
use Rattle.swarm_model.proofs.Watching.Watchers.{KeepsWatchers, answer-watchers, duty-watchers, is_on_watchers}
use Rattle.swarm_model.specs.Calls.{answer, answered, call_outcome}
use Rattle.swarm_model.specs.Calls.Watches.{is_waited_for}
use Rattle.swarm_model.specs.Changed.{changes_between}
use Rattle.swarm_model.specs.History.{effect, replay}
use Rattle.swarm_model.specs.Outcome.{Answered}
use Rattle.swarm_objects.proofs.RowLemmas.{Has-append_left}
use Rattle.swarm_objects.specs.Duties.{effect_by}
use Rattle.swarm_objects.specs.Rows.{Has}
use Rattle.swarm_objects.specs.World.{World}
use Rattle.swarm_objects.specs.declared.calls.Call.{Call}
use Rattle.swarm_objects.specs.declared.calls.Call.TheVariants as call
use Rattle.swarm_objects.specs.declared.calls.Entry.{Entry}
use Rattle.swarm_objects.specs.declared.duties.Duty.{Duty}
use Rattle.swarm_objects.specs.declared.replies.Reply.{Reply}
use Rattle.swarm_objects.specs.declared.watches.Event.{Event}
use Rattle.swarm_objects.specs.declared.watches.Watcher.{Watcher}

-- a call that may take events away
abbrev pub takes_events : Call → Bool
takes_events (call.WatchPoll id) = true
takes_events (call.WatchFinish id) = true
takes_events _ = false

-- the changes between two worlds that a watcher of the later one waits for
abbrev pub awaited : World → World → List Event
awaited w v = filter (is_waited_for v.watchers) (changes_between (w.entries + 1) w.tables v.tables)

abbrev Grows : World → World → Type 0
Grows w v = (x : Watcher) → Has w.watchers x → Has v.watchers x

abbrev GivenGrows : World → Answered → Type 0
GivenGrows w given = OnGiven (λ (d : Reply × World). Grows w d.1) given

given-grows : (w : World) (given : Answered) → KeepsWatchers w given → GivenGrows w given
given-grows w (Ok done) same = λ x h. subst (λ xs. Has xs x) (sym same) h
given-grows w (Err r) same = tt

watch-grows : (w : World) (c : Call) → is_on_watchers c ≡ true → takes_events c ≡ false → GivenGrows w (answer (w.entries + 1) w c)
watch-grows w (call.WatchBegin f) on keeps =
    given-unless (λ (d : Reply × World). Grows w d.1) _ _ (λ e x h. Has-append_left w.watchers _ x h)
watch-grows w (call.WatchPoll id) on keeps = absurd cc
watch-grows w (call.WatchFinish id) on keeps = absurd cc
watch-grows w _ on keeps = absurd cc

answer-grows : (w : World) (c : Call) → takes_events c ≡ false → GivenGrows w (answer (w.entries + 1) w c)
answer-grows w c keeps = go (is_on_watchers c) refl
  where
    go : (on : Bool) → is_on_watchers c ≡ on → GivenGrows w (answer (w.entries + 1) w c)
    go true e = watch-grows w c e keeps
    go false e = given-grows w (answer (w.entries + 1) w c) (answer-watchers (w.entries + 1) w c e)

answered-keeps : (w : World) (given : Answered) → IsWatched w → GivenGrows w given →
    (answered w given).after.events ≡ w.events ++ awaited w (answered w given).after
answered-keeps w (Ok done) is grows = kept-stay w done.1 is grows
answered-keeps w (Err r) is grows =
    sym (ap (λ es. w.events ++ filter (is_waited_for w.watchers) es) (changes-none (w.entries + 1) w.tables)
    ∙ append-nil w.events)

pub call-keeps-events : (w : World) (c : Call) → IsWatched w → takes_events c ≡ false →
    (call_outcome w c).after.events ≡ w.events ++ awaited w (call_outcome w c).after
call-keeps-events w c is keeps = answered-keeps w (answer (w.entries + 1) w c) is (answer-grows w c keeps)

pub duty-keeps-events : (w : World) (d : Duty) → IsWatched w → (effect w d).events ≡ w.events ++ awaited w (effect w d)
duty-keeps-events w d is =
    kept-stay w (effect_by (w.entries + 1) w d) is
    (λ x h. subst (λ xs. Has xs x) (sym (duty-watchers (w.entries + 1) w d)) h)

-- without watchers nothing is kept
pub unwatched-replay : (h : List Entry) → (replay h).watchers ≡ [] → (replay h).events ≡ []
unwatched-replay h none = unwatched (replay h) (watched-replay h) none
