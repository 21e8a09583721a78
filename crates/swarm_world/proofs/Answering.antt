-- Calls as entries.
use Rattle.std.proofs.Common.{◌≡◌, ◌+◌, ℕ, List, [], ◌∷◌, Ok, Err, Result, arith, ap, refl, subst, sym, ◌∙◌, length, true, false, cond, inl, inr, append-nil}
use Rattle.std.specs.Prelude.{Bool, map, nat_lt, not}
use Rattle.swarm_model.proofs.Base.Answers.{given-is}
use Rattle.swarm_model.proofs.Watching.Changes.{changes-none}
use Rattle.swarm_model.proofs.Watching.Watchers.{answer-watchers, is_on_watchers}
use Rattle.swarm_model.specs.Calls.Views.{shows}
use Rattle.swarm_model.specs.Calls.{answer, answered, entered, halted, ticked, viewed}
use Rattle.swarm_objects.specs.Refusals.{refuse, unless}
use Rattle.swarm_model.specs.Changed.{changes_between}
use Rattle.swarm_model.specs.History.{replay, step}
use Rattle.swarm_model.specs.Outcome.{Outcome}
use Rattle.swarm_model.specs.Calls.Watches.{waiting_events}
use Rattle.swarm_objects.specs.Limits.{is_tick, most_events}
use Rattle.swarm_objects.specs.World.{Tables, World}
use Rattle.swarm_objects.specs.declared.calls.Call.{Call}
use Rattle.swarm_objects.specs.declared.calls.Call.TheVariants as call
use Rattle.swarm_objects.specs.declared.calls.Entry.{Entry}
use Rattle.swarm_objects.specs.declared.calls.Query.{Query}
use Rattle.swarm_objects.specs.declared.calls.What.TheVariants as what
use Rattle.swarm_objects.specs.declared.names.NoMemory.{NoMemory}
use Rattle.swarm_objects.specs.declared.replies.Refusal.{Refusal}
use Rattle.swarm_objects.specs.declared.replies.Refusal.TheVariants as refusal
use Rattle.swarm_objects.specs.declared.replies.Reply.{Reply}
use Rattle.swarm_objects.specs.declared.replies.Reply.TheVariants as reply
use Rattle.swarm_objects.specs.declared.replies.ViewReply.{ViewReply}
use Rattle.swarm_objects.specs.declared.watches.Event.{Event}
use Rattle.swarm_objects.specs.declared.watches.Watcher.{Watcher}
use Rattle.swarm_store.specs.Stored.{Shows}
use Rattle.swarm_watch.specs.Worlds.{NotesLaw, StandsFor as Watch, watching_in}
use Rattle.swarm_watch.specs.Calls.{hears}
use Rattle.swarm_watch.specs.Watchings.{Few, Many, Waiting, Watching, Watchings, waiting_of, waits_more}
use Rattle.swarm_world.specs.Inside.Records.{HasRecords}
use Rattle.swarm_world.proofs.Entering.{number-is}
use Rattle.swarm_world.specs.Inside.Parts.{Answers, HasParts, IsAnswered, IsAt, Replies, StandsFor, Tells, is_watch_call}
use Rattle.swarm_world.specs.declared.parts.Parts.{Parts}

-- An answered call as an entry.

-- the parts of a world are those of the world once it is counted
pub entered-parts : (p : Parts) (w v : World) → HasParts p v → HasParts p (entered w v)
entered-parts p w v has = record {
  records = record { store = has.records.store; sessions = has.records.sessions };
  sent = has.sent;
  agents = has.agents;
  halted = has.halted;
}

pub counted-parts : (p : Parts) (w : World) (n : ℕ) → HasParts p w → HasParts p (record w { entries = n })
counted-parts p w n has = record {
  records = record { store = has.records.store; sessions = has.records.sessions };
  sent = has.sent;
  agents = has.agents;
  halted = has.halted;
}

pub no_watch : (c : Call) → is_watch_call c ≡ false → is_on_watchers c ≡ false
no_watch (call.Txn ops) e = refl
no_watch (call.View asked) e = refl
no_watch (call.WatchBegin f) e = absurd cc
no_watch (call.WatchPoll id) e = absurd cc
no_watch (call.WatchFinish id) e = absurd cc
no_watch (call.Tick ms) e = refl
no_watch (call.Settle budget) e = refl
no_watch (call.NodeFail name) e = refl
no_watch (call.NodeStart name) e = refl
no_watch (call.AgentStop name) e = refl
no_watch (call.AgentStart name) e = refl
no_watch (call.RemoteBegin name cpu mem) e = refl
no_watch (call.RemoteBeat name session) e = refl
no_watch (call.RemotePull name session) e = refl
no_watch (call.RemoteStatus name session task s) e = refl
no_watch call.Halt e = refl

pub entered_call : (notes : NotesLaw) (version : ℕ) (h : List Entry) (c : Call) (before after : Parts) (r : Reply) →
    IsAt version before h → is_watch_call c ≡ false → IsAnswered version h c before r after →
    (r ≡ (step (replay h) (what.Call c)).reply) × StandsFor after (step (replay h) (what.Call c)).after
entered_call notes version h c before after r is other done =
    let w = replay h in
    let number = number-is version before h is in
    let given : answer (w.entries + 1) w c ≡ Ok (r, done.world) =
    ap (λ k. answer k w c) (sym number) ∙ done.answer_is in
    let same : done.world.watchers ≡ w.watchers =
    given-is (λ (d : Reply × World). d.1.watchers ≡ w.watchers) (answer (w.entries + 1) w c) (r, done.world)
    (answer-watchers (w.entries + 1) w c (no_watch c other)) given in
    let outcome : step w (what.Call c) ≡ record { reply = r; after = entered w done.world } = ap (answered w) given in
    let after_is : (step w (what.Call c)).after ≡ entered w done.world = ap (λ (o : Outcome). o.after) outcome in (
      sym (ap (λ (o : Outcome). o.reply) outcome),
      record {
        has = subst (HasParts after) (sym after_is) (entered-parts after w done.world done.has);
        watches =
            notes h (what.Call c) before.watches after.watches is.stands.watches
            (ap (λ (x : World). x.watchers) after_is ∙ same)
            (done.heard
            ∙ ap (λ k. map (hears (changes_between k w.tables done.world.tables)) before.watches.watchers) number
            ∙ ap (λ (x : World). map (hears (changes_between (w.entries + 1) w.tables x.tables)) before.watches.watchers)
            (sym after_is));
      },
    )

-- a refused call
pub entered_refused : (version : ℕ) (h : List Entry) (c : Call) (before after : Parts) (r : Refusal) →
    IsAt version before h → answer version (replay h) c ≡ Err r → StandsFor after (replay h) →
    (reply.Refused r ≡ (step (replay h) (what.Call c)).reply) × StandsFor after (step (replay h) (what.Call c)).after
entered_refused version h c before after r is refused stands =
    let w = replay h in
    let given : answer (w.entries + 1) w c ≡ Err r =
    ap (λ k. answer k w c) (sym (number-is version before h is)) ∙ refused in
    let outcome = ap (answered w) given in
    let after_is : (step w (what.Call c)).after ≡ record w { entries = w.entries + 1 } =
    ap (λ (o : Outcome). o.after) outcome in (
      sym (ap (λ (o : Outcome). o.reply) outcome),
      subst (StandsFor after) (sym after_is)
          (record { has = counted-parts after w (w.entries + 1) stands.has; watches = stands.watches }),
    )

-- Calls that change no row.

-- what waits for a watcher stays, where nothing comes to it
waits-same : (es : List Event) → waits_more (waiting_of es) [] ≡ waiting_of es
waits-same es = go (nat_lt most_events (length es)) refl
  where
    none : length es + 0 ≡ length es
    none = omega arith

    go : (b : Bool) → nat_lt most_events (length es) ≡ b →
        waits_more (cond b (Many (length es)) (Few es)) [] ≡ cond b (Many (length es)) (Few es)
    go true p = ap Many none
    go false p =
        ap waiting_of (append-nil es) ∙ ap (λ (b : Bool). cond b (Many (length es)) (Few es)) p

none-heard : (w : World) (xs : List Watcher) → map (hears []) (map (watching_in w) xs) ≡ map (watching_in w) xs
none-heard w [] = refl
none-heard w (x ∷ xs) =
    ap (λ (k : Waiting). record (watching_in w x) { waiting = k } ∷ map (hears []) (map (watching_in w) xs))
    (waits-same (waiting_events w x))
    ∙ ap (λ (ys : List Watching). watching_in w x ∷ ys) (none-heard w xs)

pub unheard : (events : List Event) (w : World) (m : Watchings) → Watch m w → events ≡ [] →
    m.watchers ≡ map (hears events) m.watchers
unheard events w m stands none =
    stands ∙ sym (none-heard w w.watchers) ∙ ap (λ (xs : List Watching). map (hears []) xs) (sym stands)
    ∙ ap (λ (es : List Event). map (hears es) m.watchers) (sym none)

pub viewing : (version : ℕ) (h : List Entry) (asked : Query) (p : Parts) (v : ViewReply) → StandsFor p (replay h) →
    shows (replay h).tables asked ≡ Ok v → IsAnswered version h (call.View asked) p (reply.View v) p
viewing version h asked p v stands shown = record {
  world = replay h;
  answer_is = ap (viewed (replay h)) shown;
  has = stands.has;
  heard =
      unheard (changes_between version (replay h).tables (replay h).tables) (replay h) p.watches stands.watches
      (changes-none version (replay h).tables);
}

pub not_viewing : (version : ℕ) (h : List Entry) (asked : Query) (p : Parts) (r : Refusal) → StandsFor p (replay h) →
    Shows asked (replay h) (Err r) → Answers version h (call.View asked) p (Err r) p
not_viewing version h asked p r stands (inl wanting) = (inl wanting, stands)
not_viewing version h asked p r stands (inr refused) = (inr (ap (viewed (replay h)) refused), stands)

-- Halt.

pub halting : (notes : NotesLaw) (h : List Entry) (p q : Parts) → StandsFor p (replay h) → q.records ≡ p.records → q.watches ≡ p.watches →
    q.sent ≡ p.sent → q.agents ≡ p.agents → q.halted ≡ true →
    StandsFor q (step (replay h) (what.Call call.Halt)).after
halting notes h p q stands records watches sent agents halts =
    let w = replay h in
    let kept = subst (λ r. HasRecords r w) (sym records) stands.has.records in
    record {
      has = record {
        records = record { store = kept.store; sessions = kept.sessions };
        sent = sent ∙ stands.has.sent;
        agents = agents ∙ stands.has.agents;
        halted = halts;
      };
      watches =
          notes h (what.Call call.Halt) p.watches q.watches stands.watches refl
          (ap (λ (m : Watchings). m.watchers) watches
          ∙ unheard (changes_between (w.entries + 1) w.tables w.tables) w p.watches stands.watches
          (changes-none (w.entries + 1) w.tables));
    }

-- A refusal, whether it becomes an entry or memory was wanting.

pub told_so : (version : ℕ) (h : List Entry) (c : Call) (before after : Parts) (r : Refusal)
    (result : Result Reply NoMemory) → IsAt version before h → Answers version h c before (Err r) after →
    Tells r result → Replies h (what.Call c) result after
told_so version h c before after r (Ok said) is (inl e, stands) (inl tells) = absurd tells.1
told_so version h c before after r (Ok said) is (inr e, stands) (inl tells) = absurd tells.1
told_so version h c before after r (Err x) is (e, stands) (inl tells) = stands
told_so version h c before after r result is (inl e, stands) (inr tells) = absurd (tells.0 e)
told_so version h c before after r result is (inr e, stands) (inr tells) =
    subst (λ (x : Result Reply NoMemory). Replies h (what.Call c) x after) (sym tells.1)
    (entered_refused version h c before after r is e stands)

-- Tick.

pub ticking : (version : ℕ) (h : List Entry) (ms : ℕ) (p q : Parts) → StandsFor p (replay h) → is_tick ms ≡ true →
    q.records.store.tables ≡ record p.records.store.tables { clock = p.records.store.tables.clock + ms } →
    q.records.sessions ≡ p.records.sessions → q.watches ≡ p.watches → q.sent ≡ p.sent → q.agents ≡ p.agents →
    q.halted ≡ p.halted → IsAnswered version h (call.Tick ms) p reply.Ticked q
ticking version h ms p q stands good store sessions watches sent agents halted =
    let w = replay h in
    let has = stands.has in
    record {
      world = ticked w ms;
      answer_is = ap (λ (b : Bool). unless (refuse (not b) (refusal.BadTick ms)) (reply.Ticked, ticked w ms)) good;
      has = record {
        records = record {
          store = store ∙ ap (λ (t : Tables). record t { clock = t.clock + ms }) has.records.store;
          sessions = ap (λ s. s.rows) sessions ∙ has.records.sessions;
        };
        sent = sent ∙ has.sent;
        agents = agents ∙ has.agents;
        halted = halted ∙ has.halted;
      };
      heard =
          ap (λ (m : Watchings). m.watchers) watches
          ∙ unheard (changes_between version w.tables w.tables) w p.watches stands.watches (changes-none version w.tables);
    }
