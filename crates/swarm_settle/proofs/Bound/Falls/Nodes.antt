-- A session that ends, and a beat, make the measure smaller.
use Rattle.std.proofs.Common.{Bool, None, Option, Some, ap, arith, cond, eqb, false, refl, sym, true, ℕ, ◌+◌, ◌*◌, ◌∙◌, ◌≡◌, ◌≤◌}
use Rattle.std.proofs.lemmas.Bool.Decides.{nat_tests}
use Rattle.std.specs.Option.{option_map}
use Rattle.std.specs.Prelude.{nat_le, nat_lt, not, ◌&&◌}
use Rattle.swarm_settle.proofs.Bound.ComingFills.{by-number}
use Rattle.swarm_settle.proofs.Bound.ComingSteps.{coming-stays}
use Rattle.swarm_settle.proofs.Bound.Falls.Rows.{changed-key, has-changed}
use Rattle.swarm_settle.proofs.Bound.Sums.{changed-le, row-falls, sum-falls, sum-le, sum-same}
use Rattle.swarm_settle.specs.Bound.Coming.{coming, coming_by_mode, coming_of, coming_on, goes_back, places_lost}
use Rattle.swarm_settle.specs.Bound.Left.{is_cut_off, node_left, task_left}
use Rattle.swarm_settle.specs.Bound.Measure.{measure}
use Rattle.swarm_model.proofs.Base.IsDuty.{IsDuty}
use Rattle.swarm_objects.proofs.RowLemmas.{Has-from_row_at, row_at-map}
use Rattle.swarm_objects.specs.Changes.{with_tables}
use Rattle.swarm_objects.specs.Kinds.{bit}
use Rattle.swarm_objects.specs.Loops.Agents.{after_beat, beaten, is_beat_due}
use Rattle.swarm_objects.specs.Loops.Dispatcher.{after_expire, fallen, is_expired}
use Rattle.swarm_objects.specs.Nodes.Sessions.{is_before_deadline, is_session_live, session_of}
use Rattle.swarm_objects.specs.Nodes.Words.{is_ready}
use Rattle.swarm_objects.specs.Rows.{Has, has_row, is_some_and, node_id, session_node}
use Rattle.swarm_objects.specs.Tasks.Places.{held_places}
use Rattle.swarm_objects.specs.World.{Tables, World}
use Rattle.swarm_objects.specs.declared.duties.Duty.TheVariants as duty
use Rattle.swarm_objects.specs.declared.nodes.Node.{Node}
use Rattle.swarm_objects.specs.declared.services.Mode.TheVariants as mode
use Rattle.swarm_objects.specs.declared.services.Mode.{Mode}
use Rattle.swarm_objects.specs.declared.services.Service.{Service}
use Rattle.swarm_objects.specs.declared.sessions.NodeSession.{NodeSession}
use Rattle.swarm_objects.specs.declared.tasks.Task.{Task}

-- A node falls: nothing more is missing on it.

lost-fallen : (version : ℕ) (t : Tables) (id : ℕ) (s : Service) →
    places_lost (after_expire version t id) s ≡ places_lost t s
lost-fallen version t id s =
    sum-same (λ k. cond {A = ℕ} (not (has_row node_id k (after_expire version t id).nodes)) 1 0)
    (λ k. cond {A = ℕ} (not (has_row node_id k t.nodes)) 1 0) (held_places t s)
    (λ k h. ap (λ (b : Bool). cond {A = ℕ} (not b) 1 0)
    (has-changed node_id k id (fallen version t.clock) t.nodes (λ n. refl)))

mode-fallen : (version : ℕ) (t : Tables) (id : ℕ) (s : Service) (x : Mode) →
    coming_by_mode (after_expire version t id) s x ≤ coming_by_mode t s x
mode-fallen version t id s (mode.Replicated replicas) = omega arith
mode-fallen version t id s (mode.Job concurrent total) = omega arith
mode-fallen version t id s mode.Global =
    let u = after_expire version t id in
    let nodes = changed-le node_id id (coming_on u s) (coming_on t s) (fallen version t.clock) t.nodes
    (λ n h e. omega arith) (λ n h. omega arith) in
    omega (arith, nodes, ap (λ (n : ℕ). goes_back s * n) (lost-fallen version t id s))

pub falls-expire : (m version : ℕ) (w : World) (id : ℕ) → IsDuty w (duty.Expire id) →
    measure m (with_tables w (after_expire version w.tables id)) + 1 ≤ measure m w
falls-expire m version w id of =
    let t = w.tables in
    let u = after_expire version t id in
    let nodes = row-falls node_id id (node_left u) (node_left t) (fallen version t.clock) 1 t.nodes of.row of.there of.id_is
    (omega (arith, ap bit of.fact)) (λ n h e. omega arith) (λ n h. omega arith) in
    let come : coming m u ≤ coming m t =
    sum-le (coming_of m u) (coming_of m t) t.services (λ s h. omega (arith, mode-fallen version t id s s.spec.mode)) in
    omega (arith, nodes, come)

-- A beat: the session stays live, and isn't due again.

session-beaten : (t : Tables) (node k : ℕ) →
    session_of (after_beat t node) k
    ≡ option_map (λ (s : NodeSession). cond (eqb s.node node) (beaten t s) s) (session_of t k)
session-beaten t node k =
    row_at-map session_node k (λ (s : NodeSession). cond (eqb s.node node) (beaten t s) s) t.sessions
    (changed-key session_node node (beaten t) (λ s. refl))

beat-live : (t : Tables) (node k : ℕ) → 1 ≤ t.settings.heartbeat → is_session_live t node ≡ true →
    is_session_live (after_beat t node) k ≡ is_session_live t k
beat-live t node k some live =
    ap (is_before_deadline t.clock) (session-beaten t node k)
    ∙ go (session_of t k) refl
  where
    later : nat_lt t.clock (t.clock + 3 * t.settings.heartbeat) ≡ true
    later = grind (arith, nat_tests, some)

    go : (o : Option NodeSession) → session_of t k ≡ o →
        is_before_deadline t.clock (option_map (λ (s : NodeSession). cond (eqb s.node node) (beaten t s) s) o)
        ≡ is_before_deadline t.clock o
    go None e = refl
    go (Some s) e = by-node (eqb s.node node) refl
      where
        by-node : (b : Bool) → eqb s.node node ≡ b →
            is_before_deadline t.clock (Some (cond b (beaten t s) s)) ≡ is_before_deadline t.clock (Some s)
        by-node false n = refl
        by-node true n =
            let at : s.node ≡ k = (Has-from_row_at session_node k t.sessions s e).1 in
            let is : k ≡ node = grind (arith, nat_tests, n, at) in
            later ∙ sym (sym (ap (is_before_deadline t.clock) e) ∙ ap (is_session_live t) is ∙ live)

beat-none : (t : Tables) (node : ℕ) → 1 ≤ t.settings.heartbeat →
    is_some_and (is_beat_due t) (session_of (after_beat t node) node) ≡ false
beat-none t node some = ap (is_some_and (is_beat_due t)) (session-beaten t node node) ∙ go (session_of t node) refl
  where
    no : nat_le (t.clock + t.settings.heartbeat) t.clock ≡ false
    no = grind (arith, nat_tests, some)

    go : (o : Option NodeSession) → session_of t node ≡ o →
        is_some_and (is_beat_due t) (option_map (λ (s : NodeSession). cond (eqb s.node node) (beaten t s) s) o) ≡ false
    go None e = refl
    go (Some s) e = by-node (eqb s.node node) refl
      where
        by-node : (b : Bool) → eqb s.node node ≡ b → is_beat_due t (cond b (beaten t s) s) ≡ false
        by-node true n = no
        by-node false n =
            let at : s.node ≡ node = (Has-from_row_at session_node node t.sessions s e).1 in
            absurd (let yes : eqb s.node node ≡ true = grind (arith, nat_tests, at) in
            let wrong : false ≡ true = sym n ∙ yes in cc)

-- the beat of another node's session
beat-other : (t : Tables) (node k : ℕ) → ¬ (k ≡ node) →
    is_some_and (is_beat_due t) (session_of (after_beat t node) k) ≡ is_some_and (is_beat_due t) (session_of t k)
beat-other t node k off = ap (is_some_and (is_beat_due t)) (session-beaten t node k) ∙ go (session_of t k) refl
  where
    go : (o : Option NodeSession) → session_of t k ≡ o →
        is_some_and (is_beat_due t) (option_map (λ (s : NodeSession). cond (eqb s.node node) (beaten t s) s) o)
        ≡ is_some_and (is_beat_due t) o
    go None e = refl
    go (Some s) e = by-node (eqb s.node node) refl
      where
        by-node : (b : Bool) → eqb s.node node ≡ b → is_beat_due t (cond b (beaten t s) s) ≡ is_beat_due t s
        by-node false n = refl
        by-node true n =
            let at : s.node ≡ k = (Has-from_row_at session_node k t.sessions s e).1 in
            absurd (off (grind (arith, nat_tests, n, at)))

cut-same : (t u : Tables) (x : Task) → ((k : ℕ) → is_session_live u k ≡ is_session_live t k) →
    is_cut_off u x ≡ is_cut_off t x
cut-same t u x live = go x.node
  where
    go : (o : Option ℕ) → is_some_and (λ n. not (is_session_live u n)) o ≡ is_some_and (λ n. not (is_session_live t n)) o
    go None = refl
    go (Some n) = ap not (live n)

pub falls-beat : (m : ℕ) (w : World) (node : ℕ) (r : Node) → 1 ≤ w.tables.settings.heartbeat →
    Has w.tables.nodes r → r.id ≡ node → IsDuty w (duty.Beat node) →
    measure m (with_tables w (after_beat w.tables node)) + 1 ≤ measure m w
falls-beat m w node r some there is of =
    let t = w.tables in
    let u = after_beat t node in
    let v = with_tables w u in
    let live_there : is_session_live t node ≡ true = ap (is_session_live t) (sym of.id_is) ∙ of.fact.1.0 in
    let due : is_some_and (is_beat_due t) (session_of t node) ≡ true =
    ap (λ (k : ℕ). is_some_and (is_beat_due t) (session_of t k)) (sym of.id_is) ∙ of.fact.1.1 in
    let live : (k : ℕ) → is_session_live u k ≡ is_session_live t k = λ k. beat-live t node k some live_there in
    let ready : (n : Node) → bit (is_expired u n) ≡ bit (is_expired t n) =
    λ n. ap (λ (b : Bool). bit (is_ready n.state && not b)) (live n.id) in
    let closed : (n : Node) → bit (not (is_session_live u n.id)) ≡ bit (not (is_session_live t n.id)) =
    λ n. ap (λ (b : Bool). bit (not b)) (live n.id) in
    let here : (n : Node) → n.id ≡ node → node_left u n + 1 ≤ node_left t n =
    λ n e. omega (
      arith,
      ready n,
      closed n,
      ap (λ (k : ℕ). bit (is_session_live u k && is_some_and (is_beat_due u) (session_of u k))) e,
      ap (λ (b : Bool). bit (is_session_live u node && b)) (beat-none t node some),
      none-of (is_session_live u node),
      ap (λ (k : ℕ). bit (is_session_live t k && is_some_and (is_beat_due t) (session_of t k))) e,
      ap (λ (b : Bool). bit (b && is_some_and (is_beat_due t) (session_of t node))) live_there,
      ap bit due,
    ) in
    let other : (n : Node) → ¬ (n.id ≡ node) → node_left u n ≤ node_left t n =
    λ n off. omega (
      arith,
      ready n,
      closed n,
      ap (λ (b : Bool). bit (b && is_some_and (is_beat_due u) (session_of u n.id))) (live n.id),
      ap (λ (b : Bool). bit (is_session_live t n.id && b)) (beat-other t node n.id off),
    ) in
    let nodes = sum-falls (node_left u) (node_left t) 1 t.nodes r there (here r is)
    (λ n h. by-number n.id node (λ e. omega (arith, here n e)) (other n)) in
    let come : coming m u ≤ coming m t =
    sum-le (coming_of m u) (coming_of m t) t.services
    (λ s h. coming-stays m t u s (record { nodes = refl; live = live }) (record { held = λ k. refl }) (λ k e. e)) in
    let tasks = sum-le (task_left v) (task_left w) t.tasks (λ x h. omega (arith, ap bit (cut-same t u x live))) in
    omega (arith, nodes, come, tasks)
  where
    none-of : (b : Bool) → bit (b && false) ≡ 0
    none-of true = refl
    none-of false = refl
