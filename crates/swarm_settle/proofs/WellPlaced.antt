-- Where all is settled, a place has at most one live task; it is clean, has not ended, and stands on a good node.
use Rattle.std.proofs.Common.{List, Option, Some, ap, false, inl, not, refl, subst, sym, true, ℕ, ◌∙◌, ◌≡◌}
use Rattle.std.specs.Prelude.{⊤, ◌&&◌, ◌||◌}
use Rattle.swarm_settle.proofs.CleanTasks.{live-clean, one-live}
use Rattle.swarm_settle.proofs.Ended.{may-stay, never-ended, no-restart}
use Rattle.swarm_settle.proofs.GlobalPlaces.{known-valid}
use Rattle.swarm_settle.proofs.Known.{Known, known-replay}
use Rattle.swarm_settle.proofs.KnownCalls.{known-nodes-replay}
use Rattle.swarm_settle.proofs.KnownNodes.{KnownNodes}
use Rattle.swarm_settle.proofs.Lawful.{Lawful, lawful-replay}
use Rattle.swarm_settle.proofs.NothingElse.{LivesIn, live-in}
use Rattle.swarm_settle.proofs.PlaceLists.{counts-of, place-counts}
use Rattle.swarm_settle.proofs.Rest.{no-duty}
use Rattle.swarm_settle.proofs.Settled.{no-run, settled-rests}
use Rattle.swarm_settle.proofs.ShapeDuties.{found}
use Rattle.swarm_settle.proofs.Shapes.{Closings, shape}
use Rattle.swarm_settle.specs.Laws.{AreAlone, OneLiveLaw, UpdatesLaw, is_good_for}
use Rattle.swarm_settle.specs.Rest.{IsAtRest, IsSettled}
use Rattle.swarm_model.proofs.Moves.Rows.{between-one}
use Rattle.swarm_model.specs.Closing.{closing}
use Rattle.swarm_model.specs.History.{replay}
use Rattle.swarm_model.specs.Laws.Matches.{live_tasks}
use Rattle.swarm_objects.proofs.RowLemmas.{Has-filter_cases}
use Rattle.swarm_objects.proofs.SameLemmas.{Decides-same_template}
use Rattle.swarm_objects.proofs.Tests.{both, first_so, neither_right, never-both, not_from_false, second_so, some-and, true_from_ne_false}
use Rattle.swarm_objects.specs.Loops.Enforcer.{breaks_constraints}
use Rattle.swarm_objects.specs.Loops.Global.{may_stay}
use Rattle.swarm_objects.specs.Loops.Restart.{is_current, is_over}
use Rattle.swarm_objects.specs.Nodes.Words.{is_astray, is_drain, is_invalid, is_node_and, is_ready, is_valid, is_valid_node, meets_all}
use Rattle.swarm_objects.specs.Rows.{Has, is_row_and, is_some_and, node_id, row_at, service_id}
use Rattle.swarm_objects.specs.Services.Words.{is_clean}
use Rattle.swarm_objects.specs.Tasks.Places.{counts_for, is_in_place, place_at, place_tasks}
use Rattle.swarm_objects.specs.Tasks.Words.{has_ended, is_live, is_placed}
use Rattle.swarm_objects.specs.World.{World}
use Rattle.swarm_objects.specs.declared.duties.Duty.TheVariants as duty
use Rattle.swarm_objects.specs.declared.nodes.Node.{Node}
use Rattle.swarm_objects.specs.declared.services.Service.{Service}
use Rattle.swarm_objects.specs.declared.tasks.Place.TheVariants.{On, Slot}
use Rattle.swarm_objects.specs.declared.tasks.Place.{Place}
use Rattle.swarm_objects.specs.declared.tasks.Task.{Task}
use Rattle.swarm_objects.specs.declared.templates.Template.{Template}

-- the node is found by its number
pub node-found : (w : World) → Known w → (n : Node) → Has w.tables.nodes n →
    row_at node_id n.id w.tables.nodes ≡ Some n
node-found w known n h =
    found node_id w.tables.next_id n.id w.tables.nodes (λ m. ⊤) known.orderly.nodes
    (record { row = n; there = h; id_is = refl; fact = tt })

-- a live task that has a node has a valid one
pub valid-node : (w : World) → Known w → IsAtRest w → (x : Task) (s : Service) (n : Node) → Has w.tables.tasks x →
    is_live x ≡ true → LivesIn w x s → Has w.tables.nodes n → x.node ≡ Some n.id → is_valid_node n ≡ true
valid-node w known rest x s n h live lives there at = go x.place refl
  where
    current : is_current w.tables x ≡ true
    current = some-and (λ v. counts_for v x) (row_at service_id x.service w.tables.services) s lives.found lives.counts

    go : (p : Place) → x.place ≡ p → is_valid_node n ≡ true
    go (Slot k) e =
        let over : (has_ended x || is_astray w.tables x) ≡ false =
        ap (λ (p : Place). is_over w.tables x p) (sym e) ∙ no-restart w rest x h live current in
        let straight : is_astray w.tables x ≡ false = neither_right (has_ended x) (is_astray w.tables x) over in
        let valid : not (is_valid w.tables n.id) ≡ false =
        ap (λ (o : Option ℕ). is_some_and (is_invalid w.tables) o) (sym at) ∙ straight in
        let here : is_row_and node_id is_valid_node w.tables.nodes n.id ≡ true =
        true_from_ne_false (is_valid w.tables n.id) (λ off. never-both (not (is_valid w.tables n.id)) valid
        (not_from_false (is_valid w.tables n.id) off)) in
        ap (λ (o : Option Node). is_some_and is_valid_node o) (sym (node-found w known n there)) ∙ here
    go (On k) e =
        let held : Some n.id ≡ Some k = sym at ∙ (known.home x h).bound k e in
        let same : n.id ≡ k = cc in
        let stays = may-stay w known rest x s k h lives e in
        let stays_here : is_some_and (may_stay s) (row_at node_id n.id w.tables.nodes) ≡ true =
        subst (λ (j : ℕ). is_some_and (may_stay s) (row_at node_id j w.tables.nodes) ≡ true) (sym same) stays in
        first_so (is_valid_node n) _
        (ap (λ (o : Option Node). is_some_and (may_stay s) o) (sym (node-found w known n there)) ∙ stays_here)

-- and one that meets its constraints
meets-own : (w : World) → Known w → IsAtRest w → (x : Task) (n : Node) → Has w.tables.tasks x → is_live x ≡ true →
    is_placed x ≡ true → Has w.tables.nodes n → x.node ≡ Some n.id → meets_all x.template.constraints n ≡ true
meets-own w known rest x n h live placed there at =
    true_from_ne_false (meets_all x.template.constraints n)
    (λ off.
    no-duty w rest (duty.Reject x.id)
    (record {
      row = x;
      there = h;
      id_is = refl;
      fact = both (is_live x && is_placed x) (is_node_and w.tables (breaks_constraints x) x)
          (both (is_live x) (is_placed x) live placed)
          (some-and (is_row_and node_id (breaks_constraints x) w.tables.nodes) x.node n.id at
          (some-and (breaks_constraints x) (row_at node_id n.id w.tables.nodes) n (node-found w known n there)
          (not_from_false (meets_all x.template.constraints n) off)));
    }))

good-node : (w : World) → Known w → KnownNodes w.tables → IsAtRest w → (x : Task) (s : Service) → Has w.tables.tasks x →
    is_live x ≡ true → is_clean s x ≡ true → LivesIn w x s → is_placed x ≡ true →
    is_node_and w.tables (is_good_for s) x ≡ true
good-node w known nodes rest x s h live clean lives placed =
    let at = (known.home x h).placed placed in
    let n = at.0 in
    let valid = valid-node w known rest x s n h live lives at.1 at.2 in
    let ready = known-valid n ((nodes x n.id h at.2).known n at.1 refl) valid in
    let template = (Decides-same_template x.template s.spec.template).0 (first_so _ _ clean) in
    let meets : meets_all s.spec.template.constraints n ≡ true =
    ap (λ (t : Template). meets_all t.constraints n) (sym template)
    ∙ meets-own w known rest x n h live placed at.1 at.2 in
    some-and (is_row_and node_id (is_good_for s) w.tables.nodes) x.node n.id at.2
    (some-and (is_good_for s) (row_at node_id n.id w.tables.nodes) n (node-found w known n at.1)
    (both (is_ready n.state && not (is_drain n.availability)) _
    (both (is_ready n.state) (not (is_drain n.availability)) ready (second_so _ _ valid)) meets))

pub are-alone : (w : World) (c : Closings) → Known w → KnownNodes w.tables →
    Lawful w.entries w.entries c (shape w.tables) → IsSettled w → AreAlone w
are-alone w c known nodes lawful is s k h some =
    let one = one-live w c s k known lawful is h some in
    let x = one.0 in
    let there : Has (live_tasks w.tables s k) x =
    subst (λ (xs : List Task). Has xs x) (sym one.1) (inl refl) in
    let member = Has-filter_cases is_live (place_tasks w.tables s k) x there in
    let inside = Has-filter_cases (is_in_place s (place_at s.spec.mode k)) w.tables.tasks x member.0 in
    let counts = place-counts s (place_at s.spec.mode k) x inside.1 in
    let clean = live-clean w c s x known lawful is h inside.0 member.1 counts in
    let rest = settled-rests w is in
    let lives = live-in w x known rest inside.0 member.1 in
    let same =
    between-one service_id 1 w.tables.next_id w.tables.services lives.0 s known.orderly.services lives.1.there h
    (sym lives.1.of ∙ counts-of s x counts) in (
      x,
      one.1,
      record {
        clean = clean;
        ended = never-ended w known rest x inside.0 member.1;
        node = good-node w known nodes rest x s inside.0 member.1 clean
            (subst (λ (v : Service). LivesIn w x v) same lives.1);
      },
    )

-- each live task stands alone and well in its place
pub one-live-task : OneLiveLaw
one-live-task h legal is =
    are-alone (replay h) (closing h) (known-replay h legal) (known-nodes-replay h legal) (lawful-replay h legal) is

-- no update is under way
pub no-updates : UpdatesLaw
no-updates h legal is s run there no_job e = no-run (replay h) s run (known-replay h legal) is there no_job e
