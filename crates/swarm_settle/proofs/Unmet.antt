-- A live task below ASSIGNED says in its note why it is so.
use Rattle.std.proofs.Common.{Bool, List, None, Option, Some, [], ap, arith, cond, false, inl, inr, not, refl, subst, sym, true, ℕ, ◌<◌, ◌∙◌, ◌∷◌, ◌≡◌, ◌≤◌}
use Rattle.std.proofs.lemmas.Bool.Decides.{nat_tests}
use Rattle.std.specs.List.{list_all, list_any}
use Rattle.std.specs.Prelude.{find, is_none, is_some, ◌&&◌, ◌||◌}
use Rattle.swarm_settle.proofs.Known.{Known, known-replay}
use Rattle.swarm_settle.proofs.NothingElse.{LivesIn, live-in}
use Rattle.swarm_settle.proofs.Rest.{least-none, no-duty}
use Rattle.swarm_settle.specs.Laws.{SayWhy, UnmetLaw}
use Rattle.swarm_settle.specs.Rest.{IsAtRest}
use Rattle.swarm_model.proofs.Laws.OneEach.{none-any}
use Rattle.swarm_model.specs.History.{replay}
use Rattle.swarm_model.specs.Laws.Matches.{is_open_of, is_unplaceable, is_unprovided, says_exhausted}
use Rattle.swarm_objects.proofs.Empty.{filter_empty}
use Rattle.swarm_objects.proofs.Tests.{both, false_from_ne_true, has-any, not_from_false, or_left, or_right, some-and, true_from_ne_false}
use Rattle.swarm_objects.specs.Loops.Allocator.{exhausted, exhausted_for, exhausted_network, exhausted_port, first_note, has_free_address, has_free_port, has_numbered_ports, is_fresh, same_note}
use Rattle.swarm_objects.specs.Loops.Scheduler.{is_to_place}
use Rattle.swarm_objects.specs.Nodes.BestNode.{best_node, node_cmp}
use Rattle.swarm_objects.specs.Nodes.Filters.{admits, admitting_nodes, refusal_counts, tested_nodes}
use Rattle.swarm_objects.specs.Rows.{Has, on_row, row_at, service_id}
use Rattle.swarm_objects.specs.Same.{same_bool, same_number}
use Rattle.swarm_objects.specs.Services.Ports.{free_port, is_unnumbered, unnumbered_ports}
use Rattle.swarm_objects.specs.Services.Words.{has_service, is_service_and}
use Rattle.swarm_objects.specs.Tasks.Addresses.{free_address}
use Rattle.swarm_objects.specs.Tasks.Words.{is_live, is_new, is_pending, is_wanted}
use Rattle.swarm_objects.specs.Values.Ranks.{desired_rank, rank}
use Rattle.swarm_objects.specs.World.{World}
use Rattle.swarm_objects.specs.declared.duties.Duty.TheVariants as duty
use Rattle.swarm_objects.specs.declared.nodes.Node.{Node}
use Rattle.swarm_objects.specs.declared.services.Service.{Service}
use Rattle.swarm_objects.specs.declared.tasks.Note.TheVariants as note
use Rattle.swarm_objects.specs.declared.tasks.Note.{Note}
use Rattle.swarm_objects.specs.declared.tasks.Task.{Task}
use Rattle.swarm_objects.specs.declared.tasks.TaskState.TheVariants as state
use Rattle.swarm_objects.specs.declared.tasks.TaskState.{TaskState}
use Rattle.swarm_objects.specs.declared.templates.Port.{Port}

pub live-wanted : (w : World) (x : Task) → Known w → Has w.tables.tasks x → is_live x ≡ true → is_wanted x ≡ true
live-wanted w x known h live =
    let goal = (known.orderly.good x h).goal in
    let least : desired_rank x.desired ≤ desired_rank x.goal = grind (arith, nat_tests, live) in
    grind (arith, nat_tests, least, goal)

some-is : {X : Type 0} (x y : X) → Some x ≡ Some y → x ≡ y
some-is x y e = cc

-- PENDING.

pub unplaceable : (w : World) (x : Task) → Known w → IsAtRest w → Has w.tables.tasks x → is_live x ≡ true →
    is_pending x.state ≡ true → is_unplaceable w.tables x ≡ true
unplaceable w x known rest h live pending = go (best_node w.tables x) refl
  where
    to : is_to_place x ≡ true
    to = both (is_pending x.state) (is_wanted x) pending (live-wanted w x known h live)

    go : (o : Option Node) → best_node w.tables x ≡ o → is_unplaceable w.tables x ≡ true
    go (Some m) e =
        absurd (no-duty w rest (duty.Place x.id m.id)
        (record { row = x; there = h; id_is = refl; fact = (to, m, e, refl) }))
    go None e =
        let none : admitting_nodes w.tables x ≡ [] =
        least-none (node_cmp w.tables x) (admitting_nodes w.tables x) e in
        let admitted : list_any (admits w.tables x) (tested_nodes w.tables x) ≡ false =
        none-any (admits w.tables x) (tested_nodes w.tables x)
        (λ n there. filter_empty (admits w.tables x) (tested_nodes w.tables x) n none there) in
        let said : same_note (note.Filters (refusal_counts w.tables x)) x.note ≡ true =
        true_from_ne_false (same_note (note.Filters (refusal_counts w.tables x)) x.note)
        (λ other.
        no-duty w rest (duty.Explain x.id)
        (record { row = x; there = h; id_is = refl; fact = (to, e, other) })) in
        both (is_pending x.state && not (list_any (admits w.tables x) (tested_nodes w.tables x))) _
        (both (is_pending x.state) (not (list_any (admits w.tables x) (tested_nodes w.tables x))) pending
        (not_from_false (list_any (admits w.tables x) (tested_nodes w.tables x)) admitted)) said

-- NEW.

no-free : (w : World) → IsAtRest w → (s : Service) → Has w.tables.services s → (p : Port) → Has (unnumbered_ports s) p →
    has_free_port w.tables p.udp ≡ false
no-free w rest s h p there =
    false_from_ne_true (has_free_port w.tables p.udp)
    (λ free.
    no-duty w rest (duty.Port s.id p.target p.udp)
    (record { row = s; there = h; id_is = refl; fact = (p, there, free, refl, refl) }))

none-is : {X : Type 0} (o : Option X) → is_some o ≡ false → is_none o ≡ true
none-is None e = refl
none-is (Some x) e = absurd cc

-- the note names an open port
port-said : (w : World) (x : Task) (s : Service) (p : Port) (n : Note) → Has (unnumbered_ports s) p →
    has_free_port w.tables p.udp ≡ false → same_note (note.NoPort p.udp) n ≡ true →
    says_exhausted w.tables s x n ≡ true
port-said w x s p (note.NoPort b) there none said =
    let same : p.udp ≡ b = decided p.udp b said in
    let named : is_open_of s b ≡ true = has-any (λ (q : Port). same_bool q.udp b) (unnumbered_ports s) p there said in
    both (is_open_of s b) (is_none (free_port w.tables b)) named
    (none-is (free_port w.tables b) (subst (λ (u : Bool). has_free_port w.tables u ≡ false) same none))
  where
    decided : (a b : Bool) → same_bool a b ≡ true → a ≡ b
    decided true b e = sym e
    decided false true e = absurd cc
    decided false false e = refl
port-said w x s p note.Empty there none said = absurd cc
port-said w x s p (note.Filters c) there none said = absurd cc
port-said w x s p (note.NoAddress k) there none said = absurd cc

network-said : (w : World) (x : Task) (s : Service) (k : ℕ) (n : Note) → Has x.template.networks k →
    has_free_address w.tables k ≡ false → same_note (note.NoAddress k) n ≡ true →
    says_exhausted w.tables s x n ≡ true
network-said w x s k (note.NoAddress m) there none said =
    let same : k ≡ m = grind (arith, nat_tests, said) in
    let named : list_any (same_number m) x.template.networks ≡ true =
    has-any (same_number m) x.template.networks k there (grind (arith, nat_tests, same)) in
    both (list_any (same_number m) x.template.networks) (is_none (free_address w.tables m)) named
    (none-is (free_address w.tables m) (subst (λ (j : ℕ). has_free_address w.tables j ≡ false) same none))
network-said w x s k note.Empty there none said = absurd cc
network-said w x s k (note.Filters c) there none said = absurd cc
network-said w x s k (note.NoPort b) there none said = absurd cc

-- where not all pass, one that doesn't is found
found-failing : (test : ℕ → Bool) (xs : List ℕ) → list_all test xs ≡ false →
    (x : ℕ) × (find (λ k. not (test k)) xs ≡ Some x) × Has xs x × (test x ≡ false)
found-failing test [] e = absurd cc
found-failing test (x ∷ xs) e = go (test x) refl e (found-failing test xs)
  where
    go : (b : Bool) → test x ≡ b → (b && list_all test xs) ≡ false →
        (list_all test xs ≡ false → (y : ℕ) × (find (λ k. not (test k)) xs ≡ Some y) × Has xs y × (test y ≡ false)) →
        (y : ℕ) × (cond (not b) (Some x) (find (λ k. not (test k)) xs) ≡ Some y) × Has (x ∷ xs) y × (test y ≡ false)
    go true t k rest = let r = rest k in (r.0, r.1, inr r.2, r.3)
    go false t k rest = (x, refl, inl refl, t)

pub unprovided : (w : World) (x : Task) (s : Service) → Known w → IsAtRest w → Has w.tables.tasks x →
    is_live x ≡ true → LivesIn w x s → is_new x.state ≡ true → is_unprovided w.tables s x ≡ true
unprovided w x s known rest h live lives new =
    both (is_new x.state) (says_exhausted w.tables s x x.note) new (go (unnumbered_ports s) refl)
  where
    fresh : is_fresh w.tables x ≡ true
    fresh =
        both (is_new x.state && is_wanted x) (has_service w.tables x)
        (both (is_new x.state) (is_wanted x) new (live-wanted w x known h live))
        (ap (λ (o : Option Service). is_some o) lives.found)

    -- the first exhausted thing is the note
    noted : (n : Note) → exhausted w.tables x s ≡ Some n → same_note n x.note ≡ true
    noted n e =
        true_from_ne_false (same_note n x.note)
        (λ other.
        no-duty w rest (duty.Note x.id)
        (record {
          row = x;
          there = h;
          id_is = refl;
          fact = both (is_fresh w.tables x) _ fresh
              (some-and (λ (m : Note). not (same_note m x.note)) (exhausted_for w.tables x) n
              (ap (λ (o : Option Service). on_row None (exhausted w.tables x) o) lives.found ∙ e)
              (not_from_false (same_note n x.note) other));
        }))

    go : (ps : List Port) → unnumbered_ports s ≡ ps → says_exhausted w.tables s x x.note ≡ true
    go (p ∷ ps) e =
        let there : Has (unnumbered_ports s) p = subst (λ (qs : List Port). Has qs p) (sym e) (inl refl) in
        let none = no-free w rest s lives.there p there in
        let first : exhausted_port w.tables s ≡ Some p =
        ap (λ (qs : List Port). find (λ (q : Port). not (has_free_port w.tables q.udp)) qs) e
        ∙ ap (λ (b : Bool). cond (not b) (Some p) (find (λ (q : Port). not (has_free_port w.tables q.udp)) ps)) none in
        port-said w x s p x.note there none
        (noted (note.NoPort p.udp) (ap (λ (o : Option Port). first_note o (exhausted_network w.tables x)) first))
    go [] e =
        let numbered : has_numbered_ports s ≡ true =
        not_from_false (list_any (is_unnumbered s) s.spec.ports)
        (none-any (is_unnumbered s) s.spec.ports (λ p there. filter_empty (is_unnumbered s) s.spec.ports p e there)) in
        let some : list_all (has_free_address w.tables) x.template.networks ≡ false =
        false_from_ne_true (list_all (has_free_address w.tables) x.template.networks)
        (λ all.
        no-duty w rest (duty.Address x.id)
        (record {
          row = x;
          there = h;
          id_is = refl;
          fact = both (is_fresh w.tables x && is_service_and w.tables has_numbered_ports x) _
              (both (is_fresh w.tables x) (is_service_and w.tables has_numbered_ports x) fresh
              (some-and has_numbered_ports (row_at service_id x.service w.tables.services) s lives.found numbered)) all;
        })) in
        let failing = found-failing (has_free_address w.tables) x.template.networks some in
        let no_port : exhausted_port w.tables s ≡ None =
        ap (λ (qs : List Port). find (λ (q : Port). not (has_free_port w.tables q.udp)) qs) e in
        let network : exhausted_network w.tables x ≡ Some failing.0 = failing.1 in
        let both_are : exhausted w.tables x s ≡ Some (note.NoAddress failing.0) =
        ap (λ (o : Option Port). first_note o (exhausted_network w.tables x)) no_port
        ∙ ap (λ (o : Option ℕ). first_note None o) network in
        network-said w x s failing.0 x.note failing.2 failing.3 (noted (note.NoAddress failing.0) both_are)

-- Below ASSIGNED.

below-is : (s : TaskState) → rank s < rank state.Assigned → (is_new s || is_pending s) ≡ true
below-is state.New e = refl
below-is state.Pending e = refl
below-is state.Assigned e = absurd (omega (arith, e))
below-is state.Accepted e = absurd (omega (arith, e))
below-is state.Preparing e = absurd (omega (arith, e))
below-is state.Ready e = absurd (omega (arith, e))
below-is state.Starting e = absurd (omega (arith, e))
below-is state.Running e = absurd (omega (arith, e))
below-is state.Complete e = absurd (omega (arith, e))
below-is state.Shutdown e = absurd (omega (arith, e))
below-is state.Failed e = absurd (omega (arith, e))
below-is state.Rejected e = absurd (omega (arith, e))
below-is state.Remove e = absurd (omega (arith, e))
below-is state.Orphaned e = absurd (omega (arith, e))

pub says-why : (w : World) → Known w → IsAtRest w → SayWhy w
says-why w known rest x s h live found below = go (is_new x.state) refl (is_pending x.state) refl kinds
  where
    less : rank x.state < rank state.Assigned
    less = grind (arith, nat_tests, below)

    kinds : (is_new x.state || is_pending x.state) ≡ true
    kinds = below-is x.state less

    lives : LivesIn w x s
    lives =
        let in_place = live-in w x known rest h live in
        let same : in_place.0 ≡ s = some-is in_place.0 s (sym in_place.1.found ∙ found) in
        subst (λ (v : Service). LivesIn w x v) same in_place.1

    go : (a : Bool) → is_new x.state ≡ a → (b : Bool) → is_pending x.state ≡ b → (a || b) ≡ true →
        (is_unplaceable w.tables x || is_unprovided w.tables s x) ≡ true
    go true e b f k =
        or_right (is_unplaceable w.tables x) (is_unprovided w.tables s x)
        (unprovided w x s known rest h live lives e)
    go false e true f k =
        or_left (is_unplaceable w.tables x) (is_unprovided w.tables s x) (unplaceable w x known rest h live f)
    go false e false f k = absurd cc

pub unmet : UnmetLaw
unmet h legal rest = says-why (replay h) (known-replay h legal) rest
