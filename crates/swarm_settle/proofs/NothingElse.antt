-- Every live task stands in a held place of a service that is there.
use Rattle.std.proofs.Common.{Bool, None, Option, Some, ap, arith, false, not, refl, sym, true, ◌≡◌, ◌≤◌}
use Rattle.std.proofs.lemmas.Bool.Decides.{nat_tests}
use Rattle.std.specs.List.{list_any}
use Rattle.std.specs.Prelude.{is_some, nat_lt, ◌&&◌, ◌==◌, ◌||◌}
use Rattle.swarm_settle.proofs.Known.{Known, known-replay}
use Rattle.swarm_settle.proofs.Rest.{no-duty}
use Rattle.swarm_settle.specs.Laws.{NothingElseLaw}
use Rattle.swarm_settle.specs.Rest.{IsAtRest}
use Rattle.swarm_model.specs.History.{replay}
use Rattle.swarm_model.specs.Laws.Matches.{stands_in, stands_somewhere}
use Rattle.swarm_objects.proofs.RowLemmas.{Has-filter, Has-from_row_at}
use Rattle.swarm_objects.proofs.SameLemmas.{Decides-same_place}
use Rattle.swarm_objects.proofs.Tests.{all-pass, both, has-any, not_from_false, or_left, or_right, some-and, true_from_ne_false}
use Rattle.swarm_objects.specs.Loops.Jobs.{is_old_of}
use Rattle.swarm_objects.specs.Rows.{Has, row_at, service_id}
use Rattle.swarm_objects.specs.Same.{same_place}
use Rattle.swarm_objects.specs.Services.Words.{has_service, is_job, is_service_and}
use Rattle.swarm_objects.specs.Tasks.Places.{counts_for, is_held, is_in_place, tasks_of_place}
use Rattle.swarm_objects.specs.Tasks.Words.{is_kept, is_live}
use Rattle.swarm_objects.specs.Values.Ranks.{desired_rank}
use Rattle.swarm_objects.specs.World.{World}
use Rattle.swarm_objects.specs.declared.duties.Duty.TheVariants as duty
use Rattle.swarm_objects.specs.declared.services.Service.{Service}
use Rattle.swarm_objects.specs.declared.tasks.Task.{Task}

-- the service of a live task, in a place of which it stands
pub record LivesIn (w : World) (x : Task) (s : Service) : Type 0 where
  pub found : row_at service_id x.service w.tables.services ≡ Some s
  pub there : Has w.tables.services s
  pub of : x.service ≡ s.id
  pub counts : counts_for s x ≡ true
  pub held : is_held s x.place w.tables.tasks ≡ true

pub live-kept : (w : World) (x : Task) → Known w → Has w.tables.tasks x → is_live x ≡ true → is_kept x ≡ true
live-kept w x known h live =
    let goal = (known.orderly.good x h).goal in
    let least : desired_rank x.desired ≤ desired_rank x.goal = grind (arith, nat_tests, live) in
    grind (arith, nat_tests, least, goal)

pub place-of-its-own : (s : Service) (x : Task) → counts_for s x ≡ true → is_in_place s x.place x ≡ true
place-of-its-own s x e =
    both (counts_for s x) (same_place x.place x.place) e ((Decides-same_place x.place x.place).1 refl)

pub live-in : (w : World) (x : Task) → Known w → IsAtRest w → Has w.tables.tasks x → is_live x ≡ true →
    (s : Service) × LivesIn w x s
live-in w x known rest h live = go (row_at service_id x.service w.tables.services) refl
  where
    kept : is_kept x ≡ true
    kept = live-kept w x known h live

    counted : (s : Service) → row_at service_id x.service w.tables.services ≡ Some s → Has w.tables.services s →
        x.service ≡ s.id → (j : Bool) → is_job s.spec.mode ≡ j → counts_for s x ≡ true
    counted s e there of false job =
        both (x.service == s.id) _ (grind (arith, nat_tests, of))
        (or_left (not (is_job s.spec.mode)) (x.iteration == s.iteration) (not_from_false (is_job s.spec.mode) job))
    counted s e there of true job =
        let most = (known.of.one.iterations x s h there of).most in
        let now : (x.iteration == s.iteration) ≡ true =
        true_from_ne_false (x.iteration == s.iteration)
        (λ other.
        let before : nat_lt x.iteration s.iteration ≡ true = grind (arith, nat_tests, most, other) in
        no-duty w rest (duty.Old x.id)
        (record {
          row = x;
          there = h;
          id_is = refl;
          fact = some-and (is_old_of x) (row_at service_id x.service w.tables.services) s e
              (both (is_job s.spec.mode && nat_lt x.iteration s.iteration) (is_kept x)
              (both (is_job s.spec.mode) (nat_lt x.iteration s.iteration) job before) kept);
        })) in
        both (x.service == s.id) _ (grind (arith, nat_tests, of))
        (or_right (not (is_job s.spec.mode)) (x.iteration == s.iteration) now)

    go : (o : Option Service) → row_at service_id x.service w.tables.services ≡ o → (s : Service) × LivesIn w x s
    go None e =
        absurd (no-duty w rest (duty.Gone x.id)
        (record {
          row = x;
          there = h;
          id_is = refl;
          fact = both (not (has_service w.tables x)) (is_kept x) (ap (λ (o : Option Service). not (is_some o)) e) kept;
        }))
    go (Some s) e =
        let at = Has-from_row_at service_id x.service w.tables.services s e in
        let counts = counted s e at.0 (sym at.1) (is_job s.spec.mode) refl in (
          s,
          record {
            found = e;
            there = at.0;
            of = sym at.1;
            counts = counts;
            held = or_left (list_any is_live (tasks_of_place s x.place w.tables.tasks)) _
                (has-any is_live (tasks_of_place s x.place w.tables.tasks) x
                (Has-filter (is_in_place s x.place) w.tables.tasks x h (place-of-its-own s x counts)) live);
          },
        )

stands : (w : World) (x : Task) → Known w → IsAtRest w → Has w.tables.tasks x → (b : Bool) → is_live x ≡ b →
    (not b || is_service_and w.tables (stands_in w.tables x) x) ≡ true
stands w x known rest h false e = refl
stands w x known rest h true e =
    let in_place = live-in w x known rest h e in
    some-and (stands_in w.tables x) (row_at service_id x.service w.tables.services) in_place.0 in_place.1.found
    (both (counts_for in_place.0 x) (is_held in_place.0 x.place w.tables.tasks) in_place.1.counts in_place.1.held)

pub nothing-else : NothingElseLaw
nothing-else h legal rest =
    all-pass (stands_somewhere (replay h).tables) (replay h).tables.tasks
    (λ x there. stands (replay h) x (known-replay h legal) rest there (is_live x) refl)
