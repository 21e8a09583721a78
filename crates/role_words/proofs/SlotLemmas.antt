-- Windows over the tasks of a service.
use Rattle.std.proofs.Common.{◌≡◌, ℕ, ◌+◌, Option, List, [], ◌∷◌, ◌++◌, sym, ap, subst, ◌∙◌}
use Rattle.std.proofs.lemmas.List.{append_assoc, append-nil}
use Rattle.std.specs.List.{list_any}
use Rattle.std.specs.Prelude.{◌==◌, filter, fold}
use Rattle.swarm_objects.specs.Rows.{is_some_and, with_number}
use Rattle.swarm_objects.specs.Tasks.Places.{closes, newest, numbers_of, place_at, place_number}
use Rattle.swarm_objects.specs.Tasks.Words.{is_live, is_of}
use Rattle.swarm_objects.specs.World.{Tables}
use Rattle.swarm_objects.specs.declared.services.Service.{Service}
use Rattle.swarm_objects.specs.declared.tasks.Task.{Task}
use Rattle.swarm_objects.proofs.PlaceLemmas.{counted_of_service, in_place_of_service}
use Rattle.role_words.specs.Shown.{AreShown}
use Rattle.role_words.proofs.Numbers.{same_mark}
use Rattle.role_words.specs.Marks.{has_number, mark_of, tasks_at}
use Rattle.role_words.specs.Windows.{IsNextPlace, Shows}
use Rattle.role_words.specs.declared.window.Slot.{Slot}
use Rattle.role_words.specs.declared.window.Window.{Window}

-- The tasks of the service alone show what all tasks do.

numbers_alone : (s : Service) (tasks : List Task) → numbers_of s (filter (is_of s.id) tasks) ≡ numbers_of s tasks
numbers_alone s tasks = ap (fold (λ ks (x : Task). with_number (place_number x.place) ks) []) (counted_of_service s tasks)

has_alone : (s : Service) (tasks : List Task) (k : ℕ)
    → has_number s (filter (is_of s.id) tasks) k ≡ has_number s tasks k
has_alone s tasks k = ap (list_any (λ j. j == k)) (numbers_alone s tasks)

mark_alone : (s : Service) (tasks : List Task) (k : ℕ) → mark_of s (filter (is_of s.id) tasks) k ≡ mark_of s tasks k
mark_alone s tasks k =
    let place : tasks_at s (filter (is_of s.id) tasks) k ≡ tasks_at s tasks k =
    in_place_of_service s (place_at s.spec.mode k) tasks in
    same_mark _ _ _ _ _ _ (has_alone s tasks k) (ap (list_any is_live) place)
    (ap (λ xs. is_some_and closes (newest xs)) place)

shows_all : (w : Window) (s : Service) (tasks : List Task) → Shows w s (filter (is_of s.id) tasks) → Shows w s tasks
shows_all w s tasks h = record {
  wide = h.wide;
  marks = λ i lt. h.marks i lt ∙ mark_alone s tasks (w.first + i);
  reach = h.reach;
  beyond = λ k e le. h.beyond k (has_alone s tasks k ∙ e) le;
  behind = λ b e. let there = h.behind b e in (sym (has_alone s tasks b) ∙ there.0, there.1);
  index = h.index;
  small = λ k e. h.small k (has_alone s tasks k ∙ e);
}

-- A window shows those of the tasks that aren't left.

abbrev pub IsPart : Window → Service → List Task → List Task → Type 0
IsPart w s all left = (done : List Task) × ((done ++ left ≡ all) × Shows w s done)

pub part_begun : (w : Window) (s : Service) (all left : List Task) → Shows w s [] → left ≡ all → IsPart w s all left
part_begun w s all left h e = ([], (e, h))

pub part_more : (w new : Window) (s : Service) (all left rest : List Task) (x : Task) → left ≡ x ∷ rest
    → ((tasks : List Task) → Shows w s tasks → Shows new s (tasks ++ x ∷ [])) → IsPart w s all left
    → IsPart new s all rest
part_more w new s all left rest x e note part = (
  part.0 ++ x ∷ [],
  (
    append_assoc part.0 (x ∷ []) rest ∙ ap (λ xs. part.0 ++ xs) (sym e) ∙ part.1.0,
    note part.0 part.1.1,
  ),
)

pub part_all : (w : Window) (s : Service) (tasks left : List Task) → left ≡ []
    → IsPart w s (filter (is_of s.id) tasks) left → Shows w s tasks
part_all w s tasks left e part =
    shows_all w s tasks
    (subst (Shows w s) (sym (append-nil part.0) ∙ ap (λ xs. part.0 ++ xs) (sym e) ∙ part.1.0) part.1.1)

pub stays_shown : (t : Tables) (old new : Window) (r : Option Slot) (s : Service) → AreShown t old s
    → IsNextPlace old new r s t.tasks → AreShown t new s
stays_shown t old new r s shown follows = record { usable = shown.usable; shows = follows.shows }
