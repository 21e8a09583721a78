-- The scheduler has one answer for tasks in slots that are of one service by one template and have one note.
use Rattle.std.proofs.Common.{◌≡◌, ℕ, Bool, true, false, List, [], ◌∷◌, Option, Some, None, refl, sym, ap, subst, ◌∙◌, arith}
use Rattle.std.proofs.lemmas.Bool.Decides.{nat_tests}
use Rattle.std.specs.Bool.{OnTrue}
use Rattle.std.specs.Prelude.{◌&&◌, ◌++◌, if◌then◌else◌, IsTrue, is_none}
use Rattle.swarm_objects.proofs.Tests.{and_fails, both_are}
use Rattle.swarm_objects.specs.Loops.Allocator.{same_note}
use Rattle.swarm_objects.specs.Loops.Scheduler.{is_to_drop, is_to_place, place_duty, placing, schedule}
use Rattle.swarm_objects.specs.Loops.Words.{when}
use Rattle.swarm_objects.specs.Nodes.BestNode.{best_node}
use Rattle.swarm_objects.specs.Nodes.Filters.{refusal_counts}
use Rattle.swarm_objects.specs.Tasks.New.{bound_node}
use Rattle.swarm_objects.specs.Tasks.Words.{is_below_assigned, is_pending, is_unwanted, is_wanted}
use Rattle.swarm_objects.specs.World.{Tables}
use Rattle.swarm_objects.specs.declared.duties.Duty.{Duty}
use Rattle.swarm_objects.specs.declared.duties.Duty.TheVariants as duty
use Rattle.swarm_objects.specs.declared.nodes.Node.{Node}
use Rattle.swarm_objects.specs.declared.tasks.Note.{Note}
use Rattle.swarm_objects.specs.declared.tasks.Note.TheVariants as note
use Rattle.swarm_objects.specs.declared.tasks.Place.{Place}
use Rattle.swarm_objects.specs.declared.tasks.Place.TheVariants.{On, Slot}
use Rattle.swarm_objects.specs.declared.tasks.Task.{Task}
use Rattle.swarm_objects.specs.declared.templates.Template.{Template}

slot-of : (k : Place) → is_none (bound_node k) ≡ true → (a : ℕ) × (k ≡ Slot a)
slot-of (Slot a) e = (a, refl)
slot-of (On a) e = absurd cc

-- What the scheduler reads of a task in a slot.

one-best : (t : Tables) (x y : Task) (a b : ℕ) → x.place ≡ Slot a → y.place ≡ Slot b → x.service ≡ y.service
    → x.template ≡ y.template → best_node t x ≡ best_node t y
one-best t x y a b p q s m =
    ap (λ (k : Place). best_node t (record x { place = k })) p
    ∙ ap (λ (n : ℕ). best_node t (record x { place = Slot a; service = n })) s
    ∙ ap (λ (l : Template). best_node t (record x { place = Slot a; service = y.service; template = l })) m
    ∙ sym (ap (λ (k : Place). best_node t (record y { place = k })) q)

one-count : (t : Tables) (x y : Task) (a b : ℕ) → x.place ≡ Slot a → y.place ≡ Slot b → x.service ≡ y.service
    → x.template ≡ y.template → refusal_counts t x ≡ refusal_counts t y
one-count t x y a b p q s m =
    ap (λ (k : Place). refusal_counts t (record x { place = k })) p
    ∙ ap (λ (n : ℕ). refusal_counts t (record x { place = Slot a; service = n })) s
    ∙ ap (λ (l : Template). refusal_counts t (record x { place = Slot a; service = y.service; template = l })) m
    ∙ sym (ap (λ (k : Place). refusal_counts t (record y { place = k })) q)

-- Where the one has no duty, the other has none.

unsaid : (a b : Bool) (d e : Duty) → a ≡ b → (if b then [] else e ∷ []) ≡ [] → (if a then [] else d ∷ []) ≡ []
unsaid true b d e same none = refl
unsaid false true d e same none = absurd cc
unsaid false false d e same none = absurd cc

unplaced : (t : Tables) (x y : Task) → x.note ≡ y.note → refusal_counts t x ≡ refusal_counts t y → (o : Option Node)
    → placing t y o ≡ [] → placing t x o ≡ []
unplaced t x y n counts (Some node) none = absurd cc
unplaced t x y n counts None none =
    unsaid (same_note (note.Filters (refusal_counts t x)) x.note) (same_note (note.Filters (refusal_counts t y)) y.note)
    (duty.Explain x.id) (duty.Explain y.id)
    (ap (λ (c : List ℕ). same_note (note.Filters c) x.note) counts
    ∙ ap (λ (k : Note). same_note (note.Filters (refusal_counts t y)) k) n) none

behind : (before left : List Duty) → before ++ left ≡ [] → left ≡ []
behind [] left e = e
behind (d ∷ before) left e = absurd cc

kept : (x : Task) → is_to_place x ≡ true → is_to_drop x ≡ false
kept x e =
    let wanted : is_wanted x ≡ true = (both_are (is_pending x.state) (is_wanted x) e).1 in
    let unwanted : is_unwanted x ≡ false = grind (arith, nat_tests) in
    and_fails (is_below_assigned x) (is_unwanted x) unwanted

-- a task that is to be placed has no other duty
idle : (t : Tables) (x : Task) (drop place : Bool) → drop ≡ false → place ≡ true → placing t x (best_node t x) ≡ []
    → when drop (duty.Drop x.id) ++ place_duty t x place ≡ []
idle t x false true d p none = none
idle t x true place d p none = absurd cc
idle t x false false d p none = absurd cc

one_answer : (t : Tables) (x y : Task) → x.service ≡ y.service → x.note ≡ y.note → x.template ≡ y.template
    → (is_to_place x && is_none (bound_node x.place)) ≡ true → (is_to_place y && is_none (bound_node y.place)) ≡ true
    → schedule t y ≡ [] → schedule t x ≡ []
one_answer t x y s n m wx wy none =
    let of-x = both_are (is_to_place x) (is_none (bound_node x.place)) wx in
    let of-y = both_are (is_to_place y) (is_none (bound_node y.place)) wy in
    let slot-x = slot-of x.place of-x.1 in
    let slot-y = slot-of y.place of-y.1 in
    let last : place_duty t y (is_to_place y) ≡ [] =
    behind (when (is_to_drop y) (duty.Drop y.id)) (place_duty t y (is_to_place y)) none in
    let other : placing t y (best_node t y) ≡ [] = subst (λ (b : Bool). place_duty t y b ≡ []) of-y.0 last in
    let counts = one-count t x y slot-x.0 slot-y.0 slot-x.1 slot-y.1 s m in
    let mine : placing t x (best_node t y) ≡ [] = unplaced t x y n counts (best_node t y) other in
    let best = one-best t x y slot-x.0 slot-y.0 slot-x.1 slot-y.1 s m in
    idle t x (is_to_drop x) (is_to_place x) (kept x of-x.0) of-x.0
    (subst (λ (o : Option Node). placing t x o ≡ []) (sym best) mine)

pub on_true : (b : Bool) (x y : Task)
    → (IsTrue b → (x.service ≡ y.service) × (x.note ≡ y.note) × (x.template ≡ y.template))
    → (is_to_place x && is_none (bound_node x.place)) ≡ true → (is_to_place y && is_none (bound_node y.place)) ≡ true
    → OnTrue b ((t : Tables) → schedule t y ≡ [] → schedule t x ≡ [])
on_true true x y alike wx wy =
    let same = alike refl in λ t none. one_answer t x y same.0 same.1 same.2 wx wy none
on_true false x y alike wx wy = tt

pub unlike : {A : Type 0} → false ≡ true → A
unlike e = absurd cc
