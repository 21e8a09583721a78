-- What is remembered of nodes that refused waiting tasks: slots by rounds, a slot that is filled or emptied, and what
-- changes of rows leave true.
use Rattle.std.proofs.Common.{◌≡◌, ◌∙◌, ◌∷◌, ◌<◌, ◌≤◌, ◌⊎◌, ℕ, Bool, List, None, Option, Some, Vec, [], ap, append-nil}
use Rattle.std.proofs.Common.{arith, cond, drop, drop_of_length-le, eqb, false, get_or, inl, inr, length, map, not, refl, replicate, set, subst, suc, sym, take, true, zero}
use Rattle.std.proofs.lemmas.Bool.Decides.{nat_tests}
use Rattle.std.proofs.lemmas.List.{get_or-set_other, get_or-set_same, length-map, length-set, map-set, take_all}
use Rattle.std.proofs.lemmas.Nat.{mod_below}
use Rattle.std.specs.List.{list_any}
use Rattle.std.specs.Prelude.{IfSome, count_by, ◌%◌, ◌&&◌, ◌+◌, ◌++◌, ◌-◌, ◌==◌, ◌||◌, filter, nat_le, nat_lt, sum_by}
use Rattle.swarm_objects.proofs.Placing.{here_is}
use Rattle.swarm_objects.proofs.RowLemmas.{Has-append_cases, Has-map_cases, row_at-Some}
use Rattle.swarm_objects.proofs.Tests.{both_are}
use Rattle.swarm_objects.specs.ChangeLists.{apply_change, apply_changes}
use Rattle.swarm_objects.specs.Nodes.Filters.{here, is_supported, refused_by, takes_tasks}
use Rattle.swarm_objects.specs.Nodes.Holdings.{is_host_port_used, is_placed_on, task_cpu, task_mem, tasks_placed_on}
use Rattle.swarm_objects.specs.Nodes.Words.{meets_all}
use Rattle.swarm_objects.specs.Rows.{Has, on_row, row_at, task_id}
use Rattle.swarm_objects.specs.Tasks.Words.{is_live, is_of, is_on, is_placed}
use Rattle.swarm_objects.specs.Usable.{IsUsable}
use Rattle.swarm_objects.specs.World.{Tables}
use Rattle.swarm_objects.specs.declared.nodes.Node.{Node}
use Rattle.swarm_objects.specs.declared.rows.Change.TheVariants as change
use Rattle.swarm_objects.specs.declared.rows.Change.{Change}
use Rattle.swarm_objects.specs.declared.tasks.Task.{Task}
use Rattle.swarm_objects.specs.declared.templates.Template.{Template}
use Rattle.swarm_sched.proofs.Classing.{change-left, one-node}
use Rattle.swarm_sched.proofs.Knowing.{Misses, changes-leave, decide, on-is}
use Rattle.swarm_sched.specs.Inside.KnownRefusals.{AreSoFar, IsIn, IsRefusal, KnowsGroup, KnowsRefusals, Refusals}
use Rattle.swarm_sched.specs.Inside.KnownRefusals.{filter_of, forget, forget_each, of_round, put, recalled, refused_later}
use Rattle.swarm_sched.specs.Inside.KnownRefusals.{set_slot, shown, without}
use Rattle.swarm_sched.specs.Inside.Touching.{IsSpared, former_node, touched}
use Rattle.swarm_sched.specs.declared.known_refusals.Noted.{Noted}
use Rattle.swarm_sched.specs.declared.known_refusals.Refusal.{Refusal}

-- What the later filters read.

-- the first of them to refuse the node, which has these tasks, so many of them the service's own
later-by : Task → Node → List Task → ℕ → Option ℕ
later-by x n placed own =
    let fits = nat_le (sum_by task_cpu placed + x.template.cpu) n.cpu && nat_le (sum_by task_mem placed + x.template.mem) n.mem in
    let free = not (list_any (is_host_port_used placed) x.template.host_ports) in
    let below = x.template.max_replicas == 0 || nat_lt own x.template.max_replicas in
    cond (not fits) (Some 1)
    (cond (not (meets_all x.template.constraints n)) (Some 2)
    (cond (not (is_supported x.template.platforms n)) (Some 3)
    (cond (not free) (Some 4) (cond (not below) (Some 5) None))))

later-is : (t : Tables) (x : Task) (n : Node) →
    refused_later t x n ≡ later-by x n (tasks_placed_on t n.id) (here t n.id x.service)
unfolding later-by
later-is t x n = refl

-- the same where the node's tasks are
later-alike : (t u : Tables) (x : Task) (n : Node) → tasks_placed_on u n.id ≡ tasks_placed_on t n.id →
    refused_later u x n ≡ refused_later t x n
later-alike t u x n same =
    let own : here u n.id x.service ≡ here t n.id x.service =
    sym (here_is u n.id x.service) ∙ ap (count_by (λ y. is_of x.service y && is_live y)) same ∙ here_is t n.id x.service in
    later-is u x n ∙ ap (λ l. later-by x n l (here u n.id x.service)) same
    ∙ ap (λ k. later-by x n (tasks_placed_on t n.id) k) own ∙ sym (later-is t x n)

-- and for a task of the same service by the same template
later-of : (t : Tables) (x y : Task) (n : Node) → x.service ≡ y.service → x.template ≡ y.template →
    refused_later t x n ≡ refused_later t y n
later-of t x y n s m =
    ap (λ (k : ℕ). refused_later t (record x { service = k }) n) s
    ∙ ap (λ (l : Template). refused_later t (record x { service = y.service; template = l }) n) m

-- where the node takes tasks they decide
later-decides : (t : Tables) (x : Task) (n : Node) → takes_tasks t n ≡ true → refused_by t x n ≡ refused_later t x n
later-decides t x n takes = ap (λ (b : Bool). cond (not b) (Some 0) (refused_later t x n)) takes

-- Options, and a list of which one is set.

some-is : {X : Type 0} (a b : X) → Some a ≡ Some b → a ≡ b
some-is a b e = cc

never : {X : Type 0} (x : X) → ◌≡◌ {A = Option X} None (Some x) → ⊥
never x e = cc

Has-set : {X : Type 0} (xs : List X) (i : ℕ) (y x : X) → Has (set xs i y) x → (y ≡ x) ⊎ Has xs x
Has-set [] i y x h = absurd h
Has-set (z ∷ xs) zero y x (inl e) = inl e
Has-set (z ∷ xs) zero y x (inr h) = inr (inr h)
Has-set (z ∷ xs) (suc i) y x (inl e) = inr (inl e)
Has-set (z ∷ xs) (suc i) y x (inr h) = elim (Has-set xs i y x h) [ inl e ↦ inl e | inr there ↦ inr (inr there) ]

-- Slots, of which those of one round count.

-- what is put in the node's slot counts
pub slot_written : (round node k : ℕ) (slots : List (Option Noted)) (seen : List (Option Refusal)) (n : Option Noted)
    (o : Option Refusal) → map (of_round round) slots ≡ seen → k ≡ length slots → of_round round n ≡ o →
    map (of_round round) (set slots (node % k) n) ≡ set_slot seen node o
slot_written round node k slots seen n o is long same =
    let count : k ≡ length seen =
    long ∙ sym (length-map slots (of_round round)) ∙ ap (λ (l : List (Option Refusal)). length l) is in
    map-set (of_round round) slots (node % k) n ∙ ap (λ p. set (map (of_round round) slots) (node % k) p) same
    ∙ ap (λ (l : List (Option Refusal)). set l (node % k) o) is ∙ ap (λ j. set seen (node % j) o) count

pub so_far_set : (round i : ℕ) (slots : List (Option Noted)) (n : Option Noted) → IfSome n (λ p. p.round ≤ round) →
    AreSoFar round slots → AreSoFar round (set slots i n)
so_far_set round i slots n so all = record { each = λ p h. go p (Has-set slots i n (Some p) h) }
  where
    go : (p : Noted) → (n ≡ Some p) ⊎ Has slots (Some p) → p.round ≤ round
    go p (inl e) = subst (λ o. IfSome o (λ q. q.round ≤ round)) e so
    go p (inr h) = all.each p h

-- nothing counts in a further round
all_empty : (round further : ℕ) (slots : List (Option Noted)) → AreSoFar round slots → round < further →
    map (of_round further) slots ≡ replicate (length slots) None
all_empty round further slots all later = go slots all.each
  where
    slot : (o : Option Noted) → ((n : Noted) → o ≡ Some n → n.round ≤ round) → of_round further o ≡ None
    slot None is = refl
    slot (Some n) is = old (eqb n.round further) refl
      where
        old : (b : Bool) → eqb n.round further ≡ b → ◌≡◌ {A = Option Refusal} (cond b (Some n.refusal) None) None
        old true same =
            let at : n.round ≡ further = grind (arith, nat_tests, same) in
            absurd (omega (arith, at, later, is n refl))
        old false other = refl

    go : (l : List (Option Noted)) → ((n : Noted) → Has l (Some n) → n.round ≤ round) →
        map (of_round further) l ≡ replicate (length l) None
    go [] each = refl
    go (o ∷ l) each =
        ap (λ p. p ∷ map (of_round further) l) (slot o (λ n e. each n (inl e)))
        ∙ ap (λ (r : List (Option Refusal)). None ∷ r) (go l (λ n h. each n (inr h)))

pub empty_again : (round further : ℕ) (slots : List (Option Noted)) (seen : List (Option Refusal)) →
    map (of_round round) slots ≡ seen → AreSoFar round slots → round < further →
    map (of_round further) slots ≡ replicate (length seen) None
empty_again round further slots seen is all later =
    all_empty round further slots all later
    ∙ ap (λ (n : ℕ). replicate n None)
    (sym (length-map slots (of_round round)) ∙ ap (λ (l : List (Option Refusal)). length l) is)

-- Slots that are filled anew.

none-has : (n : ℕ) (p : Noted) → Has (replicate n None) (Some p) → ⊥
none-has zero p h = h
none-has (suc n) p (inl e) = never p e
none-has (suc n) p (inr h) = none-has n p h

nothing-taken : (n : ℕ) → ◌≡◌ {A = List (Option Noted)} (take n []) []
nothing-taken zero = refl
nothing-taken (suc n) = refl

all-none : (n : ℕ) → map (of_round 0) (replicate n None) ≡ replicate n None
all-none zero = refl
all-none (suc n) = ap (λ (l : List (Option Refusal)). None ∷ l) (all-none n)

-- so many empty ones, or none for want of memory
refilled-is : (b : Bool) (n k : ℕ) (cleared slots : List (Option Noted)) → cleared ≡ [] → k ≡ 0 →
    slots ≡ cond b (take n cleared ++ replicate (n - k) None) cleared →
    slots ≡ cond b (replicate n None) []
refilled-is b n k cleared slots none blank is =
    let whole : n - 0 ≡ n = omega arith in
    is ∙ ap (λ (l : List (Option Noted)). cond b (take n l ++ replicate (n - k) None) l) none
    ∙ ap (λ j. cond b (take n [] ++ replicate (n - j) None) []) blank
    ∙ ap (λ j. cond b (take n [] ++ replicate j None) []) whole
    ∙ ap (λ (l : List (Option Noted)). cond b (l ++ replicate n None) []) (nothing-taken n)

pub so_far_refilled : (b : Bool) (n k : ℕ) (cleared slots : List (Option Noted)) → cleared ≡ [] → k ≡ 0 →
    slots ≡ cond b (take n cleared ++ replicate (n - k) None) cleared → AreSoFar 0 slots
so_far_refilled b n k cleared slots none blank is =
    subst (AreSoFar 0) (sym (refilled-is b n k cleared slots none blank is)) (go b)
  where
    go : (d : Bool) → AreSoFar 0 (cond d (replicate n None) [])
    go true = record { each = λ p h. absurd (none-has n p h) }
    go false = record { each = λ p h. absurd h }

pub refilled_empty : (b : Bool) (n k : ℕ) (cleared slots : List (Option Noted)) → cleared ≡ [] → k ≡ 0 →
    slots ≡ cond b (take n cleared ++ replicate (n - k) None) cleared → b ≡ true →
    map (of_round 0) slots ≡ replicate n None
refilled_empty b n k cleared slots none blank is done =
    ap (map (of_round 0))
    (refilled-is b n k cleared slots none blank is ∙ ap (λ d. cond d (replicate n None) []) done)
    ∙ all-none n

-- One slot.

-- what a changed slot leaves of a node: nothing, what stands in it, or what was remembered
slot-put : (g : Refusals) (node : ℕ) (o : Option Refusal) (m : ℕ) → (recalled (put g node o) m ≡ None)
    ⊎ ((recalled (put g node o) m ≡ filter_of m o) ⊎ ((recalled (put g node o) m ≡ recalled g m) × (node ≡ m → ⊥)))
slot-put g node o m = go g.slots refl
  where
    Leaves : Refusals → Type 0
    Leaves r = (recalled (put r node o) m ≡ None)
        ⊎ ((recalled (put r node o) m ≡ filter_of m o) ⊎ ((recalled (put r node o) m ≡ recalled r m) × (node ≡ m → ⊥)))

    some : (all : List (Option Refusal)) → 0 < length all → g.slots ≡ all → Leaves g
    some all long is =
        let below : node % length g.slots < length g.slots =
        mod_below node (length g.slots) (subst (λ (l : List (Option Refusal)). 0 < length l) (sym is) long) in
        let there : recalled (put g node o) m
        ≡ filter_of m (get_or (set g.slots (node % length g.slots) o) (m % length g.slots) None) =
        ap (λ n. filter_of m (get_or (set g.slots (node % length g.slots) o) (m % n) None))
        (length-set g.slots (node % length g.slots) o) in
        elim (decide (m % length g.slots) (node % length g.slots)) [
          | inl same ↦
              inr (inl (there ∙ ap (λ j. filter_of m (get_or (set g.slots (node % length g.slots) o) j None)) same
              ∙ ap (filter_of m) (get_or-set_same g.slots (node % length g.slots) o None below)))
          | inr other ↦
              inr (inr (
                (there ∙ ap (filter_of m)
                    (get_or-set_other g.slots (node % length g.slots) (m % length g.slots) o None other)),
                (λ e. other (ap (λ (k : ℕ). k % length g.slots) (sym e))),
              ))
        ]

    go : (all : List (Option Refusal)) → g.slots ≡ all → Leaves g
    go [] is = subst Leaves (ap (λ (l : List (Option Refusal)). record g { slots = l }) (sym is)) (inl refl)
    go (s ∷ all) is = some (s ∷ all) (omega arith) is

-- this filter refuses the node with this id
pub refusal_put : (t : Tables) (g : Refusals) (node filter : ℕ) (r : Refusal) → r.node ≡ node → r.filter ≡ filter →
    KnowsGroup t g → IsRefusal t g node filter → KnowsGroup t (put g node (Some r))
refusal_put t g node filter r of by knows is = record { each = λ m. at m (slot-put g node (Some r) m) }
  where
    After : ℕ → Option ℕ → Type 0
    After m o = IfSome o (IsRefusal t g m)

    own : (m : ℕ) (b : Bool) → eqb r.node m ≡ b → After m (cond b (Some r.filter) None)
    own m true same =
        let number : r.node ≡ m = grind (arith, nat_tests, same) in
        subst (λ k. IsRefusal t g m k) (sym by) (subst (λ k. IsRefusal t g k filter) (sym of ∙ number) is)
    own m false other = tt

    at : (m : ℕ) → (recalled (put g node (Some r)) m ≡ None)
        ⊎ ((recalled (put g node (Some r)) m ≡ filter_of m (Some r))
        ⊎ ((recalled (put g node (Some r)) m ≡ recalled g m) × (node ≡ m → ⊥))) →
        After m (recalled (put g node (Some r)) m)
    at m (inl none) = subst (After m) (sym none) tt
    at m (inr (inl own-slot)) = subst (After m) (sym own-slot) (own m (eqb r.node m) refl)
    at m (inr (inr kept)) = subst (After m) (sym kept.0) (knows.each m)

-- before the first refusal
none-at : (n j : ℕ) → ◌≡◌ {A = Option Refusal} (get_or (replicate n None) j None) None
none-at zero j = refl
none-at (suc n) zero = refl
none-at (suc n) (suc j) = none-at n j

pub nothing_known : (t : Tables) (g : Refusals) (n : ℕ) → g.slots ≡ replicate n None → KnowsGroup t g
nothing_known t g n none = record {
  each = λ m.
      subst (λ o. IfSome o (IsRefusal t g m))
      (sym (ap (λ (l : List (Option Refusal)). filter_of m (get_or l (m % length l) None)) none
      ∙ ap (filter_of m) (none-at n (m % length (replicate n None))))) tt;
}

-- Groups in slots.

Has-get : {X : Type 0} (xs : List X) (i : ℕ) (d : X) → i < length xs → Has xs (get_or xs i d)
Has-get [] i d lt = absurd (omega (arith, lt))
Has-get (x ∷ xs) zero d lt = inl refl
Has-get (x ∷ xs) (suc i) d lt = inr (Has-get xs i d (omega (arith, lt)))

pub no_groups : (t : Tables) (all : List (Option Refusals)) → all ≡ [] → KnowsRefusals t all
no_groups t all none = subst (KnowsRefusals t) (sym none) (record { each = λ g h. absurd h })

pub group_pushed : (t : Tables) (all after : List (Option Refusals)) (g : Refusals) → KnowsRefusals t all →
    KnowsGroup t g → after ≡ all ++ Some g ∷ [] → KnowsRefusals t after
group_pushed t all after g knows own is =
    subst (KnowsRefusals t) (sym is) (record { each = λ h has. go h (Has-append_cases all (Some g ∷ []) (Some h) has) })
  where
    go : (h : Refusals) → Has all (Some h) ⊎ Has (Some g ∷ []) (Some h) → KnowsGroup t h
    go h (inl there) = knows.each h there
    go h (inr (inl e)) = subst (KnowsGroup t) (some-is g h e) own
    go h (inr (inr none)) = absurd none

pub group_known : (t : Tables) (all : List (Option Refusals)) (i : ℕ) (d o : Option Refusals) → i < length all →
    o ≡ get_or all i d → KnowsRefusals t all → IfSome o (KnowsGroup t)
group_known t all i d o lt is knows = go o (subst (Has all) (sym is) (Has-get all i d lt))
  where
    go : (p : Option Refusals) → Has all p → IfSome p (KnowsGroup t)
    go None h = tt
    go (Some g) h = knows.each g h

pub inside_known : {Z : Type 0} (t : Tables) (all : List (Option Refusals)) (o : Option (Vec (Option Refusals) Z))
    (v : Vec (Option Refusals) Z) → shown o ≡ all → o ≡ Some v → KnowsRefusals t all → KnowsRefusals t v.items
inside_known t all o v is some = subst (KnowsRefusals t) (sym is ∙ ap shown some)

pub group_put : (t : Tables) (all : List (Option Refusals)) (i : ℕ) (o : Option Refusals) → KnowsRefusals t all →
    IfSome o (KnowsGroup t) → KnowsRefusals t (set all i o)
group_put t all i o knows so = record { each = λ g h. go g (Has-set all i o (Some g) h) }
  where
    go : (g : Refusals) → (o ≡ Some g) ⊎ Has all (Some g) → KnowsGroup t g
    go g (inl e) = subst (λ p. IfSome p (KnowsGroup t)) e so
    go g (inr h) = knows.each g h

pub ruleset group_steps = (no_groups, group_pushed, group_put)

-- Nodes that are forgotten twice.

set-again : {X : Type 0} (xs : List X) (i : ℕ) (x : X) → set (set xs i x) i x ≡ set xs i x
set-again [] i x = refl
set-again (y ∷ xs) zero x = refl
set-again (y ∷ xs) (suc i) x = ap (λ l. y ∷ l) (set-again xs i x)

without-again : (node : ℕ) (o : Option Refusals) → without node (without node o) ≡ without node o
without-again node None = refl
without-again node (Some g) =
    let slots : List (Option Refusal) = set g.slots (node % length g.slots) None in
    ap (λ (l : List (Option Refusal)). Some (record g { slots = l }))
    (ap (λ n. set slots (node % n) None) (length-set g.slots (node % length g.slots) None)
    ∙ set-again g.slots (node % length g.slots) None)

without-each : (node : ℕ) (all : List (Option Refusals)) →
    map (without node) (map (without node) all) ≡ map (without node) all
without-each node [] = refl
without-each node (o ∷ all) =
    ap (λ p. p ∷ map (without node) (map (without node) all)) (without-again node o)
    ∙ ap (λ l. without node o ∷ l) (without-each node all)

forget-again : (k : Option ℕ) (all : List (Option Refusals)) → forget k (forget k all) ≡ forget k all
forget-again None all = refl
forget-again (Some node) all = without-each node all

pub forget_same : (k l : Option ℕ) (all after : List (Option Refusals)) → l ≡ k → after ≡ forget k all →
    after ≡ forget l (forget k all)
forget_same k l all after same is =
    is ∙ sym (forget-again k all) ∙ ap (λ o. forget o (forget k all)) (sym same)

pub ruleset same_steps = (forget_same)

-- What is left where nodes are forgotten.

-- no more is remembered for the group, and nothing of the node
record IsFewer (k : Option ℕ) (g h : Refusals) : Type 0 where
  service : h.service ≡ g.service
  template : h.template ≡ g.template
  each : (m : ℕ) → (recalled h m ≡ None) ⊎ ((recalled h m ≡ recalled g m) × (k ≡ Some m → ⊥))

put-fewer : (node : ℕ) (g : Refusals) → IsFewer (Some node) g (put g node None)
put-fewer node g = record { service = refl; template = refl; each = λ m. at m (slot-put g node None m) }
  where
    at : (m : ℕ) → (recalled (put g node None) m ≡ None) ⊎ ((recalled (put g node None) m ≡ None)
        ⊎ ((recalled (put g node None) m ≡ recalled g m) × (node ≡ m → ⊥))) →
        (recalled (put g node None) m ≡ None)
        ⊎ ((recalled (put g node None) m ≡ recalled g m) × (Some node ≡ Some m → ⊥))
    at m (inl none) = inl none
    at m (inr (inl none)) = inl none
    at m (inr (inr kept)) = inr (kept.0, (λ e. kept.1 (some-is node m e)))

without-fewer : (node : ℕ) (all : List (Option Refusals)) (h : Refusals) → Has (map (without node) all) (Some h) →
    (g : Refusals) × Has all (Some g) × IsFewer (Some node) g h
without-fewer node all h has =
    let from = Has-map_cases (without node) all (Some h) has in go from.0 from.1 from.2
  where
    go : (o : Option Refusals) → Has all o → without node o ≡ Some h →
        (g : Refusals) × Has all (Some g) × IsFewer (Some node) g h
    go None there e = absurd (never h e)
    go (Some g) there e =
        (g, there, subst (λ (r : Refusals). IsFewer (Some node) g r) (some-is (put g node None) h e) (put-fewer node g))

forget-fewer : (k : Option ℕ) (all : List (Option Refusals)) (h : Refusals) → Has (forget k all) (Some h) →
    (g : Refusals) × Has all (Some g) × IsFewer k g h
forget-fewer None all h has =
    (h, has, record { service = refl; template = refl; each = λ m. inr (refl, (λ e. never m e)) })
forget-fewer (Some node) all h has = without-fewer node all h has

-- no more is remembered for the group, and nothing of the nodes that the changes touch
record AreLess (t : Tables) (cs : List Change) (g h : Refusals) : Type 0 where
  service : h.service ≡ g.service
  template : h.template ≡ g.template
  each : (m : ℕ) → (recalled h m ≡ None)
      ⊎ ((recalled h m ≡ recalled g m) × ((c : Change) → Has cs c → IsSpared t m c))

step-less : (t : Tables) (c : Change) (cs : List Change) (g a b h : Refusals) → IsFewer (touched t c).0 g a →
    IsFewer (touched t c).1 a b → AreLess t cs b h → AreLess t (c ∷ cs) g h
step-less t c cs g a b h first second less = record {
  service = less.service ∙ second.service ∙ first.service;
  template = less.template ∙ second.template ∙ first.template;
  each = λ m. at m (less.each m) (second.each m) (first.each m);
}
  where
    Leaves : ℕ → Type 0
    Leaves m = (recalled h m ≡ None)
        ⊎ ((recalled h m ≡ recalled g m) × ((d : Change) → Has (c ∷ cs) d → IsSpared t m d))

    all : (m : ℕ) → IsSpared t m c → ((d : Change) → Has cs d → IsSpared t m d) → (d : Change) → Has (c ∷ cs) d →
        IsSpared t m d
    all m own others d (inl e) = subst (IsSpared t m) e own
    all m own others d (inr there) = others d there

    at : (m : ℕ) → (recalled h m ≡ None) ⊎ ((recalled h m ≡ recalled b m) × ((d : Change) → Has cs d → IsSpared t m d)) →
        (recalled b m ≡ None) ⊎ ((recalled b m ≡ recalled a m) × ((touched t c).1 ≡ Some m → ⊥)) →
        (recalled a m ≡ None) ⊎ ((recalled a m ≡ recalled g m) × ((touched t c).0 ≡ Some m → ⊥)) → Leaves m
    at m (inl none) two one = inl none
    at m (inr same) (inl none) one = inl (same.0 ∙ none)
    at m (inr same) (inr two) (inl none) = inl (same.0 ∙ two.0 ∙ none)
    at m (inr same) (inr two) (inr one) = inr (same.0 ∙ two.0 ∙ one.0, all m (one.1, two.1) same.1)

each-less : (t : Tables) (cs : List Change) (all : List (Option Refusals)) (h : Refusals) →
    Has (forget_each t cs all) (Some h) → (g : Refusals) × Has all (Some g) × AreLess t cs g h
each-less t [] all h has =
    (h, has, record { service = refl; template = refl; each = λ m. inr (refl, (λ c there. absurd there)) })
each-less t (c ∷ cs) all h has =
    let last = each-less t cs (forget (touched t c).1 (forget (touched t c).0 all)) h has in
    let second = forget-fewer (touched t c).1 (forget (touched t c).0 all) last.0 last.1 in
    let first = forget-fewer (touched t c).0 all second.0 second.1 in
    (first.0, first.1, step-less t c cs first.0 second.0 last.0 h first.2 second.2 last.2)

length-forget : (k : Option ℕ) (all : List (Option Refusals)) → length (forget k all) ≡ length all
length-forget None all = refl
length-forget (Some node) all = length-map all (without node)

pub length-each : (t : Tables) (cs : List Change) (all : List (Option Refusals)) → length (forget_each t cs all) ≡ length all
length-each t [] all = refl
length-each t (c ∷ cs) all =
    length-each t cs (forget (touched t c).1 (forget (touched t c).0 all))
    ∙ length-forget (touched t c).1 (forget (touched t c).0 all) ∙ length-forget (touched t c).0 all

-- the same, written over a vector's items
pub each_written : (t : Tables) (cs : List Change) (all lent after : List (Option Refusals)) (len : ℕ) → lent ≡ all →
    len ≡ length all → after ≡ forget_each t cs lent →
    take len (after ++ drop (length after) all) ≡ forget_each t cs all
each_written t cs all lent after len same long is =
    let whole : after ≡ forget_each t cs all = is ∙ ap (forget_each t cs) same in
    let count : length after ≡ length all = ap (λ (l : List (Option Refusals)). length l) whole ∙ length-each t cs all in
    let rest : drop (length after) all ≡ [] = drop_of_length-le all (omega (arith, count)) in
    ap (λ (l : List (Option Refusals)). take len (after ++ l)) rest ∙ ap (take len) (append-nil after)
    ∙ take_all len after (omega (arith, count, long)) ∙ whole

-- What changes leave of a node that they don't touch.

pub touches-task : (m : ℕ) (x : Task) → (x.node ≡ Some m → ⊥) → is_placed_on m x ≡ false
touches-task m x other = go (is_placed_on m x) refl
  where
    go : (b : Bool) → is_placed_on m x ≡ b → b ≡ false
    go true is = absurd (other (on-is x.node m (both_are (is_placed x) (is_on m x) is).1))
    go false is = refl

touches-former : (t : Tables) (m id : ℕ) → IsUsable t → (former_node t id ≡ Some m → ⊥) → (y : Task) → Has t.tasks y →
    y.id ≡ id → is_placed_on m y ≡ false
touches-former t m id usable other y h same =
    let at : row_at task_id id t.tasks ≡ Some y =
    subst (λ n. row_at task_id n t.tasks ≡ Some y) same (row_at-Some task_id 0 t.tasks y usable.sound.ordered.tasks h) in
    touches-task m y (λ e. other (ap (λ (o : Option Task). on_row None (λ x. x.node) o) at ∙ e))

pub spares-tasks : (t : Tables) (m : ℕ) (c : Change) → IsUsable t → IsSpared t m c → Misses (is_placed_on m) t.tasks c
spares-tasks t m c usable spared = record {
  put = λ x e.
      let own : IsSpared t m (change.PutTask x) = subst (IsSpared t m) e spared in
      (touches-task m x own.0, touches-former t m x.id usable own.1);
  drop = λ id e.
      let own : IsSpared t m (change.DropTask id) = subst (IsSpared t m) e spared in
      touches-former t m id usable own.1;
}

spares-node : (t u : Tables) (m : ℕ) (c : Change) (n : Node) → IsSpared t m c → n.id ≡ m → Has (apply_change u c).nodes n →
    Has u.nodes n
spares-node t u m (change.PutNode p) n spared is h =
    let from = Has-map_cases (λ z. cond (eqb z.id p.id) p z) u.nodes n h in go from.0 (eqb from.0.id p.id) from.1 from.2
  where
    go : (z : Node) (b : Bool) → Has u.nodes z → cond b p z ≡ n → Has u.nodes n
    go z true there e = absurd (spared.0 (ap (λ (q : Node). Some q.id) e ∙ ap (λ (k : ℕ). Some k) is))
    go z false there e = subst (Has u.nodes) e there
spares-node t u m (change.PutService s) n spared is h = h
spares-node t u m (change.PutTask x) n spared is h =
    subst (λ (l : List Node). Has l n) (change-left u (change.PutTask x) refl) h
spares-node t u m (change.DropTask id) n spared is h = h
spares-node t u m (change.Keep a) n spared is h = h

spare-node : (t u : Tables) (m : ℕ) (cs : List Change) (n : Node) → ((c : Change) → Has cs c → IsSpared t m c) →
    n.id ≡ m → Has (apply_changes u cs).nodes n → Has u.nodes n
spare-node t u m [] n spared is h = h
spare-node t u m (c ∷ cs) n spared is h =
    spares-node t u m c n (spared c (inl refl)) is
    (spare-node t (apply_change u c) m cs n (λ d there. spared d (inr there)) is h)

refusal-stays : (t : Tables) (cs : List Change) (g h : Refusals) (m k : ℕ) → IsUsable t → h.service ≡ g.service →
    h.template ≡ g.template → ((c : Change) → Has cs c → IsSpared t m c) → IsRefusal t g m k →
    IsRefusal (apply_changes t cs) h m k
refusal-stays t cs g h m k usable service template spared so n x has is own =
    let node : (c : Change) → Has cs c → IsSpared t n.id c =
    λ c there. subst (λ j. IsSpared t j c) (sym is) (spared c there) in
    later-alike t (apply_changes t cs) x n
    (changes-leave (is_placed_on n.id) cs t (λ c there. spares-tasks t n.id c usable (node c there)))
    ∙ so n x (spare-node t t m cs n spared is has) is (own.0 ∙ service, own.1 ∙ template)

-- What is remembered before and after changes.

less-known : (t u : Tables) (cs : List Change) (g h : Refusals) → AreLess t cs g h → KnowsGroup t g →
    ((m k : ℕ) → ((c : Change) → Has cs c → IsSpared t m c) → IsRefusal t g m k → IsRefusal u h m k) → KnowsGroup u h
less-known t u cs g h less knows stays = record { each = λ m. at m (less.each m) }
  where
    still : (m : ℕ) (o : Option ℕ) → ((c : Change) → Has cs c → IsSpared t m c) → IfSome o (IsRefusal t g m) →
        IfSome o (IsRefusal u h m)
    still m None spared so = tt
    still m (Some k) spared so = stays m k spared so

    at : (m : ℕ) → (recalled h m ≡ None)
        ⊎ ((recalled h m ≡ recalled g m) × ((c : Change) → Has cs c → IsSpared t m c)) →
        IfSome (recalled h m) (IsRefusal u h m)
    at m (inl none) = subst (λ o. IfSome o (IsRefusal u h m)) (sym none) tt
    at m (inr same) =
        subst (λ o. IfSome o (IsRefusal u h m)) (sym same.0) (still m (recalled g m) same.1 (knows.each m))

pub changed_stays : (t : Tables) (cs : List Change) (all after : List (Option Refusals)) →
    after ≡ forget_each t cs all → KnowsRefusals t all → KnowsRefusals t after
changed_stays t cs all after is knows =
    subst (KnowsRefusals t) (sym is) (record {
      each = λ h has.
          let from = each-less t cs all h has in
          less-known t t cs from.0 h from.2 (knows.each from.0 from.1)
          (λ m k spared so n x there at own. so n x there at (own.0 ∙ from.2.service, own.1 ∙ from.2.template));
    })

pub changed_goes_on : (t : Tables) (cs : List Change) (all after : List (Option Refusals)) → IsUsable t →
    after ≡ forget_each t cs all → KnowsRefusals t all → KnowsRefusals (apply_changes t cs) after
changed_goes_on t cs all after usable is knows =
    subst (KnowsRefusals (apply_changes t cs)) (sym is) (record {
      each = λ h has.
          let from = each-less t cs all h has in
          less-known t (apply_changes t cs) cs from.0 h from.2 (knows.each from.0 from.1)
          (λ m k spared so. refusal-stays t cs from.0 h m k usable from.2.service from.2.template spared so);
    })

pub ruleset changed_steps = (changed_stays, changed_goes_on, no_groups)

-- where the tasks and the nodes stay
group-alike : (t u : Tables) (g : Refusals) → u.tasks ≡ t.tasks → u.nodes ≡ t.nodes → KnowsGroup t g → KnowsGroup u g
group-alike t u g tasks nodes knows = record { each = λ m. still m (recalled g m) (knows.each m) }
  where
    still : (m : ℕ) (o : Option ℕ) → IfSome o (IsRefusal t g m) → IfSome o (IsRefusal u g m)
    still m None so = tt
    still m (Some k) so = λ n x has is own.
        later-alike t u x n (ap (filter (is_placed_on n.id)) tasks)
        ∙ so n x (subst (λ (l : List Node). Has l n) nodes has) is own

pub refusals_alike : (t u : Tables) (all : List (Option Refusals)) → u.tasks ≡ t.tasks → u.nodes ≡ t.nodes →
    KnowsRefusals t all → KnowsRefusals u all
refusals_alike t u all tasks nodes knows = record { each = λ g h. group-alike t u g tasks nodes (knows.each g h) }

-- One node for one task.

pub not_taking : (t : Tables) (x : Task) (n : Node) → takes_tasks t n ≡ false → Some 0 ≡ refused_by t x n
not_taking t x n takes = sym (ap (λ (b : Bool). cond (not b) (Some 0) (refused_later t x n)) takes)

pub recalled_first : (t : Tables) (x : Task) (n : Node) (g : Refusals) (k : ℕ) → Has t.nodes n → takes_tasks t n ≡ true →
    IsIn g x × KnowsGroup t g → Some k ≡ recalled g n.id → Some k ≡ refused_by t x n
recalled_first t x n g k has takes own is =
    let so : IsRefusal t g n.id k = subst (λ o. IfSome o (IsRefusal t g n.id)) (sym is) (own.1.each n.id) in
    sym (later-decides t x n takes ∙ so n x has refl own.0)

-- all nodes with the id are this one, and all tasks of the group are refused it alike
pub later_refusal : (t : Tables) (x : Task) (n : Node) (g : Refusals) (k : ℕ) → IsUsable t → Has t.nodes n →
    IsIn g x → refused_later t x n ≡ Some k → IsRefusal t g n.id k
later_refusal t x n g k usable has own is p y there at of =
    let one : p ≡ n = one-node t.nodes p n usable.sound.ordered.nodes there has at in
    later-of t y x p (of.0 ∙ sym own.0) (of.1 ∙ sym own.1) ∙ ap (λ (q : Node). refused_later t x q) one ∙ is

pub first_refusal : (t : Tables) (x : Task) (n : Node) (g : Refusals) (k : ℕ) → IsUsable t → Has t.nodes n →
    takes_tasks t n ≡ true → IsIn g x → Some k ≡ refused_by t x n → IsRefusal t g n.id k
first_refusal t x n g k usable has takes own is =
    later_refusal t x n g k usable has own (sym (later-decides t x n takes) ∙ sym is)

pub ruleset refusal_steps = (not_taking, recalled_first, first_refusal)

-- Nodes that are left to ask.

pub record AreAmong (t : Tables) (left : List Node) : Type 0 where
  pub each : (n : Node) → Has left n → Has t.nodes n

pub all_among : (t : Tables) (left : List Node) → left ≡ t.nodes → AreAmong t left
all_among t left all = record { each = λ n h. subst (λ (l : List Node). Has l n) all h }

pub front_among : (t : Tables) (n : Node) (left more : List Node) → left ≡ n ∷ more → AreAmong t left → Has t.nodes n
front_among t n left more front among = among.each n (subst (λ (l : List Node). Has l n) (sym front) (inl refl))

pub rest_among : (t : Tables) (n : Node) (left more : List Node) → left ≡ n ∷ more → AreAmong t left → AreAmong t more
rest_among t n left more front among = record {
  each = λ m h. among.each m (subst (λ (l : List Node). Has l m) (sym front) (inr h));
}
