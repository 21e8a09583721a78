-- What is remembered of the tasks that were placed last: the only group of a list, and what it says of a node.
use Rattle.std.proofs.Common.{◌≡◌, ◌∙◌, ◌∷◌, ℕ, Bool, List, None, Option, Some, [], ap, arith, cond, eqb, false, inl}
use Rattle.std.proofs.Common.{inr, length, not, refl, subst, sym, true}
use Rattle.std.proofs.lemmas.Bool.Decides.{nat_tests}
use Rattle.std.specs.List.{list_any}
use Rattle.std.specs.Option.{option_eq}
use Rattle.std.specs.Prelude.{IfSome, find, is_none, is_some, nat_le, nat_lt, slice_index_or, sum_by}
use Rattle.std.specs.Prelude.{◌&&◌, ◌+◌, ◌==◌, ◌||◌}
use Rattle.swarm_filters.specs.Tested.{is_open}
use Rattle.swarm_objects.proofs.Placing.{here_is}
use Rattle.swarm_objects.proofs.RowLemmas.{row_at-Some}
use Rattle.swarm_objects.proofs.Tests.{any_filter, any_same}
use Rattle.swarm_objects.specs.ChangeLists.{apply_changes}
use Rattle.swarm_objects.specs.Nodes.Filters.{has_free_host_ports, has_resources, here, is_supported, is_tested_on}
use Rattle.swarm_objects.specs.Nodes.Filters.{passes, refused_by, takes_tasks}
use Rattle.swarm_objects.specs.Nodes.Holdings.{is_host_port_used, is_placed_on, reserved_cpu, reserved_mem}
use Rattle.swarm_objects.specs.Nodes.Holdings.{task_cpu, task_mem, tasks_placed_on}
use Rattle.swarm_objects.specs.Nodes.Words.{meets_all}
use Rattle.swarm_objects.specs.Rows.{Has, put_row, row_at, task_id}
use Rattle.swarm_objects.specs.Rules.Services.{is_host_clash}
use Rattle.swarm_objects.specs.Same.{same_number}
use Rattle.swarm_objects.specs.Tasks.New.{with_task}
use Rattle.swarm_objects.specs.Tasks.Words.{is_live, is_of, is_on, is_placed}
use Rattle.swarm_objects.specs.Usable.{IsUsable}
use Rattle.swarm_objects.specs.World.{Tables}
use Rattle.swarm_objects.specs.declared.nodes.Node.{Node}
use Rattle.swarm_objects.specs.declared.rows.Change.TheVariants as change
use Rattle.swarm_objects.specs.declared.rows.Change.{Change}
use Rattle.swarm_objects.specs.declared.tasks.Task.{Task}
use Rattle.swarm_objects.specs.declared.templates.Port.{Port}
use Rattle.swarm_sched.proofs.Knowing.{adds-alike, sum-put}
use Rattle.swarm_sched.proofs.Remembering.{first_refusal, later_refusal, length-each, not_taking, recalled_first}
use Rattle.swarm_sched.specs.Inside.Known.{AreSpared, CountsAlike, adds, one_if}
use Rattle.swarm_sched.specs.Inside.KnownRefusals.{IsIn, IsRefusal, IsRefused, KnowsGroup, KnowsOwn, KnowsRefusals}
use Rattle.swarm_sched.specs.Inside.KnownRefusals.{Refusals, forget_each, recalled, refused_later}

-- The only group of a list.

some-is : {X : Type 0} (a b : X) → Some a ≡ Some b → a ≡ b
some-is a b e = cc

pub last_known : (t : Tables) (all : List (Option Refusals)) (o : Option Refusals) → all ≡ o ∷ [] →
    IfSome o (KnowsGroup t) → KnowsRefusals t all
last_known t all o is knows = subst (KnowsRefusals t) (sym is) (record { each = λ g h. go g h })
  where
    go : (g : Refusals) → Has (o ∷ []) (Some g) → KnowsGroup t g
    go g (inl e) = subst (λ p. IfSome p (KnowsGroup t)) e knows
    go g (inr h) = absurd h

pub no_last : (t : Tables) (all : List (Option Refusals)) → all ≡ None ∷ [] → KnowsRefusals t all
no_last t all is = last_known t all None is tt

pub none_last : (t : Tables) (all : List (Option Refusals)) (o : Option Refusals) → all ≡ o ∷ [] →
    is_none o ≡ true → KnowsRefusals t all
none_last t all o is none = last_known t all o is (go o none)
  where
    go : (p : Option Refusals) → is_none p ≡ true → IfSome p (KnowsGroup t)
    go None e = tt
    go (Some g) e = let both : false ≡ true = e in absurd cc

-- it is known
pub last_is : (t : Tables) (all : List (Option Refusals)) (o : Option Refusals) → all ≡ o ∷ [] → KnowsRefusals t all →
    IfSome o (KnowsGroup t)
last_is t all o is knows = go o is
  where
    go : (p : Option Refusals) → all ≡ p ∷ [] → IfSome p (KnowsGroup t)
    go None e = tt
    go (Some g) e = knows.each g (subst (λ (l : List (Option Refusals)). Has l (Some g)) (sym e) (inl refl))

pub last_own : (t : Tables) (x : Task) (g : Refusals) → IsIn g x → KnowsGroup t g → KnowsOwn t x (Some g)
last_own t x g own knows = (own, knows)

-- the slice of the only one, written back
pub one_written : (t : Tables) (cs : List Change) (o d : Option Refusals) (lent after : List (Option Refusals)) →
    lent ≡ o ∷ [] → after ≡ forget_each t cs lent → slice_index_or after 0 d ∷ [] ≡ forget_each t cs (o ∷ [])
one_written t cs o d lent after same is =
    let whole : after ≡ forget_each t cs (o ∷ []) = is ∙ ap (forget_each t cs) same in
    go after (ap (λ (l : List (Option Refusals)). length l) whole ∙ length-each t cs (o ∷ [])) ∙ whole
  where
    go : (l : List (Option Refusals)) → length l ≡ 1 → slice_index_or l 0 d ∷ [] ≡ l
    go [] e = absurd (omega (arith, e))
    go (p ∷ []) e = refl
    go (p ∷ q ∷ l) e = absurd (omega (arith, e))

-- A task that counts as the one that it replaces leaves all refusals as they are.

-- where the node's tasks come to this
refused-with : Task → Node → ℕ → ℕ → Bool → ℕ → Option ℕ
refused-with x n cpu mem free own =
    let fits = nat_le (cpu + x.template.cpu) n.cpu && nat_le (mem + x.template.mem) n.mem in
    let below = x.template.max_replicas == 0 || nat_lt own x.template.max_replicas in
    cond (not fits) (Some 1)
    (cond (not (meets_all x.template.constraints n)) (Some 2)
    (cond (not (is_supported x.template.platforms n)) (Some 3)
    (cond (not free) (Some 4) (cond (not below) (Some 5) None))))

refused-is : (t : Tables) (x : Task) (n : Node) →
    refused_later t x n
    ≡ refused-with x n (reserved_cpu t n.id) (reserved_mem t n.id) (has_free_host_ports t x n) (here t n.id x.service)
unfolding refused-with
refused-is t x n = refl

any-put : (p : Task → Bool) (x : Task) (tasks : List Task) → ((y : Task) → Has tasks y → y.id ≡ x.id → p x ≡ p y) →
    list_any p (put_row task_id x tasks) ≡ list_any p tasks
any-put p x [] same = refl
any-put p x (y ∷ tasks) same = go (eqb y.id x.id) refl (any-put p x tasks (λ z h e. same z (inr h) e))
  where
    go : (b : Bool) → eqb y.id x.id ≡ b → list_any p (put_row task_id x tasks) ≡ list_any p tasks →
        list_any p (cond b x y ∷ put_row task_id x tasks) ≡ list_any p (y ∷ tasks)
    go true is rest =
        ap (λ b. b || list_any p (put_row task_id x tasks)) (same y (inl refl) (grind (arith, nat_tests, is)))
        ∙ ap (λ b. p y || b) rest
    go false is rest = ap (λ b. p y || b) rest

later-put : (t : Tables) (old new x : Task) (n : Node) → IsUsable t → row_at task_id new.id t.tasks ≡ Some old →
    CountsAlike old new → refused_later (record t { tasks = put_row task_id new t.tasks }) x n ≡ refused_later t x n
later-put t old new x n usable row alike =
    refused-is u x n
    ∙ ap (λ k. refused-with x n k (reserved_mem u n.id) (has_free_host_ports u x n) (here u n.id x.service)) cpu
    ∙ ap (λ k. refused-with x n (reserved_cpu t n.id) k (has_free_host_ports u x n) (here u n.id x.service)) mem
    ∙ ap (λ b. refused-with x n (reserved_cpu t n.id) (reserved_mem t n.id) b (here u n.id x.service)) free
    ∙ ap (λ k. refused-with x n (reserved_cpu t n.id) (reserved_mem t n.id) (has_free_host_ports t x n) k) own
    ∙ sym (refused-is t x n)
  where
    u : Tables
    u = record t { tasks = put_row task_id new t.tasks }

    is_own : Task → Bool
    is_own y = is_of x.service y && is_live y

    sums : (f : Task → ℕ) → f new ≡ f old → sum_by f (tasks_placed_on u n.id) ≡ sum_by f (tasks_placed_on t n.id)
    sums f same =
        let put = sum-put t new old n.id f usable row in
        let adds : adds f n.id old ≡ adds f n.id new = adds-alike f n.id old new alike same in
        omega (arith, put, adds)

    cpu : reserved_cpu u n.id ≡ reserved_cpu t n.id
    cpu = sums task_cpu alike.cpu

    mem : reserved_mem u n.id ≡ reserved_mem t n.id
    mem = sums task_mem alike.mem

    own : here u n.id x.service ≡ here t n.id x.service
    own =
        sym (here_is u n.id x.service)
        ∙ sums (one_if is_own)
        (ap (λ (k : ℕ). cond (eqb k x.service && is_live new) 1 0) alike.service
        ∙ ap (λ b. cond (is_of x.service old && b) 1 0) alike.live)
        ∙ here_is t n.id x.service

    holds : Port → Task → Bool
    holds p y = is_placed_on n.id y && list_any (is_host_clash p) y.template.host_ports

    same-holds : (p : Port) (y : Task) → Has t.tasks y → y.id ≡ new.id → holds p new ≡ holds p y
    same-holds p y h same =
        let found : row_at task_id new.id t.tasks ≡ Some y =
        subst (λ k. row_at task_id k t.tasks ≡ Some y) same
        (row_at-Some task_id 0 t.tasks y usable.sound.ordered.tasks h) in
        let clash = list_any (is_host_clash p) new.template.host_ports in
        ap (λ b. b && is_on n.id new && clash) alike.placed
        ∙ ap (λ o. is_placed old && option_eq same_number o (Some n.id) && clash) alike.node
        ∙ ap (λ (l : List Port). is_placed_on n.id old && list_any (is_host_clash p) l) alike.ports
        ∙ ap (holds p) (some-is old y (sym row ∙ found))

    used : (p : Port) → is_host_port_used (tasks_placed_on u n.id) p ≡ is_host_port_used (tasks_placed_on t n.id) p
    used p =
        let clash = λ (y : Task). list_any (is_host_clash p) y.template.host_ports in
        any_filter (is_placed_on n.id) clash (put_row task_id new t.tasks)
        ∙ any-put (holds p) new t.tasks (same-holds p) ∙ sym (any_filter (is_placed_on n.id) clash t.tasks)

    free : has_free_host_ports u x n ≡ has_free_host_ports t x n
    free =
        ap not
        (any_same (is_host_port_used (tasks_placed_on u n.id)) (is_host_port_used (tasks_placed_on t n.id))
        x.template.host_ports used)

pub spared_known : (t : Tables) (cs : List Change) (all : List (Option Refusals)) → IsUsable t → AreSpared t cs →
    KnowsRefusals t all → KnowsRefusals (apply_changes t cs) all
spared_known t cs all usable spared knows =
    subst (λ v. KnowsRefusals v all) (sym (ap (apply_changes t) spared.one ∙ there)) (record { each = group })
  where
    u : Tables
    u = record t { tasks = put_row task_id spared.new t.tasks }

    there : apply_changes t (change.PutTask spared.new ∷ []) ≡ u
    there = ap (λ b. cond b u (with_task t spared.new)) (ap is_some spared.row)

    still : (g : Refusals) (m : ℕ) (o : Option ℕ) → IfSome o (IsRefusal t g m) → IfSome o (IsRefusal u g m)
    still g m None so = tt
    still g m (Some k) so = λ n x has is own.
        later-put t spared.old spared.new x n usable spared.row spared.alike ∙ so n x has is own

    group : (g : Refusals) → Has all (Some g) → KnowsGroup u g
    group g h = record { each = λ m. still g m (recalled g m) ((knows.each g h).each m) }

pub ruleset last_steps = (last_known, no_last, none_last, last_is, last_own)

-- One node for one task.

-- a filter that is remembered refuses the task the node
pub refused_shut : (t : Tables) (x : Task) (n : Node) (o : Option Refusals) → Has t.nodes n → KnowsOwn t x o →
    IsRefused o n.id → is_open t x n ≡ false
unfolding is_open
refused_shut t x n None has own is = absurd is
refused_shut t x n (Some g) has own is =
    shut (is_tested_on x.place n.id) (refused_by t x n) (some-refused (takes_tasks t n) refl)
  where
    shut : (b : Bool) (o : Option ℕ) → is_some o ≡ true → (b && is_none o) ≡ false
    shut b None e = let both : false ≡ true = e in absurd cc
    shut true (Some k) e = refl
    shut false (Some k) e = refl

    recalled-some : (o : Option ℕ) → is_some o ≡ true → o ≡ recalled g n.id → takes_tasks t n ≡ true →
        is_some (refused_by t x n) ≡ true
    recalled-some None e at takes = let both : false ≡ true = e in absurd cc
    recalled-some (Some k) e at takes = sym (ap is_some (recalled_first t x n g k has takes own at))

    some-refused : (b : Bool) → takes_tasks t n ≡ b → is_some (refused_by t x n) ≡ true
    some-refused true takes = recalled-some (recalled g n.id) is refl takes
    some-refused false takes = sym (ap is_some (not_taking t x n takes))

-- what refuses it is remembered
pub refusal_found : (t : Tables) (x : Task) (n : Node) (o : Option Refusals) (k : ℕ) → IsUsable t →
    IfSome o (λ g. Has t.nodes n) → KnowsOwn t x o → Some k ≡ refused_by t x n → (k ≡ 0 → ⊥) →
    IfSome o (λ g. IsRefusal t g n.id k)
refusal_found t x n None k usable has own is later = tt
refusal_found t x n (Some g) k usable has own is later =
    first_refusal t x n g k usable has (taking (takes_tasks t n) refl) own.0 is
  where
    taking : (b : Bool) → takes_tasks t n ≡ b → takes_tasks t n ≡ true
    taking true takes = takes
    taking false takes = let both : Some 0 ≡ Some k = not_taking t x n takes ∙ sym is in
        let same : 0 ≡ k = cc in
        absurd (later (sym same))

-- that it has no room is remembered: of the later filters that is the first
pub full_found : (t : Tables) (x : Task) (n : Node) (o : Option Refusals) → IsUsable t →
    IfSome o (λ g. Has t.nodes n) → KnowsOwn t x o → has_resources t x n ≡ false →
    IfSome o (λ g. IsRefusal t g n.id 1)
full_found t x n None usable has own full = tt
full_found t x n (Some g) usable has own full =
    later_refusal t x n g 1 usable has own.0
    (ap (λ b. cond (not b) (Some 1) (find (λ k. not (passes t x n k)) (2 ∷ 3 ∷ 4 ∷ 5 ∷ []))) full)

pub refusal_noted : (t : Tables) (x : Task) (o : Option Refusals) (g h : Refusals) (node filter : ℕ) → o ≡ Some g →
    KnowsOwn t x o → ((filter ≡ 0 → ⊥) → IfSome o (λ p. IsRefusal t p node filter)) → (filter ≡ 0 → ⊥) →
    ((u : Tables) → KnowsGroup u g → IsRefusal u g node filter → KnowsGroup u h) →
    ((y : Task) → IsIn g y → IsIn h y) → IsIn h x × KnowsGroup t h
refusal_noted t x o g h node filter is own so later knows among =
    let mine : KnowsOwn t x (Some g) = subst (KnowsOwn t x) is own in
    let refuses : IsRefusal t g node filter = subst (λ q. IfSome q (λ p. IsRefusal t p node filter)) is (so later) in
    (among x mine.0, knows t mine.1 refuses)

-- where there is a group
pub if_there : {P : Type 0} (o : Option Refusals) → P → IfSome o (λ g. P)
if_there None p = tt
if_there (Some g) p = p
