-- How classes of nodes compare: row by row of a table of their values, and by these and their tasks.
use Rattle.std.proofs.Common.{◌≡◌, ◌∙◌, ◌+◌, ◌<◌, ◌≤◌, ◌∷◌, ◌⊎◌, ℕ, List, None, Option, Some, [], ap, arith, get_or}
use Rattle.std.proofs.Common.{inl, inr, length, refl, replicate, set, subst, suc, sym, zero}
use Rattle.std.proofs.lemmas.List.{get_or-set_other, get_or-set_same, get_or_default, length-set}
use Rattle.std.specs.Borrow.{Bor}
use Rattle.std.specs.Ordering.{nat_cmp, ordering_then}
use Rattle.std.specs.Prelude.{IfSome, filter}
use Rattle.std.specs.declared.cmp.Ordering.TheVariants.{Equal, Greater, Less}
use Rattle.std.specs.declared.cmp.Ordering.{Ordering}
use Rattle.swarm_objects.specs.Nodes.BestNode.{branch_load, spread_cmp}
use Rattle.swarm_objects.specs.Tasks.Words.{is_of}
use Rattle.swarm_objects.specs.Usable.{IsUsable}
use Rattle.swarm_objects.specs.World.{Tables}
use Rattle.swarm_objects.specs.declared.nodes.Node.{Node}
use Rattle.swarm_objects.specs.declared.tasks.Task.{Task}
use Rattle.swarm_objects.specs.declared.templates.Key.{Key}
use Rattle.swarm_sched.proofs.ClassLoading.{told_load}
use Rattle.swarm_sched.proofs.Knowing.{decide}
use Rattle.swarm_sched.specs.Inside.Branches.{preferences}
use Rattle.swarm_sched.specs.Inside.ClassLoads.{AreLoads}
use Rattle.swarm_sched.specs.Inside.ClassTable.{AreRows, AreTold, IsRow, IsTold, value_order}
use Rattle.swarm_sched.specs.Inside.Classes.{AreOrders, AreSorted, AreValues, HaveClasses, IsEntry, IsOrder}
use Rattle.swarm_sched.specs.declared.classes.ClassedNode.{ClassedNode}
use Rattle.swarm_sched.specs.declared.classes.TheConstants.{CLASSES}

-- Class by class.

pub row_none : (k : Key) (heads : List (Bor Node)) (n : Node) →
    IsRow k heads n 0 (replicate CLASSES Equal)
row_none k heads n = record { each = λ class d lt. absurd (omega (arith, lt)); all = refl }

pub row_one : (k : Key) (heads : List (Bor Node)) (n : Node) (count : ℕ) (row : List Ordering) (o : Ordering)
    (e : Bor Node) → count < length heads → length heads ≤ CLASSES → o ≡ value_order k (get_or heads count e).now n →
    IsRow k heads n count row → IsRow k heads n (count + 1) (set row count o)
row_one k heads n count row o e lt few is so = record {
  each = λ class d below. at class d below (decide class count);
  all = length-set row count o ∙ so.all;
}
  where
    at : (class : ℕ) (d : Bor Node) → class < count + 1 → (class ≡ count) ⊎ (class ≡ count → ⊥) →
        get_or (set row count o) class Less ≡ value_order k (get_or heads class d).now n
    at class d below (inl same) =
        ap (λ j. get_or (set row count o) j Less) same
        ∙ get_or-set_same row count o Less (omega (arith, lt, few, so.all)) ∙ is
        ∙ ap (λ (h : Bor Node). value_order k h.now n) (get_or_default heads count e d lt)
        ∙ ap (λ j. value_order k (get_or heads j d).now n) (sym same)
    at class d below (inr off) =
        get_or-set_other row count class o Less off ∙ so.each class d (omega (arith, below, off))

pub rows_none : (k : Key) (heads : List (Bor Node)) (rows : List (List Ordering)) → length rows ≡ CLASSES →
    AreRows k heads 0 rows
rows_none k heads rows all = record { each = λ class d lt. absurd (omega (arith, lt)); all = all }

pub rows_one : (k : Key) (heads : List (Bor Node)) (count : ℕ) (rows : List (List Ordering)) (row : List Ordering)
    (e : Bor Node) → count < length heads → length heads ≤ CLASSES →
    IsRow k heads (get_or heads count e).now (length heads) row → AreRows k heads count rows →
    AreRows k heads (count + 1) (set rows count row)
rows_one k heads count rows row e lt few is so = record {
  each = λ class d below. at class d below (decide class count);
  all = length-set rows count row ∙ so.all;
}
  where
    at : (class : ℕ) (d : Bor Node) → class < count + 1 → (class ≡ count) ⊎ (class ≡ count → ⊥) →
        IsRow k heads (get_or heads class d).now (length heads) (get_or (set rows count row) class [])
    at class d below (inl same) =
        subst (λ (r : List Ordering). IsRow k heads (get_or heads class d).now (length heads) r)
        (sym (ap (λ j. get_or (set rows count row) j []) same
        ∙ get_or-set_same rows count row [] (omega (arith, lt, few, so.all))))
        (subst (λ (h : Bor Node). IsRow k heads h.now (length heads) row)
        (get_or_default heads count e d lt ∙ ap (λ j. get_or heads j d) (sym same)) is)
    at class d below (inr off) =
        subst (λ (r : List Ordering). IsRow k heads (get_or heads class d).now (length heads) r)
        (sym (get_or-set_other rows count class row [] off)) (so.each class d (omega (arith, below, off)))

none-at : (n j : ℕ) → ◌≡◌ {A = Option Ordering} (get_or (replicate n None) j None) None
none-at zero j = refl
none-at (suc n) zero = refl
none-at (suc n) (suc j) = none-at n j

pub told_none : (loads : List ℕ) (load : ℕ) (values : List Ordering) →
    AreTold loads load values 0 (replicate CLASSES None)
told_none loads load values =
    record { told = λ class lt. absurd (omega (arith, lt)); left = λ class le. none-at CLASSES class; all = refl }

pub told_one : (loads : List ℕ) (load : ℕ) (values : List Ordering) (count : ℕ) (each : List (Option Ordering))
    (o : Ordering) → count < CLASSES →
    o ≡ ordering_then (nat_cmp (get_or loads count 0) load) (get_or values count Less) →
    AreTold loads load values count each → AreTold loads load values (count + 1) (set each count (Some o))
told_one loads load values count each o lt is so = record {
  told = λ class below. at class below (decide class count);
  left = λ class le.
      get_or-set_other each count class (Some o) None (λ same. omega (arith, le, same))
      ∙ so.left class (omega (arith, le));
  all = length-set each count (Some o) ∙ so.all;
}
  where
    at : (class : ℕ) → class < count + 1 → (class ≡ count) ⊎ (class ≡ count → ⊥) →
        get_or (set each count (Some o)) class None
        ≡ Some (ordering_then (nat_cmp (get_or loads class 0) load) (get_or values class Less))
    at class below (inl same) =
        ap (λ j. get_or (set each count (Some o)) j None) same
        ∙ get_or-set_same each count (Some o) None (omega (arith, lt, so.all)) ∙ ap Some is
        ∙ ap (λ j. Some (ordering_then (nat_cmp (get_or loads j 0) load) (get_or values j Less))) (sym same)
    at class below (inr off) =
        get_or-set_other each count class (Some o) None off ∙ so.told class (omega (arith, below, off))

-- So the classes compare with the best node's.

then-equal : (o : Ordering) → ordering_then o Equal ≡ o
then-equal Less = refl
then-equal Equal = refl
then-equal Greater = refl

told_order : (t : Tables) (service : ℕ) (keys : List Key) (sorted : List ClassedNode) (loads : List ℕ)
    (values : List (List Ordering)) (c e : ClassedNode) (b n : Node) (o : Ordering) → IsUsable t →
    AreSorted t.nodes keys sorted → AreValues t.nodes keys sorted values →
    ((keys ≡ [] → ⊥) → AreLoads sorted (filter (is_of service) t.tasks) loads) → IsEntry t.nodes sorted c b →
    IsEntry t.nodes sorted e n → IsTold keys loads (get_or values c.class []) c.class e.class o →
    o ≡ spread_cmp t service [] keys n b
told_order t service [] sorted loads values c e b n o usable are so counted best own told = told
told_order t service (k ∷ []) sorted loads values c e b n o usable are so counted best own told =
    told ∙ ap (λ l. ordering_then (nat_cmp l (get_or loads c.class 0)) value) (load e n own)
    ∙ ap (λ l. ordering_then (nat_cmp (branch_load t service (k ∷ []) n) l) value) (load c b best)
    ∙ ap (ordering_then (nat_cmp (branch_load t service (k ∷ []) n) (branch_load t service (k ∷ []) b)))
    (so.each k refl e c n b own best ∙ sym (then-equal (value_order k n b)))
  where
    some : k ∷ [] ≡ [] → ⊥
    some none = absurd cc

    value : Ordering
    value = get_or (get_or values c.class []) e.class Less

    load : (f : ClassedNode) (m : Node) → IsEntry t.nodes sorted f m →
        get_or loads f.class 0 ≡ branch_load t service (k ∷ []) m
    load f m = told_load t service (k ∷ []) sorted loads f m usable are some (counted some)
told_order t service (k ∷ l ∷ keys) sorted loads values c e b n o usable are so counted best own told = absurd told

pub orders_told : (t : Tables) (x : Task) (sorted : List ClassedNode) (count : ℕ) (loads : List ℕ)
    (values : List (List Ordering)) (each : List (Option Ordering)) (c : ClassedNode) (b : Node)
    (seen : List Key) → IsUsable t → AreSorted t.nodes x.template.spread sorted →
    AreValues t.nodes x.template.spread sorted values → HaveClasses count sorted →
    ((x.template.spread ≡ [] → ⊥) → AreLoads sorted (filter (is_of x.service) t.tasks) loads) →
    IsEntry t.nodes sorted c b → seen ≡ x.template.spread →
    ((k : ℕ) → k < count → IfSome (get_or each k None)
    (IsTold seen loads (get_or values c.class []) c.class k)) →
    AreOrders (preferences t x) sorted each (Some b)
orders_told t x sorted count loads values each c b seen usable are so few counted best same told = record {
  each = λ e n own. go e n own (get_or each e.class None) (told e.class (few.0 e own.there));
}
  where
    keys : List Key
    keys = x.template.spread

    go : (e : ClassedNode) (n : Node) → IsEntry t.nodes sorted e n → (r : Option Ordering) →
        IfSome r (IsTold seen loads (get_or values c.class []) c.class e.class) →
        IfSome r (λ o. IsOrder (preferences t x) o n (Some b))
    go e n own None is = tt
    go e n own (Some o) is =
        told_order t x.service keys sorted loads values c e b n o usable are so counted best own
        (subst (λ l. IsTold l loads (get_or values c.class []) c.class e.class o) same is)

pub ruleset row_steps = (row_none, row_one, rows_none, rows_one)
