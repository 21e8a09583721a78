-- The nodes of each class by rising live tasks: what changes of rows leave of it, and stale nodes that get their
-- numbers anew.
use Rattle.std.proofs.Common.{◌≡◌, ◌∙◌, ◌+◌, ◌-◌, ◌∷◌, ◌<◌, ◌≤◌, ◌⊎◌, ℕ, Bool, List, None, Option, Some, []}
use Rattle.std.proofs.Common.{ap, arith, cond, eqb, false, get_or, inl, inr, is_some, length, ltb, not, refl, set}
use Rattle.std.proofs.Common.{subst, suc, sym, take, true, zero}
use Rattle.std.proofs.lemmas.Bool.Decides.{nat_tests}
use Rattle.std.proofs.lemmas.List.Sums.{sum_by-append, sum_by-cons}
use Rattle.std.proofs.lemmas.List.{get_or-set_other, get_or-set_same, length-set}
use Rattle.std.specs.List.{slice_get}
use Rattle.std.specs.Prelude.{count_by, sum_by, ◌++◌, ◌&&◌}
use Rattle.swarm_objects.proofs.Gaps.{Has-with_row}
use Rattle.swarm_objects.proofs.Placing.{load_is}
use Rattle.swarm_objects.proofs.RowChanges.{row_at-with_row}
use Rattle.swarm_objects.proofs.RowLemmas.{Has-append_left, Has-append_right, Has-from_row_at}
use Rattle.swarm_objects.proofs.RowLemmas.{number_above, row_at-Some}
use Rattle.swarm_objects.specs.ChangeLists.{apply_change, apply_changes}
use Rattle.swarm_objects.specs.Nodes.BestNode.{load}
use Rattle.swarm_objects.specs.Nodes.Holdings.{is_placed_on, tasks_placed_on}
use Rattle.swarm_objects.specs.Rows.{Has, IsRising, RisesFrom, drop_row, has_row, put_row, row_at, task_id, with_row}
use Rattle.swarm_objects.specs.Tasks.New.{with_task}
use Rattle.swarm_objects.specs.Tasks.Words.{is_live}
use Rattle.swarm_objects.specs.Usable.{IsUsable}
use Rattle.swarm_objects.specs.World.{Tables}
use Rattle.swarm_objects.specs.declared.nodes.Node.{Node}
use Rattle.swarm_objects.specs.declared.rows.Change.TheVariants as change
use Rattle.swarm_objects.specs.declared.rows.Change.{Change}
use Rattle.swarm_objects.specs.declared.services.Service.{Service}
use Rattle.swarm_objects.specs.declared.tasks.Attempt.{Attempt}
use Rattle.swarm_objects.specs.declared.tasks.Task.{Task}
use Rattle.swarm_sched.proofs.Knowing.{changes-leave, decide, sum-put}
use Rattle.swarm_sched.proofs.Remembering.{spares-tasks, touches-task}
use Rattle.swarm_sched.specs.Inside.Classes.{AreFew, entry_id}
use Rattle.swarm_sched.specs.Inside.Known.{adds, one_if}
use Rattle.swarm_sched.specs.Inside.Ranks.{AreCurrent, AreRanked, AreRanking, AreRight, AreStaler, AreTouching}
use Rattle.swarm_sched.specs.Inside.Ranks.{AreUnranked, HaveSame, IsEntered, IsLeft, IsNumbered, IsPut, IsRight}
use Rattle.swarm_sched.specs.Inside.Ranks.{IsStale, Ranking, of_class}
use Rattle.swarm_sched.specs.Inside.Touching.{IsSpared, former_node, touched}
use Rattle.swarm_sched.specs.declared.classes.ClassedNode.{ClassedNode}
use Rattle.swarm_sched.specs.declared.classes.TheConstants.{CLASSES}
use Rattle.swarm_timers.specs.Timers.{Timer, timer_owner, with_time}

decide-some : (o : Option ℕ) (m : ℕ) → (o ≡ Some m) ⊎ (o ≡ Some m → ⊥)
decide-some None m = inr (λ e. absurd cc)
decide-some (Some n) m = elim (decide n m) [
  | inl same ↦ inl (ap (λ (k : ℕ). Some k) same)
  | inr other ↦ inr (λ e. let both : Some n ≡ Some m = e in let same : n ≡ m = cc in other same)
]

none-left : {X : Type 0} (left : List X) → length left ≡ 0 → left ≡ []
none-left [] e = refl
none-left (x ∷ left) e = absurd (omega (arith, e))

-- No nodes.

pub empty_none : (k : ℕ) → get_or {A = List Timer} [] k [] ≡ []
empty_none k = refl

more-empty : (classes : List (List Timer)) → ((k : ℕ) → get_or classes k [] ≡ []) → (k : ℕ) →
    get_or (classes ++ [] ∷ []) k [] ≡ []
more-empty [] none zero = refl
more-empty [] none (suc k) = refl
more-empty (c ∷ cs) none zero = none zero
more-empty (c ∷ cs) none (suc k) = more-empty cs (λ j. none (suc j)) k

pub empty_more : (classes after : List (List Timer)) → ((k : ℕ) → get_or classes k [] ≡ []) →
    after ≡ classes ++ [] ∷ [] → (k : ℕ) → get_or after k [] ≡ []
empty_more classes after none is k = subst (λ list. get_or list k [] ≡ []) (sym is) (more-empty classes none k)

pub ruleset empty_steps = (empty_none, empty_more)

-- One row among those by rising owner.

with-cases : (new m : Timer) (rows : List Timer) → Has (with_row timer_owner new rows) m → (new ≡ m) ⊎ Has rows m
with-cases new m [] (inl e) = inl e
with-cases new m [] (inr h) = absurd h
with-cases new m (x ∷ rows) h =
    go (ltb new.owner x.owner) (eqb new.owner x.owner) (with-cases new m rows) h
  where
    go : (a b : Bool) → (Has (with_row timer_owner new rows) m → (new ≡ m) ⊎ Has rows m) →
        Has (cond a (new ∷ x ∷ rows) (cond b (new ∷ rows) (x ∷ with_row timer_owner new rows))) m →
        (new ≡ m) ⊎ ((x ≡ m) ⊎ Has rows m)
    go true b rest (inl e) = inl e
    go true b rest (inr h) = inr h
    go false true rest (inl e) = inl e
    go false true rest (inr h) = inr (inr h)
    go false false rest (inl e) = inr (inl e)
    go false false rest (inr h) = elim (rest h) [ inl e ↦ inl e | inr k ↦ inr (inr k) ]

has-with : (new : Timer) (id : ℕ) (rows : List Timer) → has_row timer_owner id rows ≡ true →
    has_row timer_owner id (with_row timer_owner new rows) ≡ true
has-with new id rows there =
    ap is_some (row_at-with_row timer_owner id new rows) ∙ go (eqb new.owner id)
  where
    go : (b : Bool) → is_some (cond b (Some new) (row_at timer_owner id rows)) ≡ true
    go true = refl
    go false = there

own-with : (node count : ℕ) (rows : List Timer) → has_row timer_owner node (with_time node count rows) ≡ true
own-with node count rows =
    ap is_some (row_at-with_row timer_owner node (record { owner = node; at = count }) rows)
    ∙ ap (λ b. is_some (cond b (Some (record { owner = node; at = count })) (row_at timer_owner node rows)))
    (let same : eqb node node ≡ true = grind (arith, nat_tests) in same)

row-of : (rows : List Timer) (x : Timer) → IsRising timer_owner rows → Has rows x →
    row_at timer_owner x.owner rows ≡ Some x
row-of [] x r h = absurd h
row-of (y ∷ rows) x r (inl e) = grind (arith, nat_tests, e)
row-of (y ∷ rows) x r (inr h) =
    let above = number_above timer_owner y.owner rows x r h in
    grind (arith, nat_tests, above, row_at-Some timer_owner y.owner rows x r h)

one-row : (rows : List Timer) (x y : Timer) → IsRising timer_owner rows → Has rows x → Has rows y → x.owner ≡ y.owner →
    x ≡ y
one-row rows x y r h k same =
    let both : Some x ≡ Some y =
    sym (row-of rows x r h) ∙ ap (λ n. row_at timer_owner n rows) same ∙ row-of rows y r k in
    cc

one-entry : (nodes : List ClassedNode) (c d : ClassedNode) → RisesFrom entry_id 0 nodes → Has nodes c → Has nodes d →
    c.id ≡ d.id → c ≡ d
one-entry nodes c d r h k same =
    let both : Some c ≡ Some d =
    sym (row_at-Some entry_id 0 nodes c r h) ∙ ap (λ n. row_at entry_id n nodes) same
    ∙ row_at-Some entry_id 0 nodes d r k in
    cc

-- A node's number is set.

pub numbered : (class node count : ℕ) (classes after : List (List Timer)) (stale : List ℕ) (rows : List Timer) →
    class < length classes → rows ≡ with_time node count (get_or classes class []) → IsRising timer_owner rows →
    after ≡ set classes class rows →
    IsNumbered class node count (record { classes = classes; stale = stale })
    (record { classes = after; stale = stale })
numbered class node count classes after stale rows there is rises to =
    subst (λ (list : List (List Timer)). IsNumbered class node count (record { classes = classes; stale = stale })
    (record { classes = list; stale = stale })) (sym to) (record {
      own = same ∙ is;
      rises = subst (IsRising timer_owner) (sym same) rises;
      others = λ k other. get_or-set_other classes class k rows [] other;
      all = length-set classes class rows;
      stale = refl;
    })
  where
    same : get_or (set classes class rows) class [] ≡ rows
    same = get_or-set_same classes class rows [] there

has-numbered : (class node count : ℕ) (a b : Ranking) → IsNumbered class node count a b → (k id : ℕ) →
    has_row timer_owner id (of_class a k) ≡ true → has_row timer_owner id (of_class b k) ≡ true
has-numbered class node count a b n k id there = elim (decide k class) [
  | inl same ↦
      subst (λ j. has_row timer_owner id (of_class b j) ≡ true) (sym same)
      (subst (λ rows. has_row timer_owner id rows ≡ true) (sym n.own)
      (has-with (record { owner = node; at = count }) id (of_class a class)
      (subst (λ j. has_row timer_owner id (of_class a j) ≡ true) same there)))
  | inr other ↦ subst (λ rows. has_row timer_owner id rows ≡ true) (sym (n.others k other)) there
]

own-numbered : (class node count : ℕ) (a b : Ranking) → IsNumbered class node count a b →
    has_row timer_owner node (of_class b class) ≡ true
own-numbered class node count a b n =
    subst (λ rows. has_row timer_owner node rows ≡ true) (sym n.own) (own-with node count (of_class a class))

-- what stands in a class then: the node's number, or what stood there
from-numbered : (class node count : ℕ) (a b : Ranking) → IsNumbered class node count a b → (k : ℕ) (m : Timer) →
    Has (of_class b k) m → ((k ≡ class) × (record { owner = node; at = count } ≡ m)) ⊎ Has (of_class a k) m
from-numbered class node count a b n k m h = elim (decide k class) [
  | inl same ↦
      at-own same (with-cases (record { owner = node; at = count }) m (of_class a class)
      (subst (λ rows. Has rows m) n.own (subst (λ j. Has (of_class b j) m) same h)))
  | inr other ↦ inr (subst (λ rows. Has rows m) (n.others k other) h)
]
  where
    at-own : k ≡ class → (record { owner = node; at = count } ≡ m) ⊎ Has (of_class a class) m →
        ((k ≡ class) × (record { owner = node; at = count } ≡ m)) ⊎ Has (of_class a k) m
    at-own same (inl e) = inl (same, e)
    at-own same (inr h) = inr (subst (λ j. Has (of_class a j) m) (sym same) h)

-- All nodes are put.

pub ranking_none : (nodes : List ClassedNode) (r : Ranking) → AreUnranked r → AreRanking nodes nodes r
ranking_none nodes r un = record {
  among = λ c h. h;
  there = λ c h. inl h;
  own = λ class m h. absurd (never class m h);
  stale = λ class m h. absurd (never class m h);
  all = un.all;
}
  where
    never : (class : ℕ) (m : Timer) → Has (of_class r class) m → ⊥
    never class m h = subst (λ rows. Has rows m) (un.none class) h

pub ranking_one : (nodes left rest : List ClassedNode) (c : ClassedNode) (a b : Ranking) → left ≡ c ∷ rest →
    AreRanking nodes left a → IsPut c a b → AreRanking nodes rest b
ranking_one nodes left rest c a b is so put = record {
  among = λ d h. so.among d (subst (λ list. Has list d) (sym is) (inr h));
  there = λ d h. there-one d (so.there d h);
  own = λ class m h. own-one class m (from-numbered c.class c.id 0 a put.middle put.numbered class m (back class m h));
  stale =
      λ class m h. stale-one class m (from-numbered c.class c.id 0 a put.middle put.numbered class m (back class m h));
  all = ap (λ (list : List (List Timer)). length list) put.staler.classes ∙ put.numbered.all ∙ so.all;
}
  where
    own : Has nodes c
    own = so.among c (subst (λ list. Has list c) (sym is) (inl refl))

    back : (class : ℕ) (m : Timer) → Has (of_class b class) m → Has (of_class put.middle class) m
    back class m h = subst (λ (list : List (List Timer)). Has (get_or list class []) m) put.staler.classes h

    has-after : (class id : ℕ) → has_row timer_owner id (of_class put.middle class) ≡ true →
        has_row timer_owner id (of_class b class) ≡ true
    has-after class id there =
        subst (λ (list : List (List Timer)). has_row timer_owner id (get_or list class []) ≡ true)
        (sym put.staler.classes) there

    there-left : (d : ClassedNode) → (c ≡ d) ⊎ Has rest d →
        Has rest d ⊎ (has_row timer_owner d.id (of_class b d.class) ≡ true)
    there-left d (inl same) =
        inr (subst (λ (e : ClassedNode). has_row timer_owner e.id (of_class b e.class) ≡ true) same
        (has-after c.class c.id (own-numbered c.class c.id 0 a put.middle put.numbered)))
    there-left d (inr h) = inl h

    there-one : (d : ClassedNode) → Has left d ⊎ (has_row timer_owner d.id (of_class a d.class) ≡ true) →
        Has rest d ⊎ (has_row timer_owner d.id (of_class b d.class) ≡ true)
    there-one d (inl h) = there-left d (subst (λ list. Has list d) is h)
    there-one d (inr row) =
        inr (has-after d.class d.id (has-numbered c.class c.id 0 a put.middle put.numbered d.class d.id row))

    own-one : (class : ℕ) (m : Timer) →
        ((class ≡ c.class) × (record { owner = c.id; at = 0 } ≡ m)) ⊎ Has (of_class a class) m →
        Has nodes (record { id = m.owner; class = class })
    own-one class m (inl both) =
        subst (λ (e : Timer). Has nodes (record { id = e.owner; class = class })) both.1
        (subst (λ k. Has nodes (record { id = c.id; class = k })) (sym both.0) own)
    own-one class m (inr h) = so.own class m h

    stale-one : (class : ℕ) (m : Timer) →
        ((class ≡ c.class) × (record { owner = c.id; at = 0 } ≡ m)) ⊎ Has (of_class a class) m → Has b.stale m.owner
    stale-one class m (inl both) = subst (λ (e : Timer). Has b.stale e.owner) both.1 put.stale
    stale-one class m (inr h) =
        put.staler.stale m.owner (subst (λ list. Has list m.owner) (sym put.numbered.stale) (so.stale class m h))

pub ranking_fits : (nodes left rest : List ClassedNode) (c : ClassedNode) (r : Ranking) → left ≡ c ∷ rest →
    AreRanking nodes left r → AreFew nodes → c.class < length r.classes
ranking_fits nodes left rest c r is so few =
    let small : c.class < CLASSES = few c (so.among c (subst (λ list. Has list c) (sym is) (inl refl))) in
    omega (arith, small, so.all)

pub ranking_ranked : (nodes left : List ClassedNode) (r : Ranking) → AreRanking nodes left r → length left ≡ 0 →
    AreRanked nodes r
ranking_ranked nodes left r so none = record { there = λ c h. go c (so.there c h); own = so.own }
  where
    go : (c : ClassedNode) → Has left c ⊎ (has_row timer_owner c.id (of_class r c.class) ≡ true) →
        has_row timer_owner c.id (of_class r c.class) ≡ true
    go c (inl h) = absurd (subst (λ list. Has list c) (none-left left none) h)
    go c (inr there) = there

pub ranking_right : (nodes left : List ClassedNode) (r : Ranking) → AreRanking nodes left r → (t : Tables) →
    AreRight t r
ranking_right nodes left r so t = record { each = λ class m h. inl (so.stale class m h) }

pub ruleset new_steps = (ranking_none, ranking_one, ranking_fits, ranking_ranked, ranking_right)

-- More nodes are stale.

pub stale_same : (r : Ranking) → AreStaler r r
stale_same r = record { classes = refl; stale = λ m h. h }

pub stale_more : (classes : List (List Timer)) (stale after : List ℕ) (node : ℕ) → after ≡ stale ++ node ∷ [] →
    AreStaler (record { classes = classes; stale = stale }) (record { classes = classes; stale = after })
stale_more classes stale after node is = record {
  classes = refl;
  stale = λ m h. subst (λ list. Has list m) (sym is) (Has-append_left stale (node ∷ []) m h);
}

pub stale_own : (stale after : List ℕ) (node : ℕ) → after ≡ stale ++ node ∷ [] → Has after node
stale_own stale after node is =
    subst (λ list. Has list node) (sym is) (Has-append_right stale (node ∷ []) node (inl refl))

pub stale_yet : (a b c : Ranking) → AreStaler a b → AreStaler b c → AreStaler a c
stale_yet a b c one two = record { classes = two.classes ∙ one.classes; stale = λ m h. two.stale m (one.stale m h) }

pub stale_still : (o : Option ℕ) (a b : Ranking) → AreStaler a b → IsStale o a.stale → IsStale o b.stale
stale_still None a b more is = tt
stale_still (Some node) a b more is = more.stale node is

pub ruleset stale_steps = (stale_same, stale_more, stale_own, stale_yet, stale_still)

is-stale : (o : Option ℕ) (m : ℕ) (stale : List ℕ) → o ≡ Some m → IsStale o stale → Has stale m
is-stale o m stale is there = subst (λ p. IsStale p stale) is there

-- What changes make of it.

ranked-stays : (nodes : List ClassedNode) (a b : Ranking) → b.classes ≡ a.classes → AreRanked nodes a →
    AreRanked nodes b
ranked-stays nodes a b same ranked = record {
  there = λ c h.
      subst (λ (list : List (List Timer)). has_row timer_owner c.id (get_or list c.class []) ≡ true) (sym same)
      (ranked.there c h);
  own = λ class m h. ranked.own class m (subst (λ (list : List (List Timer)). Has (get_or list class []) m) same h);
}

pub touched_ranked : (nodes : List ClassedNode) (a b : Ranking) → AreStaler a b → AreRanked nodes a → AreRanked nodes b
touched_ranked nodes a b more = ranked-stays nodes a b more.classes

right-on : (t u : Tables) (a b : Ranking) → AreRight t a → AreStaler a b → HaveSame t u b.stale → AreRight u b
right-on t u a b right more same = record {
  each = λ class m h.
      go m (right.each class m (subst (λ (list : List (List Timer)). Has (get_or list class []) m) more.classes h))
      (same.each m.owner);
}
  where
    go : (m : Timer) → Has a.stale m.owner ⊎ (m.at ≡ load t m.owner) →
        Has b.stale m.owner ⊎ (load t m.owner ≡ load u m.owner) → Has b.stale m.owner ⊎ (m.at ≡ load u m.owner)
    go m (inl old) s = inl (more.stale m.owner old)
    go m (inr is) (inl new) = inl new
    go m (inr is) (inr e) = inr (is ∙ e)

pub touched_stays : (t : Tables) (a b : Ranking) → AreRight t a → AreStaler a b → AreRight t b
touched_stays t a b right more = right-on t t a b right more (record { each = λ m. inr refl })

pub touched_goes_on : (t : Tables) (cs : List Change) (a b : Ranking) → AreRight t a → AreStaler a b →
    HaveSame t (apply_changes t cs) b.stale → AreRight (apply_changes t cs) b
touched_goes_on t cs a b right more same = right-on t (apply_changes t cs) a b right more same

-- by one change alone
pub touched_by_one : (t : Tables) (cs others : List Change) (c : Change) (a b : Ranking) → cs ≡ c ∷ others →
    length others ≡ 0 → AreRight t a → AreStaler a b → HaveSame t (apply_change t c) b.stale →
    AreRight (apply_changes t cs) b
touched_by_one t cs others c a b is none right more same =
    subst (λ list. AreRight (apply_changes t list) b) (ap (λ list. c ∷ list) (sym (none-left others none)) ∙ sym is)
    (right-on t (apply_change t c) a b right more same)

pub untouched : (t : Tables) (cs : List Change) (r : Ranking) → cs ≡ [] → AreRight t r → AreRight (apply_changes t cs) r
untouched t cs r none = subst (λ list. AreRight (apply_changes t list) r) (sym none)

pub ruleset touched_steps =
    (stale_same, touched_ranked, touched_stays, touched_goes_on, touched_by_one, untouched)

-- Several changes.

load-left : (t : Tables) (cs : List Change) (m : ℕ) → IsUsable t → ((c : Change) → Has cs c → IsSpared t m c) →
    load t m ≡ load (apply_changes t cs) m
load-left t cs m usable spared =
    sym (load_is t m)
    ∙ ap (count_by is_live)
    (sym (changes-leave (is_placed_on m) cs t (λ c h. spares-tasks t m c usable (spared c h))))
    ∙ load_is (apply_changes t cs) m

pub touching_none : (t : Tables) (cs : List Change) (stale : List ℕ) → AreTouching t cs cs stale
touching_none t cs stale = record { each = λ m c h. inl h }

pub touching_one : (t : Tables) (cs left rest : List Change) (c : Change) (a b : Ranking) → left ≡ c ∷ rest →
    AreTouching t cs left a.stale → AreStaler a b → IsStale (touched t c).0 b.stale → IsStale (touched t c).1 b.stale →
    AreTouching t cs rest b.stale
touching_one t cs left rest c a b is so more one other = record { each = λ m d h. go m d (so.each m d h) }
  where
    spared : (m : ℕ) → ((touched t c).0 ≡ Some m) ⊎ ((touched t c).0 ≡ Some m → ⊥) →
        ((touched t c).1 ≡ Some m) ⊎ ((touched t c).1 ≡ Some m → ⊥) → Has b.stale m ⊎ IsSpared t m c
    spared m (inl e) v = inl (is-stale (touched t c).0 m b.stale e one)
    spared m (inr off) (inl e) = inl (is-stale (touched t c).1 m b.stale e other)
    spared m (inr off) (inr out) = inr (off, out)

    now : (m : ℕ) (d : Change) → (c ≡ d) ⊎ Has rest d → Has rest d ⊎ (Has b.stale m ⊎ IsSpared t m d)
    now m d (inl same) =
        inr (subst (λ x. Has b.stale m ⊎ IsSpared t m x) same
        (spared m (decide-some (touched t c).0 m) (decide-some (touched t c).1 m)))
    now m d (inr h) = inl h

    go : (m : ℕ) (d : Change) → Has left d ⊎ (Has a.stale m ⊎ IsSpared t m d) →
        Has rest d ⊎ (Has b.stale m ⊎ IsSpared t m d)
    go m d (inl h) = now m d (subst (λ list. Has list d) is h)
    go m d (inr (inl old)) = inr (inl (more.stale m old))
    go m d (inr (inr sp)) = inr (inr sp)

all-or : {P : Type 0} {Q : Change → Type 0} (cs : List Change) → ((c : Change) → Has cs c → P ⊎ Q c) →
    P ⊎ ((c : Change) → Has cs c → Q c)
all-or [] each = inr (λ c h. absurd h)
all-or {P} {Q} (d ∷ cs) each = go (each d (inl refl)) (all-or cs (λ c h. each c (inr h)))
  where
    go : P ⊎ Q d → P ⊎ ((c : Change) → Has cs c → Q c) → P ⊎ ((c : Change) → (d ≡ c) ⊎ Has cs c → Q c)
    go (inl p) rest = inl p
    go (inr q) (inl p) = inl p
    go (inr q) (inr all) = inr (λ c h. elim h [ inl same ↦ subst Q same q | inr k ↦ all c k ])

pub touching_all : (t : Tables) (cs left : List Change) (stale : List ℕ) → IsUsable t → AreTouching t cs left stale →
    length left ≡ 0 → HaveSame t (apply_changes t cs) stale
touching_all t cs left stale usable so none = record {
  each = λ m.
      elim (all-or {P = Has stale m} {Q = IsSpared t m} cs (λ c h. done m c (so.each m c h))) [
        | inl there ↦ inl there
        | inr spared ↦ inr (load-left t cs m usable spared)
      ];
}
  where
    done : (m : ℕ) (c : Change) → Has left c ⊎ (Has stale m ⊎ IsSpared t m c) → Has stale m ⊎ IsSpared t m c
    done m c (inl h) = absurd (subst (λ list. Has list c) (none-left left none) h)
    done m c (inr k) = k

pub ruleset each_steps = (stale_same, stale_yet, touching_none, touching_one, touching_all)

-- One change.

adds-none : (m : ℕ) (y : Task) → (y.node ≡ Some m → ⊥) → adds (one_if is_live) m y ≡ 0
adds-none m y other = ap (λ b. cond b (one_if is_live y) 0) (touches-task m y other)

pub left_none : (x y : Task) → y.node ≡ None → (m : ℕ) → adds (one_if is_live) m y ≤ adds (one_if is_live) m x
left_none x y none m =
    omega (arith, adds-none m y (λ e. let both : None ≡ Some m = sym none ∙ e in absurd cc))

pub left_some : (x y : Task) (node : ℕ) → y.node ≡ Some node → (m : ℕ) → (Some node ≡ Some m → ⊥) →
    adds (one_if is_live) m y ≤ adds (one_if is_live) m x
left_some x y node is m other = omega (arith, adds-none m y (λ e. other (sym is ∙ e)))

pub left_stays : (x y : Task) (node : ℕ) → y.node ≡ Some node →
    adds (one_if is_live) node y ≤ adds (one_if is_live) node x → (m : ℕ) →
    adds (one_if is_live) m y ≤ adds (one_if is_live) m x
left_stays x y node is le m = elim (decide node m) [
  | inl same ↦ subst (λ k. adds (one_if is_live) k y ≤ adds (one_if is_live) k x) same le
  | inr other ↦
      omega (
        arith,
        adds-none m y (λ e.
            let both : Some node ≡ Some m = sym is ∙ e in
            let same : node ≡ m = cc in
            other same),
      )
]

pub ruleset left_steps = (left_none, left_some, left_stays)

-- a task in another one's place
pub load-put : (t : Tables) (x y : Task) (m : ℕ) → IsUsable t → Some y ≡ row_at task_id x.id t.tasks →
    load (apply_change t (change.PutTask x)) m + adds (one_if is_live) m y ≡ load t m + adds (one_if is_live) m x
load-put t x y m usable row = go (has_row task_id x.id t.tasks) (ap is_some (sym row))
  where
    go : (b : Bool) → b ≡ true →
        load (cond b (record t { tasks = put_row task_id x t.tasks }) (with_task t x)) m + adds (one_if is_live) m y
        ≡ load t m + adds (one_if is_live) m x
    go true e =
        let u : Tables = record t { tasks = put_row task_id x t.tasks } in
        let sums : sum_by (one_if is_live) (tasks_placed_on u m) + adds (one_if is_live) m y
        ≡ sum_by (one_if is_live) (tasks_placed_on t m) + adds (one_if is_live) m x =
        sum-put t x y m (one_if is_live) usable (sym row) in
        let before : sum_by (one_if is_live) (tasks_placed_on t m) ≡ load t m = load_is t m in
        let after : sum_by (one_if is_live) (tasks_placed_on u m) ≡ load u m = load_is u m in
        omega (arith, sums, before, after)
    go false e = absurd cc

pub put_left : (t : Tables) (x y : Task) (c : Change) (node : Option ℕ) → IsUsable t → c ≡ change.PutTask x →
    Some y ≡ row_at task_id x.id t.tasks →
    ((m : ℕ) → (node ≡ Some m → ⊥) → adds (one_if is_live) m y ≤ adds (one_if is_live) m x) → IsLeft t c node
put_left t x y c node usable is row le =
    subst (λ d. IsLeft t d node) (sym is)
    (record { each = λ m other. omega (arith, le m other, load-put t x y m usable row) })

pub put_entered : (t : Tables) (x y : Task) (c : Change) (node : Option ℕ) → IsUsable t → c ≡ change.PutTask x →
    Some y ≡ row_at task_id x.id t.tasks →
    ((m : ℕ) → (node ≡ Some m → ⊥) → adds (one_if is_live) m x ≤ adds (one_if is_live) m y) → IsEntered t c node
put_entered t x y c node usable is row le =
    subst (λ d. IsEntered t d node) (sym is)
    (record { each = λ m other. omega (arith, le m other, load-put t x y m usable row) })

abbrev one : Bool → ℕ
one b = cond b 1 0

-- a new task
load-new : (t : Tables) (x : Task) (m : ℕ) → None ≡ row_at task_id x.id t.tasks →
    load (apply_change t (change.PutTask x)) m ≡ load t m + one (is_live x && is_placed_on m x)
load-new t x m row = go (has_row task_id x.id t.tasks) (ap is_some (sym row))
  where
    go : (b : Bool) → b ≡ false →
        load (cond b (record t { tasks = put_row task_id x t.tasks }) (with_task t x)) m
        ≡ load t m + one (is_live x && is_placed_on m x)
    go true e = absurd cc
    go false e =
        let own : Task → Bool = λ z. is_live z && is_placed_on m z in
        omega (arith, sum_by-append (λ z. cond (own z) 1 0) t.tasks (x ∷ []))

pub new_left : (t : Tables) (x : Task) (c : Change) (node : Option ℕ) → c ≡ change.PutTask x →
    None ≡ row_at task_id x.id t.tasks → IsLeft t c node
new_left t x c node is row =
    subst (λ d. IsLeft t d node) (sym is) (record { each = λ m other. omega (arith, load-new t x m row) })

never-both : (b : Bool) → (b && false) ≡ false
never-both true = refl
never-both false = refl

pub new_entered : (t : Tables) (x : Task) (c : Change) (node : Option ℕ) → c ≡ change.PutTask x →
    None ≡ row_at task_id x.id t.tasks → node ≡ x.node → IsEntered t c node
new_entered t x c node is row to = subst (λ d. IsEntered t d node) (sym is) (record {
  each = λ m other.
      let none : one (is_live x && is_placed_on m x) ≡ 0 =
      ap (λ b. one (is_live x && b)) (touches-task m x (λ e. other (to ∙ e))) ∙ ap one (never-both (is_live x)) in
      omega (arith, load-new t x m row, none);
})

load-dropped : (t : Tables) (id : ℕ) (m : ℕ) → IsUsable t → (former_node t id ≡ Some m → ⊥) →
    load t m ≡ load (apply_change t (change.DropTask id)) m
load-dropped t id m usable other = load-left t (change.DropTask id ∷ []) m usable own
  where
    never : None ≡ Some m → ⊥
    never e = cc

    own : (e : Change) → Has (change.DropTask id ∷ []) e → IsSpared t m e
    own e (inl same) = subst (IsSpared t m) same (never, other)
    own e (inr h) = absurd h

pub drop_left : (t : Tables) (id : ℕ) (c : Change) (node : Option ℕ) → IsUsable t → c ≡ change.DropTask id →
    node ≡ former_node t id → IsLeft t c node
drop_left t id c node usable is former =
    subst (λ d. IsLeft t d node) (sym is)
    (record { each = λ m other. omega (arith, load-dropped t id m usable (λ at. other (former ∙ at))) })

-- no node has more without a task
fewer-dropped : (id : ℕ) (f : Task → ℕ) (rows : List Task) → sum_by f (drop_row task_id id rows) ≤ sum_by f rows
fewer-dropped id f [] = omega arith
fewer-dropped id f (x ∷ rows) = go (not (eqb x.id id)) (drop_row task_id id rows) (fewer-dropped id f rows)
  where
    go : (b : Bool) (kept : List Task) → sum_by f kept ≤ sum_by f rows →
        sum_by f (cond b (x ∷ kept) kept) ≤ sum_by f (x ∷ rows)
    go true kept rest =
        let is : sum_by f (x ∷ kept) ≤ sum_by f (x ∷ rows) =
        omega (arith, rest, sum_by-cons f x kept, sum_by-cons f x rows) in
        is
    go false kept rest = let is : sum_by f kept ≤ sum_by f (x ∷ rows) = omega (arith, rest, sum_by-cons f x rows) in is

pub drop_entered : (t : Tables) (id : ℕ) (c : Change) (node : Option ℕ) → c ≡ change.DropTask id → IsEntered t c node
drop_entered t id c node is =
    subst (λ d. IsEntered t d node) (sym is)
    (record { each = λ m other. fewer-dropped id (λ x. one (is_live x && is_placed_on m x)) t.tasks })

pub node_left : (t : Tables) (n : Node) (c : Change) (node : Option ℕ) → c ≡ change.PutNode n → IsLeft t c node
node_left t n c node is = subst (λ d. IsLeft t d node) (sym is) (record { each = λ m other. omega arith })

pub node_entered : (t : Tables) (n : Node) (c : Change) (node : Option ℕ) → c ≡ change.PutNode n → IsEntered t c node
node_entered t n c node is = subst (λ d. IsEntered t d node) (sym is) (record { each = λ m other. omega arith })

pub service_left : (t : Tables) (s : Service) (c : Change) (node : Option ℕ) → c ≡ change.PutService s →
    IsLeft t c node
service_left t s c node is = subst (λ d. IsLeft t d node) (sym is) (record { each = λ m other. omega arith })

pub service_entered : (t : Tables) (s : Service) (c : Change) (node : Option ℕ) → c ≡ change.PutService s →
    IsEntered t c node
service_entered t s c node is = subst (λ d. IsEntered t d node) (sym is) (record { each = λ m other. omega arith })

pub kept_left : (t : Tables) (a : Attempt) (c : Change) (node : Option ℕ) → c ≡ change.Keep a → IsLeft t c node
kept_left t a c node is = subst (λ d. IsLeft t d node) (sym is) (record { each = λ m other. omega arith })

pub kept_entered : (t : Tables) (a : Attempt) (c : Change) (node : Option ℕ) → c ≡ change.Keep a → IsEntered t c node
kept_entered t a c node is = subst (λ d. IsEntered t d node) (sym is) (record { each = λ m other. omega arith })

pub ruleset moved_steps = (
  put_left,
  put_entered,
  new_left,
  new_entered,
  drop_left,
  drop_entered,
  node_left,
  node_entered,
  service_left,
  service_entered,
  kept_left,
  kept_entered,
)

pub same_but : (t : Tables) (c : Change) (left entered : Option ℕ) (stale : List ℕ) → IsLeft t c left →
    IsEntered t c entered → IsStale left stale → IsStale entered stale → HaveSame t (apply_change t c) stale
same_but t c left entered stale fewer more one other = record {
  each = λ m. go m (decide-some left m) (decide-some entered m);
}
  where
    go : (m : ℕ) → (left ≡ Some m) ⊎ (left ≡ Some m → ⊥) → (entered ≡ Some m) ⊎ (entered ≡ Some m → ⊥) →
        Has stale m ⊎ (load t m ≡ load (apply_change t c) m)
    go m (inl e) v = inl (is-stale left m stale e one)
    go m (inr off) (inl e) = inl (is-stale entered m stale e other)
    go m (inr off) (inr out) = inr (omega (arith, fewer.each m off, more.each m out))

pub ruleset touch_steps = (same_but)

-- A stale node gets its number anew.

class-in : (classes : List (List Timer)) (class id : ℕ) → has_row timer_owner id (get_or classes class []) ≡ true →
    class < length classes
class-in [] class id there = let no : false ≡ true = there in absurd cc
class-in (c ∷ classes) zero id there = omega arith
class-in (c ∷ classes) (suc class) id there = omega (arith, class-in classes class id there)

pub class_there : (nodes : List ClassedNode) (r : Ranking) (c : ClassedNode) (node : ℕ) → AreRanked nodes r →
    Some c ≡ row_at entry_id node nodes → c.class < length r.classes
class_there nodes r c node ranked is =
    class-in r.classes c.class c.id (ranked.there c (Has-from_row_at entry_id node nodes c (sym is)).0)

pub renewed_ranked : (nodes : List ClassedNode) (c : ClassedNode) (node count : ℕ) (a b : Ranking) →
    AreRanked nodes a → Some c ≡ row_at entry_id node nodes → IsNumbered c.class node count a b → AreRanked nodes b
renewed_ranked nodes c node count a b ranked is n = record {
  there = λ d h. has-numbered c.class node count a b n d.class d.id (ranked.there d h);
  own = λ class m h. go class m (from-numbered c.class node count a b n class m h);
}
  where
    go : (class : ℕ) (m : Timer) →
        ((class ≡ c.class) × (record { owner = node; at = count } ≡ m)) ⊎ Has (of_class a class) m →
        Has nodes (record { id = m.owner; class = class })
    go class m (inl both) =
        let found = Has-from_row_at entry_id node nodes c (sym is) in
        subst (λ (e : Timer). Has nodes (record { id = e.owner; class = class })) both.1
        (subst (λ k. Has nodes (record { id = node; class = k })) (sym both.0)
        (subst (λ k. Has nodes (record { id = k; class = c.class })) found.1 found.0))
    go class m (inr h) = ranked.own class m h

pub renewed_right : (t : Tables) (class node count : ℕ) (a b : Ranking) → AreRight t a → count ≡ load t node →
    IsNumbered class node count a b → AreRight t b
renewed_right t class node count a b right is n = record {
  each = λ k m h. go k m (from-numbered class node count a b n k m h);
}
  where
    go : (k : ℕ) (m : Timer) →
        ((k ≡ class) × (record { owner = node; at = count } ≡ m)) ⊎ Has (of_class a k) m →
        Has b.stale m.owner ⊎ (m.at ≡ load t m.owner)
    go k m (inl both) = inr (subst (λ (e : Timer). e.at ≡ load t e.owner) both.1 is)
    go k m (inr h) =
        subst (λ list. Has list m.owner ⊎ (m.at ≡ load t m.owner)) (sym n.stale) (right.each k m h)

pub renewed_own : (t : Tables) (nodes : List ClassedNode) (c : ClassedNode) (node count : ℕ) (a b : Ranking) →
    RisesFrom entry_id 0 nodes → AreRanked nodes a → Some c ≡ row_at entry_id node nodes → count ≡ load t node →
    IsNumbered c.class node count a b → IsRight t node b
renewed_own t nodes c node count a b rises ranked is load-is n = record {
  each = λ k m h same. go k m same h (from-numbered c.class node count a b n k m h);
}
  where
    found : Has nodes c × (c.id ≡ node)
    found = Has-from_row_at entry_id node nodes c (sym is)

    new : Timer
    new = record { owner = node; at = count }

    there : Has (of_class b c.class) new
    there = subst (λ rows. Has rows new) (sym n.own) (Has-with_row timer_owner new (of_class a c.class))

    go : (k : ℕ) (m : Timer) → m.owner ≡ node → Has (of_class b k) m →
        ((k ≡ c.class) × (new ≡ m)) ⊎ Has (of_class a k) m → m.at ≡ load t node
    go k m same h (inl both) = ap (λ (e : Timer). e.at) (sym both.1) ∙ load-is
    go k m same h (inr old) =
        let one : c ≡ record { id = m.owner; class = k } =
        one-entry nodes c (record { id = m.owner; class = k }) rises found.0 (ranked.own k m old)
        (found.1 ∙ sym same) in
        let class : c.class ≡ k = ap (λ (e : ClassedNode). e.class) one in
        ap (λ (e : Timer). e.at)
        (one-row (of_class b c.class) m new n.rises (subst (λ j. Has (of_class b j) m) (sym class) h) there same)
        ∙ load-is

pub renewed_none : (t : Tables) (nodes : List ClassedNode) (node : ℕ) (r : Ranking) → RisesFrom entry_id 0 nodes →
    AreRanked nodes r → None ≡ row_at entry_id node nodes → IsRight t node r
renewed_none t nodes node r rises ranked none = record {
  each = λ k m h same.
      let entry : ClassedNode = record { id = m.owner; class = k } in
      let both : None ≡ Some entry =
      none ∙ ap (λ i. row_at entry_id i nodes) (sym same)
      ∙ row_at-Some entry_id 0 nodes entry rises (ranked.own k m h) in
      absurd cc;
}

pub ruleset renew_steps = (class_there, renewed_ranked, renewed_right, renewed_own, renewed_none)

-- The last stale node isn't stale any more.

last-or : (xs : List ℕ) (i node m : ℕ) → length xs ≡ suc i → Some node ≡ slice_get xs i → Has xs m →
    (node ≡ m) ⊎ Has (take i xs) m
last-or [] i node m long is h = absurd h
last-or (x ∷ xs) zero node m long is (inl e) = let same : node ≡ x = cc in inl (same ∙ e)
last-or (x ∷ xs) zero node m long is (inr h) =
    absurd (subst (λ list. Has list m) (none-left xs (omega (arith, long))) h)
last-or (x ∷ xs) (suc i) node m long is (inl e) = inr (inl e)
last-or (x ∷ xs) (suc i) node m long is (inr h) =
    elim (last-or xs i node m (omega (arith, long)) is h) [ inl e ↦ inl e | inr k ↦ inr (inr k) ]

some-long : (xs : List ℕ) (node i : ℕ) → Some node ≡ slice_get xs i → i < length xs
some-long [] node i is = let no : Some node ≡ None = is in absurd cc
some-long (x ∷ xs) node zero is = omega arith
some-long (x ∷ xs) node (suc i) is = omega (arith, some-long xs node i is)

take-fewer : (i : ℕ) (xs : List ℕ) → length (take i xs) ≤ i
take-fewer zero xs = omega arith
take-fewer (suc i) [] = omega arith
take-fewer (suc i) (x ∷ xs) = omega (arith, take-fewer i xs)

last : List ℕ → Option ℕ
last xs = slice_get xs (length xs - 1)

pub settled_right : (t : Tables) (a b : Ranking) (node : ℕ) → AreRight t a → IsRight t node a →
    Some node ≡ slice_get a.stale (length a.stale - 1) → b.classes ≡ a.classes →
    b.stale ≡ take (length a.stale - 1) a.stale → AreRight t b
settled_right t a b node right own is same fewer = record {
  each = λ class m h.
      let there : Has (of_class a class) m =
      subst (λ (list : List (List Timer)). Has (get_or list class []) m) same h in
      go class m there (right.each class m there);
}
  where
    parted : (class : ℕ) (m : Timer) → Has (of_class a class) m →
        (node ≡ m.owner) ⊎ Has (take (length a.stale - 1) a.stale) m.owner →
        Has b.stale m.owner ⊎ (m.at ≡ load t m.owner)
    parted class m there (inl e) =
        inr (subst (λ n. m.at ≡ load t n) e (own.each class m there (sym e)))
    parted class m there (inr h) = inl (subst (λ list. Has list m.owner) (sym fewer) h)

    go : (class : ℕ) (m : Timer) → Has (of_class a class) m → Has a.stale m.owner ⊎ (m.at ≡ load t m.owner) →
        Has b.stale m.owner ⊎ (m.at ≡ load t m.owner)
    go class m there (inl stale) =
        let long : length a.stale - 1 < length a.stale = some-long a.stale node (length a.stale - 1) is in
        parted class m there
        (last-or a.stale (length a.stale - 1) node m.owner (omega (arith, long)) is stale)
    go class m there (inr e) = inr e

pub settled_ranked : (nodes : List ClassedNode) (a b : Ranking) → AreRanked nodes a → b.classes ≡ a.classes →
    AreRanked nodes b
settled_ranked nodes a b ranked same = ranked-stays nodes a b same ranked

pub settled_fewer : (before stale after : List ℕ) (node : ℕ) → Some node ≡ slice_get before (length before - 1) →
    stale ≡ before → after ≡ take (length stale - 1) stale → length after < length before
settled_fewer before stale after node is same fewer =
    let long = some-long before node (length before - 1) is in
    let short : length after ≤ length before - 1 =
    subst (λ list. length list ≤ length before - 1)
    (sym (fewer ∙ ap (λ list. take (length list - 1) list) same)) (take-fewer (length before - 1) before) in
    omega (arith, long, short)

no-last : (xs : List ℕ) (i : ℕ) → length xs ≡ suc i → None ≡ slice_get xs i → ⊥
no-last [] i long none = omega (arith, long)
no-last (x ∷ xs) zero long none = cc
no-last (x ∷ xs) (suc i) long none = no-last xs i (omega (arith, long)) none

pub all_current : (t : Tables) (r : Ranking) → AreRight t r → None ≡ slice_get r.stale (length r.stale - 1) →
    (class : ℕ) → AreCurrent t (of_class r class)
all_current t r right none class = record { each = λ m h. go m (right.each class m h) }
  where
    never : (xs : List ℕ) (m : ℕ) → None ≡ slice_get xs (length xs - 1) → Has xs m → ⊥
    never [] m e h = h
    never (x ∷ xs) m e h = no-last (x ∷ xs) (length (x ∷ xs) - 1) (omega arith) e

    go : (m : Timer) → Has r.stale m.owner ⊎ (m.at ≡ load t m.owner) → m.at ≡ load t m.owner
    go m (inl stale) = absurd (never r.stale m.owner none stale)
    go m (inr is) = is

pub ruleset refresh_steps = (settled_right, settled_ranked, settled_fewer, all_current)
