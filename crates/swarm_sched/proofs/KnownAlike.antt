-- What is remembered of nodes goes on being so where the tasks and the nodes stay, and where a task is put that counts
-- as the one that it replaces.
use Rattle.std.proofs.Common.{◌≡◌, ◌∙◌, ◌+◌, ◌⊎◌, ℕ, List, None, Option, Some, ap, arith, cond, inl, inr, refl, sym}
use Rattle.std.specs.Prelude.{IfSome, count_by, filter, ◌&&◌}
use Rattle.swarm_objects.specs.ChangeLists.{apply_change, apply_changes}
use Rattle.swarm_objects.specs.Nodes.BestNode.{load}
use Rattle.swarm_objects.specs.Nodes.Holdings.{is_placed_on}
use Rattle.swarm_objects.specs.Rows.{Has}
use Rattle.swarm_objects.specs.Tasks.Words.{is_live}
use Rattle.swarm_objects.specs.Usable.{IsUsable}
use Rattle.swarm_objects.specs.World.{Tables}
use Rattle.swarm_objects.specs.declared.rows.Change.TheVariants as change
use Rattle.swarm_objects.specs.declared.rows.Change.{Change}
use Rattle.swarm_sched.proofs.Classing.{change-left, classes_alike}
use Rattle.swarm_sched.proofs.Knowing.{adds-alike, counted-alike, spared_knows}
use Rattle.swarm_sched.proofs.LastRefusing.{spared_known}
use Rattle.swarm_sched.proofs.Ranking.{load-put}
use Rattle.swarm_sched.proofs.Remembering.{refusals_alike}
use Rattle.swarm_sched.specs.Inside.Classes.{AreClasses, Classes}
use Rattle.swarm_sched.specs.Inside.Known.{AreCounted, AreSpared, Knows, adds, one_if, recalled}
use Rattle.swarm_sched.specs.Inside.KnownNodes.{KnowsNodes}
use Rattle.swarm_sched.specs.Inside.Ranks.{AreRanks, Ranking}
use Rattle.swarm_sched.specs.declared.classes.ClassedNode.{ClassedNode}
use Rattle.swarm_sched.specs.declared.known.NodeTotals.{NodeTotals}
use Rattle.swarm_sched.specs.declared.known_nodes.KnownNodes.{KnownNodes}
use Rattle.swarm_timers.specs.Timers.{Timer}

totals-so : (t u : Tables) (all : List (Option NodeTotals)) → u.tasks ≡ t.tasks → Knows t all → Knows u all
totals-so t u all same knows = record { each = λ node. so node (recalled all node) (knows.each node) }
  where
    so : (node : ℕ) (o : Option NodeTotals) → IfSome o (AreCounted t node) →
        IfSome o (AreCounted u node)
    so node None is = tt
    so node (Some k) is = counted-alike t u node k (ap (filter (is_placed_on node)) same) is

-- where nodes have as many live tasks
ranks-so : (t u : Tables) (nodes : List ClassedNode) (r : Ranking) → ((m : ℕ) → load t m ≡ load u m) →
    AreRanks t nodes r → AreRanks u nodes r
ranks-so t u nodes r same are = (are.0, record { each = λ class m h. so m (are.1.each class m h) })
  where
    so : (m : Timer) → Has r.stale m.owner ⊎ (m.at ≡ load t m.owner) → Has r.stale m.owner ⊎ (m.at ≡ load u m.owner)
    so m (inl stale) = inl stale
    so m (inr is) = inr (is ∙ same m.owner)

classes-so : (t u : Tables) (o : Option Classes) → ((m : ℕ) → load t m ≡ load u m) → u.nodes ≡ t.nodes →
    AreClasses t o → AreClasses u o
classes-so t u None loads nodes are = tt
classes-so t u (Some k) loads nodes are =
    classes_alike t u k.keys k.nodes k.count k.values k.ranks k.ranks nodes are
    (ranks-so t u k.nodes k.ranks loads are.1)

pub knows_alike : (t u : Tables) (k : KnownNodes) → u.tasks ≡ t.tasks → u.nodes ≡ t.nodes → KnowsNodes t k →
    KnowsNodes u k
knows_alike t u k tasks nodes knows = record {
  totals = totals-so t u k.totals tasks knows.totals;
  classes = classes-so t u k.classes loads nodes knows.classes;
  refusals = refusals_alike t u k.refusals tasks nodes knows.refusals;
  placed = refusals_alike t u k.placed tasks nodes knows.placed;
}
  where
    loads : (m : ℕ) → load t m ≡ load u m
    loads m = ap (count_by (λ x. is_live x && is_placed_on m x)) (sym tasks)

pub knows_spared : (t : Tables) (cs : List Change) (k : KnownNodes) → IsUsable t → AreSpared t cs → KnowsNodes t k →
    KnowsNodes (apply_changes t cs) k
knows_spared t cs k usable spared knows = record {
  totals = spared_knows t cs k.totals usable knows.totals spared;
  classes = classes-so t (apply_changes t cs) k.classes loads nodes knows.classes;
  refusals = spared_known t cs k.refusals usable spared knows.refusals;
  placed = spared_known t cs k.placed usable spared knows.placed;
}
  where
    nodes : (apply_changes t cs).nodes ≡ t.nodes
    nodes =
        ap (λ (l : List Change). (apply_changes t l).nodes) spared.one
        ∙ change-left t (change.PutTask spared.new) refl

    loads : (m : ℕ) → load t m ≡ load (apply_changes t cs) m
    loads m =
        let u : Tables = apply_change t (change.PutTask spared.new) in
        let put : load u m + adds (one_if is_live) m spared.old ≡ load t m + adds (one_if is_live) m spared.new =
        load-put t spared.new spared.old m usable (sym spared.row) in
        let same : adds (one_if is_live) m spared.old ≡ adds (one_if is_live) m spared.new =
        adds-alike (one_if is_live) m spared.old spared.new spared.alike (ap (λ b. cond b 1 0) spared.alike.live) in
        let now : load t m ≡ load u m = omega (arith, put, same) in
        now ∙ ap (λ (l : List Change). load (apply_changes t l) m) (sym spared.one)
