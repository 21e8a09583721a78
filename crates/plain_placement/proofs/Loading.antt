-- What a node holds, by one pass over the tasks.
use Rattle.std.proofs.Common.{◌≡◌, ◌+◌, ◌≤◌, ◌<◌, ℕ, Bool, true, false, cond, List, length, get_or, take, Some, None, refl, sym, ap, ◌∙◌}
use Rattle.std.proofs.lemmas.List.{take_all}
use Rattle.std.proofs.lemmas.List.Sums.{sum_by_more}
use Rattle.std.specs.Prelude.{◌&&◌, ◌||◌, ◌==◌, filter, find, is_none, nat_le, nat_lt, not, sum_by}
use Rattle.plain_placement.specs.Inside.Filtering.{is_open}
use Rattle.plain_placement.specs.Inside.Loads.{IsLoad, has_room_by, suits}
use Rattle.plain_placement.specs.declared.loads.NodeLoad.{NodeLoad}
use Rattle.swarm_objects.proofs.RowLemmas.{sum_by-filter}
use Rattle.swarm_objects.proofs.Tests.{and_fails, both}
use Rattle.swarm_objects.specs.Nodes.BestNode.{load}
use Rattle.swarm_objects.specs.Nodes.Filters.{filter_numbers, has_free_host_ports, here, is_supported, is_tested_on, passes, takes_tasks}
use Rattle.swarm_objects.specs.Nodes.Holdings.{reserved_cpu, reserved_mem}
use Rattle.swarm_objects.specs.Nodes.Words.{meets_all}
use Rattle.swarm_objects.specs.World.{Tables}
use Rattle.swarm_objects.specs.declared.nodes.Node.{Node}
use Rattle.swarm_objects.specs.declared.tasks.Task.{Task}

-- one row more
pub added_so_far : {X : Type 0} (f : X → ℕ) (xs : List X) (i : ℕ) (x : X) (sum after : ℕ) → i < length xs →
    x ≡ get_or xs i x → sum ≡ sum_by f (take i xs) → after ≡ sum + f x → after ≡ sum_by f (take (i + 1) xs)
added_so_far f xs i x sum after lt is so_far plus =
    plus ∙ ap (λ n. n + f x) so_far ∙ ap (λ y. sum_by f (take i xs) + f y) is ∙ sym (sum_by_more f xs i x lt)

-- the sum over those that pass
pub passed_sum : {X : Type 0} (f : X → ℕ) (p : X → Bool) (xs : List X) (sum : ℕ) →
    sum ≡ sum_by (λ x. cond (p x) (f x) 0) xs → sum ≡ sum_by f (filter p xs)
passed_sum f p xs sum e = e ∙ sym (sum_by-filter f p xs)

none_refuses : (p : ℕ → Bool) →
    is_none {T = ℕ} (find (λ k. not (p k)) filter_numbers) ≡ (p 0 && p 1 && p 2 && p 3 && p 4 && p 5)
none_refuses p = go (p 0) (p 1) (p 2) (p 3) (p 4) (p 5)
  where
    go : (a b c d e f : Bool) →
        is_none {T = ℕ} (cond (not a) (Some 0) (cond (not b) (Some 1) (cond (not c) (Some 2)
        (cond (not d) (Some 3) (cond (not e) (Some 4) (cond (not f) (Some 5) None))))))
        ≡ (a && b && c && d && e && f)
    go false b c d e f = refl
    go true false c d e f = refl
    go true true false d e f = refl
    go true true true false e f = refl
    go true true true true false f = refl
    go true true true true true false = refl
    go true true true true true true = refl

-- the tests in another order: those that need no load first
in_order : (tested session cpu mem meets supported ports few : Bool) →
    (tested && (session && (cpu && mem) && meets && supported && ports && few))
    ≡ ((tested && session && meets && supported && ports) && (cpu && mem && few))
in_order false session cpu mem meets supported ports few = refl
in_order true false cpu mem meets supported ports few = refl
in_order true true true true true true true few = refl
in_order true true true true true true false few = refl
in_order true true true true true false ports few = refl
in_order true true true true false supported ports few = refl
in_order true true true false true true true few = refl
in_order true true true false true true false few = refl
in_order true true true false true false ports few = refl
in_order true true true false false supported ports few = refl
in_order true true false mem true true true few = refl
in_order true true false mem true true false few = refl
in_order true true false mem true false ports few = refl
in_order true true false mem false supported ports few = refl

-- a node is open where it suits and has room beside its load
pub open_is : (t : Tables) (x : Task) (n : Node) (held : NodeLoad) → IsLoad t n.id x.service held →
    is_open t x n ≡ (suits t x n && has_room_by x n held)
unfolding is_open
open_is t x n held is =
    ap (λ b. is_tested_on x.place n.id && b) (none_refuses (passes t x n))
    ∙ in_order (is_tested_on x.place n.id) (takes_tasks t n)
    (nat_le (reserved_cpu t n.id + x.template.cpu) n.cpu) (nat_le (reserved_mem t n.id + x.template.mem) n.mem)
    (meets_all x.template.constraints n) (is_supported x.template.platforms n) (has_free_host_ports t x n)
    (x.template.max_replicas == 0 || nat_lt (here t n.id x.service) x.template.max_replicas)
    ∙ ap (λ k. suits t x n && (nat_le (k + x.template.cpu) n.cpu
    && nat_le (reserved_mem t n.id + x.template.mem) n.mem
    && (x.template.max_replicas == 0 || nat_lt (here t n.id x.service) x.template.max_replicas))) (sym is.cpu)
    ∙ ap (λ k. suits t x n && (nat_le (held.cpu + x.template.cpu) n.cpu && nat_le (k + x.template.mem) n.mem
    && (x.template.max_replicas == 0 || nat_lt (here t n.id x.service) x.template.max_replicas))) (sym is.mem)
    ∙ ap (λ k. suits t x n && (nat_le (held.cpu + x.template.cpu) n.cpu && nat_le (held.mem + x.template.mem) n.mem
    && (x.template.max_replicas == 0 || nat_lt k x.template.max_replicas))) (sym is.here)

and_falls : (a b : Bool) → a ≡ false → (a && b) ≡ false
and_falls true b e = absurd cc
and_falls false b e = refl

-- where it doesn't suit, its load doesn't matter
pub unsuited : (t : Tables) (x : Task) (n : Node) → suits t x n ≡ false → is_open t x n ≡ false
unsuited t x n no' =
    let held : NodeLoad = record {
      cpu = reserved_cpu t n.id;
      mem = reserved_mem t n.id;
      here = here t n.id x.service;
      live = load t n.id;
    } in
    let is : IsLoad t n.id x.service held = record { cpu = refl; mem = refl; here = refl; live = refl } in
    open_is t x n held is ∙ and_falls (suits t x n) (has_room_by x n held) no'

pub opens : (t : Tables) (x : Task) (n : Node) (held : NodeLoad) → IsLoad t n.id x.service held → suits t x n ≡ true →
    has_room_by x n held ≡ true → is_open t x n ≡ true
opens t x n held is yes' also = open_is t x n held is ∙ both (suits t x n) (has_room_by x n held) yes' also

pub too_full : (t : Tables) (x : Task) (n : Node) (held : NodeLoad) → IsLoad t n.id x.service held →
    has_room_by x n held ≡ false → is_open t x n ≡ false
too_full t x n held is no' = open_is t x n held is ∙ and_fails (suits t x n) (has_room_by x n held) no'

-- the sums of all rows, once the loop has ended
pub of_all : {X : Type 0} (f : X → ℕ) (xs rows : List X) (i sum : ℕ) → xs ≡ rows → length xs ≤ i →
    sum ≡ sum_by f (take i xs) → sum ≡ sum_by f rows
of_all f xs rows i sum are ended e = e ∙ ap (sum_by f) (take_all i xs ended) ∙ ap (sum_by f) are
