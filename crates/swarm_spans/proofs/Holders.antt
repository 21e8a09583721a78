-- What changes do to what tasks hold of addresses, and services of port numbers.
use Rattle.std.proofs.Common.{◌≡◌, ℕ, ◌+◌, ◌<◌, ◌≤◌, Bool, true, false, cond, leb, ◌⊎◌, inl, inr, List, [], ◌∷◌, Option, Some, None, refl, sym, ap, ◌∙◌, subst, length, suc, zero, arith, filter}
use Rattle.std.proofs.lemmas.Bool.Decides.{nat_tests}
use Rattle.std.specs.Prelude.{◌-◌, ◌++◌, flat_map, is_some, ◌==◌}
use Rattle.swarm_objects.proofs.FreeNumbers.{is_taken, not-Has, taken-Has}
use Rattle.swarm_objects.proofs.Gaps.{first_gap-free, first_gap-ge}
use Rattle.swarm_objects.proofs.Rising.{gap-free, gap-held, rising-cases, rising-has, rising-rises}
use Rattle.swarm_objects.proofs.RowLemmas.{Has-filter, Has-filter_cases, Has-flat_map, Has-flat_map_cases, Has-from_row_at, Has-map, Has-map_cases, row_at-Some}
use Rattle.swarm_objects.proofs.Tests.{same_test}
use Rattle.swarm_objects.specs.ChangeLists.{apply_change, apply_changes}
use Rattle.swarm_objects.specs.Limits.{first_port, last_port}
use Rattle.swarm_objects.specs.Loops.Allocator.{has_free_address, has_free_port}
use Rattle.swarm_objects.specs.Rows.{first_free, first_gap, Has, IsRising, itself, network_id, on_row, rising, RisesFrom, row_at, service_id, task_id}
use Rattle.swarm_objects.specs.Services.Ports.{numbers_given, numbers_named, ports_held, ports_of}
use Rattle.swarm_objects.specs.Tasks.Addresses.{addresses_held, addresses_in, free_in}
use Rattle.swarm_objects.specs.Tasks.Words.{is_not_over}
use Rattle.swarm_objects.specs.World.{Tables}
use Rattle.swarm_objects.specs.declared.networks.Network.{Network}
use Rattle.swarm_objects.specs.declared.rows.Change.{Change}
use Rattle.swarm_objects.specs.declared.rows.Change.TheVariants as change
use Rattle.swarm_objects.specs.declared.services.Service.{Service}
use Rattle.swarm_objects.specs.declared.tasks.Address.{Address}
use Rattle.swarm_objects.specs.declared.tasks.Task.{Task}
use Rattle.swarm_objects.specs.declared.templates.Port.{Port}
use Rattle.swarm_spans.proofs.Blocked.{left-all}
use Rattle.swarm_spans.proofs.Lines.{has-when}
use Rattle.swarm_spans.proofs.Made.{put-leaves, put-or-was, services-made}
use Rattle.swarm_spans.specs.Holding.{AreAmong, EachPasses, FreesNone, HavePassed, held, held_at, HoldSamePorts, HoldsOn, KeepsPorts, TouchesWhere}
use Rattle.swarm_spans.specs.Kept.{KeepsWhere}
use Rattle.swarm_spans.specs.Lines.{FreeAsBefore, is_to_allocate, NoMoreFree, to_allocate}
use Rattle.swarm_spans.specs.Spans.{CoversTasks, is_in, IsWider}
use Rattle.swarm_spans.specs.declared.span.Span.{Span}

-- One task.

among-none : (those : List Address) → AreAmong [] those
among-none those = record { each = λ a h. absurd h }

pub over_among : (x : Task) (those : List Address) → is_not_over x ≡ false → AreAmong (held x) those
over_among x those e = subst (λ (b : Bool). AreAmong (cond b x.addresses []) those) (sym e) (among-none those)

pub empty_among : (x : Task) (those : List Address) → x.addresses ≡ [] → AreAmong (held x) those
empty_among x those e = go (is_not_over x)
  where
    go : (b : Bool) → AreAmong (cond b x.addresses []) those
    go true = subst (λ (list : List Address). AreAmong list those) (sym e) (among-none those)
    go false = among-none those

pub none_among : (x : Task) (those : List Address) → AreAmong (held x) [] → AreAmong (held x) those
none_among x those none = record { each = λ a h. absurd (none.each a h) }

pub same_among : (x y : Task) → is_not_over y ≡ true → x.addresses ≡ y.addresses → AreAmong (held x) (held y)
same_among x y up same = go (is_not_over x)
  where
    own : x.addresses ≡ held y
    own = same ∙ ap (λ (b : Bool). cond b y.addresses []) (sym up)

    go : (b : Bool) → AreAmong (cond b x.addresses []) (held y)
    go true = record { each = λ a h. subst (λ (list : List Address). Has list a) own h }
    go false = among-none (held y)

-- The task with an id.

pub at_among : (t : Tables) (id : ℕ) (z : Task) (those : List Address) → Some z ≡ row_at task_id id t.tasks
    → AreAmong (held z) those → AreAmong (held_at t id) those
at_among t id z those e has = subst (λ (o : Option Task). AreAmong (on_row [] held o) those) e has

pub none_at : (t : Tables) (id : ℕ) (those : List Address) → None ≡ row_at task_id id t.tasks
    → AreAmong (held_at t id) those
none_at t id those e = subst (λ (o : Option Task). AreAmong (on_row [] held o) those) e (among-none those)

pub among_at : (t : Tables) (id : ℕ) (z : Task) (these : List Address) → Some z ≡ row_at task_id id t.tasks
    → AreAmong these (held z) → AreAmong these (held_at t id)
among_at t id z these e has = subst (λ (o : Option Task). AreAmong these (on_row [] held o)) e has

pub none_among_at : (these those : List Address) → AreAmong these [] → AreAmong these those
none_among_at these those none = record { each = λ a h. absurd (none.each a h) }

pub ruleset held_steps =
    (over_among, empty_among, none_among, same_among, at_among, none_at, among_at, none_among_at)

-- Services.

pub no_ports : (ports : List Port) → ports ≡ [] → [] ≡ ports
no_ports ports e = sym e

pub hold_same : (a b : Service) → a.spec.ports ≡ b.spec.ports → a.numbers ≡ b.numbers
    → ports_of b.previous ≡ ports_of a.previous → HoldSamePorts a b
hold_same a b ports numbers previous = record {
  ports = λ udp.
      ap (λ ps. numbers_named udp ps ++ numbers_named udp (ports_of b.previous) ++ numbers_given udp b.numbers) (sym ports)
      ∙ ap (λ ps. numbers_named udp a.spec.ports ++ numbers_named udp ps ++ numbers_given udp b.numbers) previous
      ∙ ap (λ ns. numbers_named udp a.spec.ports ++ numbers_named udp (ports_of a.previous) ++ numbers_given udp ns)
      (sym numbers);
}

pub former_keeps : (t : Tables) (a s : Service) → Some a ≡ row_at service_id s.id t.services → HoldSamePorts a s
    → KeepsPorts t s
former_keeps t a s e same = record {
  former = λ b was.
      let one : Some a ≡ Some b = e ∙ was in
      let is : a ≡ b = cc in
      subst (λ (z : Service). HoldSamePorts z s) is same;
}

pub none_keeps : (t : Tables) (s : Service) → None ≡ row_at service_id s.id t.services → KeepsPorts t s
none_keeps t s e = record { former = λ b was. let both : None ≡ Some b = e ∙ was in absurd cc }

pub ruleset port_steps = (no_ports, hold_same, former_keeps, none_keeps)

-- All changes.

pub none_passed : (P : Change → Type 0) (cs : List Change) → HavePassed P cs cs
none_passed P cs = record { each = λ c h. inr h }

pub one_passed : (P : Change → Type 0) (all left rest : List Change) (c : Change) → HavePassed P all left
    → left ≡ c ∷ rest → P c → HavePassed P all rest
one_passed P all left rest c so_far step passes = record {
  each = λ x h.
      elim (so_far.each x h) [
        | inl done ↦ inl done
        | inr there ↦ now x (subst (λ list. Has list x) step there)
      ];
}
  where
    now : (x : Change) → ((c ≡ x) ⊎ Has rest x) → P x ⊎ Has rest x
    now x (inl same) = inl (subst P same passes)
    now x (inr h) = inr h

pub all_passed : (P : Change → Type 0) (all left : List Change) → HavePassed P all left → length left ≡ 0
    → EachPasses P all
all_passed P all left so_far none = record {
  each = λ c h. elim (so_far.each c h) [ inl passes ↦ passes | inr there ↦ nothing left none c there ];
}
  where
    nothing : (left : List Change) → length left ≡ 0 → (c : Change) → Has left c → P c
    nothing [] e c h = absurd h
    nothing (x ∷ left) e c h = absurd (omega (arith, e))

pub ruleset pass_steps = (none_passed, one_passed, all_passed)

-- With more that is taken, no more is free.

least-gap : (count from g : ℕ) (ks : List ℕ) → g ≡ from + count → IsRising itself ks → ¬ (Has ks g)
    → first_gap from ks ≤ g
least-gap zero from g ks is rises free =
    let same : g ≡ from = omega (arith, is) in
    let gap = gap-free from ks (subst (λ (n : ℕ). ¬ (Has ks n)) same free) in omega (arith, gap, same)
least-gap (suc count) from g ks is rises free =
    go (is_taken ks from) refl (least-gap count (from + 1) g ks (omega (arith, is)) rises free)
  where
    go : (b : Bool) → is_taken ks from ≡ b → first_gap (from + 1) ks ≤ g → first_gap from ks ≤ g
    go true e below = let gap = gap-held from ks rises (taken-Has ks from e) in omega (arith, gap, below)
    go false e below = let gap = gap-free from ks (not-Has ks from e) in omega (arith, gap, is)

up-within : (high g : ℕ) → is_some (cond (leb g high) (Some g) None) ≡ true → g ≤ high
up-within high g e = go (leb g high) refl e
  where
    go : (b : Bool) → leb g high ≡ b → is_some (cond b (Some g) None) ≡ true → g ≤ high
    go true le e = grind (arith, nat_tests, le)
    go false le e = absurd cc

within-up : (high g : ℕ) → g ≤ high → is_some (cond (leb g high) (Some g) None) ≡ true
within-up high g le = go (leb g high) refl
  where
    go : (b : Bool) → leb g high ≡ b → is_some (cond b (Some g) None) ≡ true
    go true e = refl
    go false e = absurd (let above : high < g = grind (arith, nat_tests, e) in omega (arith, above, le))

free-still : (low high : ℕ) (ks js : List ℕ) → ((m : ℕ) → Has js m → Has ks m)
    → is_some (first_free low high ks) ≡ true → is_some (first_free low high js) ≡ true
free-still low high ks js more e =
    let g = first_gap low (rising ks) in
    let ge = first_gap-ge low (rising ks) in
    let free = first_gap-free low (rising ks) (rising-rises ks) in
    let le = up-within high g e in
    let below = least-gap (g - low) low g (rising js) (omega (arith, ge)) (rising-rises js)
    (λ h. free (rising-has ks g (more g (rising-cases js g h)))) in
    within-up high (first_gap low (rising js)) (omega (arith, below, le))

-- Addresses.

networks-left : (cs : List Change) (t : Tables) → (apply_changes t cs).networks ≡ t.networks
networks-left [] t = refl
networks-left (c ∷ cs) t = networks-left cs (apply_change t c) ∙ one c
  where
    one : (c : Change) → (apply_change t c).networks ≡ t.networks
    one (change.PutNode m) = refl
    one (change.PutService s) = refl
    one (change.PutTask x) = put-leaves (λ v. v.networks) t x refl refl
    one (change.DropTask id) = refl
    one (change.Keep a) = refl

-- a number of the network is held where a task holds its address
holder : (t : Tables) (n m : ℕ) → Has (addresses_held t n) m
    → (z : Task) × (a : Address) × Has t.tasks z × Has (held z) a × ((a.network == n) ≡ true) × (a.number ≡ m)
holder t n m h =
    let of = Has-flat_map_cases (addresses_in n) (filter is_not_over t.tasks) m h in
    let there = Has-filter_cases is_not_over t.tasks of.0 of.1 in
    let at = Has-map_cases (λ (a : Address). a.number) (filter (λ (a : Address). a.network == n) of.0.addresses) m of.2 in
    let two = Has-filter_cases (λ (a : Address). a.network == n) of.0.addresses at.0 at.1 in (
      of.0,
      at.0,
      there.0,
      subst (λ (b : Bool). Has (cond b of.0.addresses []) at.0) (sym there.1) two.0,
      two.1,
      at.2,
    )

holds : (t : Tables) (n m : ℕ) (z : Task) (a : Address) → Has t.tasks z → Has (held z) a → (a.network == n) ≡ true
    → a.number ≡ m → Has (addresses_held t n) m
holds t n m z a h own network number = go (is_not_over z) refl own
  where
    go : (b : Bool) → is_not_over z ≡ b → Has (cond b z.addresses []) a → Has (addresses_held t n) m
    go true up has =
        Has-flat_map (addresses_in n) (filter is_not_over t.tasks) z m (Has-filter is_not_over t.tasks z h up)
        (subst (Has (addresses_in n z)) number
        (Has-map (λ (a : Address). a.number) (filter (λ (a : Address). a.network == n) z.addresses) a
        (Has-filter (λ (a : Address). a.network == n) z.addresses a has network)))
    go false up has = absurd has

at-own : (t : Tables) (z : Task) (id : ℕ) → RisesFrom task_id 0 t.tasks → Has t.tasks z → z.id ≡ id
    → held_at t id ≡ held z
at-own t z id rises h e =
    ap (λ (k : ℕ). held_at t k) (sym e) ∙ ap (on_row [] held) (row_at-Some task_id 0 t.tasks z rises h)

-- what was held is held still
held-still : (t : Tables) (cs : List Change) → RisesFrom task_id 0 t.tasks
    → EachPasses (FreesNone t) cs → (n m : ℕ) → Has (addresses_held t n) m
    → Has (addresses_held (apply_changes t cs) n) m
held-still t cs rises none n m h = by (holder t n m h)
  where
    by : ((z : Task) × (a : Address) × Has t.tasks z × Has (held z) a × ((a.network == n) ≡ true) × (a.number ≡ m))
        → Has (addresses_held (apply_changes t cs) n) m
    by (z, a, there, own, network, number) = how (left-all cs t z there)
      where
        how : (((w : Task) × Has (apply_changes t cs).tasks w × (w.id ≡ z.id)
            × ((w ≡ z) ⊎ Has cs (change.PutTask w))) ⊎ Has cs (change.DropTask z.id))
            → Has (addresses_held (apply_changes t cs) n) m
        how (inl (w, now, id, inl same)) =
            holds (apply_changes t cs) n m w a now (subst (λ (x : Task). Has (held x) a) (sym same) own) network number
        how (inl (w, now, id, inr put)) =
            holds (apply_changes t cs) n m w a now
            ((none.each (change.PutTask w) put).each a
            (subst (λ (list : List Address). Has list a) (sym (at-own t z w.id rises there (sym id))) own)) network number
        how (inr dropped) =
            absurd ((none.each (change.DropTask z.id) dropped).each a
            (subst (λ (list : List Address). Has list a) (sym (at-own t z z.id rises there refl)) own))

-- what is held was held
held-before : (t : Tables) (cs : List Change) → EachPasses (HoldsOn t) cs → (n m : ℕ)
    → Has (addresses_held (apply_changes t cs) n) m → Has (addresses_held t n) m
held-before t cs same n m h = by (holder (apply_changes t cs) n m h)
  where
    at : (w : Task) (a : Address) → (a.network == n) ≡ true → a.number ≡ m → (o : Option Task)
        → row_at task_id w.id t.tasks ≡ o → Has (on_row [] held o) a → Has (addresses_held t n) m
    at w a network number None e has = absurd has
    at w a network number (Some z) e has =
        holds t n m z a (Has-from_row_at task_id w.id t.tasks z e).0 has network number

    by : ((w : Task) × (a : Address) × Has (apply_changes t cs).tasks w × Has (held w) a × ((a.network == n) ≡ true)
        × (a.number ≡ m)) → Has (addresses_held t n) m
    by (w, a, there, own, network, number) =
        elim (put-or-was cs t w there) [
          | inl put ↦ at w a network number (row_at task_id w.id t.tasks) refl
              ((same.each (change.PutTask w) put).1.each a own)
          | inr was ↦ holds t n m w a was own network number
        ]

free-there : (t u : Tables) (n : ℕ) → u.networks ≡ t.networks
    → ((m : ℕ) → Has (addresses_held t n) m → Has (addresses_held u n) m) → has_free_address u n ≡ true
    → has_free_address t n ≡ true
free-there t u n same more e =
    go (row_at network_id n t.networks)
    (subst (λ (ns : List Network). is_some (on_row None (free_in (addresses_held u n)) (row_at network_id n ns)) ≡ true)
    same e)
  where
    go : (o : Option Network) → is_some (on_row None (free_in (addresses_held u n)) o) ≡ true
        → is_some (on_row None (free_in (addresses_held t n)) o) ≡ true
    go None e = e
    go (Some network) e = free-still _ _ (addresses_held u n) (addresses_held t n) more e

none-freed : (t : Tables) (cs : List Change) → RisesFrom task_id 0 t.tasks → EachPasses (FreesNone t) cs → (n : ℕ)
    → has_free_address (apply_changes t cs) n ≡ true → has_free_address t n ≡ true
none-freed t cs rises none n =
    free-there t (apply_changes t cs) n (networks-left cs t) (held-still t cs rises none n)

frees-none : (t : Tables) (c : Change) → HoldsOn t c → FreesNone t c
frees-none t (change.PutNode m) same = tt
frees-none t (change.PutService s) same = tt
frees-none t (change.PutTask x) same = same.0
frees-none t (change.DropTask id) same = same
frees-none t (change.Keep a) same = tt

-- Port numbers.

ports-still : (t : Tables) (cs : List Change) → RisesFrom service_id 0 t.services → EachPasses (HoldsOn t) cs
    → (udp : Bool) (m : ℕ) → Has (flat_map (ports_held udp) t.services) m
    → Has (flat_map (ports_held udp) (apply_changes t cs).services) m
ports-still t cs rises same udp m h = by (Has-flat_map_cases (ports_held udp) t.services m h)
  where
    u : Tables
    u = apply_changes t cs

    by : ((a : Service) × Has t.services a × Has (ports_held udp a) m) → Has (flat_map (ports_held udp) u.services) m
    by (a, there, own) = how (services-made cs t a.id)
      where
        was : row_at service_id a.id t.services ≡ Some a
        was = row_at-Some service_id 0 t.services a rises there

        how : ((row_at service_id a.id (apply_changes t cs).services ≡ row_at service_id a.id t.services)
            ⊎ ((b s : Service) × (row_at service_id a.id t.services ≡ Some b) × (s.id ≡ a.id)
            × Has cs (change.PutService s) × (row_at service_id a.id (apply_changes t cs).services ≡ Some s)))
            → Has (flat_map (ports_held udp) u.services) m
        how (inl e) =
            Has-flat_map (ports_held udp) u.services a m (Has-from_row_at service_id a.id u.services a (e ∙ was)).0 own
        how (inr (b, s, is, id, put, now)) =
            let keeps = (same.each (change.PutService s) put).former a (ap (λ k. row_at service_id k t.services) id ∙ was) in
            Has-flat_map (ports_held udp) u.services s m (Has-from_row_at service_id a.id u.services s now).0
            (subst (λ (ks : List ℕ). Has ks m) (sym (keeps.ports udp)) own)

ports-before : (t : Tables) (cs : List Change) → RisesFrom service_id 0 (apply_changes t cs).services
    → EachPasses (HoldsOn t) cs → (udp : Bool) (m : ℕ)
    → Has (flat_map (ports_held udp) (apply_changes t cs).services) m → Has (flat_map (ports_held udp) t.services) m
ports-before t cs rises same udp m h = by (Has-flat_map_cases (ports_held udp) (apply_changes t cs).services m h)
  where
    by : ((s : Service) × Has (apply_changes t cs).services s × Has (ports_held udp s) m)
        → Has (flat_map (ports_held udp) t.services) m
    by (s, there, own) = how (services-made cs t s.id)
      where
        is : row_at service_id s.id (apply_changes t cs).services ≡ Some s
        is = row_at-Some service_id 0 (apply_changes t cs).services s rises there

        how : ((row_at service_id s.id (apply_changes t cs).services ≡ row_at service_id s.id t.services)
            ⊎ ((a z : Service) × (row_at service_id s.id t.services ≡ Some a) × (z.id ≡ s.id)
            × Has cs (change.PutService z) × (row_at service_id s.id (apply_changes t cs).services ≡ Some z)))
            → Has (flat_map (ports_held udp) t.services) m
        how (inl e) =
            Has-flat_map (ports_held udp) t.services s m (Has-from_row_at service_id s.id t.services s (sym e ∙ is)).0 own
        how (inr (a, z, was, id, put, now)) =
            let both : Some z ≡ Some s = sym now ∙ is in
            let one : z ≡ s = cc in
            let keeps = (same.each (change.PutService z) put).former a (ap (λ k. row_at service_id k t.services) id ∙ was) in
            let own-z : Has (ports_held udp z) m = subst (λ (x : Service). Has (ports_held udp x) m) (sym one) own in
            Has-flat_map (ports_held udp) t.services a m (Has-from_row_at service_id s.id t.services a was).0
            (subst (λ (ks : List ℕ). Has ks m) (keeps.ports udp) own-z)

-- What the lines ask for.

waits : (t : Tables) (waiting wide : Span) (x : Task) → CoversTasks to_allocate t waiting → IsWider wide waiting
    → Has t.tasks x → is_to_allocate x ≡ true → is_in wide x.id ≡ true
waits t waiting wide x c wider h e = wider.has x.id (c.has x h (has-when (is_to_allocate x) _ ∙ e))

pub freed_kept : (t : Tables) (cs : List Change) (waiting wide : Span) → RisesFrom task_id 0 t.tasks
    → CoversTasks to_allocate t waiting → TouchesWhere (FreesNone t) cs waiting wide
    → KeepsWhere is_to_allocate (NoMoreFree t (apply_changes t cs)) t wide
freed_kept t cs waiting wide rises c (inl wider) =
    record { each = λ x h e. inl (waits t waiting wide x c wider h e) }
freed_kept t cs waiting wide rises c (inr none) =
    record { each = λ x h e. inr (record { networks = λ n there. none-freed t cs rises none n }) }

pub held_kept : (t : Tables) (cs : List Change) (waiting wide : Span) → RisesFrom task_id 0 t.tasks
    → RisesFrom service_id 0 t.services → RisesFrom service_id 0 (apply_changes t cs).services
    → CoversTasks to_allocate t waiting → TouchesWhere (HoldsOn t) cs waiting wide
    → KeepsWhere is_to_allocate (FreeAsBefore t (apply_changes t cs)) t wide
held_kept t cs waiting wide rises before after c (inl wider) =
    record { each = λ x h e. inl (waits t waiting wide x c wider h e) }
held_kept t cs waiting wide rises before after c (inr same) = record {
  each = λ x h e.
      inr (record {
        ports = λ udp.
            same_test (has_free_port (apply_changes t cs) udp) (has_free_port t udp)
            (free-still first_port last_port _ _ (ports-still t cs before same udp))
            (free-still first_port last_port _ _ (ports-before t cs after same udp));
        networks = λ n.
            same_test (has_free_address (apply_changes t cs) n) (has_free_address t n)
            (none-freed t cs rises (record { each = λ d has. frees-none t d (same.each d has) }) n)
            (free-there (apply_changes t cs) t n (sym (networks-left cs t)) (held-before t cs same n));
      });
}
