-- No more events than rows before and new ones, and no more new ones than operations.
use Rattle.std.proofs.Common.{◌≡◌, ◌≤◌, ◌+◌, ◌++◌, ◌∷◌, ◌⊎◌, ℕ, Bool, true, false, cond, eqb, not, inl, inr, List, [], length, Option, None, Some, Ok, Err, Result, OnOk, arith, refl, sym, ap, ◌∙◌, subst}
use Rattle.std.specs.Prelude.{filter, flat_map, fold, is_some, map, ◌==◌}
use Rattle.std.proofs.lemmas.Bool.Decides.{nat_tests}
use Rattle.std.proofs.lemmas.List.{length-append, length-map}
use Rattle.swarm_model.proofs.Base.Answers.{OnGiven, given-found, given-unless, given-unless_some}
use Rattle.swarm_model.specs.Calls.Networks.{new_network, remove_network}
use Rattle.swarm_objects.specs.NewRows.{new_node, respecified, respecified_node}
use Rattle.swarm_model.specs.Calls.Nodes.{remove_node, update_node}
use Rattle.swarm_model.specs.Calls.Operations.{apply_op, apply_ops}
use Rattle.swarm_model.specs.Calls.Refusals.{Done, conflict, network_by, node_by, service_by}
use Rattle.swarm_model.specs.Calls.Services.{filled, go_back, new_service, remove_service, rollback_service, update_service}
use Rattle.swarm_model.specs.Changed.{changes_between, event, events_of, row_events, verb_of}
use Rattle.swarm_model.specs.Content.{same_network, same_node, same_service, same_task}
use Rattle.swarm_objects.proofs.Gaps.{IsRising-with_row}
use Rattle.swarm_objects.proofs.RowLemmas.{Has-from_row_at, Has-map}
use Rattle.swarm_objects.specs.Effects.{world_with}
use Rattle.swarm_objects.specs.Rows.{Has, IsRising, has_row, itself, network_id, node_id, put_row, rising, row_at, service_id, task_id, with_number}
use Rattle.swarm_objects.specs.World.{Tables, World}
use Rattle.swarm_objects.specs.declared.calls.Op.{Op}
use Rattle.swarm_objects.specs.declared.calls.Op.TheVariants as op
use Rattle.swarm_objects.specs.declared.ids.Kind.{Kind}
use Rattle.swarm_objects.specs.declared.ids.Kind.TheVariants as kind
use Rattle.swarm_objects.specs.declared.networks.Network.{Network}
use Rattle.swarm_objects.specs.declared.nodes.Node.{Node}
use Rattle.swarm_objects.specs.declared.replies.Refusal.{Refusal}
use Rattle.swarm_objects.specs.declared.replies.Wanted.TheVariants as wanted_by
use Rattle.swarm_objects.specs.declared.services.Service.{Service}
use Rattle.swarm_objects.specs.declared.services.ServiceSpec.{ServiceSpec}
use Rattle.swarm_objects.specs.declared.watches.Event.{Event}
use Rattle.swarm_objects.specs.declared.watches.Verb.TheVariants as verb
use Rattle.swarm_store.proofs.ByKey.{at-with}
use Rattle.swarm_store.proofs.Orphans.{orphaned, orphaned-id}
use Rattle.swarm_store.proofs.Standing.{key-put}
use Rattle.swarm_store.proofs.Tracking.{has-there, length-put-rising, length-with_number}
use Rattle.swarm_store.specs.Inside.Done.{made_all}
use Rattle.swarm_store.specs.Inside.Ops.{Reached}
use Rattle.swarm_store.specs.Stored.{row_count, without_sessions}

-- How many of a list pass a test.

abbrev many : {X : Type 0} → (X → Bool) → List X → ℕ
many p xs = length (filter p xs)

fewer : {X : Type 0} (p q : X → Bool) (xs : List X) → ((x : X) → q x ≡ true → p x ≡ true) → many q xs ≤ many p xs
fewer p q [] more = omega arith
fewer p q (x ∷ xs) more = go (q x) refl (p x) refl (fewer p q xs more)
  where
    go : (a : Bool) → q x ≡ a → (b : Bool) → p x ≡ b → many q xs ≤ many p xs →
        length (cond a (x ∷ filter q xs) (filter q xs)) ≤ length (cond b (x ∷ filter p xs) (filter p xs))
    go true e true f le = omega (arith, le)
    go true e false f le = absurd (let is = sym f ∙ more x e in cc)
    go false e true f le = omega (arith, le)
    go false e false f le = le

none-many : {X : Type 0} (p : X → Bool) (xs : List X) → ((x : X) → Has xs x → p x ≡ false) → many p xs ≡ 0
none-many p [] none = refl
none-many p (x ∷ xs) none =
    ap (λ b. length (cond b (x ∷ filter p xs) (filter p xs))) (none x (inl refl)) ∙ none-many p xs (λ y h. none y (inr h))

many-push : {X : Type 0} (p : X → Bool) (xs : List X) (x : X) → many p (xs ++ x ∷ []) ≤ many p xs + 1
many-push p [] x = go (p x)
  where
    go : (b : Bool) → length (cond b (x ∷ []) []) ≤ 1
    go true = omega arith
    go false = omega arith
many-push p (y ∷ xs) x = go (p y) (many-push p xs x)
  where
    go : (b : Bool) → many p (xs ++ x ∷ []) ≤ many p xs + 1 →
        length (cond b (y ∷ filter p (xs ++ x ∷ [])) (filter p (xs ++ x ∷ []))) ≤ length (cond b (y ∷ filter p xs) (filter p xs)) + 1
    go true le = omega (arith, le)
    go false le = le

many-left : {X : Type 0} (p q : X → Bool) (xs : List X) → many p (filter q xs) ≤ many p xs
many-left p q [] = omega arith
many-left p q (x ∷ xs) = go (q x) (p x) refl (many-left p q xs)
  where
    go : (a b : Bool) → p x ≡ b → many p (filter q xs) ≤ many p xs →
        many p (cond a (x ∷ filter q xs) (filter q xs)) ≤ length (cond b (x ∷ filter p xs) (filter p xs))
    go true b e le = subst (λ c. length (cond c (x ∷ filter p (filter q xs)) (filter p (filter q xs))) ≤
        length (cond b (x ∷ filter p xs) (filter p xs))) (sym e) (both b le)
      where
        both : (b : Bool) → many p (filter q xs) ≤ many p xs →
            length (cond b (x ∷ filter p (filter q xs)) (filter p (filter q xs))) ≤ length (cond b (x ∷ filter p xs) (filter p xs))
        both true le = omega (arith, le)
        both false le = le
    go false true e le = omega (arith, le)
    go false false e le = le

many-map : {X Y : Type 0} (p : Y → Bool) (q : X → Bool) (f : X → Y) (xs : List X) → ((x : X) → p (f x) ≡ q x) →
    many p (map f xs) ≡ many q xs
many-map p q f [] same = refl
many-map p q f (x ∷ xs) same =
    ap (λ b. length (cond b (f x ∷ filter p (map f xs)) (filter p (map f xs)))) (same x) ∙ go (q x) (many-map p q f xs same)
  where
    go : (b : Bool) → many p (map f xs) ≡ many q xs →
        length (cond b (f x ∷ filter p (map f xs)) (filter p (map f xs))) ≡ length (cond b (x ∷ filter q xs) (filter q xs))
    go true e = omega (arith, e)
    go false e = e

-- How many numbers there are, each counted once.

abbrev outside : List ℕ → ℕ → Bool
outside ks k = not (has_row itself k ks)

abbrev into : List ℕ → List ℕ → List ℕ
into ks numbers = fold (λ js k. with_number k js) ks numbers

-- one that is outside of more is outside of fewer
outside-with : (k : ℕ) (ks : List ℕ) (j : ℕ) → outside (with_number k ks) j ≡ true → outside ks j ≡ true
outside-with k ks j out = go (eqb k j) (at-with itself j k ks)
  where
    go : (b : Bool) → row_at itself j (with_number k ks) ≡ cond b (Some k) (row_at itself j ks) → outside ks j ≡ true
    go true at = absurd (let is : true ≡ false = sym out ∙ ap (λ o. not (is_some o)) at in cc)
    go false at = sym (ap (λ o. not (is_some o)) at) ∙ out

-- with these the numbers are more by those that are outside
few-into : (ks numbers : List ℕ) → IsRising itself ks → length (into ks numbers) ≤ length ks + many (outside ks) numbers
few-into ks [] r = omega arith
few-into ks (k ∷ numbers) r =
    go (has_row itself k ks) (few-into (with_number k ks) numbers (IsRising-with_row itself k ks r)) (length-put-rising itself k ks r)
    (fewer (outside ks) (outside (with_number k ks)) numbers (outside-with k ks))
  where
    go : (b : Bool) → length (into (with_number k ks) numbers) ≤ length (with_number k ks) + many (outside (with_number k ks)) numbers →
        length (with_number k ks) ≡ cond b (length ks) (length ks + 1) →
        many (outside (with_number k ks)) numbers ≤ many (outside ks) numbers →
        length (into (with_number k ks) numbers) ≤
        length ks + length (cond (not b) (k ∷ filter (outside ks) numbers) (filter (outside ks) numbers))
    go true le len less = omega (arith, le, len, less)
    go false le len less = omega (arith, le, len, less)

few-all : (ks numbers : List ℕ) → length (into ks numbers) ≤ length ks + length numbers
few-all ks [] = omega arith
few-all ks (k ∷ numbers) = omega (arith, few-all (with_number k ks) numbers, length-with_number k ks)

-- a number that was put is there
there-into : (numbers ks : List ℕ) (k : ℕ) → (has_row itself k ks ≡ true) ⊎ Has numbers k → has_row itself k (into ks numbers) ≡ true
there-into [] ks k (inl there) = there
there-into [] ks k (inr h) = absurd h
there-into (j ∷ numbers) ks k why = there-into numbers (with_number j ks) k (go (eqb j k) refl (at-with itself k j ks) why)
  where
    go : (b : Bool) → eqb j k ≡ b → row_at itself k (with_number j ks) ≡ cond b (Some j) (row_at itself k ks) →
        (has_row itself k ks ≡ true) ⊎ Has (j ∷ numbers) k → (has_row itself k (with_number j ks) ≡ true) ⊎ Has numbers k
    go true e at why = inl (ap is_some at)
    go false e at (inl there) = inl (ap is_some at ∙ there)
    go false e at (inr (inl same)) = absurd (grind (arith, nat_tests, same))
    go false e at (inr (inr h)) = inr h

into-append : (ks ns ms : List ℕ) → into ks (ns ++ ms) ≡ into (into ks ns) ms
into-append ks [] ms = refl
into-append ks (n ∷ ns) ms = into-append (with_number n ks) ns ms

map-both : {X Y : Type 0} (f : X → Y) (xs ys : List X) → map f (xs ++ ys) ≡ map f xs ++ map f ys
map-both f [] ys = refl
map-both f (x ∷ xs) ys = ap (λ zs. f x ∷ zs) (map-both f xs ys)

rising-into : (ks numbers : List ℕ) → IsRising itself ks → IsRising itself (into ks numbers)
rising-into ks [] r = r
rising-into ks (k ∷ numbers) r = rising-into (with_number k ks) numbers (IsRising-with_row itself k ks r)

-- Rows that weren't there before.

abbrev is_new : {X : Type 0} → (X → ℕ) → List X → ℕ → Bool
is_new key old id = not (has_row key id old)

abbrev new_rows : {X : Type 0} → (X → ℕ) → List X → List X → ℕ
new_rows key old new = many (λ x. is_new key old (key x)) new

abbrev new_count : Tables → Tables → ℕ
new_count t u =
    new_rows node_id t.nodes u.nodes + new_rows service_id t.services u.services + new_rows task_id t.tasks u.tasks
    + new_rows network_id t.networks u.networks

found-key : {X : Type 0} (key : X → ℕ) (id : ℕ) (rows : List X) → has_row key id rows ≡ true → Has (map key rows) id
found-key key id rows there = go (row_at key id rows) refl there
  where
    go : (o : Option _) → row_at key id rows ≡ o → is_some o ≡ true → Has (map key rows) id
    go None e h = absurd cc
    go (Some x) e h = let r = Has-from_row_at key id rows x e in subst (Has (map key rows)) r.1 (Has-map key rows x r.0)

few-numbers : {X : Type 0} (key : X → ℕ) (old new : List X) →
    length (rising (map key (old ++ new))) ≤ length old + new_rows key old new
few-numbers key old new =
    let before = into [] (map key old) in
    let after = few-into before (map key new) (rising-into [] (map key old) tt) in
    let counted : many (outside before) (map key new) ≡ many (λ x. outside before (key x)) new =
    many-map (outside before) (λ x. outside before (key x)) key new (λ x. refl) in
    let less = fewer (λ x. is_new key old (key x)) (λ x. outside before (key x)) new (λ x out. hidden (key x) out) in
    omega (
      arith,
      ap (λ ks. length (into [] ks)) (map-both key old new),
      ap length (into-append [] (map key old) (map key new)),
      after,
      counted,
      less,
      few-all [] (map key old),
      length-map old key,
    )
  where
    hidden : (id : ℕ) → outside (into [] (map key old)) id ≡ true → is_new key old id ≡ true
    hidden id out = go (has_row key id old) refl
      where
        go : (b : Bool) → has_row key id old ≡ b → not b ≡ true
        go false e = refl
        go true e =
            absurd (let is : true ≡ false = sym out ∙ ap not (there-into (map key old) [] id (inr (found-key key id old e))) in cc)

-- Few events.

one-verb : {X : Type 0} (same : X → X → Bool) (old new : Option X) → length (verb_of same old new) ≤ 1
one-verb same None None = omega arith
one-verb same None (Some y) = omega arith
one-verb same (Some x) None = omega arith
one-verb same (Some x) (Some y) = go (same x y)
  where
    go : (b : Bool) → length (cond b [] (verb.Updated ∷ [])) ≤ 1
    go true = omega arith
    go false = omega arith

few-each : {X Y : Type 0} (f : X → List Y) (xs : List X) → ((x : X) → length (f x) ≤ 1) → length (flat_map f xs) ≤ length xs
few-each f [] one = omega arith
few-each f (x ∷ xs) one = omega (arith, length-append (f x) (flat_map f xs), one x, few-each f xs one)

few-events-of : {X : Type 0} (n : ℕ) (k : Kind) (key : X → ℕ) (same : X → X → Bool) (old new : List X) →
    length (events_of n k key same old new) ≤ length old + new_rows key old new
few-events-of n k key same old new =
    let each : (id : ℕ) → length (row_events n k key same old new id) ≤ 1 =
    λ id. omega (
      arith,
      length-map (verb_of same (row_at key id old) (row_at key id new)) (event n k id),
      one-verb same (row_at key id old) (row_at key id new),
    ) in
    omega (arith, few-each (row_events n k key same old new) (rising (map key (old ++ new))) each, few-numbers key old new)

four : {X : Type 0} (a b c d : List X) → length (a ++ b ++ c ++ d) ≡ length a + length b + length c + length d
four a b c d = omega (arith, length-append (a ++ b ++ c) d, length-append (a ++ b) c, length-append a b)

pub few-changes : (n : ℕ) (t u : Tables) → length (changes_between n t u) ≤ row_count t + new_count t u
few-changes n t u =
    omega (
      arith,
      four (events_of n kind.Node node_id same_node t.nodes u.nodes)
          (events_of n kind.Service service_id same_service t.services u.services)
          (events_of n kind.Task task_id same_task t.tasks u.tasks)
          (events_of n kind.Network network_id same_network t.networks u.networks),
      few-events-of n kind.Node node_id same_node t.nodes u.nodes,
      few-events-of n kind.Service service_id same_service t.services u.services,
      few-events-of n kind.Task task_id same_task t.tasks u.tasks,
      few-events-of n kind.Network network_id same_network t.networks u.networks,
    )

-- Each operation makes one new row at most.

abbrev OneMore : Tables → World → World × ℕ → Type 0
OneMore t w d = new_count t d.0.tables ≤ new_count t w.tables + 1

-- rows that keep their keys
new-map : {X : Type 0} (key : X → ℕ) (f : X → X) (old rows : List X) → ((x : X) → key (f x) ≡ key x) →
    new_rows key old (map f rows) ≡ new_rows key old rows
new-map key f old rows same =
    many-map (λ x. is_new key old (key x)) (λ x. is_new key old (key x)) f rows (λ x. ap (is_new key old) (same x))

new-put : {X : Type 0} (key : X → ℕ) (new : X) (old rows : List X) →
    new_rows key old (put_row key new rows) ≡ new_rows key old rows
new-put key new old rows = new-map key (λ x. cond (eqb (key x) (key new)) new x) old rows (key-put key new)

new-push : {X : Type 0} (key : X → ℕ) (old rows : List X) (x : X) → new_rows key old (rows ++ x ∷ []) ≤ new_rows key old rows + 1
new-push key old rows x = many-push (λ y. is_new key old (key y)) rows x

new-left : {X : Type 0} (key : X → ℕ) (p : X → Bool) (old rows : List X) → new_rows key old (filter p rows) ≤ new_rows key old rows
new-left key p old rows = many-left (λ y. is_new key old (key y)) p rows

back-more : (t : Tables) (version : ℕ) (w : World) (s : Service) (spec : Option ServiceSpec) →
    OnGiven (OneMore t w) (go_back version w s spec)
back-more t version w s None = tt
back-more t version w s (Some spec) = omega (arith, new-put service_id (respecified version true spec s) t.services w.tables.services)

one-more : (t : Tables) (version : ℕ) (w : World) (o : Op) → OnGiven (OneMore t w) (apply_op version w o)
one-more t version w (op.CreateNode name draft) =
    given-unless (OneMore t w) _ _
    (λ e. omega (arith, new-push node_id t.nodes w.tables.nodes (new_node version w.tables.next_id name draft)))
one-more t version w (op.UpdateNode name asked labels r a) =
    given-found (OneMore t w) kind.Node (wanted_by.Name name) (node_by w.tables name)
    (λ n. update_node w asked n (respecified_node version labels r a n))
    (λ (n : Node) e. given-unless (OneMore t w) _ _
    (λ ok. omega (arith, new-put node_id (respecified_node version labels r a n) t.nodes w.tables.nodes)))
one-more t version w (op.RemoveNode name force) =
    given-found (OneMore t w) kind.Node (wanted_by.Name name) (node_by w.tables name) (remove_node version w force)
    (λ (n : Node) e. given-unless (OneMore t w) _ _
    (λ ok. omega (
      arith,
      new-left node_id (λ (row : Node). not (node_id row == n.id)) t.nodes w.tables.nodes,
      new-map task_id (orphaned version w.tables.clock n.id) t.tasks w.tables.tasks (orphaned-id version w.tables.clock n.id),
    )))
one-more t version w (op.CreateService name d) =
    given-unless (OneMore t w) _ _
    (λ e. omega (arith, new-push service_id t.services w.tables.services (new_service version w.tables name d)))
one-more t version w (op.UpdateService name asked d) =
    given-found (OneMore t w) kind.Service (wanted_by.Name name) (service_by w.tables name) (update_service version w asked d)
    (λ (s : Service) e. given-unless (OneMore t w) _ _
    (λ ok. omega (arith, new-put service_id (respecified version false (filled w.tables d) s) t.services w.tables.services)))
one-more t version w (op.RemoveService name) =
    given-found (OneMore t w) kind.Service (wanted_by.Name name) (service_by w.tables name) (remove_service w)
    (λ (s : Service) e. omega (arith, new-left service_id (λ (row : Service). not (service_id row == s.id)) t.services w.tables.services))
one-more t version w (op.RollbackService name asked) =
    given-found (OneMore t w) kind.Service (wanted_by.Name name) (service_by w.tables name) (rollback_service version w asked)
    (λ (s : Service) e. given-unless_some (OneMore t w) (conflict asked s.version) _ (λ ok. back-more t version w s s.previous))
one-more t version w (op.CreateNetwork name base bits) =
    given-unless (OneMore t w) _ _
    (λ e. omega (arith, new-push network_id t.networks w.tables.networks (new_network version w.tables.next_id name base bits)))
one-more t version w (op.RemoveNetwork name) =
    given-found (OneMore t w) kind.Network (wanted_by.Name name) (network_by w.tables name) (remove_network w)
    (λ (n : Network) e. given-unless (OneMore t w) _ _
    (λ ok. omega (arith, new-left network_id (λ (row : Network). not (network_id row == n.id)) t.networks w.tables.networks)))
one-more t version w (op.SetCluster settings) = given-unless (OneMore t w) _ _ (λ e. omega arith)

abbrev SoMany : Tables → ℕ → World × List ℕ → Type 0
SoMany t most d = new_count t d.0.tables ≤ most

more-rows : (t : Tables) (version : ℕ) (ops : List Op) (w : World) (ids : List ℕ) →
    OnGiven (SoMany t (new_count t w.tables + length ops)) (apply_ops version ops w ids)
more-rows t version [] w ids = omega arith
more-rows t version (o ∷ ops) w ids =
    go (apply_op version w o) (one-more t version w o) (λ v more. more-rows t version ops v more)
  where
    last : (one : World × ℕ) (given : Result (World × List ℕ) Refusal) → OneMore t w one →
        OnGiven (SoMany t (new_count t one.0.tables + length ops)) given →
        OnGiven (SoMany t (new_count t w.tables + length (o ∷ ops))) given
    last one (Ok d) first rest = omega (arith, first, rest)
    last one (Err r) first rest = tt

    go : (done : Done) → OnGiven (OneMore t w) done →
        ((v : World) (more : List ℕ) → OnGiven (SoMany t (new_count t v.tables + length ops)) (apply_ops version ops v more)) →
        OnGiven (SoMany t (new_count t w.tables + length (o ∷ ops)))
        (elim done [ Ok one ↦ apply_ops version ops one.0 (ids ++ one.1 ∷ []) | Err r ↦ Err r ])
    go (Ok one) first rest = last one (apply_ops version ops one.0 (ids ++ one.1 ∷ [])) first (rest one.0 (ids ++ one.1 ∷ []))
    go (Err r) first rest = tt

-- none at first
none-new : {X : Type 0} (key : X → ℕ) (rows : List X) → new_rows key rows rows ≡ 0
none-new key rows = none-many (λ x. is_new key rows (key x)) rows (λ x h. ap not (has-there key rows x h))

pub few-told : (version : ℕ) (ops : List Op) (t u : Tables) (events : List Event) (r : Result (List ℕ) Refusal) →
    Reached (made_all (apply_ops version ops (world_with t) [])) r u → OnOk r (events ≡ changes_between version t u) →
    OnOk r (length events ≤ row_count t + length ops)
few-told version ops t u events (Err r) done is = tt
few-told version ops t u events (Ok ids) done is =
    go (apply_ops version ops (world_with t) []) (more-rows t version ops (world_with t) []) done
  where
    tables_of : Result (Tables × List ℕ) Refusal → Tables
    tables_of (Ok d) = d.0
    tables_of (Err r) = u

    go : (given : Result (World × List ℕ) Refusal) → OnGiven (SoMany t (new_count t t + length ops)) given →
        made_all given ≡ Ok (u, ids) → length events ≤ row_count t + length ops
    go (Ok d) most made =
        let same : without_sessions d.0.tables ≡ u = ap tables_of made in
        omega (
          arith,
          ap length is,
          few-changes version t u,
          ap (new_count t) same,
          most,
          none-new node_id t.nodes,
          none-new service_id t.services,
          none-new task_id t.tasks,
          none-new network_id t.networks,
        )
    go (Err q) most made = absurd cc
