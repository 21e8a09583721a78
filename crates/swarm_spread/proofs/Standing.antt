-- A tree beside the rows' nodes, place by place.
use Rattle.std.proofs.Common.{◌≡◌, ◌∙◌, ◌↔◌, ◌+◌, ◌-◌, ◌<◌, ◌≤◌, List, [], ◌∷◌, add-one, ap, arith, drop, drop-cons, get_or, length, length-drop, suc, sym, ℕ}
use Rattle.std.proofs.lemmas.List.{drop_all}
use Rattle.std.specs.Prelude.{map}
use Rattle.swarm_objects.specs.Rows.{node_id}
use Rattle.swarm_objects.specs.World.{Tables}
use Rattle.swarm_objects.specs.declared.nodes.Node.{Node}
use Rattle.swarm_spread.specs.Counts.{Counts, IsScanned, Stands, here_on, path_of}

-- these nodes stand at the places from this one on, and no others do
abbrev pub IsScannedFrom : Tables → Counts → ℕ → List Node → Type 0
IsScannedFrom t c place [] = place ≡ length c.nodes
IsScannedFrom t c place (n ∷ ns) = IsScanned t c place n × IsScannedFrom t c (place + 1) ns

-- One list from a place on.

rest_is : {X Y : Type 0} (f : Y → X) (xs : List X) (place : ℕ) (d : X) (y : Y) (ys : List Y) → place < length xs →
    get_or xs place d ≡ f y → drop (place + 1) xs ≡ map f ys → drop place xs ≡ f y ∷ map f ys
rest_is f xs place d y ys within first rest =
    let next : drop (suc place) xs ≡ map f ys = rw add-one at rest in
    let split = drop-cons xs place d within in cc

-- the place is one of the list, and has the first of these
record IsSplit {X Y : Type 0} (f : Y → X) (xs : List X) (place : ℕ) (d : X) (y : Y) (ys : List Y) : Type 0 where
  within : place < length xs
  first : get_or xs place d ≡ f y
  rest : drop (place + 1) xs ≡ map f ys

is_split : {X Y : Type 0} (f : Y → X) (xs : List X) (place : ℕ) (d : X) (y : Y) (ys : List Y) →
    drop place xs ≡ f y ∷ map f ys → IsSplit f xs place d y ys
is_split f xs place d y ys is =
    let long : length xs - place ≡ suc (length (map f ys)) = sym (length-drop place xs) ∙ ap length is in
    let within : place < length xs = omega (arith, long) in
    let split = drop-cons xs place d within in
    let next : drop (suc place) xs ≡ map f ys = cc in
    record { within = within; first = cc; rest = rw add-one next }

-- All three lists from a place on.

record IsLeft (t : Tables) (c : Counts) (place : ℕ) (ns : List Node) : Type 0 where
  ids : drop place c.nodes ≡ map node_id ns
  values : drop place c.paths ≡ map (path_of c.keys) ns
  counts : drop place c.here ≡ map (here_on t c.service) ns

module _ (t : Tables) (c : Counts) (each_path : length c.paths ≡ length c.nodes)
    (each_count : length c.here ≡ length c.nodes) where
  there : (place : ℕ) (ns : List Node) → IsScannedFrom t c place ns → IsLeft t c place ns
  there place [] is = record {
    ids = drop_all place c.nodes (omega arith);
    values = drop_all place c.paths (omega arith);
    counts = drop_all place c.here (omega arith);
  }
  there place (n ∷ ns) is =
      let rest = there (place + 1) ns is.1 in
      let within = is.0.within in record {
        ids = rest_is node_id c.nodes place 0 n ns within is.0.id rest.ids;
        values = rest_is (path_of c.keys) c.paths place [] n ns (omega arith) is.0.path rest.values;
        counts = rest_is (here_on t c.service) c.here place 0 n ns (omega arith) is.0.count rest.counts;
      }

  back : (place : ℕ) (ns : List Node) → place ≤ length c.nodes → IsLeft t c place ns → IsScannedFrom t c place ns
  back place [] le left =
      let long : length c.nodes - place ≡ 0 = sym (length-drop place c.nodes) ∙ ap length left.ids in omega (arith, long)
  back place (n ∷ ns) le left =
      let ids = is_split node_id c.nodes place 0 n ns left.ids in
      let values = is_split (path_of c.keys) c.paths place [] n ns left.values in
      let counts = is_split (here_on t c.service) c.here place 0 n ns left.counts in
      let within = ids.within in (
        record { within = ids.within; id = ids.first; path = values.first; count = counts.first },
        back (place + 1) ns (omega arith) (record { ids = ids.rest; values = values.rest; counts = counts.rest }),
      )

  all_scanned : IsScannedFrom t c 0 t.nodes ↔ Stands t c
  all_scanned = (
    λ is.
        let left = there 0 t.nodes is in
        λ i. record { service = c.service; keys = c.keys; nodes = left.ids i; paths = left.values i; here = left.counts i },
    λ stands.
        back 0 t.nodes (omega arith) (record {
          ids = ap (λ (x : Counts). x.nodes) stands;
          values = ap (λ (x : Counts). x.paths) stands;
          counts = ap (λ (x : Counts). x.here) stands;
        }),
  )

  -- where the walk begins
  pub begins : (rows : List Node) → rows ≡ t.nodes →
      record { left : IsScannedFrom t c 0 rows ↔ Stands t c; count : 0 + length rows ≡ length t.nodes }
  begins rows all = rw all (record { left = all_scanned; count = omega arith })
