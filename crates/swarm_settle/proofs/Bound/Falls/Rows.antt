-- Look-ups among rows that keep their keys.
use Rattle.std.proofs.Common.{Bool, List, None, Option, Some, [], ap, cond, eqb, false, inl, inr, map, refl, subst, sym, true, ℕ, ◌∙◌, ◌∷◌, ◌≡◌}
use Rattle.std.specs.Option.{option_map}
use Rattle.std.specs.Prelude.{filter, is_some}
use Rattle.swarm_settle.proofs.Bound.Looks.{filter-mapped}
use Rattle.swarm_model.proofs.Base.IsDuty.{OfRow}
use Rattle.swarm_model.proofs.Moves.Rows.{RisesBetween, between-one}
use Rattle.swarm_objects.proofs.RowLemmas.{Has-filter_cases, row_at-map}
use Rattle.swarm_objects.specs.Agents.Messages.{assigned, due_set, is_assigned_on}
use Rattle.swarm_objects.specs.Rows.{Has, change_row, has_row, is_row_and, is_some_and, row_at}
use Rattle.swarm_objects.specs.World.{Tables}
use Rattle.swarm_objects.specs.declared.tasks.Task.{Task}

pub changed-key : {X : Type 0} (key : X → ℕ) (id : ℕ) (f : X → X) → ((x : X) → key (f x) ≡ key x) → (x : X) →
    key (cond (eqb (key x) id) (f x) x) ≡ key x
changed-key key id f same x = go (eqb (key x) id)
  where
    go : (b : Bool) → key (cond b (f x) x) ≡ key x
    go true = same x
    go false = refl

pub has-mapped : {X : Type 0} (key : X → ℕ) (k : ℕ) (f : X → X) (rows : List X) → ((x : X) → key (f x) ≡ key x) →
    has_row key k (map f rows) ≡ has_row key k rows
has-mapped key k f rows same = ap is_some (row_at-map key k f rows same) ∙ go (row_at key k rows)
  where
    go : (o : Option _) → is_some (option_map f o) ≡ is_some o
    go None = refl
    go (Some x) = refl

pub has-changed : {X : Type 0} (key : X → ℕ) (k id : ℕ) (f : X → X) (rows : List X) → ((x : X) → key (f x) ≡ key x) →
    has_row key k (change_row key id f rows) ≡ has_row key k rows
has-changed key k id f rows same =
    has-mapped key k (λ x. cond (eqb (key x) id) (f x) x) rows (changed-key key id f same)

pub and-mapped : {X : Type 0} (key : X → ℕ) (test : X → Bool) (f : X → X) (rows : List X) (k : ℕ) →
    ((x : X) → key (f x) ≡ key x) → ((x : X) → test (f x) ≡ test x) →
    is_row_and key test (map f rows) k ≡ is_row_and key test rows k
and-mapped key test f rows k same tests =
    ap (is_some_and test) (row_at-map key k f rows same) ∙ go (row_at key k rows)
  where
    go : (o : Option _) → is_some_and test (option_map f o) ≡ is_some_and test o
    go None = refl
    go (Some x) = tests x

pub and-changed : {X : Type 0} (key : X → ℕ) (test : X → Bool) (f : X → X) (rows : List X) (id k : ℕ) →
    ((x : X) → key (f x) ≡ key x) → ((x : X) → test (f x) ≡ test x) →
    is_row_and key test (change_row key id f rows) k ≡ is_row_and key test rows k
and-changed key test f rows id k same tests =
    and-mapped key test (λ x. cond (eqb (key x) id) (f x) x) rows k (changed-key key id f same)
    (λ x. go x (eqb (key x) id))
  where
    go : (x : _) (b : Bool) → test (cond b (f x) x) ≡ test x
    go x true = tests x
    go x false = refl

-- the fact of the duty's row, of any row with its key
pub of-any : {X : Type 0} (key : X → ℕ) (next id : ℕ) (rows : List X) (Fact : X → Type 0) → RisesBetween key 1 next rows →
    OfRow rows key id Fact → (y : X) → Has rows y → key y ≡ id → Fact y
of-any key next id rows Fact rises of y h e =
    subst Fact (between-one key 1 next rows of.row y rises of.there h (of.id_is ∙ sym e)) of.fact

-- what is due, where the tasks that are due stay as they are sent
pub due-mapped : (t : Tables) (f : Task → Task) (node : ℕ) →
    ((x : Task) → Has t.tasks x → is_assigned_on node (f x) ≡ is_assigned_on node x) →
    ((x : Task) → Has t.tasks x → is_assigned_on node x ≡ true → assigned (f x) ≡ assigned x) →
    map assigned (filter (is_assigned_on node) (map f t.tasks)) ≡ due_set t node
due-mapped t f node same sent =
    ap (map assigned) (filter-mapped (is_assigned_on node) f t.tasks same)
    ∙ go (filter (is_assigned_on node) t.tasks)
    (λ x h. let at = Has-filter_cases (is_assigned_on node) t.tasks x h in sent x at.0 at.1)
  where
    go : (xs : List Task) → ((x : Task) → Has xs x → assigned (f x) ≡ assigned x) →
        map assigned (map f xs) ≡ map assigned xs
    go [] each = refl
    go (x ∷ xs) each =
        ap (λ a. a ∷ map assigned (map f xs)) (each x (inl refl))
        ∙ ap (λ ys. assigned x ∷ ys) (go xs (λ y h. each y (inr h)))
