-- What the allocator's duties do to one row.
use Rattle.std.proofs.Common.{◌≡◌, ◌∙◌, ◌+◌, ◌<◌, ◌≤◌, Bool, List, None, Option, Some, Result, Ok, Err, [], ap, arith, cond, eqb, false, get_or, length, refl, set, subst, suc, sym, true, zero, ℕ, ◌∷◌}
use Rattle.std.proofs.lemmas.Bool.Decides.{nat_tests}
use Rattle.std.proofs.lemmas.Grind.{common_steps}
use Rattle.std.specs.List.{list_all, position}
use Rattle.std.specs.Prelude.{◌==◌, not, ◌&&◌, OnErr, OnOk}
use Rattle.swarm_objects.proofs.RowLemmas.{change_row_above, instead_is}
use Rattle.swarm_objects.proofs.RowChanges.{before, none_or_all, rising_from, same_change}
use Rattle.plain_placement.specs.Allocating.{given_addresses}
use Rattle.swarm_objects.specs.Changes.{change_task, noted, with_tables}
use Rattle.swarm_objects.specs.Duties.{effect_by}
use Rattle.swarm_objects.specs.Lends.{instead}
use Rattle.swarm_objects.specs.Loops.Allocator.{exhausted_for, give_port, new_addresses, port_number, with_addresses, with_exhausted, with_port}
use Rattle.swarm_objects.specs.Rows.{IsRising, change_row, network_id, on_row, row_at, service_id, task_id}
use Rattle.swarm_objects.specs.Services.Ports.{free_port}
use Rattle.swarm_objects.specs.Sound.{is_subnet}
use Rattle.swarm_objects.specs.World.{World}
use Rattle.swarm_objects.specs.declared.duties.Duty.TheVariants as duty
use Rattle.swarm_objects.specs.declared.networks.Network.{Network}
use Rattle.swarm_objects.specs.declared.services.PortNumber.{PortNumber}
use Rattle.swarm_objects.specs.declared.services.Service.{Service}
use Rattle.swarm_objects.specs.declared.tasks.Address.{Address}
use Rattle.swarm_objects.specs.declared.tasks.Note.{Note}
use Rattle.swarm_objects.specs.declared.tasks.Task.{Task}

-- One row of rising ones.

-- a write in the place of the first row with the key changes each row with the key: there is no other
written : {X : Type 0} (key : X → ℕ) (id : ℕ) (f : X → X) (rows : List X) (x : X) → IsRising key rows →
    before key id rows < length rows → x ≡ get_or rows (before key id rows) x →
    set rows (before key id rows) (f x) ≡ change_row key id f rows
written key id f [] x r lt is = absurd (omega arith)
written key id f (y ∷ ys) x r lt is =
    go (eqb (key y) id) refl (written key id f ys x (rising_from key (key y) ys r)) lt is
  where
    go : (b : Bool) → eqb (key y) id ≡ b →
        (before key id ys < length ys → x ≡ get_or ys (before key id ys) x →
        set ys (before key id ys) (f x) ≡ change_row key id f ys) →
        cond (not b) (1 + before key id ys) 0 < length (y ∷ ys) →
        x ≡ get_or (y ∷ ys) (cond (not b) (1 + before key id ys) 0) x →
        set (y ∷ ys) (cond (not b) (1 + before key id ys) 0) (f x) ≡ cond b (f y) y ∷ change_row key id f ys
    go true e below l same =
        let le : id ≤ key y = grind (arith, nat_tests) in
        ap (λ z. f z ∷ ys) same ∙ ap (λ zs. f y ∷ zs) (sym (change_row_above key (key y) id f ys r le))
    go false e below l same =
        let at = before key id ys in
        let one : suc at ≡ 1 + at = omega arith in
        subst (λ (n : ℕ). x ≡ get_or (y ∷ ys) n x → set (y ∷ ys) n (f x) ≡ y ∷ change_row key id f ys) one
        (λ q. ap (λ zs. y ∷ zs) (below (omega arith) q)) same

pub changed_one : {X : Type 0} (key : X → ℕ) (id : ℕ) (f : X → X) (rows : List X) (at : ℕ) (x : X) → IsRising key rows →
    position (λ row. key row == id) rows ≡ Some at → x ≡ get_or rows at x → set rows at (f x) ≡ change_row key id f rows
changed_one {X} key id f rows at x r e is =
    let here : before key id rows ≡ at = grind (arith, common_steps) in
    let lt : before key id rows < length rows = grind (arith, common_steps) in
    subst (λ (n : ℕ). x ≡ get_or rows n x → set rows n (f x) ≡ change_row key id f rows) here
    (written key id f rows x r lt) is

pub changed_none : {X : Type 0} (key : X → ℕ) (id : ℕ) (f : X → X) (rows : List X) →
    position (λ row. key row == id) rows ≡ None → rows ≡ change_row key id f rows
changed_none key id f rows e = none_or_all key id f rows (grind (arith, common_steps))

-- no row has the key
pub changed_nowhere : {X : Type 0} (key : X → ℕ) (id : ℕ) (f : X → X) (rows : List X) → row_at key id rows ≡ None →
    rows ≡ change_row key id f rows
changed_nowhere key id f [] e = refl
changed_nowhere key id f (y ∷ ys) e = go (eqb (key y) id) (changed_nowhere key id f ys) e
  where
    go : (b : Bool) → (row_at key id ys ≡ None → ys ≡ change_row key id f ys) →
        cond b (Some y) (row_at key id ys) ≡ None → y ∷ ys ≡ cond b (f y) y ∷ change_row key id f ys
    go true below k = cc
    go false below k = ap (λ zs. y ∷ zs) (below k)

set_same : {X : Type 0} (rows : List X) (at : ℕ) (x : X) → x ≡ get_or rows at x → set rows at x ≡ rows
set_same [] at x e = refl
set_same (y ∷ ys) zero x e = ap (λ z. z ∷ ys) e
set_same (y ∷ ys) (suc at) x e = ap (λ zs. y ∷ zs) (set_same ys at x e)

-- Ports.

-- the one service with the id took the number, or memory was wanting
pub number_taken : {T F : Type 0} (r : Result T F) (id version : ℕ) (number : PortNumber) (services : List Service)
    (at : ℕ) (old new : Service) →
    IsRising service_id services → Some at ≡ position (λ row. service_id row == id) services →
    old ≡ get_or services at old → OnOk r (new ≡ with_port version number (get_or services at old)) →
    OnOk r (set services at new ≡ change_row service_id id (with_port version number) services)
number_taken (Ok x) id version number services at old new r e is made =
    ap (λ s. set services at s) (made ∙ ap (with_port version number) (sym is))
    ∙ changed_one service_id id (with_port version number) services at old r (sym e) is
number_taken (Err f) id version number services at old new r e is made = tt

pub number_untaken : {T F : Type 0} (r : Result T F) (services : List Service) (at : ℕ) (old new : Service) →
    old ≡ get_or services at old → OnErr r (new ≡ get_or services at old) → OnErr r (set services at new ≡ services)
number_untaken (Ok x) services at old new is same = tt
number_untaken (Err f) services at old new is same =
    ap (λ s. set services at s) (same ∙ sym is) ∙ set_same services at old is

port_given : (version : ℕ) (w : World) (s target : ℕ) (udp : Bool) (number : ℕ) (services : List Service) →
    Some number ≡ free_port w.tables udp →
    services ≡ change_row service_id s (with_port version (port_number target udp number)) w.tables.services →
    with_tables w (record w.tables { services = services }) ≡ effect_by version w (duty.Port s target udp)
port_given version w s target udp number services e is =
    ap (λ (rows : List Service). with_tables w (record w.tables { services = rows })) is
    ∙ ap (λ (o : Option ℕ). with_tables w (give_port version w.tables s target udp o)) e

-- The same, of rows that were written through a slice.

pub port_done : {T F : Type 0} (r : Result T F) (version : ℕ) (w : World) (s target : ℕ) (udp : Bool) (number : ℕ)
    (slice new : List Service) →
    slice ≡ w.tables.services → length new ≡ length w.tables.services → Some number ≡ free_port w.tables udp →
    OnOk r (new ≡ change_row service_id s (with_port version (port_number target udp number)) slice) →
    OnOk r (with_tables w (record w.tables { services = instead w.tables.services new }) ≡ effect_by version w
    (duty.Port s target udp))
port_done (Ok x) version w s target udp number slice new same long e is =
    ap (λ (rows : List Service). with_tables w (record w.tables { services = rows }))
    (instead_is w.tables.services new long)
    ∙ port_given version w s target udp number new e
    (is ∙ ap (change_row service_id s (with_port version (port_number target udp number))) same)
port_done (Err f) version w s target udp number slice new same long e is = tt

pub port_undone : {T F : Type 0} (r : Result T F) (w : World) (slice new : List Service) → slice ≡ w.tables.services →
    length new ≡ length w.tables.services → OnErr r (new ≡ slice) →
    OnErr r (with_tables w (record w.tables { services = instead w.tables.services new }) ≡ w)
port_undone (Ok x) w slice new same long is = tt
port_undone (Err f) w slice new same long is =
    ap (λ (rows : List Service). with_tables w (record w.tables { services = rows }))
    (instead_is w.tables.services new long ∙ is ∙ same)

-- Addresses.

pub row_subnet : (networks : List Network) (id : ℕ) (n : Network) → row_at network_id id networks ≡ Some n →
    list_all is_subnet networks ≡ true → is_subnet n ≡ true
row_subnet [] id n e all = cc
row_subnet (m ∷ networks) id n e all = go (eqb m.id id) (is_subnet m) refl (row_subnet networks id n) e all
  where
    go : (b c : Bool) → is_subnet m ≡ c →
        (row_at network_id id networks ≡ Some n → list_all is_subnet networks ≡ true → is_subnet n ≡ true) →
        cond b (Some m) (row_at network_id id networks) ≡ Some n → (c && list_all is_subnet networks) ≡ true →
        is_subnet n ≡ true
    go true true is below k t = let same : m ≡ n = cc in subst (λ (z : Network). is_subnet z ≡ true) same is
    go true false is below k t = cc
    go false true is below k t = below k t
    go false false is below k t = cc

pub no_task_addressed : (version : ℕ) (w : World) (id : ℕ) →
    ◌≡◌ {A = Option Task} None (row_at task_id id w.tables.tasks) →
    w ≡ effect_by version w (duty.Address id)
no_task_addressed version w id e =
    ap (λ (rows : List Task). with_tables w (record w.tables { tasks = rows }))
    (changed_nowhere task_id id (with_addresses version w.tables) w.tables.tasks (sym e))

task_addressed : (version : ℕ) (w : World) (id : ℕ) (x : Task) (addresses : List Address) (tasks : List Task) →
    IsRising task_id w.tables.tasks → Some x ≡ row_at task_id id w.tables.tasks → addresses ≡ new_addresses w.tables x →
    tasks ≡ change_row task_id id (given_addresses version w.tables.clock addresses) w.tables.tasks →
    with_tables w (record w.tables { tasks = tasks }) ≡ effect_by version w (duty.Address id)
task_addressed version w id x addresses tasks r e new is =
    ap (λ (rows : List Task). with_tables w (record w.tables { tasks = rows }))
    (is ∙ same_change task_id id (given_addresses version w.tables.clock addresses) (with_addresses version w.tables)
    w.tables.tasks x r (sym e)
    (ap (λ (l : List Address). given_addresses version w.tables.clock l x) new))

pub addressing_done : (version : ℕ) (w : World) (id : ℕ) (x : Task) (addresses : List Address) (slice new : List Task) →
    slice ≡ w.tables.tasks → length new ≡ length w.tables.tasks → IsRising task_id w.tables.tasks →
    Some x ≡ row_at task_id id w.tables.tasks → addresses ≡ new_addresses w.tables x →
    new ≡ change_row task_id id (given_addresses version w.tables.clock addresses) slice →
    with_tables w (record w.tables { tasks = instead w.tables.tasks new }) ≡ effect_by version w (duty.Address id)
addressing_done version w id x addresses slice new same long r e made is =
    ap (λ (rows : List Task). with_tables w (record w.tables { tasks = rows })) (instead_is w.tables.tasks new long)
    ∙ task_addressed version w id x addresses new r e made
    (is ∙ ap (change_row task_id id (given_addresses version w.tables.clock addresses)) same)

-- Notes.

task_noted : (version : ℕ) (w : World) (id : ℕ) (x : Task) (note : Note) (tasks : List Task) →
    Some x ≡ row_at task_id id w.tables.tasks → Some note ≡ exhausted_for w.tables x →
    tasks ≡ change_row task_id x.id (noted version note) w.tables.tasks →
    with_tables w (record w.tables { tasks = tasks }) ≡ effect_by version w (duty.Note id)
task_noted version w id x note tasks e some is =
    ap (λ (rows : List Task). with_tables w (record w.tables { tasks = rows })) is
    ∙ ap (λ (o : Option Note). with_tables w (on_row w.tables (λ n. change_task x.id (noted version n) w.tables) o))
    some
    ∙ ap (λ (o : Option Task). with_tables w (on_row w.tables (with_exhausted version w.tables) o)) e

pub noting_done : (version : ℕ) (w : World) (id : ℕ) (x : Task) (note : Note) (slice new : List Task) →
    slice ≡ w.tables.tasks → length new ≡ length w.tables.tasks → Some x ≡ row_at task_id id w.tables.tasks →
    Some note ≡ exhausted_for w.tables x → new ≡ change_row task_id x.id (noted version note) slice →
    with_tables w (record w.tables { tasks = instead w.tables.tasks new }) ≡ effect_by version w (duty.Note id)
noting_done version w id x note slice new same long e some is =
    ap (λ (rows : List Task). with_tables w (record w.tables { tasks = rows })) (instead_is w.tables.tasks new long)
    ∙ task_noted version w id x note new e some (is ∙ ap (change_row task_id x.id (noted version note)) same)
