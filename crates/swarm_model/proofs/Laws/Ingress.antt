-- No ingress number of a protocol is two services', in every world of a legal history.
use Rattle.std.proofs.Common.{Bool, List, None, Option, Some, [], ap, arith, false, inl, inr, refl, subst, sym, true, ℕ, ◌++◌, ◌<◌, ◌∙◌, ◌∷◌, ◌≡◌, ◌⊎◌}
use Rattle.std.proofs.lemmas.Bool.Decides.{nat_tests}
use Rattle.std.specs.List.{list_any}
use Rattle.std.specs.Option.{option_eq, option_map}
use Rattle.std.specs.Prelude.{filter, flat_map, not, option_to_list, ◌&&◌, ◌==◌, ◌||◌, ◌≡◌}
use Rattle.swarm_model.proofs.Laws.Any.{first-free}
use Rattle.swarm_model.proofs.Laws.GivesOut.{on-is}
use Rattle.swarm_model.proofs.Laws.Kept.{InOrder, Keeps, Runs}
use Rattle.swarm_model.proofs.Laws.OneEach.{no-alike}
use Rattle.swarm_model.proofs.Laws.Sound.{rises-between}
use Rattle.swarm_model.proofs.Laws.Timely.{changed-cases, each-becomes, each-changed}
use Rattle.swarm_model.proofs.Moves.Rows.{between-one}
use Rattle.swarm_model.specs.Calls.Refusals.{other_holder, port_taken}
use Rattle.swarm_model.specs.Calls.Services.{filled, new_service, with_service}
use Rattle.swarm_objects.specs.NewRows.{respecified}
use Rattle.swarm_model.specs.Laws.Fits.{share_port}
use Rattle.swarm_objects.proofs.Empty.{filter_empty, flat_map_empty, map_empty}
use Rattle.swarm_objects.proofs.RowLemmas.{Has-append_cases, Has-append_left, Has-append_right, Has-filter, Has-filter_cases, Has-flat_map, Has-flat_map_cases, Has-from_row_at, Has-map, Has-map_cases, row_at-Some}
use Rattle.swarm_objects.proofs.Tests.{any-has, false_from_ne_true, first_so, has-any, same_bool_is, second_so}
use Rattle.swarm_objects.specs.Changes.{change_service}
use Rattle.swarm_objects.specs.Limits.{first_port, last_port}
use Rattle.swarm_objects.specs.Loops.Allocator.{port_number, with_port}
use Rattle.swarm_objects.specs.Loops.Update.{back_at, new_run, with_run}
use Rattle.swarm_objects.specs.Rows.{Has, first_of, row_at, service_id}
use Rattle.swarm_objects.specs.Rules.Services.{has_alike}
use Rattle.swarm_objects.specs.Same.{same_bool, same_number}
use Rattle.swarm_objects.specs.Services.Ports.{free_port, has_port_number, holds_port, is_numbered, numbers_given, numbers_named, ports_held, ports_of}
use Rattle.swarm_objects.specs.World.{Tables, empty_tables}
use Rattle.swarm_objects.specs.declared.replies.Refusal.TheVariants as refusal
use Rattle.swarm_objects.specs.declared.services.Draft.{Draft}
use Rattle.swarm_objects.specs.declared.services.PortNumber.{PortNumber}
use Rattle.swarm_objects.specs.declared.services.RunStatus.TheVariants as status
use Rattle.swarm_objects.specs.declared.services.Service.{Service}
use Rattle.swarm_objects.specs.declared.services.ServiceSpec.{ServiceSpec}
use Rattle.swarm_objects.specs.declared.services.UpdateRun.{UpdateRun}
use Rattle.swarm_objects.specs.declared.templates.Port.{Port}

-- the service holds the number
abbrev pub Holds : Bool → ℕ → Service → Type 0
Holds udp number s = holds_port udp number s ≡ true

-- only one service holds a number
pub record OwnNumbers (t : Tables) : Type 0 where
  pub own : (a b : Service) → Has t.services a → Has t.services b → (udp : Bool) (number : ℕ) → Holds udp number a →
      Holds udp number b →
      a.id ≡ b.id

-- What a service holds.

-- where it holds a number: in a port of a specification, or given
pub holding : (udp : Bool) (number : ℕ) (s : Service) → Holds udp number s →
    (list_any (has_port_number udp number) s.spec.ports ≡ true)
    ⊎ ((list_any (has_port_number udp number) (ports_of s.previous) ≡ true) ⊎
    (list_any (is_numbered udp number) s.numbers ≡ true))
holding udp number s e =
    go (list_any (has_port_number udp number) s.spec.ports) (list_any (has_port_number udp number)
    (ports_of s.previous))
    (list_any (is_numbered udp number) s.numbers) e
  where
    go : (a b c : Bool) → (a || b || c) ≡ true → (a ≡ true) ⊎ ((b ≡ true) ⊎ (c ≡ true))
    go true b c k = inl refl
    go false true c k = inr (inl refl)
    go false false true k = inr (inr refl)
    go false false false k = absurd cc

three-or : (a b c : Bool) → (a ≡ true) ⊎ ((b ≡ true) ⊎ (c ≡ true)) → (a || b || c) ≡ true
three-or true b c k = refl
three-or false true c k = refl
three-or false false true k = refl
three-or false false false (inl e) = absurd cc
three-or false false false (inr (inl e)) = absurd cc
three-or false false false (inr (inr e)) = absurd cc

pub held-by : (udp : Bool) (number : ℕ) (s : Service) →
    (list_any (has_port_number udp number) s.spec.ports ≡ true)
    ⊎ ((list_any (has_port_number udp number) (ports_of s.previous) ≡ true) ⊎
    (list_any (is_numbered udp number) s.numbers ≡ true)) →
    Holds udp number s
held-by udp number s k =
    three-or (list_any (has_port_number udp number) s.spec.ports) (list_any (has_port_number udp number)
    (ports_of s.previous))
    (list_any (is_numbered udp number) s.numbers) k

some-filtered : {X : Type 0} (test keep : X → Bool) (xs : List X) → list_any test (filter keep xs) ≡ true →
    list_any test xs ≡ true
some-filtered test keep xs e =
    let found = any-has test (filter keep xs) e in
    has-any test xs found.0 (Has-filter_cases keep xs found.0 found.1).0 found.2

-- A service that changes.

-- what it holds afterwards it held, or no other one did
abbrev pub TakesOnly : List Service → Service → Service → Type 0
TakesOnly services old new = (udp : Bool) (number : ℕ) → Holds udp number new →
    Holds udp number old ⊎ ((v : Service) → Has services v → Holds udp number v → v.id ≡ old.id)

-- each service is one that was there, and holds no more
numbers-less : (t : Tables) (new : List Service) →
    ((y : Service) → Has new y → (x : Service) × Has t.services x × (y.id ≡ x.id) ×
    ((udp : Bool) (number : ℕ) → Holds udp number y → Holds udp number x)) →
    OwnNumbers t → OwnNumbers (record t { services = new })
numbers-less t new from is = record {
  own = λ a b h k udp number p q.
      let r = from a h in
      let s = from b k in
      r.2 ∙ is.own r.0 s.0 r.1 s.1 udp number (r.3 udp number p) (s.3 udp number q) ∙ sym s.2;
}

-- one service takes numbers that nobody else holds
one-takes : (t : Tables) (s : Service) (id : ℕ) (f : Service → Service) → InOrder t → Has t.services s → s.id ≡ id →
    (f s).id ≡ s.id →
    TakesOnly t.services s (f s) → OwnNumbers t → OwnNumbers (change_service id f t)
one-takes t s id f order there at same takes is = record {
  own = λ a b h k udp number p q.
      go a b (changed-cases service_id id f t.services a h)
      (changed-cases service_id id f t.services b k) udp number p q;
}
  where
    is-s : (y : Service) → Has t.services y → y.id ≡ id → y ≡ s
    is-s y j e = between-one service_id 1 t.next_id t.services y s order.services j there (e ∙ sym at)

    -- another one that holds a number of the changed one's is that one
    mine : (y : Service) → Has t.services y → (udp : Bool) (number : ℕ) → Holds udp number (f s) →
        Holds udp number y → y.id ≡ s.id
    mine y j udp number new old =
        elim (takes udp number new) [
          | inl before ↦ is.own y s j there udp number old before
          | inr only ↦ only y j old
        ]

    go : (a b : Service) → ((y : Service) × Has t.services y × ((y ≡ a) ⊎ ((y.id ≡ id) × (f y ≡ a)))) →
        ((y : Service) × Has t.services y × ((y ≡ b) ⊎ ((y.id ≡ id) × (f y ≡ b)))) → (udp : Bool) (number : ℕ) →
        Holds udp number a →
        Holds udp number b → a.id ≡ b.id
    go a b r q udp number p o = by_first r.0 r.1 r.2 q.0 q.1 q.2
      where
        by_first : (y : Service) → Has t.services y → (y ≡ a) ⊎ ((y.id ≡ id) × (f y ≡ a)) → (z : Service) →
            Has t.services z →
            (z ≡ b) ⊎ ((z.id ≡ id) × (f z ≡ b)) → a.id ≡ b.id
        by_first y h (inl e) z k (inl g) =
            ap (λ (v : Service). v.id) (sym e)
            ∙ is.own y z h k udp number (subst (Holds udp number) (sym e) p) (subst (Holds udp number) (sym g) o)
            ∙ ap (λ (v : Service). v.id) g
        by_first y h (inl e) z k (inr g) =
            let now : f s ≡ b = ap f (sym (is-s z k g.0)) ∙ g.1 in
            ap (λ (v : Service). v.id) (sym e)
            ∙ mine y h udp number (subst (Holds udp number) (sym now) o) (subst (Holds udp number) (sym e) p)
            ∙ sym same ∙ ap (λ (v : Service). v.id) now
        by_first y h (inr e) z k (inl g) =
            let now : f s ≡ a = ap f (sym (is-s y h e.0)) ∙ e.1 in
            ap (λ (v : Service). v.id) (sym now)
            ∙ same
            ∙ sym (mine z k udp number (subst (Holds udp number) (sym now) p) (subst (Holds udp number) (sym g) o))
            ∙ ap (λ (v : Service). v.id) g
        by_first y h (inr e) z k (inr g) =
            let first : f s ≡ a = ap f (sym (is-s y h e.0)) ∙ e.1 in
            let second : f s ≡ b = ap f (sym (is-s z k g.0)) ∙ g.1 in
            ap (λ (v : Service). v.id) (sym first ∙ second)

same-services : (t u : Tables) → u.services ≡ t.services → OwnNumbers t → OwnNumbers u
same-services t u e is = record {
  own = λ a b h k. is.own a b (subst (λ xs. Has xs a) e h) (subst (λ xs. Has xs b) e k);
}

-- Runs.

runs-hold : (clock : ℕ) (x y : Service) → Runs clock x y → (udp : Bool) (number : ℕ) → Holds udp number y →
    Holds udp number x
runs-hold clock x y r udp number h =
    held-by udp number x
    (elim (holding udp number y h) [
      | inl a ↦ inl (subst (λ (q : ServiceSpec). list_any (has_port_number udp number) q.ports ≡ true) r.spec a)
      | inr (inl b) ↦ inr (inl (subst (λ (o : Option ServiceSpec). list_any (has_port_number udp number)
          (ports_of o) ≡ true) r.previous b))
      | inr (inr c) ↦ inr (inr (subst (λ (ns : List PortNumber). list_any
          (is_numbered udp number) ns ≡ true) r.numbers c))
    ])

-- Given numbers.

named : (udp : Bool) (number : ℕ) (ports : List Port) → list_any (has_port_number udp number) ports ≡ true →
    Has (numbers_named udp ports) number
named udp number ports e =
    let found = any-has (has_port_number udp number) ports e in
    let p = found.0 in
    let of = first_so (same_bool p.udp udp) (option_eq same_number p.number (Some number)) found.2 in
    let at = second_so (same_bool p.udp udp) (option_eq same_number p.number (Some number)) found.2 in
    Has-flat_map (λ q. option_to_list q.number) (filter (λ q. same_bool q.udp udp) ports) p number
    (Has-filter (λ q. same_bool q.udp udp) ports p found.1 of)
    (subst (λ o. Has (option_to_list o) number) (sym (on-is p.number number at)) (inl refl))

given : (udp : Bool) (number : ℕ) (numbers : List PortNumber) → list_any (is_numbered udp number) numbers ≡ true →
    Has (numbers_given udp numbers) number
given udp number numbers e =
    let found = any-has (is_numbered udp number) numbers e in
    let n = found.0 in
    let of = first_so (same_bool n.udp udp) (n.number == number) found.2 in
    let at : n.number ≡ number = grind (
      arith,
      nat_tests,
      second_so (same_bool n.udp udp)
          (n.number == number) found.2,
    ) in
    subst (λ (k : ℕ). Has (numbers_given udp numbers) k) at
    (Has-map (λ m. m.number) (filter (λ m. same_bool m.udp udp) numbers) n
    (Has-filter (λ m. same_bool m.udp udp) numbers n found.1 of))

pub in-held : (udp : Bool) (number : ℕ) (s : Service) → Holds udp number s → Has (ports_held udp s) number
in-held udp number s h =
    let front = numbers_named udp s.spec.ports ++ numbers_named udp (ports_of s.previous) in
    elim (holding udp number s h) [
      | inl a ↦
          Has-append_left front (numbers_given udp s.numbers) number
          (Has-append_left (numbers_named udp s.spec.ports) (numbers_named udp (ports_of s.previous)) number
          (named udp number s.spec.ports a))
      | inr (inl b) ↦
          Has-append_left front (numbers_given udp s.numbers) number
          (Has-append_right (numbers_named udp s.spec.ports) (numbers_named udp (ports_of s.previous)) number
          (named udp number (ports_of s.previous) b))
      | inr (inr c) ↦ Has-append_right front (numbers_given udp s.numbers) number (given udp number s.numbers c)
    ]

nobody-holds : (t : Tables) (udp : Bool) (number : ℕ) → free_port t udp ≡ Some number → (v : Service) →
    Has t.services v → Holds udp number v → ⊥
nobody-holds t udp number free v h holds =
    first-free first_port last_port (flat_map (ports_held udp) t.services) number free
    (Has-flat_map (ports_held udp) t.services v number h (in-held udp number v holds))

any-append : {X : Type 0} (test : X → Bool) (xs : List X) (y : X) → list_any test (xs ++ y ∷ []) ≡ true →
    (list_any test xs ≡ true) ⊎ (test y ≡ true)
any-append test xs y e =
    let found = any-has test (xs ++ y ∷ []) e in
    elim (Has-append_cases xs (y ∷ []) found.0 found.1) [
      | inl h ↦ inl (has-any test xs found.0 h found.2)
      | inr (inl same) ↦ inr (ap test same ∙ found.2)
      | inr (inr none) ↦ absurd none
    ]

port-takes : (version : ℕ) (t : Tables) (s : Service) (target : ℕ) (udp : Bool) (number : ℕ) →
    free_port t udp ≡ Some number →
    TakesOnly t.services s (with_port version (port_number target udp number) s)
port-takes version t s target udp number free u k h =
    elim (holding u k (with_port version (port_number target udp number) s) h) [
      | inl a ↦ inl (held-by u k s (inl a))
      | inr (inl b) ↦ inl (held-by u k s (inr (inl b)))
      | inr (inr c) ↦ (elim (any-append (is_numbered u k) s.numbers (port_number target udp number) c) [
        | inl old ↦ inl (held-by u k s (inr (inr old)))
        | inr new ↦ inr (λ v there holds.
            let of = same_bool_is udp u (first_so (same_bool udp u) (number == k) new) in
            let at : number ≡ k = grind (arith, nat_tests, second_so (same_bool udp u) (number == k) new) in
            absurd (nobody-holds t udp number free v there
            (subst (λ (x : Bool). Holds x number v) (sym of) (subst (λ (n : ℕ). Holds u n v) (sym at) holds))))
      ])
    ]

port-keeps : (version : ℕ) (t : Tables) (s target : ℕ) (udp : Bool) (number : ℕ) → InOrder t →
    free_port t udp ≡ Some number → OwnNumbers t →
    OwnNumbers (change_service s (with_port version (port_number target udp number)) t)
port-keeps version t s target udp number order free is = go (row_at service_id s t.services) refl
  where
    none-there : (x : Service) → Has t.services x → service_id x ≡ s → row_at service_id s t.services ≡ None → ⊥
    none-there x h same e =
        let found = row_at-Some service_id 0 t.services x (rises-between service_id 0 1 t.next_id t.services
        (omega arith) order.services) h in
        let both : ◌≡◌ {A = Option Service} None (Some x) =
        sym e ∙ ap (λ (k : ℕ). row_at service_id k t.services) (sym same) ∙ found in
        cc

    go : (o : Option Service) → row_at service_id s t.services ≡ o →
        OwnNumbers (change_service s (with_port version (port_number target udp number)) t)
    go (Some v) e =
        let at = Has-from_row_at service_id s t.services v e in
        one-takes t v s (with_port version (port_number target udp number)) order at.0 at.1 refl
        (port-takes version t v target udp number free) is
    go None e =
        numbers-less t _
        (each-changed (λ (z : Service). (x : Service) × Has t.services x × (z.id ≡ x.id) ×
        ((u : Bool) (k : ℕ) → Holds u k z → Holds u k x))
        service_id s (with_port version (port_number target udp number)) t.services (λ x h. (x, h, refl, λ u k p. p))
        (λ x h same. absurd (none-there x h same e))) is

-- New specifications.

previous-holds : (udp : Bool) (number : ℕ) (s : Service) (spec : ServiceSpec) → s.previous ≡ Some spec →
    list_any (has_port_number udp number) spec.ports ≡ true → Holds udp number s
previous-holds udp number s spec e k =
    held-by udp number s
    (inr (inl (subst (λ (o : Option ServiceSpec). list_any (has_port_number udp number) (ports_of o) ≡ true)
    (sym e) k)))

back-takes : (version : ℕ) (run : UpdateRun) (t : Tables) (s : Service) (spec : ServiceSpec) → s.previous ≡ Some spec →
    TakesOnly t.services s (with_run version run (back_at version spec s))
back-takes version run t s spec e udp number h =
    elim (holding udp number (with_run version run (back_at version spec s)) h) [
      | inl a ↦ inl (previous-holds udp number s spec e a)
      | inr (inl b) ↦ absurd cc
      | inr (inr c) ↦ inl (held-by udp number s (inr (inr (some-filtered (is_numbered udp number) _ s.numbers c))))
    ]

-- the ports of a draft that aren't taken are nobody else's
pub untaken : (t : Tables) (own : Option ℕ) (ports : List Port) (udp : Bool) (number : ℕ) →
    port_taken t own ports ≡ None →
    list_any (has_port_number udp number) ports ≡ true → (v : Service) → Has t.services v → Holds udp number v →
    option_eq same_number own (Some v.id) ≡ true
untaken t own ports udp number none e v there holds =
    let found = any-has (has_port_number udp number) ports e in
    let p = found.0 in
    let of = same_bool_is p.udp udp (first_so (same_bool p.udp udp)
    (option_eq same_number p.number (Some number)) found.2) in
    let at = on-is p.number number (second_so (same_bool p.udp udp)
    (option_eq same_number p.number (Some number)) found.2) in
    let empty = flat_map_empty (λ q. other_holder t own q q.number) ports p
    (no-first (flat_map (λ q. other_holder t own q q.number) ports) none) found.1 in
    let others : other_holder t own p (Some number) ≡ [] = ap (other_holder t own p) (sym at) ∙ empty in
    let passed = filter_empty (λ s. not (option_eq same_number own
    (Some s.id)) && holds_port p.udp number s) t.services v
    (map_empty service_id _ others) there in
    mine (option_eq same_number own (Some v.id)) (holds_port p.udp number v) passed
    (subst (λ (x : Bool). Holds x number v) (sym of) holds)
  where
    no-first : (xs : List ℕ) → option_map refusal.PortTaken (first_of xs) ≡ None → xs ≡ []
    no-first [] k = refl
    no-first (x ∷ xs) k = absurd cc

    mine : (a b : Bool) → (not a && b) ≡ false → b ≡ true → a ≡ true
    mine true b k j = refl
    mine false true k j = absurd cc
    mine false false k j = absurd cc

own-is : (own id : ℕ) → option_eq same_number (Some own) (Some id) ≡ true → id ≡ own
own-is own id e = grind (arith, nat_tests, e)

update-takes : (version : ℕ) (t : Tables) (s : Service) (d : Draft) → port_taken t (Some s.id) d.spec.ports ≡ None →
    TakesOnly t.services s (respecified version false (filled t d) s)
update-takes version t s d free udp number h =
    elim (holding udp number (respecified version false (filled t d) s) h) [
      | inl a ↦ inr (λ v there holds. own-is s.id v.id (untaken t
          (Some s.id) d.spec.ports udp number free a v there holds))
      | inr (inl b) ↦ inl (held-by udp number s (inl b))
      | inr (inr c) ↦ inl (held-by udp number s (inr (inr (some-filtered (is_numbered udp number) _ s.numbers c))))
    ]

back-again : (version : ℕ) (t : Tables) (s : Service) (spec : ServiceSpec) → s.previous ≡ Some spec →
    TakesOnly t.services s (respecified version true spec s)
back-again version t s spec e udp number h =
    elim (holding udp number (respecified version true spec s) h) [
      | inl a ↦ inl (previous-holds udp number s spec e a)
      | inr (inl b) ↦ inl (held-by udp number s (inl b))
      | inr (inr c) ↦ inl (held-by udp number s (inr (inr (some-filtered (is_numbered udp number) _ s.numbers c))))
    ]

service-comes : (version : ℕ) (t : Tables) (name : List ℕ) (d : Draft) → port_taken t None d.spec.ports ≡ None →
    OwnNumbers t →
    OwnNumbers (with_service t (new_service version t name d))
service-comes version t name d free is = record {
  own = λ a b h k udp number p q.
      go a b (Has-append_cases t.services (new_service version t name d ∷ []) a h)
      (Has-append_cases t.services (new_service version t name d ∷ []) b k) udp number p q;
}
  where
    alone : (udp : Bool) (number : ℕ) → Holds udp number (new_service version t name d) → (v : Service) →
        Has t.services v →
        Holds udp number v → ⊥
    alone udp number new v there holds =
        elim (holding udp number (new_service version t name d) new) [
          | inl a ↦ (let wrong = untaken t None d.spec.ports udp number free a v there holds in cc)
          | inr (inl b) ↦ cc
          | inr (inr c) ↦ cc
        ]

    go : (a b : Service) → Has t.services a ⊎ Has (new_service version t name d ∷ []) a →
        Has t.services b ⊎ Has (new_service version t name d ∷ []) b → (udp : Bool) (number : ℕ) → Holds udp number a →
        Holds udp number b → a.id ≡ b.id
    go a b (inl h) (inl k) udp number p q = is.own a b h k udp number p q
    go a b (inl h) (inr (inl e)) udp number p q = absurd (alone udp number (subst (Holds udp number) (sym e) q) a h p)
    go a b (inl h) (inr (inr none)) udp number p q = absurd none
    go a b (inr (inl e)) (inl k) udp number p q = absurd (alone udp number (subst (Holds udp number) (sym e) p) b k q)
    go a b (inr (inl e)) (inr (inl g)) udp number p q = ap (λ (v : Service). v.id) (sym e ∙ g)
    go a b (inr (inl e)) (inr (inr none)) udp number p q = absurd none
    go a b (inr (inr none)) other udp number p q = absurd none

pub numbers-keep : Keeps OwnNumbers
numbers-keep = record {
  tasks = λ t new order is rows. same-services t _ refl is;
  address = λ version t x order is there e. same-services t _ refl is;
  place = λ version t x m order is there e best. same-services t _ refl is;
  comes = λ t s x order is there new. same-services t _ refl is;
  runs = λ t new order is rows.
      numbers-less t new
      (each-becomes (λ (z : Service). (x : Service) × Has t.services x × (z.id ≡ x.id) ×
      ((u : Bool) (k : ℕ) → Holds u k z → Holds u k x))
      (Runs t.clock) t.services new rows (λ x y h r. (x, h, r.id, runs-hold t.clock x y r))) is;
  port = λ version t s target udp number order is e. port-keeps version t s target udp number order e is;
  fails = λ version t s spec order is there e.
      one-takes t s s.id _ order there refl refl (back-takes version
      (new_run t (back_at version spec s) status.RollbackStarted) t s spec e) is;
  updates = λ version t s d order is there same taken.
      one-takes t s s.id (λ old. respecified version false (filled t d) s) order there refl refl
      (update-takes version t s d taken.ports) is;
  rolls_back = λ version t s spec order is there e.
      one-takes t s s.id (λ old. respecified version true spec s) order there refl refl
      (back-again version t s spec e) is;
  service_comes = λ version t name d order is taken. service-comes version t name d taken.ports is;
  attempts = λ t new is each. same-services t _ refl is;
  nodes = λ t f order is each. same-services t _ refl is;
  node_comes = λ t n order is id since. same-services t _ refl is;
  node_goes = λ version t id order is. same-services t _ refl is;
  begins = λ version t n cpu mem order is there. same-services t _ refl is;
  registers = λ version t node order is. same-services t _ refl is;
  beats = λ t node is. same-services t _ refl is;
  networks = λ t new is. same-services t _ refl is;
  ids = λ t order is. same-services t _ refl is;
  ticks = λ t ms is. same-services t _ refl is;
  settings = λ t s e is. same-services t _ refl is;
}

pub numbers-empty : OwnNumbers empty_tables
numbers-empty = record { own = λ a b h k udp number p q. absurd h }

-- The law.

-- a number that is listed is held
named-holds : (udp : Bool) (number : ℕ) (ports : List Port) → Has (numbers_named udp ports) number →
    list_any (has_port_number udp number) ports ≡ true
named-holds udp number ports h =
    let from = Has-flat_map_cases (λ q. option_to_list q.number) (filter (λ q. same_bool q.udp udp) ports) number h in
    let at = Has-filter_cases (λ q. same_bool q.udp udp) ports from.0 from.1 in
    has-any (has_port_number udp number) ports from.0 at.0
    (ap (λ (b : Bool). b && option_eq same_number from.0.number (Some number)) at.1 ∙ go from.0.number from.2)
  where
    go : (o : Option ℕ) → Has (option_to_list o) number → option_eq same_number o (Some number) ≡ true
    go None k = absurd k
    go (Some n) (inl e) = grind (arith, nat_tests, e)
    go (Some n) (inr none) = absurd none

given-holds : (udp : Bool) (number : ℕ) (numbers : List PortNumber) → Has (numbers_given udp numbers) number →
    list_any (is_numbered udp number) numbers ≡ true
given-holds udp number numbers h =
    let from = Has-map_cases (λ m. m.number) (filter (λ m. same_bool m.udp udp) numbers) number h in
    let at = Has-filter_cases (λ m. same_bool m.udp udp) numbers from.0 from.1 in
    let same : (from.0.number == number) ≡ true = grind (arith, nat_tests, from.2) in
    has-any (is_numbered udp number) numbers from.0 at.0
    (ap (λ (b : Bool). b && from.0.number == number) at.1 ∙ same)

held-holds : (udp : Bool) (number : ℕ) (s : Service) → Has (ports_held udp s) number → Holds udp number s
held-holds udp number s h =
    let front = numbers_named udp s.spec.ports ++ numbers_named udp (ports_of s.previous) in
    elim (Has-append_cases front (numbers_given udp s.numbers) number h) [
      | inl k ↦ (elim (Has-append_cases (numbers_named udp s.spec.ports)
          (numbers_named udp (ports_of s.previous)) number k) [
            | inl a ↦ held-by udp number s (inl (named-holds udp number s.spec.ports a))
            | inr b ↦ held-by udp number s (inr (inl (named-holds udp number (ports_of s.previous) b)))
          ])
      | inr c ↦ held-by udp number s (inr (inr (given-holds udp number s.numbers c)))
    ]

share-one : (a b : Service) (udp : Bool) → list_any (λ number. holds_port udp number b) (ports_held udp a) ≡ true →
    (number : ℕ) × Holds udp number a × Holds udp number b
share-one a b udp e =
    let found = any-has (λ number. holds_port udp number b) (ports_held udp a) e in
    (found.0, held-holds udp found.0 a found.1, found.2)

no-share : (t : Tables) (a b : Service) → OwnNumbers t → Has t.services a → Has t.services b → a.id < b.id →
    share_port a b ≡ true → ⊥
no-share t a b is h k less e =
    go (list_any (λ number. holds_port false number b) (ports_held false a))
    (list_any (λ number. holds_port true number b) (ports_held true a))
    refl refl e
  where
    wrong : (udp : Bool) → list_any (λ number. holds_port udp number b) (ports_held udp a) ≡ true → ⊥
    wrong udp any =
        let one = share-one a b udp any in
        let same = is.own a b h k udp one.0 one.1 one.2 in absurd (omega (arith, less, same))

    go : (x y : Bool) → list_any (λ number. holds_port false number b) (ports_held false a) ≡ x →
        list_any (λ number. holds_port true number b) (ports_held true a) ≡ y → (x || y) ≡ true → ⊥
    go true y p q k = wrong false p
    go false true p q k = wrong true q
    go false false p q k = cc

pub numbers-alike : (t : Tables) → InOrder t → OwnNumbers t → has_alike share_port t.services ≡ false
numbers-alike t order is =
    no-alike share_port service_id 1 t.next_id t.services order.services
    (λ a b h k less. false_from_ne_true (share_port a b) (no-share t a b is h k less))
