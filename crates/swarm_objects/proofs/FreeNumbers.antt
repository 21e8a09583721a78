-- The least number that is free is the first that nobody holds, counted up from the lowest.
use Rattle.std.proofs.Common.{◌≡◌, ◌∙◌, ◌+◌, ◌<◌, ◌≤◌, Bool, List, None, Option, Some, ◌++◌, ap, arith, cond, eqb, false, leb, subst, sym, true, refl, ℕ}
use Rattle.std.proofs.lemmas.Bool.Decides.{nat_tests}
use Rattle.std.proofs.lemmas.List.Folds.{list_any-append}
use Rattle.std.specs.List.{list_any}
use Rattle.std.specs.Option.{option_eq}
use Rattle.std.specs.Prelude.{◌==◌, filter, flat_map, option_to_list, ◌&&◌, ◌-◌, ◌^◌, ◌||◌}
use Rattle.swarm_objects.proofs.Gaps.{first_gap-ge}
use Rattle.swarm_objects.proofs.Rising.{gap-free, gap-held, rising-cases, rising-has, rising-rises}
use Rattle.swarm_objects.proofs.Tests.{any-has, any_each, any_filter, any_map, any_same, has-any, or_false}
use Rattle.swarm_objects.specs.Rows.{Has, first_free, first_gap, rising}
use Rattle.swarm_objects.specs.Limits.{first_port, last_port}
use Rattle.swarm_objects.specs.Same.{same_bool, same_number}
use Rattle.swarm_objects.specs.Services.Ports.{free_port, has_port_number, holds_port, is_numbered, numbers_given, numbers_named, ports_held, ports_of}
use Rattle.swarm_objects.specs.Tasks.Addresses.{addresses_held, addresses_in, free_in}
use Rattle.swarm_objects.specs.Tasks.Holders.{holds_address, is_address}
use Rattle.swarm_objects.specs.Tasks.Words.{is_not_over}
use Rattle.swarm_objects.specs.World.{Tables}
use Rattle.swarm_objects.specs.declared.networks.Network.{Network}
use Rattle.swarm_objects.specs.declared.services.PortNumber.{PortNumber}
use Rattle.swarm_objects.specs.declared.services.Service.{Service}
use Rattle.swarm_objects.specs.declared.tasks.Address.{Address}
use Rattle.swarm_objects.specs.declared.tasks.Task.{Task}
use Rattle.swarm_objects.specs.declared.templates.Port.{Port}

-- Counting up to the first that is free.

-- the number is taken
abbrev pub is_taken : List ℕ → ℕ → Bool
is_taken taken n = list_any (λ k. eqb k n) taken

pub taken-Has : (taken : List ℕ) (n : ℕ) → is_taken taken n ≡ true → Has taken n
taken-Has taken n e =
    let found = any-has (λ k. eqb k n) taken e in
    let same : found.0 ≡ n = grind (arith, nat_tests, found.2) in
    subst (λ (k : ℕ). Has taken k) same found.1

pub not-Has : (taken : List ℕ) (n : ℕ) → is_taken taken n ≡ false → ¬ (Has taken n)
not-Has taken n e h =
    let same : eqb n n ≡ true = grind (arith, nat_tests) in
    let yes' = has-any (λ k. eqb k n) taken n h same in
    let no' : false ≡ true = sym e ∙ yes' in cc

-- the numbers from the lowest one up to this one are taken
abbrev pub AreTaken : ℕ → List ℕ → ℕ → Type 0
AreTaken low taken n = first_gap n (rising taken) ≡ first_gap low (rising taken)

taken-next : (low : ℕ) (taken : List ℕ) (n : ℕ) → is_taken taken n ≡ true → AreTaken low taken n →
    AreTaken low taken (n + 1)
taken-next low taken n e so_far =
    sym (gap-held n (rising taken) (rising-rises taken) (rising-has taken n (taken-Has taken n e))) ∙ so_far

free_cases : (high g n : ℕ) → g ≡ n → n ≤ high → Some n ≡ cond (leb g high) (Some g) None
free_cases high g n same le = grind (arith, nat_tests, same)

first-found : (low high : ℕ) (taken : List ℕ) (n : ℕ) → is_taken taken n ≡ false → n ≤ high → AreTaken low taken n →
    Some n ≡ first_free low high taken
first-found low high taken n free le so_far =
    free_cases high (first_gap low (rising taken)) n
    (sym so_far ∙ gap-free n (rising taken) (λ t. not-Has taken n free (rising-cases taken n t))) le

none_cases : (high g n : ℕ) → n ≤ g → high < n → ◌≡◌ {A = Option ℕ} None (cond (leb g high) (Some g) None)
none_cases high g n le above = grind (arith, nat_tests)

none-found : (low high : ℕ) (taken : List ℕ) (n : ℕ) → high < n → AreTaken low taken n →
    ◌≡◌ {A = Option ℕ} None (first_free low high taken)
none-found low high taken n above so_far =
    none_cases high (first_gap low (rising taken)) n
    (let ge = first_gap-ge n (rising taken) in omega (arith, so_far, ge)) above

-- Ports.

port_named : (udp : Bool) (n : ℕ) (p : Port) →
    (same_bool p.udp udp && list_any (λ k. eqb k n) (option_to_list p.number)) ≡ has_port_number udp n p
port_named udp n p = go p.number
  where
    go : (o : Option ℕ) → (same_bool p.udp udp && list_any (λ k. eqb k n) (option_to_list o))
        ≡ (same_bool p.udp udp && option_eq same_number o (Some n))
    go None = refl
    go (Some k) = ap (λ (b : Bool). same_bool p.udp udp && b) (or_false (eqb k n))

named-ports : (udp : Bool) (n : ℕ) (ports : List Port) →
    is_taken (numbers_named udp ports) n ≡ list_any (has_port_number udp n) ports
named-ports udp n ports =
    any_each (λ k. eqb k n) (λ (p : Port). option_to_list p.number) (filter (λ (p : Port). same_bool p.udp udp) ports)
    ∙ any_filter (λ (p : Port). same_bool p.udp udp) (λ (p : Port). list_any (λ k. eqb k n) (option_to_list p.number))
    ports
    ∙ any_same (λ (p : Port). same_bool p.udp udp && list_any (λ k. eqb k n) (option_to_list p.number))
    (has_port_number udp n)
    ports (port_named udp n)

given-numbers : (udp : Bool) (n : ℕ) (numbers : List PortNumber) →
    is_taken (numbers_given udp numbers) n ≡ list_any (is_numbered udp n) numbers
given-numbers udp n numbers =
    any_map (λ k. eqb k n) (λ (m : PortNumber). m.number) (filter (λ (m : PortNumber). same_bool m.udp udp) numbers)
    ∙ any_filter (λ (m : PortNumber). same_bool m.udp udp) (λ (m : PortNumber). eqb m.number n) numbers

held-ports : (udp : Bool) (n : ℕ) (s : Service) → is_taken (ports_held udp s) n ≡ holds_port udp n s
held-ports udp n s =
    let front = numbers_named udp s.spec.ports in
    let before = numbers_named udp (ports_of s.previous) in
    let given = numbers_given udp s.numbers in
    list_any-append (λ k. eqb k n) (front ++ before) given
    ∙ ap (λ (b : Bool). b || is_taken given n) (list_any-append (λ k. eqb k n) front before)
    ∙ ap (λ (b : Bool). (b || is_taken before n) || is_taken given n) (named-ports udp n s.spec.ports)
    ∙ ap (λ (b : Bool). (list_any (has_port_number udp n) s.spec.ports || b) || is_taken given n)
    (named-ports udp n (ports_of s.previous))
    ∙ ap (λ (b : Bool). (list_any (has_port_number udp n) s.spec.ports
    || list_any (has_port_number udp n) (ports_of s.previous)) || b) (given-numbers udp n s.numbers)

abbrev pub all_ports : Tables → Bool → List ℕ
all_ports t udp = flat_map (ports_held udp) t.services

port-taken : (t : Tables) (udp : Bool) (n : ℕ) → list_any (holds_port udp n) t.services ≡ is_taken (all_ports t udp) n
port-taken t udp n =
    sym (any_each (λ k. eqb k n) (ports_held udp) t.services
    ∙ any_same (λ (s : Service). is_taken (ports_held udp s) n) (holds_port udp n) t.services (held-ports udp n))

pub next_port : (t : Tables) (udp : Bool) (n : ℕ) (held : Bool) → held ≡ list_any (holds_port udp n) t.services →
    held ≡ true → AreTaken first_port (all_ports t udp) n → AreTaken first_port (all_ports t udp) (n + 1)
next_port t udp n held is e so_far =
    taken-next first_port (all_ports t udp) n (sym (port-taken t udp n) ∙ sym is ∙ e) so_far

pub port_found : (t : Tables) (udp : Bool) (n : ℕ) (held : Bool) → held ≡ list_any (holds_port udp n) t.services →
    held ≡ false → n ≤ last_port → AreTaken first_port (all_ports t udp) n → Some n ≡ free_port t udp
port_found t udp n held is e le so_far =
    first-found first_port last_port (all_ports t udp) n (sym (port-taken t udp n) ∙ sym is ∙ e) le so_far

pub no_port : (t : Tables) (udp : Bool) (n : ℕ) → last_port < n → AreTaken first_port (all_ports t udp) n →
    ◌≡◌ {A = Option ℕ} None (free_port t udp)
no_port t udp n above so_far = none-found first_port last_port (all_ports t udp) n above so_far

-- Addresses.

held-addresses : (network n : ℕ) (x : Task) →
    is_taken (addresses_in network x) n ≡ list_any (is_address network n) x.addresses
held-addresses network n x =
    any_map (λ k. eqb k n) (λ (a : Address). a.number) (filter (λ (a : Address). a.network == network) x.addresses)
    ∙ any_filter (λ (a : Address). a.network == network) (λ (a : Address). eqb a.number n) x.addresses

address-taken : (t : Tables) (network n : ℕ) →
    list_any (holds_address network n) t.tasks ≡ is_taken (addresses_held t network) n
address-taken t network n =
    sym (any_each (λ k. eqb k n) (addresses_in network) (filter is_not_over t.tasks)
    ∙ any_filter is_not_over (λ (x : Task). is_taken (addresses_in network x) n) t.tasks
    ∙ any_same (λ (x : Task). is_not_over x && is_taken (addresses_in network x) n) (holds_address network n) t.tasks
    (λ (x : Task). ap (λ (b : Bool). is_not_over x && b) (held-addresses network n x)))

-- the first address of the network that a task may have, and the last
abbrev pub lowest : Network → ℕ
lowest n = n.base + 2

abbrev pub highest : Network → ℕ
highest n = n.base + 2 ^ (32 - n.length) - 2

pub next_address : (t : Tables) (id : ℕ) (network : Network) (n : ℕ) (held : Bool) →
    held ≡ list_any (holds_address id n) t.tasks → held ≡ true → AreTaken (lowest network) (addresses_held t id) n →
    AreTaken (lowest network) (addresses_held t id) (n + 1)
next_address t id network n held is e so_far =
    taken-next (lowest network) (addresses_held t id) n (sym (address-taken t id n) ∙ sym is ∙ e) so_far

pub address_found : (t : Tables) (id : ℕ) (network : Network) (n : ℕ) (held : Bool) →
    held ≡ list_any (holds_address id n) t.tasks → held ≡ false → n ≤ highest network →
    AreTaken (lowest network) (addresses_held t id) n → Some n ≡ free_in (addresses_held t id) network
address_found t id network n held is e le so_far =
    first-found (lowest network) (highest network) (addresses_held t id) n (sym (address-taken t id n) ∙ sym is ∙ e) le
    so_far

pub no_address : (t : Tables) (id : ℕ) (network : Network) (n : ℕ) → highest network < n →
    AreTaken (lowest network) (addresses_held t id) n → ◌≡◌ {A = Option ℕ} None (free_in (addresses_held t id) network)
no_address t id network n above so_far =
    none-found (lowest network) (highest network) (addresses_held t id) n above so_far
