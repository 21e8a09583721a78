-- Lists of duties: what each item comes from, and when a duty is due.
use Rattle.std.proofs.Common.{◌≡◌, ℕ, Bool, true, false, eqb, inl, inr, List, [], ◌∷◌, ◌++◌, refl, sym, ap, ◌∙◌, subst, get_or}
use Rattle.std.specs.Prelude.{◌||◌, filter, flat_map}
use Rattle.std.proofs.lemmas.Bool.Decides.{Decides-and, Decides-eqb}
use Rattle.std.proofs.lemmas.Slice.Eq.{bytes_eq-Decides}
use Rattle.std.specs.Bool.{Decides}
use Rattle.std.specs.List.{list_any}
use Rattle.std.specs.Str.{bytes_eq}
use Rattle.swarm_objects.proofs.RowLemmas.{Has-append_cases, Has-filter, Has-filter_cases, Has-flat_map_cases, Has-map, Has-map_cases}
use Rattle.swarm_objects.specs.Duties.{duties, is_due}
use Rattle.swarm_objects.specs.Kinds.{duty_numbers, kind_place, role_of, same_duty}
use Rattle.swarm_objects.specs.Loops.Words.{duty_where, places_where, when}
use Rattle.swarm_objects.specs.Rows.{Has}
use Rattle.swarm_objects.specs.World.{World}
use Rattle.swarm_objects.specs.declared.duties.Duty.{Duty}
use Rattle.swarm_objects.specs.declared.duties.Duty.TheVariants as duty

-- What an item of a list comes from.

pub from_where : {X : Type 0} (P : Duty → Type 0) (test : X → Bool) (duty_of : X → Duty) (rows : List X) (d : Duty) →
    ((x : X) → Has rows x → test x ≡ true → P (duty_of x)) → Has (duty_where test duty_of rows) d → P d
from_where P test duty_of rows d holds h =
    let x = Has-map_cases duty_of (filter test rows) d h in
    let passes = Has-filter_cases test rows x.0 x.1 in
    subst P x.2 (holds x.0 passes.0 passes.1)

pub from_when : (P : Duty → Type 0) (b : Bool) (e d : Duty) → (b ≡ true → P e) → Has (when b e) d → P d
from_when P true e d holds (inl same) = subst P same (holds refl)
from_when P true e d holds (inr none) = absurd none
from_when P false e d holds h = absurd h

pub from_places : (P : Duty → Type 0) (b : Bool) (test : ℕ → Bool) (duty_of : ℕ → Duty) (ks : List ℕ) (d : Duty) →
    (b ≡ true → (k : ℕ) → Has ks k → test k ≡ true → P (duty_of k)) → Has (places_where b test duty_of ks) d → P d
from_places P true test duty_of ks d holds h = from_where P test duty_of ks d (holds refl) h
from_places P false test duty_of ks d holds h = absurd h

pub from_each : {X : Type 0} (P : Duty → Type 0) (f : X → List Duty) (rows : List X) (d : Duty) →
    ((x : X) → Has rows x → Has (f x) d → P d) → Has (flat_map f rows) d → P d
from_each P f rows d holds h = let x = Has-flat_map_cases f rows d h in holds x.0 x.1 x.2

pub from_either : {P : Type 0} (xs ys : List Duty) (d : Duty) → (Has xs d → P) → (Has ys d → P) → Has (xs ++ ys) d → P
from_either xs ys d first second h = elim (Has-append_cases xs ys d h) [ inl a ↦ first a | inr b ↦ second b ]

-- And back.

pub to_where : {X : Type 0} (test : X → Bool) (duty_of : X → Duty) (rows : List X) (x : X) → Has rows x → test x ≡ true →
    Has (duty_where test duty_of rows) (duty_of x)
to_where test duty_of rows x there passes = Has-map duty_of (filter test rows) x (Has-filter test rows x there passes)

pub to_when : (b : Bool) (d : Duty) → b ≡ true → Has (when b d) d
to_when true d e = inl refl
to_when false d e = absurd cc

pub to_places : (b : Bool) (test : ℕ → Bool) (duty_of : ℕ → Duty) (ks : List ℕ) (k : ℕ) → b ≡ true → Has ks k →
    test k ≡ true → Has (places_where b test duty_of ks) (duty_of k)
to_places true test duty_of ks k e there passes = to_where test duty_of ks k there passes
to_places false test duty_of ks k e there passes = absurd cc

-- Two duties with the same kind and numbers are equal: both give the duty back.

abbrev first_number : (ℕ → Duty) → List ℕ → Duty
first_number make [] = make 0
first_number make (n ∷ ns) = make n

abbrev two_numbers : (ℕ → ℕ → Duty) → List ℕ → Duty
two_numbers make [] = make 0 0
two_numbers make (n ∷ ns) = first_number (make n) ns

abbrev port_numbers : List ℕ → Duty
port_numbers [] = duty.Port 0 0 false
port_numbers (s ∷ ns) = two_numbers (λ target udp. duty.Port s target (eqb udp 1)) ns

abbrev makers : List (List ℕ → Duty)
makers =
    first_number duty.Expire
    ∷ first_number duty.Orphan
    ∷ first_number duty.Reject
    ∷ first_number duty.Restart
    ∷ first_number duty.Raise
    ∷ first_number duty.Start
    ∷ first_number duty.Fail
    ∷ two_numbers duty.Swap
    ∷ two_numbers duty.Replace
    ∷ first_number duty.Finish
    ∷ first_number duty.Gone
    ∷ two_numbers duty.Down
    ∷ two_numbers duty.ReplicatedCreate
    ∷ two_numbers duty.Leave
    ∷ two_numbers duty.GlobalCreate
    ∷ first_number duty.Old
    ∷ two_numbers duty.JobCreate
    ∷ port_numbers
    ∷ first_number duty.Address
    ∷ first_number duty.Note
    ∷ first_number duty.Drop
    ∷ two_numbers duty.Place
    ∷ first_number duty.Explain
    ∷ first_number duty.Delete
    ∷ first_number duty.Trim
    ∷ first_number duty.Register
    ∷ first_number duty.Beat
    ∷ first_number duty.Apply
    ∷ first_number duty.Pull
    ∷ two_numbers duty.Exec
    ∷ two_numbers duty.Report
    ∷ two_numbers duty.Forget
    ∷ []

abbrev made : ℕ → List ℕ → Duty
made kind numbers = (get_or makers kind (first_number duty.Expire)) numbers

given_back : (d : Duty) → made (kind_place d) (duty_numbers d) ≡ d
given_back (duty.Port s target true) = refl
given_back (duty.Port s target false) = refl
given_back (duty.Expire n) = refl
given_back _ = refl

pub Decides-same_duty : (d e : Duty) → Decides (same_duty d e) (d ≡ e)
Decides-same_duty d e = by_parts (same_duty d e) parts
  where
    parts : Decides (same_duty d e) ((kind_place d ≡ kind_place e) × (duty_numbers d ≡ duty_numbers e))
    parts =
        Decides-and (eqb (kind_place d) (kind_place e)) (bytes_eq (duty_numbers d) (duty_numbers e))
        (Decides-eqb (kind_place d) (kind_place e)) (bytes_eq-Decides (duty_numbers d) (duty_numbers e))

    joined : (kind_place d ≡ kind_place e) × (duty_numbers d ≡ duty_numbers e) → d ≡ e
    joined both =
        sym (given_back d)
        ∙ ap (λ k. made k (duty_numbers d)) both.0
        ∙ ap (λ ns. made (kind_place e) ns) both.1
        ∙ given_back e

    by_parts : (b : Bool) → Decides b ((kind_place d ≡ kind_place e) × (duty_numbers d ≡ duty_numbers e)) → Decides b (d ≡ e)
    by_parts b h = (λ t. joined (h.0 t), λ same. h.1 (ap kind_place same, ap duty_numbers same))

-- A duty is due exactly where its loop's list has it.

any_has : (ds : List Duty) (d : Duty) → list_any (same_duty d) ds ≡ true → Has ds d
any_has [] d e = absurd cc
any_has (x ∷ ds) d e = go (same_duty d x) (Decides-same_duty d x) (any_has ds d) e
  where
    go : (b : Bool) → Decides b (d ≡ x) → (list_any (same_duty d) ds ≡ true → Has ds d) →
        (b || list_any (same_duty d) ds) ≡ true → Has (x ∷ ds) d
    go true h rest t = inl (sym (h.0 refl))
    go false h rest t = inr (rest t)

has_any : (ds : List Duty) (d : Duty) → Has ds d → list_any (same_duty d) ds ≡ true
has_any [] d h = absurd h
has_any (x ∷ ds) d h = go (same_duty d x) (Decides-same_duty d x) (has_any ds d) h
  where
    go : (b : Bool) → Decides b (d ≡ x) → (Has ds d → list_any (same_duty d) ds ≡ true) → Has (x ∷ ds) d →
        (b || list_any (same_duty d) ds) ≡ true
    go true k rest t = refl
    go false k rest (inl same) = absurd (let q : false ≡ true = k.1 (sym same) in cc)
    go false k rest (inr t) = rest t

pub Has-due : (w : World) (d : Duty) → is_due w d ≡ true → Has (duties (role_of d) w) d
Has-due w d e = any_has (duties (role_of d) w) d e

pub due-Has : (w : World) (d : Duty) → Has (duties (role_of d) w) d → is_due w d ≡ true
due-Has w d h = has_any (duties (role_of d) w) d h
