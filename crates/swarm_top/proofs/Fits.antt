-- All entries fit, one by one.
use Rattle.std.proofs.Common.{◌≡◌, ℕ, suc, zero, ◌+◌, ◌≤◌, ◌<◌, ◌&&◌, inl, inr, List, [], ◌∷◌, ◌++◌, length, take, get_or, Bool, true, false, refl, sym, ◌∙◌, ap, subst, arith}
use Rattle.std.proofs.lemmas.Bool.Decides.{nat_tests}
use Rattle.std.specs.List.{list_all}
use Rattle.std.proofs.lemmas.List.{take_all, take_more}
use Rattle.std.proofs.lemmas.List.Folds.{list_all-append}
use Rattle.script_grammar.specs.HasText.{call_has_text, duty_has_text, has_text, is_number}
use Rattle.swarm_lines.proofs.Short.{duty_short}
use Rattle.swarm_lines.specs.Closing.{IsWritable}
use Rattle.swarm_lines.specs.Lengths.{is_short}
use Rattle.swarm_objects.specs.Rows.{Has}
use Rattle.swarm_objects.specs.declared.calls.Call.{Call}
use Rattle.swarm_objects.specs.declared.calls.Entry.{Entry}
use Rattle.swarm_objects.specs.declared.calls.What.{What}
use Rattle.swarm_objects.specs.declared.calls.What.TheVariants.{Call as Called, Duty as Done}
use Rattle.swarm_objects.specs.declared.duties.Duty.{Duty}

few_number : (n : ℕ) → n ≤ 16 → is_number n ≡ true
few_number n h = grind (arith, nat_tests)

both : (a b : Bool) → a ≡ true → b ≡ true → (a && b) ≡ true
both true true d e = refl
both true false d e = cc
both false b d e = cc

-- a call's entry, and a duty's
pub call_fits : (e : Entry) (call : Call) → e.what ≡ Called call → IsWritable e → (has_text e ≡ true) × (is_short e ≡ true)
call_fits e call is fits =
    let has = fits.call call is in
    (by_what e.by e.what call is (few_number e.by fits.few) has.0, has.1)
  where
    by_what : (by : ℕ) (what : What) (call : Call) → what ≡ Called call → is_number by ≡ true → call_has_text call ≡ true →
        has_text (record { by = by; what = what }) ≡ true
    by_what by (Called c) call is number has =
        let same : c ≡ call = cc is in
        both (is_number by) (call_has_text c) number (ap call_has_text same ∙ has)
    by_what by (Done d) call is number has = absurd (cc is)

pub duty_fits : (e : Entry) (duty : Duty) → e.what ≡ Done duty → IsWritable e → duty_has_text duty ≡ true →
    (has_text e ≡ true) × (is_short e ≡ true)
duty_fits e duty is fits has = by_what e.by e.what is (few_number e.by fits.few)
  where
    by_what : (by : ℕ) (what : What) → what ≡ Done duty → is_number by ≡ true →
        (has_text (record { by = by; what = what }) ≡ true) × (is_short (record { by = by; what = what }) ≡ true)
    by_what by (Called c) is number = absurd (cc is)
    by_what by (Done d) is number =
        let same : duty ≡ d = cc is in
        subst (λ (x : Duty). (has_text (record { by = by; what = Done x }) ≡ true) × (is_short (record { by = by; what = Done x }) ≡ true)) same
        (both (is_number by) (duty_has_text duty) number has, duty_short by duty number has)

-- one entry more
pub all_more : {X : Type 0} (test : X → Bool) (xs : List X) (i : ℕ) (x : X) → i < length xs → x ≡ get_or xs i x →
    list_all test (take i xs) ≡ true → test x ≡ true → list_all test (take (i + 1) xs) ≡ true
all_more test xs i x inside is all one =
    ap (list_all test) (take_more xs i x inside ∙ ap (λ y. take i xs ++ y ∷ []) (sym is))
    ∙ list_all-append test (take i xs) (x ∷ [])
    ∙ both (list_all test (take i xs)) (test x && true) all (both (test x) true one refl)

pub all_taken : {X : Type 0} (test : X → Bool) (xs : List X) (i : ℕ) → length xs ≤ i → list_all test (take i xs) ≡ true →
    list_all test xs ≡ true
all_taken test xs i past all = ap (list_all test) (sym (take_all i xs past)) ∙ all

pub has_at : {X : Type 0} (xs : List X) (i : ℕ) (x : X) → i < length xs → x ≡ get_or xs i x → Has xs x
has_at [] i x inside is = absurd (omega (arith, inside))
has_at (y ∷ xs) zero x inside is = inl (sym is)
has_at (y ∷ xs) (suc i) x inside is = inr (has_at xs i x (omega (arith, inside)) is)
