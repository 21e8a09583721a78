-- The reading of words is what their grammar says, for every machine whose states can all be completed.
use Rattle.std.proofs.Common.{◌≡◌, ℕ, ◌+◌, ◌-◌, List, [], ◌∷◌, ◌++◌, length, take, refl, sym, ◌∙◌, ap, subst, Option, Some, None, Err, arith, append_assoc, append-nil, length-append}
use Rattle.std.proofs.Math.Seq.{take-append_seam, take-append-add}
use Rattle.std.specs.Prelude.{Result}
use Rattle.script_grammar.specs.declared.lines.LineFault.{LineFault}
use Rattle.script_grammar.specs.declared.lines.LineFault.TheVariants as fault
use Rattle.script_grammar.specs.Words.{◌>>=◌}
use Rattle.script_grammar.specs.Machines.{Machine, Begins, Says, ended, meaning, reads, run}

-- some words make the state whole
abbrev pub Completes : {S R : Type 0} → Machine S R → S → Type 0
Completes {S} {R} m s = (more : List (List ℕ)) × (r : R) × ((run m s more >>= m.whole) ≡ Some r)

split_run : {A B : Type 0} (o : Option A) (f g : A → Option B) → (h : B → Option B) → ((x : A) → f x ≡ (g x >>= h)) → (o >>= f) ≡ ((o >>= g) >>= h)
split_run None f g h e = refl
split_run (Some x) f g h e = e x

pub run-append : {S R : Type 0} (m : Machine S R) (s : S) (xs ys : List (List ℕ)) → run m s (xs ++ ys) ≡ (run m s xs >>= λ t. run m t ys)
run-append m s [] ys = refl
run-append m s (x ∷ xs) ys =
    split_run (m.step s x) (λ t. run m t (xs ++ ys)) (λ t. run m t xs) (λ t. run m t ys) (λ t. run-append m t xs ys)

-- behind words that lead to a state, other words do what they do from there
pub onward : {S R : Type 0} (m : Machine S R) (s t : S) (xs ys : List (List ℕ)) → run m s xs ≡ Some t → run m s (xs ++ ys) ≡ run m t ys
onward m s t xs ys e = run-append m s xs ys ∙ ap (λ o. o >>= λ u. run m u ys) e

begins : {S R : Type 0} (m : Machine S R) (all : (s : S) → Completes m s) (s : S) (pre : List (List ℕ)) → run m m.start pre ≡ Some s → Begins m pre
begins {S} {R} m all s pre e =
    let c = all s in
    (c.0, c.1, ap (λ (o : Option S). o >>= m.whole) (onward m m.start s pre c.0 e) ∙ c.2)

-- nothing goes on behind a word without a step
no_more : {S R : Type 0} (m : Machine S R) (s : S) (pre : List (List ℕ)) (word : List ℕ) → run m m.start pre ≡ Some s → m.step s word ≡ None →
    Begins m (pre ++ word ∷ []) → ⊥
no_more {S} {R} m s pre word e none (more, r, h) =
    let a = append_assoc pre (word ∷ []) more in
    let b = onward m m.start s pre (word ∷ more) e in
    let c : run m s (word ∷ more) ≡ None = ap (λ (o : Option S). o >>= λ t. run m t more) none in
    let d : run m m.start ((pre ++ word ∷ []) ++ more) ≡ None = ap (run m m.start) a ∙ b ∙ c in
    let f : None ≡ Some r = sym (ap (λ (o : Option S). o >>= m.whole) d) ∙ h in
    cc

says_end : {S R : Type 0} (m : Machine S R) (all : (s : S) → Completes m s) (s : S) (pre : List (List ℕ)) (o : Option R) →
    run m m.start pre ≡ Some s → m.whole s ≡ o → Says m pre (ended o)
says_end {S} {R} m all s pre (Some r) led e = ap (λ (o : Option S). o >>= m.whole) led ∙ e
says_end {S} {R} m all s pre None led e = (
  begins m all s pre led,
  λ r h. let f : None ≡ Some r = sym (ap (λ (o : Option S). o >>= m.whole) led ∙ e) ∙ h in cc,
)

-- the rest of the words, behind the state after the k-th
abbrev pub onto : {S R : Type 0} → Machine S R → ℕ → List (List ℕ) → Option S → Result R LineFault
onto m k ws o = elim o [ Some next ↦ reads m (k + 1) next ws | None ↦ Err (fault.Word k) ]

front : (pre : List (List ℕ)) (word : List ℕ) (ws : List (List ℕ)) (k : ℕ) → k ≡ length pre + 1 → take k (pre ++ word ∷ ws) ≡ pre ++ word ∷ []
front pre word ws k e = ap (λ n. take n (pre ++ word ∷ ws)) e ∙ take-append-add pre (word ∷ ws) 1

says_word : {S R : Type 0} (m : Machine S R) (all : (s : S) → Completes m s) (s : S) (pre : List (List ℕ)) (word : List ℕ) (ws : List (List ℕ)) (k : ℕ) →
    k ≡ length pre + 1 → run m m.start pre ≡ Some s → (o : Option S) → m.step s word ≡ o →
    ((t : S) → run m m.start (pre ++ word ∷ []) ≡ Some t → Says m ((pre ++ word ∷ []) ++ ws) (reads m (k + 1) t ws)) →
    Says m (pre ++ word ∷ ws) (onto m k ws o)
says_word {S} {R} m all s pre word ws k e led (Some t) st ih =
    let next : run m m.start (pre ++ word ∷ []) ≡ Some t = onward m m.start s pre (word ∷ []) led ∙ ap (λ (o : Option S). o >>= λ u. run m u []) st in
    subst (λ (v : List (List ℕ)). Says m v (reads m (k + 1) t ws)) (append_assoc pre (word ∷ []) ws) (ih t next)
says_word {S} {R} m all s pre word ws k e led None st ih = (
  omega arith,
  omega (arith, length-append pre (word ∷ ws)),
  subst (Begins m) (sym (ap (λ n. take (n - 1) (pre ++ word ∷ ws)) e ∙ ap (λ n. take n (pre ++ word ∷ ws)) (omega arith) ∙ take-append_seam pre (word ∷ ws))) (begins m all s pre led),
  λ h. no_more m s pre word led st (subst (Begins m) (front pre word ws k e) h),
)

-- from a state that some words lead to
says_from : {S R : Type 0} (m : Machine S R) (all : (s : S) → Completes m s) (ws : List (List ℕ)) (s : S) (pre : List (List ℕ)) (k : ℕ) →
    k ≡ length pre + 1 → run m m.start pre ≡ Some s → Says m (pre ++ ws) (reads m k s ws)
says_from m all [] s pre k e led =
    subst (λ (v : List (List ℕ)). Says m v (ended (m.whole s))) (sym (append-nil pre)) (says_end m all s pre (m.whole s) led refl)
says_from m all (w ∷ ws) s pre k e led =
    says_word m all s pre w ws k e led (m.step s w) refl (λ t next. says_from m all ws t (pre ++ w ∷ []) (k + 1) (omega (arith, length-append pre (w ∷ []))) next)

-- the reading of words is what the grammar says of them
pub says_words : {S R : Type 0} (m : Machine S R) (all : (s : S) → Completes m s) (ws : List (List ℕ)) → Says m ws (meaning m ws)
says_words m all ws = says_from m all ws m.start [] 1 (omega arith) refl
