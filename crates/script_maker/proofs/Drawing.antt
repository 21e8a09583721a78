-- Lines with draws, one more and one more.
use Rattle.std.proofs.Common.{◌≡◌, Result, Ok, Err, OnOk, ℕ, suc, ◌+◌, ◌-◌, ◌*◌, List, [], ◌∷◌, ◌++◌, refl, sym, ◌∙◌, ap, subst, append_assoc, arith}
use Rattle.std.specs.List.{flat_map}
use Rattle.std.proofs.lemmas.Grind.{flat_map-append}
use Rattle.std.proofs.lemmas.List.{append-nil}
use Rattle.script_maker.specs.Draws.{draw, given, next_state, state_after}
use Rattle.script_maker.specs.Script.{drawn_line, drawn_lines, numbers}

numbers_more : (f : ℕ → List ℕ) (k : ℕ) → flat_map f (numbers (suc k)) ≡ flat_map f (numbers k) ++ f (suc k)
numbers_more f k = flat_map-append f (numbers k) (suc k ∷ []) ∙ ap (λ l. flat_map f (numbers k) ++ l) (append-nil (f (suc k)))

pub lines_more : (line : ℕ → ℕ → ℕ → List ℕ) (a b x k : ℕ) → drawn_lines line a b x (suc k) ≡ drawn_lines line a b x k ++ drawn_line line a b x (suc k)
unfolding drawn_lines
lines_more line a b x k = numbers_more (drawn_line line a b x) k

-- nothing is drawn yet
pub lines_none : (line : ℕ → ℕ → ℕ → List ℕ) (a b x : ℕ) (first : List ℕ) → first ≡ first ++ drawn_lines line a b x 0
unfolding drawn_lines
lines_none line a b x first = sym (append-nil first)

pub state_none : (x : ℕ) → x ≡ state_after (2 * 0) x
unfolding state_after
state_none x = refl

state_next : (n x : ℕ) → state_after (suc n) x ≡ next_state (state_after n x)
unfolding state_after
state_next n x = refl

line_is : (line : ℕ → ℕ → ℕ → List ℕ) (a b x k s : ℕ) → s ≡ state_after (2 * k) x →
    drawn_line line a b x (suc k) ≡ line (suc k) (given (next_state s) a) (given (next_state (next_state s)) b)
line_is line a b x k s e =
    let odd : 2 * suc k - 1 ≡ suc (2 * k) = omega arith in
    let even : 2 * suc k ≡ suc (suc (2 * k)) = omega arith in
    let one : state_after (2 * suc k - 1) x ≡ next_state s = ap (λ n. state_after n x) odd ∙ state_next (2 * k) x ∙ ap next_state (sym e) in
    let two : state_after (2 * suc k) x ≡ next_state (next_state s) =
    ap (λ n. state_after n x) even ∙ state_next (suc (2 * k)) x ∙ ap next_state (state_next (2 * k) x ∙ ap next_state (sym e)) in
    ap (λ n. line (suc k) (given n a) (draw x (2 * suc k) b)) one ∙ ap (λ n. line (suc k) (given (next_state s) a) (given n b)) two

pub state_more : (x k s : ℕ) → s ≡ state_after (2 * k) x → next_state (next_state s) ≡ state_after (2 * (k + 1)) x
state_more x k s e =
    let even : suc (suc (2 * k)) ≡ 2 * (k + 1) = omega arith in
    ap next_state (ap next_state e ∙ sym (state_next (2 * k) x)) ∙ sym (state_next (suc (2 * k)) x) ∙ ap (λ n. state_after n x) even

-- one line more
pub drawn_more : (line : ℕ → ℕ → ℕ → List ℕ) (a b x k s : ℕ) (first old new : List ℕ) → old ≡ first ++ drawn_lines line a b x k →
    s ≡ state_after (2 * k) x → new ≡ old ++ line (k + 1) (given (next_state s) a) (given (next_state (next_state s)) b) →
    new ≡ first ++ drawn_lines line a b x (k + 1)
drawn_more line a b x k s first old new before state puts =
    let one : suc k ≡ k + 1 = omega arith in
    let next = line (k + 1) (given (next_state s) a) (given (next_state (next_state s)) b) in
    let is : next ≡ drawn_line line a b x (suc k) = ap (λ n. line n (given (next_state s) a) (given (next_state (next_state s)) b)) (sym one) ∙ sym (line_is line a b x k s state) in
    let lines = drawn_lines line a b x k in
    subst (λ n. new ≡ first ++ drawn_lines line a b x n) one
    (puts ∙ ap (λ t. t ++ next) before ∙ append_assoc first lines next
    ∙ ap (λ t. first ++ (lines ++ t)) is ∙ ap (λ t. first ++ t) (sym (lines_more line a b x k)))

-- three texts, one behind the other
pub behind : {T E : Type 0} (r : Result T E) (a b c d p q s : List ℕ) → b ≡ a ++ p → c ≡ b ++ q → OnOk r (d ≡ c ++ s) →
    OnOk r (d ≡ a ++ ((p ++ q) ++ s))
behind (Ok x) a b c d p q s e f g =
    g ∙ ap (λ t. t ++ s) (f ∙ ap (λ t. t ++ q) e ∙ append_assoc a p q) ∙ append_assoc a (p ++ q) s
behind (Err x) a b c d p q s e f g = tt
