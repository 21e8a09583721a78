-- The labels from some place on.
use Rattle.std.proofs.Common.{◌≡◌, ℕ, suc, ◌+◌, ◌<◌, true, false, cond, List, ◌∷◌, length, get_or, drop, sym, ap, ◌∙◌, drop-cons, add-one}
use Rattle.std.specs.Str.{bytes_eq}
use Rattle.swarm_objects.specs.Nodes.Constraints.{label_value}

drop_next : (ls : List (List ℕ × List ℕ)) (i : ℕ) (l : List ℕ × List ℕ) → i < length ls → l ≡ get_or ls i l → drop i ls ≡ l ∷ drop (i + 1) ls
drop_next ls i l below is = rw (add-one, drop-cons ls i l) (ap (λ x. x ∷ drop (suc i) ls) (sym is))

label_value-step : (ls : List (List ℕ × List ℕ)) (i : ℕ) (name : List ℕ) (l : List ℕ × List ℕ) → i < length ls → l ≡ get_or ls i l → label_value (drop i ls) name ≡ cond (bytes_eq l.0 name) l.1 (label_value (drop (i + 1) ls) name)
label_value-step ls i name l below is = ap (λ xs. label_value xs name) (drop_next ls i l below is)

pub label_value-found : (ls : List (List ℕ × List ℕ)) (i : ℕ) (name : List ℕ) (l : List ℕ × List ℕ) → i < length ls → l ≡ get_or ls i l → bytes_eq l.0 name ≡ true → label_value (drop i ls) name ≡ l.1
label_value-found ls i name l below is same = label_value-step ls i name l below is ∙ ap (λ b. cond b l.1 (label_value (drop (i + 1) ls) name)) same

pub label_value-passed : (ls : List (List ℕ × List ℕ)) (i : ℕ) (name : List ℕ) (l : List ℕ × List ℕ) → i < length ls → l ≡ get_or ls i l → bytes_eq l.0 name ≡ false → label_value (drop i ls) name ≡ label_value (drop (i + 1) ls) name
label_value-passed ls i name l below is other = label_value-step ls i name l below is ∙ ap (λ b. cond b l.1 (label_value (drop (i + 1) ls) name)) other
