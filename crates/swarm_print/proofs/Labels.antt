-- Labels that are put to an object from the last to the first.
use Rattle.std.proofs.Common.{◌≡◌, ◌++◌, ◌∙◌, ℕ, List, [], ◌∷◌, length, refl, ap, ap₂, sym}
use Rattle.serde_json.specs.Data.{string, Members, no_members, put}
use Rattle.swarm_print.specs.Details.{label_members}

-- the labels put to these more
abbrev pub onto : List (List ℕ × List ℕ) → Members → Members
onto [] more = more
onto (label ∷ labels) more = put label.0 (string label.1) (onto labels more)

pub onto-none : (labels : List (List ℕ × List ℕ)) → onto labels no_members ≡ label_members labels
onto-none [] = refl
onto-none (label ∷ labels) = ap (put label.0 (string label.1)) (onto-none labels)

pub onto-last : (labels : List (List ℕ × List ℕ)) (label : List ℕ × List ℕ) (more : Members) → onto (labels ++ label ∷ []) more ≡ onto labels (put label.0 (string label.1) more)
onto-last [] label more = refl
onto-last (other ∷ labels) label more = ap (put other.0 (string other.1)) (onto-last labels label more)

-- one label more is put, and one less is left
pub onto-next : (labels rest next : List (List ℕ × List ℕ)) (label : List ℕ × List ℕ) (before after : Members) → onto rest before ≡ label_members labels → rest ≡ next ++ label ∷ [] → after ≡ put label.0 (string label.1) before → onto next after ≡ label_members labels
onto-next labels rest next label before after so_far left is_put =
    ap (onto next) is_put ∙ sym (onto-last next label before) ∙ ap (λ (ls : List (List ℕ × List ℕ)). onto ls before) (sym left) ∙ so_far

pub onto-first : (labels rest : List (List ℕ × List ℕ)) (empty : Members) → rest ≡ labels → empty ≡ no_members → onto rest empty ≡ label_members labels
onto-first labels rest empty whole none = ap₂ onto whole none ∙ onto-none labels

pub onto-all : (labels rest : List (List ℕ × List ℕ)) (all : Members) → onto rest all ≡ label_members labels → length rest ≡ 0 → all ≡ label_members labels
onto-all labels [] all so_far none = so_far
onto-all labels (label ∷ rest) all so_far none = cc
