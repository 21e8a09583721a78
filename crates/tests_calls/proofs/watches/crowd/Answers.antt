use Rattle.std.proofs.Common.{◌≡◌, ℕ, ◌+◌, ◌≤◌, List, [], ◌∷◌, ◌++◌, None, Ok, Option, Some, arith, subst, sym, inl, inr, refl}
use Rattle.std.proofs.lemmas.Bool.Decides.{nat_tests}
use Rattle.swarm_objects.specs.Rows.{IsBelow, row_at}
use Rattle.swarm_objects.specs.declared.replies.Refusal.{Refusal}
use Rattle.swarm_objects.specs.declared.watches.Filter.{Filter}
use Rattle.tests_calls.proofs.watches.crowd.Goals as goal
use Rattle.swarm_watch.specs.Calls.{MayAnswerAs, begin_unless, new_watching}
use Rattle.swarm_watch.specs.Watchings.{Watching, Watchings, watching_id}

free : (bound id : ℕ) (xs : List Watching) → bound ≤ id → IsBelow watching_id bound xs → row_at watching_id id xs ≡ None
free bound id [] le below = refl
free bound id (x ∷ xs) le below = grind (arith, nat_tests, free bound id xs le below.1, below.0)

below_push : (id : ℕ) (xs : List Watching) (x : Watching) → x.id ≡ id → IsBelow watching_id id xs → IsBelow watching_id (id + 1) (xs ++ x ∷ [])
below_push id [] x is below = (omega arith, tt)
below_push id (y ∷ xs) x is below = (let lt = below.0 in omega arith, below_push id xs x is below.1)

begun_below : (o : Option Refusal) (v after : Watchings) (id : ℕ) (f : Filter) → IsBelow watching_id id v.watchers →
    MayAnswerAs (begin_unless o v.watchers id f) v (Ok tt) after → IsBelow watching_id (id + 1) after.watchers
begun_below None v after id f below (inl gives) = subst (IsBelow watching_id (id + 1)) (sym gives.1) (below_push id v.watchers (new_watching id f) refl below)
begun_below None v after id f below (inr wanting) = let no = wanting.0 in absurd cc
begun_below (Some r) v after id f below (inl gives) = let no = gives.0 in absurd cc
begun_below (Some r) v after id f below (inr wanting) = let no = wanting.0 in absurd cc

pub begin-requires : goal.begin-requires
begin-requires c = free c.loop-id.id c.loop-id.id c.loop-id.watches.watchers (omega arith) c.loop-id.invariant

pub loop-id-preserved : goal.loop-id-preserved
loop-id-preserved c = begun_below _ c.loop-id.watches c.begin.new.self c.loop-id.id _ c.loop-id.invariant c.in-Ok.ensures

pub returns : goal.returns
returns c = free c.loop-id.id 101 c.loop-id.watches.watchers (omega arith) c.loop-id.invariant
