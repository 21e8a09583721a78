use Rattle.std.proofs.Common.{None, Some, ◌≡◌, ◌∙◌, ap, length, length-set, refl, set, subst}
use Rattle.std.specs.List.{position}
use Rattle.plain_updates.proofs.UpdateLists.{on_ok}
use Rattle.plain_updates.proofs.UpdateSteps.{item_found, item_new}
use Rattle.swarm_objects.proofs.RowLemmas.{instead_is}
use Rattle.swarm_objects.specs.Same.{same_place}
use Rattle.swarm_objects.specs.declared.services.Replaced.{Replaced}
use Rattle.plain_updates.proofs.update_effects.put_item.Goals as goal

pub returns-in-Some-clause-ok : goal.returns-in-Some-clause-ok
returns-in-Some-clause-ok c =
    let items = c.args.items.now in
    let item = c.args.item in
    let at = c.in-Some.at in
    let was : c.as_mut_slice.result.now ≡ items = c.as_mut_slice.ensures.value in
    let is = subst (λ xs. Some at ≡ position (λ (i : Replaced). same_place i.place item.place) xs)
    c.as_slice.ensures c.in-Some.ensures in
    instead_is items (set c.as_mut_slice.result.now at item) (length-set c.as_mut_slice.result.now at item
    ∙ ap length was)
    ∙ ap (λ xs. set xs at item) was
    ∙ item_found item items (Some at) at is refl

pub returns-in-None-clause-ok : goal.returns-in-None-clause-ok
returns-in-None-clause-ok c =
    let items = c.args.items.now in
    let item = c.args.item in
    let is = subst (λ xs. None ≡ position (λ (i : Replaced). same_place i.place item.place) xs) c.as_slice.ensures
    c.in-None.ensures in
    on_ok c.add.result (λ last. item_new item items c.add.new.list None is refl last) c.add.ensures.ok
