-- A service that gets another specification, or goes back to the one that it had.
use Rattle.std.proofs.Common.{◌≡◌, ◌+◌, ◌<◌, true, ℕ, List, [], ◌∷◌, ◌++◌, Result, Ok, Err, length, drop, get_or, ap, ◌∙◌, sym, ◌⊎◌, inl, inr, false, Option, Some, None}
use Rattle.swarm_model.specs.Calls.Operations.{apply_op, apply_ops}
use Rattle.swarm_objects.proofs.RowLemmas.{drop_next}
use Rattle.swarm_objects.specs.World.{Tables, World}
use Rattle.swarm_objects.specs.declared.calls.Op.{Op}
use Rattle.swarm_objects.specs.declared.replies.Refusal.{Refusal}
use Rattle.std.specs.Result.{result_err}
use Rattle.swarm_model.specs.Calls.Refusals.{Done, conflict, found, on_service_by, row_named, service_by, service_name}
use Rattle.swarm_objects.specs.Refusals.{unless}
use Rattle.swarm_model.specs.Calls.Services.{filled, go_back, put_service, rollback_service, update_service, update_refusal}
use Rattle.swarm_objects.specs.NewRows.{respecified}
use Rattle.swarm_objects.specs.Changes.{with_tables}
use Rattle.swarm_objects.specs.Rows.{put_row, service_id}
use Rattle.swarm_objects.specs.declared.ids.Kind.TheVariants as kind
use Rattle.swarm_objects.specs.declared.replies.Wanted.TheVariants as wanted_by
use Rattle.swarm_objects.specs.declared.services.Draft.{Draft}
use Rattle.swarm_objects.specs.declared.services.Service.{Service}
use Rattle.swarm_objects.specs.declared.services.ServiceSpec.{ServiceSpec}

pub found-is : (t : Tables) (rows : List Service) (name : List ℕ) (seen : Option Service) (s : Service) →
    rows ≡ t.services → seen ≡ row_named service_name name rows → seen ≡ Some s → service_by t name ≡ Some s
found-is t rows name seen s same is some = ap (row_named service_name name) (sym same) ∙ sym is ∙ some

-- a test that passed refuses nothing
pub passed : {X : Type 0} (r : Result X Refusal) (x : X) (refusal : Option Refusal) →
    result_err r ≡ refusal → r ≡ Ok x → refusal ≡ None
passed r x refusal is ok = sym is ∙ ap result_err ok

pub passed-too : {X : Type 0} (r : Result X Refusal) (x : X) (other : Refusal) (refusal : Option Refusal) →
    (result_err r ≡ Some other) ⊎ (result_err r ≡ refusal) → r ≡ Ok x → refusal ≡ None
passed-too r x other refusal (inl e) ok =
    let none : result_err r ≡ None = ap result_err ok in
    absurd cc
passed-too r x other refusal (inr e) ok = passed r x refusal e ok

abbrev done_in : ℕ → World → Done
done_in id w = Ok (w, id)

rows-put : (w : World) (s made new : Service) (id : ℕ) (rows : List Service) →
    made ≡ new → rows ≡ put_row service_id made w.tables.services →
    done_in id (put_service w new) ≡ done_in id (with_tables w (record w.tables { services = rows }))
rows-put w s made new id rows is put =
    ap (λ xs. done_in id (with_tables w (record w.tables { services = xs })))
    (sym (put ∙ ap (λ one. put_row service_id one w.tables.services) is))

pub updated : (version : ℕ) (w : World) (name : List ℕ) (asked : Option ℕ) (d : Draft) (s made : Service) (spec : ServiceSpec)
    (rows : List Service) → service_by w.tables name ≡ Some s → update_refusal w.tables asked d s ≡ None →
    spec ≡ filled w.tables d → made ≡ respecified version false spec s →
    rows ≡ put_row service_id made w.tables.services →
    on_service_by w.tables name (update_service version w asked d) ≡
    Ok (with_tables w (record w.tables { services = rows }), s.id)
updated version w name asked d s made spec rows there none filled' is put =
    let new = respecified version false (filled w.tables d) s in
    ap (λ row. found kind.Service (wanted_by.Name name) row (update_service version w asked d)) there
    ∙ ap (λ r. unless r (put_service w new, s.id)) none
    ∙ rows-put w s made new s.id rows (is ∙ ap (λ one. respecified version false one s) filled') put

pub rolled-back : (version : ℕ) (w : World) (name : List ℕ) (asked : Option ℕ) (s made : Service) (spec before : ServiceSpec)
    (rows : List Service) → service_by w.tables name ≡ Some s → conflict asked s.version ≡ None →
    s.previous ≡ Some before → spec ≡ before → made ≡ respecified version true spec s →
    rows ≡ put_row service_id made w.tables.services →
    on_service_by w.tables name (rollback_service version w asked) ≡
    Ok (with_tables w (record w.tables { services = rows }), s.id)
rolled-back version w name asked s made spec before rows there none had same is put =
    let new = respecified version true before s in
    ap (λ row. found kind.Service (wanted_by.Name name) row (rollback_service version w asked)) there
    ∙ ap (λ (r : Option Refusal). elim r [ Some q ↦ Err q | None ↦ go_back version w s s.previous ]) none
    ∙ ap (go_back version w s) had
    ∙ rows-put w s made new s.id rows (is ∙ ap (λ one. respecified version true one s) same) put

-- Operations one after the other.

first-done : (version : ℕ) (ops rest : List Op) (op : Op) (w v : World) (ids all : List ℕ) (id : ℕ) →
    ops ≡ op ∷ rest → apply_op version w op ≡ Ok (v, id) → all ≡ ids ++ id ∷ [] →
    apply_ops version ops w ids ≡ apply_ops version rest v all
first-done version ops rest op w v ids all id is done more =
    ap (λ xs. apply_ops version xs w ids) is
    ∙ ap (λ (r : Result (World × ℕ) Refusal). elim r [
      | Ok one ↦ apply_ops version rest one.0 (ids ++ one.1 ∷ [])
      | Err refusal ↦ Err refusal
    ]) done
    ∙ ap (λ xs. apply_ops version rest v xs) (sym more)

-- after the one at this place the rest follows, in the world that it leaves
pub next-done : (version : ℕ) (ops : List Op) (i : ℕ) (op : Op) (w v : World) (ids all : List ℕ) (id : ℕ) →
    i < length ops → op ≡ get_or ops i op → apply_op version w op ≡ Ok (v, id) → all ≡ ids ++ id ∷ [] →
    apply_ops version (drop i ops) w ids ≡ apply_ops version (drop (i + 1) ops) v all
next-done version ops i op w v ids all id lt is done more =
    first-done version (drop i ops) (drop (i + 1) ops) op w v ids all id (drop_next ops i op lt is) done more
