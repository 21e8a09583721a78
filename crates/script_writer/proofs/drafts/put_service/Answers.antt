use Rattle.std.proofs.Common.{◌++◌, ◌≡◌, ◌∙◌, List, ℕ, ap, string_bytes, subst, sym}
use Rattle.script_writer.proofs.Fronts.{front, ok_then, service_behind}
use Rattle.script_writer.proofs.drafts.put_service.Goals as goal
use Rattle.script_writer.specs.Behind.{rows_text}
use Rattle.script_writer.specs.Groups.{place_pieces, run_pieces}

pub returns : goal.returns
returns c =
    let t0 : List ℕ = string_bytes c.args.text.now in
    let t1 : List ℕ = string_bytes c.put_run.new.text in
    let t2 : List ℕ = string_bytes c.put_places.new.text in
    ok_then c.put_rest.result c.put_rest.ensures (λ e.
    e
    ∙ front t1 t2 _ _
    (subst (λ t. t2 ≡ t1 ++ rows_text (place_pieces t)) c.deref-2.ensures c.in_ok-put_places.ensures)
    ∙ front t0 t1 _ _
    (subst (λ t. t1 ≡ t0 ++ rows_text (run_pieces c.args.draft.now.spec.mode t)) c.deref.ensures c.in_ok-put_run.ensures)
    ∙ ap (λ t. t0 ++ t) (sym (service_behind c.args.draft.now)))
