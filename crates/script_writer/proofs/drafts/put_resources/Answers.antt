use Rattle.std.proofs.Common.{◌++◌, ◌∙◌, List, ℕ, ap, string_bytes, sym}
use Rattle.script_writer.proofs.Fronts.{front, ok_then, session_behind}
use Rattle.script_writer.proofs.drafts.put_resources.Goals as goal

pub returns : goal.returns
returns c =
    let t0 : List ℕ = string_bytes c.args.text.now in
    let t1 : List ℕ = string_bytes c.put_given.new.text in
    ok_then c.put_given-2.result c.put_given-2.ensures (λ e.
    e
    ∙ front t0 t1 _ _ c.in_ok-put_given.ensures
    ∙ ap (λ t. t0 ++ t) (sym (session_behind c.args.cpu c.args.mem)))
