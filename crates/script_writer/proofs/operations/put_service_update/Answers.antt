use Rattle.std.proofs.Common.{◌++◌, List, ℕ, codes, refl, string_bytes}
use Rattle.script_grammar.specs.Pieces.{service_pieces}
use Rattle.script_grammar.specs.Texts.{pieces_words, version_words}
use Rattle.script_writer.proofs.Fronts.{ok_then, then_named, then_words}
use Rattle.script_writer.proofs.operations.put_service_update.Goals as goal

pub returns : goal.returns
returns c =
    let t0 : List ℕ = string_bytes c.args.text.now in
    let t1 : List ℕ = string_bytes c.put_words.new.text in
    let t2 : List ℕ = string_bytes c.put_version.new.text in
    let t3 : List ℕ = string_bytes c.put_service.new.text in
    let version : List (List ℕ) = version_words c.args.version in
    let fields : List (List ℕ) = pieces_words (service_pieces c.args.draft.now) in
    ok_then c.put_service.result c.put_service.ensures (λ d.
    then_named t0 t1 t3 (codes "service") (codes "update") c.as_str.result.now c.args.name.now (version ++ fields) _
    c.in_ok-put_words.ensures c.as_str.ensures refl
    (then_words t1 t2 t3 version fields (version ++ fields) c.in_ok-put_version.ensures refl d))
