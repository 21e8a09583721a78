use Rattle.std.proofs.Common.{◌≡◌, ◌+◌, ◌++◌, take, drop, ap, ◌∙◌}
use Rattle.swarm_objects.proofs.PutLemmas.{none_there, put_nowhere, put_somewhere}
use Rattle.swarm_objects.specs.Rows.{put_row}
use Rattle.swarm_objects.proofs.lists.+put_row_from.Goals.{then-is_some+in_ok-duplicate+in_ok-put_row_from, else-is_some}
use Rattle.swarm_objects.proofs.lists.+put_row_from.Goals as goal

pub returns-in_default-clause-ok : goal.returns-in_default-clause-ok
returns-in_default-clause-ok g t c =
    put_nowhere g.T.Keyed.key_of c.args.row c.args.rows.now c.as_slice.result.now c.args.from c.key.result
    c.place_behind.result c.as_slice.ensures c.key.ensures c.place_behind.ensures c.in_default.is

pub returns-clause-ok : goal.returns-clause-ok
returns-clause-ok g t c =
    let key = g.T.Keyed.key_of in
    let row = c.args.row in
    let old = c.args.rows.now in
    let n = c.args.from + c.in-Some.skipped + 1 in
    let behind : c.if-is_some.rows ≡ take n old ++ put_row key row (drop n old) = elim c.if-is_some.branch [
      | then-is_some+in_ok-duplicate+in_ok-put_row_from w ↦ (
          w.rows-is
          ∙ w.in_ok-put_row_from.ensures.ok
          ∙ ap (λ r. take n old ++ put_row key r (drop n old)) w.in_ok-duplicate.ensures
          )
      | else-is_some w ↦ (
          w.rows-is
          ∙ put_nowhere key row old c.as_slice-2.result.now n c.key-2.result c.place_behind-2.result c.as_slice-2.ensures
          c.key-2.ensures c.place_behind-2.ensures
          (none_there c.place_behind-2.result c.is_some.result c.is_some.ensures w.if-is_some.false)
          )
    ] in
    c.replace.ensures
    ∙ put_somewhere key row old c.as_slice.result.now c.if-is_some.rows c.args.from c.key.result c.in-Some.skipped
    c.place_behind.result c.as_slice.ensures c.key.ensures c.place_behind.ensures c.in-Some.is c.requires behind
