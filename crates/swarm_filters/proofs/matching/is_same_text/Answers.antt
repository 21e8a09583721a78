use Rattle.std.specs.Str.{str_to_ascii_lowercase, bytes_eq}
use Rattle.std.proofs.lemmas.Slice.Eq.{bytes_eq-Decides}
use Rattle.swarm_objects.proofs.SameLemmas.{same_test}
use Rattle.swarm_filters.proofs.matching.is_same_text.Goals as goal

pub returns : goal.returns
returns c =
    let one = str_to_ascii_lowercase c.args.one.now in
    let two = str_to_ascii_lowercase c.args.two.now in
    same_test c.eq_ignore_ascii_case.result (bytes_eq one two) c.eq_ignore_ascii_case.ensures.test (bytes_eq-Decides one two)
