use Rattle.std.proofs.Common.{◌≡◌, ◌∙◌, None, Some, ap, false, subst, sym}
use Rattle.std.specs.Option.{option_copied}
use Rattle.swarm_index.proofs.MarkLemmas.{first_marked, none_marked, passed_mark}
use Rattle.swarm_index.proofs.Tables.{found_at, marks_seen}
use Rattle.swarm_index.specs.Inside.Marks.{IsNextMark}
use Rattle.swarm_index.specs.Keys.{has_key, value_of}
use Rattle.swarm_objects.specs.Rows.{is_some_and, row_at}
use Rattle.swarm_index.proofs.table.Table.next_by_key.Goals as goal

pub returns-then-is_keyed-clause-value : goal.returns-then-is_keyed-clause-value
returns-then-is_keyed-clause-value g c =
    let key = value_of c.args.key.now in
    let seen = marks_seen g.R.Row.id_of g.R.Row.key_of g.R.Row.KEYS c.self.inside.rows c.self.inside.rows c.args.self.now c.self.view_is c.self.inside.marks.map c.self.invariant in
    first_marked g.R.Row.id_of g.R.Row.key_of g.R.Row.KEYS c.args.self.now c.self.inside.marks.map c.args.which c.loop-id.passed key seen.0 seen.1 c.requires c.in-Some.id (option_copied c.get-row.result)
    (subst (λ n. IsNextMark c.self.inside.marks.map c.args.which n c.loop-id.passed (Some c.in-Some.id)) c.digest-digest.ensures (subst (λ o. IsNextMark c.self.inside.marks.map c.args.which c.digest-digest.result c.loop-id.passed o) c.in-Some.is c.next.ensures))
    (c.get-row.ensures ∙ found_at g.R.Row.id_of c.self.inside.rows c.self.invariant.by_id c.in-Some.id ∙ ap (row_at g.R.Row.id_of c.in-Some.id) c.self.view_is)
    (sym c.is_keyed.ensures ∙ c.if-is_keyed.true)
    ∙ c.loop-id.invariant

pub loop-id-preserved : goal.loop-id-preserved
loop-id-preserved g c =
    let key = value_of c.args.key.now in
    let seen = marks_seen g.R.Row.id_of g.R.Row.key_of g.R.Row.KEYS c.self.inside.rows c.self.inside.rows c.args.self.now c.self.view_is c.self.inside.marks.map c.self.invariant in
    let at : option_copied c.get-row.result ≡ row_at g.R.Row.id_of c.in-Some.id c.args.self.now = c.get-row.ensures ∙ found_at g.R.Row.id_of c.self.inside.rows c.self.invariant.by_id c.in-Some.id ∙ ap (row_at g.R.Row.id_of c.in-Some.id) c.self.view_is in
    passed_mark g.R.Row.id_of g.R.Row.key_of g.R.Row.KEYS c.args.self.now c.self.inside.marks.map c.args.which c.loop-id.passed key seen.0 seen.1 c.requires c.in-Some.id
    (subst (λ n. IsNextMark c.self.inside.marks.map c.args.which n c.loop-id.passed (Some c.in-Some.id)) c.digest-digest.ensures (subst (λ o. IsNextMark c.self.inside.marks.map c.args.which c.digest-digest.result c.loop-id.passed o) c.in-Some.is c.next.ensures))
    (subst (λ o. is_some_and (has_key g.R.Row.key_of c.args.which key) o ≡ false) at (sym c.is_keyed.ensures ∙ c.if-is_keyed.false))
    ∙ c.loop-id.invariant

pub returns-clause-value : goal.returns-clause-value
returns-clause-value g c =
    let key = value_of c.args.key.now in
    let seen = marks_seen g.R.Row.id_of g.R.Row.key_of g.R.Row.KEYS c.self.inside.rows c.self.inside.rows c.args.self.now c.self.view_is c.self.inside.marks.map c.self.invariant in
    none_marked g.R.Row.id_of g.R.Row.key_of g.R.Row.KEYS c.args.self.now c.self.inside.marks.map c.args.which c.loop-id.passed key seen.0 seen.1 c.requires
    (subst (λ n. IsNextMark c.self.inside.marks.map c.args.which n c.loop-id.passed None) c.digest-digest.ensures (subst (λ o. IsNextMark c.self.inside.marks.map c.args.which c.digest-digest.result c.loop-id.passed o) c.in_default.is c.next.ensures))
    ∙ c.loop-id.invariant
