use Rattle.std.proofs.Common.{◌∙◌, ℕ, Option, subst, sym}
use Rattle.std.specs.Option.{option_copied}
use Rattle.swarm_index.proofs.MarkLemmas.{adds_key, adds_no_key, on_ok}
use Rattle.swarm_index.specs.Inside.Marks.{AddsMarks, fresh_digests, is_mark_at, same_mark}
use Rattle.swarm_index.proofs.marks.add_mark.Goals as goal

pub returns-in-Some-clause-ok : goal.returns-in-Some-clause-ok
returns-in-Some-clause-ok g c =
    let digests : ℕ → Option ℕ = fresh_digests g.R.Row.key_of c.args.row.now (option_copied c.args.other) in
    on_ok c.add.result (AddsMarks c.args.marks.now.map c.add.new.self.map (same_mark c.args.which c.in-Some.digest c.id.result)) (AddsMarks c.args.marks.now.map c.add.new.self.map (is_mark_at digests c.args.which (g.R.Row.id_of c.args.row.now)))
    (λ h. adds_key c.args.marks.now.map c.add.new.self.map digests c.args.which c.in-Some.digest (g.R.Row.id_of c.args.row.now) (sym c.fresh_digest.ensures ∙ c.in-Some.is)
    (subst (λ n. AddsMarks c.args.marks.now.map c.add.new.self.map (same_mark c.args.which c.in-Some.digest n)) c.id.ensures h)) c.add.ensures.ok

pub returns-in-None-clause-ok : goal.returns-in-None-clause-ok
returns-in-None-clause-ok g c = adds_no_key c.args.marks.now.map (fresh_digests g.R.Row.key_of c.args.row.now (option_copied c.args.other)) c.args.which (g.R.Row.id_of c.args.row.now) (sym c.fresh_digest.ensures ∙ c.in-None.is)
