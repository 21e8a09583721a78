use Rattle.std.proofs.Common.{Some, ap, arith, subst, sym, ◌∙◌}
use Rattle.std.specs.BTreeMap.{is_at}
use Rattle.std.specs.Map.{lookup}
use Rattle.std.specs.Ordering.{nat_cmp}
use Rattle.std.specs.Prelude.{is_some, ◌%◌, ◌/◌}
use Rattle.swarm_index.proofs.PageSteps.{left_pages, none_past, none_read, page_long, page_row, rows_changed}
use Rattle.swarm_index.proofs.Tables.{is_there}
use Rattle.swarm_index.specs.Inside.Boxes.{on_page}
use Rattle.swarm_index.specs.Inside.Marks.{HasNone, fresh_digests, is_mark}
use Rattle.swarm_index.proofs.boxes.Boxes.exchange.Goals as goal

pub unreachable-requires : goal.unreachable-requires
unreachable-requires g c = is_there (lookup (is_at (nat_cmp (g.R.Row.id_of c.args.row.now))) c.args.self.now) (none_past c.self.inside.pages.items c.args.self.now c.self.view_is c.self.invariant _ _ _ (c.page_of-key.ensures ∙ ap (λ id. id / 64) c.id-id.ensures) (c.place_of-at.ensures ∙ ap (λ id. id % 64) c.id-id.ensures) (omega (arith, c.if-key-len.true, c.len.ensures))) c.requires.there

pub unreachable-requires-in-None : goal.unreachable-requires-in-None
unreachable-requires-in-None g c = is_there (lookup (is_at (nat_cmp (g.R.Row.id_of c.args.row.now))) c.args.self.now) (none_read c.self.inside.pages.items c.args.self.now c.self.view_is c.self.invariant _ _ _ (c.page_of-key.ensures ∙ ap (λ id. id / 64) c.id-id.ensures) (c.place_of-at.ensures ∙ ap (λ id. id % 64) c.id-id.ensures) (omega (arith, c.if-key-len.false, c.len.ensures)) _ c.index_mut.ensures.value c.in-None.is) c.requires.there

pub exchange-requires-clause-within : goal.exchange-requires-clause-within
exchange-requires-clause-within g c = page_long c.self.inside.pages.items c.args.self.now c.self.view_is c.self.invariant _ _ _ (c.page_of-key.ensures ∙ ap (λ id. id / 64) c.id-id.ensures) (c.place_of-at.ensures ∙ ap (λ id. id % 64) c.id-id.ensures) (omega (arith, c.if-key-len.false, c.len.ensures)) _ c.index_mut.ensures.value _ (ap on_page c.in-Some.is)

pub exchange-requires-clause-there : goal.exchange-requires-clause-there
exchange-requires-clause-there g c = ap is_some (page_row c.self.inside.pages.items c.args.self.now c.self.view_is c.self.invariant _ _ _ (c.page_of-key.ensures ∙ ap (λ id. id / 64) c.id-id.ensures) (c.place_of-at.ensures ∙ ap (λ id. id % 64) c.id-id.ensures) (omega (arith, c.if-key-len.false, c.len.ensures)) _ c.index_mut.ensures.value _ (ap on_page c.in-Some.is)) ∙ c.requires.there

pub exchange-requires-clause-fresh : goal.exchange-requires-clause-fresh
exchange-requires-clause-fresh g c = subst (λ o. HasNone c.args.marks.now.map (is_mark (fresh_digests g.R.Row.key_of c.args.row.now o) g.R.Row.KEYS (g.R.Row.id_of c.args.row.now))) (sym (page_row c.self.inside.pages.items c.args.self.now c.self.view_is c.self.invariant _ _ _ (c.page_of-key.ensures ∙ ap (λ id. id / 64) c.id-id.ensures) (c.place_of-at.ensures ∙ ap (λ id. id % 64) c.id-id.ensures) (omega (arith, c.if-key-len.false, c.len.ensures)) _ c.index_mut.ensures.value _ (ap on_page c.in-Some.is))) c.requires.fresh

pub invariant_of-self-2 : goal.invariant_of-self-2
invariant_of-self-2 g c = left_pages c.self.inside.pages.items c.args.self.now c.self.view_is c.self.invariant _ _ _ (c.page_of-key.ensures ∙ ap (λ id. id / 64) c.id-id.ensures) (c.place_of-at.ensures ∙ ap (λ id. id % 64) c.id-id.ensures) (omega (arith, c.if-key-len.false, c.len.ensures)) _ c.index_mut.ensures.value _ (ap on_page c.in-Some.is) c.exchange.new.self (Some c.args.row.now) c.in-Ok.ensures.rows

pub returns-clause-rows : goal.returns-clause-rows
returns-clause-rows g c = rows_changed c.self.inside.pages.items c.args.self.now c.self.view_is c.self.invariant _ _ _ (c.page_of-key.ensures ∙ ap (λ id. id / 64) c.id-id.ensures) (c.place_of-at.ensures ∙ ap (λ id. id % 64) c.id-id.ensures) (omega (arith, c.if-key-len.false, c.len.ensures)) _ c.index_mut.ensures.value _ (ap on_page c.in-Some.is) c.exchange.new.self c.args.row.now c.in-Ok.ensures.rows c.exchange.new.row c.in-Ok.ensures.old

pub returns-clause-old : goal.returns-clause-old
returns-clause-old g c = sym (page_row c.self.inside.pages.items c.args.self.now c.self.view_is c.self.invariant _ _ _ (c.page_of-key.ensures ∙ ap (λ id. id / 64) c.id-id.ensures) (c.place_of-at.ensures ∙ ap (λ id. id % 64) c.id-id.ensures) (omega (arith, c.if-key-len.false, c.len.ensures)) _ c.index_mut.ensures.value _ (ap on_page c.in-Some.is)) ∙ c.in-Ok.ensures.old
