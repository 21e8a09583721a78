use Rattle.std.proofs.Common.{None, Some, ap, arith, sym, ◌∙◌}
use Rattle.swarm_index.specs.Inside.Boxes.{on_page}
use Rattle.swarm_index.proofs.PageSteps.{gone_pages, left_pages, none_left, none_past, none_read, page_long, page_row, put_back, rows_gone, rows_without}
use Rattle.swarm_index.proofs.boxes.Boxes.remove.Goals as goal

pub returns-then-key-len-clause-value : goal.returns-then-key-len-clause-value
returns-then-key-len-clause-value g c = none_past c.self.inside.pages.items c.args.self.now c.self.view_is c.self.invariant _ _ _ c.page_of-key.ensures c.place_of-at.ensures (omega (arith, c.if-key-len.true, c.len.ensures))

pub returns-then-key-len-clause-rows : goal.returns-then-key-len-clause-rows
returns-then-key-len-clause-rows g c = none_left c.self.inside.pages.items c.args.self.now c.self.view_is c.self.invariant _ _ _ c.page_of-key.ensures c.place_of-at.ensures (none_past c.self.inside.pages.items c.args.self.now c.self.view_is c.self.invariant _ _ _ c.page_of-key.ensures c.place_of-at.ensures (omega (arith, c.if-key-len.true, c.len.ensures)))

pub returns-in_default-clause-value : goal.returns-in_default-clause-value
returns-in_default-clause-value g c = none_read c.self.inside.pages.items c.args.self.now c.self.view_is c.self.invariant _ _ _ c.page_of-key.ensures c.place_of-at.ensures (omega (arith, c.if-key-len.false, c.len.ensures)) _ c.index_mut.ensures.value c.in_default.is

pub returns-in_default-clause-rows : goal.returns-in_default-clause-rows
returns-in_default-clause-rows g c = put_back c.self.inside.pages.items c.args.self.now c.self.view_is c.self.invariant _ _ _ c.page_of-key.ensures c.place_of-at.ensures (omega (arith, c.if-key-len.false, c.len.ensures)) _ c.index_mut.ensures.value ∙ none_left c.self.inside.pages.items c.args.self.now c.self.view_is c.self.invariant _ _ _ c.page_of-key.ensures c.place_of-at.ensures (none_read c.self.inside.pages.items c.args.self.now c.self.view_is c.self.invariant _ _ _ c.page_of-key.ensures c.place_of-at.ensures (omega (arith, c.if-key-len.false, c.len.ensures)) _ c.index_mut.ensures.value c.in_default.is)

pub take-requires : goal.take-requires
take-requires g c = page_long c.self.inside.pages.items c.args.self.now c.self.view_is c.self.invariant _ _ _ c.page_of-key.ensures c.place_of-at.ensures (omega (arith, c.if-key-len.false, c.len.ensures)) _ c.index_mut.ensures.value _ (ap on_page c.in-Some.is)

pub returns-in_default-take-clause-value : goal.returns-in_default-take-clause-value
returns-in_default-take-clause-value g c = c.in_default-take.ensures.row ∙ page_row c.self.inside.pages.items c.args.self.now c.self.view_is c.self.invariant _ _ _ c.page_of-key.ensures c.place_of-at.ensures (omega (arith, c.if-key-len.false, c.len.ensures)) _ c.index_mut.ensures.value _ (ap on_page c.in-Some.is)

pub returns-in_default-take-clause-rows : goal.returns-in_default-take-clause-rows
returns-in_default-take-clause-rows g c = rows_without c.self.inside.pages.items c.args.self.now c.self.view_is c.self.invariant _ _ _ c.page_of-key.ensures c.place_of-at.ensures (omega (arith, c.if-key-len.false, c.len.ensures)) _ c.index_mut.ensures.value _ (ap on_page c.in-Some.is) _ c.take.ensures.page

pub invariant_of-self-then-has_row : goal.invariant_of-self-then-has_row
invariant_of-self-then-has_row g c = left_pages c.self.inside.pages.items c.args.self.now c.self.view_is c.self.invariant _ _ _ c.page_of-key.ensures c.place_of-at.ensures (omega (arith, c.if-key-len.false, c.len.ensures)) _ c.index_mut.ensures.value _ (ap on_page c.in-Some.is) _ None c.take.ensures.page

pub returns-then-has_row-clause-value : goal.returns-then-has_row-clause-value
returns-then-has_row-clause-value g c = ap Some c.into_inner.ensures ∙ c.in-Some-take.ensures.row ∙ page_row c.self.inside.pages.items c.args.self.now c.self.view_is c.self.invariant _ _ _ c.page_of-key.ensures c.place_of-at.ensures (omega (arith, c.if-key-len.false, c.len.ensures)) _ c.index_mut.ensures.value _ (ap on_page c.in-Some.is)

pub returns-then-has_row-clause-rows : goal.returns-then-has_row-clause-rows
returns-then-has_row-clause-rows g c = rows_without c.self.inside.pages.items c.args.self.now c.self.view_is c.self.invariant _ _ _ c.page_of-key.ensures c.place_of-at.ensures (omega (arith, c.if-key-len.false, c.len.ensures)) _ c.index_mut.ensures.value _ (ap on_page c.in-Some.is) _ c.take.ensures.page

pub invariant_of-self-2 : goal.invariant_of-self-2
invariant_of-self-2 g c = gone_pages c.self.inside.pages.items c.args.self.now c.self.view_is c.self.invariant _ _ _ c.page_of-key.ensures c.place_of-at.ensures (omega (arith, c.if-key-len.false, c.len.ensures)) _ c.index_mut.ensures.value _ (ap on_page c.in-Some.is) _ None c.take.ensures.page

pub returns-clause-value : goal.returns-clause-value
returns-clause-value g c = ap Some c.into_inner-2.ensures ∙ c.in-Some-take.ensures.row ∙ page_row c.self.inside.pages.items c.args.self.now c.self.view_is c.self.invariant _ _ _ c.page_of-key.ensures c.place_of-at.ensures (omega (arith, c.if-key-len.false, c.len.ensures)) _ c.index_mut.ensures.value _ (ap on_page c.in-Some.is)

pub returns-clause-rows : goal.returns-clause-rows
returns-clause-rows g c = rows_gone c.self.inside.pages.items c.args.self.now c.self.view_is c.self.invariant _ _ _ c.page_of-key.ensures c.place_of-at.ensures (omega (arith, c.if-key-len.false, c.len.ensures)) _ c.index_mut.ensures.value _ (ap on_page c.in-Some.is) _ c.take.ensures.page (sym c.has_row.ensures ∙ c.if-has_row.false)
