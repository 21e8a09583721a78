use Rattle.std.proofs.Common.{Some, ap, arith, sym, ◌∙◌}
use Rattle.swarm_index.specs.Inside.Boxes.{on_page}
use Rattle.swarm_index.proofs.PageSteps.{left_pages, page_long, pages_anew, rows_anew, rows_with}
use Rattle.swarm_index.proofs.boxes.Boxes.put.Goals as goal

pub put-requires : goal.put-requires
put-requires g c = page_long c.lengthen.new.pages.items c.args.self.now (c.lengthen.ensures.rows ∙ c.self.view_is) (c.lengthen.ensures.whole c.self.invariant) _ _ _ c.page_of-key.ensures c.place_of-at.ensures (omega (arith, c.in-Ok.ensures.ok)) _ c.index_mut.ensures.value _ (ap on_page c.in-Some.is)

pub invariant_of-self-in-Some : goal.invariant_of-self-in-Some
invariant_of-self-in-Some g c = left_pages c.lengthen.new.pages.items c.args.self.now (c.lengthen.ensures.rows ∙ c.self.view_is) (c.lengthen.ensures.whole c.self.invariant) _ _ _ c.page_of-key.ensures c.place_of-at.ensures (omega (arith, c.in-Ok.ensures.ok)) _ c.index_mut.ensures.value _ (ap on_page c.in-Some.is) c.put.new.self (Some c.args.row.value) c.put.ensures

pub returns-in-Some-clause-ok : goal.returns-in-Some-clause-ok
returns-in-Some-clause-ok g c = rows_with c.lengthen.new.pages.items c.args.self.now (c.lengthen.ensures.rows ∙ c.self.view_is) (c.lengthen.ensures.whole c.self.invariant) _ _ _ c.page_of-key.ensures c.place_of-at.ensures (omega (arith, c.in-Ok.ensures.ok)) _ c.index_mut.ensures.value _ (ap on_page c.in-Some.is) c.put.new.self c.args.row.value c.put.ensures

pub invariant_of-self-2 : goal.invariant_of-self-2
invariant_of-self-2 g c = pages_anew c.lengthen.new.pages.items c.args.self.now (c.lengthen.ensures.rows ∙ c.self.view_is) (c.lengthen.ensures.whole c.self.invariant) _ _ _ c.page_of-key.ensures c.place_of-at.ensures (omega (arith, c.in-Ok.ensures.ok)) _ c.index_mut.ensures.value _ (ap on_page c.in_default-index_mut.is ∙ sym c.in-Ok-new.ensures) c.put-2.new.self c.args.row.value c.put-2.ensures

pub returns-clause-ok : goal.returns-clause-ok
returns-clause-ok g c = rows_anew c.lengthen.new.pages.items c.args.self.now (c.lengthen.ensures.rows ∙ c.self.view_is) (c.lengthen.ensures.whole c.self.invariant) _ _ _ c.page_of-key.ensures c.place_of-at.ensures (omega (arith, c.in-Ok.ensures.ok)) _ c.index_mut.ensures.value _ (ap on_page c.in_default-index_mut.is ∙ sym c.in-Ok-new.ensures) c.put-2.new.self c.args.row.value c.put-2.ensures
