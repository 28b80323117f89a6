use Rattle.std.proofs.Common.{arith, inl, inr}
use Rattle.std.proofs.lemmas.Result.{err_from_is_err_and}
use Rattle.tree_scopes.specs.Sources.{declared_tree}
use Rattle.package_form.proofs.AllAndContains.{contains-map, contains-at}
use Rattle.tree_names.proofs.NamesAsGraphNodes.{orders-more}
use Rattle.tree_names.proofs.graphs.type_orders.Goals as goal

pub loop-declared-preserved : goal.loop-declared-preserved
loop-declared-preserved c =
    orders-more c.loop-declared.declared-index c.args.all.now c.loop-declared.orders.items c.push.new.self.items c.declared-item.result c.in_ok-type_order.field-0
    c.loop-declared.invariant (omega arith) c.declared-item.is c.in_ok-type_order.ensures.ok c.in_ok-push.ensures.items

pub returns-in_err-type_order-clause-err : goal.returns-in_err-type_order-clause-err
returns-in_err-type_order-clause-err c =
    let p = err_from_is_err_and c.from_residual-in_err-type_order.result c.from_residual-in_err-type_order.ensures.1 in
    let d = c.declared-item.result in
    rw (p.1, p.2) (elim c.in_err-type_order.ensures.err [
      | inl q ↦ inl q
      | inr q ↦ inr (q.0, (declared_tree d, contains-map declared_tree c.args.all.now d (contains-at c.args.all.now c.loop-declared.declared-index d (omega arith) c.declared-item.is), q.1))
    ])
