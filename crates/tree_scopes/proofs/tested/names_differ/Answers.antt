use Rattle.std.proofs.Common.{◌<◌, length, refl, ap, sym, subst, arith}
use Rattle.tables.specs.declared.tables.Resolve.{Resolve}
use Rattle.tree_scopes.specs.Tested.{IsFirstOfName}
use Rattle.tree_scopes.proofs.ImportTests.{all-first, first-at}
use Rattle.tree_scopes.proofs.tested.names_differ.Goals as goal

pub returns-then-not-is_first : goal.returns-then-not-is_first
returns-then-not-is_first c = (
  λ q. absurd (cc q),
  λ apart.
      let k = c.loop-place.place in
      let below : k < length c.args.imports.now.interfaces = omega (arith, ap length c.as_slice-interface-items.ensures) in
      let first = subst (λ (r : Resolve). IsFirstOfName r k) (sym c.in_ok-table.ensures) (first-at c.args.imports.now apart k below) in
      let found = c.is_first.ensures.1 first in
      absurd (cc (found, c.if-not-is_first.true)),
)

pub returns : goal.returns
returns c = (
  λ _. all-first c.args.imports.now (λ k l. c.loop-place.invariant k (omega (arith, l, ap length c.as_slice-interface-items.ensures))),
  λ _. refl,
)
