use Rattle.std.proofs.Common.{length, refl, sym, ◌∙◌}
use Rattle.tables.proofs.NamesEarlierTypes.{package-parts}
use Rattle.table_building.proofs.parts.from_parts.Goals as goal

pub returns-then-not-is_package-clause-err : goal.returns-then-not-is_package-clause-err
returns-then-not-is_package-clause-err c =
    (refl, rw (sym c.len.ensures, sym c.as_slice.ensures, sym c.as_slice-2.ensures, sym c.as_slice-3.ensures) (sym c.is_package.ensures ∙ c.if-not-is_package.true))

pub invariant_of-result : goal.invariant_of-result
invariant_of-result c =
    let parts = package-parts (length c.args.packages) c.args.definitions c.args.interfaces c.args.worlds
    (rw (sym c.len.ensures, sym c.as_slice.ensures, sym c.as_slice-2.ensures, sym c.as_slice-3.ensures) (sym c.is_package.ensures ∙ c.if-not-is_package.false)) in
    record {
      earlier = parts.earlier;
      typed = parts.typed;
      standard = parts.standard;
      placed = parts.placed;
      grouped = parts.grouped;
      worlds_grouped = parts.worlds_grouped;
      worlds_placed = parts.worlds_placed;
    }
