use Rattle.table_building.proofs.copy.copy_of.Goals as goal

pub invariant_of-result : goal.invariant_of-result
invariant_of-result c =
    let r = c.args.table.now in
    let rows = c.in_ok-copied_all-4.ensures in
    record {
      earlier = rw rows r.earlier;
      typed = rw rows r.typed;
      standard = rw rows r.standard;
      placed = rw (rows, c.in_ok-copied_all-2.ensures) r.placed;
      grouped = rw (c.in_ok-copied_all.ensures, c.in_ok-copied_all-2.ensures) r.grouped;
      worlds_grouped = rw (c.in_ok-copied_all.ensures, c.in_ok-copied_all-3.ensures) r.worlds_grouped;
      worlds_placed = rw (rows, c.in_ok-copied_all-2.ensures, c.in_ok-copied_all-3.ensures) r.worlds_placed;
    }
