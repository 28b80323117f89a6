use Rattle.std.proofs.Common.{◌∙◌}
use Rattle.std.proofs.lemmas.List.{map-id}
use Rattle.std.specs.List.{items_where_true}
use Rattle.package_sets.proofs.KeptParts.KeptIsATable as table
use Rattle.package_sets.proofs.part.part_table.Goals as goal

pub invariant_of-result : goal.invariant_of-result
invariant_of-result c =
    let s = c.args.set.now in
    let to = c.args.to.now in
    let n = c.requires in
    let packages = c.in_ok-moved_kept.ensures ∙ map-id (items_where_true to.packages s.packages) in
    let interfaces = c.in_ok-moved_kept-2.ensures in
    let worlds = c.in_ok-moved_kept-3.ensures in
    let rows = c.in_ok-moved_kept-4.ensures in
    record {
      earlier = rw rows (table.earlier s to n);
      typed = rw rows (table.typed s to n);
      standard = rw rows (table.standard s to n);
      placed = rw (rows, interfaces) (table.placed s to n);
      grouped = rw (packages, interfaces) (table.grouped s to n);
      worlds_grouped = rw (packages, worlds) (table.worlds-grouped s to n);
      worlds_placed = rw (rows, interfaces, worlds) (table.worlds-placed s to n);
    }

pub returns : goal.returns
returns c =
    let s = c.args.set.now in
    let to = c.args.to.now in
    record {
      packages = c.in_ok-moved_kept.ensures ∙ map-id (items_where_true to.packages s.packages);
      interfaces = c.in_ok-moved_kept-2.ensures;
      worlds = c.in_ok-moved_kept-3.ensures;
      definitions = c.in_ok-moved_kept-4.ensures;
    }
