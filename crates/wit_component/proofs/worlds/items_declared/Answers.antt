use Rattle.std.proofs.Common.{map, length, ◌∙◌, arith}
use Rattle.ctype_format.specs.View.{decl_view}
use Rattle.tables.specs.Package.{interface_names}
use Rattle.wit_component.specs.Worlds.{Surroundings}
use Rattle.wit_component.proofs.WorldsWritten.{item-passed, labels-between}
use Rattle.wit_component.proofs.worlds.items_declared.Goals as goal

pub loop-item-preserved : goal.loop-item-preserved
loop-item-preserved c =
    let r = c.args.resolve.now in
    let inv = c.loop-item.invariant in
    let told = c.in_ok-start.ensures in
    let start = c.loop-item.start in
    let around : Surroundings = record { rows = r.definitions; names = interface_names r; instances = c.args.instances.now } in
    let passed = item-passed around (length r.interfaces) c.args.items.now c.loop-item.item-index _ c.loop-item-test.true (map decl_view c.loop-item.declared.decls.items) (map decl_view c.push_item.new.self.decls.items)
    c.loop-item.declared.place c.push_item.new.self.place start c.in_ok-start.start told.declarations told.place told.end in
    record {
      declarations = passed.declarations ∙ inv.declarations;
      place = passed.place_is ∙ inv.place;
      ends = passed.ends ∙ inv.ends;
      stand = passed.stand inv.stand;
      low = omega (arith, inv.low, told.within.0);
      high = told.within.1;
      types = omega (arith, inv.types, told.few, told.within.0);
      used = omega (arith, inv.used, told.passed, told.within.0);
      labelled = labels-between r.definitions c.args.start start c.in_ok-start.start inv.low told.within.0 inv.labelled told.labelled;
    }
