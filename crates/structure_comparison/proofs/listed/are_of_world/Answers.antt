use Rattle.std.proofs.Common.{List, subst}
use Rattle.std.specs.Prelude.{Contains, All}
use Rattle.tables.specs.declared.tables.WorldItem.{WorldItem}
use Rattle.tables.specs.declared.tables.Direction.TheVariants.{Export}
use Rattle.structure_comparison.specs.Worlds.{IsListed, IsItem}
use Rattle.structure_comparison.proofs.Sets.{listed_all, needed_all, ids_found}
use Rattle.structure_comparison.proofs.listed.are_of_world.Goals as goal

pub returns : goal.returns
returns c = λ t.
    let r = c.args.comparison.now.resolve.now in
    let world = c.args.world.now in
    let imports = c.args.imports.now in
    let exports = c.args.exports.now in
    let listed = listed_all imports exports c.in_ok-imported.imported.keys c.in_ok-exported.exported.keys c.as_slice.result.now c.in_ok-imported.ensures c.in_ok-exported.ensures (c.are_listed.ensures c.if-not-are_listed.false) in
    record {
      listed = subst (λ (items : List WorldItem). All (λ (i : WorldItem). IsListed (Contains imports) (Contains exports) i.direction i.kind) items) c.as_slice.ensures listed;
      needed = needed_all r world imports exports c.in_ok-needed.needed.keys c.put_used.new.set.keys c.put_used-2.new.set.keys c.in_ok-needed.ensures c.in_ok-put_used.ensures c.in_ok-put_used-2.ensures (c.has_all.ensures c.if-not-has_all.false);
      only = ids_found (IsItem world Export) c.in_ok-wanted.wanted.keys exports c.in_ok-wanted.ensures (c.has_all-2.ensures t);
    }
