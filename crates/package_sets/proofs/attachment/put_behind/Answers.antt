-- The lists that are given back are the set's; else they are the set's with the own part behind them.
use Rattle.std.proofs.Common.{◌∙◌}
use Rattle.package_sets.specs.Joined.{joined_places}
use Rattle.package_sets.proofs.AttachedSets.IsAttached.{attaches}
use Rattle.package_sets.proofs.AttachedSets.OwnPartStandsBehind as table
use Rattle.package_sets.proofs.AttachedSets.PutBehind.{put-behind}
use Rattle.package_sets.proofs.SamePackagesAreOne.{same-tables}
use Rattle.package_sets.proofs.attachment.put_behind.Goals as goal

pub invariant_of-result : goal.invariant_of-result
invariant_of-result c =
    let s = c.args.set in
    let packages = c.new.ensures ∙ (c.reserve.ensures.same.0 ∙ c.of-lists.ensures.0) in
    let interfaces = c.new-then-is_err.ensures ∙ (c.reserve.ensures.same.1 ∙ c.of-lists.ensures.1) in
    let worlds = c.new-then-is_err-2.ensures ∙ (c.reserve.ensures.same.2 ∙ c.of-lists.ensures.2) in
    let rows = c.new-then-is_err-3.ensures ∙ (c.reserve.ensures.same.3 ∙ c.of-lists.ensures.3) in
    record {
      earlier = rw rows s.earlier;
      typed = rw rows s.typed;
      standard = rw rows s.standard;
      placed = rw (rows, interfaces) s.placed;
      grouped = rw (packages, interfaces) s.grouped;
      worlds_grouped = rw (packages, worlds) s.worlds_grouped;
      worlds_placed = rw (rows, interfaces, worlds) s.worlds_placed;
    }

pub returns-then-is_err-clause-err : goal.returns-then-is_err-clause-err
returns-then-is_err-clause-err c = same-tables _ c.args.set (record {
  packages = c.new.ensures ∙ (c.reserve.ensures.same.0 ∙ c.of-lists.ensures.0);
  interfaces = c.new-then-is_err.ensures ∙ (c.reserve.ensures.same.1 ∙ c.of-lists.ensures.1);
  worlds = c.new-then-is_err-2.ensures ∙ (c.reserve.ensures.same.2 ∙ c.of-lists.ensures.2);
  definitions = c.new-then-is_err-3.ensures ∙ (c.reserve.ensures.same.3 ∙ c.of-lists.ensures.3);
})

pub invariant_of-resolve : goal.invariant_of-resolve
invariant_of-resolve c =
    let s = c.args.set in
    let closed = c.args.closed.now in
    let j = joined_places c.args.to.now in
    let own = c.in-Ok.ensures.packages.0 in
    let packages = put-behind c.joined.ensures (c.reserve.ensures.same.0 ∙ c.of-lists.ensures.0) c.in-Ok.ensures.packages.2 in
    let interfaces = put-behind c.joined-2.ensures (c.reserve.ensures.same.1 ∙ c.of-lists.ensures.1) c.in-Ok.ensures.interfaces in
    let worlds = put-behind c.joined-3.ensures (c.reserve.ensures.same.2 ∙ c.of-lists.ensures.2) c.in-Ok.ensures.worlds in
    let rows = put-behind c.joined-4.ensures (c.reserve.ensures.same.3 ∙ c.of-lists.ensures.3) c.in-Ok.ensures.definitions in
    record {
      earlier = rw rows (table.earlier s closed j c.requires.joined);
      typed = rw rows (table.typed s closed j c.requires.joined);
      standard = rw rows (table.standard s closed j c.requires.joined);
      placed = rw (rows, interfaces) (table.placed s closed j c.requires.joined);
      grouped = rw (packages, interfaces) (table.grouped s closed j c.requires.joined own);
      worlds_grouped = rw (packages, worlds) (table.worlds-grouped s closed j c.requires.joined own);
      worlds_placed = rw (rows, interfaces, worlds) (table.worlds-placed s closed j c.requires.joined);
    }

pub returns-clause-ok : goal.returns-clause-ok
returns-clause-ok c =
    let r = c.requires in
    attaches c.args.set c.args.closed.now (joined_places c.args.to.now) r.joined c.in-Ok.ensures.packages.0 c.in-Ok.ensures.packages.1 _ (record {
      packages = put-behind c.joined.ensures (c.reserve.ensures.same.0 ∙ c.of-lists.ensures.0) c.in-Ok.ensures.packages.2;
      interfaces = put-behind c.joined-2.ensures (c.reserve.ensures.same.1 ∙ c.of-lists.ensures.1) c.in-Ok.ensures.interfaces;
      worlds = put-behind c.joined-3.ensures (c.reserve.ensures.same.2 ∙ c.of-lists.ensures.2) c.in-Ok.ensures.worlds;
      definitions = put-behind c.joined-4.ensures (c.reserve.ensures.same.3 ∙ c.of-lists.ensures.3) c.in-Ok.ensures.definitions;
    }) r.room r.new r.have
