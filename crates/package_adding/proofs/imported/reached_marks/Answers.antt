use Rattle.std.proofs.Common.{◌≡◌, ◌++◌, ◌∙◌, ℕ, List, false, [], flat_map, length, replicate, ap, sym, subst}
use Rattle.package_form.specs.Marks.{AreMarked}
use Rattle.package_form.specs.Reached.{reached_by_row, reached_by_world}
use Rattle.tables.specs.declared.tables.Definition.{Definition}
use Rattle.tables.specs.declared.tables.World.{World}
use Rattle.package_sets.specs.NamedIn.{own_rows}
use Rattle.package_adding.proofs.OwnPartNamesOfSet.{none-marked}
use Rattle.package_adding.proofs.imported.reached_marks.Goals as goal

pub returns : goal.returns
returns c =
    let r = c.args.closed.now in
    let n = length r.interfaces in
    let none : c.in_ok-marks.marks.items ≡ replicate c.len.result false = c.in_ok-marks.ensures.items_if_clones_equal (λ y e. e) in
    let first = c.mark_uses.ensures n [] (subst (AreMarked n []) (sym (none ∙ ap (λ (k : ℕ). replicate k false) c.len.ensures)) (none-marked n)) in
    let table = subst (λ (ds : List Definition). AreMarked n (flat_map (reached_by_row ds) c.own_rows.result.now) c.mark_uses.new.marks.items) c.as_slice.ensures first in
    let rows : List ℕ = flat_map (reached_by_row r.definitions) (own_rows r) in
    let own = subst (λ (ds : List Definition). AreMarked n (flat_map (reached_by_row r.definitions) ds) c.mark_uses.new.marks.items) c.own_rows.ensures table in
    subst (λ (ws : List World). AreMarked n (rows ++ flat_map reached_by_world ws) c.mark_worlds.new.marks.items) c.as_slice-2.ensures (c.mark_worlds.ensures n rows own)
