use Rattle.std.proofs.Common.{◌≡◌, ◌≤◌, map, take, length}
use Rattle.ctype_format.specs.View.{decl_view}
use Rattle.wit_component.specs.Component.{aliases_of}
use Rattle.wit_component.proofs.interfaces.aliases_of.Given as goal

abbrev pub invariant-loop-row : goal.invariant-loop-row
invariant-loop-row l = record {
  aliases : map decl_view l.decls.items ≡ aliases_of l.rows (take l.row-index l.of);
  few : length l.decls.items ≤ l.row-index;
}
