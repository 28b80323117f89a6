use Rattle.std.proofs.Common.{◌≡◌, ◌≤◌, ◌+◌, ◌*◌, ◌++◌, IsTrue, map, take}
use Rattle.std.specs.List.{list_all}
use Rattle.ctype_format.specs.View.{decl_view}
use Rattle.wit_component.specs.Rows.{declarations_of, places_after}
use Rattle.wit_component.specs.ToComponent.{is_labelled}
use Rattle.wit_component.proofs.rows.RowPlace.push_rows.Given as goal

abbrev pub invariant-loop-row : goal.invariant-loop-row
invariant-loop-row l = record {
  declarations : map decl_view l.decls.items ≡ map decl_view l.initial.decls.items ++ declarations_of l.initial.self (take l.row-index l.rows);
  place : l.self ≡ places_after l.initial.self (take l.row-index l.rows);
  types : l.self.types ≤ l.initial.self.types + 2 * l.row-index;
  used : l.self.used ≡ l.initial.self.used + l.row-index;
  labelled : IsTrue (list_all is_labelled (take l.row-index l.rows));
}
