use Rattle.std.proofs.Common.{◌≡◌, drop}
use Rattle.std.specs.List.{list_all}
use Rattle.package_form.specs.Form.{is_world_row}
use Rattle.package_form.proofs.form.are_world_rows.Given as goal

abbrev pub invariant-loop-row : goal.invariant-loop-row
invariant-loop-row l = list_all (is_world_row l.rows l.place) (drop l.row-index l.own) ≡ list_all (is_world_row l.rows l.place) l.own
