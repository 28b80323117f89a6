use Rattle.std.proofs.Common.{◌≡◌, IsTrue, drop, length}
use Rattle.package_form.specs.Ends.{is_parted}
use Rattle.package_form.specs.Form.{are_interfaces}
use Rattle.package_form.proofs.form.are_interfaces.Given as goal

abbrev pub invariant-loop-place : goal.invariant-loop-place
invariant-loop-place l = record {
  parted : IsTrue (is_parted (length l.rows) l.start (drop l.place l.interfaces) l.worlds);
  same : are_interfaces l.rows l.place l.start (drop l.place l.interfaces) ≡ are_interfaces l.rows 0 0 l.interfaces;
}
