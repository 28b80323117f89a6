use Rattle.std.proofs.Common.{◌≡◌, IsTrue, drop, length}
use Rattle.package_form.specs.Ends.{are_worlds_parted}
use Rattle.package_form.specs.Form.{have_items}
use Rattle.package_form.proofs.form.have_items.Given as goal

abbrev pub invariant-loop-place : goal.invariant-loop-place
invariant-loop-place l = record {
  parted : IsTrue (are_worlds_parted (length l.rows) l.start (drop l.place l.worlds));
  same : have_items l.rows l.place l.start (drop l.place l.worlds) ≡ have_items l.rows 0 l.first l.worlds;
}
