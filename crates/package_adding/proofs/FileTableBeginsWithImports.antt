-- The closed table of a file begins with its imports.
use Rattle.std.proofs.Common.{ap, length, sym}
use Rattle.package_form.proofs.AllAndContains.{contains-unmap}
use Rattle.package_sets.specs.Follows.{BeginsWith}
use Rattle.tree_meaning.specs.Declarations.{package_named}
use Rattle.tree_meaning.specs.Resolves.{in_package, IsClosedPackageOf}
use Rattle.tables.specs.declared.tables.Interface.{Interface}
use Rattle.tables.specs.declared.tables.Resolve.{Resolve}
use Rattle.wit_tokens.specs.Syntax.{File}

pub begins-with : (t : Resolve) (f : File) (closed : Resolve) → IsClosedPackageOf t f closed → BeginsWith t closed
begins-with t f closed r = record {
  own = package_named f;
  interfaces = _;
  rows = r.rows.0;
  packages_are = r.packages;
  interfaces_are = r.own.1;
  rows_are = r.rows.1;
  of_last = λ i c. let x = contains-unmap (in_package (length t.packages)) _ i c in sym (ap (λ (z : Interface). z.«package».0) x.2);
}
