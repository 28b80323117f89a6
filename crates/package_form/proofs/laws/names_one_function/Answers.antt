use Rattle.std.proofs.Common.{All, List, subst}
use Rattle.tables.specs.declared.tables.Interface.{Interface}
use Rattle.package_form.specs.Laws.{IsLabelled}
use Rattle.package_form.proofs.AllAndContains.{all-contained}
use Rattle.package_form.proofs.FullNamesStandForInterfaces.{labelled-interfaces}
use Rattle.package_form.proofs.NamesOneFunction.{one-function}
use Rattle.package_form.proofs.laws.names_one_function.Goals as goal

pub returns : goal.returns
returns c = λ form distinct.
    let r = c.args.resolve.now in
    let labels = subst (λ (is : List Interface). All IsLabelled is) c.as_slice.ensures c.are_labelled.ensures in
    one-function r (labelled-interfaces r distinct form.closed form.names (λ i h. all-contained IsLabelled r.interfaces i labels h)) form distinct
