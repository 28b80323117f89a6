use Rattle.std.proofs.Common.{◌∙◌, ap, List, ℕ, map}
use Rattle.package_names.specs.Asked.{is_asked_of}
use Rattle.package_adding.proofs.NamesAskedOfSets.{marks-told}
use Rattle.package_adding.proofs.marking.Named.of.Goals as goal

pub returns : goal.returns
returns c = λ names asks.
    let set = c.args.set.now in
    marks-told set names c.args.asked c.in_ok-packages.packages.items c.in_ok-interfaces.interfaces.items asks c.in_ok-packages.ensures
    (c.in_ok-interfaces.ensures ∙ ap (λ (a : List (List (List ℕ))). map (is_asked_of a) set.interfaces) c.in_ok-asked.ensures)
