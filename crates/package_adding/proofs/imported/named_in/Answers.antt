use Rattle.std.proofs.Common.{◌≡◌, ◌∙◌, ℕ, [], Bool, true, List, replicate, ap, subst}
use Rattle.tree_meaning.proofs.PackageOfAFile.{ok-map}
use Rattle.package_sets.specs.Joining.{imports}
use Rattle.package_adding.specs.ImportNames.{marked_names}
use Rattle.package_adding.proofs.NamesAskedOfSets.{nothing-asked}
use Rattle.package_sets.specs.NamedIn.{NamesIn}
use Rattle.package_adding.specs.Asked.{nothing, also, AreAsked}
use Rattle.package_adding.proofs.OwnPartNamesOfSet.{imports-tell}
use Rattle.package_adding.proofs.MarksOfNamesAreOne.{also-marks}
use Rattle.package_adding.proofs.imported.named_in.Goals as goal

pub returns : goal.returns
returns c =
    let closed = c.args.closed.now in
    let set = c.args.set.now in
    let reached = c.in_ok-reached.reached.items in
    let test = marked_names closed reached (imports closed) in
    let none = nothing-asked set c.in_ok-asked.asked (c.in_ok-asked.ensures ∙ ap (λ (n : ℕ). replicate n []) c.len.ensures) in
    let asks = subst (λ (bs : List Bool). AreAsked set (also nothing (marked_names closed bs (imports closed))) c.ask_imports.new.asked) c.deref.ensures.value (c.in_ok-ask_imports.ensures nothing none) in
    ok-map c.of.result _ _
    (λ n h. also-marks (λ q i. also nothing test q i ≡ true) (NamesIn closed) (imports-tell closed reached c.in_ok-reached.ensures) set n.packages.items n.interfaces.items (h (also nothing test) asks))
    c.of.ensures
