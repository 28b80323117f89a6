use Rattle.std.proofs.Common.{◌≡◌, ◌∙◌, ℕ, [], true, List, map, replicate, ap, subst}
use Rattle.wit_tokens.specs.View.{item_view, file_view}
use Rattle.wit_tokens.specs.declared.wit_syntax.ast.Item.{Item}
use Rattle.tree_meaning.proofs.PackageOfAFile.{ok-map}
use Rattle.package_adding.specs.Named.{NamesInterface, file_entry_names, any_names}
use Rattle.package_adding.proofs.NamesAskedOfSets.{nothing-asked}
use Rattle.package_adding.specs.Asked.{nothing, also, AreAsked}
use Rattle.package_adding.proofs.MarksOfNamesAreOne.{also-marks}
use Rattle.package_adding.proofs.TestsTellFileNames.{file-names}
use Rattle.package_adding.proofs.named.named_by_paths.Goals as goal

pub returns : goal.returns
returns c =
    let f = file_view c.args.ast.now in
    let set = c.args.set.now in
    let test = any_names file_entry_names f.entries in
    let none = nothing-asked set c.in_ok-asked.asked (c.in_ok-asked.ensures ∙ ap (λ (n : ℕ). replicate n []) c.len.ensures) in
    let asks = subst (λ (is : List Item). AreAsked set (also nothing (any_names file_entry_names (map item_view is))) c.ask_entries.new.asked) c.deref.ensures.value (c.in_ok-ask_entries.ensures nothing none) in
    ok-map c.of.result _ _
    (λ n h. also-marks (λ q i. also nothing test q i ≡ true) (NamesInterface f) (file-names f) set n.packages.items n.interfaces.items (h (also nothing test) asks))
    c.of.ensures
