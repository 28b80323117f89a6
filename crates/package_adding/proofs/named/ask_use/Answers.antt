use Rattle.std.proofs.Common.{◌≡◌, ◌==◌, not, true, length, map, arith}
use Rattle.std.proofs.lemmas.Bool.Decides.{nat_tests}
use Rattle.std.proofs.lemmas.List.{length-map}
use Rattle.wit_tokens.specs.View.{path_view, used_view}
use Rattle.package_adding.specs.Named.{path_names}
use Rattle.package_adding.proofs.NamesAskedOfSets.{asked-then, on-map}
use Rattle.package_adding.proofs.named.ask_use.Goals as goal

pub returns-else-is_empty : goal.returns-else-is_empty
returns-else-is_empty c = on-map c.ask_path.result _ _ (λ h names asks.
    let us = c.args.used.now.names.items in
    let some : not (length (map used_view us) == 0) ≡ true = grind (arith, nat_tests, length-map us used_view, c.is_empty.ensures, c.if-is_empty.false) in
    asked-then c.args.set.now names (path_names (path_view c.args.used.now.interface)) (not (length (map used_view us) == 0)) c.ask_path.new.asked some (h names asks))
    c.ask_path.ensures
