use Rattle.std.proofs.Common.{◌≡◌, ◌++◌, map, take}
use Rattle.package_form.specs.Scope.{lowered_name}
use Rattle.package_names.proofs.scope.LentTable.insert_all.Given as goal

abbrev pub invariant-loop-name : goal.invariant-loop-name
invariant-loop-name l = l.self ≡ l.initial.self ++ map lowered_name (take l.name-index l.names)
