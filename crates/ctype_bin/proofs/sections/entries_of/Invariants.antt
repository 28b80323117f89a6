use Rattle.std.proofs.Common.{◌≡◌, ◌-◌, map}
use Rattle.atoms.specs.Production.{run}
use Rattle.ctype_format.specs.Grammar.{IsScopeWithin, new_scope}
use Rattle.ctype_format.specs.File.{entry_of_type}
use Rattle.ctype_format.specs.View.{type_view}
use Rattle.ctype_bin.proofs.ReadsExactly.ItemLoopsWithState.{with_front}
use Rattle.ctype_bin.proofs.sections.entries_of.Given as goal

abbrev pub invariant-loop : goal.invariant-loop
invariant-loop l = record {
  within : IsScopeWithin l.scope;
  so_far : with_front (map type_view l.types.items) ((run entry_of_type (l.count - l.counter) l.scope).read l.rest) ≡ (run entry_of_type l.count (new_scope 0)).read l.bytes;
}
