use Rattle.std.proofs.Common.{◌≡◌, ◌≤◌, ◌+◌, ◌-◌, ◌*◌, map}
use Rattle.atoms.specs.Production.{run}
use Rattle.ctype_format.specs.Grammar.{decl, type, IsScopeWithin, new_scope}
use Rattle.ctype_format.specs.View.{decl_view}
use Rattle.ctype_bin.proofs.ReadsExactly.ItemLoopsWithState.{with_front}
use Rattle.ctype_bin.proofs.types.Nesting.+types.Given as goal

abbrev pub decreases-decl_of : goal.decreases-decl_of
decreases-decl_of l = 4 * l.self.now.depth + 1

abbrev pub decreases-decls_of : goal.decreases-decls_of
decreases-decls_of l = 4 * l.self.now.depth + 2

abbrev pub decreases-scope_of : goal.decreases-scope_of
decreases-scope_of l = 4 * l.self.now.depth + 3

abbrev pub decreases-type_of : goal.decreases-type_of
decreases-type_of l = 4 * l.self.now.depth

abbrev pub invariant-decls_of-loop : goal.invariant-decls_of-loop
invariant-decls_of-loop l = record {
  within : IsScopeWithin l.scope;
  more : l.entries ≤ l.scope.entries;
  few : l.scope.instances ≤ l.counter;
  so_far : with_front (map decl_view l.decls.items) ((run (decl (type l.self.depth) l.component l.self.around.now) (l.count - l.counter) l.scope).read l.rest) ≡ (run (decl (type l.self.depth) l.component l.self.around.now) l.count (new_scope l.entries)).read l.bytes;
}
