use Rattle.std.proofs.Common.{All}
use Rattle.std.specs.Prelude.{IsTrue}
use Rattle.wit_names.specs.Sites.{is_site}
use Rattle.wit_targets.specs.Meaning.{is_spelled}
use Rattle.wit_targets.proofs.targets.uses_of.Given as goal

abbrev pub invariant-loop-reference : goal.invariant-loop-reference
invariant-loop-reference l = record {
  sites : All (λ u. IsTrue (is_site l.scopes.files.now u.site)) l.uses.items;
  spelled : All (λ u. IsTrue (is_spelled l.scopes.files.now l.scopes.found.declarations.items u.site u.target)) l.uses.items;
}
