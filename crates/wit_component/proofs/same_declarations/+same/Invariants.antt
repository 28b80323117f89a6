use Rattle.ctype_format.specs.View.{decl_view}
use Rattle.wit_component.proofs.SameDeclarations.{SameFrom}
use Rattle.wit_component.proofs.same_declarations.+same.Given as goal

abbrev pub invariant-are_same_decls-loop-place : goal.invariant-are_same_decls-loop-place
invariant-are_same_decls-loop-place l = SameFrom decl_view l.place l.some l.others
