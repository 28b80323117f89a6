use Rattle.std.proofs.Common.{ap, ◌∙◌, map}
use Rattle.ctype_format.specs.View.{decl_view}
use Rattle.wit_component.proofs.PartsInTurn.{same-front}
use Rattle.wit_component.proofs.comparison.behind.Goals as goal

pub returns-else-are_same_decls-clause-none : goal.returns-else-are_same_decls-clause-none
returns-else-are_same_decls-clause-none c = λ rest e.
    let front = ap (map decl_view) c.split_at.ensures.front ∙ same-front decl_view c.args.decls.now c.args.front.now rest e in
    let test = c.are_same_decls.ensures.1 front in
    let other = c.if-are_same_decls.false in
    absurd (cc)
