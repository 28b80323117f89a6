use Rattle.std.proofs.Common.{List, Bool, IfOk, [], ◌≡◌, subst}
use Rattle.tables.specs.declared.tables.Definition.{Definition}
use Rattle.package_form.specs.Unused.{are_used}
use Rattle.package_form.proofs.PostfixIsDecided.{decides-postfix}
use Rattle.package_form.proofs.unused.is_postfix.Goals as goal

pub returns : goal.returns
returns c =
    decides-postfix c.args.resolve.now.definitions c.args.resolve.now.earlier c.are_used.result
    (subst (λ (rows : List Definition). IfOk c.are_used.result (λ (b : Bool). b ≡ are_used rows 0 [] rows)) c.as_slice.ensures c.are_used.ensures)
