use Rattle.wit_tokens.specs.View.{ty_view}
use Rattle.package_text.proofs.WrittenTrees.ReferencesToRows.{alias-written}
use Rattle.package_text.proofs.definition.alias.Goals as goal

pub returns : goal.returns
returns c = alias-written c.args.resolve.now c.requires.form c.args.place c.args.target c.requires.earlier (ty_view c.in_ok-ty.ty) c.in_ok-ty.ensures
