use Rattle.package_text.proofs.TableRows.FormOfSingleRows.{form-told}
use Rattle.package_text.proofs.file.print.Goals as goal

pub tree-requires : goal.tree-requires
tree-requires c = form-told c.args.resolve.now c.requires
