use Rattle.module_worlds.proofs.embedding.Embedding.misfits.Goals as goal

pub returns : goal.returns
returns c = λ laid none.
    let same = c.in_ok-fit.ensures in
    let fits = rw (same.same_module, same.same_tables, same.same_layouts, c.as_slice-items.ensures) at c.in_ok-check_exports.ensures.fits in
    fits laid (c.in_ok-check_imports.ensures (c.in_ok-check_needs.ensures.before none))
