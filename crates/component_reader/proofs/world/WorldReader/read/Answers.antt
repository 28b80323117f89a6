use Rattle.std.proofs.Common.{map, ap, sym, ◌∙◌}
use Rattle.std.proofs.lemmas.Result.{err_from_is_err_and}
use Rattle.ctype_format.specs.Raw.{Decls}
use Rattle.ctype_format.specs.View.{decl_view, decls_of}
use Rattle.component_reader.specs.World.{items_read}
use Rattle.component_reader.specs.Readers.{world_with}
use Rattle.component_reader.proofs.DeclarationsReadInOrder.{found-first, none-first, next-decl, no-decl}
use Rattle.component_reader.proofs.world.WorldReader.read.Goals as goal

pub loop-decl-init : goal.loop-decl-init
loop-decl-init c =
    ap (items_read c.args.instances.now c.args.world.0 (decls_of (map decl_view c.args.decls.now))) (c.new-reader.ensures c.args.rows.now.items)

pub loop-decl-preserved : goal.loop-decl-preserved
loop-decl-preserved c =
    let read = items_read c.args.instances.now c.args.world.0 in
    let s = world_with c.loop-decl.rows.items c.loop-decl.reader in
    let next = next-decl c.args.decls.now c.loop-decl.decl-index c.decl-item.result c.loop-decl-test.true c.decl-item.is in
    found-first _ _ _ _ (sym (ap (λ (ds : Decls). read ds s) next) ∙ c.loop-decl.invariant) c.in_ok-read_decl.ensures

pub returns-in_err-read_decl : goal.returns-in_err-read_decl
returns-in_err-read_decl c =
    let p = err_from_is_err_and c.from_residual.result c.from_residual.ensures.1 in
    let read = items_read c.args.instances.now c.args.world.0 in
    let s = world_with c.loop-decl.rows.items c.loop-decl.reader in
    let next = next-decl c.args.decls.now c.loop-decl.decl-index c.decl-item.result c.loop-decl-test.true c.decl-item.is in
    rw (p.1, p.2) (none-first _ _ _ c.in_err-read_decl.field-0.0 (sym (ap (λ (ds : Decls). read ds s) next) ∙ c.loop-decl.invariant) c.in_err-read_decl.ensures)

pub returns : goal.returns
returns c =
    let read = items_read c.args.instances.now c.args.world.0 in
    let s = world_with c.loop-decl.rows.items c.loop-decl.reader in
    sym c.loop-decl.invariant ∙ ap (λ (ds : Decls). read ds s) (no-decl c.args.decls.now c.loop-decl.decl-index c.loop-decl-test.false)
