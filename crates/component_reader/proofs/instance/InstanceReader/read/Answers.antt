use Rattle.std.proofs.Common.{◌≡◌, map, Option, Some, refl, ap, sym, ◌∙◌}
use Rattle.std.proofs.lemmas.Result.{err_from_is_err_and}
use Rattle.ctype_format.specs.Raw.{Decls}
use Rattle.ctype_format.specs.View.{decl_view, decls_of}
use Rattle.component_reader.specs.Instance.{InstanceRead, nothing_read, if_found, settled, decls_read}
use Rattle.component_reader.specs.Readers.{read_with}
use Rattle.component_reader.proofs.DeclarationsReadInOrder.{found-first, none-first, unread-behind, next-decl, no-decl}
use Rattle.component_reader.proofs.instance.InstanceReader.read.Goals as goal

pub loop-decl-init : goal.loop-decl-init
loop-decl-init c =
    rw c.reserve.ensures.items (ap (decls_read c.args.around.now c.args.place.0 (decls_of (map decl_view c.args.decls.now))) (c.new-reader.ensures c.args.rows.now.items))

pub loop-decl-preserved : goal.loop-decl-preserved
loop-decl-preserved c =
    let read = decls_read c.args.around.now c.args.place.0 in
    let s = read_with c.loop-decl.rows.items c.loop-decl.reader in
    let next = next-decl c.args.decls.now c.loop-decl.decl-index c.decl-item.result c.loop-decl-test.true c.decl-item.is in
    found-first _ _ _ _ (sym (ap (λ (ds : Decls). read ds s) next) ∙ c.loop-decl.invariant) c.in_ok-read_decl.ensures

pub returns-in_err-read_decl : goal.returns-in_err-read_decl
returns-in_err-read_decl c =
    let p = err_from_is_err_and c.from_residual-in_err-read_decl.result c.from_residual-in_err-read_decl.ensures.1 in
    let read = decls_read c.args.around.now c.args.place.0 in
    let s = read_with c.loop-decl.rows.items c.loop-decl.reader in
    let all = read (decls_of (map decl_view c.args.decls.now)) (nothing_read c.args.rows.now.items) in
    let next = next-decl c.args.decls.now c.loop-decl.decl-index c.decl-item.result c.loop-decl-test.true c.decl-item.is in
    let none = none-first _ _ all c.in_err-read_decl.field-0.0 (sym (ap (λ (ds : Decls). read ds s) next) ∙ c.loop-decl.invariant) c.in_err-read_decl.ensures in
    rw (p.1, p.2) (none-first all settled (if_found all settled) c.in_err-read_decl.field-0.0 refl none)

pub returns-in_err-settle : goal.returns-in_err-settle
returns-in_err-settle c =
    let p = err_from_is_err_and c.from_residual-in_err-settle.result c.from_residual-in_err-settle.ensures.1 in
    let read = decls_read c.args.around.now c.args.place.0 in
    let s = read_with c.loop-decl.rows.items c.loop-decl.reader in
    let all = read (decls_of (map decl_view c.args.decls.now)) (nothing_read c.args.rows.now.items) in
    let done : all ≡ Some s = sym c.loop-decl.invariant ∙ ap (λ (ds : Decls). read ds s) (no-decl c.args.decls.now c.loop-decl.decl-index c.loop-decl-test.false) in
    rw (p.1, p.2) (unread-behind all settled s c.in_err-settle.field-0.0 done c.in_err-settle.ensures)

pub returns : goal.returns
returns c =
    let read = decls_read c.args.around.now c.args.place.0 in
    let s = read_with c.loop-decl.rows.items c.loop-decl.reader in
    let all = read (decls_of (map decl_view c.args.decls.now)) (nothing_read c.args.rows.now.items) in
    let done : all ≡ Some s = sym c.loop-decl.invariant ∙ ap (λ (ds : Decls). read ds s) (no-decl c.args.decls.now c.loop-decl.decl-index c.loop-decl-test.false) in
    ap (λ (o : Option InstanceRead). if_found o settled) done ∙ c.in_ok-settle.ensures
