use Rattle.std.proofs.Common.{sym, subst}
use Rattle.ctype_format.specs.View.{decl_view, type_view}
use Rattle.ctype_format.specs.declared.raw.RawDecl.{RawDecl}
use Rattle.component_reader.specs.Types.{Becomes}
use Rattle.component_reader.specs.Instance.{use_read, defined_read, decl_read}
use Rattle.component_reader.specs.Readers.{read_with}
use Rattle.component_reader.proofs.DeclarationsReadInOrder.{becomes-behind}
use Rattle.component_reader.proofs.instance.InstanceReader.read_decl.Goals as goal

pub returns-in_ok-settle-in-Alias : goal.returns-in_ok-settle-in-Alias
unfolding decl_view
returns-in_ok-settle-in-Alias c =
    let s = read_with c.args.rows.now.items c.args.self.now in
    let new = read_with c.settle.new.rows.items c.alias.new.self in
    subst (λ (d : RawDecl). Becomes (decl_read c.args.around.now c.args.place.0 (decl_view d) s) new c.alias.result) (sym c.in-Alias.is)
    (becomes-behind _ (use_read c.args.around.now c.in-Alias.alias) (read_with c.settle.new.rows.items c.settle.new.self) new c.alias.result
    c.in_ok-settle-in-Alias.ensures (c.alias.ensures c.settle.new.rows.items))

pub returns-in_ok-settle-in-Type : goal.returns-in_ok-settle-in-Type
unfolding decl_view
returns-in_ok-settle-in-Type c =
    let s = read_with c.args.rows.now.items c.args.self.now in
    let rows = c.settle-in-Type.new.rows.items in
    let new = read_with rows c.define.new.self in
    subst (λ (d : RawDecl). Becomes (decl_read c.args.around.now c.args.place.0 (decl_view d) s) new c.define.result) (sym c.in-Type.is)
    (becomes-behind _ (defined_read (type_view c.in-Type.ty)) (read_with rows c.settle-in-Type.new.self) new c.define.result
    c.in_ok-settle-in-Type.ensures (c.define.ensures rows))
