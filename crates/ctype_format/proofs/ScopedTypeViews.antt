-- What a type with declarations is seen as.
use Rattle.std.proofs.Common.{◌≡◌, List, map, refl, ap, ◌∙◌}
use Rattle.std.specs.Global.{Vec}
use Rattle.ctype_format.specs.Raw.{Component, Instance, then}
use Rattle.ctype_format.specs.View.{type_view, decl_view, row_view, decls_of}
use Rattle.ctype_format.specs.declared.raw.RawDecl.{RawDecl}
use Rattle.ctype_format.specs.declared.raw.RawType.{RawType}
use Rattle.ctype_format.specs.declared.raw.RawType as t

row_is : (n : _) (row : t.Row_of-RawDecl n) → row_view row ≡ decls_of (map decl_view (t.items-the_row-RawDecl n row))
unfolding row_view
row_is n t.end_of-RawDecl = refl
row_is n (t.more_of-RawDecl first rest) = ap (then (decl_view first)) (row_is _ rest)

abbrev row_of : RawType → (n : _) × t.Row_of-RawDecl n
row_of (t.Component' _ row) = (_, row)
row_of (t.Instance' _ row) = (_, row)
row_of _ = (_, t.end_of-RawDecl)

pub view-Component : (decls : Vec RawDecl) → type_view (t.Component decls) ≡ Component (decls_of (map decl_view decls.items))
unfolding type_view
view-Component decls =
    let row = row_of (t.Component decls) in
    ap Component (row_is row.0 row.1 ∙ ap (λ (ds : List RawDecl). decls_of (map decl_view ds)) (t.items_hidden-the_row-RawDecl-0 decls))

pub view-Instance : (decls : Vec RawDecl) → type_view (t.Instance decls) ≡ Instance (decls_of (map decl_view decls.items))
unfolding type_view
view-Instance decls =
    let row = row_of (t.Instance decls) in
    ap Instance (row_is row.0 row.1 ∙ ap (λ (ds : List RawDecl). decls_of (map decl_view ds)) (t.items_hidden-the_row-RawDecl-0 decls))

pub ruleset views = (view-Component, view-Instance)
