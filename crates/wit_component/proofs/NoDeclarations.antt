-- Component types without declarations.
use Rattle.std.proofs.Common.{◌≡◌, ◌==◌, List, [], ◌∷◌, map, length, refl, ap, sym, ◌∙◌, arith}
use Rattle.std.proofs.lemmas.Bool.Decides.{nat_tests}
use Rattle.std.specs.Global.{Vec}
use Rattle.ctype_format.specs.View.{type_view, decl_view, decls_of}
use Rattle.ctype_format.specs.declared.raw.RawDecl.{RawDecl}
use Rattle.ctype_format.specs.declared.raw.RawType as t
use Rattle.ctype_format.proofs.ScopedTypeViews.{view-Component}
use Rattle.wit_component.specs.FromComponent.{is_none, has_no_decls}

none-of : (ds : List RawDecl) → (length ds == 0) ≡ is_none (decls_of (map decl_view ds))
none-of [] = refl
none-of (d ∷ ds) = grind (arith, nat_tests)

pub no-decls : (decls : Vec RawDecl) → (length decls.items == 0) ≡ has_no_decls (type_view (t.Component decls))
no-decls decls = none-of decls.items ∙ sym (ap has_no_decls (view-Component decls))
