-- A component of one component type and one export.
use Rattle.std.proofs.Common.{◌≡◌, ◌≤◌, ◌<◌, List, [], ◌∷◌, map, length, get_or, Result, Ok, Err, IfOk, ap, sym, ◌∙◌, arith}
use Rattle.std.specs.Prelude.{Decides}
use Rattle.std.specs.Global.{Vec}
use Rattle.std.proofs.lemmas.Bool.Decides.{Decides-like}
use Rattle.ctype_format.specs.Raw.{Component, Decls, TypeEntry, Exported, BinaryFile}
use Rattle.ctype_format.specs.Names.{name_view}
use Rattle.ctype_format.specs.View.{type_view, decl_view, decls_of, export_view}
use Rattle.ctype_format.specs.declared.raw.RawDecl.{RawDecl}
use Rattle.ctype_format.specs.declared.raw.RawExport.{RawExport}
use Rattle.ctype_format.specs.declared.raw.RawType as t
use Rattle.ctype_format.specs.declared.raw.RawType.{RawType}
use Rattle.ctype_format.proofs.ScopedTypeViews.{view-Component}
use Rattle.ctype_bin.specs.FileView.{raw_component_view}
use Rattle.ctype_bin.specs.declared.component.RawComponent.{RawComponent}
use Rattle.tables.specs.declared.tables.Resolve.{Resolve}
use Rattle.wit_component.specs.Component.{component_of, package_declarations, package_export}
use Rattle.wit_component.proofs.SameDeclarations.{same-list, of-component}

pub if-ok-like : {A E : Type 0} {P Q : A → Type 0} (o : Result A E) → ((x : A) → P x → Q x) → IfOk o P → IfOk o Q
if-ok-like (Ok x) f h = f x h
if-ok-like (Err e) f h = tt

one-item : {A : Type 0} (xs : List A) (x : A) → 1 ≤ length xs → length xs < 2 → x ≡ get_or xs 0 x → xs ≡ x ∷ []
one-item [] x least most is = absurd (omega (arith, least))
one-item (y ∷ []) x least most is = ap (λ z. z ∷ []) (sym is)
one-item (y ∷ z ∷ xs) x least most is = absurd (omega (arith, most))

module _ (raw : RawComponent) (r : Resolve) (ts : List RawType) (es : List RawExport) (ty : RawType) (export own : RawExport) (decls : Vec RawDecl) (ds : List RawDecl)
    (types : ts ≡ raw.types.items) (t-least : 1 ≤ length ts) (t-most : length ts < 2) (t-is : ty ≡ get_or ts 0 ty) (component : ty ≡ t.Component decls) (items : ds ≡ decls.items)
    (exports : es ≡ raw.exports.items) (e-least : 1 ≤ length es) (e-most : length es < 2) (e-is : export ≡ get_or es 0 export)
    (of-own : export_view own ≡ record { name = package_export; type = 0 }) (name : name_view export.name ≡ name_view own.name) (index : export.ty ≡ own.ty) where
  types-are : map type_view raw.types.items ≡ Component (decls_of (map decl_view ds)) ∷ []
  types-are =
      ap (map type_view) (sym types ∙ one-item ts ty t-least t-most t-is) ∙ ap (λ (x : RawType). type_view x ∷ []) component ∙ ap (λ (x : TypeEntry). x ∷ []) (view-Component decls)
      ∙ ap (λ (xs : List RawDecl). Component (decls_of (map decl_view xs)) ∷ []) (sym items)

  exported : export_view export ≡ record { name = package_export; type = 0 }
  exported = (λ j. record { name = name j; type = index j }) ∙ of-own

  exports-are : map export_view raw.exports.items ≡ record { name = package_export; type = 0 } ∷ []
  exports-are = ap (map export_view) (sym exports ∙ one-item es export e-least e-most e-is) ∙ ap (λ (x : Exported). x ∷ []) exported

  seen : raw_component_view raw ≡ record { types = Component (decls_of (map decl_view ds)) ∷ []; exports = record { name = package_export; type = 0 } ∷ [] }
  seen = λ j. record { types = types-are j; exports = exports-are j }

  first-type : (x y : Decls) (xs ys : List TypeEntry) → Component x ∷ xs ≡ Component y ∷ ys → x ≡ y
  first-type x y xs ys e = let head : Component x ≡ Component y = cc in of-component x y head

  pub is-component : (s : _) → Decides s (map decl_view ds ≡ package_declarations r) → Decides s (raw_component_view raw ≡ component_of r)
  is-component s =
      Decides-like s
      (λ e. seen ∙ (λ j. record { types = Component (decls_of (e j)) ∷ []; exports = record { name = package_export; type = 0 } ∷ [] }))
      (λ e. same-list _ _ (first-type _ _ _ _ (ap (λ (f : BinaryFile). f.types) (sym seen ∙ e))))
