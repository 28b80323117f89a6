use Rattle.std.proofs.Common.{◌≡◌, ◌++◌, ◌∷◌, [], ◌∙◌, ◌<◌, ◌+◌, List, ℕ, All, Contains, map, take, get_or, length, ap, sym, subst, arith, refl, Bor}
use Rattle.std.proofs.lemmas.List.{get_or-map, get_or_default, length-map}
use Rattle.wit_tokens.specs.declared.wit_syntax.ast.TypeDef.{TypeDef}
use Rattle.tree_meaning.specs.Declarations.{TypeItem, named_definition}
use Rattle.tables.specs.Package.{NamedDefinition}
use Rattle.tree_meaning.specs.Resolved.{no_type, type_meaning, in_order}
use Rattle.tree_scopes.specs.Lent.{declared_type}
use Rattle.tree_scopes.specs.KnownScopes.{scope_name, scope_names}
use Rattle.tree_meaning.specs.Building.{ordered_names}
use Rattle.package_form.proofs.AllAndContains.{map-more}
use Rattle.tree_scopes.specs.declared.known.KnownTypes.{KnownTypes}
use Rattle.tree_rows.specs.Defining.{Grows}
use Rattle.tree_rows.proofs.OneDefinitionMore.{knows-by, order-names, grows-trans, grown_name}
use Rattle.tree_rows.proofs.define.define_types.Goals as goal

pub bounds-types-place : goal.bounds-types-place
bounds-types-place c = omega (arith, (c.requires.earlier c.loop-place.place-index (omega arith)).0, length-map c.args.types.now declared_type)

pub offset_bounds-types-place : goal.offset_bounds-types-place
offset_bounds-types-place c = omega (arith, (c.requires.earlier c.loop-place.place-index (omega arith)).0, length-map c.args.types.now declared_type)

pub define_type-requires-clause-known : goal.define_type-requires-clause-known
define_type-requires-clause-known c =
    let k = c.loop-place.place-index in
    let at = get_or c.args.order.now k 0 in
    let ts = map declared_type c.args.types.now in
    let x : Bor TypeDef = c.index-types-place.result in
    let h = c.requires.earlier k (omega arith) in
    let in_range : at < length c.args.types.now = omega (arith, h.0, length-map c.args.types.now declared_type) in
    let is : get_or ts at no_type ≡ declared_type x = get_or-map declared_type c.args.types.now at x no_type in_range ∙ ap declared_type (sym c.index-types-place.is) in
    let names = c.loop-place.invariant.names ∙ ap (λ (ns : List (List ℕ)). scope_names c.args.scope.now ++ ns) (order-names (scope_name c.args.builder.now c.args.scope.now) ts (take k c.args.order.now)) in
    knows-by c.loop-place.scope _ (scope_names c.args.scope.now ++ ordered_names ts (take k c.args.order.now)) names
    (subst (λ (t : TypeItem). All (Contains (scope_names c.args.scope.now ++ ordered_names ts (take k c.args.order.now))) (named_definition t.definition)) is h.1)

pub define_type-requires-clause-scoped : goal.define_type-requires-clause-scoped
define_type-requires-clause-scoped c = c.loop-place.invariant.scoped

pub loop-place-preserved : goal.loop-place-preserved
loop-place-preserved c =
    let old = c.args.builder.now in
    let s = c.args.scope.now in
    let name = scope_name old s in
    let k = c.loop-place.place-index in
    let at = get_or c.args.order.now k 0 in
    let ts = map declared_type c.args.types.now in
    let x : Bor TypeDef = c.index-types-place.result in
    let h = c.requires.earlier k (omega arith) in
    let in_range : at < length c.args.types.now = omega (arith, h.0, length-map c.args.types.now declared_type) in
    let is : get_or ts at no_type ≡ declared_type x = get_or-map declared_type c.args.types.now at x no_type in_range ∙ ap declared_type (sym c.index-types-place.is) in
    let defined = c.define_type.new.scope in
    let noted : KnownTypes = record { interface = defined.interface; entries = c.note_declared.new.self } in
    let same : defined ≡ noted = rw c.note_declared.ensures refl in
    let one : in_order name ts (take (k + 1) c.args.order.now) ≡ in_order name ts (take k c.args.order.now) ++ type_meaning name (declared_type x) ∷ [] =
    map-more (λ j. type_meaning name (get_or ts j no_type)) c.args.order.now k at (omega arith) (get_or_default c.args.order.now k 0 at (omega arith))
    ∙ ap (λ (t : TypeItem). in_order name ts (take k c.args.order.now) ++ type_meaning name t ∷ []) is in
    let step = subst (λ (n : List ℕ). Grows c.loop-place.builder c.loop-place.scope c.define_type.new.builder defined (type_meaning n (declared_type x) ∷ []))
    (grown_name old s c.loop-place.builder c.loop-place.scope _ c.loop-place.invariant) c.in_ok-define_type.ensures in
    let whole = grows-trans old s c.loop-place.builder c.loop-place.scope c.define_type.new.builder defined _ _ c.loop-place.invariant step in
    subst (λ (ds : List NamedDefinition). Grows old s c.define_type.new.builder noted ds) (sym one)
    (subst (λ (u : KnownTypes). Grows old s c.define_type.new.builder u (in_order name ts (take k c.args.order.now) ++ type_meaning name (declared_type x) ∷ [])) same whole)
