use Rattle.std.proofs.Common.{◌≡◌, ◌++◌, List, ℕ, All, Contains, Bor, map, ap, sym, subst, refl}
use Rattle.wit_tokens.specs.declared.wit_syntax.ast.TypeDef.{TypeDef}
use Rattle.wit_tokens.specs.declared.wit_syntax.ast.Func.{Func}
use Rattle.tree_meaning.specs.Declarations.{FunctionItem, used_names, names_in_function}
use Rattle.tree_scopes.specs.Lent.{used_item_of, declared_type}
use Rattle.tree_scopes.specs.Sources.{declared_tree, declared_function}
use Rattle.tree_meaning.specs.Imports.{interfaces_of}
use Rattle.tree_rows.specs.Defining.{CanUse}
use Rattle.tree_meaning.specs.Building.{NamesEarlier, ordered_names}
use Rattle.tree_scopes.specs.KnownScopes.{scope_names}
use Rattle.tree_scopes.specs.declared.declared.UsedType.{UsedType}
use Rattle.tree_scopes.specs.declared.known.KnownTypes.{KnownTypes}
use Rattle.tree_meaning.proofs.PlacedTypesNameEarlier.{placed-earlier, functions-placed}
use Rattle.tree_rows.proofs.OneDefinitionMore.{defines-interface, first_names, both_names}
use Rattle.tree_rows.proofs.define.define_interface.Goals as goal

pub define_uses-requires-clause-known : goal.define_uses-requires-clause-known
define_uses-requires-clause-known c =
    subst (λ (us : List UsedType). All (CanUse (interfaces_of c.args.plan.now.imports.now) c.args.plan.now.names.now c.args.builder.now c.args.scopes.now) (map used_item_of us)) (sym c.deref.ensures.value) c.requires.uses

pub define_types-requires-clause-earlier : goal.define_types-requires-clause-earlier
define_types-requires-clause-earlier c =
    let i = declared_tree c.args.own.now.declared.now in
    let s0 : KnownTypes = record { interface = c.args.own.now.id; entries = c.in_ok-entries.entries } in
    let names : scope_names c.define_uses.new.scope ≡ used_names i =
    first_names c.args.builder.now c.define_uses.new.builder s0 c.define_uses.new.scope _ (map used_item_of c.deref.result.now) i.uses
    (ap (map used_item_of) c.deref.ensures.value) c.in_ok-entries.ensures c.in_ok-define_uses.ensures in
    let placed = placed-earlier i c.args.own.now.types.now c.requires.placed c.requires.types in
    subst (λ (ns : List (List ℕ)). NamesEarlier ns (map declared_type c.deref-2.result.now) c.args.own.now.types.now) (sym names)
    (subst (λ (ts : List (Bor TypeDef)). NamesEarlier (used_names i) (map declared_type ts) c.args.own.now.types.now) (sym c.deref-2.ensures.value) placed)

pub define_functions-requires-clause-known : goal.define_functions-requires-clause-known
define_functions-requires-clause-known c =
    let i = declared_tree c.args.own.now.declared.now in
    let s0 : KnownTypes = record { interface = c.args.own.now.id; entries = c.in_ok-entries.entries } in
    let names : scope_names c.define_uses.new.scope ≡ used_names i =
    first_names c.args.builder.now c.define_uses.new.builder s0 c.define_uses.new.scope _ (map used_item_of c.deref.result.now) i.uses
    (ap (map used_item_of) c.deref.ensures.value) c.in_ok-entries.ensures c.in_ok-define_uses.ensures in
    let all : scope_names c.define_types.new.scope ≡ used_names i ++ ordered_names i.types c.args.own.now.types.now =
    both_names c.define_uses.new.builder c.define_types.new.builder c.define_uses.new.scope c.define_types.new.scope _ (used_names i) (map declared_type c.deref-2.result.now) i.types c.args.own.now.types.now
    (ap (map declared_type) c.deref-2.ensures.value) names c.in_ok-define_types.ensures in
    let placed = functions-placed i c.args.own.now.types.now c.requires.placed c.requires.functions in
    subst (λ (ns : List (List ℕ)). All (λ (f : FunctionItem). All (Contains ns) (names_in_function f.function)) (map declared_function c.deref-3.result.now)) (sym all)
    (subst (λ (fs : List (Bor Func)). All (λ (f : FunctionItem). All (Contains (used_names i ++ ordered_names i.types c.args.own.now.types.now)) (names_in_function f.function)) (map declared_function fs)) (sym c.deref-3.ensures.value) placed)

pub returns : goal.returns
returns c =
    let i = declared_tree c.args.own.now.declared.now in
    let s0 : KnownTypes = record { interface = c.args.own.now.id; entries = c.in_ok-entries.entries } in
    defines-interface c.args.builder.now c.define_uses.new.builder c.define_types.new.builder c.define_functions.new.builder s0 c.define_uses.new.scope c.define_types.new.scope
    c.args.own.now.id i c.args.own.now.types.now (map used_item_of c.deref.result.now) (map declared_type c.deref-2.result.now) (map declared_function c.deref-3.result.now)
    (ap (map used_item_of) c.deref.ensures.value) (ap (map declared_type) c.deref-2.ensures.value) (ap (map declared_function) c.deref-3.ensures.value)
    refl c.in_ok-entries.ensures c.requires.named c.in_ok-define_uses.ensures c.in_ok-define_types.ensures c.in_ok-define_functions.ensures
