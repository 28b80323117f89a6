use Rattle.std.proofs.Common.{◌<◌, ◌∙◌, ℕ, List, inl, inr, refl, ap, sym, subst, length, arith}
use Rattle.std.specs.Prelude.{Contains}
use Rattle.tree_meaning.specs.Finished.{header_name}
use Rattle.tree_meaning.specs.Imports.{import_at, interfaces_of, imports_of}
use Rattle.tree_meaning.proofs.ImportsFoundByName.{at-itself, place-is, place-none}
use Rattle.tree_scopes.specs.KnownScopes.{scope_names}
use Rattle.tree_scopes.proofs.ImportScopes.{scopes-long, scope-types}
use Rattle.tree_names.proofs.unknown.unknown_in_import.Goals as goal

pub index-requires : goal.index-requires
index-requires c =
    let r = c.args.tree.now.imports.now.table in
    let f = place-is (interfaces_of r) (header_name c.args.«package».now) c.args.interface.now c.in-Some.place (sym c.import_place.ensures ∙ c.in-Some.is) in
    omega (arith, f.below, scopes-long r c.args.tree.now.imports.now.scopes.items c.args.tree.now.imports.now.named)

pub returns-in-None-clause-some : goal.returns-in-None-clause-some
returns-in-None-clause-some c =
    inl (refl, place-none (imports_of c.args.tree.now.imports.now.table) (header_name c.args.«package».now) c.args.interface.now (sym c.import_place.ensures ∙ c.in-None.is))

pub returns-then-has-clause-none : goal.returns-then-has-clause-none
returns-then-has-clause-none c =
    let r = c.args.tree.now.imports.now.table in
    let k = c.in-Some.place in
    let f = place-is (interfaces_of r) (header_name c.args.«package».now) c.args.interface.now k (sym c.import_place.ensures ∙ c.in-Some.is) in
    let l : k < length c.args.tree.now.imports.now.scopes.items = omega (arith, f.below, scopes-long r c.args.tree.now.imports.now.scopes.items c.args.tree.now.imports.now.named) in
    let types = ap scope_names c.index.ensures ∙ scope-types r c.args.tree.now.imports.now.scopes.items c.args.tree.now.imports.now.named k _ l in
    let has = c.has.ensures.0 c.if-has.true in
    (import_at (interfaces_of r) k, at-itself (interfaces_of r) k f.below, f.of, f.named, subst (λ (ns : List (List ℕ)). Contains ns c.args.name.now) types has)

pub returns-else-has-clause-some : goal.returns-else-has-clause-some
returns-else-has-clause-some c =
    let r = c.args.tree.now.imports.now.table in
    let k = c.in-Some.place in
    let f = place-is (interfaces_of r) (header_name c.args.«package».now) c.args.interface.now k (sym c.import_place.ensures ∙ c.in-Some.is) in
    let l : k < length c.args.tree.now.imports.now.scopes.items = omega (arith, f.below, scopes-long r c.args.tree.now.imports.now.scopes.items c.args.tree.now.imports.now.named) in
    let types = ap scope_names c.index.ensures ∙ scope-types r c.args.tree.now.imports.now.scopes.items c.args.tree.now.imports.now.named k _ l in
    inr (
      refl,
      (
        import_at (interfaces_of r) k,
        at-itself (interfaces_of r) k f.below,
        f.of,
        f.named,
        λ has.
            let t = c.has.ensures.1 (subst (λ (ns : List (List ℕ)). Contains ns c.args.name.now) (sym types) has) in
            absurd (cc (t, c.if-has.false)),
      ),
    )
