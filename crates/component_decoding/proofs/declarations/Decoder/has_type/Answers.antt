use Rattle.std.proofs.Common.{◌≡◌, Some, None, List, refl, ap, sym, ◌∙◌}
use Rattle.std.specs.Prelude.{slice_get}
use Rattle.std.specs.Ordering.{is_eq, nat_cmp}
use Rattle.std.specs.Cmp.Lexicographic.{slice_cmp}
use Rattle.std.specs.String.{string_bytes}
use Rattle.std.proofs.lemmas.Option.{slice_get_read, slice_get_past}
use Rattle.component_structure.specs.declared.structure.Instance.{Instance}
use Rattle.component_structure.specs.declared.structure.Scope.{Scope}
use Rattle.component_structure.specs.Parts.{instance_view, scope_view}
use Rattle.component_structure.proofs.Kept.{get_mapped, found_mapped}
use Rattle.component_decoding.proofs.declarations.Decoder.has_type.Goals as goal

pub returns-in-Some-get : goal.returns-in-Some-get
returns-in-Some-get c =
    let all = c.args.self.now.structure in
    let i = c.args.instance.0 in
    let found = c.in-Some.instance.now in
    let scope = c.in-Some-get.scope.now in
    let at = c.in-Some.ensures.lookup in
    let within = c.in-Some-get.ensures.lookup in
    let first : slice_get all.instances.items i ≡ Some found = ap (λ (ms : List Instance). slice_get ms i) (sym c.as_slice.ensures.value) ∙ slice_get_read c.as_slice.result.now _ i found refl at.3.0 at.1 in
    let second : slice_get all.scopes.items found.scope.0 ≡ Some scope = ap (λ (ms : List Scope). slice_get ms found.scope.0) (sym c.as_slice-2.ensures.value) ∙ slice_get_read c.as_slice-2.result.now _ found.scope.0 scope refl within.3.0 within.1 in
    rw (get_mapped instance_view all.instances.items i, first, get_mapped scope_view all.scopes.items found.scope.0, second, found_mapped (λ t. string_bytes t) (λ key. is_eq (slice_cmp nat_cmp c.args.name.now key)) scope.exported_types.entries) c.contains_key.ensures

pub returns-in-None : goal.returns-in-None
returns-in-None c =
    let all = c.args.self.now.structure in
    let i = c.args.instance.0 in
    let found = c.in-Some.instance.now in
    let at = c.in-Some.ensures.lookup in
    let first : slice_get all.instances.items i ≡ Some found = ap (λ (ms : List Instance). slice_get ms i) (sym c.as_slice.ensures.value) ∙ slice_get_read c.as_slice.result.now _ i found refl at.3.0 at.1 in
    let second : slice_get all.scopes.items found.scope.0 ≡ None = ap (λ (ms : List Scope). slice_get ms found.scope.0) (sym c.as_slice-2.ensures.value) ∙ slice_get_past c.as_slice-2.result.now found.scope.0 c.in-None.ensures.lookup.3 in
    rw (get_mapped instance_view all.instances.items i, first, get_mapped scope_view all.scopes.items found.scope.0, second) refl
