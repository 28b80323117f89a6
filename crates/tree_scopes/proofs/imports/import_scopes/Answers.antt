use Rattle.std.proofs.Common.{◌≡◌, ◌<◌, ◌∙◌, ℕ, List, length, get_or, map, ap, sym, arith}
use Rattle.std.proofs.lemmas.List.{take_all}
use Rattle.tables.specs.declared.tables.Definition.{Definition}
use Rattle.tables.specs.declared.tables.Interface.{Interface}
use Rattle.tables.specs.declared.tables.InterfaceId.{InterfaceId}
use Rattle.tree_meaning.specs.Imports.{Import, types_within, interfaces_of}
use Rattle.tree_scopes.specs.KnownScopes.{scope_names}
use Rattle.tree_meaning.proofs.ImportsFoundByName.{imports-length}
use Rattle.tree_scopes.proofs.ImportScopes.{scopes-more}
use Rattle.tree_scopes.proofs.imports.import_scopes.Goals as goal

pub loop-place-preserved : goal.loop-place-preserved
loop-place-preserved c =
    let r = c.args.imports.now in
    let k = c.loop-place.place in
    let i = c.interface-item.result in
    let s = c.in_ok-import_scope.field-0 in
    let same = c.as_slice-interface-items.ensures in
    let l : k < length r.interfaces = omega (arith, ap length same) in
    let at = c.interface-item.is ∙ ap (λ (is : List Interface). get_or is k i) same in
    let names : scope_names s ≡ types_within r.definitions k i =
    c.in_ok-import_scope.ensures.names ∙ ap (λ (n : ℕ). types_within c.as_slice-rows.result.now n i) c.in_ok-id.ensures.ok ∙ ap (λ (ds : List Definition). types_within ds k i) c.as_slice-rows.ensures in
    scopes-more r k c.loop-place.scopes.items c.push.new.self.items s i l at c.loop-place.invariant names
    (ap (λ (p : InterfaceId). p.0) c.in_ok-import_scope.ensures.place ∙ c.in_ok-id.ensures.ok)
    (λ t e. c.in_ok-import_scope.ensures.scoped t (e ∙ sym c.as_slice-rows.ensures)) c.in_ok-push.ensures.items

pub returns : goal.returns
returns c =
    let r = c.args.imports.now in
    let ks = interfaces_of r in
    let long : length ks ≡ length r.interfaces = imports-length r.packages r.definitions 0 r.interfaces in
    record {
      names = c.loop-place.invariant.names ∙ ap (map (λ (x : Import). x.types)) (take_all c.loop-place.place ks (omega (arith, long, ap length c.as_slice-interface-items.ensures)));
      placed = c.loop-place.invariant.placed;
      scoped = c.loop-place.invariant.scoped;
    }
