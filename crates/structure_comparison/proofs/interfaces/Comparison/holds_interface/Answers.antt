use Rattle.std.proofs.Common.{◌≡◌, ◌∙◌, ◌++◌, ◌∷◌, [], ℕ, List, map, ap, sym, subst}
use Rattle.std.specs.Prelude.{All}
use Rattle.std.proofs.lemmas.List.{map-append}
use Rattle.tables.specs.declared.tables.InterfaceId.{InterfaceId}
use Rattle.component_structure.specs.Parts.{extern_part}
use Rattle.structure_comparison.specs.Worlds.{IsUsedByOne}
use Rattle.structure_comparison.proofs.interfaces.Comparison.holds_interface.Goals as goal

pub returns : goal.returns
returns c = λ t.
    let v = extern_part in
    let r = c.args.self.now.resolve.now in
    let used = c.in-Some.used.now in
    let imported = c.in-Some-split_last.imported.now in
    let own = c.in-Some-split_last.own.now in
    let last : c.in-Some.last.now ≡ c.args.id = ap (λ (n : ℕ). let id : InterfaceId = record { 0 = n } in id) c.if-last-id.false in
    let whole : c.as_slice-ids.result.now ≡ used ++ c.args.id ∷ [] = c.in-Some.ensures.cases.0 ∙ ap (λ (id : InterfaceId). used ++ id ∷ []) last in
    record {
      used = used;
      imported = map v imported;
      own = v own;
      in_order = ap (map v) (sym c.as_slice.ensures.value ∙ c.in-Some-split_last.ensures.cases.0) ∙ map-append v imported (own ∷ []);
      imported_are = c.in_ok-are_interfaces.ensures c.if-not-branch-2.false;
      own_is = c.in_ok-is_interface_extern.ensures t;
      needed = subst (λ (ids : List InterfaceId). All (IsUsedByOne r ids) used) whole (c.in_ok-are_used.ensures c.if-not-branch.false);
    }
