use Rattle.std.proofs.Common.{◌≡◌, ◌∙◌, ◌+◌, ◌++◌, ◌∷◌, [], ℕ, List, IsTrue, length, length-append, ap, sym, subst, arith}
use Rattle.std.proofs.lemmas.List.{length-map}
use Rattle.tables.specs.Names.{full_name}
use Rattle.tables.specs.Package.{interface_names}
use Rattle.tables.specs.Tables.{are_earlier, name_types, are_standard, are_placed, are_grouped, are_worlds_grouped, are_placed_worlds}
use Rattle.package_form.specs.Ids.{interfaces_from}
use Rattle.tables.specs.declared.tables.Definition.{Definition}
use Rattle.tables.specs.declared.tables.Interface.{Interface}
use Rattle.tables.specs.declared.tables.World.{World}
use Rattle.package_form.proofs.RowsTakeTypeEntries.{within-entries, few-rows}
use Rattle.tree_meaning.specs.Resolves.{interfaces_behind}
use Rattle.tree_rows.proofs.InterfacesBehindImports.{placed-behind, grouped-behind}
use Rattle.tree_meaning.proofs.TableRows.{behind-length}
use Rattle.tree_rows.proofs.IdsAndTypeEntries.{all-placed-ids}
use Rattle.tree_rows.proofs.PlacedWorlds.{worlds-placed, worlds-grouped}
use Rattle.tree_rows.proofs.closed.finish.Goals as goal

pub interfaces_in-requires : goal.interfaces_in-requires
interfaces_in-requires c =
    let same : c.deref-3.result.now ≡ c.deref-2.result.now = c.deref-3.ensures.value ∙ sym c.deref-2.ensures.value in
    let ws = c.deref.result.now in
    let few = few-rows ws c.deref-2.result.now c.in_ok-count.count (within-entries ws c.deref-2.result.now c.in_ok-count.count c.passes_limit.result c.passes_limit.ensures c.if-passes_limit.false) in
    omega (arith, ap length same, few)

pub invariant_of-result : goal.invariant_of-result
invariant_of-result c =
    let t = c.args.builder in
    let imports = c.args.plan.now.imports.now in
    let names = c.args.plan.now.labels.now in
    let n = length imports.packages in
    let first = length imports.interfaces in
    let rows : c.new-4.result ≡ t.rows = c.new-4.ensures ∙ c.into_rows-rows.ensures in
    let tested : c.new-4.result ≡ c.deref-else-passes_limit.result.now = c.new-4.ensures ∙ sym c.deref-else-passes_limit.ensures.value in
    let listed : c.deref-3.result.now ≡ t.rows = c.deref-3.ensures.value ∙ c.into_rows-rows.ensures in
    let many : length c.new.result ≡ n + 1 = omega (arith, ap length (c.new.ensures ∙ c.in_ok-push.ensures.items), length-append c.args.packages.items (c.in_ok-package_name.field-0 ∷ []), ap length c.requires.packages) in
    let last : c.in_ok-id.id.0 ≡ n = c.in_ok-id.ensures.ok in
    let behind : c.len.result ≡ first = omega (arith, c.len.ensures, c.args.interfaces.ok.0, ap length c.requires.interfaces) in
    let own : c.in_ok-own.own.items ≡ interfaces_behind n first t.rows names =
    c.in_ok-own.ensures ∙ ap (λ (k : ℕ). interfaces_behind k c.len.result c.deref-3.result.now names) last
    ∙ ap (λ (k : ℕ). interfaces_behind n k c.deref-3.result.now names) behind ∙ ap (λ (ds : List Definition). interfaces_behind n first ds names) listed in
    let is : c.new-2.result ≡ imports.interfaces ++ interfaces_behind n first t.rows names =
    c.new-2.ensures ∙ c.in_ok-interfaces.ensures ∙ ap (λ (xs : List Interface). xs ++ c.in_ok-own.own.items) c.requires.interfaces ∙ ap (λ (xs : List Interface). imports.interfaces ++ xs) own in
    let counted : length c.new-2.result ≡ length t.interfaces =
    omega (
      arith,
      ap length is,
      length-append imports.interfaces (interfaces_behind n first t.rows names),
      behind-length n first t.rows names,
      ap length c.requires.names,
      length-append (interface_names imports) names,
      length-map imports.interfaces (full_name imports),
    ) in
    record {
      earlier = subst (λ (ds : List Definition). IsTrue (are_earlier 0 ds)) (sym rows) c.requires.earlier;
      typed = subst (λ (ds : List Definition). IsTrue (name_types ds)) (sym rows) c.requires.typed;
      standard = subst (λ (ds : List Definition). IsTrue (are_standard ds)) (sym tested) (sym c.are_standard.ensures ∙ c.if-not-are_standard.false);
      placed = subst (λ (ds : List Definition). IsTrue (are_placed ds c.new-2.result)) (sym rows)
          (subst (λ (xs : List Interface). IsTrue (are_placed t.rows xs)) (sym is)
          (placed-behind imports.definitions t.rows c.requires.rows.0 n imports.interfaces (interfaces_from t.rows first names) c.requires.rows.1 imports.placed (all-placed-ids t.rows first names)));
      grouped = subst (λ (xs : List Interface). IsTrue (are_grouped (length c.new.result) 0 xs)) (sym is)
          (subst (λ (k : ℕ). IsTrue (are_grouped k 0 (imports.interfaces ++ interfaces_behind n first t.rows names))) (sym many)
          (grouped-behind n imports.interfaces (interfaces_from t.rows first names) imports.grouped));
      worlds_grouped = subst (λ (ws : List World). IsTrue (are_worlds_grouped (length c.new.result) 0 ws)) (sym c.new-3.ensures)
          (subst (λ (k : ℕ). IsTrue (are_worlds_grouped k 0 c.args.worlds.items)) (sym many) (worlds-grouped n t 0 c.args.worlds.items c.requires.worlds));
      worlds_placed = subst (λ (ws : List World). IsTrue (are_placed_worlds c.new-4.result (length c.new-2.result) 0 ws)) (sym c.new-3.ensures)
          (subst (λ (ds : List Definition). IsTrue (are_placed_worlds ds (length c.new-2.result) 0 c.args.worlds.items)) (sym rows)
          (subst (λ (k : ℕ). IsTrue (are_placed_worlds t.rows k 0 c.args.worlds.items)) (sym counted) (worlds-placed n t 0 c.args.worlds.items c.requires.worlds)));
    }
