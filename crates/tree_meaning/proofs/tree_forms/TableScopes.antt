-- Interface by interface, the scopes of a table are those of its definitions.
use Rattle.std.proofs.Common.{◌≡◌, ℕ, ◌+◌, ◌≤◌, true, List, [], ◌∷◌, ◌++◌, map, flat_map, length, ap, sym, subst, ◌∙◌, arith, append_assoc, length-append, All}
use Rattle.tables.specs.Package.{references}
use Rattle.tables.specs.declared.tables.Definition.{Definition}
use Rattle.package_form.specs.Scope.{AreDistinct}
use Rattle.package_form.specs.Ids.{interface_in, interfaces_from}
use Rattle.package_form.proofs.AllAndContains.{all-append, all-cons, all-none, all-left, all-right}
use Rattle.package_form.specs.Ends.{end_of, rows_of}
use Rattle.package_form.specs.Unused.{are_used}
use Rattle.package_form.specs.Naming.{row_names, row_members, rows_scopes, interfaces_scopes}
use Rattle.tree_meaning.proofs.ReferencesOfDefinitions.{Every}
use Rattle.tree_meaning.proofs.tree_forms.IdsArePlacesOfNamedRows.{IsElsewhere}
use Rattle.tree_meaning.proofs.tree_forms.InterfaceBlocks.{Block, AreBlocks, block_definitions, blocks_definitions, block_names}
use Rattle.tree_meaning.proofs.tree_forms.RowsStandWhereDefined.{IsTable, end-is, rows-are}
use Rattle.tree_meaning.proofs.tree_forms.InterfaceRowsAreInForm.{segment}
use Rattle.tree_meaning.proofs.RowNames.{key_name}
use Rattle.std.proofs.lemmas.List.{map-append}
use Rattle.tree_meaning.proofs.AllDefinitions.{all_from}

abbrev pub HasDistinctKeys : Block → Type 0
HasDistinctKeys b = AreDistinct (map key_name (block_definitions b))

module _ (ns : List (List ℕ)) (rows : List Definition) (table : IsTable rows) where
  pub scoped : (j : ℕ) (bs : List Block) (pre ds back : List Definition) → rows ≡ pre ++ (ds ++ back) → ((k : ℕ) → j ≤ k → Every (IsElsewhere k) pre)
      → all_from ns (references ns [] pre) ds ≡ blocks_definitions bs → are_used rows (length pre) [] (ds ++ back) ≡ true → ((k : ℕ) → Every (IsElsewhere k) back) → AreBlocks ns j bs
      → All AreDistinct (map row_members ds) → Every HasDistinctKeys bs
      → All AreDistinct (interfaces_scopes rows (length pre) (interfaces_from rows j (block_names bs)))
  scoped j [] pre ds back e before defined used behind h members keys = all-none AreDistinct
  scoped j (b ∷ bs) pre ds back e before defined used behind h members keys =
      let s = segment ns rows table j b bs pre ds back e before defined used behind h.0 h.1 in
      let pre4 = ((pre ++ s.uses) ++ s.types) ++ s.functions in
      let own = s.uses ++ (s.types ++ s.functions) in
      let cut : ds ≡ own ++ s.rest =
      s.cut ∙ sym (append_assoc s.uses (s.types ++ s.functions) s.rest ∙ ap (λ (xs : List Definition). s.uses ++ xs) (append_assoc s.types s.functions s.rest)) in
      let split = subst (λ (ms : List (List (List ℕ))). All AreDistinct ms) (ap (map row_members) cut ∙ map-append row_members own s.rest) members in
      let again = scoped (j + 1) bs pre4 s.rest back s.parts s.before s.defined s.on behind h.1 (all-right AreDistinct (map row_members own) (map row_members s.rest) split) keys.1 in
      let i = interface_in rows j b.name in
      let is = interfaces_from rows (j + 1) (block_names bs) in
      let start = length pre in
      let long : length pre4 ≡ length pre + length s.uses + length s.types + length s.functions =
      omega (arith, length-append pre s.uses, length-append (pre ++ s.uses) s.types, length-append ((pre ++ s.uses) ++ s.types) s.functions) in
      let ends : end_of start i ≡ length pre4 = end-is rows j pre s.uses s.types s.functions (s.rest ++ back) s.places b.name ∙ sym long in
      let here : rows_of rows start i ≡ own = rows-are rows j pre s.uses s.types s.functions (s.rest ++ back) s.places b.name in
      let names : flat_map row_names (rows_of rows start i) ≡ map key_name (block_definitions b) = ap (flat_map row_names) here ∙ s.names in
      all-append AreDistinct (rows_scopes (rows_of rows start i)) (interfaces_scopes rows (end_of start i) is)
      (all-cons AreDistinct (flat_map row_names (rows_of rows start i)) (map row_members (rows_of rows start i)) (subst AreDistinct (sym names) keys.0)
      (subst (λ (ds : List Definition). All AreDistinct (map row_members ds)) (sym here) (all-left AreDistinct (map row_members own) (map row_members s.rest) split)))
      (subst (λ (k : ℕ). All AreDistinct (interfaces_scopes rows k is)) (sym ends) again)
