-- Interface by interface, the rows of a table stand in package form.
use Rattle.std.proofs.Common.{◌≡◌, ℕ, ◌+◌, ◌≤◌, true, ◌&&◌, List, [], ◌∷◌, ◌++◌, map, flat_map, length, refl, ap, sym, subst, ◌∙◌, arith, length-append, append_assoc, All, inl, inr}
use Rattle.std.specs.Prelude.{nat_le}
use Rattle.std.specs.List.{list_all}
use Rattle.std.proofs.lemmas.List.Folds.{list_all-append}
use Rattle.std.proofs.lemmas.Bool.{le-leb}
use Rattle.tables.specs.Package.{Tree, NamedDefinition, references}
use Rattle.tables.specs.declared.tables.Definition.{Definition}
use Rattle.tables.specs.declared.tables.World.{World}
use Rattle.package_form.specs.Ids.{interface_in, interfaces_from}
use Rattle.package_form.specs.Form.{has_ids, is_local, are_interfaces}
use Rattle.package_form.specs.Ends.{end_of, rows_of, interfaces_end, are_worlds_parted, is_parted}
use Rattle.package_form.specs.Unused.{are_used}
use Rattle.package_form.specs.Naming.{row_names}
use Rattle.tables.proofs.ClosedTypesRowByRow.{both}
use Rattle.tree_meaning.proofs.tree_forms.RowsCutByDefinition.{Means, rows-mean, cut}
use Rattle.tree_meaning.proofs.ReferencesOfDefinitions.{Every, every-append}
use Rattle.tree_meaning.proofs.tree_forms.InterfaceOfEachRow.{MeansUse, MeansType, MeansFunction}
use Rattle.tree_meaning.proofs.tree_forms.IdsArePlacesOfNamedRows.{IsElsewhere, IsUseRow, IsTypeRow, IsFunctionRow, use-row, type-row, function-row, rows-every}
use Rattle.tree_meaning.proofs.tree_forms.InterfaceBlocks.{Block, IsBlock, AreBlocks, block_definitions, blocks_definitions, block_names, IsLater, blocks-later, later-elsewhere}
use Rattle.tree_meaning.proofs.TableRows.{references-append}
use Rattle.tree_meaning.proofs.RowNames.{key_name, names-defined, parts-named}
use Rattle.tree_meaning.proofs.tree_forms.RowsStandWhereDefined.{IsTable, part, at-key, Places, end-is, rows-are, ids-stand}
use Rattle.tree_meaning.proofs.AllDefinitions.{all_from}

module _ (ns : List (List ℕ)) (rows : List Definition) (table : IsTable rows) where
  -- the rows of an interface, in front of those of later ones, and of those behind all interfaces
  pub record Segment (j : ℕ) (b : Block) (bs : List Block) (pre ds back : List Definition) : Type 0 where
    pub uses : List Definition
    pub types : List Definition
    pub functions : List Definition
    pub rest : List Definition
    pub places : Places rows j pre uses types functions (rest ++ back)
    pub locals : list_all (is_local rows j) (uses ++ (types ++ functions)) ≡ true
    pub names : flat_map row_names (uses ++ (types ++ functions)) ≡ map key_name (block_definitions b)
    pub cut : ds ≡ uses ++ (types ++ (functions ++ rest))
    pub parts : rows ≡ (((pre ++ uses) ++ types) ++ functions) ++ (rest ++ back)
    pub defined : all_from ns (references ns [] (((pre ++ uses) ++ types) ++ functions)) rest ≡ blocks_definitions bs
    pub on : are_used rows (length (((pre ++ uses) ++ types) ++ functions)) [] (rest ++ back) ≡ true
    pub before : (k : ℕ) → j + 1 ≤ k → Every (IsElsewhere k) (((pre ++ uses) ++ types) ++ functions)

  along : (pre S T : List Definition) → are_used rows (length pre + length S) [] T ≡ true → are_used rows (length (pre ++ S)) [] T ≡ true
  along pre S T h = subst (λ (k : ℕ). are_used rows k [] T ≡ true) (sym (length-append pre S)) h

  behind-trees : (pre S T : List Definition) (A : List NamedDefinition) → all_from ns (references ns (references ns [] pre) S) T ≡ A → all_from ns (references ns [] (pre ++ S)) T ≡ A
  behind-trees pre S T A h = ap (λ (ts : List Tree). all_from ns ts T) (references-append ns [] pre S) ∙ h

  named-as : (trees : List Tree) (S : List Definition) (A : List NamedDefinition) → all_from ns trees S ≡ A → flat_map row_names S ≡ map key_name A
  named-as trees S A h = names-defined ns trees S ∙ ap (map key_name) h

  pub segment : (j : ℕ) (b : Block) (bs : List Block) (pre ds back : List Definition) → rows ≡ pre ++ (ds ++ back) → ((k : ℕ) → j ≤ k → Every (IsElsewhere k) pre)
      → all_from ns (references ns [] pre) ds ≡ blocks_definitions (b ∷ bs) → are_used rows (length pre) [] (ds ++ back) ≡ true → ((k : ℕ) → Every (IsElsewhere k) back)
      → IsBlock ns j b → AreBlocks ns (j + 1) bs → Segment j b bs pre ds back
  segment j b bs pre ds back e before defined used behind block blocks =
      let rest = blocks_definitions bs in
      let apart : (b.uses ++ (b.types ++ b.functions)) ++ rest ≡ b.uses ++ (b.types ++ (b.functions ++ rest)) =
      append_assoc b.uses (b.types ++ b.functions) rest ∙ ap (λ (xs : List NamedDefinition). b.uses ++ xs) (append_assoc b.types b.functions rest) in
      let first = cut ns (references ns [] pre) ds b.uses (b.types ++ (b.functions ++ rest)) (defined ∙ apart) in
      let U = first.front in
      let second = cut ns (references ns [] (pre ++ U)) first.back b.types (b.functions ++ rest) (behind-trees pre U first.back _ first.then_) in
      let V = second.front in
      let third = cut ns (references ns [] ((pre ++ U) ++ V)) second.back b.functions rest (behind-trees (pre ++ U) V second.back _ second.then_) in
      let W = third.front in
      let T = third.back in
      let R = T ++ back in
      let cuts : ds ≡ U ++ (V ++ (W ++ T)) = first.parts ∙ ap (λ (xs : List Definition). U ++ xs) (second.parts ∙ ap (λ (xs : List Definition). V ++ xs) third.parts) in
      let shape : ds ++ back ≡ U ++ (V ++ (W ++ R)) =
      ap (λ (xs : List Definition). xs ++ back) cuts ∙ append_assoc U (V ++ (W ++ T)) back
      ∙ ap (λ (xs : List Definition). U ++ xs) (append_assoc V (W ++ T) back ∙ ap (λ (xs : List Definition). V ++ xs) (append_assoc W T back)) in
      let all : rows ≡ pre ++ (U ++ (V ++ (W ++ R))) = e ∙ ap (λ (xs : List Definition). pre ++ xs) shape in
      let all2 : rows ≡ (pre ++ U) ++ (V ++ (W ++ R)) = all ∙ sym (append_assoc pre U (V ++ (W ++ R))) in
      let all3 : rows ≡ ((pre ++ U) ++ V) ++ (W ++ R) = all2 ∙ sym (append_assoc (pre ++ U) V (W ++ R)) in
      let all4 : rows ≡ (((pre ++ U) ++ V) ++ W) ++ R = all3 ∙ sym (append_assoc ((pre ++ U) ++ V) W R) in
      let used1 = subst (λ (xs : List Definition). are_used rows (length pre) [] xs ≡ true) shape used in
      let p1 = part ns rows table j b block (MeansUse ns j b.name) (λ x q. inl q) b.uses block.uses pre U (V ++ (W ++ R)) all first.first first.ends used1 in
      let p2 = part ns rows table j b block (MeansType b.name) (λ x q. inr (inl q)) b.types block.types (pre ++ U) V (W ++ R) all2 second.first second.ends (along pre U (V ++ (W ++ R)) p1.on) in
      let p3 = part ns rows table j b block (MeansFunction b.name) (λ x q. inr (inr q)) b.functions block.functions ((pre ++ U) ++ V) W R all3 third.first third.ends (along (pre ++ U) V (W ++ R) p2.on) in
      let defines = behind-trees ((pre ++ U) ++ V) W T _ third.then_ in
      let trees4 = references ns [] (((pre ++ U) ++ V) ++ W) in
      let later = rows-mean ns (IsLater ns (j + 1)) trees4 T (subst (All (IsLater ns (j + 1))) (sym defines) (blocks-later ns (j + 1) bs blocks)) in
      record {
        uses = U;
        types = V;
        functions = W;
        rest = T;
        places = record {
          parts = all;
          before = before j (omega arith);
          uses = rows-every ns (Means ns (MeansUse ns j b.name)) (IsUseRow j) (use-row ns j b.name block.place block.some) (references ns [] pre) U p1.means;
          types = rows-every ns (Means ns (MeansType b.name)) (IsTypeRow j) (type-row ns j b.name block.place block.some) (references ns [] (pre ++ U)) V p2.means;
          functions = rows-every ns (Means ns (MeansFunction b.name)) (IsFunctionRow j) (function-row ns j b.name block.place block.some) (references ns [] ((pre ++ U) ++ V)) W p3.means;
          after = every-append (IsElsewhere j) T back (rows-every ns (Means ns (IsLater ns (j + 1))) (IsElsewhere j) (later-elsewhere ns j (j + 1) (omega arith)) trees4 T later) (behind j);
          uses_end = first.ends;
          types_end = second.ends;
          functions_end = third.ends;
        };
        locals =
            list_all-append (is_local rows j) U (V ++ W)
            ∙ both (list_all (is_local rows j) U) (list_all (is_local rows j) (V ++ W)) p1.locals
            (list_all-append (is_local rows j) V W ∙ both (list_all (is_local rows j) V) (list_all (is_local rows j) W) p2.locals p3.locals);
        names =
            parts-named U V W b.uses b.types b.functions (named-as (references ns [] pre) U b.uses first.first)
            (named-as (references ns [] (pre ++ U)) V b.types second.first) (named-as (references ns [] ((pre ++ U) ++ V)) W b.functions third.first);
        cut = cuts;
        parts = all4;
        defined = defines;
        on = along ((pre ++ U) ++ V) W R p3.on;
        before = λ k l.
            let other : k ≡ j → ⊥ = λ same. omega (arith, l, same) in
            every-append (IsElsewhere k) ((pre ++ U) ++ V) W
            (every-append (IsElsewhere k) (pre ++ U) V
            (every-append (IsElsewhere k) pre U (before k (omega (arith, l))) (at-key ns rows table j b block (MeansUse ns j b.name) (λ x q. q.key) pre U (V ++ (W ++ R)) p1 k other))
            (at-key ns rows table j b block (MeansType b.name) (λ x q. q.key) (pre ++ U) V (W ++ R) p2 k other))
            (at-key ns rows table j b block (MeansFunction b.name) (λ x q. q.key) ((pre ++ U) ++ V) W R p3 k other);
      }

  -- all rows of these interfaces are in place, and behind the last of them stand the rest, which define nothing, and those behind all
  -- interfaces
  pub record Formed (j : ℕ) (names : List (List ℕ)) (pre ds back : List Definition) : Type 0 where
    pub last : List Definition
    pub rest : List Definition
    pub whole : pre ++ ds ≡ last ++ rest
    pub nothing : all_from ns (references ns [] last) rest ≡ []
    pub on : are_used rows (length last) [] (rest ++ back) ≡ true
    pub parted : (ws : List World) → are_worlds_parted (length rows) (length last) ws ≡ true → is_parted (length rows) (length pre) (interfaces_from rows j names) ws ≡ true
    pub standing : are_interfaces rows j (length pre) (interfaces_from rows j names) ≡ true
    pub ends : interfaces_end (length pre) (interfaces_from rows j names) ≡ length last

  pub formed : (j : ℕ) (bs : List Block) (pre ds back : List Definition) → rows ≡ pre ++ (ds ++ back) → ((k : ℕ) → j ≤ k → Every (IsElsewhere k) pre)
      → all_from ns (references ns [] pre) ds ≡ blocks_definitions bs → are_used rows (length pre) [] (ds ++ back) ≡ true → ((k : ℕ) → Every (IsElsewhere k) back) → AreBlocks ns j bs
      → Formed j (block_names bs) pre ds back
  formed j [] pre ds back e before defined used behind h =
      record { last = pre; rest = ds; whole = refl; nothing = defined; on = used; parted = λ ws q. q; standing = refl; ends = refl }
  formed j (b ∷ bs) pre ds back e before defined used behind h =
      let s = segment j b bs pre ds back e before defined used behind h.0 h.1 in
      let pre4 = ((pre ++ s.uses) ++ s.types) ++ s.functions in
      let again = formed (j + 1) bs pre4 s.rest back s.parts s.before s.defined s.on behind h.1 in
      let i = interface_in rows j b.name in
      let is = interfaces_from rows (j + 1) (block_names bs) in
      let long : length pre4 ≡ length pre + length s.uses + length s.types + length s.functions =
      omega (arith, length-append pre s.uses, length-append (pre ++ s.uses) s.types, length-append ((pre ++ s.uses) ++ s.types) s.functions) in
      let ends : end_of (length pre) i ≡ length pre4 = end-is rows j pre s.uses s.types s.functions (s.rest ++ back) s.places b.name ∙ sym long in
      let total : length rows ≡ length pre4 + length (s.rest ++ back) = ap length s.parts ∙ length-append pre4 (s.rest ++ back) in
      let whole : pre ++ ds ≡ pre4 ++ s.rest =
      ap (λ (xs : List Definition). pre ++ xs) s.cut ∙ sym (append_assoc pre s.uses (s.types ++ (s.functions ++ s.rest)))
      ∙ sym (append_assoc (pre ++ s.uses) s.types (s.functions ++ s.rest)) ∙ sym (append_assoc ((pre ++ s.uses) ++ s.types) s.functions s.rest) in
      record {
        last = again.last;
        rest = again.rest;
        whole = whole ∙ again.whole;
        nothing = again.nothing;
        on = again.on;
        parted = λ ws q.
            both (nat_le (length pre) (end_of (length pre) i)) _ (le-leb _ _ (omega (arith, ends, long)))
            (both (nat_le (end_of (length pre) i) (length rows)) _ (le-leb _ _ (omega (arith, ends, total)))
            (subst (λ (k : ℕ). is_parted (length rows) k is ws ≡ true) (sym ends) (again.parted ws q)));
        standing = both (has_ids rows (length pre) i && list_all (is_local rows j) (rows_of rows (length pre) i)) _
            (both (has_ids rows (length pre) i) _ (ids-stand rows j pre s.uses s.types s.functions (s.rest ++ back) s.places b.name)
            (ap (list_all (is_local rows j)) (rows-are rows j pre s.uses s.types s.functions (s.rest ++ back) s.places b.name) ∙ s.locals))
            (subst (λ (k : ℕ). are_interfaces rows (j + 1) k is ≡ true) (sym ends) again.standing);
        ends = ap (λ (k : ℕ). interfaces_end k is) ends ∙ again.ends;
      }
