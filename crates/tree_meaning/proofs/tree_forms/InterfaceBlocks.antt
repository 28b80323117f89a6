-- The rows of a table whose definitions are those of its interfaces, one interface after the other.
use Rattle.std.proofs.Common.{◌≡◌, ◌≢◌, ℕ, ◌+◌, ◌<◌, ◌≤◌, Bool, true, false, not, ◌==◌, List, [], ◌∷◌, ◌++◌, map, flat_map, length, Option, None, Some, refl, ap, sym, subst, ◌∙◌, arith, length-append, All}
use Rattle.tables.specs.Package.{Tree, NamedDefinition, reference}
use Rattle.tables.specs.declared.tables.TypeDefKind.{TypeDefKind}
use Rattle.tables.specs.declared.tables.TypeName.{TypeName}
use Rattle.tables.specs.declared.tables.Owner.{Owner}
use Rattle.tables.specs.declared.tables.Owner.TheVariants as owner
use Rattle.tables.specs.declared.tables.Definition.{Definition}
use Rattle.tables.specs.declared.tables.Definition.TheVariants as row
use Rattle.package_form.specs.Postfix.{is_unnamed, one_if}
use Rattle.package_form.specs.Ids.{is_in, is_use, is_owned_by}
use Rattle.package_form.proofs.AllAndContains.{all-append, all-mono, all-none}
use Rattle.package_form.specs.Unused.{are_used}
use Rattle.package_form.proofs.PostfixIsDecided.{is-none}
use Rattle.tree_meaning.proofs.tree_forms.RowsCutByDefinition.{TypeMeans, Means}
use Rattle.tree_meaning.proofs.RowsOfEachInterface.{Step, step}
use Rattle.tree_meaning.proofs.tree_forms.InterfaceOfEachRow.{IsPlace, MeansUse, MeansType, MeansFunction}
use Rattle.tree_meaning.proofs.tree_forms.IdsArePlacesOfNamedRows.{IsElsewhere, not-that, none-and}
use Rattle.tree_meaning.proofs.AllDefinitions.{all_from, owner_name}

-- the definitions of an interface
pub record Block : Type 0 where
  pub name : List ℕ
  pub uses : List NamedDefinition
  pub types : List NamedDefinition
  pub functions : List NamedDefinition

-- the block is that of the interface at place j
pub record IsBlock (ns : List (List ℕ)) (j : ℕ) (b : Block) : Type 0 where
  pub place : IsPlace ns j b.name
  pub some : b.name ≢ []
  pub uses : All (MeansUse ns j b.name) b.uses
  pub types : All (MeansType b.name) b.types
  pub functions : All (MeansFunction b.name) b.functions

abbrev pub AreBlocks : List (List ℕ) → ℕ → List Block → Type 0
AreBlocks ns j [] = Unit {0}
AreBlocks ns j (b ∷ bs) = IsBlock ns j b × AreBlocks ns (j + 1) bs

abbrev pub block_definitions : Block → List NamedDefinition
block_definitions b = b.uses ++ (b.types ++ b.functions)

abbrev pub blocks_definitions : List Block → List NamedDefinition
blocks_definitions bs = flat_map block_definitions bs

abbrev pub block_names : List Block → List (List ℕ)
block_names bs = map (λ b. b.name) bs

-- ---- rows of later interfaces

pub record IsLater (ns : List (List ℕ)) (j : ℕ) (x : NamedDefinition) : Type 0 where
  pub m : ℕ
  pub later : j ≤ m
  pub place : IsPlace ns m x.key.interface

module _ (ns : List (List ℕ)) where
  block-later : (j : ℕ) (b : Block) → IsBlock ns j b → All (IsLater ns j) (block_definitions b)
  block-later j b h =
      let at : (x : NamedDefinition) → x.key.interface ≡ b.name → IsLater ns j x =
      λ x e. record { m = j; later = omega arith; place = subst (IsPlace ns j) (sym e) h.place } in
      all-append (IsLater ns j) b.uses (b.types ++ b.functions) (all-mono (MeansUse ns j b.name) (IsLater ns j) (λ x q. at x q.key) b.uses h.uses)
      (all-append (IsLater ns j) b.types b.functions (all-mono (MeansType b.name) (IsLater ns j) (λ x q. at x q.key) b.types h.types)
      (all-mono (MeansFunction b.name) (IsLater ns j) (λ x q. at x q.key) b.functions h.functions))

  pub blocks-later : (j : ℕ) (bs : List Block) → AreBlocks ns j bs → All (IsLater ns j) (blocks_definitions bs)
  blocks-later j [] h = all-none (IsLater ns j)
  blocks-later j (b ∷ bs) h =
      all-append (IsLater ns j) (block_definitions b) (blocks_definitions bs) (block-later j b h.0)
      (all-mono (IsLater ns (j + 1)) (IsLater ns j) (λ x q. record { m = q.m; later = omega (arith, q.later); place = q.place }) (blocks_definitions bs) (blocks-later (j + 1) bs h.1))

  later-type : (k j : ℕ) → k < j → (trees : List Tree) (o : Option TypeName) (c : TypeDefKind) → TypeMeans ns (IsLater ns j) trees o c → is_in k o ≡ false
  later-type k j l trees None c h = refl
  later-type k j l trees (Some n) c h = not-that n.interface.0 k (λ e. omega (arith, e, h.place n.interface.0 refl, h.later, l))

  later-owner : (k m j : ℕ) (w : Owner) → k < j → j ≤ m → IsPlace ns m (owner_name ns w) → is_owned_by k w ≡ false
  later-owner k m j (owner.Interface x) l later place = not-that x.0 k (λ e. omega (arith, e, place x.0 refl, later, l))
  later-owner k m j (owner.World w) l later place = refl

  pub later-elsewhere : (k j : ℕ) → k < j → (trees : List Tree) (d : Definition) → Means ns (IsLater ns j) trees d → IsElsewhere k d
  later-elsewhere k j l trees (row.Type d) h =
      let out = later-type k j l trees d.name d.kind h in
      record { used = none-and (is_in k d.name) (is_use d.kind) out; typed = none-and (is_in k d.name) (not (is_use d.kind)) out; function = refl }
  later-elsewhere k j l trees (row.Function f) h = record { used = refl; typed = refl; function = later-owner k h.m j f.owner l h.later h.place }

-- rows that define nothing would be left unused
none-left : (ns : List (List ℕ)) (rows : List Definition) (trees : List Tree) (n : ℕ) (unused : List ℕ) (d : Definition) (ds : List Definition) → all_from ns trees (d ∷ ds) ≡ []
    → are_used rows n unused (d ∷ ds) ≡ true → ⊥
none-left ns rows trees n unused d [] e h = by (is_unnamed d) refl (step [] rows [] n unused d [] h)
  where
    named-none : (d : Definition) → is_unnamed d ≡ false → all_from ns trees (d ∷ []) ≡ [] → ⊥
    named-none (row.Type d) u e = of d.name u e
      where
        of : (o : Option TypeName) → is_unnamed (row.Type (record { name = o; kind = d.kind })) ≡ false → all_from ns trees (row.Type (record { name = o; kind = d.kind }) ∷ []) ≡ [] → ⊥
        of None u e = absurd (cc)
        of (Some n) u e = absurd (cc)
    named-none (row.Function f) u e = absurd (cc)

    left : (s : List ℕ) → (length (s ++ n ∷ []) ≡ 0) → ⊥
    left s e = omega (arith, e, length-append s (n ∷ []))

    by : (b : Bool) → is_unnamed d ≡ b → Step [] rows [] n unused d [] → ⊥
    by false u s = named-none d u e
    by true u s = left s.rest (is-none (length (s.rest ++ n ∷ [])) (sym (ap (λ (b : Bool). length (s.rest ++ one_if b n) == 0) u) ∙ s.on))
none-left ns rows trees n unused d (c ∷ ds) e h =
    let s = step [] rows [] n unused d (c ∷ ds) h in
    none-left ns rows (trees ++ reference ns trees d ∷ []) (n + 1) (s.rest ++ one_if (is_unnamed d) n) c ds (tail-none d e) s.on
  where
    tail-none : (d : Definition) → all_from ns trees (d ∷ c ∷ ds) ≡ [] → all_from ns (trees ++ reference ns trees d ∷ []) (c ∷ ds) ≡ []
    tail-none (row.Type d) e = of d.name e
      where
        of : (o : Option TypeName) → all_from ns trees (row.Type (record { name = o; kind = d.kind }) ∷ c ∷ ds) ≡ []
            → all_from ns (trees ++ reference ns trees (row.Type (record { name = o; kind = d.kind })) ∷ []) (c ∷ ds) ≡ []
        of None e = e
        of (Some n) e = absurd (cc)
    tail-none (row.Function f) e = absurd (cc)

pub nothing-left : (ns : List (List ℕ)) (rows : List Definition) (trees : List Tree) (n : ℕ) (ds : List Definition) → all_from ns trees ds ≡ [] → are_used rows n [] ds ≡ true → ds ≡ []
nothing-left ns rows trees n [] e h = refl
nothing-left ns rows trees n (d ∷ ds) e h = absurd (none-left ns rows trees n [] d ds e h)
