-- The used names of an interface: each is found by its name among the exports of an earlier interface.
use Rattle.std.proofs.Common.{◌≡◌, ◌≤◌, ◌<◌, ◌⊎◌, inl, inr, ℕ, ◌+◌, Bool, true, false, not, nat_lt, List, [], ◌∷◌, ◌++◌, map, length, slice_get, Option, None, Some, refl, ap, sym, subst, ◌∙◌, arith, append_assoc, length-append, eqb-true}
use Rattle.std.specs.List.{list_all}
use Rattle.std.proofs.lemmas.Bool.Decides.{nat_tests}
use Rattle.std.proofs.lemmas.Bool.{ltb-true}
use Rattle.package_form.specs.Scoped.{NameEntry}
use Rattle.tables.specs.Tables.{definition_below, type_of}
use Rattle.tables.specs.declared.tables.TypeId.{TypeId}
use Rattle.tables.specs.declared.tables.TypeDef.{TypeDef}
use Rattle.tables.specs.declared.tables.TypeDefKind.TheVariants as kind
use Rattle.tables.specs.declared.tables.TypeName.{TypeName}
use Rattle.tables.specs.declared.tables.Definition.{Definition}
use Rattle.tables.specs.declared.tables.Definition.TheVariants as row
use Rattle.component_reader.specs.Instance.{named_row}
use Rattle.component_reader.specs.Component.{exported_type}
use Rattle.package_form.specs.Reached.{name_of, name_at}
use Rattle.package_form.specs.Form.{is_own_name, is_earlier_type, is_earlier, is_owned, is_local}
use Rattle.component_reader.specs.Types.{row_at}
use Rattle.wit_component.specs.ToComponent.{is_labelled}
use Rattle.package_form.specs.Unused.{inner_rows, unused_after}
use Rattle.wit_component.proofs.ReadAgain.KeptAfterOneRow.{row-at-behind}
use Rattle.wit_component.proofs.InterfaceRows.RowsStandInOrder.{StandAt}
use Rattle.tables.proofs.ClosedTypesRowByRow.{split}
use Rattle.wit_component.proofs.ReadAgain.ReadableRows.{AreReadable, row_first, used}
use Rattle.wit_component.proofs.InterfaceRows.FactsOfRows.{HasFacts, NameEarlier, facts-more, rows-readable}
use Rattle.wit_component.proofs.InterfaceRows.UsesFirst.{UsesFirst, no_use, one_use}
use Rattle.wit_component.proofs.AcceptedComponents.DeclaredRows.{is_use_def}

-- an exported type of this name, before place start
pub record IsExported (table : List Definition) (exports : List (List NameEntry)) (start : ℕ) (y : TypeName) : Type 0 where
  pub id : TypeId
  pub found : exported_type exports y.interface.0 y.name ≡ Some id
  pub named : name_at table (Some id) ≡ Some y
  pub below : id.0 < start

abbrev pub NamesFound : List Definition → List (List NameEntry) → ℕ → Type 0
NamesFound table exports start = (t : TypeId) (y : TypeName) → t.0 < start → name_at table (Some t) ≡ Some y → IsExported table exports start y

-- used names, found as these types, and then no more
pub data UsesFound (table : List Definition) (exports : List (List NameEntry)) (start k : ℕ) : List TypeId → List Definition → Type 0 where
  found_none : (ds : List Definition) → list_all (λ d. not (is_use_def d)) ds ≡ true → UsesFound table exports start k [] ds
  found_one : (x : List ℕ) (t : TypeId) (y : TypeName) (us : List TypeId) (ds : List Definition) → name_at table (Some t) ≡ Some y
      → (e : IsExported table exports start y) → UsesFound table exports start k us ds → UsesFound table exports start k (e.id ∷ us) (named_row k x (kind.Use t) ∷ ds)

module _ (table : List Definition) (start k : ℕ) where
  -- the names of the interface's rows
  pub own-names : (n : ℕ) (ds : List Definition) → StandAt table n ds → list_all (is_local table k) ds ≡ true
      → (t : TypeId) (y : TypeName) → n ≤ t.0 → t.0 < n + length ds → name_at table (Some t) ≡ Some y → y.interface.0 ≡ k
  own-names n [] stand local t y low up e = absurd (omega arith)
  own-names n (d ∷ ds) stand local t y low up e =
      by (at-or-behind t.0 n low) (λ low. own-names (n + 1) ds stand.1 s.1 t y low (omega (arith, up)) e)
    where
      at-or-behind : (i n : ℕ) → n ≤ i → (i ≡ n) ⊎ (n + 1 ≤ i)
      at-or-behind i n h = by (nat_lt n i) refl
        where
          by : (b : Bool) → nat_lt n i ≡ b → (i ≡ n) ⊎ (n + 1 ≤ i)
          by true e = inr (grind (arith, nat_tests))
          by false e = inl (grind (arith, nat_tests))

      s : (is_local table k d ≡ true) × (list_all (is_local table k) ds ≡ true)
      s = split (is_local table k d) _ local

      here : (d : Definition) → is_owned table k d ≡ true → name_of (type_of (Some d)) ≡ Some y → y.interface.0 ≡ k
      here (row.Function f) owned e = absurd (cc)
      here (row.Type d) owned e = by d.name (split (is_own_name k d.name) _ owned).0 e
        where
          by : (o : Option TypeName) → is_own_name k o ≡ true → o ≡ Some y → y.interface.0 ≡ k
          by None own e = absurd (cc)
          by (Some z) own e = let same : z ≡ y = cc in ap (λ (w : TypeName). w.interface.0) (sym same) ∙ eqb-true z.interface.0 k own

      by : (t.0 ≡ n) ⊎ (n + 1 ≤ t.0) → (n + 1 ≤ t.0 → y.interface.0 ≡ k) → y.interface.0 ≡ k
      by (inl q) again =
          here d (split (is_owned table k d) _ s.0).0
          (ap (λ (o : Option Definition). name_of (type_of o)) (sym stand.0) ∙ ap (λ (m : ℕ). name_of (type_of (slice_get table m))) (sym q) ∙ e)
      by (inr low) again = again low

  earlier-named : (t : TypeId) → is_earlier table k t ≡ true → (y : TypeName) × (name_at table (Some t) ≡ Some y) × (y.interface.0 < k)
  earlier-named t h = by (type_of (slice_get table t.0)) h
    where
      by : (o : Option TypeDef) → is_earlier_type k o ≡ true → (y : TypeName) × (name_of o ≡ Some y) × (y.interface.0 < k)
      by None h = absurd (cc)
      by (Some d) h = named d.name h
        where
          named : (o : Option TypeName) → is_earlier_type k (Some (record { name = o; kind = d.kind })) ≡ true → (y : TypeName) × (o ≡ Some y) × (y.interface.0 < k)
          named None h = absurd (cc)
          named (Some y) h = (y, refl, ltb-true y.interface.0 k h)

  module _ (exports : List (List NameEntry)) (names : NamesFound table exports start) (end : ℕ)
      (own : (t : TypeId) (y : TypeName) → start ≤ t.0 → t.0 < end → name_at table (Some t) ≡ Some y → y.interface.0 ≡ k) where
    use-found : (n : ℕ) (unused : List ℕ) (x : List ℕ) (t : TypeId) (ds rest : List Definition) → n < end → HasFacts table start k n unused (named_row k x (kind.Use t) ∷ ds) rest
        → (y : TypeName) × (name_at table (Some t) ≡ Some y) × IsExported table exports start y
    use-found n unused x t ds rest inside f =
        let owned = split (is_owned table k (named_row k x (kind.Use t))) _ (split (is_local table k (named_row k x (kind.Use t))) _ f.local).0 in
        let y = earlier-named t (split (is_own_name k (Some (record { interface = record { 0 = k }; name = x }))) _ owned.0).1 in
        let up : t.0 < n = ltb-true t.0 n (split (definition_below n (named_row k x (kind.Use t))) _ f.earlier).0 in
        (y.0, y.1, names t y.0 (low t.0 up (λ l. own t y.0 l (omega (arith, up, inside)) y.1) y.2) y.1)
      where
        low : (i : ℕ) → i < n → {j : ℕ} → (start ≤ i → j ≡ k) → j < k → i < start
        low i up h l = by (nat_lt i start) refl
          where
            by : (b : Bool) → nat_lt i start ≡ b → i < start
            by true e = ltb-true i start e
            by false e = let behind : start ≤ i = grind (arith, nat_tests) in absurd (omega (arith, h behind, l))

    pub uses-found : (n : ℕ) (unused : List ℕ) (ds rest : List Definition) → n + length ds ≡ end → UsesFirst k ds → HasFacts table start k n unused ds rest
        → (us : List TypeId) × UsesFound table exports start k us ds
    uses-found n unused _ rest is (no_use ds none) f = ([], found_none ds none)
    uses-found n unused _ rest is (one_use x t ds first) f =
        let d = named_row k x (kind.Use t) in
        let one = use-found n unused x t ds rest (omega (arith, is)) f in
        let all = uses-found (n + 1) (unused_after n unused (inner_rows table d) d) ds rest (omega (arith, is)) first (facts-more table start k n unused d ds rest f) in
        (one.2.id ∷ all.0, found_one x t one.0 all.0 ds one.1 one.2 all.1)

-- ---- with the types that the aliases stand for, the rows can be read

around-at : (pre : List (Option TypeId)) (u : TypeId) (us : List (Option TypeId)) → row_at (pre ++ Some u ∷ us) (length pre) ≡ Some u
around-at pre u us = let e : length pre ≡ length pre + 0 = omega arith in ap (row_at (pre ++ Some u ∷ us)) e ∙ row-at-behind pre (Some u ∷ us) 0

abbrev pub all_some : List TypeId → List (Option TypeId)
all_some us = map (λ u. Some u) us

module _ (table : List Definition) (exports : List (List NameEntry)) (start k : ℕ) (around : List (Option TypeId)) where
  pub found-readable : (us : List TypeId) (ds : List Definition) → UsesFound table exports start k us ds → (pre : List (Option TypeId)) → around ≡ pre ++ all_some us
      → (n : ℕ) (unused : List ℕ) (rest : List Definition) → NameEarlier table start k → StandAt table n ds → HasFacts table start k n unused ds rest
      → AreReadable table around start k n (length pre) ds
  found-readable _ _ (found_none ds none) pre is n unused rest lows stand f = rows-readable table start k around n (length pre) unused ds rest lows stand f none
  found-readable _ _ (found_one x t y us ds named e found) pre is n unused rest lows stand f =
      let d = named_row k x (kind.Use t) in
      let len : length (pre ++ Some e.id ∷ []) ≡ length pre + 1 = length-append pre (Some e.id ∷ []) in
      let more = found-readable us ds found (pre ++ Some e.id ∷ []) (is ∙ sym (append_assoc pre (Some e.id ∷ []) (all_some us))) (n + 1) (unused_after n unused (inner_rows table d) d) rest
      lows stand.1 (facts-more table start k n unused d ds rest f) in
      row_first n (length pre) d ds stand.0
      (used x t e.id y (split (is_labelled d) _ f.labels).0 (ap (λ xs. row_at xs (length pre)) is ∙ around-at pre e.id (all_some us)) named e.named e.below)
      (subst (λ m. AreReadable table around start k (n + 1) m ds) len more)
