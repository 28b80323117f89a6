-- The rows of an interface in package form: its used names stand first, and none without a name is left behind them.
use Rattle.std.proofs.Common.{◌≡◌, ◌≢◌, ℕ, ◌+◌, ◌-◌, Bool, true, false, cond, not, ◌==◌, List, [], ◌∷◌, ◌++◌, take, length, slice_get, Option, None, Some, refl, ap, sym, subst, ◌∙◌, arith, eqb-true}
use Rattle.std.specs.List.{list_all}
use Rattle.std.proofs.lemmas.Bool.Decides.{nat_tests}
use Rattle.package_form.specs.Postfix.{is_unnamed, one_if, is_inner}
use Rattle.package_form.specs.Ids.{places_where}
use Rattle.tables.specs.declared.tables.TypeId.{TypeId}
use Rattle.tables.specs.declared.tables.TypeDefKind.{TypeDefKind}
use Rattle.tables.specs.declared.tables.TypeDefKind.TheVariants as kind
use Rattle.tables.specs.declared.tables.TypeName.{TypeName}
use Rattle.tables.specs.declared.tables.Definition.{Definition}
use Rattle.tables.specs.declared.tables.Definition.TheVariants as row
use Rattle.component_reader.specs.Instance.{named_row}
use Rattle.package_form.specs.Form.{is_named, is_own_name, is_owned, is_local}
use Rattle.package_form.specs.Unused.{inner_rows, can_use, closes, is_next, unused_after}
use Rattle.wit_component.proofs.InterfaceRows.HasOwnIds.{passes}
use Rattle.wit_component.proofs.InterfaceRows.RowsStandInOrder.{StandAt}
use Rattle.tables.proofs.ClosedTypesRowByRow.{split, both}
use Rattle.wit_component.proofs.InterfaceRows.FactsOfRows.{HasFacts, facts-more}
use Rattle.wit_component.proofs.AcceptedComponents.DeclaredRows.{is_use_def}

-- used names of interface k, and then no more
pub data UsesFirst (k : ℕ) : List Definition → Type 0 where
  no_use : (ds : List Definition) → list_all (λ d. not (is_use_def d)) ds ≡ true → UsesFirst k ds
  one_use : (x : List ℕ) (t : TypeId) (ds : List Definition) → UsesFirst k ds → UsesFirst k (named_row k x (kind.Use t) ∷ ds)

no-length : (xs : List ℕ) → (length xs - 0 == 0) ≡ true → xs ≡ []
no-length [] h = refl
no-length (x ∷ xs) h = absurd (grind (arith, nat_tests))

pub not-named : (d : Definition) → is_named d ≡ false → is_unnamed d ≡ true
not-named d h = by (is_unnamed d) h
  where
    by : (b : Bool) → not b ≡ false → b ≡ true
    by true h = refl
    by false h = absurd (cc)

pub yes-named : (d : Definition) → is_named d ≡ true → is_unnamed d ≡ false
yes-named d h = by (is_unnamed d) h
  where
    by : (b : Bool) → not b ≡ true → b ≡ false
    by true h = absurd (cc)
    by false h = refl

-- a row without a name is no used one
inner-plain : (d : Definition) (left : ℕ) → is_unnamed d ≡ true → closes d left ≡ true → is_use_def d ≡ false
inner-plain (row.Function f) left un h = refl
inner-plain (row.Type d) left un h = by d.kind (sym (ap (λ b. cond b (is_inner d.kind) (left == 0)) un) ∙ h)
  where
    by : (what : TypeDefKind) → is_inner what ≡ true → is_use_def (row.Type (record { name = None; kind = what })) ≡ false
    by (kind.Use t) h = absurd (cc)
    by _ h = refl

module _ (table : List Definition) (start k : ℕ) where
  -- a used name with a name is a row of this shape
  use-shape : (d : Definition) → is_use_def d ≡ true → is_named d ≡ true → is_owned table k d ≡ true → (x : List ℕ) × (t : TypeId) × (d ≡ named_row k x (kind.Use t))
  use-shape (row.Function f) is named owned = absurd (cc)
  use-shape (row.Type d) is named owned = by d.name d.kind is named (split (is_own_name k d.name) _ owned).0
    where
      by : (o : Option TypeName) (what : TypeDefKind) → is_use_def (row.Type (record { name = o; kind = what })) ≡ true → is_named (row.Type (record { name = o; kind = what })) ≡ true
          → is_own_name k o ≡ true → (x : List ℕ) × (t : TypeId) × (row.Type (record { name = o; kind = what }) ≡ named_row k x (kind.Use t))
      by None what is named own = absurd (cc)
      by (Some y) (kind.Use t) is named own =
          (y.name, t, ap (λ j. row.Type (record { name = Some (record { interface = record { 0 = j }; name = y.name }); kind = kind.Use t })) (eqb-true y.interface.0 k own))
      by (Some y) _ is named own = absurd (cc)

  -- before a used name nothing is unused
  use-closes : (unused : List ℕ) (d : Definition) → is_use_def d ≡ true → is_named d ≡ true → is_owned table k d ≡ true → is_next unused (inner_rows table d) d ≡ true → unused ≡ []
  use-closes unused d is named owned next =
      let s = use-shape d is named owned in
      let here : is_next unused (inner_rows table (named_row k s.0 (kind.Use s.1))) (named_row k s.0 (kind.Use s.1)) ≡ true =
      subst (λ e. is_next unused (inner_rows table e) e ≡ true) s.2 next in
      no-length unused (split _ (length unused - 0 == 0) (split true _ here).1).1

  head-owned : (n : ℕ) (unused : List ℕ) (d : Definition) (ds rest : List Definition) → HasFacts table start k n unused (d ∷ ds) rest → is_owned table k d ≡ true
  head-owned n unused d ds rest f = (split (is_owned table k d) _ (split (is_local table k d) _ f.local).0).0

  head-next : (n : ℕ) (unused : List ℕ) (d : Definition) (ds rest : List Definition) → HasFacts table start k n unused (d ∷ ds) rest → is_next unused (inner_rows table d) d ≡ true
  head-next n unused d ds rest f = (split (is_next unused (inner_rows table d) d) _ f.used).0

  pub head-closes : (n : ℕ) (unused : List ℕ) (d : Definition) (ds rest : List Definition) → HasFacts table start k n unused (d ∷ ds) rest → closes d (length unused - length (inner_rows table d)) ≡ true
  head-closes n unused d ds rest f =
      (split _ (closes d (length unused - length (inner_rows table d))) (split (can_use d (inner_rows table d)) _ (head-next n unused d ds rest f)).1).1

  pub unnamed-left : (n : ℕ) (unused : List ℕ) (d : Definition) → is_unnamed d ≡ true → unused_after n unused (inner_rows table d) d ≢ []
  unnamed-left n unused d un e = by (take (length unused - length (inner_rows table d)) unused) (ap (λ b. take (length unused - length (inner_rows table d)) unused ++ one_if b n) (sym un) ∙ e)
    where
      by : (ns : List ℕ) → ns ++ n ∷ [] ≡ [] → ⊥
      by [] h = absurd (cc)
      by (m ∷ ns) h = absurd (cc)

  -- where something is unused, the next row with a name is no used name
  stuck : (n : ℕ) (unused : List ℕ) (ds rest : List Definition) → StandAt table n ds → HasFacts table start k n unused ds rest → unused ≢ []
      → (u : ℕ) (us : List ℕ) → places_where is_named n ds ≡ u ∷ us → passes is_use_def (slice_get table u) ≡ true → ⊥
  stuck n unused [] rest stand f some u us e is = absurd (cc)
  stuck n unused (d ∷ ds) rest stand f some u us e is =
      by (is_named d) refl e (λ g some e. stuck (n + 1) (unused_after n unused (inner_rows table d) d) ds rest stand.1 g some u us e is)
    where
      by : (b : Bool) → is_named d ≡ b → cond b (n ∷ places_where is_named (n + 1) ds) (places_where is_named (n + 1) ds) ≡ u ∷ us
          → (HasFacts table start k (n + 1) (unused_after n unused (inner_rows table d) d) ds rest → unused_after n unused (inner_rows table d) d ≢ []
          → places_where is_named (n + 1) ds ≡ u ∷ us → ⊥) → ⊥
      by true named e again =
          let same : n ≡ u = cc in
          let use_d : is_use_def d ≡ true = ap (passes is_use_def) (sym stand.0) ∙ ap (λ m. passes is_use_def (slice_get table m)) same ∙ is in
          some (use-closes unused d use_d named (head-owned n unused d ds rest f) (head-next n unused d ds rest f))
      by false un e again = again (facts-more table start k n unused d ds rest f) (unnamed-left n unused d (not-named d un)) e

  -- no row with a name is a used one
  plain : (n : ℕ) (unused : List ℕ) (ds rest : List Definition) → StandAt table n ds → HasFacts table start k n unused ds rest
      → list_all (λ m. not (passes is_use_def (slice_get table m))) (places_where is_named n ds) ≡ true → list_all (λ d. not (is_use_def d)) ds ≡ true
  plain n unused [] rest stand f h = refl
  plain n unused (d ∷ ds) rest stand f h = by (is_named d) refl h (λ h. plain (n + 1) (unused_after n unused (inner_rows table d) d) ds rest stand.1 (facts-more table start k n unused d ds rest f) h)
    where
      by : (b : Bool) → is_named d ≡ b
          → list_all (λ m. not (passes is_use_def (slice_get table m))) (cond b (n ∷ places_where is_named (n + 1) ds) (places_where is_named (n + 1) ds)) ≡ true
          → (list_all (λ m. not (passes is_use_def (slice_get table m))) (places_where is_named (n + 1) ds) ≡ true → list_all (λ d. not (is_use_def d)) ds ≡ true)
          → list_all (λ d. not (is_use_def d)) (d ∷ ds) ≡ true
      by true named h again =
          let s = split (not (passes is_use_def (slice_get table n))) _ h in
          both _ _ (ap (λ o. not (passes is_use_def o)) (sym stand.0) ∙ s.0) (again s.1)
      by false un h again = both _ _ (ap not (inner-plain d _ (not-named d un) (head-closes n unused d ds rest f))) (again h)

  pub uses-first : (n : ℕ) (unused : List ℕ) (ds rest : List Definition) → StandAt table n ds → HasFacts table start k n unused ds rest
      → (us ls : List ℕ) → places_where is_named n ds ≡ us ++ ls → list_all (λ m. passes is_use_def (slice_get table m)) us ≡ true
      → list_all (λ m. not (passes is_use_def (slice_get table m))) ls ≡ true → UsesFirst k ds
  uses-first n unused ds rest stand f [] ls e is none =
      no_use ds (plain n unused ds rest stand f (ap (list_all (λ m. not (passes is_use_def (slice_get table m)))) e ∙ none))
  uses-first n unused [] rest stand f (u ∷ us) ls e is none = absurd (cc)
  uses-first n unused (d ∷ ds) rest stand f (u ∷ us) ls e is none =
      by (is_named d) refl e (λ g e. uses-first (n + 1) (unused_after n unused (inner_rows table d) d) ds rest stand.1 g us ls e s.1 none)
    where
      s : (passes is_use_def (slice_get table u) ≡ true) × (list_all (λ m. passes is_use_def (slice_get table m)) us ≡ true)
      s = split _ _ is

      by : (b : Bool) → is_named d ≡ b → cond b (n ∷ places_where is_named (n + 1) ds) (places_where is_named (n + 1) ds) ≡ u ∷ (us ++ ls)
          → (HasFacts table start k (n + 1) (unused_after n unused (inner_rows table d) d) ds rest → places_where is_named (n + 1) ds ≡ us ++ ls → UsesFirst k ds) → UsesFirst k (d ∷ ds)
      by true named e again =
          let same : n ≡ u = cc in
          let use_d : is_use_def d ≡ true = ap (passes is_use_def) (sym stand.0) ∙ ap (λ m. passes is_use_def (slice_get table m)) same ∙ s.0 in
          let shape = use-shape d use_d named (head-owned n unused d ds rest f) in
          subst (λ x. UsesFirst k (x ∷ ds)) (sym shape.2) (one_use shape.0 shape.1 ds (again (facts-more table start k n unused d ds rest f) cc))
      by false un e again =
          absurd (stuck (n + 1) (unused_after n unused (inner_rows table d) d) ds rest stand.1 (facts-more table start k n unused d ds rest f)
          (unnamed-left n unused d (not-named d un)) u (us ++ ls) e s.0)
