-- The types that a row names stand in the table.
use Rattle.std.proofs.Common.{◌≡◌, ℕ, zero, suc, ◌+◌, ◌<◌, Bool, true, IsTrue, List, [], ◌∷◌, Option, Some, None, length, map, get_or, slice_get, refl, sym, ap, subst, ◌∙◌, arith}
use Rattle.std.specs.List.{list_all}
use Rattle.std.proofs.lemmas.Bool.{and_parts, and_from, lt-ltb}
use Rattle.std.proofs.lemmas.List.Folds.{list_all-map}
use Rattle.std.proofs.lemmas.Option.{slice_get_read, slice_get_within}
use Rattle.tables.specs.Tables.{option_all, kind_all, definition_all, is_below, option_below, definition_below}
use Rattle.tables.specs.declared.tables.Case.{Case}
use Rattle.tables.specs.declared.tables.Definition.{Definition}
use Rattle.tables.specs.declared.tables.Definition.TheVariants as row
use Rattle.tables.specs.declared.tables.Field.{Field}
use Rattle.tables.specs.declared.tables.Parameter.{Parameter}
use Rattle.tables.specs.declared.tables.Resolve.{Resolve}
use Rattle.tables.specs.declared.tables.TypeDefKind.{TypeDefKind}
use Rattle.tables.specs.declared.tables.TypeDefKind.TheVariants as kind
use Rattle.tables.specs.declared.tables.ValType.{ValType}
use Rattle.tables.proofs.ClosedTypesRowByRow.{earlier-at, get-at, option_below-later}
use Rattle.values.specs.Types.{IsInside}
use Rattle.host_calls.specs.Contents.{member_types_in, types_of_members, target_in, target_of}
use Rattle.host_calls.specs.Rows.{row_type}

-- what holds of each holds of the one at a place
all-at : {A : Type 0} (p : A → Bool) (xs : List A) (i : ℕ) (x : A) → list_all p xs ≡ true → slice_get xs i ≡ Some x → p x ≡ true
all-at p [] i x h e = absurd (cc)
all-at p (y ∷ ys) zero x h e = let same : y ≡ x = cc in subst (λ z. p z ≡ true) same (and_parts _ _ h).0
all-at p (y ∷ ys) (suc i) x h e = all-at p ys i x (and_parts _ _ h).1 e

module _ (has : ValType → Bool) where
  no-types : {A : Type 0} (xs : List A) → list_all (option_all has) (map (λ (x : A). None) xs) ≡ true
  no-types [] = refl
  no-types (x ∷ xs) = no-types xs

  members-in : (k : TypeDefKind) → kind_all has k ≡ true → list_all (option_all has) (member_types_in k) ≡ true
  members-in (kind.Use t) h = refl
  members-in (kind.Alias v) h = refl
  members-in (kind.List v) h = refl
  members-in (kind.Option v) h = and_from _ _ h refl
  members-in (kind.Result v w) h = let hs = and_parts _ _ h in and_from _ _ hs.0 (and_from _ _ hs.1 refl)
  members-in (kind.Tuple vs) h = list_all-map (option_all has) (λ (v : ValType). Some v) vs ∙ h
  members-in (kind.Record fs) h = list_all-map (option_all has) (λ (f : Field). Some f.ty) fs ∙ h
  members-in (kind.Variant cs) h = list_all-map (option_all has) (λ (c : Case). c.ty) cs ∙ h
  members-in (kind.Enum ns) h = no-types ns
  members-in (kind.Flags ns) h = no-types ns

  members-of : (d : Definition) → definition_all has d ≡ true → list_all (option_all has) (types_of_members d) ≡ true
  members-of (row.Type d) h = members-in d.kind h
  members-of (row.Function f) h = list_all-map (option_all has) (λ (p : Parameter). Some p.ty) f.params ∙ (and_parts _ _ h).0

  target-in : (k : TypeDefKind) → kind_all has k ≡ true → option_all has (target_in k) ≡ true
  target-in (kind.Use t) h = h
  target-in (kind.Alias v) h = h
  target-in (kind.List v) h = h
  target-in _ h = refl

  target-of : (d : Definition) → definition_all has d ≡ true → option_all has (target_of d) ≡ true
  target-of (row.Type d) h = target-in d.kind h
  target-of (row.Function f) h = (and_parts _ _ h).1

-- the definition that is read in a row
pub there : (r s : Resolve) (rows : List Definition) (k : ℕ) (d : Definition) → rows ≡ s.definitions → s ≡ r → k < length rows → d ≡ get_or rows k d → slice_get r.definitions k ≡ Some d
there r s rows k d same is low read = ap (λ ds. slice_get ds k) (sym (same ∙ ap (λ (t : Resolve). t.definitions) is)) ∙ slice_get_read rows _ k d refl low read

module _ (r : Resolve) (k : ℕ) (d : Definition) (at : slice_get r.definitions k ≡ Some d) where
  within : k < length r.definitions
  within = slice_get_within r.definitions k d at

  -- the types that a row names stand before it
  below : definition_below k d ≡ true
  below =
      let got = get-at r.definitions k d at in
      let same : 0 + k ≡ k = omega arith in
      subst (λ n. definition_below n d ≡ true) same (subst (λ x. definition_below (0 + k) x ≡ true) (got.1 d) (earlier-at 0 r.definitions k d r.earlier got.0))

  pub row-inside : IsInside r (row_type k)
  row-inside = lt-ltb k (length r.definitions) within

  pub member-inside : (i : ℕ) (v : Option ValType) → slice_get (types_of_members d) i ≡ Some v → IsTrue (option_below (length r.definitions) v)
  member-inside i v is = option_below-later k (length r.definitions) v (omega (arith, within)) (all-at (option_all (is_below k)) (types_of_members d) i v (members-of (is_below k) d below) is)

  pub target-inside : IsTrue (option_below (length r.definitions) (target_of d))
  target-inside = option_below-later k (length r.definitions) (target_of d) (omega (arith, within)) (target-of (is_below k) d below)
