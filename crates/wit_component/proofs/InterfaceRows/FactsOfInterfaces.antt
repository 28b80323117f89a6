-- What is known of one interface of a table in package form.
use Rattle.std.proofs.Common.{◌≡◌, ◌≤◌, IsTrue, Bool, true, false, not, ◌&&◌, ℕ, suc, ◌+◌, List, [], ◌∷◌, ◌++◌, map, drop, length, slice_get, refl, ap, sym, subst, ◌∙◌, arith}
use Rattle.std.specs.List.{list_all}
use Rattle.std.proofs.lemmas.List.Folds.{list_all-append, list_all-map}
use Rattle.std.proofs.lemmas.Slice.Eq.{bytes_eq-Decides}
use Rattle.atoms.specs.Label.{is_label}
use Rattle.package_form.specs.Ids.{places_where}
use Rattle.tables.specs.Tables.{definition_below, are_earlier, is_type_id, is_function_id, is_placed}
use Rattle.tables.specs.declared.tables.TypeId.{TypeId}
use Rattle.tables.specs.declared.tables.FunctionId.{FunctionId}
use Rattle.tables.specs.declared.tables.Definition.{Definition}
use Rattle.tables.specs.declared.tables.Interface.{Interface}
use Rattle.package_form.specs.Ends.{end_of, rows_of}
use Rattle.package_form.specs.Form.{is_named, is_use_at, is_local, ids_of, has_ids}
use Rattle.wit_component.specs.ToComponent.{is_labelled}
use Rattle.package_form.specs.Unused.{are_used}
use Rattle.wit_component.proofs.InterfaceRows.HasOwnIds.{passes, of-use, of-type, of-function, both-all, HasOwnIds, own-ids}
use Rattle.wit_component.proofs.InterfaceRows.NoneUnusedAtTheEnd.{behind, end-behind, used-rest}
use Rattle.wit_component.proofs.InterfaceRows.RowsStandInOrder.{StandAt, rows-end, rows-split, rows-stand}
use Rattle.package_form.proofs.AllAndContains.{list-grows}
use Rattle.tables.proofs.ClosedTypesRowByRow.{split, both}
use Rattle.wit_component.proofs.InterfaceRows.FactsOfRows.{HasFacts}
use Rattle.wit_component.proofs.InterfaceRows.UsesFirst.{UsesFirst, uses-first}
use Rattle.wit_component.proofs.AcceptedComponents.DeclaredRows.{is_use_def}

-- interface k of the table, whose rows begin at start
pub record IsInterfaceAt (table : List Definition) (start k : ℕ) (i : Interface) : Type 0 where
  pub low : start ≤ end_of start i
  pub high : end_of start i ≤ length table
  pub ids : IsTrue (has_ids table start i)
  pub local : list_all (is_local table k) (rows_of table start i) ≡ true
  pub label : is_label i.name ≡ true
  pub labels : list_all is_labelled (rows_of table start i) ≡ true
  pub placed : IsTrue (is_placed table i)
  pub earlier : are_earlier start (drop start table) ≡ true
  pub used : are_used table start [] (drop start table) ≡ true

pub earlier-parts : (n : ℕ) (ds es : List Definition) → are_earlier n (ds ++ es) ≡ true → (are_earlier n ds ≡ true) × (are_earlier (n + length ds) es ≡ true)
earlier-parts n [] es h = let e : n ≡ n + 0 = omega arith in (refl, subst (λ m. are_earlier m es ≡ true) e h)
earlier-parts n (d ∷ ds) es h =
    let s = split (definition_below n d) _ h in
    let more = earlier-parts (n + 1) ds es s.1 in
    let e : n + 1 + length ds ≡ n + suc (length ds) = omega arith in
    (both _ _ s.0 more.0, subst (λ m. are_earlier m es ≡ true) e more.1)

module _ (table : List Definition) (start k : ℕ) (i : Interface) (at : IsInterfaceAt table start k i) where
  pub stand : StandAt table start (rows_of table start i)
  stand = rows-stand table start i at.low at.high

  parts : (are_earlier start (rows_of table start i) ≡ true) × (are_earlier (start + length (rows_of table start i)) (drop (end_of start i) table) ≡ true)
  parts = earlier-parts start (rows_of table start i) (drop (end_of start i) table) (subst (λ ds. are_earlier start ds ≡ true) (rows-split table start i at.low at.high) at.earlier)

  pub facts : HasFacts table start k start [] (rows_of table start i) (drop (end_of start i) table)
  facts = record {
    local = at.local;
    labels = at.labels;
    earlier = parts.0;
    used = subst (λ ds. are_used table start [] ds ≡ true) (rows-split table start i at.low at.high) at.used;
    since = refl;
    begins = omega arith;
  }

  pub next-earlier : are_earlier (end_of start i) (drop (end_of start i) table) ≡ true
  next-earlier = subst (λ n. are_earlier n (drop (end_of start i) table) ≡ true) (rows-end table start i at.low at.high) parts.1

  ids-are : ids_of i ≡ places_where is_named start (rows_of table start i)
  ids-are = (bytes_eq-Decides (ids_of i) (places_where is_named start (rows_of table start i))).0 (split _ _ at.ids).0

  uses-are : list_all (is_use_at table) i.uses ≡ true
  uses-are = (split _ _ (split _ (list_all (is_use_at table) i.uses && list_all (λ t. not (is_use_at table t)) i.types) at.ids).1).0

  types-are : list_all (λ t. not (is_use_at table t)) i.types ≡ true
  types-are = (split (list_all (is_use_at table) i.uses) _ (split _ (list_all (is_use_at table) i.uses && list_all (λ t. not (is_use_at table t)) i.types) at.ids).1).1

  placed-types : list_all (is_type_id table) i.types ≡ true
  placed-types = (split _ _ (split (list_all (is_type_id table) i.uses) _ at.placed).1).0

  placed-functions : list_all (is_function_id table) i.functions ≡ true
  placed-functions = (split (list_all (is_type_id table) i.types) _ (split (list_all (is_type_id table) i.uses) _ at.placed).1).1

  pub next-used : are_used table (end_of start i) [] (drop (end_of start i) table) ≡ true
  next-used =
      let is : behind start (places_where is_named start (rows_of table start i)) ≡ start + length (rows_of table start i) =
      ap (behind start) (sym ids-are) ∙ sym (end-behind start i) ∙ sym (rows-end table start i at.low at.high) in
      subst (λ n. are_used table n [] (drop (end_of start i) table) ≡ true) (rows-end table start i at.low at.high)
      (used-rest table start k start start [] (rows_of table start i) (drop (end_of start i) table) facts (omega arith) (λ e. refl) is)

  pub ids-own : HasOwnIds start i (rows_of table start i)
  ids-own = own-ids table start i (rows_of table start i) stand ids-are uses-are types-are at.placed

  no-test : (b : Bool) → b ≡ false → not b ≡ true
  no-test b h = ap not h

  pub first : UsesFirst k (rows_of table start i)
  first =
      uses-first table start k start [] (rows_of table start i) (drop (end_of start i) table) stand facts (map (λ t. t.0) i.uses) (map (λ t. t.0) i.types ++ map (λ f. f.0) i.functions)
      (sym ids-are)
      (list_all-map (λ m. passes is_use_def (slice_get table m)) (λ (t : TypeId). t.0) i.uses
      ∙ list-grows (is_use_at table) (λ t. passes is_use_def (slice_get table t.0)) (λ t h. (of-use (slice_get table t.0) h).0) i.uses uses-are)
      (list_all-append (λ m. not (passes is_use_def (slice_get table m))) (map (λ t. t.0) i.types) (map (λ f. f.0) i.functions)
      ∙ both _ _
      (list_all-map (λ m. not (passes is_use_def (slice_get table m))) (λ (t : TypeId). t.0) i.types
      ∙ list-grows (λ t. not (is_use_at table t) && is_type_id table t) (λ t. not (passes is_use_def (slice_get table t.0)))
      (λ t h. no-test _ (of-type (slice_get table t.0) h).0) i.types (both-all (λ t. not (is_use_at table t)) (is_type_id table) i.types types-are placed-types))
      (list_all-map (λ m. not (passes is_use_def (slice_get table m))) (λ (f : FunctionId). f.0) i.functions
      ∙ list-grows (is_function_id table) (λ f. not (passes is_use_def (slice_get table f.0))) (λ f h. no-test _ (of-function (slice_get table f.0) h).0) i.functions placed-functions))
