-- Rows that name earlier types alone, and types alone.
use Rattle.std.proofs.Common.{◌≡◌, ◌<◌, List, ◌∷◌, ◌++◌, length, length-append, slice_get, get_or, refl, sym, ap, subst, ◌∙◌, arith}
use Rattle.std.specs.Prelude.{true, ◌&&◌, IsTrue}
use Rattle.std.specs.List.{list_all}
use Rattle.std.proofs.lemmas.Bool.{and_parts, ltb-true}
use Rattle.std.proofs.lemmas.List.Folds.{list_all-append}
use Rattle.std.proofs.Math.Seq.{get_or-append_seam}
use Rattle.tables.specs.Tables.{definition_all, is_below, definition_below, is_type, is_there, type_of, are_earlier, name_types}
use Rattle.tables.specs.declared.tables.ValType.{ValType}
use Rattle.tables.specs.declared.tables.ValType.TheVariants as val
use Rattle.tables.specs.declared.tables.Definition.{Definition}
use Rattle.tables.proofs.NamesEarlierTypes.{definition-both}
use Rattle.tables.proofs.ClosedTypesRowByRow.{earlier-at}
use Rattle.package_form.proofs.AllAndContains.{get-front}
use Rattle.tree_meaning.proofs.TypesStayTypes.{definition-grows}
use Rattle.tree_meaning.proofs.TableRows.{IsTyped}

-- rows that name earlier types alone are typed
pub earlier-typed : (rows : List Definition) → IsTrue (are_earlier 0 rows) → IsTrue (name_types rows) → IsTyped rows
earlier-typed rows earlier typed front d rest e = definition-grows (λ v. is_below (length front) v && is_type rows v) (is_type front) keep d both
  where
    inside : length front < length rows
    inside = let a = ap length e in let b = length-append front (d ∷ rest) in omega (arith, a, b)

    at : get_or rows (length front) d ≡ d
    at = ap (λ xs. get_or xs (length front) d) e ∙ get_or-append_seam front d rest d

    below : definition_below (length front) d ≡ true
    below = let x = earlier-at 0 rows (length front) d earlier inside in subst (λ c. definition_below (length front) c ≡ true) at (subst (λ n. definition_below n (get_or rows (length front) d) ≡ true) (omega arith) x)

    named : definition_all (is_type rows) d ≡ true
    named =
        let split = list_all-append (definition_all (is_type rows)) front (d ∷ rest) in
        let all : list_all (definition_all (is_type rows)) (front ++ d ∷ rest) ≡ true = ap (list_all (definition_all (is_type rows))) (sym e) ∙ typed in
        (and_parts (definition_all (is_type rows) d) (list_all (definition_all (is_type rows)) rest) (and_parts (list_all (definition_all (is_type rows)) front) (list_all (definition_all (is_type rows)) (d ∷ rest)) (sym split ∙ all)).1).0

    both : definition_all (λ v. is_below (length front) v && is_type rows v) d ≡ true
    both = definition-both (is_below (length front)) (is_type rows) d ∙ (ap (λ b. b && definition_all (is_type rows) d) below ∙ named)

    keep : (v : ValType) → is_below (length front) v && is_type rows v ≡ true → is_type front v ≡ true
    keep (val.Primitive p) h = refl
    keep val.String h = refl
    keep (val.Id t) h =
        let l = ltb-true t.0 (length front) (and_parts (is_below (length front) (val.Id t)) (is_type rows (val.Id t)) h).0 in
        let g : slice_get rows t.0 ≡ slice_get front t.0 = ap (λ xs. slice_get xs t.0) e ∙ get-front front (d ∷ rest) t.0 l in
        subst (λ o. is_there (type_of o) ≡ true) g (and_parts (is_below (length front) (val.Id t)) (is_type rows (val.Id t)) h).1
