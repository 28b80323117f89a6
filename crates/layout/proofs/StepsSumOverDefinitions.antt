-- The steps of a table are those of its definitions.
use Rattle.std.proofs.Common.{◌≡◌, ◌+◌, List, [], ◌∷◌, Option, None, Some, length, filter, is_some, cond, refl, arith}
use Rattle.std.specs.Option.{option_map}
use Rattle.std.proofs.lemmas.List.Sums.{sum_by-cons}
use Rattle.tables.specs.declared.tables.ValType.{ValType}
use Rattle.tables.specs.declared.tables.Definition.{Definition}
use Rattle.tables.specs.declared.tables.Definition.TheVariants as row
use Rattle.layout.specs.Parts.{payloads}
use Rattle.layout.specs.Rows.{row_in, choices_at}
use Rattle.layout.specs.Work.{count, types_in, laid_in, results_in, laid_work, results_work, total_work}
use Rattle.layout.specs.declared.rows.Row.{Row}

module _ (rows : List Row) where
  -- the payloads that are looked up are those of the cases that have one
  pub count-payloads : {A : Type 0} (pay : A → Option ValType) (xs : List A)
      → length (payloads (choices_at rows pay xs)) ≡ length (filter (λ x. is_some (pay x)) xs)
  count-payloads pay [] = refl
  count-payloads pay (x ∷ xs) = by (pay x) (count-payloads pay xs)
    where
      by : (o : Option ValType) → length (payloads (choices_at rows pay xs)) ≡ length (filter (λ y. is_some (pay y)) xs)
          → length (payloads (option_map (row_in rows) o ∷ choices_at rows pay xs)) ≡ length (cond (is_some o) (x ∷ filter (λ y. is_some (pay y)) xs) (filter (λ y. is_some (pay y)) xs))
      by None rest = rest
      by (Some v) rest = omega (arith, rest)

  pub count-result : (ok error : Option ValType) → length (payloads (choices_at rows (λ c. c) (ok ∷ error ∷ []))) ≡ count ok + count error
  count-result None None = refl
  count-result None (Some e) = refl
  count-result (Some v) None = refl
  count-result (Some v) (Some e) = refl

  pub count-none : {A : Type 0} (xs : List A) → length (payloads (choices_at rows (λ x. None) xs)) ≡ 0
  count-none [] = refl
  count-none (x ∷ xs) = count-none xs

types-split : (d : Definition) → laid_in d + results_in d ≡ types_in d
types-split (row.Type d) = omega arith
types-split (row.Function f) = refl

pub work-split : (ds : List Definition) → laid_work ds + results_work ds ≡ total_work ds
work-split [] = refl
work-split (d ∷ ds) =
    let laid = sum_by-cons (λ (e : Definition). 1 + laid_in e) d ds in
    let results = sum_by-cons results_in d ds in
    let whole = sum_by-cons (λ (e : Definition). 1 + types_in e) d ds in
    let here = types-split d in
    let rest = work-split ds in
    omega arith
