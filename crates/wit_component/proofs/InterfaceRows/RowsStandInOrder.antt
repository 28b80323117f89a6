-- Rows that stand in a table one behind the other.
use Rattle.std.proofs.Common.{◌≡◌, ◌≤◌, ℕ, ◌+◌, ◌-◌, List, [], ◌∷◌, ◌++◌, length, take, drop, slice_get, Some, refl, ap, sym, subst, ◌∙◌, arith, append_assoc, length-append, length-take, take-add, drop-drop}
use Rattle.std.proofs.lemmas.List.{take-append-drop, length-drop}
use Rattle.tables.specs.declared.tables.Definition.{Definition}
use Rattle.tables.specs.declared.tables.Interface.{Interface}
use Rattle.package_form.specs.Ends.{end_of, rows_of}

-- these rows stand in the table, the first of them at place n
abbrev pub StandAt : List Definition → ℕ → List Definition → Type 0
StandAt table n [] = Unit {0}
StandAt table n (d ∷ ds) = (slice_get table n ≡ Some d) × StandAt table (n + 1) ds

get-behind : (pre : List Definition) (d : Definition) (ds : List Definition) → slice_get (pre ++ d ∷ ds) (length pre) ≡ Some d
get-behind [] d ds = refl
get-behind (x ∷ pre) d ds = get-behind pre d ds

stand-behind : (pre ds : List Definition) → StandAt (pre ++ ds) (length pre) ds
stand-behind pre [] = tt
stand-behind pre (d ∷ ds) =
    let len : length (pre ++ d ∷ []) ≡ length pre + 1 = length-append pre (d ∷ []) in (
      get-behind pre d ds,
      subst (λ n. StandAt (pre ++ d ∷ ds) n ds) len (subst (λ xs. StandAt xs (length (pre ++ d ∷ [])) ds) (append_assoc pre (d ∷ []) ds) (stand-behind (pre ++ d ∷ []) ds)),
    )

stand-front : (table : List Definition) (n : ℕ) (ds es : List Definition) → StandAt table n (ds ++ es) → StandAt table n ds
stand-front table n [] es h = tt
stand-front table n (d ∷ ds) es h = (h.0, stand-front table (n + 1) ds es h.1)

module _ (table : List Definition) (start : ℕ) where
  stand-all : start ≤ length table → StandAt table start (drop start table)
  stand-all h =
      let len : length (take start table) ≡ start = length-take start table ∙ omega (arith, h) in
      subst (λ n. StandAt table n (drop start table)) len
      (subst (λ xs. StandAt xs (length (take start table)) (drop start table)) (take-append-drop start table) (stand-behind (take start table) (drop start table)))

  module _ (i : Interface) (low : start ≤ end_of start i) (high : end_of start i ≤ length table) where
    pub rows-length : length (rows_of table start i) ≡ end_of start i - start
    rows-length = length-take (end_of start i - start) (drop start table) ∙ omega (arith, low, high, length-drop start table)

    pub rows-end : start + length (rows_of table start i) ≡ end_of start i
    rows-end = omega (arith, low, rows-length)

    pub rows-split : drop start table ≡ rows_of table start i ++ drop (end_of start i) table
    rows-split =
        let same : drop (end_of start i - start) (drop start table) ≡ drop (end_of start i) table = drop-drop-to in
        sym (take-append-drop (end_of start i - start) (drop start table)) ∙ ap (λ xs. rows_of table start i ++ xs) same
      where
        drop-drop-to : drop (end_of start i - start) (drop start table) ≡ drop (end_of start i) table
        drop-drop-to = drop-drop (end_of start i - start) start table ∙ ap (λ n. drop n table) (omega (arith, low))

    pub rows-stand : StandAt table start (rows_of table start i)
    rows-stand = stand-front table start (rows_of table start i) (drop (end_of start i) table) (subst (λ xs. StandAt table start xs) rows-split (stand-all (omega (arith, low, high))))

    pub rows-front : take start table ++ rows_of table start i ≡ take (end_of start i) table
    rows-front = sym (take-add start (end_of start i - start) table) ∙ ap (λ n. take n table) (omega (arith, low))
