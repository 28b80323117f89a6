-- Bytes past the limit change nothing but that there are some.
use Rattle.std.proofs.Common.{◌≡◌, ℕ, ◌+◌, true, ltb, List, [], length, take, Option, Some, None, Result, Ok, Err, refl, sym, ap, ◌∙◌, arith, inl, inr}
use Rattle.std.specs.Prelude.{IfSome}
use Rattle.std.proofs.lemmas.Bool.{cases_lt, lt-ltb}
use Rattle.std.proofs.lemmas.List.{take_all, length-take, length-take-le}
use Rattle.atoms.specs.Streams.{ReadsUpTo}
use Rattle.ctype_format.specs.declared.error.BinError.{BinError}
use Rattle.ctype_format.specs.declared.error.BinError.TheVariants as errors
use Rattle.ctype_format.specs.Raw.{BinaryFile}
use Rattle.ctype_format.specs.File.{decoded, max_length, Decodes, DecodesOrReads}

cut_same : (xs : List ℕ) → decoded (take (max_length + 1) xs) ≡ decoded xs
unfolding decoded
cut_same xs =
    elim (cases_lt max_length (length xs)) [
      | inl lt ↦
          let long : ltb max_length (length xs) ≡ true = lt-ltb _ _ lt in
          let len : length (take (max_length + 1) xs) ≡ max_length + 1 = length-take-le (max_length + 1) xs (omega arith) in
          let cut : ltb max_length (length (take (max_length + 1) xs)) ≡ true = lt-ltb _ _ (omega (arith, len)) in
          rw (cut, long) refl
      | inr le ↦ ap decoded (take_all (max_length + 1) xs (omega arith))
    ]

either : {X : Type 0} (view : X → BinaryFile) (r : Result X BinError) (bytes xs : List ℕ) → decoded bytes ≡ decoded xs → Decodes view r bytes → DecodesOrReads view r xs
either view (Ok x) bytes xs same h = sym same ∙ h
either view (Err (errors.At fault place)) bytes xs same h = sym same ∙ h
either view (Err (errors.Read place)) bytes xs same h = tt
either view (Err errors.NoMemory) bytes xs same h = tt

-- what was decoded was read
pub of_read : {X : Type 0} (view : X → BinaryFile) (r : Result X BinError) (known : Option (List ℕ)) (bytes : List ℕ) → ReadsUpTo max_length known bytes → Decodes view r bytes → (bytes : List ℕ) × ReadsUpTo max_length known bytes × DecodesOrReads view r bytes
of_read view r known bytes reads h = (bytes, reads, either view r bytes bytes refl h)

-- where nothing was decoded, some bytes can be read
pub some_read : {X : Type 0} (view : X → BinaryFile) (r : Result X BinError) (known : Option (List ℕ)) → ((bytes : List ℕ) → DecodesOrReads view r bytes) → (bytes : List ℕ) × ReadsUpTo max_length known bytes × DecodesOrReads view r bytes
some_read view r None h = ([], (omega arith, tt), h [])
some_read view r (Some xs) h = (take (max_length + 1) xs, (omega (arith, length-take (max_length + 1) xs), refl), h (take (max_length + 1) xs))

pub of_known : {X : Type 0} (view : X → BinaryFile) (r : Result X BinError) (known : Option (List ℕ)) (bytes : List ℕ) → ReadsUpTo max_length known bytes → Decodes view r bytes → IfSome known (λ xs. DecodesOrReads view r xs)
of_known view r None bytes reads h = tt
of_known view r (Some xs) bytes reads h = either view r bytes xs (ap decoded reads.1 ∙ cut_same xs) h
