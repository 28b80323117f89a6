-- Type entries: each row takes some, so a package has at most as many rows.
use Rattle.std.proofs.Common.{◌≡◌, ℕ, zero, suc, ◌+◌, ◌<◌, ◌≤◌, Bool, true, false, List, [], ◌∷◌, Option, None, Some, nat_lt, map, sum, take, length, sym, ◌∙◌, arith}
use Rattle.std.proofs.lemmas.Bool.{lt-ltb}
use Rattle.std.proofs.lemmas.List.Sums.{sum_by-cons}
use Rattle.std.proofs.lemmas.Bool.Decides.{nat_tests}
use Rattle.tables.specs.declared.tables.TypeName.{TypeName}
use Rattle.tables.specs.declared.tables.ValType.TheVariants as val
use Rattle.tables.specs.declared.tables.TypeDefKind.{TypeDefKind}
use Rattle.tables.specs.declared.tables.TypeDefKind.TheVariants as kind
use Rattle.package_form.specs.Entries.{entries_of, entries_under, world_entries}
use Rattle.tables.specs.declared.tables.World.{World}
use Rattle.tables.specs.declared.tables.Definition.{Definition}
use Rattle.tables.specs.declared.tables.Definition.TheVariants as row

sum-front : (rows : List Definition) (k : ℕ) → sum (map entries_of (take k rows)) ≤ sum (map entries_of rows)
sum-front rows zero = omega arith
sum-front [] (suc k) = omega arith
sum-front (d ∷ rows) (suc k) =
    let whole : sum (map entries_of (d ∷ rows)) ≡ entries_of d + sum (map entries_of rows) = sum_by-cons (λ x. x) (entries_of d) (map entries_of rows) in
    let front : sum (map entries_of (take (suc k) (d ∷ rows))) ≡ entries_of d + sum (map entries_of (take k rows)) = sum_by-cons (λ x. x) (entries_of d) (map entries_of (take k rows)) in
    omega (arith, sum-front rows k, whole, front)

pub passes : (rows : List Definition) (k n total : ℕ) → total ≡ n + sum (map entries_of (take k rows)) → 65535 < total → true ≡ nat_lt 65535 (n + sum (map entries_of rows))
passes rows k n total e h = sym (lt-ltb 65535 (n + sum (map entries_of rows)) (omega (arith, e, h, sum-front rows k)))

worlds-front : (ws : List World) (k : ℕ) → sum (map world_entries (take k ws)) ≤ sum (map world_entries ws)
worlds-front ws zero = omega arith
worlds-front [] (suc k) = omega arith
worlds-front (w ∷ ws) (suc k) =
    let whole : sum (map world_entries (w ∷ ws)) ≡ world_entries w + sum (map world_entries ws) = sum_by-cons (λ x. x) (world_entries w) (map world_entries ws) in
    let front : sum (map world_entries (take (suc k) (w ∷ ws))) ≡ world_entries w + sum (map world_entries (take k ws)) = sum_by-cons (λ x. x) (world_entries w) (map world_entries (take k ws)) in
    omega (arith, worlds-front ws k, whole, front)

pub worlds-pass : (ws : List World) (rows : List Definition) (k n total : ℕ) → total ≡ 1 + n + sum (map world_entries (take k ws)) → 65535 < total
    → true ≡ nat_lt 65535 (1 + n + (sum (map world_entries ws) + sum (map entries_of rows)))
worlds-pass ws rows k n total e h =
    let all = sum (map entries_of rows) in
    sym (lt-ltb 65535 (1 + n + (sum (map world_entries ws) + all)) (omega (arith, e, h, worlds-front ws k)))

some-entry : (d : Definition) → 0 < entries_of d
some-entry (row.Function f) = omega arith
some-entry (row.Type d) = by d.name d.kind
  where
    by : (n : Option TypeName) (k : TypeDefKind) → 0 < entries_under n k
    by None k = omega arith
    by (Some n) (kind.Use t) = omega arith
    by (Some n) (kind.Alias (val.Id t)) = omega arith
    by (Some n) (kind.Alias (val.Primitive p)) = omega arith
    by (Some n) (kind.Alias val.String) = omega arith
    by (Some n) (kind.List v) = omega arith
    by (Some n) (kind.Option v) = omega arith
    by (Some n) (kind.Result v w) = omega arith
    by (Some n) (kind.Tuple vs) = omega arith
    by (Some n) (kind.Record fs) = omega arith
    by (Some n) (kind.Variant cs) = omega arith
    by (Some n) (kind.Enum ns) = omega arith
    by (Some n) (kind.Flags ns) = omega arith

entries-many : (rows : List Definition) → length rows ≤ sum (map entries_of rows)
entries-many [] = omega arith
entries-many (d ∷ rows) =
    let whole : sum (map entries_of (d ∷ rows)) ≡ entries_of d + sum (map entries_of rows) = sum_by-cons (λ x. x) (entries_of d) (map entries_of rows) in
    omega (arith, entries-many rows, whole, some-entry d)

not-above : (a b : ℕ) → nat_lt a b ≡ false → b ≤ a
not-above a b h = grind (arith, nat_tests)

pub within-entries : (ws : List World) (rows : List Definition) (n : ℕ) (b : Bool) → b ≡ nat_lt 65535 (1 + n + (sum (map world_entries ws) + sum (map entries_of rows))) → b ≡ false
    → 1 + n + (sum (map world_entries ws) + sum (map entries_of rows)) ≤ 65535
within-entries ws rows n b e h = not-above 65535 (1 + n + (sum (map world_entries ws) + sum (map entries_of rows))) (sym e ∙ h)

pub few-rows : (ws : List World) (rows : List Definition) (n : ℕ) → 1 + n + (sum (map world_entries ws) + sum (map entries_of rows)) ≤ 65535 → length rows ≤ 65535
few-rows ws rows n h = let worlds = sum (map world_entries ws) in omega (arith, h, entries-many rows)
