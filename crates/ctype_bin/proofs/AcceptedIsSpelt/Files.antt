-- What is written of an accepted component spells it.
use Rattle.std.proofs.Common.{◌≡◌, ℕ, ◌+◌, ◌<◌, ◌≤◌, List, [], ◌∷◌, ◌++◌, length, map, refl, subst, arith}
use Rattle.std.specs.Prelude.{◌==◌, sum}
use Rattle.std.proofs.lemmas.List.Sums.{sum_by-cons}
use Rattle.atoms.specs.Production.{give, ◌>>=◌, times, run}
use Rattle.ctype_format.specs.declared.error.Fault.TheVariants.{UnknownOpcode}
use Rattle.ctype_format.specs.declared.scope.Scope.{Scope}
use Rattle.ctype_format.specs.Bytes.{byte, only_bytes, unless, u32}
use Rattle.ctype_format.specs.Grammar.{index, zero_byte, extern_name, type, new_scope, with_entries, max_entries}
use Rattle.ctype_format.specs.File as f
use Rattle.ctype_format.specs.Raw.{Exported, BinaryFile, TypeEntry}
use Rattle.ctype_format.specs.Writing.{u32_bytes, each, counted, extern_bytes, type_bytes, exported_bytes, file_bytes}
use Rattle.ctype_format.specs.Formed.{All, Counted, FormedType, FormedExport, FormedFile}
use Rattle.ctype_bin.specs.InRange.{TypesInRange}
use Rattle.ctype_bin.specs.Accepted.{AllowedType, entries_of_type, IsAccepted}
use Rattle.ctype_bin.proofs.RewrittenIsSpelt.Files.{file_from}
use Rattle.ctype_bin.proofs.AcceptedIsSpelt.ValueTypes.{Spelt, spelt-next, spelt-give, spelt-gives, spelt-only, spelt-byte, spelt-u32, spelt-index, spelt-zero, spelt-extern, spelt-times}
use Rattle.ctype_bin.proofs.AcceptedIsSpelt.Declarations.{spelt-type}

-- ---- the type section

abbrev scope_after : Scope → List TypeEntry → Scope
scope_after scope [] = scope
scope_after scope (d ∷ ds) = scope_after (with_entries scope (scope.entries + entries_of_type d)) ds

types_after : (scope : Scope) (ds : List TypeEntry) → (scope_after scope ds).types ≡ scope.types + length ds
types_after scope [] = omega arith
types_after scope (d ∷ ds) = let ih = types_after (with_entries scope (scope.entries + entries_of_type d)) ds in omega (arith, ih)

spelt-entry : (scope : Scope) (d : TypeEntry) → FormedType d → TypesInRange scope.types (d ∷ []) → AllowedType f.max_scope_depth d → scope.entries + entries_of_type d ≤ max_entries → Spelt (f.entry_of_type scope) (type_bytes d) (d, with_entries scope (scope.entries + entries_of_type d))
unfolding f.entry_of_type
spelt-entry scope d formed ranged allowed room = spelt-gives (type f.max_scope_depth [] scope) (λ t. (t.0, with_entries scope t.1)) (type_bytes d) (d, scope.entries + entries_of_type d) (spelt-type d f.max_scope_depth [] scope formed ranged.0 allowed room)

spelt-entries : (ds : List TypeEntry) (scope : Scope) → All FormedType ds → TypesInRange scope.types ds → All (AllowedType f.max_scope_depth) ds → scope.entries + sum (map entries_of_type ds) ≤ max_entries → Spelt (run f.entry_of_type (length ds) scope) (each type_bytes ds) (ds, scope_after scope ds)
unfolding run
spelt-entries [] scope formed ranged allowed room = spelt-give ([], scope)
spelt-entries (d ∷ ds) scope formed ranged allowed room =
    let all : sum (map entries_of_type (d ∷ ds)) ≡ entries_of_type d + sum (map entries_of_type ds) = sum_by-cons (λ n. n) (entries_of_type d) (map entries_of_type ds) in
    spelt-next (f.entry_of_type scope) (λ first. run f.entry_of_type (length ds) first.1 >>= λ others. give (first.0 ∷ others.0, others.1)) (type_bytes d) (each type_bytes ds) (d, with_entries scope (scope.entries + entries_of_type d)) (d ∷ ds, scope_after scope (d ∷ ds))
    (spelt-entry scope d formed.0 (ranged.0, tt) allowed.0 (omega (arith, room, all)))
    (spelt-gives (run f.entry_of_type (length ds) (with_entries scope (scope.entries + entries_of_type d))) (λ others. (d ∷ others.0, others.1)) (each type_bytes ds) (ds, scope_after (with_entries scope (scope.entries + entries_of_type d)) ds)
    (spelt-entries ds (with_entries scope (scope.entries + entries_of_type d)) formed.1 ranged.1 allowed.1 (omega (arith, room, all))))

spelt-types : (ds : List TypeEntry) → Counted FormedType ds → TypesInRange 0 ds → All (AllowedType f.max_scope_depth) ds → sum (map entries_of_type ds) ≤ max_entries → Spelt f.type_section (counted type_bytes ds) (ds, scope_after (new_scope 0) ds)
unfolding f.type_section
spelt-types ds formed ranged allowed room = spelt-next u32 (λ n. run f.entry_of_type n (new_scope 0)) (u32_bytes (length ds)) (each type_bytes ds) (length ds) (ds, scope_after (new_scope 0) ds) (spelt-u32 (length ds) formed.0)
    (spelt-entries ds (new_scope 0) formed.1 ranged allowed (omega (arith, room)))

-- ---- the export section

spelt-exported : (types : ℕ) (e : Exported) → FormedExport e → e.type < types → Spelt (f.exported types) (exported_bytes e) e
unfolding f.exported
spelt-exported types e formed lt = spelt-next extern_name _ (extern_bytes e.name) (3 ∷ (u32_bytes e.type ++ 0 ∷ [])) e.name e (spelt-extern e.name formed.0)
    (spelt-next (only_bytes byte (λ b. unless (b == 3) (UnknownOpcode b))) _ (3 ∷ []) (u32_bytes e.type ++ 0 ∷ []) 3 e (spelt-only byte (λ b. unless (b == 3) (UnknownOpcode b)) (3 ∷ []) 3 (spelt-byte 3) refl)
    (spelt-next (index types) _ (u32_bytes e.type) (0 ∷ []) e.type e (spelt-index types e.type formed.1 lt)
    (spelt-gives zero_byte (λ b. record { name = e.name; type = e.type }) (0 ∷ []) 0 spelt-zero)))

spelt-exports : (types : ℕ) (es : List Exported) → Counted FormedExport es → All (λ e. e.type < types) es → Spelt (f.export_section types) (counted exported_bytes es) es
unfolding f.export_section
spelt-exports types es formed ranged = spelt-next u32 (λ n. times n (f.exported types)) (u32_bytes (length es)) (each exported_bytes es) (length es) es (spelt-u32 (length es) formed.0)
    (spelt-times (f.exported types) exported_bytes FormedExport (λ e. e.type < types) (spelt-exported types) es formed.1 ranged)

-- ---- the file

pub file_spelt : (x : BinaryFile) → FormedFile x → IsAccepted x → f.component_file.spells (file_bytes x) x
file_spelt x formed accepted =
    let count = types_after (new_scope 0) x.types in
    let same : length x.types ≡ (scope_after (new_scope 0) x.types).types = omega (arith, count) in
    file_from (x.types, scope_after (new_scope 0) x.types) x.exports
    (spelt-types x.types formed.types accepted.in_range.0 accepted.allowed accepted.entries).spells
    (spelt-exports (scope_after (new_scope 0) x.types).types x.exports formed.exports (subst (λ (n : ℕ). All (λ e. e.type < n) x.exports) same accepted.in_range.1)).spells
    formed.type_size formed.export_size
