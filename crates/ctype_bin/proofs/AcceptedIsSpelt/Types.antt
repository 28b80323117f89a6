-- What is written of an accepted type without a scope of its own spells it.
use Rattle.std.proofs.Common.{◌≡◌, ℕ, zero, suc, ◌+◌, ◌<◌, Bool, false, List, [], ◌∷◌, ◌++◌, length, None, refl, sym, subst, append_assoc}
use Rattle.std.specs.Prelude.{◌&&◌, ◌==◌}
use Rattle.std.proofs.lemmas.Bool.{lt-leb}
use Rattle.atoms.specs.Production.{when, times}
use Rattle.ctype_format.specs.declared.opcode.Opcode.{Opcode}
use Rattle.ctype_format.specs.declared.opcode.Opcode.TheVariants as op
use Rattle.ctype_format.specs.declared.scope.Scope.{Scope}
use Rattle.ctype_format.specs.Opcodes.{opcode_of}
use Rattle.ctype_format.specs.Bytes.{byte, only_bytes, u32}
use Rattle.ctype_format.specs.Grammar as g
use Rattle.ctype_format.specs.Raw.{Defined, Prim, Record, Variant, ListOf, Tuple, FlagSet, Enumeration, OptionOf, ResultOf, BinaryFunction, Define, Func, TypeEntry}
use Rattle.ctype_format.specs.Writing.{u32_bytes, each, counted, name_bytes, valtype_bytes, optional_bytes, outcome_bytes, field_bytes, case_bytes, type_bytes}
use Rattle.ctype_format.specs.Formed.{All, FormedLabel, FormedValType, FormedField, FormedCase, FormedDefined, FormedFunction}
use Rattle.ctype_bin.specs.InRange.{ValTypeInRange, FieldInRange, CaseInRange, DefinedInRange, FunctionInRange}
use Rattle.ctype_bin.specs.Accepted.{AllowedDefined}
use Rattle.ctype_bin.proofs.RewrittenIsSpelt.Types.{opcode_byte, opcode_back}
use Rattle.ctype_bin.proofs.AcceptedIsSpelt.ValueTypes.{Spelt, spelt-next, spelt-give, spelt-gives, spelt-only, spelt-byte, spelt-u32, spelt-some, spelt-upto, spelt-label, spelt-valtype, spelt-optional, spelt-outcome, spelt-field, spelt-case, spelt-times, spelt-counted}

-- ---- opcodes

-- there is room for a type entry, and for a scope if the type has one
pub spelt-opcode : (depth entries : ℕ) (o : Opcode) → entries < g.max_entries → (g.is_nested o && depth == 0) ≡ false → Spelt (g.opcode depth entries) (opcode_byte o ∷ []) o
unfolding g.opcode
spelt-opcode depth entries o room flat =
    let full : g.is_full entries ≡ false = lt-leb g.max_entries entries room in
    let same : g.opcode_at (opcode_byte o) ≡ o = rw (opcode_back o) refl in
    let fits : g.opcode_fault depth entries (opcode_byte o) (opcode_of (opcode_byte o)) ≡ None = rw (opcode_back o, full, flat) refl in
    subst (λ (v : Opcode). Spelt (g.opcode depth entries) (opcode_byte o ∷ []) v) same
    (spelt-gives (only_bytes byte (λ b. g.opcode_fault depth entries b (opcode_of b))) (λ b. g.opcode_at b) (opcode_byte o ∷ []) (opcode_byte o)
    (spelt-only byte (λ b. g.opcode_fault depth entries b (opcode_of b)) (opcode_byte o ∷ []) (opcode_byte o) (spelt-byte (opcode_byte o)) fits))

spelt-plain : (depth : ℕ) (around : List ℕ) (scope : Scope) (o : Opcode) (back : List ℕ) (d : TypeEntry) → scope.entries < g.max_entries → g.is_nested o ≡ false → Spelt (g.plain_entry scope.types o) back d → Spelt (g.type depth around scope) (opcode_byte o ∷ back) (d, scope.entries + 1)
unfolding g.type
spelt-plain zero around scope o back d room flat s = spelt-next (g.opcode 0 scope.entries) _ (opcode_byte o ∷ []) back o (d, scope.entries + 1) (spelt-opcode 0 scope.entries o room (rw flat refl))
    (spelt-gives (g.plain_entry scope.types o) (λ t. (t, scope.entries + 1)) back d s)
spelt-plain (suc depth) around scope o back d room flat s = spelt-next (g.opcode (suc depth) scope.entries) _ (opcode_byte o ∷ []) back o (d, scope.entries + 1) (spelt-opcode (suc depth) scope.entries o room (rw flat refl))
    (subst (λ (b : Bool). Spelt (when b (g.scope_of (g.type depth) o (around ++ scope.types ∷ []) (scope.entries + 1)) (g.plain_type scope o)) back (d, scope.entries + 1)) (sym flat)
    (spelt-gives (g.plain_entry scope.types o) (λ t. (t, scope.entries + 1)) back d s))

-- ---- types without scopes of their own

no_range : {X : Type 0} (xs : List X) → All (λ x. Unit {0}) xs
no_range [] = tt
no_range (x ∷ xs) = (tt, no_range xs)

module _ (depth : ℕ) (around : List ℕ) (scope : Scope) (room : scope.entries < g.max_entries) where
  abbrev types : ℕ
  types = scope.types

  abbrev Written : TypeEntry → Type 0
  Written d = Spelt (g.type depth around scope) (type_bytes d) (d, scope.entries + 1)

  pub spelt-defined : (d : Defined) → FormedDefined d → DefinedInRange types d → AllowedDefined d → Written (Define d)
  unfolding type_bytes g.plain_entry g.record_type g.variant_type g.list_type g.tuple_type g.flags_type g.enum_type g.option_type g.result_entry
  spelt-defined (Prim p) formed ranged allowed = spelt-plain depth around scope (op.Primitive p) [] (Define (Prim p)) room refl (spelt-give (Define (Prim p)))
  spelt-defined (Record fs) formed ranged allowed = spelt-plain depth around scope op.Record (counted field_bytes fs) (Define (Record fs)) room refl
      (spelt-counted g.some (g.field types) field_bytes FormedField (FieldInRange types) (λ fs. Define (Record fs)) fs (spelt-some (length fs) formed.0 allowed) (spelt-field types) formed ranged)
  spelt-defined (Variant cs) formed ranged allowed = spelt-plain depth around scope op.Variant (counted case_bytes cs) (Define (Variant cs)) room refl
      (spelt-counted (g.some_upto g.max_cases) (g.case types) case_bytes FormedCase (CaseInRange types) (λ cs. Define (Variant cs)) cs (spelt-upto g.max_cases (length cs) formed.0 allowed) (spelt-case types) formed ranged)
  spelt-defined (ListOf e) formed ranged allowed = spelt-plain depth around scope op.List (valtype_bytes e) (Define (ListOf e)) room refl
      (spelt-gives (g.valtype types) (λ e. Define (ListOf e)) (valtype_bytes e) e (spelt-valtype types e formed ranged))
  spelt-defined (Tuple es) formed ranged allowed = spelt-plain depth around scope op.Tuple (counted valtype_bytes es) (Define (Tuple es)) room refl
      (spelt-counted g.some (g.valtype types) valtype_bytes FormedValType (ValTypeInRange types) (λ es. Define (Tuple es)) es (spelt-some (length es) formed.0 allowed) (spelt-valtype types) formed ranged)
  spelt-defined (FlagSet ls) formed ranged allowed = spelt-plain depth around scope op.Flags (counted name_bytes ls) (Define (FlagSet ls)) room refl
      (spelt-counted (g.some_upto g.max_flags) g.label name_bytes FormedLabel (λ l. Unit {0}) (λ ls. Define (FlagSet ls)) ls (spelt-upto g.max_flags (length ls) formed.0 allowed) (λ l h u. spelt-label l h) formed (no_range ls))
  spelt-defined (Enumeration ls) formed ranged allowed = spelt-plain depth around scope op.Enum (counted name_bytes ls) (Define (Enumeration ls)) room refl
      (spelt-counted (g.some_upto g.max_cases) g.label name_bytes FormedLabel (λ l. Unit {0}) (λ ls. Define (Enumeration ls)) ls (spelt-upto g.max_cases (length ls) formed.0 allowed) (λ l h u. spelt-label l h) formed (no_range ls))
  spelt-defined (OptionOf e) formed ranged allowed = spelt-plain depth around scope op.Option (valtype_bytes e) (Define (OptionOf e)) room refl
      (spelt-gives (g.valtype types) (λ e. Define (OptionOf e)) (valtype_bytes e) e (spelt-valtype types e formed ranged))
  spelt-defined (ResultOf ok error) formed ranged allowed = spelt-plain depth around scope op.Result (optional_bytes ok ++ optional_bytes error) (Define (ResultOf ok error)) room refl
      (spelt-next (g.optional_valtype types) _ (optional_bytes ok) (optional_bytes error) ok (Define (ResultOf ok error)) (spelt-optional types ok formed.0 ranged.0)
      (spelt-gives (g.optional_valtype types) (λ error. Define (ResultOf ok error)) (optional_bytes error) error (spelt-optional types error formed.1 ranged.1)))

  pub spelt-function : (f : BinaryFunction) → FormedFunction f → FunctionInRange types f → Written (Func f)
  unfolding type_bytes g.plain_entry g.function_entry
  spelt-function f formed ranged = subst (λ (l : List ℕ). Spelt (g.type depth around scope) (0x40 ∷ l) (Func f, scope.entries + 1)) (sym (append_assoc (u32_bytes (length f.params)) (each field_bytes f.params) (outcome_bytes f.outcome)))
      (spelt-plain depth around scope op.Function (u32_bytes (length f.params) ++ (each field_bytes f.params ++ outcome_bytes f.outcome)) (Func f) room refl
      (spelt-next u32 _ (u32_bytes (length f.params)) (each field_bytes f.params ++ outcome_bytes f.outcome) (length f.params) (Func f) (spelt-u32 (length f.params) formed.0.0)
      (spelt-next (times (length f.params) (g.field types)) _ (each field_bytes f.params) (outcome_bytes f.outcome) f.params (Func f) (spelt-times (g.field types) field_bytes FormedField (FieldInRange types) (spelt-field types) f.params formed.0.1 ranged.0)
      (spelt-gives (g.outcome types) (λ r. Func (record { params = f.params; outcome = r })) (outcome_bytes f.outcome) f.outcome (spelt-outcome types f.outcome formed.1 ranged.1)))))
