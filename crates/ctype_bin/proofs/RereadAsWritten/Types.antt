-- What is written of a type is read as that type, or a fault of it is met: names, value types, and types without scopes.
use Rattle.std.proofs.Common.{◌≡◌, ℕ, zero, suc, Bool, true, false, List, [], ◌∷◌, ◌++◌, length, Option, Some, None, refl, ap, append_assoc}
use Rattle.std.specs.Prelude.{◌||◌, ◌==◌, nat_lt}
use Rattle.atoms.specs.Label.{is_label}
use Rattle.atoms.specs.Production.{times}
use Rattle.ctype_format.specs.declared.error.Fault.TheVariants.{UnknownOpcode, BadIndex, EmptyType, BadName, Limit}
use Rattle.ctype_format.specs.declared.raw.RawValType.{RawValType}
use Rattle.ctype_format.specs.declared.raw.RawValType.TheVariants as valtypes
use Rattle.ctype_format.specs.declared.raw.RawField.{RawField}
use Rattle.ctype_format.specs.declared.raw.RawCase.{RawCase}
use Rattle.ctype_format.specs.declared.opcode.Opcode.{Opcode}
use Rattle.ctype_format.specs.declared.opcode.Opcode.TheVariants as op
use Rattle.ctype_format.specs.Names.{is_extern_name}
use Rattle.ctype_format.specs.Bytes.{byte, several, only_bytes, unless, u32, s33}
use Rattle.ctype_format.specs.Grammar as g
use Rattle.ctype_format.specs.Raw.{Defined, Prim, Record, Variant, ListOf, Tuple, FlagSet, Enumeration, OptionOf, ResultOf, BinaryFunction, Define, Func, TypeEntry}
use Rattle.ctype_format.specs.Writing.{u32_bytes, s33_bytes, each, counted, name_bytes, extern_bytes, primitive_byte, valtype_bytes, optional_bytes, outcome_bytes, field_bytes, case_bytes, type_bytes}
use Rattle.ctype_format.specs.Formed.{FitsU32, FormedLabel, FormedName, FormedValType, FormedOption, FormedField, FormedCase, FormedDefined, FormedFunction}
use Rattle.ctype_bin.proofs.RewrittenIsSpelt.ValueTypes.{index_begins, primitive_opens, primitive_back, no_fault}
use Rattle.ctype_bin.proofs.RewrittenIsSpelt.Types.{opcode_byte}
use Rattle.ctype_bin.proofs.RereadAsWritten.Combinators.{OfFault, Rereads, reread-next, reread-give, reread-gives, reread-tested, reread-byte, reread-several, reread-u32, reread-s33, reread-first, reread-second, reread-times, reread-counted}

-- ---- tests

pub of_index : (W : Type 0) (b : Bool) → OfFault W (unless b BadIndex)
of_index W true = tt
of_index W false = λ w. tt

pub of_limit : (W : Type 0) (b : Bool) → OfFault W (unless b Limit)
of_limit W true = tt
of_limit W false = λ w. tt

of_name : {W : Type 0} (b : Bool) → (W → b ≡ true) → OfFault W (unless b BadName)
of_name true h = tt
of_name false h = λ w. absurd (let k : false ≡ true = h w in cc)

pub of_count : (W : Type 0) (limit n : ℕ) → OfFault W (g.count_fault limit n)
of_count W limit zero = λ w. tt
of_count W limit (suc n) = of_limit W (nat_lt n limit)

-- ---- numbers and names

pub reread-index : {W : Type 0} (count i : ℕ) → (W → FitsU32 i) → Rereads W (g.index count) (u32_bytes i) (λ y. y ≡ i)
reread-index count i fits = reread-tested u32 (λ i. unless (nat_lt i count) BadIndex) (u32_bytes i) i (reread-u32 i fits) (of_index _ (nat_lt i count))

reread-some : {W : Type 0} (n : ℕ) → (W → FitsU32 n) → Rereads W g.some (u32_bytes n) (λ y. y ≡ n)
reread-some {W = W} n fits = reread-tested u32 (λ n. unless (nat_lt 0 n) EmptyType) (u32_bytes n) n (reread-u32 n fits) (by (nat_lt 0 n))
  where
    by : (b : Bool) → OfFault W (unless b EmptyType)
    by true = tt
    by false = λ w. tt

reread-upto : {W : Type 0} (limit n : ℕ) → (W → FitsU32 n) → Rereads W (g.some_upto limit) (u32_bytes n) (λ y. y ≡ n)
reread-upto limit n fits = reread-tested u32 (g.count_fault limit) (u32_bytes n) n (reread-u32 n fits) (of_count _ limit n)

pub reread-zero : {W : Type 0} → Rereads W g.zero_byte (0 ∷ []) (λ y. y ≡ 0)
reread-zero = reread-tested byte (λ b. unless (b == 0) (UnknownOpcode b)) (0 ∷ []) 0 (reread-byte 0) tt

reread-name : {W : Type 0} (text : List ℕ) → (W → FitsU32 (length text)) → Rereads W g.name (name_bytes text) (λ y. y ≡ text)
reread-name text fits = reread-next u32 (λ n. several n) (u32_bytes (length text)) text (length text) (λ y. y ≡ text) (reread-u32 (length text) fits) (reread-several text)

pub reread-label : {W : Type 0} (text : List ℕ) → (W → FormedLabel text) → Rereads W g.label (name_bytes text) (λ y. y ≡ text)
unfolding g.label
reread-label text formed = reread-tested g.name (λ text. unless (is_label text) BadName) (name_bytes text) text (reread-name text (λ w. (formed w).0)) (of_name (is_label text) (λ w. (formed w).1))

pub reread-extern : {W : Type 0} (text : List ℕ) → (W → FormedName text) → Rereads W g.extern_name (extern_bytes text) (λ y. y ≡ text)
unfolding g.extern_name
reread-extern text formed = reread-next g.zero_byte _ (0 ∷ []) (name_bytes text) 0 (λ y. y ≡ text) reread-zero
    (reread-tested g.name (λ text. unless (is_extern_name text) BadName) (name_bytes text) text (reread-name text (λ w. (formed w).0)) (of_name (is_extern_name text) (λ w. (formed w).1)))

-- ---- value types

pub reread-valtype : {W : Type 0} (types : ℕ) (t : RawValType) → (W → FormedValType t) → Rereads W (g.valtype types) (valtype_bytes t) (λ y. y ≡ t)
unfolding g.valtype g.primitive g.type_index
reread-valtype {W = W} types (valtypes.Primitive p) formed =
    let same : g.primitive_at (primitive_byte p) ≡ p = rw (primitive_back p) refl in
    let tested : OfFault W (g.valtype_fault (primitive_byte p)) = rw (no_fault p) tt in
    reread-first g.is_opcode g.primitive (g.type_index types) (primitive_byte p) [] (primitive_byte p ∷ []) (λ y. y ≡ valtypes.Primitive p) refl (primitive_opens p)
    (reread-gives (only_bytes byte g.valtype_fault) (λ b. valtypes.Primitive (g.primitive_at b)) (primitive_byte p ∷ []) (λ b. b ≡ primitive_byte p) (λ y. y ≡ valtypes.Primitive p)
    (reread-tested byte g.valtype_fault (primitive_byte p ∷ []) (primitive_byte p) (reread-byte (primitive_byte p)) tested) (λ b e. rw (e, same) refl))
reread-valtype types (valtypes.Index i) formed =
    let h = index_begins i in
    reread-second g.is_opcode g.primitive (g.type_index types) h.0 h.1 (s33_bytes i) (λ y. y ≡ valtypes.Index i) h.2 h.3
    (reread-gives (only_bytes s33 (λ i. unless (nat_lt i types) BadIndex)) (λ i. valtypes.Index i) (s33_bytes i) (λ y. y ≡ i) (λ y. y ≡ valtypes.Index i)
    (reread-tested s33 (λ i. unless (nat_lt i types) BadIndex) (s33_bytes i) i (reread-s33 i formed) (of_index _ (nat_lt i types))) (λ y e. ap (λ (v : ℕ). valtypes.Index v) e))

reread-flag : {W : Type 0} (b : ℕ) → (b == 0 || b == 1) ≡ true → Rereads W g.flag_byte (b ∷ []) (λ y. y ≡ b)
reread-flag {W = W} b is = reread-tested byte (λ b. unless (b == 0 || b == 1) (UnknownOpcode b)) (b ∷ []) b (reread-byte b) (rw is tt)

reread-present : {W : Type 0} (types : ℕ) (t : RawValType) → (W → FormedValType t) → Rereads W (g.present types) (valtype_bytes t) (λ y. y ≡ Some t)
reread-present types t formed = reread-gives (g.valtype types) (λ t. Some t) (valtype_bytes t) (λ y. y ≡ t) (λ y. y ≡ Some t) (reread-valtype types t formed) (λ y e. ap (λ (v : RawValType). Some v) e)

pub reread-optional : {W : Type 0} (types : ℕ) (o : Option RawValType) → (W → FormedOption o) → Rereads W (g.optional_valtype types) (optional_bytes o) (λ y. y ≡ o)
unfolding g.optional_valtype
reread-optional types None formed = reread-next g.flag_byte _ (0 ∷ []) [] 0 (λ y. y ≡ None) (reread-flag 0 refl) (reread-give None (λ y. y ≡ None) refl)
reread-optional types (Some t) formed = reread-next g.flag_byte _ (1 ∷ []) (valtype_bytes t) 1 (λ y. y ≡ Some t) (reread-flag 1 refl) (reread-present types t formed)

reread-outcome : {W : Type 0} (types : ℕ) (o : Option RawValType) → (W → FormedOption o) → Rereads W (g.outcome types) (outcome_bytes o) (λ y. y ≡ o)
unfolding g.outcome
reread-outcome types (Some t) formed = reread-next g.flag_byte _ (0 ∷ []) (valtype_bytes t) 0 (λ y. y ≡ Some t) (reread-flag 0 refl) (reread-present types t formed)
reread-outcome types None formed = reread-next g.flag_byte _ (1 ∷ []) (0 ∷ []) 1 (λ y. y ≡ None) (reread-flag 1 refl)
    (reread-gives g.zero_byte (λ b. None) (0 ∷ []) (λ y. y ≡ 0) (λ y. y ≡ None) reread-zero (λ b e. refl))

reread-field : {W : Type 0} (types : ℕ) (f : RawField) → (W → FormedField f) → Rereads W (g.field types) (field_bytes f) (λ y. y ≡ f)
unfolding g.field
reread-field types f formed = reread-next g.label _ (name_bytes f.label) (valtype_bytes f.ty) f.label (λ y. y ≡ f) (reread-label f.label (λ w. (formed w).0))
    (reread-gives (g.valtype types) (λ t. record { label = f.label; ty = t }) (valtype_bytes f.ty) (λ y. y ≡ f.ty) (λ y. y ≡ f) (reread-valtype types f.ty (λ w. (formed w).1)) (λ t e. rw e refl))

reread-case : {W : Type 0} (types : ℕ) (c : RawCase) → (W → FormedCase c) → Rereads W (g.case types) (case_bytes c) (λ y. y ≡ c)
unfolding g.case
reread-case types c formed = reread-next g.label _ (name_bytes c.label) (optional_bytes c.payload ++ 0 ∷ []) c.label (λ y. y ≡ c) (reread-label c.label (λ w. (formed w).0))
    (reread-next (g.optional_valtype types) _ (optional_bytes c.payload) (0 ∷ []) c.payload (λ y. y ≡ c) (reread-optional types c.payload (λ w. (formed w).1))
    (reread-gives g.zero_byte (λ b. record { label = c.label; payload = c.payload }) (0 ∷ []) (λ y. y ≡ 0) (λ y. y ≡ c) reread-zero (λ b e. refl)))

-- ---- types without scopes of their own

-- what opens a type that has no scope, and what stands behind it
pub record OpensPlain (W : Type 0) (types : ℕ) (d : TypeEntry) : Type 0 where
  pub opcode : Opcode
  pub back : List ℕ
  pub written : type_bytes d ≡ opcode_byte opcode ∷ back
  pub flat : g.is_nested opcode ≡ false
  pub again : Rereads W (g.plain_entry types opcode) back (λ y. y ≡ d)

pub opens_defined : {W : Type 0} (types : ℕ) (d : Defined) → (W → FormedDefined d) → OpensPlain W types (Define d)
unfolding type_bytes g.plain_entry g.record_type g.variant_type g.list_type g.tuple_type g.flags_type g.enum_type g.option_type g.result_entry
opens_defined types (Prim p) formed = record { opcode = op.Primitive p; back = []; written = refl; flat = refl; again = reread-give (Define (Prim p)) (λ y. y ≡ Define (Prim p)) refl }
opens_defined types (Record fs) formed = record {
  opcode = op.Record;
  back = counted field_bytes fs;
  written = refl;
  flat = refl;
  again = reread-counted g.some (g.field types) field_bytes FormedField (λ fs. Define (Record fs)) reread-some (reread-field types) fs formed;
}
opens_defined types (Variant cs) formed = record {
  opcode = op.Variant;
  back = counted case_bytes cs;
  written = refl;
  flat = refl;
  again = reread-counted (g.some_upto g.max_cases) (g.case types) case_bytes FormedCase (λ cs. Define (Variant cs)) (reread-upto g.max_cases) (reread-case types) cs formed;
}
opens_defined types (ListOf e) formed = record {
  opcode = op.List;
  back = valtype_bytes e;
  written = refl;
  flat = refl;
  again = reread-gives (g.valtype types) (λ e. Define (ListOf e)) (valtype_bytes e) (λ y. y ≡ e) (λ y. y ≡ Define (ListOf e)) (reread-valtype types e formed) (λ y h. rw h refl);
}
opens_defined types (Tuple es) formed = record {
  opcode = op.Tuple;
  back = counted valtype_bytes es;
  written = refl;
  flat = refl;
  again = reread-counted g.some (g.valtype types) valtype_bytes FormedValType (λ es. Define (Tuple es)) reread-some (reread-valtype types) es formed;
}
opens_defined types (FlagSet ls) formed = record {
  opcode = op.Flags;
  back = counted name_bytes ls;
  written = refl;
  flat = refl;
  again = reread-counted (g.some_upto g.max_flags) g.label name_bytes FormedLabel (λ ls. Define (FlagSet ls)) (reread-upto g.max_flags) reread-label ls formed;
}
opens_defined types (Enumeration ls) formed = record {
  opcode = op.Enum;
  back = counted name_bytes ls;
  written = refl;
  flat = refl;
  again = reread-counted (g.some_upto g.max_cases) g.label name_bytes FormedLabel (λ ls. Define (Enumeration ls)) (reread-upto g.max_cases) reread-label ls formed;
}
opens_defined types (OptionOf e) formed = record {
  opcode = op.Option;
  back = valtype_bytes e;
  written = refl;
  flat = refl;
  again = reread-gives (g.valtype types) (λ e. Define (OptionOf e)) (valtype_bytes e) (λ y. y ≡ e) (λ y. y ≡ Define (OptionOf e)) (reread-valtype types e formed) (λ y h. rw h refl);
}
opens_defined types (ResultOf ok error) formed = record {
  opcode = op.Result;
  back = optional_bytes ok ++ optional_bytes error;
  written = refl;
  flat = refl;
  again = reread-next (g.optional_valtype types) _ (optional_bytes ok) (optional_bytes error) ok (λ y. y ≡ Define (ResultOf ok error)) (reread-optional types ok (λ w. (formed w).0))
      (reread-gives (g.optional_valtype types) (λ error. Define (ResultOf ok error)) (optional_bytes error) (λ y. y ≡ error) (λ y. y ≡ Define (ResultOf ok error)) (reread-optional types error (λ w. (formed w).1)) (λ y h. rw h refl));
}

pub opens_function : {W : Type 0} (types : ℕ) (f : BinaryFunction) → (W → FormedFunction f) → OpensPlain W types (Func f)
unfolding type_bytes g.plain_entry g.function_entry
opens_function types f formed = record {
  opcode = op.Function;
  back = u32_bytes (length f.params) ++ (each field_bytes f.params ++ outcome_bytes f.outcome);
  written = ap (λ (l : List ℕ). 0x40 ∷ l) (append_assoc (u32_bytes (length f.params)) (each field_bytes f.params) (outcome_bytes f.outcome));
  flat = refl;
  again = reread-next u32 _ (u32_bytes (length f.params)) (each field_bytes f.params ++ outcome_bytes f.outcome) (length f.params) (λ y. y ≡ Func f) (reread-u32 (length f.params) (λ w. (formed w).0.0))
      (reread-next (times (length f.params) (g.field types)) _ (each field_bytes f.params) (outcome_bytes f.outcome) f.params (λ y. y ≡ Func f) (reread-times (g.field types) field_bytes FormedField (reread-field types) f.params (λ w. (formed w).0.1))
      (reread-gives (g.outcome types) (λ r. Func (record { params = f.params; outcome = r })) (outcome_bytes f.outcome) (λ y. y ≡ f.outcome) (λ y. y ≡ Func f) (reread-outcome types f.outcome (λ w. (formed w).1)) (λ y h. rw h refl)));
}
