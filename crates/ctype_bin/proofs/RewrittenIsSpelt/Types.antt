-- What is written of a type spells it: types and declarations.
use Rattle.std.proofs.Common.{◌≡◌, ℕ, ◌+◌, Bool, true, false, List, [], ◌∷◌, ◌++◌, length, drop, Option, Some, None, refl, sym, ap, ◌∙◌, append_assoc, arith}
use Rattle.std.specs.Prelude.{◌||◌, ◌&&◌, ◌==◌, nat_le, not, unwrap_or}
use Rattle.std.proofs.lemmas.Bool.{eqb-true}
use Rattle.std.proofs.lemmas.List.{length-append, append-nil, drop_at}
use Rattle.atoms.specs.Production.{give, ◌>>=◌, when, times}
use Rattle.ctype_format.specs.declared.error.Fault.TheVariants.{UnknownOpcode, BadIndex, Limit}
use Rattle.ctype_format.specs.declared.raw.Primitive.TheVariants as prim
use Rattle.ctype_format.specs.declared.raw.RawValType.{RawValType}
use Rattle.ctype_format.specs.declared.raw.RawField.{RawField}
use Rattle.ctype_format.specs.declared.raw.RawAlias.{RawAlias}
use Rattle.ctype_format.specs.declared.raw.RawAlias.TheVariants as aliases
use Rattle.ctype_format.specs.declared.opcode.Opcode.{Opcode}
use Rattle.ctype_format.specs.declared.opcode.Opcode.TheVariants as op
use Rattle.ctype_format.specs.declared.scope.Scope.{Scope}
use Rattle.ctype_format.specs.Opcodes.{primitive_of, opcode_of}
use Rattle.ctype_bin.specs.Exactness.{Written}
use Rattle.ctype_format.specs.Bytes.{Bytes, byte, only_bytes, unless, stuck_if, u32}
use Rattle.ctype_format.specs.Grammar as g
use Rattle.ctype_format.specs.Raw.{Prim, Record, Variant, ListOf, Tuple, FlagSet, Enumeration, OptionOf, ResultOf, Define, Func, Alias, TypeEntry}
use Rattle.ctype_format.specs.Writing.{u32_bytes, each, counted, name_bytes, primitive_byte, valtype_bytes, optional_bytes, outcome_bytes, field_bytes, case_bytes, alias_bytes, type_bytes, decl_bytes}
use Rattle.ctype_bin.proofs.RewrittenIsSpelt.Combinators.{written-then, written-give, written-gives, written-only, written-when, written-byte, one_byte, written-times, times-length}
use Rattle.ctype_bin.proofs.RewrittenIsSpelt.ValueTypes.{written-u32, written-index, passes, written-label, written-valtype, written-optional, written-outcome, written-field, written-case}

-- ---- a count and as many

pub written-counted : {X Y : Type 0} (c : Bytes ℕ) (p : Bytes X) (w : X → List ℕ) (f : List X → Y) (wy : Y → List ℕ) → Written c u32_bytes → Written p w → ((xs : List X) → wy (f xs) ≡ counted w xs) → Written (c >>= λ n. times n p >>= λ xs. give (f xs)) wy
written-counted {X = X} {Y = Y} c p w f wy ec ep same = record {
  spelt = λ bytes y s. let n = s.2 in let xs = s.5.2 in
      (u32_bytes n, each w xs, n, joined (times-length n p s.5.0 xs s.5.4) s.5.5.1, ec.spelt s.0 n s.4, (each w xs, [], xs, sym (append-nil (each w xs)), (written-times n p w ep).spelt s.5.0 xs s.5.4, (refl, s.5.5.1)));
  short = λ bytes y s. let n = s.2 in let xs = s.5.2 in
      let whole : length (wy y) ≡ length (u32_bytes n) + length (each w xs) = ap (λ (l : List ℕ). length l) (joined (times-length n p s.5.0 xs s.5.4) s.5.5.1) ∙ length-append (u32_bytes n) (each w xs) in
      let parts : length bytes ≡ length s.0 + length s.1 = ap (λ (l : List ℕ). length l) s.3 ∙ length-append s.0 s.1 in
      let behind : length s.1 ≡ length s.5.0 + length s.5.1 = ap (λ (l : List ℕ). length l) s.5.3 ∙ length-append s.5.0 s.5.1 in
      let a = ec.short s.0 n s.4 in
      let b = (written-times n p w ep).short s.5.0 xs s.5.4 in
      omega (arith, whole, parts, behind, a, b);
}
  where
    joined : {n : ℕ} {xs : List X} {y : Y} → length xs ≡ n → y ≡ f xs → wy y ≡ u32_bytes n ++ each w xs
    joined {n} {xs} {y} long is = ap wy is ∙ same xs ∙ ap (λ (m : ℕ). u32_bytes m ++ each w xs) long

-- what stands behind a type's opcode
abbrev pub body : TypeEntry → List ℕ
body d = drop 1 (type_bytes d)

written-record : (types : ℕ) → Written (g.record_type types) body
unfolding g.record_type type_bytes
written-record types = written-counted g.some (g.field types) field_bytes (λ fs. Define (Record fs)) body (written-only u32 _ u32_bytes written-u32) (written-field types) (λ fs. refl)

written-variant : (types : ℕ) → Written (g.variant_type types) body
unfolding g.variant_type type_bytes
written-variant types = written-counted (g.some_upto g.max_cases) (g.case types) case_bytes (λ cs. Define (Variant cs)) body (written-only u32 _ u32_bytes written-u32) (written-case types) (λ cs. refl)

written-list : (types : ℕ) → Written (g.list_type types) body
unfolding g.list_type type_bytes
written-list types = written-gives (g.valtype types) (λ e. Define (ListOf e)) valtype_bytes body (written-valtype types) (λ e. refl)

written-tuple : (types : ℕ) → Written (g.tuple_type types) body
unfolding g.tuple_type type_bytes
written-tuple types = written-counted g.some (g.valtype types) valtype_bytes (λ es. Define (Tuple es)) body (written-only u32 _ u32_bytes written-u32) (written-valtype types) (λ es. refl)

written-flags : Written g.flags_type body
unfolding g.flags_type type_bytes
written-flags = written-counted (g.some_upto g.max_flags) g.label name_bytes (λ ls. Define (FlagSet ls)) body (written-only u32 _ u32_bytes written-u32) written-label (λ ls. refl)

written-enum : Written g.enum_type body
unfolding g.enum_type type_bytes
written-enum = written-counted (g.some_upto g.max_cases) g.label name_bytes (λ ls. Define (Enumeration ls)) body (written-only u32 _ u32_bytes written-u32) written-label (λ ls. refl)

written-option : (types : ℕ) → Written (g.option_type types) body
unfolding g.option_type type_bytes
written-option types = written-gives (g.valtype types) (λ e. Define (OptionOf e)) valtype_bytes body (written-valtype types) (λ e. refl)

written-result : (types : ℕ) → Written (g.result_entry types) body
unfolding g.result_entry type_bytes
written-result types = written-then (g.optional_valtype types) _ optional_bytes (λ ok d. drop (length (optional_bytes ok)) (body d)) body (written-optional types)
    (λ ok. written-gives (g.optional_valtype types) (λ error. Define (ResultOf ok error)) optional_bytes (λ d. drop (length (optional_bytes ok)) (body d)) (written-optional types) (λ error. drop_at (optional_bytes ok) (optional_bytes error) (length (optional_bytes ok)) refl))
    (λ ok d front back sp sq. rw sq.5.1 (ap (λ (l : List ℕ). optional_bytes ok ++ l) (sym (drop_at (optional_bytes ok) (optional_bytes sq.2) (length (optional_bytes ok)) refl))))

params_of : TypeEntry → List RawField
params_of (Func f) = f.params
params_of _ = []

outcome_of : TypeEntry → Option RawValType
outcome_of (Func f) = f.outcome
outcome_of _ = None

written-function : (types : ℕ) → Written (g.function_entry types) body
unfolding g.function_entry type_bytes params_of outcome_of
written-function types = written-then u32 _ u32_bytes (λ n d. each field_bytes (params_of d) ++ outcome_bytes (outcome_of d)) body written-u32
    (λ n. written-then (times n (g.field types)) _ (each field_bytes) (λ ps d. outcome_bytes (outcome_of d)) (λ d. each field_bytes (params_of d) ++ outcome_bytes (outcome_of d)) (written-times n (g.field types) field_bytes (written-field types))
    (λ ps. written-gives (g.outcome types) (λ r. Func (record { params = ps; outcome = r })) outcome_bytes (λ d. outcome_bytes (outcome_of d)) (written-outcome types) (λ r. refl))
    (λ ps d front back sp sq. rw sq.5.1 refl))
    (λ n d front back sp sq. rw (sq.5.5.1, times-length n (g.field types) sq.0 sq.2 sq.4) (append_assoc (u32_bytes n) (each field_bytes sq.2) (outcome_bytes sq.5.2)))

written-plain : (types : ℕ) (o : Opcode) → Written (g.plain_entry types o) body
unfolding g.plain_entry type_bytes
written-plain types (op.Primitive p) = written-give (Define (Prim p)) body refl
written-plain types op.Record = written-record types
written-plain types op.Variant = written-variant types
written-plain types op.List = written-list types
written-plain types op.Tuple = written-tuple types
written-plain types op.Flags = written-flags
written-plain types op.Enum = written-enum
written-plain types op.Option = written-option types
written-plain types op.Result = written-result types
written-plain types op.Function = written-function types
written-plain types op.Component = record { spelt = λ bytes d s. absurd s; short = λ bytes d s. absurd s }
written-plain types op.Instance = record { spelt = λ bytes d s. absurd s; short = λ bytes d s. absurd s }

pub written-plain_type : (scope : Scope) (o : Opcode) → Written (g.plain_type scope o) (λ y. body y.0)
written-plain_type scope o = written-gives (g.plain_entry scope.types o) (λ t. (t, scope.entries + 1)) body (λ y. body y.0) (written-plain scope.types o) (λ t. refl)

-- ---- opcodes

abbrev pub opcode_byte : Opcode → ℕ
opcode_byte (op.Primitive p) = primitive_byte p
opcode_byte op.Record = 0x72
opcode_byte op.Variant = 0x71
opcode_byte op.List = 0x70
opcode_byte op.Tuple = 0x6f
opcode_byte op.Flags = 0x6e
opcode_byte op.Enum = 0x6d
opcode_byte op.Option = 0x6b
opcode_byte op.Result = 0x6a
opcode_byte op.Function = 0x40
opcode_byte op.Component = 0x41
opcode_byte op.Instance = 0x42

pub opcode_back : (o : Opcode) → opcode_of (opcode_byte o) ≡ Some o
unfolding opcode_of primitive_of
opcode_back (op.Primitive prim.Bool) = refl
opcode_back (op.Primitive prim.S8) = refl
opcode_back (op.Primitive prim.U8) = refl
opcode_back (op.Primitive prim.S16) = refl
opcode_back (op.Primitive prim.U16) = refl
opcode_back (op.Primitive prim.S32) = refl
opcode_back (op.Primitive prim.U32) = refl
opcode_back (op.Primitive prim.S64) = refl
opcode_back (op.Primitive prim.U64) = refl
opcode_back (op.Primitive prim.Char) = refl
opcode_back (op.Primitive prim.String) = refl
opcode_back op.Record = refl
opcode_back op.Variant = refl
opcode_back op.List = refl
opcode_back op.Tuple = refl
opcode_back op.Flags = refl
opcode_back op.Enum = refl
opcode_back op.Option = refl
opcode_back op.Result = refl
opcode_back op.Function = refl
opcode_back op.Component = refl
opcode_back op.Instance = refl

-- the byte of an opcode has no fault where some byte of the same opcode has none
opcode_fits : (depth entries b : ℕ) (o : Opcode) (r : Option Opcode) → o ≡ unwrap_or r op.Record → stuck_if (g.opcode_fault depth entries b r) 0 ≡ None → (left : ℕ) → stuck_if (g.opcode_fault depth entries (opcode_byte o) (opcode_of (opcode_byte o))) left ≡ None
opcode_fits depth entries b o None is h left = absurd cc
opcode_fits depth entries b o (Some q) is h left =
    let fits : not (g.is_full entries || (g.is_nested q && depth == 0)) ≡ true = passes (not (g.is_full entries || (g.is_nested q && depth == 0))) Limit 0 h in
    rw (opcode_back o, is, fits) refl

pub written-opcode : (depth entries : ℕ) → Written (g.opcode depth entries) (λ o. opcode_byte o ∷ [])
unfolding g.opcode
written-opcode depth entries = record {
  spelt = λ bytes o s.
      let same : o ≡ g.opcode_at (opcode_byte o) = rw (opcode_back o) refl in
      (opcode_byte o ∷ [], [], opcode_byte o, refl, ((refl, refl), λ all. opcode_fits depth entries s.2 o (opcode_of s.2) s.5.1 (s.4.1 []) (length all)), (refl, same));
  short = λ bytes o s.
      let one : length s.0 ≡ 1 = ap (λ (l : List ℕ). length l) s.4.0.0 in
      let parts : length bytes ≡ length s.0 + length s.1 = ap (λ (l : List ℕ). length l) s.3 ∙ length-append s.0 s.1 in
      omega (arith, one, parts);
}

pub type_head : (types : ℕ) (o : Opcode) (back : List ℕ) (d : TypeEntry) → (g.plain_entry types o).spells back d → type_bytes d ≡ opcode_byte o ∷ body d
unfolding g.plain_entry g.record_type g.variant_type g.list_type g.tuple_type g.flags_type g.enum_type g.option_type g.result_entry g.function_entry type_bytes
type_head types (op.Primitive p) back d s = rw s.1 refl
type_head types op.Record back d s = rw s.5.5.1 refl
type_head types op.Variant back d s = rw s.5.5.1 refl
type_head types op.List back d s = rw s.5.1 refl
type_head types op.Tuple back d s = rw s.5.5.1 refl
type_head types op.Flags back d s = rw s.5.5.1 refl
type_head types op.Enum back d s = rw s.5.5.1 refl
type_head types op.Option back d s = rw s.5.1 refl
type_head types op.Result back d s = rw s.5.5.1 refl
type_head types op.Function back d s = rw s.5.5.5.1 refl
type_head types op.Component back d s = absurd s
type_head types op.Instance back d s = absurd s

-- ---- aliases

alias_name : RawAlias → List ℕ
alias_name (aliases.InstanceExport i text) = text
alias_name (aliases.Outer n i) = []

alias_index : RawAlias → ℕ
alias_index (aliases.InstanceExport i text) = i
alias_index (aliases.Outer n i) = i

abbrev alias_body : RawAlias → List ℕ
alias_body a = drop 2 (alias_bytes a)

written-instance_export : (scope : Scope) → Written (g.instance_alias scope) alias_body
unfolding g.instance_alias alias_name
written-instance_export scope = written-then (g.index scope.instances) _ u32_bytes (λ i a. name_bytes (alias_name a)) alias_body (written-index scope.instances)
    (λ i. written-gives g.label (λ text. aliases.InstanceExport i text) name_bytes (λ a. name_bytes (alias_name a)) written-label (λ text. refl))
    (λ i a front back sp sq. rw sq.5.1 refl)

written-outer : (around : List ℕ) (scope : Scope) → Written (g.outer_type around scope) alias_body
unfolding g.outer_type alias_index
written-outer around scope = written-then (only_bytes u32 (λ n. unless (nat_le n (length around)) BadIndex)) _ u32_bytes (λ n a. u32_bytes (alias_index a)) alias_body (written-only u32 _ u32_bytes written-u32)
    (λ n. written-gives (g.index (g.types_at around scope.types n)) (λ i. aliases.Outer n i) u32_bytes (λ a. u32_bytes (alias_index a)) (written-index (g.types_at around scope.types n)) (λ i. refl))
    (λ n a front back sp sq. rw sq.5.1 refl)

-- a byte that is a or b, and b where it isn't a
is_other : (a b t : ℕ) → (t == a) ≡ false → (t == a || t == b) ≡ true → t ≡ b
is_other a b t other either = let h : (false || t == b) ≡ true = rw other at either in eqb-true t b h

alias_target : (around : List ℕ) (scope : Scope) (t : ℕ) (a : RawAlias) (front : List ℕ) (b : Bool) → (t == 0) ≡ b → (t == 0 || t == 2) ≡ true → (when b (g.instance_alias scope) (g.outer_type around scope)).spells front a → drop 1 (alias_bytes a) ≡ t ∷ alias_body a
unfolding g.instance_alias g.outer_type
alias_target around scope t a front true is either s = rw (s.5.5.1, eqb-true t 0 is) refl
alias_target around scope t a front false is either s = rw (s.5.5.1, is_other 0 2 t is either) refl

alias_head : (a : RawAlias) → alias_bytes a ≡ 3 ∷ drop 1 (alias_bytes a)
alias_head (aliases.InstanceExport i text) = refl
alias_head (aliases.Outer n i) = refl

entry_passes : (entries b : ℕ) (t : Bool) → stuck_if (g.opcode_entry_fault entries t b) 0 ≡ None → t ≡ true
entry_passes entries b true h = refl
entry_passes entries b false h = absurd cc

pub written-alias : (around : List ℕ) (scope : Scope) → Written (g.alias_entry around scope) (λ y. drop 1 (decl_bytes y.0))
unfolding g.alias_entry decl_bytes
written-alias around scope = written-then (only_bytes byte (λ b. g.opcode_entry_fault scope.entries (b == 3) b)) _ one_byte (λ sort y. drop 2 (decl_bytes y.0)) (λ y. drop 1 (decl_bytes y.0)) (written-only byte _ one_byte written-byte)
    (λ sort. written-then (only_bytes byte (λ b. unless (b == 0 || b == 2) (UnknownOpcode b))) _ one_byte (λ t y. drop 3 (decl_bytes y.0)) (λ y. drop 2 (decl_bytes y.0)) (written-only byte _ one_byte written-byte)
    (λ t. written-gives (when (t == 0) (g.instance_alias scope) (g.outer_type around scope)) (λ a. (Alias a, g.with_type scope)) alias_body (λ y. drop 3 (decl_bytes y.0)) (written-when (t == 0) (g.instance_alias scope) (g.outer_type around scope) alias_body (written-instance_export scope) (written-outer around scope)) (λ a. refl))
    (λ t y front back sp sq. rw sq.5.1 (alias_target around scope t sq.2 sq.0 (t == 0) refl (passes (t == 0 || t == 2) (UnknownOpcode t) 0 (sp.1 [])) sq.4)))
    (λ sort y front back sp sq. rw (sq.5.5.1, eqb-true sort 3 (entry_passes scope.entries sort (sort == 3) (sp.1 []))) (alias_head sq.5.2))
