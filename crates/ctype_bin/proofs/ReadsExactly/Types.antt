-- Each production of types is read exactly.
use Rattle.std.proofs.Common.{◌≡◌, ℕ, zero, suc, ◌+◌, Bool, List, [], ◌∷◌, ◌++◌, length, None}
use Rattle.std.specs.Prelude.{◌||◌, nat_lt, nat_le, ◌==◌}
use Rattle.atoms.specs.Leb128.{SpellsS33}
use Rattle.atoms.specs.Production.{give, ◌>>=◌, times, run, when}
use Rattle.atoms.proofs.productions.ProductionsReadExactly.{exact-then, exact-give, exact-never, exact-when, exact-times, exact-run}
use Rattle.ctype_format.specs.declared.error.Fault.TheVariants.{UnknownOpcode, BadIndex}
use Rattle.ctype_format.specs.declared.opcode.Opcode.{Opcode}
use Rattle.ctype_format.specs.declared.opcode.Opcode.TheVariants as op
use Rattle.ctype_format.specs.declared.scope.Scope.{Scope}
use Rattle.ctype_bin.specs.Exactness.{ExactBytes, within}
use Rattle.ctype_format.specs.Bytes.{Bytes, byte, several, only_bytes, unless, u32, s33, ended}
use Rattle.ctype_format.specs.Opcodes.{opcode_of}
use Rattle.ctype_format.specs.Grammar as g
use Rattle.ctype_bin.proofs.ReadsExactly.PlainProductions.{exact-byte, exact-several, exact-only}
use Rattle.ctype_bin.proofs.ReadsExactly.Numbers.{exact-u32, exact-s33}
use Rattle.ctype_bin.proofs.ReadsExactly.ChoicesByFirstByte.{exact-choose}

-- p, and then what is given
gives : {X Y : Type 0} (p : Bytes X) (f : X → Y) → ExactBytes p → ExactBytes (p >>= λ x. give (f x))
gives p f ep = exact-then within p (λ x. give (f x)) ep (λ x. exact-give within (f x))

pub exact-index : (count : ℕ) → ExactBytes (g.index count)
exact-index count = exact-only u32 _ exact-u32

exact-some : ExactBytes g.some
exact-some = exact-only u32 _ exact-u32

exact-some_upto : (limit : ℕ) → ExactBytes (g.some_upto limit)
exact-some_upto limit = exact-only u32 _ exact-u32

pub exact-zero : ExactBytes g.zero_byte
exact-zero = exact-only byte _ exact-byte

exact-flag : ExactBytes g.flag_byte
exact-flag = exact-only byte _ exact-byte

exact-name : ExactBytes g.name
exact-name = exact-then within u32 (λ n. several n) exact-u32 exact-several

exact-label : ExactBytes g.label
unfolding g.label
exact-label = exact-only g.name _ exact-name

pub exact-utf8 : ExactBytes g.utf8
unfolding g.utf8
exact-utf8 = exact-only g.name _ exact-name

pub exact-extern : ExactBytes g.extern_name
unfolding g.extern_name
exact-extern = exact-then within g.zero_byte _ exact-zero (λ mark. exact-only g.name _ exact-name)

-- ---- value types

exact-primitive : ExactBytes g.primitive
unfolding g.primitive
exact-primitive = gives (only_bytes byte g.valtype_fault) _ (exact-only byte _ exact-byte)

exact-type_index : (types : ℕ) → ExactBytes (g.type_index types)
unfolding g.type_index
exact-type_index types = gives (only_bytes s33 (λ i. unless (nat_lt i types) BadIndex)) _ (exact-only s33 _ exact-s33)

empty-cons : (b : ℕ) (front back : List ℕ) → front ≡ b ∷ [] → [] ≡ front ++ back → ⊥
empty-cons b front back one none = let both : [] ≡ (b ∷ []) ++ back = rw one at none in cc

front-empty : (front back : List ℕ) (x : ℕ) → [] ≡ front ++ back → SpellsS33 front x → ⊥
front-empty [] back x none s = s.ends
front-empty (b ∷ front) back x none s = cc

exact-valtype : (types : ℕ) → ExactBytes (g.valtype types)
unfolding g.valtype g.primitive g.type_index
exact-valtype types = exact-choose g.is_opcode g.primitive (g.type_index types) exact-primitive (exact-type_index types)
    (λ x s. let one : s.0 ≡ s.2 ∷ [] = s.4.0.0 in let none : [] ≡ s.0 ++ s.1 = s.3 in empty-cons s.2 s.0 s.1 one none)
    (λ x s. front-empty s.0 s.1 s.2 s.3 s.4.0)

exact-present : (types : ℕ) → ExactBytes (g.present types)
exact-present types = gives (g.valtype types) _ (exact-valtype types)

exact-optional : (types : ℕ) → ExactBytes (g.optional_valtype types)
unfolding g.optional_valtype
exact-optional types = exact-then within g.flag_byte _ exact-flag (λ b. exact-when within (b == 0) (give None) (g.present types) (exact-give within None) (exact-present types))

exact-field : (types : ℕ) → ExactBytes (g.field types)
unfolding g.field
exact-field types = exact-then within g.label _ exact-label (λ text. gives (g.valtype types) _ (exact-valtype types))

exact-case : (types : ℕ) → ExactBytes (g.case types)
unfolding g.case
exact-case types = exact-then within g.label _ exact-label (λ text. exact-then within (g.optional_valtype types) _ (exact-optional types) (λ payload. gives g.zero_byte _ exact-zero))

-- ---- types without scopes of their own

exact-record : (types : ℕ) → ExactBytes (g.record_type types)
unfolding g.record_type
exact-record types = exact-then within g.some _ exact-some (λ n. gives (times n (g.field types)) _ (exact-times within n (g.field types) (exact-field types)))

exact-variant : (types : ℕ) → ExactBytes (g.variant_type types)
unfolding g.variant_type
exact-variant types = exact-then within (g.some_upto g.max_cases) _ (exact-some_upto g.max_cases) (λ n. gives (times n (g.case types)) _ (exact-times within n (g.case types) (exact-case types)))

exact-list : (types : ℕ) → ExactBytes (g.list_type types)
unfolding g.list_type
exact-list types = gives (g.valtype types) _ (exact-valtype types)

exact-tuple : (types : ℕ) → ExactBytes (g.tuple_type types)
unfolding g.tuple_type
exact-tuple types = exact-then within g.some _ exact-some (λ n. gives (times n (g.valtype types)) _ (exact-times within n (g.valtype types) (exact-valtype types)))

exact-flags : ExactBytes g.flags_type
unfolding g.flags_type
exact-flags = exact-then within (g.some_upto g.max_flags) _ (exact-some_upto g.max_flags) (λ n. gives (times n g.label) _ (exact-times within n g.label exact-label))

exact-enum : ExactBytes g.enum_type
unfolding g.enum_type
exact-enum = exact-then within (g.some_upto g.max_cases) _ (exact-some_upto g.max_cases) (λ n. gives (times n g.label) _ (exact-times within n g.label exact-label))

exact-option : (types : ℕ) → ExactBytes (g.option_type types)
unfolding g.option_type
exact-option types = gives (g.valtype types) _ (exact-valtype types)

exact-result : (types : ℕ) → ExactBytes (g.result_entry types)
unfolding g.result_entry
exact-result types = exact-then within (g.optional_valtype types) _ (exact-optional types) (λ ok. gives (g.optional_valtype types) _ (exact-optional types))

exact-outcome : (types : ℕ) → ExactBytes (g.outcome types)
unfolding g.outcome
exact-outcome types = exact-then within g.flag_byte _ exact-flag (λ b. exact-when within (b == 0) (g.present types) g.absent (exact-present types) (gives g.zero_byte _ exact-zero))

exact-function : (types : ℕ) → ExactBytes (g.function_entry types)
unfolding g.function_entry
exact-function types = exact-then within u32 _ exact-u32 (λ n. exact-then within (times n (g.field types)) _ (exact-times within n (g.field types) (exact-field types)) (λ params. gives (g.outcome types) _ (exact-outcome types)))

exact-plain : (types : ℕ) (o : Opcode) → ExactBytes (g.plain_entry types o)
unfolding g.plain_entry
exact-plain types (op.Primitive p) = exact-give within _
exact-plain types op.Record = exact-record types
exact-plain types op.Variant = exact-variant types
exact-plain types op.List = exact-list types
exact-plain types op.Tuple = exact-tuple types
exact-plain types op.Flags = exact-flags
exact-plain types op.Enum = exact-enum
exact-plain types op.Option = exact-option types
exact-plain types op.Result = exact-result types
exact-plain types op.Function = exact-function types
exact-plain types op.Component = exact-never within ended (λ bytes. tt)
exact-plain types op.Instance = exact-never within ended (λ bytes. tt)

exact-plain_type : (scope : Scope) (o : Opcode) → ExactBytes (g.plain_type scope o)
exact-plain_type scope o = gives (g.plain_entry scope.types o) _ (exact-plain scope.types o)

exact-opcode : (depth entries : ℕ) → ExactBytes (g.opcode depth entries)
unfolding g.opcode
exact-opcode depth entries = gives (only_bytes byte (λ b. g.opcode_fault depth entries b (opcode_of b))) _ (exact-only byte _ exact-byte)

-- ---- declarations

exact-instance_export : (scope : Scope) → ExactBytes (g.instance_alias scope)
unfolding g.instance_alias
exact-instance_export scope = exact-then within (g.index scope.instances) _ (exact-index scope.instances) (λ i. gives g.label _ exact-label)

exact-outer : (around : List ℕ) (scope : Scope) → ExactBytes (g.outer_type around scope)
unfolding g.outer_type
exact-outer around scope = exact-then within (only_bytes u32 (λ n. unless (nat_le n (length around)) BadIndex)) _ (exact-only u32 _ exact-u32) (λ n. gives (g.index (g.types_at around scope.types n)) _ (exact-index (g.types_at around scope.types n)))

exact-alias : (around : List ℕ) (scope : Scope) → ExactBytes (g.alias_entry around scope)
unfolding g.alias_entry
exact-alias around scope =
    exact-then within (only_bytes byte (λ b. g.opcode_entry_fault scope.entries (b == 3) b)) _ (exact-only byte _ exact-byte) (λ sort.
    exact-then within (only_bytes byte (λ b. unless (b == 0 || b == 2) (UnknownOpcode b))) _ (exact-only byte _ exact-byte) (λ target.
    gives (when (target == 0) (g.instance_alias scope) (g.outer_type around scope)) _ (exact-when within (target == 0) (g.instance_alias scope) (g.outer_type around scope) (exact-instance_export scope) (exact-outer around scope))))

exact-description : (scope : Scope) → ExactBytes (g.description scope)
unfolding g.description
exact-description scope =
    exact-then within (only_bytes byte (g.description_fault scope.entries)) _ (exact-only byte _ exact-byte) (λ sort.
    exact-when within (sort == 3) (g.equal_type scope) (g.indexed scope sort)
    (exact-then within g.zero_byte _ exact-zero (λ mark. gives (g.index scope.types) _ (exact-index scope.types)))
    (gives (g.index scope.types) _ (exact-index scope.types)))

exact-external : (scope : Scope) (sort : ℕ) → ExactBytes (g.external scope sort)
unfolding g.external
exact-external scope sort = exact-then within g.extern_name _ exact-extern (λ text. gives (g.description scope) _ (exact-description scope))

abbrev ReadsExactly : g.Reader → Type 0
ReadsExactly t = (around : List ℕ) (scope : Scope) → ExactBytes (t around scope)

exact-decl : (t : g.Reader) → ReadsExactly t → (component : Bool) (around : List ℕ) (scope : Scope) → ExactBytes (g.decl t component around scope)
unfolding g.decl
exact-decl t et component around scope =
    exact-then within (only_bytes byte (λ b. unless (g.is_decl component b) (UnknownOpcode b))) _ (exact-only byte _ exact-byte) (λ sort.
    exact-when within (sort == 1) (g.definition_entry t around scope) (when (sort == 2) (g.alias_entry around scope) (g.external scope sort))
    (gives (t around scope) _ (et around scope))
    (exact-when within (sort == 2) (g.alias_entry around scope) (g.external scope sort) (exact-alias around scope) (exact-external scope sort)))

exact-scope : (t : g.Reader) → ReadsExactly t → (o : Opcode) (around : List ℕ) (entries : ℕ) → ExactBytes (g.scope_of t o around entries)
unfolding g.scope_of
exact-scope t et o around entries = exact-then within u32 _ exact-u32 (λ n.
    gives (run (g.decl t (g.is_component o) around) n (g.new_scope entries)) _ (exact-run within (g.decl t (g.is_component o) around) (exact-decl t et (g.is_component o) around) n (g.new_scope entries)))

pub exact-type : (depth : ℕ) → ReadsExactly (g.type depth)
unfolding g.type
exact-type zero around scope = exact-then within (g.opcode 0 scope.entries) _ (exact-opcode 0 scope.entries) (λ o. exact-plain_type scope o)
exact-type (suc depth) around scope = exact-then within (g.opcode (suc depth) scope.entries) _ (exact-opcode (suc depth) scope.entries) (λ o.
    exact-when within (g.is_nested o) (g.scope_of (g.type depth) o (around ++ scope.types ∷ []) (scope.entries + 1)) (g.plain_type scope o)
    (exact-scope (g.type depth) (exact-type depth) o (around ++ scope.types ∷ []) (scope.entries + 1)) (exact-plain_type scope o))
