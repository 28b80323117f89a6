-- What is spelled has its indices in range.
use Rattle.std.proofs.Common.{◌≡◌, ℕ, zero, suc, ◌+◌, ◌<◌, Bool, true, false, List, [], ◌∷◌, ◌++◌, length, Option, Some, None, refl, sym, subst, arith}
use Rattle.std.specs.Prelude.{MatchBool, ◌||◌, ◌==◌, nat_le, nat_lt, if◌then◌else◌}
use Rattle.std.proofs.lemmas.Bool.{ltb-true, leb-true}
use Rattle.std.proofs.Math.Bridge.{le_prop}
use Rattle.atoms.specs.Production.{give, ◌>>=◌, when, times, run}
use Rattle.ctype_format.specs.declared.error.Fault.{Fault}
use Rattle.ctype_format.specs.declared.error.Fault.TheVariants.{UnknownOpcode, BadIndex}
use Rattle.ctype_format.specs.declared.raw.RawValType.{RawValType}
use Rattle.ctype_format.specs.declared.raw.RawValType.TheVariants as valtypes
use Rattle.ctype_format.specs.declared.raw.RawAlias.{RawAlias}
use Rattle.ctype_format.specs.declared.raw.RawAlias.TheVariants as aliases
use Rattle.ctype_format.specs.declared.raw.RawDescription.{RawDescription}
use Rattle.ctype_format.specs.declared.raw.RawDescription.TheVariants as descriptions
use Rattle.ctype_format.specs.declared.opcode.Opcode.{Opcode}
use Rattle.ctype_format.specs.declared.opcode.Opcode.TheVariants as op
use Rattle.ctype_format.specs.declared.scope.Scope.{Scope}
use Rattle.ctype_format.specs.Bytes.{Bytes, byte, only_bytes, unless, u32, s33, choose, spells_by}
use Rattle.ctype_format.specs.Grammar as g
use Rattle.ctype_format.specs.File as f
use Rattle.ctype_format.specs.View.{decls_of}
use Rattle.ctype_format.specs.Raw as raw
use Rattle.ctype_format.specs.Raw.{Define, Func, Component, Instance, Decl, Entry, Alias, Import, Export, Decls, BinaryFile, TypeEntry}
use Rattle.ctype_format.specs.Formed.{All}
use Rattle.ctype_bin.specs.InRange.{ValTypeInRange, OptionInRange, FieldInRange, CaseInRange, DefinedInRange, DescriptionInRange, AliasInRange, described_types, instances_with, types_behind, instances_behind, TypeInRange, DeclInRange, DeclsInRange, TypesInRange, FileInRange}
use Rattle.ctype_bin.proofs.RewrittenIsSpelt.ValueTypes.{passes}
use Rattle.ctype_bin.proofs.RewrittenIsSpelt.Files.{sized_both}

-- ---- combinators

-- what is spelled has P
pub record Yields {X : Type 0} (p : Bytes X) (P : X → Type 0) : Type 0 where
  pub holds : (bytes : List ℕ) (x : X) → p.spells bytes x → P x

yields-any : {X : Type 0} (p : Bytes X) → Yields p (λ x. Unit {0})
yields-any p = record { holds = λ bytes x s. tt }

yields-then : {X Y : Type 0} (p : Bytes X) (q : X → Bytes Y) (P : X → Type 0) (Q : Y → Type 0) → Yields p P → ((x : X) → P x → Yields (q x) Q) → Yields (p >>= q) Q
yields-then p q P Q yp yq = record { holds = λ bytes y s. (yq s.2 (yp.holds s.0 s.2 s.4)).holds s.1 y s.5 }

yields-give : {X : Type 0} (x : X) (P : X → Type 0) → P x → Yields (give x) P
yields-give {X = X} x P h = record { holds = λ bytes y s. subst (λ (v : X). P v) (sym s.1) h }

yields-gives : {X Y : Type 0} (p : Bytes X) (k : X → Y) (P : X → Type 0) (Q : Y → Type 0) → Yields p P → ((x : X) → P x → Q (k x)) → Yields (p >>= λ x. give (k x)) Q
yields-gives p k P Q yp same = yields-then p (λ x. give (k x)) P Q yp (λ x h. yields-give (k x) Q (same x h))

-- a test was passed
yields-tested : {X : Type 0} (p : Bytes X) (test : X → Bool) (fault : Fault) → Yields (only_bytes p (λ x. unless (test x) fault)) (λ x. test x ≡ true)
yields-tested p test fault = record { holds = λ bytes x s. passes (test x) fault 0 (s.1 []) }

yields-when : {X : Type 0} (test : Bool) (p q : Bytes X) (P : X → Type 0) → (test ≡ true → Yields p P) → (test ≡ false → Yields q P) → Yields (when test p q) P
yields-when true p q P yp yq = record { holds = λ bytes x s. (yp refl).holds bytes x s }
yields-when false p q P yp yq = record { holds = λ bytes x s. (yq refl).holds bytes x s }

yields-choose : {X : Type 0} (test : ℕ → Bool) (p q : Bytes X) (P : X → Type 0) → Yields p P → Yields q P → Yields (choose test p q) P
yields-choose test p q P yp yq = record { holds = on }
  where
    by : (b : Bool) (bytes : List ℕ) (x : _) → MatchBool b (p.spells bytes x) (q.spells bytes x) → P x
    by true bytes x s = yp.holds bytes x s
    by false bytes x s = yq.holds bytes x s

    on : (bytes : List ℕ) (x : _) → spells_by test p q bytes x → P x
    on [] x s = absurd s
    on (b ∷ bs) x s = by (test b) (b ∷ bs) x s

yields-times : {X : Type 0} (n : ℕ) (p : Bytes X) (P : X → Type 0) → Yields p P → Yields (times n p) (λ xs. All P xs)
unfolding times
yields-times zero p P yp = yields-give [] (λ xs. All P xs) tt
yields-times (suc n) p P yp = yields-then p (λ x. times n p >>= λ xs. give (x ∷ xs)) P (λ xs. All P xs) yp
    (λ x h. yields-gives (times n p) (λ xs. x ∷ xs) (λ xs. All P xs) (λ xs. All P xs) (yields-times n p P yp) (λ xs hs. (h, hs)))

-- R is what holds of items from a state on, and of the state behind them
yields-run : {X S : Type 0} (p : S → Bytes (X × S)) (P : S → X × S → Type 0) (R : S → List X × S → Type 0) → ((s : S) → R s ([], s)) → ((s : S) (first : X × S) (others : List X × S) → P s first → R first.1 others → R s (first.0 ∷ others.0, others.1)) → ((s : S) → Yields (p s) (P s))
    → (n : ℕ) (s : S) → Yields (run p n s) (R s)
unfolding run
yields-run p P R base step yp zero s = yields-give ([], s) (R s) (base s)
yields-run p P R base step yp (suc n) s = yields-then (p s) (λ first. run p n first.1 >>= λ others. give (first.0 ∷ others.0, others.1)) (P s) (R s) (yp s)
    (λ first h. yields-gives (run p n first.1) (λ others. (first.0 ∷ others.0, others.1)) (R first.1) (R s) (yields-run p P R base step yp n first.1) (λ others hs. step s first others h hs))

-- ---- value types and types without scopes

yields-index : (count : ℕ) → Yields (g.index count) (λ i. i < count)
yields-index count = record { holds = λ bytes i s. ltb-true i count ((yields-tested u32 (λ i. nat_lt i count) BadIndex).holds bytes i s) }

yields-valtype : (types : ℕ) → Yields (g.valtype types) (ValTypeInRange types)
unfolding g.valtype g.primitive g.type_index
yields-valtype types = yields-choose g.is_opcode g.primitive (g.type_index types) (ValTypeInRange types)
    (yields-gives (only_bytes byte g.valtype_fault) (λ b. valtypes.Primitive (g.primitive_at b)) (λ b. Unit {0}) (ValTypeInRange types) (yields-any _) (λ b h. tt))
    (yields-gives (only_bytes s33 (λ i. unless (nat_lt i types) BadIndex)) (λ i. valtypes.Index i) (λ i. nat_lt i types ≡ true) (ValTypeInRange types) (yields-tested s33 (λ i. nat_lt i types) BadIndex) (λ i h. ltb-true i types h))

yields-present : (types : ℕ) → Yields (g.present types) (OptionInRange types)
yields-present types = yields-gives (g.valtype types) (λ t. Some t) (ValTypeInRange types) (OptionInRange types) (yields-valtype types) (λ t h. h)

yields-optional : (types : ℕ) → Yields (g.optional_valtype types) (OptionInRange types)
unfolding g.optional_valtype
yields-optional types = yields-then g.flag_byte _ (λ b. Unit {0}) (OptionInRange types) (yields-any g.flag_byte)
    (λ b h. yields-when (b == 0) (give None) (g.present types) (OptionInRange types) (λ is. yields-give None (OptionInRange types) tt) (λ is. yields-present types))

yields-outcome : (types : ℕ) → Yields (g.outcome types) (OptionInRange types)
unfolding g.outcome
yields-outcome types = yields-then g.flag_byte _ (λ b. Unit {0}) (OptionInRange types) (yields-any g.flag_byte)
    (λ b h. yields-when (b == 0) (g.present types) g.absent (OptionInRange types) (λ is. yields-present types) (λ is. yields-gives g.zero_byte (λ c. None) (λ c. Unit {0}) (OptionInRange types) (yields-any g.zero_byte) (λ c k. tt)))

yields-field : (types : ℕ) → Yields (g.field types) (FieldInRange types)
unfolding g.field
yields-field types = yields-then g.label _ (λ text. Unit {0}) (FieldInRange types) (yields-any g.label)
    (λ text h. yields-gives (g.valtype types) (λ t. record { label = text; ty = t }) (ValTypeInRange types) (FieldInRange types) (yields-valtype types) (λ t k. k))

yields-case : (types : ℕ) → Yields (g.case types) (CaseInRange types)
unfolding g.case
yields-case types = yields-then g.label _ (λ text. Unit {0}) (CaseInRange types) (yields-any g.label)
    (λ text h. yields-then (g.optional_valtype types) _ (OptionInRange types) (CaseInRange types) (yields-optional types)
    (λ o k. yields-gives g.zero_byte (λ b. record { label = text; payload = o }) (λ b. Unit {0}) (CaseInRange types) (yields-any g.zero_byte) (λ b u. k)))

-- a count and as many
yields-counted : {X : Type 0} (c : Bytes ℕ) (p : Bytes X) (k : List X → TypeEntry) (P : X → Type 0) (Q : TypeEntry → Type 0) → Yields p P → ((xs : List X) → All P xs → Q (k xs)) → Yields (c >>= λ n. times n p >>= λ xs. give (k xs)) Q
yields-counted c p k P Q yp same = yields-then c _ (λ n. Unit {0}) Q (yields-any c) (λ n h. yields-gives (times n p) k (λ xs. All P xs) Q (yields-times n p P yp) same)

module _ (around : List ℕ) (types : ℕ) where
  abbrev Good : TypeEntry → Type 0
  Good = TypeInRange around types

  yields-plain : (o : Opcode) → Yields (g.plain_entry types o) Good
  unfolding g.plain_entry g.record_type g.variant_type g.list_type g.tuple_type g.flags_type g.enum_type g.option_type g.result_entry g.function_entry TypeInRange
  yields-plain (op.Primitive p) = yields-give (Define (raw.Prim p)) Good tt
  yields-plain op.Record = yields-counted g.some (g.field types) (λ fs. Define (raw.Record fs)) (FieldInRange types) Good (yields-field types) (λ fs h. h)
  yields-plain op.Variant = yields-counted (g.some_upto g.max_cases) (g.case types) (λ cs. Define (raw.Variant cs)) (CaseInRange types) Good (yields-case types) (λ cs h. h)
  yields-plain op.List = yields-gives (g.valtype types) (λ e. Define (raw.ListOf e)) (ValTypeInRange types) Good (yields-valtype types) (λ e h. h)
  yields-plain op.Tuple = yields-counted g.some (g.valtype types) (λ es. Define (raw.Tuple es)) (ValTypeInRange types) Good (yields-valtype types) (λ es h. h)
  yields-plain op.Flags = yields-counted (g.some_upto g.max_flags) g.label (λ ls. Define (raw.FlagSet ls)) (λ l. Unit {0}) Good (yields-any g.label) (λ ls h. tt)
  yields-plain op.Enum = yields-counted (g.some_upto g.max_cases) g.label (λ ls. Define (raw.Enumeration ls)) (λ l. Unit {0}) Good (yields-any g.label) (λ ls h. tt)
  yields-plain op.Option = yields-gives (g.valtype types) (λ e. Define (raw.OptionOf e)) (ValTypeInRange types) Good (yields-valtype types) (λ e h. h)
  yields-plain op.Result = yields-then (g.optional_valtype types) _ (OptionInRange types) Good (yields-optional types)
      (λ ok h. yields-gives (g.optional_valtype types) (λ error. Define (raw.ResultOf ok error)) (OptionInRange types) Good (yields-optional types) (λ error k. (h, k)))
  yields-plain op.Function = yields-then u32 _ (λ n. Unit {0}) Good (yields-any u32)
      (λ n u. yields-then (times n (g.field types)) _ (λ ps. All (FieldInRange types) ps) Good (yields-times n (g.field types) (FieldInRange types) (yields-field types))
      (λ ps h. yields-gives (g.outcome types) (λ r. Func (record { params = ps; outcome = r })) (OptionInRange types) Good (yields-outcome types) (λ r k. (h, k))))
  yields-plain op.Component = record { holds = λ bytes d s. absurd s }
  yields-plain op.Instance = record { holds = λ bytes d s. absurd s }

-- ---- declarations

-- a declaration in range, and the scope behind it
abbrev pub Behind : List ℕ → Scope → Decl × Scope → Type 0
Behind around scope y = DeclInRange around scope.types scope.instances y.0 × ((y.1.types ≡ types_behind scope.types y.0) × (y.1.instances ≡ instances_behind scope.instances y.0))

yields-alias : (around : List ℕ) (scope : Scope) → Yields (g.alias_entry around scope) (Behind around scope)
unfolding g.alias_entry g.instance_alias g.outer_type DeclInRange
yields-alias around scope = yields-then (only_bytes byte (λ b. g.opcode_entry_fault scope.entries (b == 3) b)) _ (λ b. Unit {0}) (Behind around scope) (yields-any _)
    (λ sort u. yields-then (only_bytes byte (λ b. unless (b == 0 || b == 2) (UnknownOpcode b))) _ (λ b. Unit {0}) (Behind around scope) (yields-any _)
    (λ t v. yields-gives (when (t == 0) (g.instance_alias scope) (g.outer_type around scope)) (λ a. (Alias a, g.with_type scope)) (AliasInRange around scope.types scope.instances) (Behind around scope)
    (yields-when (t == 0) (g.instance_alias scope) (g.outer_type around scope) (AliasInRange around scope.types scope.instances)
    (λ is. yields-then (g.index scope.instances) _ (λ i. i < scope.instances) (AliasInRange around scope.types scope.instances) (yields-index scope.instances)
    (λ i h. yields-gives g.label (λ text. aliases.InstanceExport i text) (λ text. Unit {0}) (AliasInRange around scope.types scope.instances) (yields-any g.label) (λ text k. h)))
    (λ is. yields-then (only_bytes u32 (λ n. unless (nat_le n (length around)) BadIndex)) _ (λ n. nat_le n (length around) ≡ true) (AliasInRange around scope.types scope.instances) (yields-tested u32 (λ n. nat_le n (length around)) BadIndex)
    (λ n h. yields-gives (g.index (g.types_at around scope.types n)) (λ i. aliases.Outer n i) (λ i. i < g.types_at around scope.types n) (AliasInRange around scope.types scope.instances) (yields-index (g.types_at around scope.types n)) (λ i k. (leb-true n (length around) h, k)))))
    (λ a h. (h, (refl, refl)))))

abbrev Described : Scope → RawDescription × Scope → Type 0
Described scope y = DescriptionInRange scope.types y.0 × ((y.1.types ≡ described_types scope.types y.0) × (y.1.instances ≡ instances_with scope.instances y.0))

described : (scope : Scope) (i : ℕ) (a b : Bool) → i < scope.types → Described scope (if a then (descriptions.Function i, scope) else (if b then (descriptions.Component i, scope) else (descriptions.Instance i, g.with_instance scope)))
described scope i true b h = (h, (refl, refl))
described scope i false true h = (h, (refl, refl))
described scope i false false h = (h, (refl, refl))

yields-description : (scope : Scope) → Yields (g.description scope) (Described scope)
unfolding g.description
yields-description scope = yields-then (only_bytes byte (g.description_fault scope.entries)) _ (λ b. Unit {0}) (Described scope) (yields-any _)
    (λ sort u. yields-when (sort == 3) (g.equal_type scope) (g.indexed scope sort) (Described scope)
    (λ is. yields-then g.zero_byte _ (λ b. Unit {0}) (Described scope) (yields-any g.zero_byte)
    (λ m v. yields-gives (g.index scope.types) (λ i. (descriptions.TypeEqual i, g.with_type scope)) (λ i. i < scope.types) (Described scope) (yields-index scope.types) (λ i h. (h, (refl, refl)))))
    (λ is. yields-gives (g.index scope.types) (λ i. g.described scope sort i) (λ i. i < scope.types) (Described scope) (yields-index scope.types) (λ i h. described scope i (sort == 1) (sort == 4) h)))

external : (around : List ℕ) (scope : Scope) (a : Bool) (text : List ℕ) (d : RawDescription × Scope) → Described scope d → Behind around scope (if a then Import text d.0 else Export text d.0, d.1)
unfolding DeclInRange
external around scope true text d h = h
external around scope false text d h = h

yields-external : (around : List ℕ) (scope : Scope) (sort : ℕ) → Yields (g.external scope sort) (Behind around scope)
unfolding g.external
yields-external around scope sort = yields-then g.extern_name _ (λ text. Unit {0}) (Behind around scope) (yields-any g.extern_name)
    (λ text u. yields-gives (g.description scope) (λ d. (if sort == 3 then Import text d.0 else Export text d.0, d.1)) (Described scope) (Behind around scope) (yields-description scope) (λ d h. external around scope (sort == 3) text d h))

abbrev YieldsTypes : g.Reader → Type 0
YieldsTypes t = (around : List ℕ) (scope : Scope) → Yields (t around scope) (λ y. TypeInRange around scope.types y.0)

yields-decl : (t : g.Reader) → YieldsTypes t → (component : Bool) (around : List ℕ) (scope : Scope) → Yields (g.decl t component around scope) (Behind around scope)
unfolding g.decl DeclInRange
yields-decl t yt component around scope = yields-then (only_bytes byte (λ b. unless (g.is_decl component b) (UnknownOpcode b))) _ (λ b. Unit {0}) (Behind around scope) (yields-any _)
    (λ sort u. yields-when (sort == 1) (g.definition_entry t around scope) (when (sort == 2) (g.alias_entry around scope) (g.external scope sort)) (Behind around scope)
    (λ is. yields-gives (t around scope) (λ x. (Entry x.0, g.with_entries scope x.1)) (λ y. TypeInRange around scope.types y.0) (Behind around scope) (yt around scope) (λ x h. (h, (refl, refl))))
    (λ is. yields-when (sort == 2) (g.alias_entry around scope) (g.external scope sort) (Behind around scope) (λ two. yields-alias around scope) (λ two. yields-external around scope sort)))

abbrev Declared : List ℕ → Scope → List Decl × Scope → Type 0
Declared around scope y = DeclsInRange around scope.types scope.instances (decls_of y.0)

yields-decls : (t : g.Reader) → YieldsTypes t → (component : Bool) (around : List ℕ) (n : ℕ) (scope : Scope) → Yields (run (g.decl t component around) n scope) (Declared around scope)
unfolding DeclInRange
yields-decls t yt component around n scope = yields-run (g.decl t component around) (Behind around) (Declared around) (λ s. tt)
    (λ s first others h hs. (h.0, subst (λ (m : ℕ). DeclsInRange around m (instances_behind s.instances first.0) (decls_of others.0)) h.1.0 (subst (λ (m : ℕ). DeclsInRange around first.1.types m (decls_of others.0)) h.1.1 hs)))
    (yields-decl t yt component around) n scope

nested : (o : Opcode) (around : List ℕ) (types : ℕ) (ds : List Decl) → DeclsInRange (around ++ types ∷ []) 0 0 (decls_of ds) → TypeInRange around types (g.nested o ds)
unfolding TypeInRange
nested op.Component around types ds h = h
nested op.Instance around types ds h = h
nested (op.Primitive p) around types ds h = h
nested op.Record around types ds h = h
nested op.Variant around types ds h = h
nested op.List around types ds h = h
nested op.Tuple around types ds h = h
nested op.Flags around types ds h = h
nested op.Enum around types ds h = h
nested op.Option around types ds h = h
nested op.Result around types ds h = h
nested op.Function around types ds h = h

yields-scope : (t : g.Reader) → YieldsTypes t → (o : Opcode) (around : List ℕ) (types entries : ℕ) → Yields (g.scope_of t o (around ++ types ∷ []) entries) (λ y. TypeInRange around types y.0)
unfolding g.scope_of
yields-scope t yt o around types entries = yields-then u32 _ (λ n. Unit {0}) (λ y. TypeInRange around types y.0) (yields-any u32)
    (λ n u. yields-gives (run (g.decl t (g.is_component o) (around ++ types ∷ [])) n (g.new_scope entries)) (λ ds. (g.nested o ds.0, ds.1.entries)) (Declared (around ++ types ∷ []) (g.new_scope entries)) (λ y. TypeInRange around types y.0)
    (yields-decls t yt (g.is_component o) (around ++ types ∷ []) n (g.new_scope entries)) (λ ds h. nested o around types ds.0 h))

yields-plain_type : (around : List ℕ) (scope : Scope) (o : Opcode) → Yields (g.plain_type scope o) (λ y. TypeInRange around scope.types y.0)
yields-plain_type around scope o = yields-gives (g.plain_entry scope.types o) (λ t. (t, scope.entries + 1)) (TypeInRange around scope.types) (λ y. TypeInRange around scope.types y.0) (yields-plain around scope.types o) (λ t h. h)

pub yields-type : (depth : ℕ) → YieldsTypes (g.type depth)
unfolding g.type
yields-type zero around scope = yields-then (g.opcode 0 scope.entries) _ (λ o. Unit {0}) (λ y. TypeInRange around scope.types y.0) (yields-any _) (λ o h. yields-plain_type around scope o)
yields-type (suc depth) around scope = yields-then (g.opcode (suc depth) scope.entries) _ (λ o. Unit {0}) (λ y. TypeInRange around scope.types y.0) (yields-any _)
    (λ o h. yields-when (g.is_nested o) (g.scope_of (g.type depth) o (around ++ scope.types ∷ []) (scope.entries + 1)) (g.plain_type scope o) (λ y. TypeInRange around scope.types y.0)
    (λ is. yields-scope (g.type depth) (yields-type depth) o around scope.types (scope.entries + 1)) (λ is. yields-plain_type around scope o))

-- ---- the file

abbrev Entered : Scope → TypeEntry × Scope → Type 0
Entered scope y = TypeInRange [] scope.types y.0 × (y.1.types ≡ scope.types + 1)

yields-entry : (scope : Scope) → Yields (f.entry_of_type scope) (Entered scope)
unfolding f.entry_of_type
yields-entry scope = yields-gives (g.type f.max_scope_depth [] scope) (λ t. (t.0, g.with_entries scope t.1)) (λ y. TypeInRange [] scope.types y.0) (Entered scope) (yields-type f.max_scope_depth [] scope) (λ t h. (h, refl))

abbrev Sectioned : Scope → List TypeEntry × Scope → Type 0
Sectioned scope y = TypesInRange scope.types y.0 × (y.1.types ≡ scope.types + length y.0)

sectioned : (s : Scope) (first : TypeEntry × Scope) (others : List TypeEntry × Scope) → Entered s first → Sectioned first.1 others → Sectioned s (first.0 ∷ others.0, others.1)
sectioned s first others h hs = ((h.0, subst (λ (n : ℕ). TypesInRange n others.0) h.1 hs.0), omega (arith, h.1, hs.1))

yields-types : Yields f.type_section (λ y. TypesInRange 0 y.0 × (y.1.types ≡ length y.0))
unfolding f.type_section
yields-types = yields-then u32 _ (λ n. Unit {0}) (λ y. TypesInRange 0 y.0 × (y.1.types ≡ length y.0)) (yields-any u32)
    (λ n u. record { holds = λ bytes y s. let h = (yields-run f.entry_of_type Entered Sectioned (λ s. (tt, omega arith)) sectioned yields-entry n (g.new_scope 0)).holds bytes y s in (h.0, omega (arith, h.1)) })

yields-exports : (types : ℕ) → Yields (f.export_section types) (λ es. All (λ e. e.type < types) es)
unfolding f.export_section f.exported
yields-exports types = yields-then u32 _ (λ n. Unit {0}) (λ es. All (λ e. e.type < types) es) (yields-any u32)
    (λ n u. yields-times n (f.exported types) (λ e. e.type < types)
    (yields-then g.extern_name _ (λ text. Unit {0}) (λ e. e.type < types) (yields-any g.extern_name)
    (λ text v. yields-then (only_bytes byte (λ b. unless (b == 3) (UnknownOpcode b))) _ (λ b. Unit {0}) (λ e. e.type < types) (yields-any _)
    (λ sort w. yields-then (g.index types) _ (λ i. i < types) (λ e. e.type < types) (yields-index types)
    (λ i h. yields-gives g.zero_byte (λ b. record { name = text; type = i }) (λ b. Unit {0}) (λ e. e.type < types) (yields-any g.zero_byte) (λ b k. h))))))

pub file_in_range : (bytes : List ℕ) (x : BinaryFile) → f.component_file.spells bytes x → FileInRange x
unfolding f.component_file
file_in_range bytes x s =
    let b = s.5.5 in
    let d = b.5.5 in
    let types = yields-types.holds b.0 b.2 (sized_both _ s.5.2 f.type_section b.0 b.2 b.4).1 in
    let exports = (yields-exports b.2.1.types).holds d.0 d.2 (sized_both _ b.5.2 (f.export_section b.2.1.types) d.0 d.2 d.4).1 in
    subst FileInRange (sym d.5.5.1) (types.0, subst (λ (n : ℕ). All (λ e. e.type < n) d.2) types.1 exports)

-- ---- it is a mere fact

one : IsProp (Unit {0})
one x y = refl

both : {A B : Type 0} → IsProp A → IsProp B → IsProp (A × B)
both pa pb x y = rw (pa x.0 y.0, pb x.1 y.1) refl

less : (m n : ℕ) → IsProp (m < n)
less m n = le_prop

prop_all : {X : Type 0} (P : X → Type 0) → ((x : X) → IsProp (P x)) → (xs : List X) → IsProp (All P xs)
prop_all P h [] = one
prop_all P h (x ∷ xs) = both (h x) (prop_all P h xs)

prop_valtype : (types : ℕ) (t : RawValType) → IsProp (ValTypeInRange types t)
prop_valtype types (valtypes.Primitive p) = one
prop_valtype types (valtypes.Index i) = less i types

prop_option : (types : ℕ) (o : Option RawValType) → IsProp (OptionInRange types o)
prop_option types None = one
prop_option types (Some t) = prop_valtype types t

prop_defined : (types : ℕ) (d : raw.Defined) → IsProp (DefinedInRange types d)
prop_defined types (raw.Prim p) = one
prop_defined types (raw.Record fs) = prop_all (FieldInRange types) (λ f. prop_valtype types f.ty) fs
prop_defined types (raw.Variant cs) = prop_all (CaseInRange types) (λ c. prop_option types c.payload) cs
prop_defined types (raw.ListOf e) = prop_valtype types e
prop_defined types (raw.Tuple es) = prop_all (ValTypeInRange types) (prop_valtype types) es
prop_defined types (raw.FlagSet ls) = one
prop_defined types (raw.Enumeration ls) = one
prop_defined types (raw.OptionOf e) = prop_valtype types e
prop_defined types (raw.ResultOf ok error) = both (prop_option types ok) (prop_option types error)

prop_description : (types : ℕ) (d : RawDescription) → IsProp (DescriptionInRange types d)
prop_description types (descriptions.Function i) = less i types
prop_description types (descriptions.TypeEqual i) = less i types
prop_description types (descriptions.Component i) = less i types
prop_description types (descriptions.Instance i) = less i types

prop_alias : (around : List ℕ) (types instances : ℕ) (a : RawAlias) → IsProp (AliasInRange around types instances a)
prop_alias around types instances (aliases.InstanceExport i text) = less i instances
prop_alias around types instances (aliases.Outer n i) = both le_prop (less i (g.types_at around types n))

mutual
  unfolding TypeInRange

  prop_type : (around : List ℕ) (types : ℕ) (d : TypeEntry) → IsProp (TypeInRange around types d)
  prop_type around types (Define d) = prop_defined types d
  prop_type around types (Func f) = both (prop_all (FieldInRange types) (λ p. prop_valtype types p.ty) f.params) (prop_option types f.outcome)
  prop_type around types (Component ds) = prop_decls (around ++ types ∷ []) 0 0 ds
  prop_type around types (Instance ds) = prop_decls (around ++ types ∷ []) 0 0 ds

  prop_decl : (around : List ℕ) (types instances : ℕ) (d : Decl) → IsProp (DeclInRange around types instances d)
  prop_decl around types instances (Entry t) = prop_type around types t
  prop_decl around types instances (Alias a) = prop_alias around types instances a
  prop_decl around types instances (Import text d) = prop_description types d
  prop_decl around types instances (Export text d) = prop_description types d

  prop_decls : (around : List ℕ) (types instances : ℕ) (ds : Decls) → IsProp (DeclsInRange around types instances ds)
  prop_decls around types instances raw.none = one
  prop_decls around types instances (raw.then d ds) = both (prop_decl around types instances d) (prop_decls around (types_behind types d) (instances_behind instances d) ds)

prop_types : (types : ℕ) (ds : List TypeEntry) → IsProp (TypesInRange types ds)
prop_types types [] = one
prop_types types (d ∷ ds) = both (prop_type [] types d) (prop_types (types + 1) ds)

pub prop_file : (x : BinaryFile) → IsProp (FileInRange x)
prop_file x = both (prop_types 0 x.types) (prop_all (λ e. e.type < length x.types) (λ e. less e.type (length x.types)) x.exports)
