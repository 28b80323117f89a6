-- What is written of a type is read as that type, or a fault of it is met: imports, exports, declarations and scopes.
use Rattle.std.proofs.Common.{◌≡◌, ℕ, zero, suc, ◌+◌, Bool, true, false, List, [], ◌∷◌, ◌++◌, length, Option, None, refl, sym, ap, subst, ◌∙◌}
use Rattle.std.specs.Prelude.{◌||◌, ◌&&◌, not, ◌==◌, nat_le, if◌then◌else◌}
use Rattle.atoms.specs.Production.{give, ◌>>=◌, when, run}
use Rattle.ctype_format.specs.declared.error.Fault.{Fault}
use Rattle.ctype_format.specs.declared.error.Fault.TheVariants.{UnknownOpcode, BadIndex, Limit}
use Rattle.ctype_format.specs.declared.raw.RawAlias.{RawAlias}
use Rattle.ctype_format.specs.declared.raw.RawAlias.TheVariants as aliases
use Rattle.ctype_format.specs.declared.raw.RawDescription.{RawDescription}
use Rattle.ctype_format.specs.declared.raw.RawDescription.TheVariants as descriptions
use Rattle.ctype_format.specs.declared.opcode.Opcode.{Opcode}
use Rattle.ctype_format.specs.declared.opcode.Opcode.TheVariants as op
use Rattle.ctype_format.specs.declared.scope.Scope.{Scope}
use Rattle.ctype_format.specs.Opcodes.{opcode_of}
use Rattle.ctype_format.specs.Bytes.{Bytes, byte, only_bytes, unless, u32}
use Rattle.ctype_format.specs.Grammar as g
use Rattle.ctype_format.specs.View.{decls_of}
use Rattle.ctype_format.specs.Raw.{Define, Func, Component, Instance, Decl, Entry, Alias, Import, Export, Decls, none, TypeEntry}
use Rattle.ctype_format.specs.Raw as raw
use Rattle.ctype_format.specs.Writing.{u32_bytes, name_bytes, extern_bytes, description_bytes, alias_bytes, decl_count, type_bytes, decl_bytes, decls_bytes}
use Rattle.ctype_format.specs.Formed.{FitsU32, FormedAlias, FormedDescription, FormedName, FormedType, FormedDecl, FormedDecls}
use Rattle.ctype_bin.proofs.RewrittenIsSpelt.Types.{opcode_byte, opcode_back}
use Rattle.ctype_bin.proofs.RereadAsWritten.Combinators.{OfFault, Rereads, reread-then, reread-next, reread-give, reread-gives, reread-only, reread-tested, reread-byte, reread-u32}
use Rattle.ctype_bin.proofs.RereadAsWritten.Types.{of_index, of_limit, reread-index, reread-zero, reread-label, reread-extern, OpensPlain, opens_defined, opens_function}

-- ---- aliases

abbrev pub alias_back : RawAlias → List ℕ
alias_back (aliases.InstanceExport i text) = 0 ∷ (u32_bytes i ++ name_bytes text)
alias_back (aliases.Outer n i) = 2 ∷ (u32_bytes n ++ u32_bytes i)

pub alias_front : (a : RawAlias) → alias_bytes a ≡ (3 ∷ []) ++ alias_back a
alias_front (aliases.InstanceExport i text) = refl
alias_front (aliases.Outer n i) = refl

-- what stands behind the first byte of an alias
abbrev pub target : List ℕ → Scope → Bytes (Decl × Scope)
target around scope = do
  t ← only_bytes byte (λ b. unless (b == 0 || b == 2) (UnknownOpcode b))
  a ← when (t == 0) (g.instance_alias scope) (g.outer_type around scope)
  give (Alias a, g.with_type scope)

aliased : {W : Type 0} (around : List ℕ) (scope : Scope) (t : ℕ) (back : List ℕ) (a : RawAlias) → (t == 0 || t == 2) ≡ true → Rereads W (when (t == 0) (g.instance_alias scope) (g.outer_type around scope)) back (λ y. y ≡ a)
    → Rereads W (target around scope) (t ∷ back) (λ y. y.0 ≡ Alias a)
aliased around scope t back a is h = reread-next (only_bytes byte (λ b. unless (b == 0 || b == 2) (UnknownOpcode b))) _ (t ∷ []) back t (λ y. y.0 ≡ Alias a) (reread-tested byte (λ b. unless (b == 0 || b == 2) (UnknownOpcode b)) (t ∷ []) t (reread-byte t) (rw is tt))
    (reread-gives (when (t == 0) (g.instance_alias scope) (g.outer_type around scope)) (λ a. (Alias a, g.with_type scope)) back (λ y. y ≡ a) (λ y. y.0 ≡ Alias a) h (λ y e. ap Alias e))

targets : {W : Type 0} (around : List ℕ) (scope : Scope) (a : RawAlias) → (W → FormedAlias a)
    → Rereads W (target around scope) (alias_back a) (λ y. y.0 ≡ Alias a)
unfolding g.instance_alias g.outer_type
targets around scope (aliases.InstanceExport i text) formed = aliased around scope 0 (u32_bytes i ++ name_bytes text) (aliases.InstanceExport i text) refl
    (reread-next (g.index scope.instances) _ (u32_bytes i) (name_bytes text) i (λ y. y ≡ aliases.InstanceExport i text) (reread-index scope.instances i (λ w. (formed w).0))
    (reread-gives g.label (λ text. aliases.InstanceExport i text) (name_bytes text) (λ y. y ≡ text) (λ y. y ≡ aliases.InstanceExport i text) (reread-label text (λ w. (formed w).1)) (λ y e. rw e refl)))
targets around scope (aliases.Outer n i) formed = aliased around scope 2 (u32_bytes n ++ u32_bytes i) (aliases.Outer n i) refl
    (reread-next (only_bytes u32 (λ n. unless (nat_le n (length around)) BadIndex)) _ (u32_bytes n) (u32_bytes i) n (λ y. y ≡ aliases.Outer n i) (reread-tested u32 (λ n. unless (nat_le n (length around)) BadIndex) (u32_bytes n) n (reread-u32 n (λ w. (formed w).0)) (of_index _ (nat_le n (length around))))
    (reread-gives (g.index (g.types_at around scope.types n)) (λ i. aliases.Outer n i) (u32_bytes i) (λ y. y ≡ i) (λ y. y ≡ aliases.Outer n i) (reread-index (g.types_at around scope.types n) i (λ w. (formed w).1)) (λ y e. rw e refl)))

reread-alias : {W : Type 0} (around : List ℕ) (scope : Scope) (a : RawAlias) → (W → FormedAlias a) → Rereads W (g.alias_entry around scope) (alias_bytes a) (λ y. y.0 ≡ Alias a)
unfolding g.alias_entry
reread-alias {W = W} around scope a formed = subst (λ (l : List ℕ). Rereads W (g.alias_entry around scope) l (λ y. y.0 ≡ Alias a)) (sym (alias_front a))
    (reread-next (only_bytes byte (λ b. g.opcode_entry_fault scope.entries (b == 3) b)) _ (3 ∷ []) (alias_back a) 3 (λ y. y.0 ≡ Alias a) (reread-tested byte (λ b. g.opcode_entry_fault scope.entries (b == 3) b) (3 ∷ []) 3 (reread-byte 3) (of_limit W (not (g.is_full scope.entries))))
    (targets around scope a formed))

-- ---- descriptions

indexed : {W : Type 0} (scope : Scope) (sort i : ℕ) (d : RawDescription) → (g.described scope sort i).0 ≡ d → OfFault W (g.description_fault scope.entries sort) → (sort == 3) ≡ false → (W → FitsU32 i) → Rereads W (g.description scope) (sort ∷ u32_bytes i) (λ y. y.0 ≡ d)
unfolding g.description
indexed {W = W} scope sort i d is tested other fits = reread-next (only_bytes byte (g.description_fault scope.entries)) _ (sort ∷ []) (u32_bytes i) sort (λ y. y.0 ≡ d) (reread-tested byte (g.description_fault scope.entries) (sort ∷ []) sort (reread-byte sort) tested)
    (subst (λ (b : Bool). Rereads W (when b (g.equal_type scope) (g.indexed scope sort)) (u32_bytes i) (λ y. y.0 ≡ d)) (sym other)
    (reread-gives (g.index scope.types) (λ i. g.described scope sort i) (u32_bytes i) (λ y. y ≡ i) (λ y. y.0 ≡ d) (reread-index scope.types i fits) (λ y e. rw e is)))

reread-description : {W : Type 0} (scope : Scope) (d : RawDescription) → (W → FormedDescription d) → Rereads W (g.description scope) (description_bytes d) (λ y. y.0 ≡ d)
unfolding g.description
reread-description scope (descriptions.Function i) formed = indexed scope 1 i (descriptions.Function i) refl tt refl formed
reread-description {W = W} scope (descriptions.TypeEqual i) formed = reread-next (only_bytes byte (g.description_fault scope.entries)) _ (3 ∷ []) (0 ∷ u32_bytes i) 3 (λ y. y.0 ≡ descriptions.TypeEqual i)
    (reread-tested byte (g.description_fault scope.entries) (3 ∷ []) 3 (reread-byte 3) (of_limit W (not (g.is_full scope.entries))))
    (reread-next g.zero_byte _ (0 ∷ []) (u32_bytes i) 0 (λ y. y.0 ≡ descriptions.TypeEqual i) reread-zero
    (reread-gives (g.index scope.types) (λ i. (descriptions.TypeEqual i, g.with_type scope)) (u32_bytes i) (λ y. y ≡ i) (λ y. y.0 ≡ descriptions.TypeEqual i) (reread-index scope.types i formed) (λ y e. rw e refl)))
reread-description scope (descriptions.Component i) formed = indexed scope 4 i (descriptions.Component i) refl tt refl formed
reread-description scope (descriptions.Instance i) formed = indexed scope 5 i (descriptions.Instance i) refl tt refl formed

reread-external : {W : Type 0} (scope : Scope) (sort : ℕ) (text : List ℕ) (d : RawDescription) (whole : Decl) → (if sort == 3 then Import text d else Export text d) ≡ whole → (W → FormedName text × FormedDescription d) → Rereads W (g.external scope sort) (extern_bytes text ++ description_bytes d) (λ y. y.0 ≡ whole)
unfolding g.external
reread-external scope sort text d whole is formed = reread-next g.extern_name _ (extern_bytes text) (description_bytes d) text (λ y. y.0 ≡ whole) (reread-extern text (λ w. (formed w).0))
    (reread-gives (g.description scope) (λ e. (if sort == 3 then Import text e.0 else Export text e.0, e.1)) (description_bytes d) (λ y. y.0 ≡ d) (λ y. y.0 ≡ whole) (reread-description scope d (λ w. (formed w).1)) (λ y e. rw e is))

-- ---- declarations

sorted : {W : Type 0} (t : g.Reader) (component : Bool) (around : List ℕ) (scope : Scope) (sort : ℕ) (back : List ℕ) (d : Decl) → OfFault W (unless (g.is_decl component sort) (UnknownOpcode sort)) → Rereads W (when (sort == 1) (g.definition_entry t around scope) (when (sort == 2) (g.alias_entry around scope) (g.external scope sort))) back (λ y. y.0 ≡ d) → Rereads W (g.decl t component around scope) (sort ∷ back) (λ y. y.0 ≡ d)
unfolding g.decl
sorted t component around scope sort back d tested h = reread-next (only_bytes byte (λ b. unless (g.is_decl component b) (UnknownOpcode b))) _ (sort ∷ []) back sort (λ y. y.0 ≡ d) (reread-tested byte (λ b. unless (g.is_decl component b) (UnknownOpcode b)) (sort ∷ []) sort (reread-byte sort) tested) h

import_tested : (W : Type 0) (component : Bool) → OfFault W (unless (g.is_decl component 3) (UnknownOpcode 3))
import_tested W true = tt
import_tested W false = λ w. refl

-- ---- opcodes

opcode_tested : (W : Type 0) (depth entries : ℕ) (o : Opcode) → OfFault W (g.opcode_fault depth entries (opcode_byte o) (opcode_of (opcode_byte o)))
opcode_tested W depth entries o = rw (opcode_back o) (of_limit W (not (g.is_full entries || (g.is_nested o && depth == 0))))

-- the opcode, whose scope has room
reread-opcode : {W : Type 0} (depth entries : ℕ) (o : Opcode) → Rereads W (g.opcode depth entries) (opcode_byte o ∷ []) (λ y. (y ≡ o) × (g.opcode_fault depth entries (opcode_byte o) (opcode_of (opcode_byte o)) ≡ None))
unfolding g.opcode
reread-opcode {W = W} depth entries o =
    let same : g.opcode_at (opcode_byte o) ≡ o = rw (opcode_back o) refl in
    let fault : ℕ → Option Fault = λ b. g.opcode_fault depth entries b (opcode_of b) in
    reread-gives (only_bytes byte (λ b. g.opcode_fault depth entries b (opcode_of b))) (λ b. g.opcode_at b) (opcode_byte o ∷ []) (λ b. (b ≡ opcode_byte o) × (g.opcode_fault depth entries b (opcode_of b) ≡ None)) (λ y. (y ≡ o) × (g.opcode_fault depth entries (opcode_byte o) (opcode_of (opcode_byte o)) ≡ None))
    (reread-only byte (λ b. g.opcode_fault depth entries b (opcode_of b)) (opcode_byte o ∷ []) (λ b. b ≡ opcode_byte o) (reread-byte (opcode_byte o)) (λ b e. subst (λ (c : ℕ). OfFault W (g.opcode_fault depth entries c (opcode_of c))) (sym e) (opcode_tested W depth entries o)))
    (λ b h. (ap g.opcode_at h.0 ∙ same, subst (λ (c : ℕ). g.opcode_fault depth entries c (opcode_of c) ≡ None) h.0 h.1))

-- no scope at depth 0
no_room : (entries : ℕ) (o : Opcode) → g.is_nested o ≡ true → g.opcode_fault 0 entries (opcode_byte o) (opcode_of (opcode_byte o)) ≡ None → ⊥
no_room entries o nested h = by (g.is_full entries) (rw (opcode_back o, nested) at h)
  where
    by : (b : Bool) → unless (not (b || (true && true))) Limit ≡ None → ⊥
    by true e = cc
    by false e = cc

reread-plain : {W : Type 0} (depth : ℕ) (around : List ℕ) (scope : Scope) (d : TypeEntry) → OpensPlain W scope.types d → Rereads W (g.type depth around scope) (type_bytes d) (λ y. y.0 ≡ d)
unfolding g.type
reread-plain {W = W} zero around scope d opens = subst (λ (l : List ℕ). Rereads W (g.type zero around scope) l (λ y. y.0 ≡ d)) (sym opens.written)
    (reread-then (g.opcode 0 scope.entries) _ (opcode_byte opens.opcode ∷ []) opens.back (λ y. (y ≡ opens.opcode) × (g.opcode_fault 0 scope.entries (opcode_byte opens.opcode) (opcode_of (opcode_byte opens.opcode)) ≡ None)) (λ y. y.0 ≡ d) (reread-opcode 0 scope.entries opens.opcode)
    (λ o h. subst (λ (v : Opcode). Rereads W (g.plain_type scope v) opens.back (λ y. y.0 ≡ d)) (sym h.0)
    (reread-gives (g.plain_entry scope.types opens.opcode) (λ t. (t, scope.entries + 1)) opens.back (λ y. y ≡ d) (λ y. y.0 ≡ d) opens.again (λ y e. e))))
reread-plain {W = W} (suc depth) around scope d opens = subst (λ (l : List ℕ). Rereads W (g.type (suc depth) around scope) l (λ y. y.0 ≡ d)) (sym opens.written)
    (reread-then (g.opcode (suc depth) scope.entries) _ (opcode_byte opens.opcode ∷ []) opens.back (λ y. (y ≡ opens.opcode) × (g.opcode_fault (suc depth) scope.entries (opcode_byte opens.opcode) (opcode_of (opcode_byte opens.opcode)) ≡ None)) (λ y. y.0 ≡ d) (reread-opcode (suc depth) scope.entries opens.opcode)
    (λ o h. subst (λ (v : Opcode). Rereads W (when (g.is_nested v) (g.scope_of (g.type depth) v (around ++ scope.types ∷ []) (scope.entries + 1)) (g.plain_type scope v)) opens.back (λ y. y.0 ≡ d)) (sym h.0)
    (subst (λ (b : Bool). Rereads W (when b (g.scope_of (g.type depth) opens.opcode (around ++ scope.types ∷ []) (scope.entries + 1)) (g.plain_type scope opens.opcode)) opens.back (λ y. y.0 ≡ d)) (sym opens.flat)
    (reread-gives (g.plain_entry scope.types opens.opcode) (λ t. (t, scope.entries + 1)) opens.back (λ y. y ≡ d) (λ y. y.0 ≡ d) opens.again (λ y e. e)))))

-- ---- scopes

RereadsDecls : Type 0 → ℕ → Decls → Type 0
RereadsDecls W depth ds = (component : Bool) (around : List ℕ) (scope : Scope) → Rereads W (run (g.decl (g.type depth) component around) (decl_count ds) scope) (decls_bytes ds) (λ y. decls_of y.0 ≡ ds)

reread-scope : {W : Type 0} (depth : ℕ) (o : Opcode) (ds : Decls) (d : TypeEntry) (around : List ℕ) (entries : ℕ) → ((ys : List Decl) → decls_of ys ≡ ds → g.nested o ys ≡ d) → (W → FitsU32 (decl_count ds)) → RereadsDecls W depth ds → Rereads W (g.scope_of (g.type depth) o around entries) (u32_bytes (decl_count ds) ++ decls_bytes ds) (λ y. y.0 ≡ d)
unfolding g.scope_of RereadsDecls
reread-scope depth o ds d around entries same fits all = reread-next u32 _ (u32_bytes (decl_count ds)) (decls_bytes ds) (decl_count ds) (λ y. y.0 ≡ d) (reread-u32 (decl_count ds) fits)
    (reread-gives (run (g.decl (g.type depth) (g.is_component o) around) (decl_count ds) (g.new_scope entries)) (λ y. (g.nested o y.0, y.1.entries)) (decls_bytes ds) (λ y. decls_of y.0 ≡ ds) (λ y. y.0 ≡ d) (all (g.is_component o) around (g.new_scope entries)) (λ y e. same y.0 e))

-- a type with a scope of its own, at any depth
reread-nested : {W : Type 0} (depth : ℕ) (around : List ℕ) (scope : Scope) (o : Opcode) (ds : Decls) (d : TypeEntry) → g.is_nested o ≡ true → ((ys : List Decl) → decls_of ys ≡ ds → g.nested o ys ≡ d) → (W → FitsU32 (decl_count ds)) → ((n : ℕ) → RereadsDecls W n ds)
    → Rereads W (g.type depth around scope) (opcode_byte o ∷ (u32_bytes (decl_count ds) ++ decls_bytes ds)) (λ y. y.0 ≡ d)
unfolding g.type
reread-nested {W = W} zero around scope o ds d nested same fits all =
    reread-then (g.opcode 0 scope.entries) _ (opcode_byte o ∷ []) (u32_bytes (decl_count ds) ++ decls_bytes ds) (λ y. (y ≡ o) × (g.opcode_fault 0 scope.entries (opcode_byte o) (opcode_of (opcode_byte o)) ≡ None)) (λ y. y.0 ≡ d) (reread-opcode 0 scope.entries o)
    (λ v h. absurd (no_room scope.entries o nested h.1))
reread-nested {W = W} (suc depth) around scope o ds d nested same fits all =
    reread-then (g.opcode (suc depth) scope.entries) _ (opcode_byte o ∷ []) (u32_bytes (decl_count ds) ++ decls_bytes ds) (λ y. (y ≡ o) × (g.opcode_fault (suc depth) scope.entries (opcode_byte o) (opcode_of (opcode_byte o)) ≡ None)) (λ y. y.0 ≡ d) (reread-opcode (suc depth) scope.entries o)
    (λ v h. subst (λ (u : Opcode). Rereads W (when (g.is_nested u) (g.scope_of (g.type depth) u (around ++ scope.types ∷ []) (scope.entries + 1)) (g.plain_type scope u)) (u32_bytes (decl_count ds) ++ decls_bytes ds) (λ y. y.0 ≡ d)) (sym h.0)
    (subst (λ (b : Bool). Rereads W (when b (g.scope_of (g.type depth) o (around ++ scope.types ∷ []) (scope.entries + 1)) (g.plain_type scope o)) (u32_bytes (decl_count ds) ++ decls_bytes ds) (λ y. y.0 ≡ d)) (sym nested)
    (reread-scope depth o ds d (around ++ scope.types ∷ []) (scope.entries + 1) same fits (all depth))))

component_is : (ds : Decls) (ys : List Decl) → decls_of ys ≡ ds → g.nested op.Component ys ≡ Component ds
component_is ds ys e = ap Component e

instance_is : (ds : Decls) (ys : List Decl) → decls_of ys ≡ ds → g.nested op.Instance ys ≡ Instance ds
instance_is ds ys e = ap Instance e

mutual
  unfolding type_bytes FormedType RereadsDecls run

  pub reread-type : {W : Type 0} (d : TypeEntry) (depth : ℕ) (around : List ℕ) (scope : Scope) → (W → FormedType d) → Rereads W (g.type depth around scope) (type_bytes d) (λ y. y.0 ≡ d)
  reread-type (Define d) depth around scope formed = reread-plain depth around scope (Define d) (opens_defined scope.types d formed)
  reread-type (Func f) depth around scope formed = reread-plain depth around scope (Func f) (opens_function scope.types f formed)
  reread-type (Component ds) depth around scope formed = reread-nested depth around scope op.Component ds (Component ds) refl (component_is ds) (λ w. (formed w).0) (reread-decls ds (λ w. (formed w).1))
  reread-type (Instance ds) depth around scope formed = reread-nested depth around scope op.Instance ds (Instance ds) refl (instance_is ds) (λ w. (formed w).0) (reread-decls ds (λ w. (formed w).1))

  reread-decl : {W : Type 0} (d : Decl) (depth : ℕ) (component : Bool) (around : List ℕ) (scope : Scope) → (W → FormedDecl d) → Rereads W (g.decl (g.type depth) component around scope) (decl_bytes d) (λ y. y.0 ≡ d)
  reread-decl (Entry t) depth component around scope formed = sorted (g.type depth) component around scope 1 (type_bytes t) (Entry t) tt
      (reread-gives (g.type depth around scope) (λ x. (Entry x.0, g.with_entries scope x.1)) (type_bytes t) (λ y. y.0 ≡ t) (λ y. y.0 ≡ Entry t) (reread-type t depth around scope formed) (λ y e. ap Entry e))
  reread-decl (Alias a) depth component around scope formed = sorted (g.type depth) component around scope 2 (alias_bytes a) (Alias a) tt (reread-alias around scope a formed)
  reread-decl (Import text d) depth component around scope formed = sorted (g.type depth) component around scope 3 (extern_bytes text ++ description_bytes d) (Import text d) (import_tested _ component) (reread-external scope 3 text d (Import text d) refl formed)
  reread-decl (Export text d) depth component around scope formed = sorted (g.type depth) component around scope 4 (extern_bytes text ++ description_bytes d) (Export text d) tt (reread-external scope 4 text d (Export text d) refl formed)

  reread-decls : {W : Type 0} (ds : Decls) → (W → FormedDecls ds) → (depth : ℕ) → RereadsDecls W depth ds
  reread-decls none formed depth component around scope = reread-give ([], scope) (λ y. decls_of y.0 ≡ none) refl
  reread-decls (raw.then d ds) formed depth component around scope = reread-then (g.decl (g.type depth) component around scope) (λ first. run (g.decl (g.type depth) component around) (decl_count ds) first.1 >>= λ others. give (first.0 ∷ others.0, others.1)) (decl_bytes d) (decls_bytes ds) (λ y. y.0 ≡ d) (λ y. decls_of y.0 ≡ raw.then d ds)
      (reread-decl d depth component around scope (λ w. (formed w).0))
      (λ first is. reread-gives (run (g.decl (g.type depth) component around) (decl_count ds) first.1) (λ others. (first.0 ∷ others.0, others.1)) (decls_bytes ds) (λ y. decls_of y.0 ≡ ds) (λ y. decls_of y.0 ≡ raw.then d ds) (reread-decls ds (λ w. (formed w).1) depth component around first.1) (λ others e. rw (is, e) refl))
