-- What validation asks of the parts of a component, beyond what the types of the parts hold.
use Rattle.std.specs.Prelude.{◌≡◌, ◌<◌, ◌≤◌, ℕ, zero, suc, ◌+◌, Bool, true, false, length, map, sum}
use Rattle.ctype_format.specs.declared.raw.RawDescription.{RawDescription}
use Rattle.ctype_format.specs.declared.raw.RawDescription.TheVariants as descriptions
use Rattle.ctype_format.specs.Raw.{Defined, Prim, Record, Variant, ListOf, Tuple, FlagSet, Enumeration, OptionOf, ResultOf, Define, Func, Component, Instance, Decl, Entry, Alias, Import, Export, Decls, none, then, BinaryFile, TypeEntry}
use Rattle.ctype_format.specs.Grammar.{max_cases, max_flags, max_entries}
use Rattle.ctype_format.specs.File.{max_scope_depth}
use Rattle.ctype_format.specs.Formed.{All}
use Rattle.ctype_bin.specs.InRange.{FileInRange}

-- ---- counts, nesting and imports

-- one at least, and at most as many as the limit
abbrev pub Among : ℕ → ℕ → Type 0
Among limit n = (0 < n) × (n ≤ limit)

-- the count of fields, members, cases or labels is at least 1, and within the limit of cases or of flags
abbrev pub AllowedDefined : Defined → Type 0
AllowedDefined (Record fs) = 0 < length fs
AllowedDefined (Variant cs) = Among max_cases (length cs)
AllowedDefined (Tuple es) = 0 < length es
AllowedDefined (FlagSet ls) = Among max_flags (length ls)
AllowedDefined (Enumeration ls) = Among max_cases (length ls)
AllowedDefined (Prim p) = Unit {0}
AllowedDefined (ListOf e) = Unit {0}
AllowedDefined (OptionOf e) = Unit {0}
AllowedDefined (ResultOf ok error) = Unit {0}

unfoldable mutual
  -- counts, imports and nesting are allowed in the type, if depth more scopes may be nested here
  pub AllowedType : ℕ → TypeEntry → Type 0
  AllowedType depth (Define d) = AllowedDefined d
  AllowedType depth (Func f) = Unit {0}
  AllowedType zero (Component ds) = ⊥
  AllowedType (suc depth) (Component ds) = AllowedDecls depth true ds
  AllowedType zero (Instance ds) = ⊥
  AllowedType (suc depth) (Instance ds) = AllowedDecls depth false ds

  -- the declaration is allowed in a component type (true), or in an instance type (false), which has no imports
  pub AllowedDecl : ℕ → Bool → Decl → Type 0
  AllowedDecl depth component (Entry t) = AllowedType depth t
  AllowedDecl depth component (Alias a) = Unit {0}
  AllowedDecl depth component (Import text d) = component ≡ true
  AllowedDecl depth component (Export text d) = Unit {0}

  -- each of these declarations is allowed in a component type (true) or in an instance type (false)
  pub AllowedDecls : ℕ → Bool → Decls → Type 0
  AllowedDecls depth component none = Unit {0}
  AllowedDecls depth component (then d ds) = AllowedDecl depth component d × AllowedDecls depth component ds

-- ---- type entries: all that takes a type index, in its own scope or in one within

-- the type indices that an import or an export takes: one if it is a type
abbrev pub description_entries : RawDescription → ℕ
description_entries (descriptions.Function i) = 0
description_entries (descriptions.TypeEqual i) = 1
description_entries (descriptions.Component i) = 0
description_entries (descriptions.Instance i) = 0

unfoldable mutual
  -- the type indices that a type takes, with those in the scopes in it
  pub entries_of_type : TypeEntry → ℕ
  entries_of_type (Define d) = 1
  entries_of_type (Func f) = 1
  entries_of_type (Component ds) = 1 + entries_of_decls ds
  entries_of_type (Instance ds) = 1 + entries_of_decls ds

  -- the type indices that a declaration takes, with those in the scopes in it
  pub entries_of_decl : Decl → ℕ
  entries_of_decl (Entry t) = entries_of_type t
  entries_of_decl (Alias a) = 1
  entries_of_decl (Import text d) = description_entries d
  entries_of_decl (Export text d) = description_entries d

  -- the type indices that these declarations take, with those in the scopes in them
  pub entries_of_decls : Decls → ℕ
  entries_of_decls none = 0
  entries_of_decls (then d ds) = entries_of_decl d + entries_of_decls ds

-- ---- a component

-- a component that is valid: indices are below the counts of their spaces, and counts, nesting and type entries keep
-- the limits
pub record IsAccepted (f : BinaryFile) : Type 0 where
  pub in_range : FileInRange f
  pub allowed : All (AllowedType max_scope_depth) f.types
  pub entries : sum (map entries_of_type f.types) ≤ max_entries
