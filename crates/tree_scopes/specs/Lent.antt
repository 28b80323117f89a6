-- Parts of a syntax tree that are lent.
use Rattle.std.specs.Prelude.{ℕ, List, map}
use Rattle.std.specs.Borrow.{Bor}
use Rattle.wit_tokens.specs.View.{definition_view, path_view}
use Rattle.wit_tokens.specs.declared.wit_syntax.ast.TypeDef.{TypeDef}
use Rattle.tree_meaning.specs.Declarations.{UsedItem, TypeItem, path_package, path_interface}
use Rattle.tree_scopes.specs.declared.declared.UsedType.{UsedType}

-- the bytes of a name that is lent
abbrev pub lent_name : Bor (List ℕ) → List ℕ
lent_name b = b.now

-- the bytes of names that are lent
abbrev pub lent_names : List (Bor (List ℕ)) → List (List ℕ)
lent_names ns = map lent_name ns

-- a used name with the path of its interface, as the tree has it
abbrev pub used_item_of : UsedType → UsedItem
used_item_of u = record {
  «package» = path_package (path_view u.path.now);
  interface = path_interface (path_view u.path.now);
  name = u.name.now;
  local = u.local.now;
}

-- a type that an interface declares, as the tree has it
abbrev pub type_item : TypeDef → TypeItem
type_item t = record { name = t.name; definition = definition_view t.kind }

-- a type that an interface declares, which is lent
abbrev pub declared_type : Bor TypeDef → TypeItem
declared_type t = type_item t.now
