-- The scopes of a world of a syntax tree.
use Rattle.std.proofs.Common.{◌≡◌, ℕ, List, [], ◌∷◌, map, refl, ap, sym}
use Rattle.tables.specs.PackageNames.{PackageParts}
use Rattle.tables.specs.Package.{ItemMeaning}
use Rattle.wit_tokens.specs.Syntax.{Member}
use Rattle.wit_tokens.specs.View.{world_entry_view}
use Rattle.wit_tokens.specs.declared.wit_syntax.ast.WorldItem.{WorldItem}
use Rattle.wit_tokens.specs.declared.wit_syntax.ast.WorldItemKind.{WorldItemKind}
use Rattle.wit_tokens.specs.declared.wit_syntax.ast.WorldItemKind.TheVariants as world
use Rattle.wit_tokens.specs.declared.wit_syntax.ast.Direction.{Direction}
use Rattle.wit_tokens.specs.declared.wit_syntax.ast.Path.{Path}
use Rattle.wit_tokens.specs.declared.wit_syntax.ast.Path.TheVariants as path
use Rattle.package_form.specs.Naming.{item_direction, item_parameters, field_labels, world_scopes}
use Rattle.tree_meaning.specs.Declarations.{item_tree, full_item, full_world, world_tree, member_name}
use Rattle.tree_meaning.specs.Resolved.{direction_meaning, fields_of_labelled, member_meaning, tree_item_meaning, meaning_of_world}
use Rattle.tree_scopes.specs.Sources.{item_in, world_in}

-- an item is told with its direction
pub side-told : (p : PackageParts) (i : WorldItem) → item_direction (item_in p i) ≡ direction_meaning i.direction
side-told p i = by i.kind
  where
    by : (k : WorldItemKind) → item_direction (item_in p (record { direction = i.direction; kind = k })) ≡ direction_meaning i.direction
    by (world.Interface (path.Local n)) = refl
    by (world.Interface (path.Foreign id n)) = refl
    by (world.Func f) = refl

-- an interface has none
pub no-parameters : (p : PackageParts) (way : Direction) (q : Path) → item_parameters (item_in p (record { direction = way; kind = world.Interface q })) ≡ []
no-parameters p way (path.Local n) = refl
no-parameters p way (path.Foreign id n) = refl

-- the parameters of a function item
pub labels-meant : (n : List ℕ) (ms : List Member) → field_labels (fields_of_labelled (map (member_meaning n) ms)) ≡ map member_name ms
labels-meant n [] = refl
labels-meant n (m ∷ ms) = ap (λ (ns : List (List ℕ)). m.name ∷ ns) (labels-meant n ms)

-- the items of a world, one after the other
pub items-are : (p : PackageParts) (is : List WorldItem) → map tree_item_meaning (map (full_item p) (map item_tree (map world_entry_view is))) ≡ map (item_in p) is
items-are p [] = refl
items-are p (i ∷ is) = ap (λ (ms : List ItemMeaning). item_in p i ∷ ms) (items-are p is)

pub scopes-are : (p : PackageParts) (n : List ℕ) (is : List WorldItem) → world_scopes (world_in p is) ≡ world_scopes (meaning_of_world (full_world p (world_tree n (map world_entry_view is))))
scopes-are p n is = ap (λ (ms : List ItemMeaning). world_scopes (record { name = []; items = ms })) (sym (items-are p is))
