use Rattle.std.proofs.Common.{IsTrue, List, [], ◌∷◌, All, map, refl, subst}
use Rattle.std.specs.List.{list_all}
use Rattle.package_form.proofs.AllAndContains.{all-head, all-tail}
use Rattle.wit_tokens.specs.FullNames.{has_label}
use Rattle.wit_tokens.specs.View.{item_view}
use Rattle.wit_tokens.specs.declared.wit_syntax.ast.Item.{Item}
use Rattle.wit_tokens.proofs.FullNames.{full-names}
use Rattle.package_adding.proofs.full_names.names_are_full.Goals as goal

all-labels : (items : List Item) → All (λ item. IsTrue (has_label (item_view item))) items → IsTrue (list_all has_label (map item_view items))
all-labels [] h = refl
all-labels (i ∷ is) h = rw (all-head (λ item. IsTrue (has_label (item_view item))) i is h, all-labels is (all-tail (λ item. IsTrue (has_label (item_view item))) i is h)) refl

pub returns : goal.returns
returns c =
    let labels = subst (λ (items : List Item). All (λ item. IsTrue (has_label (item_view item))) items) c.as_slice.ensures.value c.have_labels.ensures in
    full-names c.args.ast.now (all-labels c.args.ast.now.items.items labels)
