-- How alike types are, by how alike their parts are.
use Rattle.std.specs.Prelude.{Bool, true, false, ◌&&◌, ◌||◌, ◌==◌, ℕ, nat_le, List, [], ◌∷◌, length, Option, Some, None}
use Rattle.canonical_abi.specs.Types.{ClosedType}
use Rattle.canonical_abi.specs.Layout.{flags_size, discriminant_size}
use Rattle.canonical_abi.specs.Labelled.{Label, LabelledType}
use Rattle.package_changes.specs.declared.likeness.Likeness.{Likeness}
use Rattle.package_changes.specs.declared.type_nodes.Family.{Family}
use Rattle.package_changes.specs.declared.type_nodes.Family.TheVariants as families
use Rattle.package_changes.specs.declared.type_nodes.Spelling.{Spelling}
use Rattle.package_changes.specs.declared.type_nodes.Node.{Node}
use Rattle.package_changes.specs.Forms.{family, is_one_family, label_moves, label_goes}
use Rattle.package_changes.specs.Likeness.{likeness, is_same_spelling, are_same_labels, have_one_layout}

-- of types without labels
abbrev pub leaves : Bool → Likeness
leaves b = record { same = b; equal = b; wider = b; moved = false; renamed = false }

-- of two parts together
abbrev pub both : Likeness → Likeness → Likeness
both a b = record {
  same = a.same && b.same;
  equal = a.equal && b.equal;
  wider = a.wider && b.wider;
  moved = a.moved || b.moved;
  renamed = a.renamed || b.renamed;
}

-- of two cases' payloads
abbrev pub part_likeness : Option LabelledType → Option LabelledType → Likeness
part_likeness None None = leaves true
part_likeness (Some t) (Some u) = likeness t u
part_likeness _ _ = leaves false

-- of the types at the same places, as far as both lists have some
unfoldable pub parts_likeness : List (Option LabelledType) → List (Option LabelledType) → Likeness
parts_likeness (p ∷ ps) (q ∷ qs) = both (part_likeness p q) (parts_likeness ps qs)
parts_likeness _ _ = leaves true

-- the number of parts may become the other one: in variants and flags it may grow, as far as it takes as many bytes
abbrev pub grows : Family → ℕ → ℕ → Bool
grows families.List m n = m == n
grows families.Record m n = m == n
grows families.Variant m n = nat_le m n && (discriminant_size m == discriminant_size n)
grows families.Flags m n = nat_le m n && (flags_size m == flags_size n)

-- how many parts a type has: types, or labels of flags
abbrev pub counted : Family → ℕ → ℕ → ℕ
counted families.Flags labels types = labels
counted _ labels types = types

-- the number of a node's parts
abbrev pub count : Node → ℕ
count n = counted (family n.spelling) (length n.labels.items) (length n.parts.items)

-- two types have one layout, or are no variants
abbrev pub fits : Family → ClosedType → ClosedType → Bool
fits families.Variant t u = have_one_layout t u
fits _ t u = true

-- of two nodes of one family, if their parts are as alike as this; `fit` says that their layouts are one, if they are variants
abbrev pub whole : Node → Node → Likeness → Bool → Likeness
whole n m parts fit = record {
  same = is_same_spelling n.spelling m.spelling
      && (are_same_labels n.labels.items m.labels.items && ((length n.parts.items == length m.parts.items) && parts.same));
  equal = (count n == count m) && parts.equal;
  wider = fit && (grows (family n.spelling) (count n) (count m) && parts.wider);
  moved = label_moves m.labels.items n.labels.items m.labels.items || parts.moved;
  renamed = label_goes n.labels.items m.labels.items || parts.renamed;
}
