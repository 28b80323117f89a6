-- What `whole` says of two nodes is how alike their types are.
use Rattle.std.proofs.Common.{◌≡◌, ℕ, Bool, true, false, List, map, length, Option, Some, refl, ap, sym, subst, ◌∙◌}
use Rattle.std.specs.Option.{option_map}
use Rattle.std.proofs.lemmas.List.{length-map}
use Rattle.canonical_abi.specs.Types.{ClosedType}
use Rattle.canonical_abi.specs.Labelled.{Label, LabelledType, labelled_record, closed}
use Rattle.tables.specs.Closed.{closed_type}
use Rattle.tables.specs.Labelled.{labelled_type, labelled_types, labelled_kind, labelled_val, labelled_params}
use Rattle.tables.specs.declared.tables.Parameter.{Parameter}
use Rattle.tables.specs.declared.tables.Resolve.{Resolve}
use Rattle.tables.specs.declared.tables.TypeDefKind.{TypeDefKind}
use Rattle.tables.specs.declared.tables.ValType.{ValType}
use Rattle.tables.proofs.ErasesToClosed.{erases}
use Rattle.package_changes.specs.declared.likeness.Likeness.{Likeness}
use Rattle.package_changes.specs.declared.type_nodes.Node.{Node}
use Rattle.package_changes.specs.declared.type_nodes.Spelling.{Spelling}
use Rattle.package_changes.specs.declared.type_nodes.Spelling.TheVariants as spelled
use Rattle.package_changes.specs.Forms.{family, is_one_family}
use Rattle.package_changes.specs.Nodes.{IsNodeOf, IsNodeOfParameters, spelling_of, labels_of, parts_of}
use Rattle.package_changes.specs.Likeness.{likeness}
use Rattle.package_changes.specs.Alike.{leaves, parts_likeness, fits, whole}
use Rattle.package_changes.specs.Comparing.{IsOwnKind, part_types, type_at}
use Rattle.package_changes.proofs.TypesByParts.{IsMadeOf, whole_by, whole-is, apart-is}
use Rattle.package_changes.proofs.NodesOfTypes.{kind-made, parameters-made}

-- a type with what a node has, in other words
made-as : (t t' : LabelledType) (s s' : Spelling) (ls ls' : List Label) (ps ps' : List (Option LabelledType)) → t ≡ t' → s ≡ s' → ls ≡ ls' → ps ≡ ps' → IsMadeOf t s ls ps → IsMadeOf t' s' ls' ps'
made-as t t' s s' ls ls' ps ps' et es el ep made =
    subst (λ x. IsMadeOf x s' ls' ps') et (subst (λ x. IsMadeOf t x ls' ps') es (subst (λ x. IsMadeOf t s x ps') el (subst (IsMadeOf t s ls) ep made)))

node-made : (r : Resolve) (a : ℕ) (k : TypeDefKind) (n : Node) → IsOwnKind r a k → IsNodeOf k n → IsMadeOf (labelled_type r (type_at a)) n.spelling n.labels.items (part_types r n.parts.items)
node-made r a k n own is =
    made-as (labelled_kind (labelled_types r) k) (labelled_type r (type_at a)) (spelling_of k) n.spelling (labels_of k) n.labels.items
    (map (option_map (labelled_val (labelled_types r))) (parts_of k)) (part_types r n.parts.items)
    (sym own.is) (sym is.spelling) (sym is.labels) (ap (map (option_map (labelled_val (labelled_types r)))) (sym is.parts))
    (kind-made (labelled_types r) k own.own)

node-of-parameters : (r : Resolve) (ps : List Parameter) (n : Node) → IsNodeOfParameters ps n
    → IsMadeOf (labelled_record (labelled_params (labelled_types r) ps)) n.spelling n.labels.items (part_types r n.parts.items)
node-of-parameters r ps n is =
    let t = labelled_record (labelled_params (labelled_types r) ps) in
    made-as t t spelled.Record n.spelling (map (λ (p : Parameter). p.name) ps) n.labels.items
    (map (option_map (labelled_val (labelled_types r))) (map (λ (p : Parameter). Some p.ty) ps)) (part_types r n.parts.items)
    refl (sym is.spelling) (sym is.labels) (ap (map (option_map (labelled_val (labelled_types r)))) (sym is.parts))
    (parameters-made (labelled_types r) ps)

-- two types with what two nodes have
module _ (r s : Resolve) (t u : LabelledType) (n m : Node) (made : IsMadeOf t n.spelling n.labels.items (part_types r n.parts.items))
    (made' : IsMadeOf u m.spelling m.labels.items (part_types s m.parts.items)) where
  told : (parts : Likeness) (fit : Bool) → is_one_family n.spelling m.spelling ≡ true → parts ≡ parts_likeness (part_types r n.parts.items) (part_types s m.parts.items)
      → fit ≡ fits (family n.spelling) (closed t) (closed u) → whole n m parts fit ≡ likeness t u
  told parts fit one is fit_is =
      let ps = part_types r n.parts.items in
      let qs = part_types s m.parts.items in
      let by = whole_by n.spelling m.spelling n.labels.items m.labels.items in
      ap (λ c. by c (length m.parts.items) parts fit) (sym (length-map n.parts.items (option_map (labelled_type r))))
      ∙ ap (λ c. by (length ps) c parts fit) (sym (length-map m.parts.items (option_map (labelled_type s))))
      ∙ ap (λ (x : Likeness). by (length ps) (length qs) x fit) is
      ∙ ap (by (length ps) (length qs) (parts_likeness ps qs)) fit_is
      ∙ whole-is t u n.spelling m.spelling n.labels.items m.labels.items ps qs made made' one

pub whole-told : (r s : Resolve) (a b : ℕ) (k j : TypeDefKind) (n m : Node) (parts : Likeness) (fit : Bool) → IsOwnKind r a k → IsOwnKind s b j → IsNodeOf k n → IsNodeOf j m
    → is_one_family n.spelling m.spelling ≡ true → parts ≡ parts_likeness (part_types r n.parts.items) (part_types s m.parts.items)
    → fit ≡ fits (family n.spelling) (closed_type r (type_at a)) (closed_type s (type_at b)) → whole n m parts fit ≡ likeness (labelled_type r (type_at a)) (labelled_type s (type_at b))
whole-told r s a b k j n m parts fit own own' is is' one parts_are fit_is =
    let erased : fits (family n.spelling) (closed_type r (type_at a)) (closed_type s (type_at b)) ≡ fits (family n.spelling) (closed (labelled_type r (type_at a))) (closed (labelled_type s (type_at b))) =
    ap (λ (x : ClosedType). fits (family n.spelling) x (closed_type s (type_at b))) (sym (erases r (type_at a)))
    ∙ ap (fits (family n.spelling) (closed (labelled_type r (type_at a)))) (sym (erases s (type_at b))) in
    told r s (labelled_type r (type_at a)) (labelled_type s (type_at b)) n m (node-made r a k n own is) (node-made s b j m own' is') parts fit one parts_are (fit_is ∙ erased)

pub apart-told : (r s : Resolve) (a b : ℕ) (k j : TypeDefKind) (n m : Node) → IsOwnKind r a k → IsOwnKind s b j → IsNodeOf k n → IsNodeOf j m
    → is_one_family n.spelling m.spelling ≡ false → leaves false ≡ likeness (labelled_type r (type_at a)) (labelled_type s (type_at b))
apart-told r s a b k j n m own own' is is' two =
    apart-is (labelled_type r (type_at a)) (labelled_type s (type_at b)) n.spelling m.spelling n.labels.items m.labels.items (part_types r n.parts.items) (part_types s m.parts.items)
    (node-made r a k n own is) (node-made s b j m own' is') two

pub parameters-told : (r s : Resolve) (ps qs : List Parameter) (n m : Node) (parts : Likeness) → IsNodeOfParameters ps n → IsNodeOfParameters qs m
    → parts ≡ parts_likeness (part_types r n.parts.items) (part_types s m.parts.items)
    → whole n m parts true ≡ likeness (labelled_record (labelled_params (labelled_types r) ps)) (labelled_record (labelled_params (labelled_types s) qs))
parameters-told r s ps qs n m parts is is' parts_are =
    let t = labelled_record (labelled_params (labelled_types r) ps) in
    let u = labelled_record (labelled_params (labelled_types s) qs) in
    let one : is_one_family n.spelling m.spelling ≡ true = ap (λ x. is_one_family x m.spelling) is.spelling ∙ ap (is_one_family spelled.Record) is'.spelling in
    told r s t u n m (node-of-parameters r ps n is) (node-of-parameters s qs m is') parts true one parts_are (sym (ap (λ x. fits (family x) (closed t) (closed u)) is.spelling))
