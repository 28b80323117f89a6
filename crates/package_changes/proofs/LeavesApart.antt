-- A primitive, string and a type with parts have nothing in common.
use Rattle.std.proofs.Common.{◌≡◌, true, false, IsTrue, List, refl}
use Rattle.canonical_abi.specs.Types.{Prim}
use Rattle.canonical_abi.specs.Labelled.{LabelledType, labelled_prim, labelled_string}
use Rattle.tables.specs.Labelled.{labelled_kind}
use Rattle.tables.specs.declared.tables.TypeDefKind.{TypeDefKind}
use Rattle.tables.specs.declared.tables.TypeDefKind.TheVariants as kind
use Rattle.package_changes.specs.Alike.{leaves}
use Rattle.package_changes.specs.Comparing.{is_own}
use Rattle.package_changes.specs.Likeness.{is_same_prim, likeness}

pub prims-alike : (p q : Prim) → leaves (is_same_prim p q) ≡ likeness (labelled_prim p) (labelled_prim q)
unfolding likeness
prims-alike p q = refl

pub strings-alike : leaves true ≡ likeness labelled_string labelled_string
unfolding likeness
strings-alike = refl

pub prim-string : (p : Prim) → leaves false ≡ likeness (labelled_prim p) labelled_string
unfolding likeness
prim-string p = refl

pub string-prim : (p : Prim) → leaves false ≡ likeness labelled_string (labelled_prim p)
unfolding likeness
string-prim p = refl

pub prim-node : (p : Prim) (rows : List LabelledType) (k : TypeDefKind) → IsTrue (is_own k) → leaves false ≡ likeness (labelled_prim p) (labelled_kind rows k)
unfolding likeness
prim-node p rows (kind.Use t) own = absurd (cc)
prim-node p rows (kind.Alias v) own = absurd (cc)
prim-node p rows (kind.List v) own = refl
prim-node p rows (kind.Option v) own = refl
prim-node p rows (kind.Result ok error) own = refl
prim-node p rows (kind.Tuple vs) own = refl
prim-node p rows (kind.Record fs) own = refl
prim-node p rows (kind.Variant cs) own = refl
prim-node p rows (kind.Enum names) own = refl
prim-node p rows (kind.Flags names) own = refl

pub string-node : (rows : List LabelledType) (k : TypeDefKind) → IsTrue (is_own k) → leaves false ≡ likeness labelled_string (labelled_kind rows k)
unfolding likeness
string-node rows (kind.Use t) own = absurd (cc)
string-node rows (kind.Alias v) own = absurd (cc)
string-node rows (kind.List v) own = refl
string-node rows (kind.Option v) own = refl
string-node rows (kind.Result ok error) own = refl
string-node rows (kind.Tuple vs) own = refl
string-node rows (kind.Record fs) own = refl
string-node rows (kind.Variant cs) own = refl
string-node rows (kind.Enum names) own = refl
string-node rows (kind.Flags names) own = refl

pub node-prim : (p : Prim) (rows : List LabelledType) (k : TypeDefKind) → IsTrue (is_own k) → leaves false ≡ likeness (labelled_kind rows k) (labelled_prim p)
unfolding likeness
node-prim p rows (kind.Use t) own = absurd (cc)
node-prim p rows (kind.Alias v) own = absurd (cc)
node-prim p rows (kind.List v) own = refl
node-prim p rows (kind.Option v) own = refl
node-prim p rows (kind.Result ok error) own = refl
node-prim p rows (kind.Tuple vs) own = refl
node-prim p rows (kind.Record fs) own = refl
node-prim p rows (kind.Variant cs) own = refl
node-prim p rows (kind.Enum names) own = refl
node-prim p rows (kind.Flags names) own = refl

pub node-string : (rows : List LabelledType) (k : TypeDefKind) → IsTrue (is_own k) → leaves false ≡ likeness (labelled_kind rows k) labelled_string
unfolding likeness
node-string rows (kind.Use t) own = absurd (cc)
node-string rows (kind.Alias v) own = absurd (cc)
node-string rows (kind.List v) own = refl
node-string rows (kind.Option v) own = refl
node-string rows (kind.Result ok error) own = refl
node-string rows (kind.Tuple vs) own = refl
node-string rows (kind.Record fs) own = refl
node-string rows (kind.Variant cs) own = refl
node-string rows (kind.Enum names) own = refl
node-string rows (kind.Flags names) own = refl
