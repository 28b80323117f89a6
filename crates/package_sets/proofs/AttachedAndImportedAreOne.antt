-- What is attached to a set, and what is imported from one, is one table.
use Rattle.std.proofs.Common.{◌≡◌, ◌<◌, inl, inr, ℕ, Bool, true, false, List, [], ◌∷◌, ◌++◌, length, map, get_or, Option, Some, sym, ap, subst, ◌∙◌, arith}
use Rattle.std.proofs.lemmas.List.{ext_get_or, get_or_default}
use Rattle.std.proofs.lemmas.Bool.Decides.{same_from_decides}
use Rattle.tables.specs.PackageNames.{PackageParts}
use Rattle.tables.specs.Same.{IsSamePackage}
use Rattle.tables.specs.declared.tables.Owner.{Owner}
use Rattle.tables.specs.declared.tables.Owner.TheVariants as owner
use Rattle.tables.specs.declared.tables.Resolve.{Resolve}
use Rattle.set_rows.specs.Owners.{owners}
use Rattle.set_rows.specs.Reaches.{Marks, is_marked, Start, OfInterfaces, AreReached}
use Rattle.package_sets.specs.Restricted.{IsReachedIn}
use Rattle.package_sets.specs.Joining.{imports}
use Rattle.package_sets.specs.Part.{IsTableOf}
use Rattle.package_sets.specs.Attached.{IsOwnBehind}
use Rattle.package_sets.specs.Imports.{AreNeededBy}
use Rattle.package_sets.specs.One.{AttachesOne, ImportsOne}
use Rattle.set_rows.specs.declared.moved.Moved.{Moved}
use Rattle.package_sets.proofs.FoundImports.ImportsAreFound.{found-same}

-- ---- a set with a package more

pub attached-one : (set closed : Resolve) → AttachesOne set closed
attached-one set closed r s i j a b =
    let own : a.fits.own ≡ b.fits.own = cc (a.fits.own_is, b.fits.own_is) in
    let p = a.fits.imports in
    let q = b.fits.imports in
    let places : p.places ≡ q.places = found-same set closed (imports closed) p.places q.places p.found q.found in
    let there = subst (λ (ps : List ℕ). IsOwnBehind set closed ps r) places a.own_behind in (
      record {
        packages = a.packages_are ∙ (ap (λ (p : PackageParts). set.packages ++ p ∷ []) own ∙ sym b.packages_are);
        interfaces = there.interfaces ∙ sym b.own_behind.interfaces;
        worlds = there.worlds ∙ sym b.own_behind.worlds;
        definitions = there.rows ∙ sym b.own_behind.rows;
      },
      a.id_is ∙ sym b.id_is,
    )

-- ---- what is reached has one mark each

module _ (set : Resolve) (from : Start) (m n : Marks) (a : AreReached set from m) (b : AreReached set from n) where
  pub marked-same : (o : Option Owner) → is_marked m o ≡ is_marked n o
  marked-same o = same_from_decides (is_marked m o) (is_marked n o) (a.sound o, a.complete o) (b.sound o, b.complete o)

  mark-same : (k : ℕ) → get_or m.interfaces k true ≡ get_or n.interfaces k true
  mark-same k = marked-same (Some (owner.Interface (record { 0 = k })))

  marks-same : m.interfaces ≡ n.interfaces
  marks-same = ext_get_or true m.interfaces n.interfaces (a.count ∙ sym b.count) (λ k l. mark-same k)

  reached-same : (k : ℕ) → IsReachedIn set m k → IsReachedIn set n k
  reached-same k (i, x, there, marked, is) = (i, x, there, sym (mark-same i) ∙ marked, is)

  -- .. and so has what is needed
  needed-too : (packages some others : List Bool) → AreNeededBy set packages m some → AreNeededBy set packages n others → (k : ℕ) → k < length set.packages → get_or some k false ≡ true
      → get_or others k false ≡ true
  needed-too packages some others p q k l h = elim (p.only k h) [
    | inl given ↦ q.given k l given
    | inr there ↦ get_or_default others k false true (omega (arith, l, q.count)) ∙ q.others k (reached-same k there)
  ]

needed-same : (set : Resolve) (from : Start) (m n : Marks) → AreReached set from m → AreReached set from n → (packages some others : List Bool) → AreNeededBy set packages m some
    → AreNeededBy set packages n others → some ≡ others
needed-same set from m n a b packages some others p q = ext_get_or false some others (p.count ∙ sym q.count) each
  where
    each : (k : ℕ) → k < length some → get_or some k false ≡ get_or others k false
    each k l =
        let within : k < length set.packages = omega (arith, l, p.count) in
        same_from_decides {P = get_or others k false ≡ true} (get_or some k false) (get_or others k false)
        (needed-too set from m n a b packages some others p q k within, needed-too set from n m b a packages others some q p k within) (λ e. e, λ e. e)

-- ---- the table of imports

one-table : (set : Resolve) (to : Moved) (r s : Resolve) → IsTableOf set to r → IsTableOf set to s → IsSamePackage r s
one-table set to r s a b = record {
  packages = a.packages ∙ sym b.packages;
  interfaces = a.interfaces ∙ sym b.interfaces;
  worlds = a.worlds ∙ sym b.worlds;
  definitions = a.definitions ∙ sym b.definitions;
}

pub imports-one : (set : Resolve) (packages interfaces : List Bool) → ImportsOne set packages interfaces
imports-one set packages interfaces r s a b = one-table set b.to r s (subst (λ (to : Moved). IsTableOf set to r) same a.table) b.table
  where
    from : Start
    from = OfInterfaces interfaces

    m : Marks
    m = a.kept.marks

    n : Marks
    n = b.kept.marks

    rows : map (is_marked m) (owners set.definitions) ≡ map (is_marked n) (owners set.definitions)
    rows = ap (λ (f : Option Owner → Bool). map f (owners set.definitions)) (λ j o. marked-same set from m n a.kept.are_reached b.kept.are_reached o j)

    needed : a.to.packages ≡ b.to.packages
    needed = needed-same set from m n a.kept.are_reached b.kept.are_reached packages a.to.packages b.to.packages a.kept.packages_are b.kept.packages_are

    names : m.interfaces ≡ n.interfaces
    names = marks-same set from m n a.kept.are_reached b.kept.are_reached

    same : a.to ≡ b.to
    same = λ j. record {
      packages = needed j;
      interfaces = (a.kept.interfaces_are ∙ (names ∙ sym b.kept.interfaces_are)) j;
      worlds = (a.kept.worlds_are ∙ sym b.kept.worlds_are) j;
      rows = (a.kept.rows_are ∙ (rows ∙ sym b.kept.rows_are)) j;
    }
