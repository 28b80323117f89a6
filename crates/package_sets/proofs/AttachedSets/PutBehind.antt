-- What stands behind a list, and behind the lists of a set.
use Rattle.std.proofs.Common.{◌≡◌, List, [], ◌∷◌, ◌++◌, ap, ◌∙◌, map, drop}
use Rattle.set_rows.specs.Moved.{put_row, put_interface, put_world}
use Rattle.package_sets.specs.Joining.{own_interfaces}
use Rattle.package_sets.specs.Joined.{JoinedPlaces, renaming_of}
use Rattle.tables.specs.PackageNames.{PackageParts}
use Rattle.tables.specs.declared.tables.Resolve.{Resolve}

pub put-behind : {A : Type 0} {new old front xs ys : List A} → new ≡ old ++ xs → old ≡ front → xs ≡ ys → new ≡ front ++ ys
put-behind {A} {new} {old} {front} {xs} {ys} e f g = e ∙ (ap (λ zs. zs ++ xs) f ∙ ap (λ zs. front ++ zs) g)

-- the set with what is the closed table's own behind it, at these places
pub record IsPut (set closed : Resolve) (own : PackageParts) (j : JoinedPlaces) (r : Resolve) : Type 0 where
  pub packages : r.packages ≡ set.packages ++ own ∷ []
  pub interfaces : r.interfaces ≡ set.interfaces ++ map (put_interface (renaming_of j)) (own_interfaces closed)
  pub worlds : r.worlds ≡ set.worlds ++ map (put_world (renaming_of j)) closed.worlds
  pub definitions : r.definitions ≡ set.definitions ++ map (put_row (renaming_of j)) (drop j.imported closed.definitions)
