-- A map that changes nothing.
use Rattle.std.proofs.Common.{◌≡◌, List, map}
use Rattle.std.proofs.lemmas.List.{map-id}

pub same_items : {A : Type 0} (xs : List A) → map (λ x. x) xs ≡ xs
same_items xs = map-id xs
