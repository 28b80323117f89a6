-- What is kept of the code's lists, and of its maps by texts.
use Rattle.std.proofs.Common.{◌≡◌, ℕ, zero, suc, Bool, cond, List, [], ◌∷◌, ◌++◌, length, map, Option, Some, refl, ap}
use Rattle.std.specs.Prelude.{slice_get, option_map}
use Rattle.std.specs.declared.cmp.Ordering.TheVariants.{Less, Equal, Greater}
use Rattle.std.specs.Ordering.{match_ordering, nat_cmp}
use Rattle.std.specs.Cmp.Lexicographic.{slice_cmp}
use Rattle.std.specs.Map.{lookup}
use Rattle.std.specs.BTreeMap.{insert_entry}
use Rattle.std.proofs.lemmas.List.{map_push, length-map}

pub map_pushed : {X Y : Type 0} (f : X → Y) (xs : List X) (x : X) → map f (xs ++ x ∷ []) ≡ map f xs ++ f x ∷ []
map_pushed f xs x = map_push f xs x

pub map_length : {X Y : Type 0} (f : X → Y) (xs : List X) → length (map f xs) ≡ length xs
map_length f xs = length-map xs f

pub get_mapped : {X Y : Type 0} (f : X → Y) (xs : List X) (i : ℕ) → slice_get (map f xs) i ≡ option_map f (slice_get xs i)
get_mapped f [] i = refl
get_mapped f (x ∷ xs) zero = refl
get_mapped f (x ∷ xs) (suc i) = get_mapped f xs i

module _ {K V : Type 0} (text_of : K → List ℕ) where
  pub found_mapped : (test : List ℕ → Bool) (es : List (K × V)) → lookup test (map (λ e. (text_of e.0, e.1)) es) ≡ lookup (λ k. test (text_of k)) es
  found_mapped test [] = refl
  found_mapped test (e ∷ es) = ap (λ (o : Option V). cond (test (text_of e.0)) (Some e.1) o) (found_mapped test es)

  pub entry_put : (es : List (K × V)) (k : K) (v : V) → map (λ e. (text_of e.0, e.1)) (insert_entry (λ x y. slice_cmp nat_cmp (text_of x) (text_of y)) es k v) ≡ insert_entry (slice_cmp nat_cmp) (map (λ e. (text_of e.0, e.1)) es) (text_of k) v
  entry_put [] k v = refl
  entry_put (e ∷ es) k v =
      elim (slice_cmp nat_cmp (text_of k) (text_of e.0)) as (λ o. map (λ e. (text_of e.0, e.1)) (match_ordering o ((k, v) ∷ e ∷ es) ((e.0, v) ∷ es) (e ∷ insert_entry (λ x y. slice_cmp nat_cmp (text_of x) (text_of y)) es k v))
      ≡ match_ordering o ((text_of k, v) ∷ (text_of e.0, e.1) ∷ map (λ e. (text_of e.0, e.1)) es) ((text_of e.0, v) ∷ map (λ e. (text_of e.0, e.1)) es) ((text_of e.0, e.1) ∷ insert_entry (slice_cmp nat_cmp) (map (λ e. (text_of e.0, e.1)) es) (text_of k) v)) [
        | Less ↦ refl
        | Equal ↦ refl
        | Greater ↦ ap (λ (ds : List (List ℕ × V)). (text_of e.0, e.1) ∷ ds) (entry_put es k v)
      ]
