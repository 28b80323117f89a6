-- Whose rows are, from the last row on.
use Rattle.std.proofs.Common.{◌≡◌, ℕ, suc, ◌+◌, ◌<◌, List, [], ◌∷◌, ◌++◌, length, drop, get_or, reverse, Option, refl, ap, sym, ◌∙◌}
use Rattle.std.specs.Option.{option_or}
use Rattle.std.proofs.lemmas.List.{reverse-append, drop_more}
use Rattle.set_rows.specs.Owners.{first_owner, owners}
use Rattle.tables.specs.Names.{owner_of}
use Rattle.tables.specs.declared.tables.Owner.{Owner}
use Rattle.tables.specs.declared.tables.Definition.{Definition}

-- the owners of these rows, last first, and the first row's
pub record OwnersBehind (ds : List Definition) (found : List (Option Owner)) (last : Option Owner) : Type 0 where
  pub are : found ≡ reverse (owners ds)
  pub first : last ≡ first_owner (owners ds)

pub owners-more : (ds : List Definition) (j n m : ℕ) (d : Definition) (found os : List (Option Owner)) (last next : Option Owner) → n < length ds → m ≡ n + 1 → j ≡ n → get_or ds j d ≡ d
    → OwnersBehind (drop m ds) found last → next ≡ option_or (owner_of d) last → os ≡ found ++ next ∷ [] → OwnersBehind (drop n ds) os next
owners-more ds j n m d found os last next within behind same at h e g = record {
  are = g ∙ (ap (λ x. x ++ next ∷ []) h.are ∙ (ap (λ (x : Option Owner). reverse (owners (drop m ds)) ++ x ∷ []) named ∙ (sym (reversed first (owners (drop m ds))) ∙ sym (ap reverse whole))));
  first = named ∙ sym (ap first_owner whole);
}
  where
    first : Option Owner
    first = option_or (owner_of d) (first_owner (owners (drop m ds)))

    named : next ≡ option_or (owner_of d) (first_owner (owners (drop m ds)))
    named = e ∙ ap (option_or (owner_of d)) h.first

    cut : drop n ds ≡ d ∷ drop m ds
    cut = drop_more ds n d within ∙ (ap (λ x. x ∷ drop (n + 1) ds) (ap (λ k. get_or ds k d) (sym same) ∙ at) ∙ ap (λ k. d ∷ drop k ds) (sym behind))

    whole : owners (drop n ds) ≡ option_or (owner_of d) (first_owner (owners (drop m ds))) ∷ owners (drop m ds)
    whole = ap owners cut

    reversed : (x : Option Owner) (xs : List (Option Owner)) → reverse (x ∷ xs) ≡ reverse xs ++ x ∷ []
    reversed x xs = reverse-append (x ∷ []) xs

pub length-owners : (ds : List Definition) → length (owners ds) ≡ length ds
length-owners [] = refl
length-owners (d ∷ ds) = ap suc (length-owners ds)
