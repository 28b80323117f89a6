-- The members of a record by its steps: the first of those that are left, and what is left behind it.
use Rattle.std.proofs.Common.{◌≡◌, ℕ, zero, suc, ◌+◌, ◌<◌, List, [], ◌∷◌, Some, length, drop, get_or, refl, sym, ap, subst, add-one}
use Rattle.std.specs.Int.{next_multiple_of}
use Rattle.canonical_abi.specs.Types.{ClosedType, Fields, no_field, field, nth_field, field_count}
use Rattle.canonical_abi.specs.Layout.{size, align}
use Rattle.values.proofs.FieldsFromAPlace.{fields_from, fields-next, fields-last}
use Rattle.values.proofs.ValuesOfTypesByShape.{drop-next}
use Rattle.crossing.specs.Steps.{leaf_type, IsLeaf, AreSteps}
use Rattle.crossing.specs.declared.records.Leaf.TheVariants as leaf
use Rattle.crossing.specs.declared.records.Step.{Step}
use Rattle.tables.specs.declared.tables.Primitive.TheVariants.{Bool}

-- field i is the next step
pub record IsNext (fs : Fields) (i end : ℕ) (s : Step) (ss : List Step) : Type 0 where
  pub found : nth_field fs i ≡ Some (leaf_type s.leaf)
  pub leaf : IsLeaf s.leaf
  pub place : s.place ≡ next_multiple_of end (align (leaf_type s.leaf))
  pub behind : AreSteps (fields_from (i + 1) fs) (s.place + size (leaf_type s.leaf)) ss

pub step-next : (fs : Fields) (i end : ℕ) (s : Step) (ss : List Step) → AreSteps (fields_from i fs) end (s ∷ ss) → IsNext fs i end s ss
step-next no_field zero end s ss h = absurd h
step-next no_field (suc i) end s ss h = absurd h
step-next (field t fs) zero end s ss (l, e, p, more) = record {
  found = ap Some e;
  leaf = l;
  place = subst (λ u. s.place ≡ next_multiple_of end (align u)) e p;
  behind = subst (λ u. AreSteps fs (s.place + size u) ss) e more;
}
step-next (field t fs) (suc i) end s ss h =
    let r = step-next fs i end s ss h in
    record { found = r.found; leaf = r.leaf; place = r.place; behind = rw add-one (rw add-one at r.behind) }

-- no field is left where there is no step
pub step-last : (fs : Fields) (end : ℕ) → AreSteps fs end [] → fs ≡ no_field
step-last no_field end h = refl
step-last (field t fs) end h = absurd h

-- the next of the list
pub step-here : (fs : Fields) (xs : List Step) (i end : ℕ) (d : Step) → i < length xs → AreSteps (fields_from i fs) end (drop i xs) → IsNext fs i end (get_or xs i d) (drop (i + 1) xs)
step-here fs xs i end d below h = step-next fs i end (get_or xs i d) (drop (i + 1) xs) (rw (drop-next i xs d below) at h)

-- the two members of a record of two
module _ (fs : Fields) (first second : Step) (planned : AreSteps fs 0 (first ∷ second ∷ [])) where
  abbrev pub end-one : ℕ
  end-one = next_multiple_of 0 (align (leaf_type first.leaf)) + size (leaf_type first.leaf)

  abbrev pub end-two : ℕ
  end-two = next_multiple_of end-one (align (leaf_type second.leaf)) + size (leaf_type second.leaf)

  pub one : IsNext fs 0 0 first (second ∷ [])
  one = step-next fs 0 0 first (second ∷ []) planned

  pub two : IsNext fs 1 end-one second []
  two = (let behind = one.behind in step-next fs 1 end-one second [] (rw one.place at behind))

-- what is read behind a list
abbrev pub none : Step
none = record { leaf = leaf.Scalar Bool; place = 0 }

-- a member before those that are left
pub step-more : (fs : Fields) (i end : ℕ) (u : ClosedType) (s : Step) → nth_field fs i ≡ Some u → IsLeaf s.leaf → u ≡ leaf_type s.leaf → s.place ≡ next_multiple_of end (align u)
    → (ss : List Step) → AreSteps (fields_from (i + 1) fs) (s.place + size u) ss → AreSteps (fields_from i fs) end (s ∷ ss)
step-more fs i end u s found l e p ss more = subst (λ gs. AreSteps gs end (s ∷ ss)) (sym (fields-next fs i u found)) (l, e, p, more)

-- behind the last one
pub step-none : (fs : Fields) (n end : ℕ) → field_count fs ≡ n → AreSteps (fields_from n fs) end []
step-none fs n end e = subst (λ gs. AreSteps gs end []) (sym (fields-last fs n e)) tt
