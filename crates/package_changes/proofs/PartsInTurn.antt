-- Parts are compared one after the other.
use Rattle.std.proofs.Common.{◌≡◌, ℕ, ◌+◌, ◌<◌, ◌≤◌, Bool, true, false, ◌&&◌, ◌||◌, List, [], ◌∷◌, map, length, get_or, drop, Option, Some, None, refl, ap, sym, subst, ◌∙◌, arith}
use Rattle.std.proofs.lemmas.List.{drop_more, length-drop}
use Rattle.canonical_abi.specs.Labelled.{LabelledType}
use Rattle.package_changes.specs.declared.likeness.Likeness.{Likeness}
use Rattle.package_changes.specs.Alike.{leaves, both, part_likeness, parts_likeness}

and-assoc : (a b c : Bool) → ((a && b) && c) ≡ (a && (b && c))
and-assoc true b c = refl
and-assoc false b c = refl

or-assoc : (a b c : Bool) → ((a || b) || c) ≡ (a || (b || c))
or-assoc true b c = refl
or-assoc false b c = refl

and-true : (a : Bool) → (a && true) ≡ a
and-true true = refl
and-true false = refl

or-false : (a : Bool) → (a || false) ≡ a
or-false true = refl
or-false false = refl

both-assoc : (a b c : Likeness) → both (both a b) c ≡ both a (both b c)
both-assoc a b c = λ i. record {
  same = and-assoc a.same b.same c.same i;
  equal = and-assoc a.equal b.equal c.equal i;
  wider = and-assoc a.wider b.wider c.wider i;
  moved = or-assoc a.moved b.moved c.moved i;
  renamed = or-assoc a.renamed b.renamed c.renamed i;
}

both-none : (a : Likeness) → both a (leaves true) ≡ a
both-none a = λ i. record {
  same = and-true a.same i;
  equal = and-true a.equal i;
  wider = and-true a.wider i;
  moved = or-false a.moved i;
  renamed = or-false a.renamed i;
}

-- what is left after part i, with all before it
pub record LeavesRest (all : Likeness) (i : ℕ) (ps qs : List (Option LabelledType)) : Type 0 where
  pub is : both all (parts_likeness (drop i ps) (drop i qs)) ≡ parts_likeness ps qs

pub rest-steps : (all here : Likeness) (i : ℕ) (ps qs : List (Option LabelledType)) (p q : Option LabelledType) → i < length ps → i < length qs → p ≡ get_or ps i p → q ≡ get_or qs i q
    → here ≡ part_likeness p q → LeavesRest all i ps qs → LeavesRest (both all here) (i + 1) ps qs
unfolding parts_likeness
rest-steps all here i ps qs p q h k at at' is so =
    let front = drop_more ps i p h ∙ ap (λ (x : Option LabelledType). x ∷ drop (i + 1) ps) (sym at) in
    let front' = drop_more qs i q k ∙ ap (λ (x : Option LabelledType). x ∷ drop (i + 1) qs) (sym at') in
    let split : parts_likeness (drop i ps) (drop i qs) ≡ both here (parts_likeness (drop (i + 1) ps) (drop (i + 1) qs)) =
    ap (λ l. parts_likeness l (drop i qs)) front ∙ ap (parts_likeness (p ∷ drop (i + 1) ps)) front'
    ∙ ap (λ (x : Likeness). both x (parts_likeness (drop (i + 1) ps) (drop (i + 1) qs))) (sym is) in
    record { is = both-assoc all here (parts_likeness (drop (i + 1) ps) (drop (i + 1) qs)) ∙ ap (both all) (sym split) ∙ so.is }

empty : {A : Type 0} (xs : List A) → length xs ≡ 0 → xs ≡ []
empty [] h = refl
empty (x ∷ xs) h = absurd (omega arith)

none-left : {A : Type 0} (i : ℕ) (xs : List A) → length xs ≤ i → drop i xs ≡ []
none-left i xs h = empty (drop i xs) (omega (arith, length-drop i xs))

no-newer : (ps : List (Option LabelledType)) → parts_likeness ps [] ≡ leaves true
unfolding parts_likeness
no-newer [] = refl
no-newer (p ∷ ps) = refl

pub older-end : (all : Likeness) (i : ℕ) (ps qs : List (Option LabelledType)) → length ps ≤ i → LeavesRest all i ps qs → all ≡ parts_likeness ps qs
unfolding parts_likeness
older-end all i ps qs h so = sym (both-none all) ∙ ap (both all) (sym (ap (λ l. parts_likeness l (drop i qs)) (none-left i ps h))) ∙ so.is

pub newer-end : (all : Likeness) (i : ℕ) (ps qs : List (Option LabelledType)) → length qs ≤ i → LeavesRest all i ps qs → all ≡ parts_likeness ps qs
newer-end all i ps qs h so = sym (both-none all) ∙ ap (both all) (sym (ap (parts_likeness (drop i ps)) (none-left i qs h) ∙ no-newer (drop i ps))) ∙ so.is
