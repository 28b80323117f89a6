-- Depth of types and properties of all, one more.
use Rattle.std.proofs.Common.{◌≡◌, ℕ, zero, suc, ◌+◌, ◌<◌, ◌≤◌, Bool, true, false, ◌&&◌, nat_le, List, [], ◌∷◌, ◌++◌, map, take, length, get_or, refl, ap, sym, ◌∙◌, arith}
use Rattle.std.specs.List.{list_all}
use Rattle.std.proofs.lemmas.Bool.{le-leb, leb-true, lt-leb, leb-false}
use Rattle.wit_tokens.specs.Syntax.{depth_all, tys_of, ty_depth}
use Rattle.wit_tokens.specs.View.{ty_view}
use Rattle.wit_tokens.specs.declared.wit_syntax.ast.TypeExpression.{TypeExpression}
use Rattle.tree_meaning.specs.Declarations.{named, named_all}

depth-among : (xs : List TypeExpression) (k : ℕ) (x : TypeExpression) → k < length xs → x ≡ get_or xs k x → ty_depth (ty_view x) ≤ depth_all (tys_of (map ty_view xs))
depth-among [] k x l e = absurd (omega arith)
depth-among (y ∷ xs) zero x l e = let same = ap (λ z. ty_depth (ty_view z)) e in omega (arith, same)
depth-among (y ∷ xs) (suc k) x l e = let rest = depth-among xs k x (omega arith) e in omega (arith, rest)

depth-suc : (xs : List TypeExpression) (k : ℕ) (x : TypeExpression) (n : ℕ) → k < length xs → x ≡ get_or xs k x
    → depth_all (tys_of (map ty_view (take k xs))) ≤ n → ty_depth (ty_view x) ≤ n → depth_all (tys_of (map ty_view (take (suc k) xs))) ≤ n
depth-suc [] k x n l e h q = absurd (omega arith)
depth-suc (y ∷ xs) zero x n l e h q = let same = ap (λ z. ty_depth (ty_view z)) e in omega (arith, same)
depth-suc (y ∷ xs) (suc k) x n l e h q = let rest = depth-suc xs k x n (omega arith) e (omega (arith, h)) q in omega (arith, rest, h)

pub deeper-at : (xs : List TypeExpression) (k : ℕ) (x : TypeExpression) (n : ℕ) → k < length xs → x ≡ get_or xs k x → nat_le (ty_depth (ty_view x)) n ≡ false
    → nat_le (depth_all (tys_of (map ty_view xs))) n ≡ false
deeper-at xs k x n l e h = lt-leb (depth_all (tys_of (map ty_view xs))) n (omega (arith, leb-false (ty_depth (ty_view x)) n h, depth-among xs k x l e))

pub within-more : (xs : List TypeExpression) (k : ℕ) (x : TypeExpression) (n : ℕ) → k < length xs → x ≡ get_or xs k x
    → nat_le (depth_all (tys_of (map ty_view (take k xs)))) n ≡ true → nat_le (ty_depth (ty_view x)) n ≡ true → nat_le (depth_all (tys_of (map ty_view (take (k + 1) xs)))) n ≡ true
within-more xs k x n l e h q =
    let same : k + 1 ≡ suc k = omega arith in
    rw same (le-leb (depth_all (tys_of (map ty_view (take (suc k) xs)))) n (depth-suc xs k x n l e (leb-true _ n h) (leb-true _ n q)))

pub all_false-at : {A B : Type 0} (p : B → Bool) (g : A → B) (xs : List A) (k : ℕ) (x : A) → k < length xs → x ≡ get_or xs k x → p (g x) ≡ false → list_all p (map g xs) ≡ false
all_false-at p g [] k x l e h = absurd (omega arith)
all_false-at p g (y ∷ xs) zero x l e h = by (p (g y)) (ap (λ z. p (g z)) (sym e) ∙ h)
  where
    by : (b : Bool) → b ≡ false → (b && list_all p (map g xs)) ≡ false
    by false q = refl
    by true q = absurd (cc)
all_false-at p g (y ∷ xs) (suc k) x l e h = by (p (g y)) (all_false-at p g xs k x (omega arith) e h)
  where
    by : (b : Bool) → list_all p (map g xs) ≡ false → (b && list_all p (map g xs)) ≡ false
    by false q = refl
    by true q = q

pub named_all-more : (xs : List TypeExpression) (k : ℕ) (x : TypeExpression) → k < length xs → x ≡ get_or xs k x
    → named_all (tys_of (map ty_view (take (k + 1) xs))) ≡ named_all (tys_of (map ty_view (take k xs))) ++ named (ty_view x)
named_all-more xs k x l e = let same : k + 1 ≡ suc k = omega arith in rw same (by xs k l e)
  where
    append-none : (ns : List (List ℕ)) → ns ++ [] ≡ ns
    append-none [] = refl
    append-none (n ∷ ns) = ap (λ zs. n ∷ zs) (append-none ns)

    assoc : (a b c : List (List ℕ)) → (a ++ b) ++ c ≡ a ++ (b ++ c)
    assoc [] b c = refl
    assoc (n ∷ a) b c = ap (λ zs. n ∷ zs) (assoc a b c)

    by : (xs : List TypeExpression) (k : ℕ) → k < length xs → x ≡ get_or xs k x
        → named_all (tys_of (map ty_view (take (suc k) xs))) ≡ named_all (tys_of (map ty_view (take k xs))) ++ named (ty_view x)
    by [] k l e = absurd (omega arith)
    by (y ∷ xs) zero l e = append-none (named (ty_view y)) ∙ ap (λ z. named (ty_view z)) (sym e)
    by (y ∷ xs) (suc k) l e = ap (λ zs. named (ty_view y) ++ zs) (by xs k (omega arith) e) ∙ sym (assoc (named (ty_view y)) (named_all (tys_of (map ty_view (take k xs)))) (named (ty_view x)))
