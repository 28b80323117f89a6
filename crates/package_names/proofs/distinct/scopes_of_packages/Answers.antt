use Rattle.std.proofs.Common.{◌≡◌, ℕ, zero, suc, ◌+◌, List, [], ◌∷◌, ◌++◌, length, replicate, get_or, refl, ap, ◌∙◌, arith}
use Rattle.std.proofs.lemmas.List.{length-replicate}
use Rattle.package_form.proofs.NamesMetInEachPackage.{none-met}
use Rattle.package_names.proofs.distinct.scopes_of_packages.Goals as goal

no-scopes : ℕ → List (List (List ℕ))
no-scopes n = replicate n []

one-more : (n : ℕ) → replicate n [] ++ [] ∷ [] ≡ no-scopes (suc n)
unfolding no-scopes
one-more zero = refl
one-more (suc n) = ap (λ (ss : List (List (List ℕ))). [] ∷ ss) (one-more n)

nothing-met : (n k : ℕ) → get_or (no-scopes n) k [] ≡ []
unfolding no-scopes
nothing-met zero k = refl
nothing-met (suc n) zero = refl
nothing-met (suc n) (suc k) = nothing-met n k

pub loop-init : goal.loop-init
loop-init c = c.new-scopes.ensures.items

pub loop-preserved : goal.loop-preserved
unfolding no-scopes
loop-preserved c =
    let more = ap (λ (n : List (List ℕ)). c.loop.scopes.items ++ n ∷ []) c.new.ensures ∙ ap (λ (ss : List (List (List ℕ))). ss ++ [] ∷ []) c.loop.invariant in
    c.in_ok-push.ensures.items ∙ more ∙ one-more c.loop.counter ∙ ap no-scopes (let e : suc c.loop.counter ≡ c.loop.counter + 1 = omega arith in e)

pub returns : goal.returns
unfolding no-scopes
returns c =
    let all : c.loop.counter ≡ c.args.count = omega (arith, c.loop-test.false, c.loop.auto.counter-end) in
    let is : c.loop.scopes.items ≡ no-scopes c.args.count = c.loop.invariant ∙ ap no-scopes all in
    none-met c.args.count c.loop.scopes.items (ap length is ∙ length-replicate c.args.count []) (λ k. ap (λ (ss : List (List (List ℕ))). get_or ss k []) is ∙ nothing-met c.args.count k)
