-- Declarations that are compared part by part.
use Rattle.std.proofs.Common.{◌≡◌, ◌==◌, Bool, false, List, [], ◌∷◌, ◌++◌, map, take, length, Option, Some, IfSome, refl, ap, sym, subst, ◌∙◌, append_assoc, append-nil, arith}
use Rattle.std.specs.Prelude.{Decides}
use Rattle.std.proofs.lemmas.Bool.Decides.{nat_tests}
use Rattle.std.proofs.lemmas.List.{append_cancel_left}

-- the whole begins with what is asked for where what is left begins with the rest of it, and the same stands behind
pub record IsLeft {A : Type 0} (whole asked left rest : List A) : Type 0 where
  pub begins : (after : List A) → left ≡ rest ++ after → whole ≡ asked ++ after
  pub goes_on : (after : List A) → whole ≡ asked ++ after → left ≡ rest ++ after

pub at-start : {A : Type 0} (whole asked : List A) → IsLeft whole asked whole asked
at-start whole asked = record { begins = λ after e. e; goes_on = λ after e. e }

module _ {A : Type 0} (whole asked left rest part more : List A) (is : rest ≡ part ++ more) (l : IsLeft whole asked left rest) where
  parts : (after : List A) → rest ++ after ≡ part ++ (more ++ after)
  parts after = ap (λ (xs : List A). xs ++ after) is ∙ append_assoc part more after

  pub behind-part : (next : List A) → left ≡ part ++ next → IsLeft whole asked next more
  behind-part next e = record {
    begins = λ after h. l.begins after (e ∙ ap (λ (xs : List A). part ++ xs) h ∙ sym (parts after));
    goes_on = λ after h. append_cancel_left part next (more ++ after) (sym e ∙ l.goes_on after h ∙ parts after);
  }

  -- where another part comes, the whole begins otherwise
  pub other-part : ((after : List A) → left ≡ part ++ after → ⊥) → (after : List A) → whole ≡ asked ++ after → ⊥
  other-part none after h = none (more ++ after) (l.goes_on after h ∙ parts after)

-- nothing more is asked for
module _ {A : Type 0} (whole asked left rest : List A) (is : rest ≡ []) (l : IsLeft whole asked left rest) where
  pub all-behind : whole ≡ asked ++ left
  all-behind = l.begins left (sym (ap (λ (xs : List A). xs ++ left) is))

  pub none-behind : left ≡ [] → whole ≡ asked
  none-behind e = all-behind ∙ ap (λ (xs : List A). asked ++ xs) e ∙ append-nil asked

  pub some-behind : whole ≡ asked → left ≡ []
  some-behind e = l.goes_on [] (e ∙ sym (append-nil asked)) ∙ ap (λ (xs : List A). xs ++ []) is

-- a list begins with others where its front is the same
pub same-front : {A B : Type 0} (f : A → B) (xs ys : List A) (rest : List B) → map f xs ≡ map f ys ++ rest → map f (take (length ys) xs) ≡ map f ys
same-front f xs [] rest e = refl
same-front f [] (y ∷ ys) rest e = absurd (cc)
same-front f (x ∷ xs) (y ∷ ys) rest e =
    let head : f x ≡ f y = cc in
    let more : map f xs ≡ map f ys ++ rest = cc in
    λ j. head j ∷ same-front f xs ys rest more j

-- what is told of an answer, where there is one
pub told-of : {A : Type 0} (P : A → Type 0) (o : Option A) (x : A) → o ≡ Some x → IfSome o P → P x
told-of P o x e h = subst (λ (p : Option _). IfSome p P) e h

-- a list is empty where nothing is seen of it
pub empty-decides : {A B : Type 0} (f : A → B) (xs : List A) (r : Bool) → r ≡ (length xs == 0) → Decides r (map f xs ≡ [])
empty-decides f [] r e = (λ t. refl, λ s. e)
empty-decides f (x ∷ xs) r e = (λ t. absurd (let more : (length (x ∷ xs) == 0) ≡ false = grind (arith, nat_tests) in cc), λ s. absurd (cc))
