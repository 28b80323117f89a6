-- Names that are asked of packages, one after the other, and the places of the interfaces that have them.
use Rattle.std.proofs.Common.{◌≡◌, ◌<◌, ◌≤◌, ◌≢◌, ℕ, zero, suc, ◌+◌, Bool, true, false, cond, ◌&&◌, ◌||◌, List, [], ◌∷◌, ◌++◌, map, Option, None, Some, length, take, get_or, set, slice_get, Bor, refl, ap, sym, subst, ◌∙◌, arith, inl, inr, length-set, get_or-set_other, get_or-set_same}
use Rattle.std.specs.List.{list_any, position}
use Rattle.std.specs.Option.{option_or}
use Rattle.std.specs.Str.{bytes_eq}
use Rattle.std.proofs.lemmas.List.{length-take}
use Rattle.std.proofs.lemmas.List.Folds.{list_any-append}
use Rattle.std.proofs.lemmas.Slice.Eq.{bytes_eq-Decides}
use Rattle.tables.specs.PackageNames.{PackageParts}
use Rattle.tables.specs.declared.tables.Interface.{Interface}
use Rattle.package_form.specs.Closed.{is_same_package}
use Rattle.package_form.proofs.AllAndContains.{map-more}
use Rattle.package_form.proofs.MarksOneByOne.{or-false, or-true}
use Rattle.package_form.proofs.NamesMetOneByOne.{below_or_at, take-more}
use Rattle.package_form.proofs.PositionOfTheFirst.{or-none, position-end}
use Rattle.package_names.specs.Asked.{lent_label, lent_labels, is_asked, is_asked_interface, IsIndexOfAsked}
use Rattle.package_names.specs.Indexed.{is_interface_named, placed_at}

-- ---- a name among others

any-end : {A : Type 0} (p : A → Bool) (xs : List A) (x : A) → list_any p (xs ++ x ∷ []) ≡ (list_any p xs || p x)
any-end p xs x = list_any-append p xs (x ∷ []) ∙ ap (λ (b : Bool). list_any p xs || b) (or-false (p x))

-- one more name
pub any-more : (n : List ℕ) (names : List (Bor (List ℕ))) (k : ℕ) (x : Bor (List ℕ)) → k < length names → x ≡ get_or names k x
    → list_any (bytes_eq n) (lent_labels (take (k + 1) names)) ≡ (list_any (bytes_eq n) (lent_labels (take k names)) || bytes_eq n x.now)
any-more n names k x l e = ap (list_any (bytes_eq n)) (map-more lent_label names k x l e) ∙ any-end (bytes_eq n) (lent_labels (take k names)) x.now

pub any-at : (n : List ℕ) (names : List (Bor (List ℕ))) (k : ℕ) (x : Bor (List ℕ)) → k < length names → x ≡ get_or names k x → bytes_eq n x.now ≡ true → list_any (bytes_eq n) (lent_labels names) ≡ true
any-at n [] k x l e same = absurd (omega (arith, l))
any-at n (y ∷ ys) zero x l e same = ap (λ (b : Bool). b || list_any (bytes_eq n) (lent_labels ys)) (ap (λ (z : Bor (List ℕ)). bytes_eq n z.now) (sym e) ∙ same)
any-at n (y ∷ ys) (suc k) x l e same = ap (λ (b : Bool). bytes_eq n y.now || b) (any-at n ys k x (omega (arith, l)) e same) ∙ or-true (bytes_eq n y.now)

-- a table with one name more
pub any-inserted : (n : List ℕ) (keys : List (Bor (List ℕ))) (x : Bor (List ℕ))
    → list_any (λ s. bytes_eq n s.now) (cond (list_any (λ s. bytes_eq x.now s.now) keys) keys (keys ++ x ∷ [])) ≡ (list_any (λ s. bytes_eq n s.now) keys || bytes_eq n x.now)
any-inserted n keys x = by (list_any (λ s. bytes_eq x.now s.now) keys) refl
  where
    there : list_any (λ s. bytes_eq x.now s.now) keys ≡ true → (b : Bool) → bytes_eq n x.now ≡ b → list_any (λ s. bytes_eq n s.now) keys ≡ (list_any (λ s. bytes_eq n s.now) keys || b)
    there h true e =
        let same : n ≡ x.now = (bytes_eq-Decides n x.now).0 e in
        let yes : list_any (λ s. bytes_eq n s.now) keys ≡ true = ap (λ (m : List ℕ). list_any (λ s. bytes_eq m s.now) keys) same ∙ h in
        yes ∙ sym (or-true (list_any (λ s. bytes_eq n s.now) keys))
    there h false e = sym (or-false (list_any (λ s. bytes_eq n s.now) keys))

    by : (b : Bool) → list_any (λ s. bytes_eq x.now s.now) keys ≡ b → list_any (λ s. bytes_eq n s.now) (cond b keys (keys ++ x ∷ [])) ≡ (list_any (λ s. bytes_eq n s.now) keys || bytes_eq n x.now)
    by true h = there h (bytes_eq n x.now) refl
    by false h = any-end (λ s. bytes_eq n s.now) keys x

-- ---- what is asked of packages of a name

-- so many packages were compared, and those of this name are asked
pub record AreAskedFor (key : PackageParts) (name : List ℕ) (ps : List PackageParts) (n : ℕ) (old new : List (List (List ℕ))) : Type 0 where
  pub count : length new ≡ length old
  pub before : (k : ℕ) (q : PackageParts) (m : List ℕ) → k < n → k < length old → slice_get ps k ≡ Some q → is_asked new k m ≡ (is_asked old k m || (is_same_package key q && bytes_eq m name))
  pub behind : (k : ℕ) → n ≤ k → get_or new k [] ≡ get_or old k []

module _ (key : PackageParts) (name : List ℕ) (ps : List PackageParts) (old : List (List (List ℕ))) where
  pub none-asked : AreAskedFor key name ps 0 old old
  none-asked = record { count = refl; before = λ k q m l. absurd (omega (arith, l)); behind = λ k l. refl }

  pub one-asked : (n : ℕ) (x : PackageParts) (asked : List (List (List ℕ))) → slice_get ps n ≡ Some x → is_same_package key x ≡ true → AreAskedFor key name ps n old asked
      → AreAskedFor key name ps (n + 1) old (set asked n (get_or asked n [] ++ name ∷ []))
  one-asked n x asked at same c = record {
    count = length-set asked n (get_or asked n [] ++ name ∷ []) ∙ c.count;
    before = λ k q m l b e. elim (below_or_at k n (omega (arith, l))) [
      | inl f ↦
          let ne : k ≢ n = omega (arith, f) in
          ap (list_any (bytes_eq m)) (get_or-set_other asked n k (get_or asked n [] ++ name ∷ []) [] ne) ∙ c.before k q m f b e
      | inr s ↦
          let here : n < length asked = omega (arith, b, s, c.count) in
          let is : x ≡ q = (let f = ap (slice_get ps) s in cc) in
          let yes : is_same_package key q ≡ true = ap (is_same_package key) (sym is) ∙ same in
          ap (λ (j : ℕ). is_asked (set asked n (get_or asked n [] ++ name ∷ [])) j m) s
          ∙ ap (list_any (bytes_eq m)) (get_or-set_same asked n (get_or asked n [] ++ name ∷ []) [] here)
          ∙ any-end (bytes_eq m) (get_or asked n []) name
          ∙ ap (λ (ns : List (List ℕ)). list_any (bytes_eq m) ns || bytes_eq m name) (c.behind n (omega arith) ∙ ap (λ (j : ℕ). get_or old j []) (sym s))
          ∙ ap (λ (d : Bool). is_asked old k m || (d && bytes_eq m name)) (sym yes)
    ];
    behind = λ k l. let ne : k ≢ n = omega (arith, l) in get_or-set_other asked n k (get_or asked n [] ++ name ∷ []) [] ne ∙ c.behind k (omega (arith, l));
  }

  pub none-more-asked : (n : ℕ) (x : PackageParts) (asked : List (List (List ℕ))) → slice_get ps n ≡ Some x → is_same_package key x ≡ false → AreAskedFor key name ps n old asked → AreAskedFor key name ps (n + 1) old asked
  none-more-asked n x asked at other c = record {
    count = c.count;
    before = λ k q m l b e. elim (below_or_at k n (omega (arith, l))) [
      | inl f ↦ c.before k q m f b e
      | inr s ↦
          let is : x ≡ q = (let f = ap (slice_get ps) s in cc) in
          let no : is_same_package key q ≡ false = ap (is_same_package key) (sym is) ∙ other in
          ap (list_any (bytes_eq m)) (c.behind k (omega (arith, s))) ∙ sym (or-false (is_asked old k m)) ∙ ap (λ (d : Bool). is_asked old k m || (d && bytes_eq m name)) (sym no)
    ];
    behind = λ k l. c.behind k (omega (arith, l));
  }

-- ---- the places of what is asked for

module _ (ps : List PackageParts) (is : List Interface) (asked : List (List (List ℕ))) (k : ℕ) (x : Interface) (l : k < length is) (e : x ≡ get_or is k x) where
  step : (q : PackageParts) (n : List ℕ) → position (is_asked_interface ps asked q n) (take (k + 1) is) ≡ option_or (position (is_asked_interface ps asked q n) (take k is)) (cond (is_asked_interface ps asked q n x) (Some k) None)
  step q n =
      let at : length (take k is) ≡ k = omega (arith, length-take k is, l) in
      ap (position (is_asked_interface ps asked q n)) (take-more is k x l e)
      ∙ position-end (is_asked_interface ps asked q n) (take k is) x
      ∙ ap (λ (m : ℕ). option_or (position (is_asked_interface ps asked q n) (take k is)) (cond (is_asked_interface ps asked q n x) (Some m) None)) at

  -- one more that is asked for
  pub one-more-asked : (old new : List (List (List ℕ × ℕ))) → is_asked asked x.«package».0 x.name ≡ true → IsIndexOfAsked ps (take k is) asked old → length new ≡ length ps
      → ((q : PackageParts) (n : List ℕ) → placed_at new (position (is_same_package q) ps) n ≡ option_or (placed_at old (position (is_same_package q) ps) n) (cond (is_interface_named ps q n x) (Some k) None))
      → IsIndexOfAsked ps (take (k + 1) is) asked new
  one-more-asked old new asks index count put = record {
    count = count;
    each = λ q n.
        put q n
        ∙ ap (λ (o : Option ℕ). option_or o (cond (is_interface_named ps q n x) (Some k) None)) (index.each q n)
        ∙ ap (λ (b : Bool). option_or (position (is_asked_interface ps asked q n) (take k is)) (cond b (Some k) None)) (asked-as q n)
        ∙ sym (step q n);
  }
    where
      and-true : (b : Bool) → b ≡ (b && true)
      and-true true = refl
      and-true false = refl

      asked-as : (q : PackageParts) (n : List ℕ) → is_interface_named ps q n x ≡ is_asked_interface ps asked q n x
      asked-as q n = and-true (is_interface_named ps q n x) ∙ ap (λ (b : Bool). is_interface_named ps q n x && b) (sym asks)

  -- .. that isn't
  pub none-more : (old : List (List (List ℕ × ℕ))) → is_asked asked x.«package».0 x.name ≡ false → IsIndexOfAsked ps (take k is) asked old → IsIndexOfAsked ps (take (k + 1) is) asked old
  none-more old other index = record {
    count = index.count;
    each = λ q n.
        index.each q n
        ∙ sym (or-none (position (is_asked_interface ps asked q n) (take k is)))
        ∙ ap (λ (b : Bool). option_or (position (is_asked_interface ps asked q n) (take k is)) (cond b (Some k) None)) (not-asked q n)
        ∙ sym (step q n);
  }
    where
      and-false : (b : Bool) → false ≡ (b && false)
      and-false true = refl
      and-false false = refl

      not-asked : (q : PackageParts) (n : List ℕ) → false ≡ is_asked_interface ps asked q n x
      not-asked q n = and-false (is_interface_named ps q n x) ∙ ap (λ (b : Bool). is_interface_named ps q n x && b) (sym other)
