-- The table of an earlier package stays what it was where a package is put behind the set.
use Rattle.std.proofs.Common.{◌≡◌, ◌<◌, inl, inr, ℕ, zero, suc, ◌+◌, Bool, true, false, List, [], ◌∷◌, ◌++◌, length, map, drop, get_or, slice_get, Option, None, Some, refl, ap, sym, subst, ◌∙◌, arith, true≢false}
use Rattle.std.proofs.lemmas.List.{get_or-map, get_or_default, length-append, length-map}
use Rattle.std.proofs.lemmas.Option.{slice_get_within, get_or_from_slice_get}
use Rattle.std.proofs.lemmas.Bool.Decides.{same_from_decides}
use Rattle.package_form.specs.Form.{IsInPackageForm}
use Rattle.tables.specs.PackageNames.{PackageParts}
use Rattle.tables.specs.Same.{IsSamePackage}
use Rattle.tables.specs.declared.tables.Interface.{Interface}
use Rattle.tables.specs.declared.tables.Owner.{Owner}
use Rattle.tables.specs.declared.tables.Owner.TheVariants as owner
use Rattle.tables.specs.declared.tables.Definition.{Definition}
use Rattle.tables.specs.declared.tables.World.{World}
use Rattle.tables.specs.declared.tables.Resolve.{Resolve}
use Rattle.package_sets.specs.Joined.{renaming_of, IsJoined}
use Rattle.package_sets.proofs.AttachedSets.PutBehind.{IsPut}
use Rattle.package_sets.specs.Joining.{own_interfaces}
use Rattle.set_rows.specs.Moved.{Renaming, put_interface, put_world, put_row}
use Rattle.set_rows.specs.Owners.{owners}
use Rattle.package_sets.specs.Part.{IsTableOf}
use Rattle.set_rows.specs.Places.{place}
use Rattle.set_rows.specs.Reaches.{Marks, is_marked, OfPackage, AreReached}
use Rattle.set_rows.specs.Renamed.{renaming}
use Rattle.package_sets.specs.Restricted.{IsReachedIn, AreNeeded, IsNeeded}
use Rattle.package_sets.specs.SetForm.{IsInSetForm}
use Rattle.package_sets.specs.Tower.{IsInTower}
use Rattle.package_sets.specs.Joined.{JoinedPlaces}
use Rattle.set_rows.specs.declared.moved.Moved.{Moved}
use Rattle.package_sets.proofs.KeptParts.MarksOfRisingPlaces.{mark-within}
use Rattle.package_sets.proofs.AttachedSets.IsInTower as in-tower
use Rattle.package_sets.proofs.GrowingLists.{one-there}
use Rattle.package_sets.proofs.AttachedAndImportedAreOne.{marked-same}
use Rattle.package_sets.proofs.AttachedSets.NamesEarlierPackages as ordering
use Rattle.set_rows.proofs.OwnersOfRows.{length-owners}
use Rattle.package_sets.proofs.KeptParts.PropertiesOfKept.{interface-in}
use Rattle.package_form.specs.Closed.{is_world_of}
use Rattle.std.specs.List.{items_where_true}

-- ---- marks that agree

abbrev AreSameMarks : List Bool → List Bool → Type 0
AreSameMarks bs cs = (k : ℕ) → get_or bs k false ≡ get_or cs k false

same-rest : (b c : Bool) (bs cs : List Bool) → AreSameMarks (b ∷ bs) (c ∷ cs) → AreSameMarks bs cs
same-rest b c bs cs h k = h (suc k)

no-place : (bs : List Bool) → AreSameMarks bs [] → (k : ℕ) → place bs k ≡ 0
no-place [] h k = refl
no-place (b ∷ bs) h zero = refl
no-place (false ∷ bs) h (suc k) = no-place bs (λ n. h (suc n)) k
no-place (true ∷ bs) h (suc k) = absurd (true≢false (h 0))

same-place : (bs cs : List Bool) → AreSameMarks bs cs → (k : ℕ) → place bs k ≡ place cs k
same-place [] cs h k = sym (no-place cs (λ n. sym (h n)) k)
same-place (b ∷ bs) [] h k = no-place (b ∷ bs) h k
same-place (b ∷ bs) (c ∷ cs) h zero = refl
same-place (true ∷ bs) (true ∷ cs) h (suc k) = ap (λ n. 1 + n) (same-place bs cs (same-rest true true bs cs h) k)
same-place (false ∷ bs) (false ∷ cs) h (suc k) = same-place bs cs (same-rest false false bs cs h) k
same-place (true ∷ bs) (false ∷ cs) h (suc k) = absurd (true≢false (h 0))
same-place (false ∷ bs) (true ∷ cs) h (suc k) = absurd (true≢false (sym (h 0)))

keeps-none : {A : Type 0} (bs : List Bool) (xs : List A) → AreSameMarks bs [] → items_where_true bs xs ≡ []
keeps-none [] xs h = refl
keeps-none (b ∷ bs) [] h = refl
keeps-none (false ∷ bs) (x ∷ xs) h = keeps-none bs xs (λ k. h (suc k))
keeps-none (true ∷ bs) (x ∷ xs) h = absurd (true≢false (h 0))

-- no more is kept of a longer list
keeps-front : {A : Type 0} (bs cs : List Bool) (xs ys : List A) → AreSameMarks bs cs → length cs ≡ length xs → items_where_true bs (xs ++ ys) ≡ items_where_true cs xs
keeps-front bs [] [] ys h l = keeps-none bs ys h
keeps-front bs (c ∷ cs) [] ys h l = absurd (omega (arith, l))
keeps-front bs [] (x ∷ xs) ys h l = absurd (omega (arith, l))
keeps-front [] (c ∷ cs) (x ∷ xs) ys h l = sym (keeps-none (c ∷ cs) (x ∷ xs) (λ k. sym (h k)))
keeps-front (true ∷ bs) (true ∷ cs) (x ∷ xs) ys h l = ap (λ zs. x ∷ zs) (keeps-front bs cs xs ys (same-rest true true bs cs h) (omega (arith, l)))
keeps-front (false ∷ bs) (false ∷ cs) (x ∷ xs) ys h l = keeps-front bs cs xs ys (same-rest false false bs cs h) (omega (arith, l))
keeps-front (true ∷ bs) (false ∷ cs) (x ∷ xs) ys h l = absurd (true≢false (h 0))
keeps-front (false ∷ bs) (true ∷ cs) (x ∷ xs) ys h l = absurd (true≢false (sym (h 0)))

-- marks of a longer list, none of which is behind the shorter one's
same-marks : (bs cs : List Bool) → ((k : ℕ) → get_or bs k false ≡ true → get_or cs k false ≡ true) → ((k : ℕ) → get_or cs k false ≡ true → get_or bs k false ≡ true) → AreSameMarks bs cs
same-marks bs cs f g k = same_from_decides {P = get_or cs k false ≡ true} (get_or bs k false) (get_or cs k false) (f k, g k) (λ e. e, λ e. e)

module _ (s c : Resolve) (j : JoinedPlaces) (q : IsJoined s c j) (own : PackageParts) (r : Resolve) (put : IsPut s c own j r) (tower : IsInTower s) (closed : IsInPackageForm c) (there : IsInSetForm r) (id : ℕ) (earlier : id < length s.packages)
    (now : Moved) (x : IsNeeded r id now) (then : Moved) (y : IsNeeded s id then) where
  abbrev m : Marks
  m = x.marks

  abbrev a : AreReached r (OfPackage id) m
  a = x.are_reached

  abbrev b : AreNeeded r id m now.packages
  b = x.packages_are

  abbrev n : Marks
  n = y.marks

  abbrev d : AreReached s (OfPackage id) n
  d = y.are_reached

  abbrev e : AreNeeded s id n then.packages
  e = y.packages_are

  abbrev to : Renaming
  to = renaming_of j

  abbrev rows-put : List Definition
  rows-put = map (put_row to) (drop j.imported c.definitions)

  -- the marks of the set among those
  abbrev first : Marks
  first = in-tower.set-marks s c j q own r put tower closed there id earlier m a

  first-reached : AreReached s (OfPackage id) first
  first-reached = in-tower.set-reached s c j q own r put tower closed there id earlier m a

  first-same : (o : Option Owner) → is_marked first o ≡ is_marked n o
  first-same = marked-same s (OfPackage id) first n first-reached d

  one-more-there : {A : Type 0} (xs ys zs : List A) → zs ≡ xs ++ ys → (k : ℕ) → k < length zs → (x : A) × (slice_get (xs ++ ys) k ≡ Some x)
  one-more-there xs ys zs g k l = one-there (xs ++ ys) k (omega (arith, l, ap length g))

  -- ---- interfaces

  marks-same : AreSameMarks m.interfaces n.interfaces
  marks-same = same-marks m.interfaces n.interfaces forth back
    where
      forth : (k : ℕ) → get_or m.interfaces k false ≡ true → get_or n.interfaces k false ≡ true
      forth k h =
          let l : k < length r.interfaces = omega (arith, mark-within m.interfaces k h, a.count) in
          let x = one-more-there s.interfaces (map (put_interface to) (own_interfaces c)) r.interfaces put.interfaces k l in
          let p = in-tower.one-interface s c j q own r put tower closed there id earlier m a k x.0 h x.1 in
          get_or_default n.interfaces k false true (omega (arith, p.0, d.count))
          ∙ (sym (first-same (Some (owner.Interface (record { 0 = k })))) ∙ (get_or_default first.interfaces k true false (omega (arith, p.0, first-reached.count)) ∙ p.1))

      back : (k : ℕ) → get_or n.interfaces k false ≡ true → get_or m.interfaces k false ≡ true
      back k h =
          let l : k < length s.interfaces = omega (arith, mark-within n.interfaces k h, d.count) in
          let o : Option Owner = Some (owner.Interface (record { 0 = k })) in
          let reached = in-tower.reached-there s c j q own r put tower closed there id earlier o l (d.sound o (get_or_default n.interfaces k true false (omega (arith, l, d.count)) ∙ h)) in
          get_or_default m.interfaces k false true (omega (arith, l, a.count, ap length put.interfaces, length-append s.interfaces (map (put_interface to) (own_interfaces c)))) ∙ a.complete o reached

  interfaces-same : AreSameMarks now.interfaces then.interfaces
  interfaces-same k = ap (λ (bs : List Bool). get_or bs k false) x.interfaces_are ∙ (marks-same k ∙ ap (λ (bs : List Bool). get_or bs k false) (sym y.interfaces_are))

  -- ---- rows

  abbrev rows-now : List Bool
  rows-now = map (is_marked m) (owners r.definitions)

  abbrev rows-then : List Bool
  rows-then = map (is_marked n) (owners s.definitions)

  marked-rows : AreSameMarks rows-now rows-then
  marked-rows = same-marks rows-now rows-then forth back
    where
      forth : (k : ℕ) → get_or rows-now k false ≡ true → get_or rows-then k false ≡ true
      forth k h =
          let l : k < length r.definitions = omega (arith, mark-within rows-now k h, length-map (owners r.definitions) (is_marked m), length-owners r.definitions) in
          let x = one-more-there s.definitions rows-put r.definitions put.definitions k l in
          let p = in-tower.one-row s c j q own r put tower closed there id earlier m a k x.0 h x.1 in
          let within : k < length (owners s.definitions) = omega (arith, p.0, length-owners s.definitions) in
          get_or-map (is_marked n) (owners s.definitions) k None false within
          ∙ (sym (first-same (get_or (owners s.definitions) k None)) ∙ (sym (get_or-map (is_marked first) (owners s.definitions) k None false within) ∙ p.1))

      back : (k : ℕ) → get_or rows-then k false ≡ true → get_or rows-now k false ≡ true
      back k h =
          let l : k < length s.definitions = omega (arith, mark-within rows-then k h, length-map (owners s.definitions) (is_marked n), length-owners s.definitions) in
          let x = one-there s.definitions k l in
          let o = get_or (owners s.definitions) k None in
          let marked : is_marked n o ≡ true = sym (get_or-map (is_marked n) (owners s.definitions) k None false (omega (arith, l, length-owners s.definitions))) ∙ h in
          let reached = in-tower.reached-there s c j q own r put tower closed there id earlier o (in-tower.owner-in s c j q own r put tower closed there k x.0 x.1) (d.sound o marked) in
          get_or-map (is_marked m) (owners r.definitions) k None false (omega (arith, l, length-owners r.definitions, ap length put.definitions, length-append s.definitions rows-put))
          ∙ (ap (is_marked m) (in-tower.same-owner s c j q own r put tower closed there k x.0 x.1) ∙ a.complete o reached)

  rows-same : AreSameMarks now.rows then.rows
  rows-same k = ap (λ (bs : List Bool). get_or bs k false) x.rows_are ∙ (marked-rows k ∙ ap (λ (bs : List Bool). get_or bs k false) (sym y.rows_are))

  -- ---- worlds

  abbrev worlds-now : List Bool
  worlds-now = map (is_world_of id) r.worlds

  abbrev worlds-then : List Bool
  worlds-then = map (is_world_of id) s.worlds

  marked-worlds : AreSameMarks worlds-now worlds-then
  marked-worlds = same-marks worlds-now worlds-then forth back
    where
      forth : (k : ℕ) → get_or worlds-now k false ≡ true → get_or worlds-then k false ≡ true
      forth k h =
          let l : k < length r.worlds = omega (arith, mark-within worlds-now k h, length-map r.worlds (is_world_of id)) in
          let x = one-more-there s.worlds (map (put_world to) c.worlds) r.worlds put.worlds k l in
          (in-tower.one-world s c j q own r put tower closed there id earlier m a k x.0 h x.1).1

      back : (k : ℕ) → get_or worlds-then k false ≡ true → get_or worlds-now k false ≡ true
      back k h =
          let l : k < length s.worlds = omega (arith, mark-within worlds-then k h, length-map s.worlds (is_world_of id)) in
          let x = one-there s.worlds k l in
          let at : slice_get r.worlds k ≡ Some x.0 = ordering.front-world s c j q own r put k l ∙ x.1 in
          get_or-map (is_world_of id) r.worlds k x.0 false (slice_get_within r.worlds k x.0 at)
          ∙ (ap (is_world_of id) (get_or_from k r.worlds at) ∙ (ap (is_world_of id) (sym (get_or_from k s.worlds x.1)) ∙ (sym (get_or-map (is_world_of id) s.worlds k x.0 false l) ∙ h)))
        where
          get_or_from : {x : World} (k : ℕ) (ws : List World) → slice_get ws k ≡ Some x → get_or ws k x ≡ x
          get_or_from {x} k ws g = get_or_from_slice_get ws k x x g

  worlds-same : AreSameMarks now.worlds then.worlds
  worlds-same k = ap (λ (bs : List Bool). get_or bs k false) x.worlds_are ∙ (marked-worlds k ∙ ap (λ (bs : List Bool). get_or bs k false) (sym y.worlds_are))

  -- ---- packages

  reached-now : (k : ℕ) → IsReachedIn s n k → IsReachedIn r m k
  reached-now k (i, x, at, marked, is) =
      let l = slice_get_within s.interfaces i x at in
      let o : Option Owner = Some (owner.Interface (record { 0 = i })) in
      (i, x, ordering.front-interface s c j q own r put i l ∙ at, a.complete o (in-tower.reached-there s c j q own r put tower closed there id earlier o l (d.sound o marked)), is)

  reached-then : (k : ℕ) → IsReachedIn r m k → IsReachedIn s n k
  reached-then k (i, x, at, marked, is) =
      let l = slice_get_within r.interfaces i x at in
      let p = in-tower.one-interface s c j q own r put tower closed there id earlier m a i x (get_or_default m.interfaces i false true (omega (arith, l, a.count)) ∙ marked) (ap (λ (is : List Interface). slice_get is i) (sym put.interfaces) ∙ at) in
      let o : Option Owner = Some (owner.Interface (record { 0 = i })) in
      (i, x, sym (ordering.front-interface s c j q own r put i p.0) ∙ at, sym (first-same o) ∙ (get_or_default first.interfaces i true false (omega (arith, p.0, first-reached.count)) ∙ p.1), is)

  packages-same : AreSameMarks now.packages then.packages
  packages-same = same-marks now.packages then.packages forth back
    where
      then-marked : (k : ℕ) → IsReachedIn s n k → get_or then.packages k false ≡ true
      then-marked k x = get_or_default then.packages k false true (omega (arith, e.count, within x)) ∙ e.others k x
        where
          within : IsReachedIn s n k → k < length s.packages
          within (i, y, at, marked, is) = omega (arith, is, interface-in s i y at)

      now-marked : (k : ℕ) → IsReachedIn r m k → get_or now.packages k false ≡ true
      now-marked k x = get_or_default now.packages k false true (omega (arith, b.count, within x)) ∙ b.others k x
        where
          within : IsReachedIn r m k → k < length r.packages
          within (i, y, at, marked, is) = omega (arith, is, interface-in r i y at)

      forth : (k : ℕ) → get_or now.packages k false ≡ true → get_or then.packages k false ≡ true
      forth k h = elim (b.only k h) [ inl is ↦ subst (λ (i : ℕ). get_or then.packages i false ≡ true) (sym is) (e.own_one earlier) | inr x ↦ then-marked k (reached-then k x) ]

      back : (k : ℕ) → get_or then.packages k false ≡ true → get_or now.packages k false ≡ true
      back k h = elim (e.only k h) [ inl is ↦ subst (λ (i : ℕ). get_or now.packages i false ≡ true) (sym is) (b.own_one (omega (arith, earlier, ordering.length-packages s c j q own r put))) | inr x ↦ now-marked k (reached-now k x) ]

  -- ---- all of it

  renamed : renaming now ≡ renaming then
  renamed = λ i. record {
    packages = λ k. same-place now.packages then.packages packages-same k i;
    interfaces = λ k. same-place now.interfaces then.interfaces interfaces-same k i;
    worlds = λ k. same-place now.worlds then.worlds worlds-same k i;
    rows = λ k. same-place now.rows then.rows rows-same k i;
    keeps = λ k. rows-same k i;
  }

  pub stays : (t u : Resolve) → IsTableOf r now t → IsTableOf s then u → IsSamePackage t u
  stays t u f g = record {
    packages = f.packages ∙ (ap (items_where_true now.packages) put.packages ∙ (keeps-front now.packages then.packages s.packages (own ∷ []) packages-same e.count ∙ sym g.packages));
    interfaces = f.interfaces
        ∙ (ap (λ (p : Renaming). map (put_interface p) (items_where_true now.interfaces r.interfaces)) renamed
        ∙ (ap (map (put_interface (renaming then))) (ap (items_where_true now.interfaces) put.interfaces ∙ keeps-front now.interfaces then.interfaces s.interfaces _ interfaces-same (ap length y.interfaces_are ∙ d.count)) ∙ sym g.interfaces));
    worlds = f.worlds
        ∙ (ap (λ (p : Renaming). map (put_world p) (items_where_true now.worlds r.worlds)) renamed
        ∙ (ap (map (put_world (renaming then))) (ap (items_where_true now.worlds) put.worlds ∙ keeps-front now.worlds then.worlds s.worlds _ worlds-same (ap length y.worlds_are ∙ length-map s.worlds (is_world_of id))) ∙ sym g.worlds));
    definitions = f.definitions
        ∙ (ap (λ (p : Renaming). map (put_row p) (items_where_true now.rows r.definitions)) renamed
        ∙ (ap (map (put_row (renaming then))) (ap (items_where_true now.rows) put.definitions ∙ keeps-front now.rows then.rows s.definitions rows-put rows-same (ap length y.rows_are ∙ (length-map (owners s.definitions) (is_marked n) ∙ length-owners s.definitions))) ∙ sym g.definitions));
  }
