-- Packages behind others: why they aren't opened, and that what is written of the last adds it again.
use Rattle.std.proofs.Common.{◌≡◌, ◌≤◌, ◌∙◌, Bool, true, false, ℕ, List, [], ◌∷◌, length, ap, sym, subst, arith, refl, ◌+◌, length-append}
use Rattle.std.proofs.Math.Logic.{∥∥₁_map₂}
use Rattle.std.specs.Prelude.{MatchBool}
use Rattle.layout.specs.Layout.{IsDefinitionWithin, AreWithin, LayoutRefuses, RefusesFirst}
use Rattle.layout.specs.declared.error.LayoutError.{LayoutError}
use Rattle.layout.specs.declared.error.LayoutError.TheVariants as layout_error
use Rattle.canonical_abi.specs.Types.{ClosedType}
use Rattle.package_adding.specs.Added.{IsOfTree}
use Rattle.package_adding.proofs.ImportsFromSets.{are-imports}
use Rattle.package_adding.proofs.BeginningsAreImports.{behind-imports, interfaces-labelled}
use Rattle.package_adding.proofs.FileNamesWhatItsTableNames.{StandsBehind, marks-agree, one-of-each}
use Rattle.package_form.specs.Closed.{own_package}
use Rattle.package_sets.specs.Restricted.{IsRestricted}
use Rattle.package_sets.specs.Tower.{IsInTower}
use Rattle.package_sets.proofs.AttachedSets.KeepsTower.{keeps-tower}
use Rattle.package_sets.proofs.AttachedSets.IsInTower.{none-in-tower}
use Rattle.package_sets.proofs.SamePackagesAreOne.{same-tables}
use Rattle.package_text.specs.Laws.{IsTextOfClosed, NestsAsText}
use Rattle.package_text.specs.Writable.{IsWritable}
use Rattle.tables.specs.Same.{IsSamePackage}
use Rattle.tables.specs.PackageNames.{PackageParts}
use Rattle.tables.specs.declared.tables.Definition.{Definition}
use Rattle.tables.specs.declared.tables.Definition.TheVariants as row
use Rattle.tables.specs.declared.tables.Resolve.{Resolve}
use Rattle.wit_text.specs.Reading.{IsRead}
use Rattle.wit_tokens.specs.Lexing.{limit}
use Rattle.opening.specs.Opening.{IsLast, IsWrittenAs, IsPrintedAs, OpenRefuses}
use Rattle.opening.specs.Sets.{is_binary, IsOfTextBehind, IsBinaryOf, PutsBehind, AddsMember, AddsMembers, MemberRefuses, IsSetOf, FirstRefused}
use Rattle.opening.specs.declared.package.OpenError.{OpenError}
use Rattle.opening.specs.declared.package.OpenError.TheVariants as error
use Rattle.opening.proofs.OneInputAdded.{as-binary, as-text}
use Rattle.opening.proofs.LastPackageAsText.{shallow}
use Rattle.opening.proofs.LastTableWithinLimits.{last-within}

-- ---- refusals

-- no package is refused behind others for its layouts
no-layout : (set : Resolve) (bytes : List ℕ) (e : LayoutError) → MemberRefuses set bytes (error.Layout e) → ⊥
no-layout set bytes e h = by (is_binary bytes) h.1
  where
    by : (b : Bool) → MatchBool b ⊥ ⊥ → ⊥
    by true x = x
    by false x = x

pub first-refused : (inputs : List (List ℕ)) (e : OpenError) → FirstRefused inputs e → OpenRefuses inputs e
first-refused inputs (error.Layout e) h = absurd (no-layout h.set h.bytes e h.refuses)
first-refused inputs (error.Read n) h = h
first-refused inputs (error.Text e) h = h
first-refused inputs (error.Binary e) h = h
first-refused inputs (error.Resolve e) h = h
first-refused inputs (error.NotUtf8 n) h = h
first-refused inputs error.NoMemory h = h

-- ---- layouts

too-deep : (d : Definition) (t : ClosedType) → IsDefinitionWithin d t → LayoutRefuses layout_error.TooDeep d t → ⊥
too-deep (row.Type d) t w h = omega (arith, w.0, h)
too-deep (row.Function f) t w h = h

too-large : (d : Definition) (t : ClosedType) → IsDefinitionWithin d t → LayoutRefuses layout_error.TooLarge d t → ⊥
too-large (row.Type d) t w h = omega (arith, w.1, h.1)
too-large (row.Function f) t w h = omega (arith, w, h)

laid-out : (p : Resolve) → AreWithin p → (e : LayoutError) → RefusesFirst e p → e ≡ layout_error.NoMemory
laid-out p w layout_error.NoMemory h = refl
laid-out p w layout_error.TooDeep (k, s) = absurd (too-deep s.definition _ (w.each k s.definition s.in_range s.is) s.refused)
laid-out p w layout_error.TooLarge (k, s) = absurd (too-large s.definition _ (w.each k s.definition s.in_range s.is) s.refused)

-- the layouts of a set within the limits are refused for memory alone
pub same-laid-out : (q p : Resolve) → IsSamePackage q p → AreWithin p → (e : LayoutError) → RefusesFirst e q → e ≡ layout_error.NoMemory
same-laid-out q p same w e h = laid-out p w e (subst (RefusesFirst e) (same-tables q p same) h)

-- ---- a set of packages

set-tower : (xs : List (List ℕ)) (s r : Resolve) → AddsMembers s xs r → ∥ IsInTower s ∥₁ → ∥ IsInTower r ∥₁
set-tower [] s r e tower = subst (λ (x : Resolve). ∥ IsInTower x ∥₁) e tower
set-tower (x ∷ xs) s r (c, next, h, rest) tower = set-tower xs next r rest (∥∥₁_map₂ tower h.puts.writable (λ g w. (keeps-tower s c g w.form w.distinct next h.puts.id h.puts.attached).tower))

pub is-in-tower : (xs : List (List ℕ)) (r : Resolve) → IsSetOf xs r → ∥ IsInTower r ∥₁
is-in-tower xs r h = set-tower xs h.none r h.adds ∣ none-in-tower h.none h.empty ∣₁

more-packages : (xs : List (List ℕ)) (s r : Resolve) → AddsMembers s xs r → length r.packages ≡ length s.packages + length xs
more-packages [] s r e = ap (λ (x : Resolve). length x.packages) (sym e) ∙ plus-none (length s.packages)
  where
    plus-none : (n : ℕ) → n ≡ n + 0
    plus-none n = omega arith
more-packages (x ∷ xs) s r (c, next, h, rest) =
    let more = more-packages xs next r rest in
    omega (arith, more, ap length h.puts.attached.packages_are, length-append s.packages (h.puts.attached.fits.own ∷ []))

-- .. has as many packages
pub count-packages : (xs : List (List ℕ)) (r : Resolve) → IsSetOf xs r → length r.packages ≡ length xs
count-packages xs r h = omega (arith, more-packages xs h.none r h.adds, ap (λ (ps : List PackageParts). length ps) h.empty.packages)

-- .. and at most 64
few-more : (xs : List (List ℕ)) (s r : Resolve) → length s.packages ≤ 64 → AddsMembers s xs r → length r.packages ≤ 64
few-more [] s r few h = subst (λ (x : Resolve). length x.packages ≤ 64) h few
few-more (x ∷ xs) s r few (closed, next, adds, rest) =
    few-more xs next r
    (omega (arith, ap length adds.puts.attached.packages_are, length-append s.packages (adds.puts.attached.fits.own ∷ []), adds.puts.attached.room)) rest

pub few-packages : (xs : List (List ℕ)) (r : Resolve) → IsSetOf xs r → length r.packages ≤ 64
few-packages xs r h = few-more xs h.none r (omega (arith, ap (λ (ps : List PackageParts). length ps) h.empty.packages)) h.adds

-- ---- what is written of the last package

module _ (set c r : Resolve) (last bytes : List ℕ) (h : AddsMember set last c r) (tower : IsInTower set) (writable : IsWritable c) where
  -- the table of the last package is this closed table
  last-is : (closed : Resolve) → IsLast r closed → closed ≡ c
  last-is closed l =
      let number : own_package r.packages ≡ length set.packages = omega (arith, ap length h.puts.attached.packages_are, length-append set.packages (h.puts.attached.fits.own ∷ [])) in
      same-tables closed c ((keeps-tower set c tower writable.form writable.distinct r h.puts.id h.puts.attached).again h.puts.behind closed (subst (λ (n : ℕ). IsRestricted r n closed) number l))

  puts-here : (closed : Resolve) → IsLast r closed → PutsBehind set closed r
  puts-here closed l = subst (λ (x : Resolve). PutsBehind set x r) (sym (last-is closed l)) h.puts

  -- its binary adds it
  pub rewritten : (w : IsWrittenAs bytes r) → AddsMember set bytes w.closed r
  rewritten w = record {
    member = as-binary bytes (IsBinaryOf bytes w.closed) (IsOfTextBehind set bytes w.closed) w.begins w.binary;
    puts = puts-here w.closed w.last;
  }

  -- so does its canonical text
  pub reprinted : ((r imports : Resolve) → IsTextOfClosed r imports) → ((r : Resolve) → NestsAsText r) → (w : IsPrintedAs bytes r) → AddsMember set bytes w.closed r
  reprinted texts nests w =
      let p = w.closed in
      let form = tower.form in
      let formed : IsWritable p = subst (λ (x : Resolve). IsWritable x) (sym (last-is p w.last)) writable in
      let puts = puts-here p w.last in
      let b = puts.behind in
      let a = behind-imports b.imports p b.stands set b.packages b.interfaces b.are form.rows formed.form in
      let short = shallow p (last-within set p r puts.id puts.attached w.within) in
      let x = texts p b.imports formed a (nests p formed.form short) (subst (λ (xs : List ℕ). length xs ≤ limit) w.text w.short) in
      let stands : StandsBehind b.imports x.0 p = record {
        faults = x.2.faults;
        resolved = x.2.resolved;
        owned = (are-imports set b.packages b.interfaces b.imports b.are ∣ form ∣₁).owned;
        ends = sym a.ends;
        one = one-of-each p ∣ formed.form ∣₁ ∣ formed.distinct ∣₁ (interfaces-labelled p formed.labels);
      } in
      let tree : IsOfTree x.0 set p = record {
        imports = b.imports;
        from = record { packages = b.packages; interfaces = b.interfaces; named = (marks-agree b.imports x.0 p stands set b.packages b.interfaces).1 b.named; are = b.are };
        faults = x.2.faults;
        resolved = x.2.resolved;
      } in
      record {
        member = as-text bytes (IsBinaryOf bytes p) (IsOfTextBehind set bytes p) w.begins
            (record { utf8 = w.utf8; file = x.0; read = subst (λ (xs : List ℕ). IsRead xs x.0) (sym w.text) x.1; fits = x.2.fits; tree = tree });
        puts = puts;
      }
