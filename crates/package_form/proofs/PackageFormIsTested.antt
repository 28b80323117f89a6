-- The test of a package's form.
use Rattle.std.proofs.Common.{◌≡◌, ◌≤◌, subst, ◌+◌, ℕ, Bool, true, false, not, nat_lt, IsTrue, length, map, sum, refl, ap, sym, ◌∙◌, arith, ◌↔◌, Result, Ok, Err, IfOk}
use Rattle.std.proofs.lemmas.List.{length-map}
use Rattle.std.proofs.lemmas.Bool.Decides.{nat_tests}
use Rattle.package_form.specs.Entries.{entries_of, world_entries, type_entries, table_of}
use Rattle.package_form.proofs.RowsTakeTypeEntries.{within-entries, few-rows}
use Rattle.tables.specs.declared.tables.Interface.{Interface}
use Rattle.tables.specs.declared.tables.Resolve.{Resolve}
use Rattle.package_form.specs.Closed.{is_closed}
use Rattle.package_form.specs.Form.{IsInPackageForm, is_in_form}
use Rattle.tables.proofs.ClosedTypesRowByRow.{split, both}
use Rattle.package_form.proofs.PostfixIsDecided.{used-postfix, postfix-used}

not-true : (b : Bool) → IsTrue (not b) → b ≡ false
not-true true h = absurd (cc)
not-true false h = refl

false-not : (b : Bool) → b ≡ false → IsTrue (not b)
false-not b h = ap not h

within : (n : ℕ) → n ≤ 65535 → nat_lt 65535 n ≡ false
within n h = grind (arith, nat_tests)

-- the type entries of a package, with its interfaces counted
abbrev entries-in : Resolve → ℕ
entries-in r = 1 + length r.interfaces + (sum (map world_entries r.worlds) + sum (map entries_of r.definitions))

entries-few : (r : Resolve) → IsTrue (is_in_form r) → entries-in r ≤ 65535
entries-few r h =
    let closed = split (is_closed r) _ h in
    let entries = split _ _ closed.1 in
    within-entries r.worlds r.definitions (length r.interfaces) _ refl (not-true _ entries.0)

entries-same : (r : Resolve) → type_entries (table_of r) ≡ entries-in r
entries-same r =
    ap (λ (n : ℕ). 1 + n + (sum (map world_entries r.worlds) + sum (map entries_of r.definitions))) (length-map r.interfaces (λ (i : Interface). i.name))

in-form : (r : Resolve) → is_in_form r ≡ true → IsInPackageForm r
in-form r h =
    let closed = split (is_closed r) _ h in
    let entries = split _ _ closed.1 in
    let parted = split _ _ entries.1 in
    let names = split _ _ parted.1 in
    let each = split _ _ names.1 in
    let worlds = split _ _ each.1 in
    record {
      closed = closed.0;
      names = names.0;
      parted = parted.0;
      interfaces = each.0;
      worlds = worlds.0;
      postfix = used-postfix r.definitions r.earlier worlds.1;
      entries = subst (λ (n : ℕ). n ≤ 65535) (sym (entries-same r)) (entries-few r h);
    }

-- a package has few rows, since each takes a type entry
entries-told : (r : Resolve) → IsInPackageForm r → entries-in r ≤ 65535
entries-told r f = subst (λ (n : ℕ). n ≤ 65535) (entries-same r) f.entries

pub rows-few : (r : Resolve) → IsInPackageForm r → length r.definitions ≤ 65535
rows-few r f = few-rows r.worlds r.definitions (length r.interfaces) (entries-told r f)

form-in : (r : Resolve) → IsInPackageForm r → is_in_form r ≡ true
form-in r f =
    both _ _ f.closed
    (both _ _ (false-not _ (within _ (entries-told r f)))
    (both _ _ f.parted
    (both _ _ f.names
    (both _ _ f.interfaces
    (both _ _ f.worlds (postfix-used r.definitions r.earlier f.postfix))))))

pub tested : {E : Type 0} (r : Resolve) (result : Result Bool E) → IfOk result (λ b. b ≡ is_in_form r) → IfOk result (λ b. IsTrue b ↔ IsInPackageForm r)
tested r (Ok b) h = (λ q. in-form r (sym h ∙ q), λ f. h ∙ form-in r f)
tested r (Err e) h = tt
