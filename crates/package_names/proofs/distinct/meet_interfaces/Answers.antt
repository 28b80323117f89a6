use Rattle.std.proofs.Common.{◌≡◌, ◌<◌, List, ℕ, ◌+◌, ◌-◌, ◌++◌, All, Contains, IsTrue, ◌∷◌, [], take, drop, length, get_or, refl, subst, sym, arith}
use Rattle.std.proofs.lemmas.Result.{err_from_is_err_and}
use Rattle.std.proofs.lemmas.List.{drop_all}
use Rattle.tables.specs.Tables.{are_grouped}
use Rattle.tables.specs.declared.tables.Interface.{Interface}
use Rattle.tables.proofs.NamesEarlierTypes.{grouped-at}
use Rattle.package_form.specs.Scope.{AreDistinct}
use Rattle.package_form.specs.Distinct.{AreMetInEach}
use Rattle.package_form.proofs.NamesMetInEachPackage.{refuses-each, met-more, refuses-met}
use Rattle.package_form.proofs.AllAndContains.{all-append, all-none, contains-left, contains-right}
use Rattle.package_form.proofs.NamesMetOneByOne.{refuses-among, all-taken}
use Rattle.package_form.specs.Ends.{end_of, is_parted, rows_of}
use Rattle.package_form.specs.Naming.{interface_label_of, interface_labels_of, of_each, rows_scopes, interfaces_scopes}
use Rattle.package_names.proofs.NamesOfOneScope.{item-dropped}
use Rattle.tables.proofs.ClosedTypesRowByRow.{split}
use Rattle.package_names.proofs.distinct.meet_interfaces.Goals as goal

-- each interface is of a package
of-package : (count : ℕ) (is : List Interface) (k : ℕ) (x : Interface) → IsTrue (are_grouped count 0 is) → k < length is → x ≡ get_or is k x → x.«package».0 < count
of-package count is k x grouped l at = grouped-at count 0 is k x grouped l (sym at)

pub returns-in_err-distinct_rows-clause-err : goal.returns-in_err-distinct_rows-clause-err
returns-in_err-distinct_rows-clause-err c =
    let p = err_from_is_err_and c.from_residual-in_err-distinct_rows.result c.from_residual-in_err-distinct_rows.ensures.1 in
    let rows = c.args.rows.now in
    let is = c.args.interfaces.now in
    let k = c.loop-interface.interface-index in
    let start = c.loop-interface.start in
    let x = c.interface-item.result in
    let e = c.in_err-distinct_rows.field-0.0 in
    let labels = of_each (interface_labels_of is) 0 c.args.packages.now in
    let here : drop k is ≡ x ∷ drop (k + 1) is = item-dropped is k x (omega arith) c.interface-item.is in
    let among : (ns : List (List ℕ)) → Contains (interfaces_scopes rows start (x ∷ drop (k + 1) is)) ns → Contains (interfaces_scopes rows 0 is) ns =
    subst (λ (js : List Interface). (ns : List (List ℕ)) → Contains (interfaces_scopes rows start js) ns → Contains (interfaces_scopes rows 0 is) ns) here c.loop-interface.invariant.among in
    rw (p.1, p.2) (refuses-among (rows_scopes (rows_of rows start x)) (labels ++ interfaces_scopes rows 0 is) e
    (λ ns h. contains-right labels (interfaces_scopes rows 0 is) ns
    (among ns (contains-left (rows_scopes (rows_of rows start x)) (interfaces_scopes rows (end_of start x) (drop (k + 1) is)) ns h)))
    (rw c.end_of-end.ensures at c.in_err-distinct_rows.ensures.err))

pub meet_in-requires : goal.meet_in-requires
meet_in-requires c =
    let below = of-package (length c.args.packages.now) c.args.interfaces.now c.loop-interface.interface-index c.interface-item.result c.requires.grouped (omega arith) c.interface-item.is in
    omega (arith, below, c.loop-interface.invariant.names.counted)

pub returns-in_err-meet_in-clause-err : goal.returns-in_err-meet_in-clause-err
returns-in_err-meet_in-clause-err c =
    let p = err_from_is_err_and c.from_residual-in_err-meet_in.result c.from_residual-in_err-meet_in.ensures.1 in
    let rows = c.args.rows.now in
    let is = c.args.interfaces.now in
    let ps = c.args.packages.now in
    let k = c.loop-interface.interface-index in
    let x = c.interface-item.result in
    let e = c.in_err-meet_in.field-0.0 in
    let l : k < length is = omega arith in
    let below = of-package (length ps) is k x c.requires.grouped l c.interface-item.is in
    let labels = of_each (interface_labels_of is) 0 ps in
    rw (p.1, p.2) (refuses-among labels (labels ++ interfaces_scopes rows 0 is) e (λ ns h. contains-left labels (interfaces_scopes rows 0 is) ns h)
    (refuses-each (interface_labels_of is) ps x.«package».0 e below
    (refuses-met interface_label_of is k x l c.interface-item.is x.«package».0 x.name (λ j. refl) (λ j. []) (length ps) c.loop-interface.scopes.items e below c.loop-interface.invariant.names
    c.in_err-meet_in.ensures.err)))

pub loop-interface-preserved : goal.loop-interface-preserved
loop-interface-preserved c =
    let rows = c.args.rows.now in
    let is = c.args.interfaces.now in
    let k = c.loop-interface.interface-index in
    let start = c.loop-interface.start in
    let x = c.interface-item.result in
    let rest = drop (k + 1) is in
    let l : k < length is = omega arith in
    let below = of-package (length c.args.packages.now) is k x c.requires.grouped l c.interface-item.is in
    let here : drop k is ≡ x ∷ rest = item-dropped is k x (omega arith) c.interface-item.is in
    let end : c.end_of-end.result ≡ end_of start x = c.end_of-end.ensures in
    let parted : IsTrue (is_parted (length rows) start (x ∷ rest) c.args.worlds.now) = subst (λ (js : List Interface). IsTrue (is_parted (length rows) start js c.args.worlds.now)) here c.loop-interface.invariant.parted in
    let parts : All AreDistinct (interfaces_scopes rows start (x ∷ rest)) → All AreDistinct (interfaces_scopes rows 0 is) =
    subst (λ (js : List Interface). All AreDistinct (interfaces_scopes rows start js) → All AreDistinct (interfaces_scopes rows 0 is)) here c.loop-interface.invariant.parts in
    let among : (ns : List (List ℕ)) → Contains (interfaces_scopes rows start (x ∷ rest)) ns → Contains (interfaces_scopes rows 0 is) ns =
    subst (λ (js : List Interface). (ns : List (List ℕ)) → Contains (interfaces_scopes rows start js) ns → Contains (interfaces_scopes rows 0 is) ns) here c.loop-interface.invariant.among in
    let own : All AreDistinct (rows_scopes (rows_of rows start x)) =
    subst (λ n. All AreDistinct (rows_scopes (take (n - start) (drop start rows)))) end c.in_ok-distinct_rows.ensures.ok in
    record {
      parted = rw end ((split _ _ (split _ _ parted).1).1);
      names =
          met-more interface_label_of is k x l c.interface-item.is x.«package».0 x.name (λ j. refl) (λ j. []) (length c.args.packages.now) c.loop-interface.scopes.items c.meet_in.new.scopes.items below
          c.loop-interface.invariant.names c.in_ok-meet_in.ensures.new c.in_ok-meet_in.ensures.ok;
      parts = rw end (λ h. parts (all-append AreDistinct (rows_scopes (rows_of rows start x)) (interfaces_scopes rows (end_of start x) rest) own h));
      among = rw end (λ ns h. among ns (contains-right (rows_scopes (rows_of rows start x)) (interfaces_scopes rows (end_of start x) rest) ns h));
    }

pub returns-clause-names : goal.returns-clause-names
returns-clause-names c =
    all-taken (λ (js : List Interface). AreMetInEach (length c.args.packages.now) (interface_labels_of js) c.loop-interface.scopes.items) c.args.interfaces.now c.loop-interface.interface-index (omega arith) c.loop-interface.invariant.names

pub returns-clause-parts : goal.returns-clause-parts
returns-clause-parts c =
    let rows = c.args.rows.now in
    let is = c.args.interfaces.now in
    let none : drop c.loop-interface.interface-index is ≡ [] = drop_all c.loop-interface.interface-index is (omega arith) in
    (c.loop-interface.invariant.parts (subst (λ (js : List Interface). All AreDistinct (interfaces_scopes rows c.loop-interface.start js)) (sym none) (all-none AreDistinct)))
