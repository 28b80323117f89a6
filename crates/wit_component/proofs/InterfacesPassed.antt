-- What is asked for behind an interface that was compared.
use Rattle.std.proofs.Common.{◌≡◌, ℕ, zero, suc, ◌+◌, ◌-◌, ◌≤◌, ◌&&◌, true, List, [], ◌∷◌, ◌++◌, IsTrue, nat_le, take, drop, length, ap, sym, ◌∙◌, arith}
use Rattle.std.specs.List.{list_all}
use Rattle.std.proofs.lemmas.Bool.{leb-true}
use Rattle.atoms.specs.Label.{is_label}
use Rattle.ctype_format.specs.Raw.{Decl}
use Rattle.tables.specs.Names.{full_name}
use Rattle.tables.specs.declared.tables.Definition.{Definition}
use Rattle.tables.specs.declared.tables.Interface.{Interface}
use Rattle.tables.specs.declared.tables.World.{World}
use Rattle.tables.specs.declared.tables.Resolve.{Resolve}
use Rattle.tables.proofs.ClosedTypesRowByRow.{split, both}
use Rattle.package_form.specs.Closed.{own_package}
use Rattle.package_form.specs.Ends.{end_of, rows_of, is_parted}
use Rattle.wit_component.specs.Component.{ComponentFront, interface_direction, interface_declarations, front_after, interfaces_declared, interfaces_front}
use Rattle.wit_component.specs.ToComponent.{is_labelled, are_labelled}

pub length-take-le : {A : Type 0} (n : ℕ) (xs : List A) → length (take n xs) ≤ n
length-take-le zero xs = omega arith
length-take-le (suc n) [] = omega arith
length-take-le (suc n) (x ∷ xs) = let few = length-take-le n xs in omega (arith, few)

pub interface-parted : (count start : ℕ) (i : Interface) (is : List Interface) (ws : List World) → is_parted count start (i ∷ is) ws ≡ true
    → (start ≤ end_of start i) × (is_parted count (end_of start i) is ws ≡ true)
interface-parted count start i is ws h =
    let a = split (nat_le start (end_of start i)) _ h in
    (leb-true start (end_of start i) a.0, (split (nat_le (end_of start i) count) _ a.1).1)

pub record InterfacePassed (r : Resolve) (at next : ComponentFront) (start end k : ℕ) (i : Interface) (part : List Decl) (own : List Definition) : Type 0 where
  pub declared : interfaces_declared r at start (drop k r.interfaces) ≡ part ++ interfaces_declared r next end (drop (k + 1) r.interfaces)
  pub front : interfaces_front r.definitions next end (drop (k + 1) r.interfaces) ≡ interfaces_front r.definitions at start (drop k r.interfaces)
  pub labels : IsTrue (is_label i.name) → IsTrue (list_all is_labelled own) → are_labelled r.definitions end (drop (k + 1) r.interfaces) ≡ are_labelled r.definitions start (drop k r.interfaces)

pub interface-passed : (r : Resolve) (at next : ComponentFront) (start end k : ℕ) (i : Interface) (part : List Decl) (rows : List Definition) → drop k r.interfaces ≡ i ∷ drop (k + 1) r.interfaces
    → rows ≡ r.definitions → end ≡ end_of start i
    → part ≡ interface_declarations r.definitions at (take (end - start) (drop start rows)) (interface_direction (own_package r.packages) i) (full_name r i)
    → next ≡ front_after r.definitions at (take (end - start) (drop start rows)) → InterfacePassed r at next start end k i part (take (end - start) (drop start rows))
interface-passed r at next start end k i part rows is all ended told placed =
    let rest = drop (k + 1) r.interfaces in
    let own : take (end - start) (drop start rows) ≡ rows_of r.definitions start i = λ j. take (ended j - start) (drop start (all j)) in
    let declared : part ≡ interface_declarations r.definitions at (rows_of r.definitions start i) (interface_direction (own_package r.packages) i) (full_name r i) =
    told ∙ ap (λ (ds : List Definition). interface_declarations r.definitions at ds (interface_direction (own_package r.packages) i) (full_name r i)) own in
    let place : next ≡ front_after r.definitions at (rows_of r.definitions start i) = placed ∙ ap (front_after r.definitions at) own in
    record {
      declared = ap (interfaces_declared r at start) is ∙ (λ j. (sym declared j) ++ interfaces_declared r (sym place j) (sym ended j) rest);
      front = (λ j. interfaces_front r.definitions (place j) (ended j) rest) ∙ sym (ap (interfaces_front r.definitions at start) is);
      labels = λ name labelled.
          ap (λ (n : ℕ). are_labelled r.definitions n rest) ended
          ∙ sym (ap (λ b. b && are_labelled r.definitions (end_of start i) rest) (both (is_label i.name) (list_all is_labelled (rows_of r.definitions start i)) name (ap (list_all is_labelled) (sym own) ∙ labelled)))
          ∙ sym (ap (are_labelled r.definitions start) is);
    }
