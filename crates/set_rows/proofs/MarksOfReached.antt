-- Marks, one after the other.
use Rattle.std.proofs.Common.{◌≡◌, ◌≤◌, ◌<◌, ◌⊎◌, inl, inr, ℕ, zero, suc, ◌+◌, Bool, true, false, not, List, [], ◌∷◌, ◌++◌, length, take, get_or, set as put, slice_get, map, Option, None, Some, refl, ap, sym, subst, ◌∙◌, arith, true≢false, eq-eqb, eqb-true, ◌≢◌}
use Rattle.std.specs.Prelude.{flat_map, Contains}
use Rattle.std.proofs.lemmas.List.{flat_map_more, map_more, length-set, length-map}
use Rattle.std.proofs.lemmas.Grind.{take_at_read}
use Rattle.std.proofs.lemmas.Option.{slice_get_within, slice_get-get_or}
use Rattle.std.proofs.lemmas.List.Elements.{Contains-append_cases, Contains-append_left, Contains-append_right}
use Rattle.set_rows.specs.Owners.{owners}
use Rattle.set_rows.specs.Reaches.{Marks, is_marked, owner_at, named_owners, own_marks, owners_in, world_owners, padded, given_marks, Start, OfPackage, OfInterfaces, IsStart, Reaches, of_start, of_row, AreReached}
use Rattle.set_rows.specs.Marking.{unmarked_in, unmarked, AddsMarks, TellsGrowth, AddsRow, Passes, AreSound, IsFixedAt, AreGrown}
use Rattle.tables.specs.declared.tables.TypeId.{TypeId}
use Rattle.tables.specs.declared.tables.Owner.{Owner}
use Rattle.tables.specs.declared.tables.Owner.TheVariants as owner
use Rattle.tables.specs.declared.tables.World.{World}
use Rattle.tables.specs.declared.tables.WorldItem.{WorldItem}
use Rattle.tables.specs.declared.tables.Definition.{Definition}
use Rattle.tables.specs.declared.tables.Resolve.{Resolve}
use Rattle.package_form.specs.Closed.{is_world_of}
use Rattle.package_form.specs.Reached.{is_interface_of}

set-same : (bs : List Bool) (k : ℕ) → get_or bs k true ≡ true → put bs k true ≡ bs
set-same [] k e = refl
set-same (b ∷ bs) zero e = ap (λ x. x ∷ bs) (sym e)
set-same (b ∷ bs) (suc k) e = ap (λ x. b ∷ x) (set-same bs k e)

pub set-has : (bs : List Bool) (k : ℕ) → get_or (put bs k true) k true ≡ true
set-has [] k = refl
set-has (b ∷ bs) zero = refl
set-has (b ∷ bs) (suc k) = set-has bs k

pub set-keeps : (bs : List Bool) (k j : ℕ) → get_or bs j true ≡ true → get_or (put bs k true) j true ≡ true
set-keeps [] k j e = e
set-keeps (b ∷ bs) zero zero e = refl
set-keeps (b ∷ bs) zero (suc j) e = e
set-keeps (b ∷ bs) (suc k) zero e = e
set-keeps (b ∷ bs) (suc k) (suc j) e = set-keeps bs k j e

set-only : (bs : List Bool) (k j : ℕ) → get_or (put bs k true) j true ≡ true → (get_or bs j true ≡ true) ⊎ (k ≡ j)
set-only [] k j e = inl e
set-only (b ∷ bs) zero zero e = inr refl
set-only (b ∷ bs) zero (suc j) e = inl e
set-only (b ∷ bs) (suc k) zero e = inl e
set-only (b ∷ bs) (suc k) (suc j) e = up (set-only bs k j e)
  where
    up : (get_or bs j true ≡ true) ⊎ (k ≡ j) → (get_or bs j true ≡ true) ⊎ (suc k ≡ suc j)
    up (inl h) = inl h
    up (inr h) = inr (ap suc h)

set-fewer : (bs : List Bool) (k : ℕ) → get_or bs k true ≡ false → unmarked_in (put bs k true) < unmarked_in bs
set-fewer [] k e = absurd (true≢false e)
set-fewer (true ∷ bs) zero e = absurd (true≢false e)
set-fewer (false ∷ bs) zero e = here (unmarked_in bs)
  where
    here : (n : ℕ) → n < 1 + n
    here n = omega arith
set-fewer (true ∷ bs) (suc k) e = set-fewer bs k e
set-fewer (false ∷ bs) (suc k) e = more _ _ (set-fewer bs k e)
  where
    more : (n m : ℕ) → n < m → 1 + n < 1 + m
    more n m h = omega arith

abbrev with_interface : Marks → ℕ → Marks
with_interface m k = record m { interfaces = put m.interfaces k true }

abbrev with_world : Marks → ℕ → Marks
with_world m k = record m { worlds = put m.worlds k true }

contains-one : (o p : Option Owner) → Contains (p ∷ []) o → o ≡ p
contains-one o p (zero, h, e) = sym e
contains-one o p (suc k, h, e) = absurd (omega arith)

contains-it : (o : Option Owner) → Contains (o ∷ []) o
contains-it o = (0, omega arith, refl)

from-only : (m n : Marks) (o p : Option Owner) → (is_marked m o ≡ true) ⊎ (p ≡ o) → (is_marked m o ≡ true) ⊎ Contains (p ∷ []) o
from-only m n o p (inl h) = inl h
from-only m n o p (inr h) = inr (subst (λ (x : Option Owner). Contains (p ∷ []) x) h (contains-it p))

pub adds-interface : (m n : Marks) (i : Owner) (k : ℕ) → i ≡ owner.Interface (record { 0 = k }) → n ≡ with_interface m k → AddsMarks (Some i ∷ []) m n
adds-interface m n i k e g = rw (e, g) record { count = length-set m.interfaces k true; keeps = keeps; only = λ o h. from-only m n o _ (only o h); all = λ o h. rw (contains-one o _ h) (set-has m.interfaces k) }
  where
    keeps : (o : Option Owner) → is_marked m o ≡ true → is_marked (with_interface m k) o ≡ true
    keeps None h = refl
    keeps (Some (owner.Interface j)) h = set-keeps m.interfaces k j.0 h
    keeps (Some (owner.World w)) h = h

    only : (o : Option Owner) → is_marked (with_interface m k) o ≡ true → (is_marked m o ≡ true) ⊎ (Some (owner.Interface (record { 0 = k })) ≡ o)
    only None h = inl refl
    only (Some (owner.World w)) h = inl h
    only (Some (owner.Interface j)) h = elim (set-only m.interfaces k j.0 h) [ inl q ↦ inl q | inr q ↦ inr (rw q refl) ]

pub adds-world : (m n : Marks) (i : Owner) (k : ℕ) → i ≡ owner.World (record { 0 = k }) → n ≡ with_world m k → AddsMarks (Some i ∷ []) m n
adds-world m n i k e g = rw (e, g) record { count = refl; keeps = keeps; only = λ o h. from-only m n o _ (only o h); all = λ o h. rw (contains-one o _ h) (set-has m.worlds k) }
  where
    keeps : (o : Option Owner) → is_marked m o ≡ true → is_marked (with_world m k) o ≡ true
    keeps None h = refl
    keeps (Some (owner.Interface j)) h = h
    keeps (Some (owner.World w)) h = set-keeps m.worlds k w.0 h

    only : (o : Option Owner) → is_marked (with_world m k) o ≡ true → (is_marked m o ≡ true) ⊎ (Some (owner.World (record { 0 = k })) ≡ o)
    only None h = inl refl
    only (Some (owner.Interface j)) h = inl h
    only (Some (owner.World w)) h = elim (set-only m.worlds k w.0 h) [ inl q ↦ inl q | inr q ↦ inr (rw q refl) ]

pub tells-interface : (m n : Marks) (k : ℕ) (b : Bool) → n ≡ with_interface m k → b ≡ not (get_or m.interfaces k true) → TellsGrowth m n b
tells-interface m n k b e g = rw (e, g) (by (get_or m.interfaces k true) refl)
  where
    by : (x : Bool) → get_or m.interfaces k true ≡ x → TellsGrowth m (with_interface m k) (not x)
    by true h = record { fewer = λ q. absurd (true≢false (sym q)); same = λ q. ap (λ (is : List Bool). record m { interfaces = is }) (set-same m.interfaces k h) }
    by false h = record { fewer = λ q. omega (arith, set-fewer m.interfaces k h); same = λ q. absurd (true≢false q) }

pub tells-world : (m n : Marks) (k : ℕ) (b : Bool) → n ≡ with_world m k → b ≡ not (get_or m.worlds k true) → TellsGrowth m n b
tells-world m n k b e g = rw (e, g) (by (get_or m.worlds k true) refl)
  where
    by : (x : Bool) → get_or m.worlds k true ≡ x → TellsGrowth m (with_world m k) (not x)
    by true h = record { fewer = λ q. absurd (true≢false (sym q)); same = λ q. ap (λ (is : List Bool). record m { worlds = is }) (set-same m.worlds k h) }
    by false h = record { fewer = λ q. omega (arith, set-fewer m.worlds k h); same = λ q. absurd (true≢false q) }

-- ---- one after the other

contains-none : (o : Option Owner) → Contains [] o → ⊥
contains-none o (k, h, e) = omega arith

pub adds-none : (m : Marks) → AddsMarks [] m m
adds-none m = record { count = refl; keeps = λ o h. h; only = λ o h. inl h; all = λ o h. absurd (contains-none o h) }

pub adds-append : (xs ys : List (Option Owner)) (a b c : Marks) → AddsMarks xs a b → AddsMarks ys b c → AddsMarks (xs ++ ys) a c
adds-append xs ys a b c f g = record {
  count = g.count ∙ f.count;
  keeps = λ o h. g.keeps o (f.keeps o h);
  only = λ o h. elim (g.only o h) [ inl q ↦ first o (f.only o q) | inr q ↦ inr (Contains-append_right xs ys o q) ];
  all = λ o h. elim (Contains-append_cases xs ys o h) [ inl q ↦ g.keeps o (f.all o q) | inr q ↦ g.all o q ];
}
  where
    first : (o : Option Owner) → (is_marked a o ≡ true) ⊎ Contains xs o → (is_marked a o ≡ true) ⊎ Contains (xs ++ ys) o
    first o (inl q) = inl q
    first o (inr q) = inr (Contains-append_left xs ys o q)

pub adds-more : {X : Type 0} (f : X → List (Option Owner)) (xs : List X) (i : ℕ) (x d : X) (a b c : Marks) → i < length xs → x ≡ get_or xs i d
    → AddsMarks (flat_map f (take i xs)) a b → AddsMarks (f x) b c → AddsMarks (flat_map f (take (i + 1) xs)) a c
adds-more f xs i x d a b c h at p q =
    let whole : flat_map f (take (i + 1) xs) ≡ flat_map f (take i xs) ++ f x =
    ap (flat_map f) ((take_at_read xs i d h).1 ∙ ap (λ y. take i xs ++ y ∷ []) (sym at)) ∙ sym (flat_map_more f [] (take i xs) x) in
    rw whole (adds-append _ _ a b c p q)

pub adds-named : (os : List (Option Owner)) (ts : List TypeId) (i : ℕ) (x d : TypeId) (a b c : Marks) → i < length ts → x ≡ get_or ts i d
    → AddsMarks (map (owner_at os) (take i ts)) a b → AddsMarks (owner_at os x ∷ []) b c → AddsMarks (map (owner_at os) (take (i + 1) ts)) a c
adds-named os ts i x d a b c h at p q =
    let whole : map (owner_at os) (take (i + 1) ts) ≡ map (owner_at os) (take i ts) ++ owner_at os x ∷ [] =
    map_more (owner_at os) ts i d h ∙ ap (λ y. map (owner_at os) (take i ts) ++ owner_at os y ∷ []) (sym at) in
    rw whole (adds-append _ _ a b c p q)

-- whether there is a new mark, so far and in one more step
pub tells-more : (a b c : Marks) (t u v : Bool) → TellsGrowth a b t → TellsGrowth b c u → ((u ≡ true) × (v ≡ true)) ⊎ ((u ≡ false) × (v ≡ t)) → TellsGrowth a c v
tells-more a b c t u v p q (inl h) = record { fewer = λ e. before t p; same = λ e. absurd (true≢false (sym h.1 ∙ e)) }
  where
    before : (t : Bool) → TellsGrowth a b t → unmarked c < unmarked a
    before true p = omega (arith, p.fewer refl, q.fewer h.0)
    before false p = omega (arith, q.fewer h.0, ap unmarked (p.same refl))
tells-more a b c t u v p q (inr h) =
    let e = q.same h.0 in rw (e, h.1) p

-- these owners are marked besides, and whether one of them is new
pub record Marked (added : List (Option Owner)) (a b : Marks) (grew : Bool) : Type 0 where
  pub adds : AddsMarks added a b
  pub tells : TellsGrowth a b grew

pub marked-none : (m : Marks) → Marked [] m m false
marked-none m = record { adds = adds-none m; tells = record { fewer = λ e. absurd (true≢false (sym e)); same = λ e. refl } }

-- ---- a pass over all rows, from the last on

pub record PassesFrom (set : Resolve) (n : ℕ) (old new : Marks) (grew : Bool) : Type 0 where
  pub count : length new.interfaces ≡ length old.interfaces
  pub keeps : (o : Option Owner) → is_marked old o ≡ true → is_marked new o ≡ true
  pub sound : (from : Start) → AreSound set from old → AreSound set from new
  pub tells : TellsGrowth old new grew
  pub fixed : grew ≡ false → (k : ℕ) → n ≤ k → IsFixedAt set new k

-- a row whose owner is marked
pub adds-row : (os : List (Option Owner)) (own : Option Owner) (d : Definition) (a b : Marks) (u : Bool) → is_marked a own ≡ true → AddsMarks (named_owners os d) a b → TellsGrowth a b u
    → AddsRow os own d a b u
adds-row os own d a b u h p t = record { count = p.count; keeps = p.keeps; only = λ o e. with (p.only o e); all = λ g o e. p.all o e; tells = t }
  where
    with : {o : Option Owner} → (is_marked a o ≡ true) ⊎ Contains (named_owners os d) o → (is_marked a o ≡ true) ⊎ ((is_marked a own ≡ true) × Contains (named_owners os d) o)
    with (inl e) = inl e
    with (inr e) = inr (h, e)

-- .. or isn't
pub adds-over : (os : List (Option Owner)) (own : Option Owner) (d : Definition) (a : Marks) → is_marked a own ≡ false → AddsRow os own d a a false
adds-over os own d a h = record { count = refl; keeps = λ o e. e; only = λ o e. inl e; all = λ g. absurd (true≢false (sym g ∙ h)); tells = (marked-none a).tells }

-- the next row is passed
pub passes-more : (set : Resolve) (n m j : ℕ) (d : Definition) (own : Option Owner) (a b c : Marks) (t u v : Bool) → n < length set.definitions → m ≡ n + 1 → j ≡ n
    → d ≡ get_or set.definitions j d → own ≡ get_or (owners set.definitions) j None
    → PassesFrom set m a b t → AddsRow (owners set.definitions) own d b c u → ((u ≡ true) × (v ≡ true)) ⊎ ((u ≡ false) × (v ≡ t)) → PassesFrom set n a c v
passes-more set n m j d own a b c t u v within next here item place p q g = record {
  count = q.count ∙ p.count;
  keeps = λ o e. q.keeps o (p.keeps o e);
  sound = λ k s o e. from k s o (q.only o e);
  tells = tells-more a b c t u v p.tells q.tells g;
  fixed = λ e k l. fix e k (cases k l);
}
  where
    at : slice_get set.definitions n ≡ Some d
    at = slice_get-get_or set.definitions n d within ∙ ap Some (ap (λ k. get_or set.definitions k d) (sym here) ∙ sym item)

    is : own ≡ get_or (owners set.definitions) n None
    is = place ∙ ap (λ k. get_or (owners set.definitions) k None) here

    from : (k : Start) → AreSound set k a → (o : Option Owner) → (is_marked b o ≡ true) ⊎ ((is_marked b own ≡ true) × Contains (named_owners (owners set.definitions) d) o) → Reaches set k o
    from k s o (inl e) = p.sound k s o e
    from k s o (inr e) = of_row n d o at (p.sound k s _ (subst (λ (x : Option Owner). is_marked b x ≡ true) is e.0)) e.1

    cases : (k : ℕ) → n ≤ k → (m ≤ k) ⊎ (k ≡ n)
    cases k l = grind (arith, next)

    none : v ≡ false → (u ≡ false) × (t ≡ false)
    none e = elim g [ inl w ↦ absurd (true≢false (sym w.1 ∙ e)) | inr w ↦ (w.0, sym w.1 ∙ e) ]

    same : (x : Definition) → slice_get set.definitions n ≡ Some x → x ≡ d
    same x f = let e : Some x ≡ Some d = sym f ∙ at in cc

    marked : v ≡ false → is_marked c (get_or (owners set.definitions) n None) ≡ true → is_marked b own ≡ true
    marked e w = ap (is_marked b) is ∙ (ap (λ (x : Marks). is_marked x (get_or (owners set.definitions) n None)) (sym (q.tells.same (none e).0)) ∙ w)

    fix : v ≡ false → (k : ℕ) → (m ≤ k) ⊎ (k ≡ n) → IsFixedAt set c k
    fix e k (inl l) = subst (λ (x : Marks). IsFixedAt set x k) (sym (q.tells.same (none e).0)) (p.fixed (none e).1 k l)
    fix e k (inr r) = subst (IsFixedAt set c) (sym r) (λ x o f w z. q.all (marked e w) o (subst (λ (y : Definition). Contains (named_owners (owners set.definitions) y) o) (same x f) z))

pub passes-none : (set : Resolve) (n : ℕ) (m : Marks) → length set.definitions ≤ n → PassesFrom set n m m false
passes-none set n m h = record {
  count = refl;
  keeps = λ o e. e;
  sound = λ k s. s;
  tells = (marked-none m).tells;
  fixed = λ e k l d o f. absurd (past k d l f);
}
  where
    past : (k : ℕ) (d : Definition) → n ≤ k → slice_get set.definitions k ≡ Some d → ⊥
    past k d l f = omega (arith, h, slice_get_within set.definitions k d f)

pub passes-all : (set : Resolve) (n : ℕ) (a b : Marks) (t : Bool) → n ≡ 0 → PassesFrom set n a b t → Passes set a b t
passes-all set n a b t z p = record { count = p.count; keeps = p.keeps; sound = p.sound; fewer = p.tells.fewer; fixed = λ e k. p.fixed e k (omega arith) }

-- ---- what is reached

-- where reaching starts is marked, and nothing but what is reached
pub record AreBegun (set : Resolve) (from : Start) (m : Marks) : Type 0 where
  pub count : length m.interfaces ≡ length set.interfaces
  pub begun : (o : Option Owner) → IsStart set from o → is_marked m o ≡ true
  pub sound : AreSound set from m

pub package-begun : (set : Resolve) (own : ℕ) (a m : Marks) → a ≡ own_marks set own → AddsMarks (flat_map (world_owners own) set.worlds) a m → AreBegun set (OfPackage own) m
package-begun set own a m e h = record { count = h.count ∙ (ap (λ (x : Marks). length x.interfaces) e ∙ length-map set.interfaces (is_interface_of own)); begun = begun; sound = λ o q. by o (h.only o q) }
  where
    begun : (o : Option Owner) → (is_marked (own_marks set own) o ≡ true) ⊎ Contains (flat_map (world_owners own) set.worlds) o → is_marked m o ≡ true
    begun o (inl q) = h.keeps o (subst (λ (x : Marks). is_marked x o ≡ true) (sym e) q)
    begun o (inr q) = h.all o q

    by : (o : Option Owner) → (is_marked a o ≡ true) ⊎ Contains (flat_map (world_owners own) set.worlds) o → Reaches set (OfPackage own) o
    by o (inl q) = of_start o (inl (subst (λ (x : Marks). is_marked x o ≡ true) e q))
    by o (inr q) = of_start o (inr q)

pub length-padded : (n : ℕ) (bs : List Bool) → length (padded n bs) ≡ n
length-padded zero bs = refl
length-padded (suc n) [] = ap suc (length-padded n [])
length-padded (suc n) (b ∷ bs) = ap suc (length-padded n bs)

pub interfaces-begun : (set : Resolve) (given : List Bool) (m : Marks) → m ≡ given_marks set given → AreBegun set (OfInterfaces given) m
interfaces-begun set given m e = record {
  count = ap (λ (x : Marks). length x.interfaces) e ∙ length-padded (length set.interfaces) given;
  begun = λ o q. subst (λ (x : Marks). is_marked x o ≡ true) (sym e) q;
  sound = λ o q. of_start o (subst (λ (x : Marks). is_marked x o ≡ true) e q);
}

-- what rows name is marked besides, so far
pub record IsGrowing (set : Resolve) (old new : Marks) : Type 0 where
  pub count : length new.interfaces ≡ length old.interfaces
  pub keeps : (o : Option Owner) → is_marked old o ≡ true → is_marked new o ≡ true
  pub sound : (from : Start) → AreSound set from old → AreSound set from new

pub are-reached : (set : Resolve) (from : Start) (a m : Marks) → AreBegun set from a → AreGrown set a m → AreReached set from m
are-reached set from a m h g = record { count = g.count ∙ h.count; sound = g.sound from h.sound; complete = all }
  where
    all : (o : Option Owner) → Reaches set from o → is_marked m o ≡ true
    all o (of_start _ e) = g.keeps o (h.begun o e)
    all o (of_row k d _ at r e) = g.fixed k d o at (all _ r) e

-- ---- the worlds of a package

pub adds-own : (own : ℕ) (w : World) (items : List WorldItem) (a b : Marks) → w.«package».0 ≡ own → items ≡ w.items → AddsMarks (flat_map owners_in items) a b → AddsMarks (world_owners own w) a b
adds-own own w items a b h e p =
    let same : is_world_of own w ≡ true = eq-eqb _ _ h in
    rw same (subst (λ (is : List WorldItem). AddsMarks (flat_map owners_in is) a b) e p)

pub adds-other : (own : ℕ) (w : World) (a : Marks) → w.«package».0 ≢ own → AddsMarks (world_owners own w) a a
adds-other own w a h = by (is_world_of own w) refl
  where
    by : (b : Bool) → is_world_of own w ≡ b → AddsMarks (world_owners own w) a a
    by true e = absurd (h (eqb-true w.«package».0 own e))
    by false e = rw e (adds-none a)
