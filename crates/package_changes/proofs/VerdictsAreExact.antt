-- The verdicts that the tests lead to are exact.
use Rattle.std.proofs.Common.{◌≡◌, Bool, true, false, ◌&&◌, ◌||◌, not, IsTrue, ◌↔◌, List, [], ◌∷◌, Option, Some, None, refl, ap, sym, subst, ◌∙◌}
use Rattle.std.specs.Option.{option_map}
use Rattle.std.specs.Str.{bytes_eq}
use Rattle.std.proofs.lemmas.Bool.{false≢true}
use Rattle.std.proofs.lemmas.Slice.Eq.{bytes_eq-Decides}
use Rattle.canonical_abi.specs.Labelled.{Label, LabelledType, closed}
use Rattle.package_changes.specs.declared.likeness.Likeness.{Likeness}
use Rattle.package_changes.specs.declared.verdicts.Role.{Role}
use Rattle.package_changes.specs.declared.verdicts.Role.TheVariants as role
use Rattle.package_changes.specs.declared.verdicts.Verdict.{Verdict}
use Rattle.package_changes.specs.declared.verdicts.Verdict.TheVariants as verdict
use Rattle.package_changes.specs.Forms.{Form, prim_form, string_form, node_form, Parts, no_part, bare, part, form_of, is_one_family, is_first, behind_first, has_label, label_moves, moves, part_moves, renames}
use Rattle.package_changes.specs.Likeness.{likeness, is_same_form, is_same_type, widens}
use Rattle.package_changes.specs.Alike.{part_likeness}
use Rattle.package_changes.specs.Exact.{IsLikeness}
use Rattle.package_changes.specs.Judging.{taken, decided, verdict_of}
use Rattle.package_changes.specs.Verdicts.{LabelledFunction, OfBoth, of_both, AreEqual, IsWider, Takes, may_send, may_answer, IsTaken, AreClosedAlike, function_moves, function_renames, IsVerdict}
use Rattle.package_changes.proofs.LikenessIsExact.{same-exact, equal-exact, wider-exact, widens-self}

both-true : (a b : Bool) → (a && b) ≡ true → (a ≡ true) × (b ≡ true)
both-true true b h = (refl, h)
both-true false b h = absurd (false≢true h)

true-both : (a b : Bool) → a ≡ true → b ≡ true → (a && b) ≡ true
true-both a b p q = rw (p, q) refl

-- ---- no label of a type is at another place in the type itself

labels-stay : (all ls : List Label) → label_moves all ls ls ≡ false
labels-stay all [] = refl
labels-stay all (l ∷ ls) = rw ((bytes_eq-Decides l l).1 refl) (labels-stay all ls)

and-false : (a b : Bool) → b ≡ false → (a && b) ≡ false
and-false true b h = h
and-false false b h = refl

mutual
  form-stays : (a : Form) → moves a a ≡ false
  form-stays (prim_form p) = refl
  form-stays string_form = refl
  form-stays (node_form s ls ps) = and-false (is_one_family s s) (label_moves ls ls ls || part_moves ps ps) (rw (labels-stay ls ls) (parts-stay ps))

  parts-stay : (ps : Parts) → part_moves ps ps ≡ false
  parts-stay no_part = refl
  parts-stay (bare ps) = parts-stay ps
  parts-stay (part a ps) = rw (form-stays a) (parts-stay ps)

result-stays : (o : Option LabelledType) → of_both (λ t u. moves (form_of t) (form_of u)) o o ≡ false
result-stays None = refl
result-stays (Some t) = form-stays (form_of t)

function-stays : (f : LabelledFunction) → function_moves f f ≡ false
function-stays f = rw (form-stays (form_of f.params)) (result-stays f.result)

-- ---- tests of parameters and results

result-same : (o q : Option LabelledType) → IsTrue (part_likeness o q).same ↔ o ≡ q
unfolding likeness
result-same None None = (λ h. refl, λ h. refl)
result-same None (Some u) = (λ h. absurd (false≢true h), λ h. absurd (cc))
result-same (Some t) None = (λ h. absurd (false≢true h), λ h. absurd (cc))
result-same (Some t) (Some u) = (λ h. ap (λ x. Some x) ((same-exact t u).0 h), λ h. (same-exact t u).1 (cc))

result-equal : (o q : Option LabelledType) → IsTrue (part_likeness o q).equal ↔ OfBoth AreEqual o q
unfolding likeness
result-equal None None = (λ h. tt, λ h. refl)
result-equal None (Some u) = (λ h. absurd (false≢true h), λ h. absurd h)
result-equal (Some t) None = (λ h. absurd (false≢true h), λ h. absurd h)
result-equal (Some t) (Some u) = equal-exact (closed t) (closed u)

result-wider : (o q : Option LabelledType) → IsTrue (part_likeness o q).wider ↔ OfBoth IsWider o q
unfolding likeness
result-wider None None = (λ h. tt, λ h. refl)
result-wider None (Some u) = (λ h. absurd (false≢true h), λ h. absurd h)
result-wider (Some t) None = (λ h. absurd (false≢true h), λ h. absurd h)
result-wider (Some t) (Some u) = wider-exact (closed t) (closed u)

result-moved : (o q : Option LabelledType) → (part_likeness o q).moved ≡ of_both (λ t u. moves (form_of t) (form_of u)) o q
unfolding likeness
result-moved None None = refl
result-moved None (Some u) = refl
result-moved (Some t) None = refl
result-moved (Some t) (Some u) = refl

result-renamed : (o q : Option LabelledType) → (part_likeness o q).renamed ≡ of_both (λ t u. renames (form_of t) (form_of u)) o q
unfolding likeness
result-renamed None None = refl
result-renamed None (Some u) = refl
result-renamed (Some t) None = refl
result-renamed (Some t) (Some u) = refl

result-self : (o : Option LabelledType) → ((part_likeness o o).equal ≡ true) × ((part_likeness o o).wider ≡ true)
unfolding likeness
result-self None = (refl, refl)
result-self (Some t) = ((equal-exact (closed t) (closed t)).1 refl, widens-self (closed t))

-- ---- which tests lead to which verdict

is_there : (t s m w : Bool) → decided t s m w ≡ verdict.Removed → ⊥
is_there false s m w h = absurd (cc)
is_there true true m w h = absurd (cc)
is_there true false true w h = absurd (cc)
is_there true false false true h = absurd (cc)
is_there true false false false h = absurd (cc)

same-of : (t s m w : Bool) → decided t s m w ≡ verdict.Same → (t ≡ true) × (s ≡ true)
same-of false s m w h = absurd (cc)
same-of true true m w h = (refl, refl)
same-of true false true w h = absurd (cc)
same-of true false false true h = absurd (cc)
same-of true false false false h = absurd (cc)

of-same : (t s m w : Bool) → t ≡ true → s ≡ true → decided t s m w ≡ verdict.Same
of-same t s m w p q = rw (p, q) refl

changed-of : (t s m w : Bool) → decided t s m w ≡ verdict.Changed → t ≡ false
changed-of false s m w h = refl
changed-of true true m w h = absurd (cc)
changed-of true false true w h = absurd (cc)
changed-of true false false true h = absurd (cc)
changed-of true false false false h = absurd (cc)

of-changed : (t s m w : Bool) → t ≡ false → decided t s m w ≡ verdict.Changed
of-changed t s m w p = rw p refl

moved-of : (t s m w : Bool) → decided t s m w ≡ verdict.Moved → (t ≡ true) × (m ≡ true)
moved-of false s m w h = absurd (cc)
moved-of true true m w h = absurd (cc)
moved-of true false true w h = (refl, refl)
moved-of true false false true h = absurd (cc)
moved-of true false false false h = absurd (cc)

of-moved : (t s m w : Bool) → t ≡ true → s ≡ false → m ≡ true → decided t s m w ≡ verdict.Moved
of-moved t s m w p q h = rw (p, q, h) refl

wider-of : (t s m w : Bool) → decided t s m w ≡ verdict.Wider → (t ≡ true) × (m ≡ false) × (w ≡ true)
wider-of false s m w h = absurd (cc)
wider-of true true m w h = absurd (cc)
wider-of true false true w h = absurd (cc)
wider-of true false false true h = (refl, refl, refl)
wider-of true false false false h = absurd (cc)

of-wider : (t s m w : Bool) → t ≡ true → s ≡ false → m ≡ false → w ≡ true → decided t s m w ≡ verdict.Wider
of-wider t s m w p q h k = rw (p, q, h, k) refl

neither-of : (e r : Bool) → (not e && not r) ≡ true → (e ≡ false) × (r ≡ false)
neither-of false false h = (refl, refl)
neither-of false true h = absurd (false≢true h)
neither-of true r h = absurd (false≢true h)

of-neither : (e r : Bool) → e ≡ false → r ≡ false → (not e && not r) ≡ true
of-neither e r p q = rw (p, q) refl

not-true : (b : Bool) → (b ≡ true → ⊥) → b ≡ false
not-true false f = refl
not-true true f = absurd (f refl)

not-both : (b : Bool) → b ≡ true → b ≡ false → ⊥
not-both b p q = false≢true (sym q ∙ p)

-- ---- the two functions

module _ (f g : LabelledFunction) where
  abbrev inputs : Likeness
  inputs = likeness f.params g.params

  abbrev output : Likeness
  output = part_likeness f.result g.result

  inputs-equal : IsTrue inputs.equal ↔ AreEqual f.params g.params
  unfolding likeness
  inputs-equal = equal-exact (closed f.params) (closed g.params)

  inputs-wider : IsTrue inputs.wider ↔ IsWider f.params g.params
  unfolding likeness
  inputs-wider = wider-exact (closed f.params) (closed g.params)

  inputs-same : IsTrue inputs.same ↔ f.params ≡ g.params
  unfolding likeness
  inputs-same = same-exact f.params g.params

  inputs-moved : inputs.moved ≡ moves (form_of f.params) (form_of g.params)
  unfolding likeness
  inputs-moved = refl

  inputs-renamed : inputs.renamed ≡ renames (form_of f.params) (form_of g.params)
  unfolding likeness
  inputs-renamed = refl

  together : {A B : Type 0} (a b : Bool) → (IsTrue a ↔ A) → (IsTrue b ↔ B) → IsTrue (a && b) ↔ (A × B)
  together a b x y = (
    λ h. let hs = both-true a b h in (x.0 hs.0, y.0 hs.1),
    λ (p, q). true-both a b (x.1 p) (y.1 q),
  )

  taken-exact : (x : Role) → IsTrue (taken x inputs output) ↔ IsTaken x f g
  taken-exact role.Called = together inputs.wider output.equal inputs-wider (result-equal f.result g.result)
  taken-exact role.Served = together inputs.equal output.wider inputs-equal (result-wider f.result g.result)
  taken-exact role.Both = together inputs.equal output.equal inputs-equal (result-equal f.result g.result)

  same-functions : IsTrue (inputs.same && output.same) ↔ f ≡ g
  same-functions =
      let both = together inputs.same output.same inputs-same (result-same f.result g.result) in (
        λ h. let e = both.0 h in λ i. record { params = e.0 i; result = e.1 i },
        λ e. both.1 (ap (λ (x : LabelledFunction). x.params) e, ap (λ (x : LabelledFunction). x.result) e),
      )

  equal-functions : IsTrue (inputs.equal && output.equal) ↔ AreClosedAlike f g
  equal-functions = together inputs.equal output.equal inputs-equal (result-equal f.result g.result)

  moved-functions : (inputs.moved || output.moved) ≡ function_moves f g
  moved-functions =
      ap (λ b. b || output.moved) inputs-moved ∙ ap (λ b. moves (form_of f.params) (form_of g.params) || b) (result-moved f.result g.result)

  renamed-functions : (inputs.renamed || output.renamed) ≡ function_renames f g
  renamed-functions =
      ap (λ b. b || output.renamed) inputs-renamed ∙ ap (λ b. renames (form_of f.params) (form_of g.params) || b) (result-renamed f.result g.result)

taken-self : (x : Role) (f : LabelledFunction) → IsTaken x f f
taken-self role.Called f = ((wider-exact (closed f.params) (closed f.params)).0 (widens-self (closed f.params)), (result-equal f.result f.result).0 (result-self f.result).0)
taken-self role.Served f = (refl, (result-wider f.result f.result).0 (result-self f.result).1)
taken-self role.Both f = (refl, (result-equal f.result f.result).0 (result-self f.result).0)

ex-self : (f : LabelledFunction) → AreClosedAlike f f
ex-self f = (refl, (result-equal f.result f.result).0 (result-self f.result).0)

pub verdict-exact : (x : Role) (f g : LabelledFunction) → IsVerdict x f g (verdict_of x (likeness f.params g.params) (part_likeness f.result g.result))
verdict-exact x f g =
    let a = likeness f.params g.params in
    let b = part_likeness f.result g.result in
    let t = taken x a b in
    let s = a.same && b.same in
    let m = a.moved || b.moved in
    let e = a.equal && b.equal in
    let r = a.renamed || b.renamed in
    let w = not e && not r in
    let tx = taken-exact f g x in
    let sx = same-functions f g in
    let ex = equal-functions f g in
    let mx = moved-functions f g in
    let rx = renamed-functions f g in
    let of_one : f ≡ g → m ≡ false = λ one. mx ∙ subst (λ h. function_moves f h ≡ false) one (function-stays f) in
    record {
      there = is_there t s m w;
      same = (
        λ h. sx.0 (same-of t s m w h).1,
        λ one. of-same t s m w (tx.1 (subst (IsTaken x f) one (taken-self x f))) (sx.1 one),
      );
      changed = (
        λ h taken_so. not-both t (tx.1 taken_so) (changed-of t s m w h),
        λ never. of-changed t s m w (not-true t (λ h. never (tx.0 h))),
      );
      moved = (
        λ h. let hs = moved-of t s m w h in (tx.0 hs.0, sym mx ∙ hs.1),
        λ (taken_so, moves_so). of-moved t s m w (tx.1 taken_so) (not-true s (λ h. not-both m (mx ∙ moves_so) (of_one (sx.0 h)))) (mx ∙ moves_so),
      );
      wider = (
        λ h. let hs = wider-of t s m w h in
            let ns = neither-of e r hs.2 in
            (tx.0 hs.0, λ alike. not-both e (ex.1 alike) ns.0, sym mx ∙ hs.1, sym rx ∙ ns.1),
        λ (taken_so, not_alike, stays, kept).
            let e_false = not-true e (λ h. not_alike (ex.0 h)) in
            of-wider t s m w (tx.1 taken_so)
            (not-true s (λ h. not_alike (subst (AreClosedAlike f) (sx.0 h) (ex-self f)))) (mx ∙ stays) (of-neither e r e_false (rx ∙ kept)),
      );
    }

-- the tests of two types are exact
pub likeness-exact : (t u : LabelledType) → IsLikeness t u (likeness t u)
unfolding likeness
likeness-exact t u = record {
  same = same-exact t u;
  equal = equal-exact (closed t) (closed u);
  wider = wider-exact (closed t) (closed u);
  moved = refl;
  renamed = refl;
}
