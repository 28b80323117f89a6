-- One input by itself: a set of one package, and why it isn't opened.
use Rattle.std.proofs.Common.{◌≡◌, ◌≢◌, ℕ, Bool, true, false, List, [], ◌∷◌, ◌++◌, length, refl, ap, sym, subst, arith, All}
use Rattle.std.proofs.Math.Logic.{∥∥₁_map}
use Rattle.std.specs.Prelude.{MatchBool}
use Rattle.atoms.specs.Label.{IsLabel}
use Rattle.package_text.specs.Writable.{package_labels}
use Rattle.std.proofs.lemmas.List.{length-append}
use Rattle.layout.specs.Layout.{AreWithin}
use Rattle.layout.specs.declared.error.LayoutError.{LayoutError}
use Rattle.package_adding.proofs.PackagesAddedAlone.{is-set, file-alone, component-alone, file-writable, component-writable, file-behind, file-added, component-added, file-refused, component-refused}
use Rattle.package_sets.specs.SetForm.{IsEmpty}
use Rattle.tables.specs.declared.error.ResolveError.{ResolveError}
use Rattle.tables.specs.declared.error.ResolveError.TheVariants as cause
use Rattle.tables.specs.declared.tables.Resolve.{Resolve}
use Rattle.tree_meaning.proofs.FilesThatStandAlone.{empty}
use Rattle.wit_text.specs.Laws.{HasFullNames}
use Rattle.opening.specs.Alone.{IsOfText, IsOfBinary, IsOfBytes, OpensAlone, TextIsRefused, BinaryIsRefused, AloneRefuses}
use Rattle.opening.specs.Opening.{IsOpened, OpenRefuses}
use Rattle.opening.specs.Sets.{is_binary, IsOfTextBehind, IsBinaryOf, AddsMember, IsSetOf, FirstRefused, MemberRefuses, TextNotAdded, BinaryNotAdded}
use Rattle.opening.specs.declared.package.OpenError.{OpenError}
use Rattle.opening.specs.declared.package.OpenError.TheVariants as error
use Rattle.opening.proofs.OneInputAdded.{as-binary, as-text}

-- ---- what is opened

module _ (none : Resolve) (e : IsEmpty none) (bytes : List ℕ) (closed r : Resolve) (m : AddsMember none bytes closed r) where
  same : closed ≡ r
  same = is-set none e closed r m.puts.id m.puts.attached m.puts.behind (∥∥₁_map m.puts.writable (λ w. w.form))

  pub by-itself : ∥ IsOfBytes bytes r ∥₁
  by-itself = ∥∥₁_map m.puts.writable (λ w. by (subst (λ (x : Resolve). All IsLabel (package_labels x)) same w.labels) (is_binary bytes) m.member)
    where
      by : All IsLabel (package_labels r) → (b : Bool) → MatchBool b (IsBinaryOf bytes closed) (IsOfTextBehind none bytes closed) → MatchBool b (IsOfBinary bytes r) (IsOfText bytes r)
      by labels true x = record {
        raw = x.raw;
        spelt = x.spelt;
        alone = component-alone none e x.raw closed r m.puts.id (record { component = x.component; behind = m.puts.behind; attached = m.puts.attached }) labels;
      }
      by labels false t = record {
        utf8 = t.utf8;
        file = t.file;
        read = t.read;
        alone = file-alone none e t.file closed r m.puts.id (record { tree = t.tree; attached = m.puts.attached }) m.puts.behind m.puts.writable t.fits labels;
      }

-- ---- what can be opened

empty-is : IsEmpty empty
unfolding empty
empty-is = record { packages = refl; interfaces = refl; worlds = refl; definitions = refl }

module _ (bytes : List ℕ) (r : Resolve) (full : HasFullNames bytes) where
  member : (b : Bool) → is_binary bytes ≡ b → MatchBool b (IsOfBinary bytes r) (IsOfText bytes r) → AddsMember empty bytes r r
  member true is x =
      let a = component-added empty empty-is x.raw r x.alone in
      record {
        member = as-binary bytes (IsBinaryOf bytes r) (IsOfTextBehind empty bytes r) is (record { raw = x.raw; spelt = x.spelt; component = a.component });
        puts = record { writable = component-writable empty empty-is x.raw r x.alone; behind = a.behind; id = 0; attached = a.attached };
      }
  member false is t =
      let named = full t.file t.read in
      let a = file-added empty empty-is t.file r named t.alone in
      record {
        member = as-text bytes (IsBinaryOf bytes r) (IsOfTextBehind empty bytes r) is (record { utf8 = t.utf8; file = t.file; read = t.read; fits = t.alone.fits; tree = a.tree });
        puts = record { writable = file-writable empty empty-is t.file r named t.alone; behind = file-behind empty empty-is t.file r t.alone; id = 0; attached = a.attached };
      }

  opens : IsOfBytes bytes r → AreWithin r → IsOpened (bytes ∷ []) r
  opens h w = record { set = record { none = empty; empty = empty-is; adds = (r, r, member (is_binary bytes) refl h, refl) }; within = w }

of-set : (bytes : List ℕ) (r : Resolve) → IsSetOf (bytes ∷ []) r → ∥ IsOfBytes bytes r ∥₁
of-set bytes r set = let (closed, next, m, e) = set.adds in by-itself set.none set.empty bytes closed r (subst (AddsMember set.none bytes closed) e m)

pub opens-alone : (bytes : List ℕ) (r : Resolve) → HasFullNames bytes → OpensAlone bytes r
opens-alone bytes r full = record { by_itself = λ h. of-set bytes r h.set; opened = opens bytes r full }

-- ---- refusals

-- a list of one in two parts
only-one : {A : Type 0} (x y : A) (xs ys : List A) → x ∷ [] ≡ xs ++ y ∷ ys → (xs ≡ []) × (x ≡ y)
only-one x y [] ys e = (refl, cc)
only-one x y (z ∷ xs) ys e = absurd (omega (arith, ap length e, length-append xs (y ∷ ys)))

module _ (set : Resolve) (e : IsEmpty set) (bytes : List ℕ) where
  refused : (x : ResolveError) (b : Bool) → MatchBool b (BinaryNotAdded set bytes x) (TextNotAdded set bytes x) → MatchBool b (BinaryIsRefused bytes x) (TextIsRefused bytes x)
  refused x true (raw, spelt, h) = (raw, spelt, component-refused set e raw x h)
  refused x false (utf8, f, read, h) = (utf8, f, read, file-refused set e f x h)

  member-refused : (x : OpenError) → MemberRefuses set bytes x → ((y : LayoutError) → x ≢ error.Layout y) → AloneRefuses bytes x
  member-refused (error.Layout y) h other = absurd (other y refl)
  member-refused (error.Resolve cause.SetLimit) h other = absurd (h (omega (arith, ap length e.packages)))
  member-refused (error.Resolve (cause.SamePackage p)) h other = refused (cause.SamePackage p) (is_binary bytes) h.1
  member-refused (error.Resolve (cause.NoPackage p)) h other = refused (cause.NoPackage p) (is_binary bytes) h.1
  member-refused (error.Resolve (cause.Duplicate n)) h other = refused (cause.Duplicate n) (is_binary bytes) h.1
  member-refused (error.Resolve (cause.Unknown n)) h other = refused (cause.Unknown n) (is_binary bytes) h.1
  member-refused (error.Resolve cause.Cycle) h other = refused cause.Cycle (is_binary bytes) h.1
  member-refused (error.Resolve cause.EmptyPackage) h other = refused cause.EmptyPackage (is_binary bytes) h.1
  member-refused (error.Resolve cause.NotThisShape) h other = refused cause.NotThisShape (is_binary bytes) h.1
  member-refused (error.Resolve cause.Limit) h other = refused cause.Limit (is_binary bytes) h.1
  member-refused (error.Resolve cause.NoMemory) h other = refused cause.NoMemory (is_binary bytes) h.1
  member-refused (error.Text y) h other = h.1
  member-refused (error.Binary y) h other = h.1
  member-refused (error.NotUtf8 n) h other = h.1
  member-refused (error.Read n) h other = h.1
  member-refused error.NoMemory h other = h.1

first-refused : (bytes : List ℕ) (x : OpenError) → FirstRefused (bytes ∷ []) x → ((y : LayoutError) → x ≢ error.Layout y) → AloneRefuses bytes x
first-refused bytes x h other =
    let one = only-one bytes h.bytes h.earlier h.rest h.inputs_are in
    let made = subst (λ (xs : List (List ℕ)). IsSetOf xs h.set) one.0 h.made in
    member-refused h.set (subst IsEmpty made.adds made.empty) bytes x (subst (λ (b : List ℕ). MemberRefuses h.set b x) (sym one.1) h.refuses) other

pub refuses-alone : (bytes : List ℕ) (x : OpenError) → OpenRefuses (bytes ∷ []) x → AloneRefuses bytes x
refuses-alone bytes (error.Layout y) (r, set, h) = (r, of-set bytes r set, h)
refuses-alone bytes (error.Resolve y) h = first-refused bytes (error.Resolve y) h (λ z q. absurd (cc))
refuses-alone bytes (error.Text y) h = first-refused bytes (error.Text y) h (λ z q. absurd (cc))
refuses-alone bytes (error.Binary y) h = first-refused bytes (error.Binary y) h (λ z q. absurd (cc))
refuses-alone bytes (error.NotUtf8 n) h = first-refused bytes (error.NotUtf8 n) h (λ z q. absurd (cc))
refuses-alone bytes (error.Read n) h = first-refused bytes (error.Read n) h (λ z q. absurd (cc))
refuses-alone bytes error.NoMemory h = first-refused bytes error.NoMemory h (λ z q. absurd (cc))
