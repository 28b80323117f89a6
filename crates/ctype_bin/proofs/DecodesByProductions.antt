-- What decoding answers, in the terms of the productions.
use Rattle.std.proofs.Common.{◌≡◌, inl, inr, ℕ, zero, suc, ◌<◌, ◌≤◌, List, [], ◌∷◌, ◌++◌, Option, Some, None, length, Result, Ok, Err, refl, sym, ap, subst, ◌∙◌, arith}
use Rattle.std.specs.Prelude.{IfOk, IfErr, MatchResult}
use Rattle.std.proofs.lemmas.Bool.{cases_lt, lt-ltb, le-ltb}
use Rattle.std.proofs.lemmas.List.{append-nil}
use Rattle.atoms.specs.Production.{at_end, read_end, unless_some}
use Rattle.atoms.proofs.productions.ProductionsReadExactly.{after_ok, no_ok, no_err, one-fault}
use Rattle.ctype_format.specs.declared.error.Fault.{Fault}
use Rattle.ctype_format.specs.declared.error.Fault.TheVariants.{Limit}
use Rattle.ctype_format.specs.declared.error.Stuck.{Stuck}
use Rattle.ctype_format.specs.declared.error.Stuck.TheVariants.{Past}
use Rattle.ctype_format.specs.Bytes.{sized, ended}
use Rattle.ctype_format.specs.declared.error.BinError.{BinError}
use Rattle.ctype_format.specs.declared.error.BinError.TheVariants as errors
use Rattle.ctype_format.specs.Raw.{BinaryFile}
use Rattle.ctype_bin.specs.Exactness.{IsBytes, within}
use Rattle.ctype_format.specs.File.{component_file, exactly, preamble, section, type_section, export_section, trailing, trailing_fault, custom_next, decoded, max_length, fault_placed, at_place, FaultyBinary, Decodes}
use Rattle.ctype_format.specs.Writing.{file_bytes}
use Rattle.ctype_bin.specs.Spellable.{IsSpellable}
use Rattle.ctype_bin.specs.Encoding.{AppendsSpelling}
use Rattle.ctype_bin.proofs.ReadsExactly.Files.{exact-file}
use Rattle.ctype_bin.proofs.RewrittenIsSpelt.Files.{file_rewritten}

abbrev done : BinaryFile → Result BinaryFile BinError
done f = Ok f

abbrev failed : BinError → Result BinaryFile BinError
failed e = Err e

abbrev stuck_ok : {X : Type 0} → X × List ℕ → Result (X × List ℕ) Stuck
stuck_ok x = Ok x

ok_is : (f g : BinaryFile) → done f ≡ done g → f ≡ g
ok_is f g e = cc

err_is : (d e : BinError) → failed d ≡ failed e → d ≡ e
err_is d e h = cc

long_is : (bytes : List ℕ) → max_length < length bytes → decoded bytes ≡ Err (errors.At Limit max_length)
unfolding decoded
long_is bytes lt = rw (lt-ltb max_length (length bytes) lt) refl

short_is : (bytes : List ℕ) → length bytes ≤ max_length → decoded bytes ≡ at_place (length bytes) (component_file.read bytes)
unfolding decoded
short_is bytes le = rw (le-ltb max_length (length bytes) le) refl

-- ---- a file is read to the end

same_rest : {X : Type 0} (x y : X × List ℕ) → stuck_ok x ≡ stuck_ok y → x.1 ≡ y.1
same_rest x y e = cc

end_all : (bytes : List ℕ) (x : ℕ) (rest : List ℕ) → read_end trailing_fault bytes ≡ Ok (x, rest) → rest ≡ []
end_all [] x rest e = sym (same_rest (0, []) (x, rest) e)
end_all (b ∷ bs) x rest e = absurd (no_ok (x, rest) (trailing_fault (b ∷ bs)) e)

trailing_all : (n : ℕ) (bytes : List ℕ) (x : ℕ) (rest : List ℕ) → (trailing n).read bytes ≡ Ok (x, rest) → rest ≡ []
unfolding trailing
trailing_all zero bytes x rest e = absurd (no_ok (x, rest) (ended bytes) e)
trailing_all (suc n) bytes x rest e =
    let a = after_ok (custom_next.read bytes) (λ y. (unless_some y.0 (trailing n) (at_end trailing_fault)).read y.1) (x, rest) e in
    by a.0.0 a.0.1 a.2 (trailing_all n a.0.1 x rest)
  where
    by : (o : Option ℕ) (more : List ℕ) → (unless_some o (trailing n) (at_end trailing_fault)).read more ≡ Ok (x, rest) → ((trailing n).read more ≡ Ok (x, rest) → rest ≡ []) → rest ≡ []
    by None more h again = end_all more x rest h
    by (Some y) more h again = again h

file_all : (bytes : List ℕ) (f : BinaryFile) (rest : List ℕ) → component_file.read bytes ≡ Ok (f, rest) → rest ≡ []
unfolding component_file
file_all bytes f rest e =
    let a = after_ok ((exactly preamble).read bytes) _ (f, rest) e in
    let b = after_ok ((section 7 max_length).read a.0.1) _ (f, rest) a.2 in
    let c = after_ok ((sized Past b.0.0 type_section).read b.0.1) _ (f, rest) b.2 in
    let d = after_ok ((section 11 max_length).read c.0.1) _ (f, rest) c.2 in
    let g = after_ok ((sized Past d.0.0 (export_section c.0.0.1.types)).read d.0.1) _ (f, rest) d.2 in
    let h = after_ok ((trailing max_length).read g.0.1) _ (f, rest) g.2 in
    sym (same_rest (record { types = c.0.0.0; exports = g.0.0 }, h.0.1) (f, rest) h.2) ∙ trailing_all max_length g.0.1 h.0.0 h.0.1 h.1

-- ---- a component

spelt_all : (bytes : List ℕ) (f : BinaryFile) (rest : List ℕ) → IsBytes bytes → component_file.read bytes ≡ Ok (f, rest) → component_file.spells bytes f
spelt_all bytes f rest fits e =
    let t = exact-file.sound bytes f rest fits e in
    let none : rest ≡ [] = file_all bytes f rest e in
    subst (λ (u : List ℕ). component_file.spells u f) (sym (t.parts ∙ ap (λ (r : List ℕ). t.text ++ r) none ∙ append-nil t.text)) t.spelt

pub read_all : (bytes : List ℕ) (f : BinaryFile) → component_file.spells bytes f → component_file.read bytes ≡ Ok (f, [])
read_all bytes f s = ap (λ (t : List ℕ). component_file.read t) (sym (append-nil bytes)) ∙ exact-file.complete bytes [] f s refl

pub spellable : (bytes : List ℕ) (f : BinaryFile) → IsBytes bytes → component_file.read bytes ≡ Ok (f, []) → IsSpellable f
spellable bytes f fits e = (bytes, spelt_all bytes f [] fits e)

decoded_spelt : (bytes : List ℕ) (f : BinaryFile) → IsBytes bytes → decoded bytes ≡ Ok f → (length bytes ≤ max_length) × component_file.spells bytes f
decoded_spelt bytes f fits e =
    elim (cases_lt max_length (length bytes)) [
      | inl lt ↦ absurd (let h : failed (errors.At Limit max_length) ≡ done f = sym (long_is bytes lt) ∙ e in cc)
      | inr le ↦ (le, by (component_file.read bytes) refl (sym (short_is bytes le) ∙ e))
    ]
  where
    by : (r : Result (BinaryFile × List ℕ) Stuck) → component_file.read bytes ≡ r → at_place (length bytes) r ≡ Ok f → component_file.spells bytes f
    by (Ok x) is h = spelt_all bytes f x.1 fits (is ∙ ap (λ (g : BinaryFile). stuck_ok (g, x.1)) (ok_is x.0 f h))
    by (Err d) is h = absurd (let k : failed (fault_placed (length bytes) d) ≡ done f = h in cc)

pub spelt_decoded : (bytes : List ℕ) (f : BinaryFile) → length bytes ≤ max_length → component_file.spells bytes f → decoded bytes ≡ Ok f
spelt_decoded bytes f le s = short_is bytes le ∙ ap (at_place (length bytes)) (read_all bytes f s)

-- ---- a fault

decoded_faulty : (bytes : List ℕ) (fault : Fault) (place : ℕ) → IsBytes bytes → decoded bytes ≡ Err (errors.At fault place) → FaultyBinary bytes (errors.At fault place)
decoded_faulty bytes fault place fits e =
    elim (cases_lt max_length (length bytes)) [
      | inl lt ↦ let is = limit_is fault place (err_is (errors.At Limit max_length) (errors.At fault place) (sym (long_is bytes lt) ∙ e)) in inl (lt, is.0, is.1)
      | inr le ↦ inr (le, by (component_file.read bytes) refl (sym (short_is bytes le) ∙ e))
    ]
  where
    limit_is : (fault : Fault) (place : ℕ) → errors.At Limit max_length ≡ errors.At fault place → (fault ≡ Limit) × (place ≡ max_length)
    limit_is fault place h = (let k : Limit ≡ fault = cc in sym k, let k : max_length ≡ place = cc in sym k)

    by : (r : Result (BinaryFile × List ℕ) Stuck) → component_file.read bytes ≡ r → at_place (length bytes) r ≡ Err (errors.At fault place) → (stuck : Stuck) × component_file.fails bytes stuck × (fault_placed (length bytes) stuck ≡ errors.At fault place)
    by (Ok x) is h = absurd (let k : done x.0 ≡ failed (errors.At fault place) = h in cc)
    by (Err d) is h = (d, exact-file.faulty bytes d fits is, err_is (fault_placed (length bytes) d) (errors.At fault place) h)

-- ---- the first fault is the only one

two_parts : (f g : Fault) (m n : ℕ) → errors.At f m ≡ errors.At g n → (f ≡ g) × (m ≡ n)
two_parts f g m n h = (cc, cc)

pub only_fault : (bytes : List ℕ) (f g : Fault) (m n : ℕ) → IsBytes bytes → FaultyBinary bytes (errors.At f m) → FaultyBinary bytes (errors.At g n) → (f ≡ g) × (m ≡ n)
only_fault bytes f g m n fits (inl this) (inl that) = (this.1 ∙ sym that.1, this.2 ∙ sym that.2)
only_fault bytes f g m n fits (inl this) (inr that) = absurd (omega (arith, this.0, that.0))
only_fault bytes f g m n fits (inr this) (inl that) = absurd (omega (arith, this.0, that.0))
only_fault bytes f g m n fits (inr (short, (s, here, is))) (inr (short', (t, there, is'))) =
    two_parts f g m n (sym is ∙ ap (fault_placed (length bytes)) (one-fault within component_file exact-file bytes s t fits here there) ∙ is')

pub spelt_faultless : (bytes : List ℕ) (x : BinaryFile) (f : Fault) (n : ℕ) → IsBytes bytes → length bytes ≤ max_length → component_file.spells bytes x → FaultyBinary bytes (errors.At f n) → ⊥
spelt_faultless bytes x f n fits short spelt (inl long) = omega (arith, short, long.0)
spelt_faultless bytes x f n fits short spelt (inr (le, (s, fails, is))) = no_err (x, []) s (sym (read_all bytes x spelt) ∙ exact-file.met bytes s fits fails)

-- ---- what `Decodes` says

module _ {X : Type 0} (view : X → BinaryFile) (bytes : List ℕ) where
  pub all_spelt : IsBytes bytes → (r : Result X BinError) → Decodes view r bytes → IfOk r (λ c. (length bytes ≤ max_length) × component_file.spells bytes (view c))
  all_spelt fits (Ok c) h = decoded_spelt bytes (view c) fits h
  all_spelt fits (Err e) h = tt

  pub only_those : (r : Result X BinError) → Decodes view r bytes → (f : BinaryFile) → length bytes ≤ max_length → component_file.spells bytes f → MatchResult r (λ c. view c ≡ f) (λ e. e ≡ errors.NoMemory)
  only_those (Ok c) h f le s = ok_is (view c) f (sym h ∙ spelt_decoded bytes f le s)
  only_those (Err (errors.At fault place)) h f le s = absurd (let k : failed (errors.At fault place) ≡ done f = sym h ∙ spelt_decoded bytes f le s in cc)
  only_those (Err (errors.Read place)) h f le s = absurd h
  only_those (Err errors.NoMemory) h f le s = refl

  pub all_faulty : IsBytes bytes → (r : Result X BinError) → Decodes view r bytes → IfErr r (λ e. FaultyBinary bytes e)
  all_faulty fits (Ok c) h = tt
  all_faulty fits (Err (errors.At fault place)) h = decoded_faulty bytes fault place fits h
  all_faulty fits (Err (errors.Read place)) h = absurd h
  all_faulty fits (Err errors.NoMemory) h = tt

-- ---- what is written of what is spellable

pub written_bytes : (f : BinaryFile) → IsSpellable f → (old new : List ℕ) → new ≡ old ++ file_bytes f → AppendsSpelling old new f
written_bytes f s old new h =
    let spelt = file_rewritten s.0 f s.1 in
    record { bytes = file_bytes f; appended = h; spelt = spelt; decodes = λ le. spelt_decoded (file_bytes f) f le spelt }
