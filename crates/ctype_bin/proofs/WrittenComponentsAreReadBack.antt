-- What is read of a written component: it is that component, or its parts are wrong.
use Rattle.std.proofs.Common.{◌≡◌, List, ℕ, [], Result, Ok, Err, refl, sym, ap, subst, ◌∙◌}
use Rattle.ctype_format.specs.declared.error.Fault.{Fault}
use Rattle.ctype_format.specs.declared.error.Stuck.{Stuck}
use Rattle.ctype_format.specs.declared.error.Stuck.TheVariants.{End, At, Past}
use Rattle.ctype_format.specs.declared.error.BinError.{BinError}
use Rattle.ctype_format.specs.declared.error.BinError.TheVariants as errors
use Rattle.ctype_format.specs.declared.error.ItemError.{ItemError}
use Rattle.ctype_format.specs.declared.error.ItemError.TheVariants as items
use Rattle.ctype_format.specs.Bytes.{Stops}
use Rattle.ctype_format.specs.Raw.{BinaryFile}
use Rattle.ctype_format.specs.File.{component_file}
use Rattle.ctype_bin.specs.Exactness.{IsBytes}
use Rattle.ctype_format.specs.Writing.{file_bytes}
use Rattle.ctype_bin.specs.Spellable.{IsSpellable}
use Rattle.ctype_format.specs.Formed.{FormedFile}
use Rattle.ctype_bin.specs.Parts.{IsWrong, ComponentRefuses}
use Rattle.ctype_bin.specs.Accepted.{IsAccepted}
use Rattle.ctype_bin.proofs.DecodesByProductions.{spellable, read_all}
use Rattle.ctype_bin.proofs.ReadsExactly.Files.{exact-file}
use Rattle.ctype_bin.proofs.RereadAsWritten.Combinators.{Again}
use Rattle.ctype_bin.proofs.RereadAsWritten.Files.{reread-file}
use Rattle.ctype_bin.proofs.RewrittenIsSpelt.Files.{file_rewritten}
use Rattle.ctype_bin.proofs.AcceptedIsSpelt.Files.{file_spelt}

abbrev stuck_at : Stuck → Result (BinaryFile × List ℕ) Stuck
stuck_at s = Err s

-- a function that was stopped so was stopped by that fault
pub stopped_at : (e : ItemError) (s t : Stuck) (r : Result (BinaryFile × List ℕ) Stuck) → e ≡ items.Stuck s → s ≡ t → Stops e r → r ≡ Err t
stopped_at e s t r is same h = subst (λ (d : ItemError). Stops d r) is h ∙ ap stuck_at same

module _ (f : BinaryFile) (bytes : List ℕ) (written : bytes ≡ file_bytes f) (formed : FormedFile f) where
  again : Again (FormedFile f) (λ y. y ≡ f) [] (component_file.read bytes)
  again = subst (λ (l : List ℕ). Again (FormedFile f) (λ y. y ≡ f) [] (component_file.read l)) (sym written) (reread-file (FormedFile f) f (λ h. h))

  pub made : (g : BinaryFile) → IsBytes bytes → component_file.read bytes ≡ Ok (g, []) → IsSpellable f
  made g fits e =
      let h : Again (FormedFile f) (λ y. y ≡ f) [] (Ok (g, [])) = subst (λ (r : Result (BinaryFile × List ℕ) Stuck). Again (FormedFile f) (λ y. y ≡ f) [] r) e again in
      subst IsSpellable h.0 (spellable bytes g fits e)

  met : (s : Stuck) → component_file.read bytes ≡ Err s → Again (FormedFile f) (λ y. y ≡ f) [] (stuck_at s)
  met s e = subst (λ (r : Result (BinaryFile × List ℕ) Stuck). Again (FormedFile f) (λ y. y ≡ f) [] r) e again

  pub no_end : component_file.read bytes ≡ Err End → ⊥
  no_end e = met End e

  pub no_past : (n : ℕ) → component_file.read bytes ≡ Err (Past n) → ⊥
  no_past n e = met (Past n) e

  pub unspellable : (s : Stuck) → component_file.read bytes ≡ Err s → IsSpellable f → ⊥
  unspellable s e h =
      let k : stuck_at s ≡ Ok (f, []) = sym e ∙ ap (λ (l : List ℕ). component_file.read l) written ∙ read_all (file_bytes f) f (file_rewritten h.0 f h.1) in
      cc

  pub wrong : (fault : Fault) (left : ℕ) → IsBytes bytes → component_file.read bytes ≡ Err (At fault left) → IsWrong f fault
  wrong fault left fits e =
      record {
        unspellable = unspellable (At fault left) e;
        left = left;
        read = ap (λ (l : List ℕ). component_file.read l) (sym written) ∙ e;
        first = subst (λ (l : List ℕ). component_file.fails l (At fault left)) written (exact-file.faulty bytes (At fault left) fits e);
        kind = met (At fault left) e formed;
      }

-- accepted parts are refused for want of memory alone
pub only_memory : (f : BinaryFile) (e : BinError) → FormedFile f → IsAccepted f → ComponentRefuses f e → e ≡ errors.NoMemory
only_memory f (errors.At fault place) formed accepted h = absurd (h.1.unspellable (file_bytes f, file_spelt f formed accepted))
only_memory f (errors.Read place) formed accepted h = absurd h
only_memory f errors.NoMemory formed accepted h = refl
