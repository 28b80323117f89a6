-- A package that is opened of one input stands alone; what is written of the last package opens as it.
use Rattle.std.proofs.Common.{List, ℕ, [], ◌∷◌, ◌++◌, Result, Ok, Err, IfOk}
use Rattle.std.proofs.Math.Logic.{∥∥₁_map₂}
use Rattle.package_form.specs.Closed.{IsAlone}
use Rattle.package_text.specs.Laws.{IsTextOfClosed, NestsAsText}
use Rattle.tables.specs.declared.tables.Resolve.{Resolve}
use Rattle.opening.specs.Opening.{IsOpened, IsWrittenAs, IsPrintedAs}
use Rattle.opening.specs.declared.package.OpenError.{OpenError}
use Rattle.opening.specs.declared.package.Package.{Package}
use Rattle.opening.proofs.OpensBehindPackages.{count-packages, is-in-tower, rewritten, reprinted}
use Rattle.opening.proofs.SetsAreOne.{set-more, last-of}

pub alone : (bytes : List ℕ) (answer : Result Package OpenError) → IfOk answer (λ p. IsOpened (bytes ∷ []) p.resolve) → IfOk answer (λ p. IsAlone p.resolve)
alone bytes (Ok p) h = count-packages (bytes ∷ []) p.resolve h.set
alone bytes (Err e) h = h

module _ (earlier : List (List ℕ)) (last bytes : List ℕ) (r : Resolve) (h : IsOpened (earlier ++ last ∷ []) r) where
  pub opens-written : IsWrittenAs bytes r → ∥ IsOpened (earlier ++ bytes ∷ []) r ∥₁
  opens-written w =
      let l = last-of earlier last r h.set in
      ∥∥₁_map₂ (is-in-tower earlier l.set l.made) l.adds.puts.writable (λ tower writable. record {
        set = set-more earlier bytes l.set w.closed r l.made (rewritten l.set l.closed r last bytes l.adds tower writable w);
        within = h.within;
      })

  pub opens-printed : ((r imports : Resolve) → IsTextOfClosed r imports) → ((r : Resolve) → NestsAsText r) → IsPrintedAs bytes r → ∥ IsOpened (earlier ++ bytes ∷ []) r ∥₁
  opens-printed texts nests w =
      let l = last-of earlier last r h.set in
      ∥∥₁_map₂ (is-in-tower earlier l.set l.made) l.adds.puts.writable (λ tower writable. record {
        set = set-more earlier bytes l.set w.closed r l.made (reprinted l.set l.closed r last bytes l.adds tower writable texts nests w);
        within = h.within;
      })
