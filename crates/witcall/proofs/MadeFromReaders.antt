-- What the job of a reader's bytes makes.
use Rattle.std.proofs.Common.{◌≡◌, ◌++◌, ◌∷◌, [], ℕ, List, Option, inr, sym, subst}
use Rattle.atoms.specs.Streams.{ReadsUpTo}
use Rattle.tables.specs.declared.tables.Resolve.{Resolve}
use Rattle.words.specs.declared.asked.Job.{Job}
use Rattle.witcall.specs.Running.{IsOutputOfJob, ReadsInput, MakesOutput, MakesNothing, MakingRefuses, RunRefuses}
use Rattle.opening.specs.Opening.{IsOpened, OpenRefuses}
use Rattle.opening.specs.declared.package.OpenError.{OpenError}
use Rattle.witcall.specs.declared.refused.Refused.{Refused}
use Rattle.witcall.specs.declared.refused.Refused.TheVariants as refused

-- the bytes that were read are those that were opened
module _ (earlier : List (List ℕ)) (known : Option (List ℕ)) (job : Job) (bytes given : List ℕ) (read : ReadsUpTo 1048576 known bytes) (same : given ≡ bytes) where
  pub refuses-opening : (e : OpenError) → OpenRefuses (earlier ++ given ∷ []) e → RunRefuses earlier known job (refused.Open e)
  refuses-opening e refused = inr (bytes, read, subst (λ xs. OpenRefuses (earlier ++ xs ∷ []) e) same refused)

  module _ (r : Resolve) (opened : IsOpened (earlier ++ given ∷ []) r) where
    reads : ReadsInput earlier known r
    reads = record { bytes = bytes; read = read; opened = subst (λ xs. IsOpened (earlier ++ xs ∷ []) r) same opened }

    pub makes : (output written : List ℕ) → IsOutputOfJob job r output → written ≡ output → MakesOutput earlier known job written
    makes output written made same_output = (r, reads, subst (λ xs. IsOutputOfJob job r xs) (sym same_output) made)

    makes-nothing : (e : Refused) → MakingRefuses job r e → MakesNothing earlier known job e
    makes-nothing e cause = (r, reads, cause)

    pub refuses-making : (e : Refused) → MakingRefuses job r e → RunRefuses earlier known job e
    refuses-making (refused.Words e) cause = absurd cause
    refuses-making refused.File cause = absurd cause
    refuses-making (refused.Open e) cause = absurd cause
    refuses-making (refused.Binary e) cause = makes-nothing (refused.Binary e) cause
    refuses-making (refused.Text e) cause = makes-nothing (refused.Text e) cause
    refuses-making refused.NoFunction cause = absurd cause
    refuses-making (refused.Json e) cause = absurd cause
    refuses-making (refused.Memory e) cause = absurd cause
    refuses-making (refused.Trap e) cause = absurd cause
    refuses-making refused.Write cause = absurd cause
    refuses-making refused.NoMemory cause = makes-nothing refused.NoMemory cause
