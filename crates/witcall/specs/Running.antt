-- What a job makes of a whole input, and why it is not done.
use Rattle.std.specs.Prelude.{◌≡◌, ◌⊎◌, ◌++◌, ◌∷◌, [], ℕ, List, map, Option}
use Rattle.std.specs.Global.{Vec}
use Rattle.atoms.specs.Streams.{ReadsUpTo}
use Rattle.ctype_format.specs.declared.error.BinError.TheVariants as binary
use Rattle.tables.specs.declared.tables.Resolve.{Resolve}
use Rattle.overview.specs.Contents.{shown}
use Rattle.overview.specs.LayoutLines.{laid_out}
use Rattle.wit_tokens.specs.declared.error.TextError.TheVariants as text
use Rattle.opening.specs.Opening.{IsOpened, AreBytesOf, IsCanonicalText, IsWrittenAs, IsTooLong, IsLongText, OpenRefuses}
use Rattle.opening.specs.declared.package.OpenError.{OpenError}
use Rattle.opening.specs.declared.package.OpenError.TheVariants as opening
use Rattle.witcall.specs.declared.refused.Refused.{Refused}
use Rattle.witcall.specs.declared.refused.Refused.TheVariants as refused
use Rattle.words.specs.declared.asked.Job.{Job}
use Rattle.words.specs.declared.asked.Job.TheVariants.{Show, Bin, Text, Layout}

-- What a job makes of a set: the last package's overview, its binary, the shortest, its canonical text, or its layouts.
abbrev pub IsOutputOfJob : Job → Resolve → List ℕ → Type 0
IsOutputOfJob Show r output = output ≡ shown r
IsOutputOfJob Bin r output = ∥ IsWrittenAs output r ∥₁ × AreBytesOf r output
IsOutputOfJob Text r output = IsCanonicalText r output
IsOutputOfJob Layout r output = output ≡ laid_out r

-- the first bytes of a reader, up to the limit and one more, are opened behind these packages
pub record ReadsInput (earlier : List (List ℕ)) (known : Option (List ℕ)) (r : Resolve) : Type 0 where
  pub bytes : List ℕ
  pub read : ReadsUpTo 1048576 known bytes
  pub opened : IsOpened (earlier ++ bytes ∷ []) r

-- the bytes of a reader are opened after these packages, and the job makes this output of the set
abbrev pub MakesOutput : List (List ℕ) → Option (List ℕ) → Job → List ℕ → Type 0
MakesOutput earlier known job output = (r : Resolve) × ReadsInput earlier known r × IsOutputOfJob job r output

-- the reader failed, or memory was wanting for what it gave
abbrev pub IsReadFault : OpenError → Type 0
IsReadFault e = ((n : ℕ) × (e ≡ opening.Read n)) ⊎ (e ≡ opening.NoMemory)

-- why a job makes nothing of a set
abbrev pub MakingRefuses : Job → Resolve → Refused → Type 0
MakingRefuses job r (refused.Binary e) = (job ≡ Bin) × ((e ≡ binary.NoMemory) ⊎ IsTooLong r e)
MakingRefuses job r (refused.Text e) = (job ≡ Text) × ((e ≡ text.NoMemory) ⊎ IsLongText r e)
MakingRefuses job r refused.NoMemory = (job ≡ Show) ⊎ (job ≡ Layout)
MakingRefuses job r _ = ⊥

-- the bytes of a reader are opened after these packages, and the job makes nothing of the set, for this reason
abbrev pub MakesNothing : List (List ℕ) → Option (List ℕ) → Job → Refused → Type 0
MakesNothing earlier known job e = (r : Resolve) × ReadsInput earlier known r × MakingRefuses job r e

-- why a job is not done with the bytes of a reader, behind these packages
abbrev pub RunRefuses : List (List ℕ) → Option (List ℕ) → Job → Refused → Type 0
RunRefuses earlier known job (refused.Open e) = IsReadFault e ⊎ ((bytes : List ℕ) × ReadsUpTo 1048576 known bytes × OpenRefuses (earlier ++ bytes ∷ []) e)
RunRefuses earlier known job (refused.Binary e) = MakesNothing earlier known job (refused.Binary e)
RunRefuses earlier known job (refused.Text e) = MakesNothing earlier known job (refused.Text e)
RunRefuses earlier known job refused.NoMemory = MakesNothing earlier known job refused.NoMemory
RunRefuses earlier known job refused.Write = (output : List ℕ) × MakesOutput earlier known job output
RunRefuses earlier known job _ = ⊥

-- ---- earlier packages

-- the bytes of all inputs, in order
abbrev pub all_items : List (Vec ℕ) → List (List ℕ)
all_items inputs = map (λ v. v.items) inputs
