-- Words that are taken, and words that are not.
use Rattle.std.proofs.Common.{◌≡◌, [], ◌∷◌, false, codes, refl, inl, inr}
use Rattle.clap.specs.Takes.{takes}
use Rattle.clap.proofs.OnLiterals.{clap_on_literals}
use Rattle.words.specs.Asked.{AreTaken}
use Rattle.words.specs.Earlier.{with_files, other_words}
use Rattle.words.specs.Reader.{program_app}
use Rattle.words.specs.declared.asked.Job.TheVariants.{Show}

shown : AreTaken (codes "witcall" ∷ codes "show" ∷ codes "a.wit" ∷ [])
unfolding clap_on_literals
shown = (refl, inl (Show, refl, refl))

called : AreTaken (codes "witcall" ∷ codes "call" ∷ codes "a" ∷ codes "b" ∷ codes "c" ∷ codes "[]" ∷ codes "[8]" ∷ [])
unfolding clap_on_literals
called = (refl, inr (refl, refl, refl, refl, refl, refl))

helped : takes program_app (codes "witcall" ∷ codes "--help" ∷ []) ≡ false
unfolding clap_on_literals
helped = refl

too_many : takes program_app (codes "witcall" ∷ codes "show" ∷ codes "a.wit" ∷ codes "b.wit" ∷ []) ≡ false
unfolding clap_on_literals
too_many = refl

both_ways : with_files (codes "--with" ∷ codes "a" ∷ codes "--with=b" ∷ codes "c" ∷ []) ≡ codes "a" ∷ codes "b" ∷ []
both_ways = refl

left : other_words (codes "witcall" ∷ codes "show" ∷ codes "--with=b" ∷ codes "c" ∷ []) ≡ codes "witcall" ∷ codes "show" ∷ codes "c" ∷ []
left = refl

-- a word that `clap` takes for an option is no file of a `--with` before it, which `clap` then refuses
no_file : other_words (codes "witcall" ∷ codes "show" ∷ codes "--with" ∷ codes "-x" ∷ codes "c" ∷ []) ≡ codes "witcall" ∷ codes "show" ∷ codes "--with" ∷ codes "-x" ∷ codes "c" ∷ []
no_file = refl

not_taken : takes program_app (codes "witcall" ∷ codes "show" ∷ codes "--with" ∷ codes "-x" ∷ codes "c" ∷ []) ≡ false
unfolding clap_on_literals
not_taken = refl

lone_mark : with_files (codes "--with" ∷ codes "-" ∷ codes "--with=-x" ∷ codes "c" ∷ []) ≡ codes "-" ∷ codes "-x" ∷ []
lone_mark = refl
