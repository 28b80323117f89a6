use Rattle.std.proofs.Common.{◌≡◌, ◌≤◌, ℕ, inl, inr, refl, arith}
use Rattle.std.proofs.lemmas.Result.{err_from_is_err_and}
use Rattle.memory.specs.Growth.{ArePages}
use Rattle.memory.specs.Refusals.{RefusesGrowing}
use Rattle.memory.specs.declared.error.MemoryError.{MemoryError}
use Rattle.memory.specs.declared.error.MemoryError.TheVariants.{MemoryLimit, NoMemory, BadPages}
use Rattle.witcall.proofs.calling.fresh_memory.Goals as goal

-- whole pages within the limit are refused for want of memory alone
only_memory : (len max : ℕ) (e : MemoryError) → ArePages len max → max ≤ 16777216 → RefusesGrowing len max e → e ≡ NoMemory
only_memory len max e pages few (inl (is, bad)) = absurd (bad pages)
only_memory len max MemoryLimit pages few (inr (is, over)) = absurd (omega arith)
only_memory len max NoMemory pages few (inr (is, short)) = refl
only_memory len max BadPages pages few (inr (is, never)) = absurd never

pub returns-in_err-memory-clause-err : goal.returns-in_err-memory-clause-err
returns-in_err-memory-clause-err c =
    let p = err_from_is_err_and c.from_residual.result c.from_residual.ensures.1 in
    rw (p.1, p.2) (only_memory c.args.len c.args.max c.in_err-memory.field-0.0 c.requires.pages c.requires.few c.in_err-memory.ensures.err)
