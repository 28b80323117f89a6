use Rattle.std.proofs.Common.{sym, ◌∙◌}
use Rattle.std.proofs.lemmas.List.{take_rest}
use Rattle.atoms.proofs.HashingByEights.{written_word}
use Rattle.atoms.proofs.hasher.NameHasherHasher.write.Goals as goal

pub loop-rest-preserved : goal.loop-rest-preserved
loop-rest-preserved c =
    let rest = c.loop-rest.rest.now in
    rw (take_rest rest 8, c.mix.ensures, c.from_le_bytes.ensures) (sym (written_word c.loop-rest.self rest c.in-len8-up.len_at_least) ∙ c.loop-rest.invariant)
