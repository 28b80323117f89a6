use Rattle.opening.proofs.OpensAlone.{opens-alone}
use Rattle.opening.proofs.laws.opens_alone.Goals as goal

pub returns : goal.returns
returns c = λ bytes r. opens-alone bytes r (c.texts_have_full_names.ensures bytes)
