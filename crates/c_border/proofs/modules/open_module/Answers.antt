use Rattle.std.proofs.Common.{inl, Result, Ok, Err, IfOk, IfErr, MatchResult}
use Rattle.opening.specs.Sets.{all_bytes}
use Rattle.c_border.proofs.modules.open_module.Goals as goal

-- what holds of an answer and of an error holds of each
whole : {X E : Type 0} (r : Result X E) (P : X → Type 0) (Q : E → Type 0) → IfOk r P → IfErr r Q → MatchResult r P Q
whole (Ok x) P Q p q = p
whole (Err e) P Q p q = q

pub returns : goal.returns
returns c = inl (all_bytes c.as_slice.result.now, whole c.open_indexed.result _ _ c.open_indexed.ensures.ok c.open_indexed.ensures.err)
