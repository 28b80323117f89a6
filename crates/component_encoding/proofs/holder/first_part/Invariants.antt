use Rattle.component_encoding.proofs.holder.first_part.Given as goal

abbrev pub decreases-loop-first : goal.decreases-loop-first
decreases-loop-first l = l.first
