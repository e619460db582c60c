use Rattle.kv_parts.proofs.programs.+form.Given as goal

abbrev pub decreases-form : goal.decreases-form
decreases-form l = l.fuel

abbrev pub decreases-una : goal.decreases-una
decreases-una l = l.fuel

abbrev pub decreases-prog : goal.decreases-prog
decreases-prog l = l.fuel

abbrev pub decreases-statement : goal.decreases-statement
decreases-statement l = l.fuel

abbrev pub decreases-block : goal.decreases-block
decreases-block l = l.fuel
