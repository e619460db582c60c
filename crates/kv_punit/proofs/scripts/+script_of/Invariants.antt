use Rattle.kv_punit.proofs.scripts.+script_of.Given as goal

abbrev pub decreases-script_of : goal.decreases-script_of
decreases-script_of l = l.most
