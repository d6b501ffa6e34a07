use Rattle.cos_api.proofs.answers.+enabled_bytes.Given as goal

abbrev pub decreases-enabled_bytes : goal.decreases-enabled_bytes
decreases-enabled_bytes l = l.size
