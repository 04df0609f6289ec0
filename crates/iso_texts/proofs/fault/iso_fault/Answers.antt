use Rattle.iso_texts.proofs.fault.iso_fault.Goals as goal

pub returns-clause-longest : goal.returns-clause-longest
returns-clause-longest c = λ n. λ rest. λ p. λ low. λ h. c.iso_standing.ensures.longest.longest n rest low (p, h)
