use Rattle.local_texts.proofs.FaultFormLemmas.{time_begins, time_longest}
use Rattle.local_texts.proofs.faults.time_fault.Goals as goal

pub returns-clause-begins : goal.returns-clause-begins
returns-clause-begins c = time_begins c.args.text.now c.valid_bytes.result c.valid_bytes.ensures.count

pub returns-clause-longest : goal.returns-clause-longest
returns-clause-longest c = λ n. λ rest. λ p. λ low. λ h. time_longest c.args.text.now c.valid_bytes.result n rest p c.valid_bytes.ensures.count low h
