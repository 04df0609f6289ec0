use Rattle.std.proofs.lemmas.Str.{IsAscii-take}
use Rattle.stamps.proofs.watches.clock_text.Goals as goal

pub push_bytes-requires-clause-ascii : goal.push_bytes-requires-clause-ascii
push_bytes-requires-clause-ascii c =
    IsAscii-take c.as_bytes-then-as_bytes-gt-CLOCK_LENGTH.result.now 19 c.as_bytes-then-as_bytes-gt-CLOCK_LENGTH.ensures.ascii
