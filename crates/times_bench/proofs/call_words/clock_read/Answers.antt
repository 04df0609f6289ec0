use Rattle.std.proofs.Common.{ap, sym, ◌∙◌}
use Rattle.times_bench.specs.CallWords.{entry_of, clock_reads}
use Rattle.times_bench.proofs.CallWordLemmas.{name_is, entry_of-none}
use Rattle.times_bench.proofs.call_words.clock_read.Goals as goal

pub returns-then-is : goal.returns-then-is
unfolding clock_reads
returns-then-is c = sym (ap (entry_of clock_reads) (name_is c.args.name.now _ _ c.is.ensures c.if-is.true))

pub returns-then-is-2 : goal.returns-then-is-2
unfolding clock_reads
returns-then-is-2 c = sym (ap (entry_of clock_reads) (name_is c.args.name.now _ _ c.is-2.ensures c.if-is-2.true))

pub returns-then-is-3 : goal.returns-then-is-3
unfolding clock_reads
returns-then-is-3 c = sym (ap (entry_of clock_reads) (name_is c.args.name.now _ _ c.is-3.ensures c.if-is-3.true))

pub returns-then-is-4 : goal.returns-then-is-4
unfolding clock_reads
returns-then-is-4 c = sym (ap (entry_of clock_reads) (name_is c.args.name.now _ _ c.is-4.ensures c.if-is-4.true))

pub returns-then-is-5 : goal.returns-then-is-5
unfolding clock_reads
returns-then-is-5 c = sym (ap (entry_of clock_reads) (name_is c.args.name.now _ _ c.is-5.ensures c.if-is-5.true))

pub returns-then-is-6 : goal.returns-then-is-6
unfolding clock_reads
returns-then-is-6 c = sym (ap (entry_of clock_reads) (name_is c.args.name.now _ _ c.is-6.ensures c.if-is-6.true))

pub returns-then-is-7 : goal.returns-then-is-7
unfolding clock_reads
returns-then-is-7 c = sym (ap (entry_of clock_reads) (name_is c.args.name.now _ _ c.is-7.ensures c.if-is-7.true))

pub returns-then-is-8 : goal.returns-then-is-8
unfolding clock_reads
returns-then-is-8 c = sym (ap (entry_of clock_reads) (name_is c.args.name.now _ _ c.is-8.ensures c.if-is-8.true))

pub returns-then-is-9 : goal.returns-then-is-9
unfolding clock_reads
returns-then-is-9 c = sym (ap (entry_of clock_reads) (name_is c.args.name.now _ _ c.is-9.ensures c.if-is-9.true))

pub returns-then-is-10 : goal.returns-then-is-10
unfolding clock_reads
returns-then-is-10 c = sym (ap (entry_of clock_reads) (name_is c.args.name.now _ _ c.is-10.ensures c.if-is-10.true))

pub returns-then-is-11 : goal.returns-then-is-11
unfolding clock_reads
returns-then-is-11 c = sym (ap (entry_of clock_reads) (name_is c.args.name.now _ _ c.is-11.ensures c.if-is-11.true))

pub returns : goal.returns
unfolding clock_reads
returns c =
    sym (entry_of-none c.args.name.now clock_reads (
      sym c.is.ensures ∙ c.if-is.false,
      (
        sym c.is-2.ensures ∙ c.if-is-2.false,
        (
          sym c.is-3.ensures ∙ c.if-is-3.false,
          (
            sym c.is-4.ensures ∙ c.if-is-4.false,
            (
              sym c.is-5.ensures ∙ c.if-is-5.false,
              (
                sym c.is-6.ensures ∙ c.if-is-6.false,
                (
                  sym c.is-7.ensures ∙ c.if-is-7.false,
                  (
                    sym c.is-8.ensures ∙ c.if-is-8.false,
                    (
                      sym c.is-9.ensures ∙ c.if-is-9.false,
                      (
                        sym c.is-10.ensures ∙ c.if-is-10.false,
                        (
                          sym c.is-11.ensures ∙ c.if-is-11.false,
                          tt,
                        ),
                      ),
                    ),
                  ),
                ),
              ),
            ),
          ),
        ),
      ),
    ))
