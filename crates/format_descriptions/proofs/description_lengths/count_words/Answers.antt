use Rattle.std.proofs.Common.{arith}
use Rattle.format_descriptions.proofs.LengthLemmas.{words-counted}
use Rattle.format_descriptions.proofs.description_lengths.count_words.Goals as goal

pub returns-clause-count : goal.returns-clause-count
returns-clause-count c = λ text is.
    words-counted c.args.room c.args.left c.in_ok-used-5.used text c.args.words.0.now c.args.words.1.now c.args.words.2.now c.args.words.3.now
    c.args.words.4.now c.count_piece-6.result
    (omega (
      arith,
      is,
      c.in_ok-used.ensures.fits,
      c.in_ok-used-2.ensures.fits,
      c.in_ok-used-3.ensures.fits,
      c.in_ok-used-4.ensures.fits,
      c.in_ok-used-5.ensures.fits,
    )) c.count_piece-6.ensures.within c.count_piece-6.ensures.fits c.count_piece-6.ensures.fails
