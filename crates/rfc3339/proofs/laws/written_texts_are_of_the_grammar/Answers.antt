use Rattle.rfc3339.proofs.GrammarLemmas.{rfc3339_text-derived, digits_text-derived, fixed_text-derived, fixed_text_at-derived, full_date_text-derived}
use Rattle.rfc3339.proofs.laws.written_texts_are_of_the_grammar.Goals as goal

pub returns : goal.returns
returns c = record {
  shortest = rfc3339_text-derived;
  digits = digits_text-derived;
  fixed = fixed_text-derived;
  fixed_at = fixed_text_at-derived;
  full_date = full_date_text-derived;
}
