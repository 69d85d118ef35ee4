use Rattle.input_faults.proofs.Columns.{no_blank, words_at}
use Rattle.input_faults.proofs.law.columns_are_of_words.Goals as goal

pub returns : goal.returns
returns c = record { words = words_at; begins = no_blank }
