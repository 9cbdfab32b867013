use Rattle.texts.proofs.SpellingLemmas.{keys_printable, keys_read, values_printable, values_read}
use Rattle.texts.proofs.spelling.texts_law.Goals as goal

pub returns-clause-keys : goal.returns-clause-keys
returns-clause-keys c = keys_read

pub returns-clause-values : goal.returns-clause-values
returns-clause-values c = values_read

pub returns-clause-key_characters : goal.returns-clause-key_characters
returns-clause-key_characters c = keys_printable

pub returns-clause-value_characters : goal.returns-clause-value_characters
returns-clause-value_characters c = values_printable
