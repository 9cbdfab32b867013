use Rattle.answers.proofs.version_answer.Counters.of.Goals as goal

pub returns : goal.returns
returns c =
    rw (c.unwrap_or.ensures, c.last_sequence.ensures, c.unwrap_or-2.ensures, c.log_number.ensures, c.unwrap_or-3.ensures, c.next_file.ensures, c.unwrap_or-4.ensures, c.previous_log.ensures)
