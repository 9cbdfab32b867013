use Rattle.format_tests.proofs.block_tests.reopened.Goals as goal

pub reopen-block-requires : goal.reopen-block-requires
reopen-block-requires c = (c.in_ok-sound.sound.entries, c.in_ok-sound.ensures.found)
