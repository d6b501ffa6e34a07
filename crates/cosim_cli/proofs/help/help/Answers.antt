use Rattle.cosim_cli.proofs.help.help.Goals as goal

pub returns-clause-puts : goal.returns-clause-puts
returns-clause-puts g c = rw c.as_bytes.ensures.value at c.put_text.ensures.puts

pub returns-clause-is_sound : goal.returns-clause-is_sound
returns-clause-is_sound g c = λ sound. rw c.as_bytes.ensures.value at (c.put_text.ensures.is_sound sound)
