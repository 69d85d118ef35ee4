use Rattle.test_runner.proofs.streams.run_trickled.Given as goal

abbrev pub ghosts-run_named : goal.ghosts-run_named
ghosts-run_named g a = record { plan = a.story.now.plan; script = a.story.now.script }
