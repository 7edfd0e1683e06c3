use Rattle.gp_workers.proofs.door.made.Goals as goal

-- src/door.rt:32:1
pub returns-in-Ok-publisher-clause-gives : goal.returns-in-Ok-publisher-clause-gives
returns-in-Ok-publisher-clause-gives g c = c.in-Ok-publisher.ensures.gives c.args.claim
