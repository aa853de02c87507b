use Rattle.thiele_search.proofs.search.ThieleSearchNarrowing.narrowed.Goals as goal

pub promising-requires-clause-gains : goal.promising-requires-clause-gains
promising-requires-clause-gains g c n is = c.requires.plan.is_plan.gains n (c.requires.plan.among n is)
