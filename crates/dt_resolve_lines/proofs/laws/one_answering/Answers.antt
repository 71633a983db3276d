use Rattle.dt_resolve_lines.proofs.OneAnswer.{one_answer, never_both, one_refusal}
use Rattle.dt_resolve_lines.proofs.laws.one_answering.Goals as goal

pub returns-clause-answer : goal.returns-clause-answer
returns-clause-answer c = one_answer c.one_answer.ensures.read c.one_path.ensures

pub returns-clause-only : goal.returns-clause-only
returns-clause-only c = never_both c.one_answer.ensures.read c.one_path.ensures c.one_answer.ensures.only c.one_answer.ensures.fault

pub returns-clause-refusal : goal.returns-clause-refusal
returns-clause-refusal c = one_refusal c.one_answer.ensures.read c.one_path.ensures c.one_answer.ensures.only c.one_answer.ensures.fault
