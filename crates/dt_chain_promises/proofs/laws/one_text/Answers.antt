use Rattle.dt_chain_promises.proofs.PrintedAgain.{text_once, not_refused, refused_once}
use Rattle.dt_chain_promises.proofs.laws.one_text.Goals as goal

pub returns-clause-text : goal.returns-clause-text
returns-clause-text c = text_once c.one_reading.ensures

pub returns-clause-only : goal.returns-clause-only
returns-clause-only c = not_refused c.blob_has_no_fault.ensures

pub returns-clause-refusal : goal.returns-clause-refusal
returns-clause-refusal c = refused_once c.first_fault_is_one.ensures
