use Rattle.dt_run.proofs.laws.one_reporting.Goals as goal

pub returns : goal.returns
returns c = record {
  text = c.one_report.ensures.text;
  line = c.one_report.ensures.line;
  printed = c.one_report.ensures.printed;
  counted = c.one_report.ensures.counted;
  fault = c.one_report.ensures.fault;
  lines = c.one_listing.ensures.lines;
  listed = c.one_listing.ensures.only;
  told = c.one_answering.ensures.answer;
  answered = c.one_answering.ensures.only;
  unanswered = c.one_answering.ensures.refusal;
}
