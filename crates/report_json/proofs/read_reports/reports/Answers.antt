use Rattle.report_json.proofs.Unique.{reads, bad_json, outer_shape, too_many, report_shape}
use Rattle.report_json.proofs.read_reports.reports.Goals as goal

pub returns-clause-reads : goal.returns-clause-reads
returns-clause-reads c = reads c.args.text.now c.read_text.result c.read_text.ensures.ok c.read_text.ensures.refused

pub returns-clause-bad_json : goal.returns-clause-bad_json
returns-clause-bad_json c = bad_json c.args.text.now c.read_text.result c.read_text.ensures.ok c.read_text.ensures.refused

pub returns-clause-outer_shape : goal.returns-clause-outer_shape
returns-clause-outer_shape c = outer_shape c.args.text.now c.read_text.result c.read_text.ensures.ok c.read_text.ensures.refused

pub returns-clause-too_many : goal.returns-clause-too_many
returns-clause-too_many c = too_many c.args.text.now c.read_text.result c.read_text.ensures.ok c.read_text.ensures.refused

pub returns-clause-report_shape : goal.returns-clause-report_shape
returns-clause-report_shape c = report_shape c.args.text.now c.read_text.result c.read_text.ensures.ok c.read_text.ensures.refused
