use Rattle.std.proofs.Common.{ℕ, rules, find, ap, ◌∙◌}
use Rattle.std.proofs.iter.runs.Made.{chains}
use Rattle.terms.specs.Entries.{entries}
use Rattle.objects.specs.Charts.{applies}
use Rattle.objects.specs.Finding.{first_given}
use Rattle.objects.proofs.Firsts.{found_given}
use Rattle.objects.proofs.chart_object.ChartObject.row.Goals as goal

pub returns : goal.returns
returns c =
    let h = λ (s : ℕ). find (applies s c.args.signal c.args.word) (entries c.args.self.now.chart.rows) in
    found_given h 0 c.as_slice.result.now c.find_map.result (search (rules, chains)) ∙ ap (first_given h) (c.as_slice.ensures ∙ c.chain.ensures)
